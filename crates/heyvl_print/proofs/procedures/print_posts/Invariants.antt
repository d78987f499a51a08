use Rattle.heyvl_print.proofs.procedures.print_posts.Given as goal
use Rattle.heyvl_print.specs.Canonical.{post_line}
use Rattle.heyvl_print.specs.Pieces.{each, text_of}
use Rattle.heyvl_syntax.specs.Expressions.{expressions}
use Rattle.std.proofs.Common.{take, ◌++◌, ◌≡◌}

abbrev pub invariant-loop-post : goal.invariant-loop-post
invariant-loop-post l = l.text.items ≡ l.fn.text.items ++ text_of (each post_line (expressions (take l.post-index l.posts)))
