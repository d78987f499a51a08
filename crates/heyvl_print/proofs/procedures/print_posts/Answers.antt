use Rattle.heyvl_print.proofs.LineTexts.{post_text}
use Rattle.heyvl_print.proofs.Texts.{each_done, item_next}
use Rattle.heyvl_print.proofs.procedures.print_posts.Goals as goal
use Rattle.heyvl_print.specs.Canonical.{post_line}
use Rattle.heyvl_syntax.specs.Expressions.{expression}

pub loop-post-preserved : goal.loop-post-preserved
loop-post-preserved c =
    item_next expression post_line c.args.posts.now c.loop-post.post-index c.post-item.result _ _ _ c.loop-post-test.true c.post-item.is c.loop-post.invariant (post_text (expression c.post-item.result) _ _ c.in_ok-print_claim.ensures)

pub returns : goal.returns
returns c = each_done expression post_line c.args.posts.now c.loop-post.post-index _ _ c.loop-post-test.false c.loop-post.invariant
