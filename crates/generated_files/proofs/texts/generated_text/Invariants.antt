use Rattle.generated_files.proofs.texts.generated_text.Given as goal
use Rattle.generated_files.specs.Texts as texts
use Rattle.std.proofs.Common.{◌≡◌}

abbrev pub invariant-loop-i : goal.invariant-loop-i
invariant-loop-i l = l.text.items ≡ texts.generated_text l.i
