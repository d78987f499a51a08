use Rattle.heyvl_acts.proofs.copies.copy_terms.Given as goal
use Rattle.heyvl_acts.specs.PlainActs.{terms_of}
use Rattle.std.proofs.Common.{take, ◌≡◌}

-- The copied terms are equal to the visited ones.
abbrev pub invariant-loop-one : goal.invariant-loop-one
invariant-loop-one l = terms_of l.copied.items ≡ terms_of (take l.one-index l.all)
