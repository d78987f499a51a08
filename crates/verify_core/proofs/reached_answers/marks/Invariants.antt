use Rattle.std.proofs.Common.{◌≡◌, map, take}
use Rattle.verify_core.specs.internal.Marks.{is_unverified}
use Rattle.verify_core.proofs.reached_answers.marks.Given as goal

abbrev pub invariant-loop-one : goal.invariant-loop-one
invariant-loop-one l = l.marks.items ≡ map is_unverified (take l.one-index l.own)
