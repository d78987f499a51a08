use Rattle.std.proofs.Common.{◌≡◌, map, take}
use Rattle.heylo_formula.specs.declared.values.Val.TheVariants.{Num}
use Rattle.linear_elim.proofs.choices.numbers.Given as goal

abbrev pub invariant-loop-x : goal.invariant-loop-x
invariant-loop-x l = l.out.items ≡ map (λ c. (c.0, Num c.1)) (take l.x-index l.chosen)
