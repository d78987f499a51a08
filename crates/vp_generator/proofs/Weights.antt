-- Measures that decrease in the recursion of the functions that generate a form.
use Rattle.std.proofs.Common.{◌≡◌, ℕ, ◌+◌, arith, List, [], ◌∷◌, ◌++◌}
use Rattle.std.specs.Prelude.{Vec}
use Rattle.std.specs.declared.alloc.Global.{Global}
use Rattle.heylo_formula.specs.declared.forms.Cond as C
use Rattle.heyvl_acts.specs.declared.acts.Act as A
use Rattle.heyvl_acts.specs.Acts.{Act, Acts, Arms}
use Rattle.heyvl_acts.specs.PlainActs.{act_of, acts_of, arms_of}

abbrev mutual
  pub weight : Act → ℕ
  weight (Act.set x t span) = 1
  weight (Act.draw x ps span) = 1
  weight (Act.toss x f span) = 1
  weight (Act.any x up ty span) = 1
  weight (Act.reward f span) = 1
  weight (Act.ifs arms e span) = 8 + (weight_of_arms arms + weight_of e)
  weight (Act.pick up a b span) = 8 + (weight_of a + weight_of b)
  weight (Act.check kind f span) = 1
  weight (Act.validate co span) = 1
  weight (Act.loop h b) = 1
  weight (Act.call xs p es span) = 1

  pub weight_of : Acts → ℕ
  weight_of Acts.done = 0
  weight_of (Acts.next a rest) = weight a + weight_of rest

  pub weight_of_arms : Arms → ℕ
  weight_of_arms Arms.no_arm = 0
  weight_of_arms (Arms.arm g b more) = 8 + (weight_of b + weight_of_arms more)

pub last_weighs : (r : List A.Act) (a : A.Act) → weight_of (acts_of (r ++ a ∷ [])) ≡ weight_of (acts_of r) + weight (act_of a)
last_weighs [] a = omega arith
last_weighs (b ∷ r) a = let k = last_weighs r a in omega (arith, k)

pub last_arm_weighs : (r : List (C.Cond × Vec A.Act Global)) (x : C.Cond × Vec A.Act Global) → weight_of_arms (arms_of (r ++ x ∷ [])) ≡ weight_of_arms (arms_of r) + (8 + weight_of (acts_of x.1.items))
last_arm_weighs [] x = omega arith
last_arm_weighs (y ∷ r) x = let k = last_arm_weighs r x in omega (arith, k)
