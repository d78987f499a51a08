-- For the proofs of other crates: a measure of walks over acts. An act weighs more than the lists
-- in it.
use Rattle.std.proofs.Common.{◌≡◌, ◌≤◌, ◌<◌, ◌+◌, ℕ, sym, subst, arith, List, [], ◌∷◌, length, get_or}
use Rattle.std.specs.Prelude.{Vec}
use Rattle.std.specs.declared.alloc.Global.{Global}
use Prim.Native.Nat.{zero, suc}
use Rattle.heylo_formula.specs.declared.forms.Cond as C
use Rattle.heyvl_acts.specs.declared.acts.Act as A
use Rattle.heyvl_acts.specs.Acts.{Act, Acts, Arms}
use Rattle.heyvl_acts.specs.PlainActs.{act_of, acts_of, arms_of}

abbrev mutual
  pub weight : Act → ℕ
  weight (Act.set x t span) = 1
  weight (Act.draw x qs span) = 1
  weight (Act.toss x f span) = 1
  weight (Act.any x up ty span) = 1
  weight (Act.reward f span) = 1
  weight (Act.ifs arms e span) = 2 + (weight_of_arms arms + weight_of e)
  weight (Act.pick up a b span) = 2 + (weight_of a + weight_of b)
  weight (Act.check kind f span) = 1
  weight (Act.validate co span) = 1
  weight (Act.loop h b) = 2 + weight_of b
  weight (Act.call xs q es span) = 1

  pub weight_of : Acts → ℕ
  weight_of Acts.done = 0
  weight_of (Acts.next a rest) = weight a + weight_of rest

  pub weight_of_arms : Arms → ℕ
  weight_of_arms Arms.no_arm = 0
  weight_of_arms (Arms.arm g b more) = weight_of b + weight_of_arms more

pub act_within : (acts : List A.Act) (i : ℕ) (a : A.Act) → i < length acts → a ≡ get_or acts i a → weight (act_of a) ≤ weight_of (acts_of acts)
act_within [] i a lt is = absurd (omega (arith, lt))
act_within (y ∷ rest) zero a lt is = subst (λ x. weight (act_of x) ≤ weight (act_of y) + weight_of (acts_of rest)) (sym is) (omega arith)
act_within (y ∷ rest) (suc i) a lt is = let h = act_within rest i a (omega (arith, lt)) is in omega (arith, h)

pub arm_within : (arms : List (C.Cond × Vec A.Act Global)) (i : ℕ) (a : C.Cond × Vec A.Act Global) → i < length arms → a ≡ get_or arms i a → weight_of (acts_of a.1.items) ≤ weight_of_arms (arms_of arms)
arm_within [] i a lt is = absurd (omega (arith, lt))
arm_within (y ∷ rest) zero a lt is = subst (λ (x : C.Cond × Vec A.Act Global). weight_of (acts_of x.1.items) ≤ weight_of (acts_of y.1.items) + weight_of_arms (arms_of rest)) (sym is) (omega arith)
arm_within (y ∷ rest) (suc i) a lt is = let h = arm_within rest i a (omega (arith, lt)) is in omega (arith, h)
