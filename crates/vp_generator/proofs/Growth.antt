-- Acts generate no smaller form than the one that follows them.
use Rattle.std.proofs.Common.{◌≡◌, ℕ, ◌≤◌, ◌+◌, arith, max, Bool, true, false, List, [], ◌∷◌}
use Rattle.heyvl_num.specs.Rational.{Rational}
use Rattle.heyvl_places.specs.declared.checks.CheckKind.{CheckKind}
use Rattle.heylo_formula.specs.Formula.{Form, Cond, Term}
use Rattle.heylo_formula.specs.Sizes.{nodes, nodes_in, depth, depth_in}
use Rattle.heylo_formula.proofs.exported.Growth.{grow_subst, deepen_subst}
use Rattle.heyvl_acts.specs.Acts.{Act, Acts, Arms}
use Rattle.vp_generator.specs.GeneratedForms.{pick_form, check_form, validate_form, part_form, sum_of_parts, vp, vp_act, vp_arms}
use Rattle.heylo_formula.specs.Typing.{Types}
use Rattle.heyvl_acts.specs.WellTypedActs.{ActFits, ActsFit}

grow_parts : (x : ℕ) (ps : List (Rational × Term)) (k total : Form) → nodes k ≤ nodes total → nodes k ≤ nodes (sum_of_parts x ps k total)
grow_parts x [] k total h = h
grow_parts x (p ∷ ps) k total h = grow_parts x ps k (Form.sum total (part_form x p k)) (omega arith)

grow_pick : (up : Bool) (k a b : Form) → nodes k ≤ nodes a → nodes k ≤ nodes (pick_form up a b)
grow_pick true k a b h = omega arith
grow_pick false k a b h = omega arith

grow_check : (kind : CheckKind) (f k : Form) → nodes k ≤ nodes (check_form kind f k)
grow_check CheckKind.Assert f k = omega arith
grow_check CheckKind.Assume f k = omega arith
grow_check CheckKind.CoAssert f k = omega arith
grow_check CheckKind.CoAssume f k = omega arith

grow_validate : (co : Bool) (k : Form) → nodes k ≤ nodes (validate_form co k)
grow_validate true k = omega arith
grow_validate false k = omega arith

mutual
  pub grow_act : (types : Types) (a : Act) (k : Form) → ActFits types a → nodes k ≤ nodes (vp_act a k)
  grow_act types (Act.set x t span) k h = grow_subst x t k
  grow_act types (Act.draw x [] span) k h = absurd h
  grow_act types (Act.draw x (p ∷ ps) span) k h = grow_parts x ps k (part_form x p k) (let g = grow_subst x p.1 k in omega arith)
  grow_act types (Act.toss x f span) k h = let g = grow_subst x (Term.truth (Cond.constant true)) k in omega (arith, g)
  grow_act types (Act.any x up ty span) k h = omega arith
  grow_act types (Act.reward f span) k h = omega arith
  grow_act types (Act.ifs arms e span) k h = grow_arms arms k (vp e k) (grow_acts types e k h.1)
  grow_act types (Act.pick up a b span) k h = grow_pick up k (vp a k) (vp b k) (grow_acts types a k h.0)
  grow_act types (Act.check kind f span) k h = grow_check kind f k
  grow_act types (Act.validate co span) k h = grow_validate co k
  grow_act types (Act.loop l b) k h = absurd h
  grow_act types (Act.call xs p es span) k h = absurd h

  pub grow_acts : (types : Types) (acts : Acts) (k : Form) → ActsFit types acts → nodes k ≤ nodes (vp acts k)
  grow_acts types Acts.done k h = omega arith
  grow_acts types (Acts.next a rest) k h = let p = grow_acts types rest k h.1 in let q = grow_act types a (vp rest k) h.0 in omega arith

  pub grow_arms : (arms : Arms) (k otherwise : Form) → nodes k ≤ nodes otherwise → nodes k ≤ nodes (vp_arms arms k otherwise)
  grow_arms Arms.no_arm k otherwise h = h
  grow_arms (Arms.arm g b more) k otherwise h = let p = grow_arms more k otherwise h in omega arith

pub grow_over : (arms : Arms) (k otherwise : Form) → nodes otherwise ≤ nodes (vp_arms arms k otherwise)
grow_over Arms.no_arm k otherwise = omega arith
grow_over (Arms.arm g b more) k otherwise = let p = grow_over more k otherwise in omega arith

pub grow_sum : (x : ℕ) (ps : List (Rational × Term)) (k total : Form) → nodes total ≤ nodes (sum_of_parts x ps k total)
grow_sum x [] k total = omega arith
grow_sum x (p ∷ ps) k total = let h = grow_sum x ps k (Form.sum total (part_form x p k)) in omega arith

deepen_parts : (x : ℕ) (ps : List (Rational × Term)) (k total : Form) → depth k ≤ depth total → depth k ≤ depth (sum_of_parts x ps k total)
deepen_parts x [] k total h = h
deepen_parts x (p ∷ ps) k total h = deepen_parts x ps k (Form.sum total (part_form x p k)) (omega arith)

deepen_pick : (up : Bool) (k a b : Form) → depth k ≤ depth a → depth k ≤ depth (pick_form up a b)
deepen_pick true k a b h = omega arith
deepen_pick false k a b h = omega arith

deepen_check : (kind : CheckKind) (f k : Form) → depth k ≤ depth (check_form kind f k)
deepen_check CheckKind.Assert f k = omega arith
deepen_check CheckKind.Assume f k = omega arith
deepen_check CheckKind.CoAssert f k = omega arith
deepen_check CheckKind.CoAssume f k = omega arith

deepen_validate : (co : Bool) (k : Form) → depth k ≤ depth (validate_form co k)
deepen_validate true k = omega arith
deepen_validate false k = omega arith

mutual
  pub deepen_act : (types : Types) (a : Act) (k : Form) → ActFits types a → depth k ≤ depth (vp_act a k)
  deepen_act types (Act.set x t span) k h = deepen_subst x t k
  deepen_act types (Act.draw x [] span) k h = absurd h
  deepen_act types (Act.draw x (p ∷ ps) span) k h = deepen_parts x ps k (part_form x p k) (let g = deepen_subst x p.1 k in omega arith)
  deepen_act types (Act.toss x f span) k h = let g = deepen_subst x (Term.truth (Cond.constant true)) k in omega (arith, g)
  deepen_act types (Act.any x up ty span) k h = omega arith
  deepen_act types (Act.reward f span) k h = omega arith
  deepen_act types (Act.ifs arms e span) k h = deepen_arms arms k (vp e k) (deepen_acts types e k h.1)
  deepen_act types (Act.pick up a b span) k h = deepen_pick up k (vp a k) (vp b k) (deepen_acts types a k h.0)
  deepen_act types (Act.check kind f span) k h = deepen_check kind f k
  deepen_act types (Act.validate co span) k h = deepen_validate co k
  deepen_act types (Act.loop l b) k h = absurd h
  deepen_act types (Act.call xs p es span) k h = absurd h

  pub deepen_acts : (types : Types) (acts : Acts) (k : Form) → ActsFit types acts → depth k ≤ depth (vp acts k)
  deepen_acts types Acts.done k h = omega arith
  deepen_acts types (Acts.next a rest) k h = let p = deepen_acts types rest k h.1 in let q = deepen_act types a (vp rest k) h.0 in omega arith

  pub deepen_arms : (arms : Arms) (k otherwise : Form) → depth k ≤ depth otherwise → depth k ≤ depth (vp_arms arms k otherwise)
  deepen_arms Arms.no_arm k otherwise h = h
  deepen_arms (Arms.arm g b more) k otherwise h = let p = deepen_arms more k otherwise h in omega arith

pub deepen_over : (arms : Arms) (k otherwise : Form) → depth otherwise ≤ depth (vp_arms arms k otherwise)
deepen_over Arms.no_arm k otherwise = omega arith
deepen_over (Arms.arm g b more) k otherwise = let p = deepen_over more k otherwise in omega arith

pub deepen_sum : (x : ℕ) (ps : List (Rational × Term)) (k total : Form) → depth total ≤ depth (sum_of_parts x ps k total)
deepen_sum x [] k total = omega arith
deepen_sum x (p ∷ ps) k total = let h = deepen_sum x ps k (Form.sum total (part_form x p k)) in omega arith
