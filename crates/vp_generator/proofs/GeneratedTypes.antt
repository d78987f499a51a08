-- The generated form is a formula.
use Rattle.std.proofs.Common.{◌≡◌, ℕ, refl, sym, ap, ◌∙◌, subst, arith, Bool, true, false, cond, ◌==◌, ◌&&◌, List, [], ◌∷◌}
use Rattle.std.specs.Prelude.{Option, Some, None}
use mathlib.Core.Path.{fun_ext}
use Rattle.heyvl_num.specs.Rational.{Rational, ratio, zeroʳ, oneʳ, leqʳ, ◌≤ʳ◌}
use Rattle.heyvl_places.specs.declared.checks.CheckKind.{CheckKind}
use Rattle.heylo_formula.specs.Formula.{Form, Cond, Term}
use Rattle.heyvl_num.specs.Value.{oneᵛ}
use Rattle.heylo_formula.specs.Typing.{NumberType, Types, type_of, is_unsigned, is_finite_type, joined, cut_type, only_if, scale_type, is_well_typed, retyped, IsFormula, TermFits}
use Rattle.heylo_formula.specs.declared.types.Ty.{Ty}
use Rattle.heylo_formula.proofs.exported.Substitutions.{subst_formula}
use Rattle.heyvl_acts.specs.Acts.{Act, Acts, Arms}
use Rattle.vp_generator.specs.GeneratedForms.{pick_form, check_form, validate_form, part_form, sum_of_parts, vp, vp_act, vp_arms}
use Rattle.heyvl_acts.specs.WellTypedActs.{PartsFit, ActFits, ActsFit, ArmsFit}
use Rattle.heylo_formula.proofs.exported.Plain.{joins}

pub only : (b : Bool) (t : Option NumberType) → b ≡ true → is_unsigned t ≡ true → is_unsigned (only_if b t) ≡ true
only true t h k = k
only false t h k = absurd (cc)

pub both : (a b : Bool) → a ≡ true → b ≡ true → (a && b) ≡ true
both a b h k = rw (h, k)

pub scaled : (t : Option NumberType) → is_unsigned t ≡ true → is_unsigned (scale_type t) ≡ true
scaled (Some NumberType.int) h = absurd (cc)
scaled (Some NumberType.uint) h = refl
scaled (Some NumberType.ureal) h = refl
scaled (Some NumberType.eureal) h = refl
scaled None h = absurd (cc)

one_type : (types : Types) → type_of types (Form.number oneᵛ) ≡ Some NumberType.uint
unfolding oneᵛ oneʳ zeroʳ leqʳ ratio
one_type types = refl

rest_type : (t : Option NumberType) → is_unsigned t ≡ true → is_finite_type t ≡ true → is_unsigned (cut_type (joined (Some NumberType.uint) (joined t (Some NumberType.uint)))) ≡ true
rest_type (Some NumberType.int) h k = absurd (cc)
rest_type (Some NumberType.uint) h k = refl
rest_type (Some NumberType.ureal) h k = refl
rest_type (Some NumberType.eureal) h k = absurd (cc)
rest_type None h k = absurd (cc)

retyped_same : (x : ℕ) (ty : Ty) (types : Types) → types x ≡ ty → retyped x ty types ≡ types
retyped_same x ty types e = fun_ext (λ y. go y (x == y) refl)
  where
    go : (y : ℕ) (b : Bool) → (x == y) ≡ b → cond b ty (types y) ≡ types y
    go y true q = let p : x ≡ y = grind arith in sym e ∙ ap types p
    go y false q = refl

pub part_type : (types : Types) (x : ℕ) (p : Rational × Term) (k : Form) → zeroʳ ≤ʳ p.0 → TermFits types (types x) p.1 → IsFormula types k → IsFormula types (part_form x p k)
part_type types x p k w h f = only (leqʳ zeroʳ p.0) _ w.holds (scaled _ (subst_formula types x p.1 k h f))

parts_type : (types : Types) (x : ℕ) (ps : List (Rational × Term)) (k total : Form) → PartsFit types x ps → IsFormula types k → IsFormula types total → IsFormula types (sum_of_parts x ps k total)
parts_type types x [] k total h f g = g
parts_type types x (p ∷ ps) k total h f g = parts_type types x ps k (Form.sum total (part_form x p k)) h.1 f (joins _ _ g (part_type types x p k h.0.0 h.0.1 f))

pick_type : (types : Types) (up : Bool) (a b : Form) → IsFormula types a → IsFormula types b → IsFormula types (pick_form up a b)
pick_type types true a b h k = joins _ _ h k
pick_type types false a b h k = joins _ _ h k

check_type : (types : Types) (kind : CheckKind) (a b : Form) → IsFormula types a → IsFormula types b → IsFormula types (check_form kind a b)
check_type types CheckKind.Assert a b h k = joins _ _ h k
check_type types CheckKind.Assume a b h k = only _ _ (both _ _ h k) refl
check_type types CheckKind.CoAssert a b h k = joins _ _ h k
check_type types CheckKind.CoAssume a b h k = only _ _ (both _ _ h k) refl

validate_type : (types : Types) (co : Bool) (a : Form) → IsFormula types a → IsFormula types (validate_form co a)
validate_type types true a h = only _ _ h refl
validate_type types false a h = only _ _ h refl

mutual
  pub act_type : (types : Types) (a : Act) (k : Form) → ActFits types a → IsFormula types k → IsFormula types (vp_act a k)
  act_type types (Act.set x t span) k h f = subst_formula types x t k h f
  act_type types (Act.draw x [] span) k h f = absurd h
  act_type types (Act.draw x (p ∷ ps) span) k h f = parts_type types x ps k (part_form x p k) h.1 f (part_type types x p k h.0.0 h.0.1 f)
  act_type types (Act.toss x g span) k h f = joins _ _ (joins _ _ (joins _ _ h.1.0.0 (ap is_unsigned (one_type types))) (subst_formula types x (Term.truth (Cond.constant true)) k (h.0, refl) f)) (joins _ _ (subst (λ u. is_unsigned (cut_type (joined u (joined (type_of types g) u))) ≡ true) (sym (one_type types)) (rest_type (type_of types g) h.1.0.0 h.1.1)) (subst_formula types x (Term.truth (Cond.constant false)) k (h.0, refl) f))
  act_type types (Act.any x up ty span) k h f = only _ _ (subst (λ m. is_unsigned (type_of m k) ≡ true) (sym (retyped_same x ty types h)) f) refl
  act_type types (Act.reward r span) k h f = joins _ _ f h.0
  act_type types (Act.ifs arms e span) k h f = arms_type types arms k (vp e k) h.0 f (acts_type types e k h.1 f)
  act_type types (Act.pick up a b span) k h f = pick_type types up (vp a k) (vp b k) (acts_type types a k h.0 f) (acts_type types b k h.1 f)
  act_type types (Act.check kind r span) k h f = check_type types kind r k h.0 f
  act_type types (Act.validate co span) k h f = validate_type types co k f
  act_type types (Act.loop l b) k h f = absurd h
  act_type types (Act.call xs p es span) k h f = absurd h

  acts_type : (types : Types) (acts : Acts) (k : Form) → ActsFit types acts → IsFormula types k → IsFormula types (vp acts k)
  acts_type types Acts.done k h f = f
  acts_type types (Acts.next a rest) k h f = act_type types a (vp rest k) h.0 (acts_type types rest k h.1 f)

  arms_type : (types : Types) (arms : Arms) (k otherwise : Form) → ArmsFit types arms → IsFormula types k → IsFormula types otherwise → IsFormula types (vp_arms arms k otherwise)
  arms_type types Arms.no_arm k otherwise h f g = g
  arms_type types (Arms.arm g b more) k otherwise h f o = only (is_well_typed types g) _ h.0 (joins _ _ (acts_type types b k h.1.0 f) (arms_type types more k otherwise h.1.1 f o))

pub generated_type : (types : Types) (acts : Acts) (post : Form) → ActsFit types acts → IsFormula types post → IsFormula types (vp acts post)
generated_type types acts post h f = acts_type types acts post h f
