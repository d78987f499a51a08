-- The free variables of the generated form are among those of the acts and of the post.
use Rattle.std.proofs.Common.{◌≡◌, ℕ, ◌<◌, Bool, true, false, cond, ◌==◌, List, [], ◌∷◌}
use Rattle.heyvl_num.specs.Rational.{Rational}
use Rattle.heyvl_num.specs.Value.{Value, oneᵛ}
use Rattle.heyvl_places.specs.declared.spans.Span.{Span}
use Rattle.heyvl_places.specs.declared.checks.CheckKind.{CheckKind}
use Rattle.heylo_formula.specs.Formula.{Form, Cond, Term}
use Rattle.heylo_formula.specs.Substitution.{subst}
use Rattle.heylo_formula.specs.Variables.{is_free, IsOver}
use Rattle.heylo_formula.specs.declared.types.Ty.{Ty}
use Rattle.heylo_formula.proofs.exported.Substitutions.{subst_over}
use Rattle.heyvl_acts.specs.Acts.{Act, Acts, Arms}
use Rattle.vp_generator.specs.GeneratedForms.{pick_form, check_form, validate_form, part_form, sum_of_parts, toss_form, vp, vp_act, vp_arms}
use Rattle.vp_generator.specs.Over.{PartsAreOver, ActIsOver, ActsAreOver, ArmsAreOver}
use Rattle.vp_generator.proofs.PrenexedOver.{two}

over_sum : (n : ℕ) (a b : Form) → IsOver n a → IsOver n b → IsOver n (Form.sum a b)
over_sum n a b h k x i = two (is_free x a) (is_free x b) x n (h x) (k x) i

over_parts : (n x : ℕ) (ps : List (Rational × Term)) (k total : Form) → PartsAreOver n ps → IsOver n k → IsOver n total → IsOver n (sum_of_parts x ps k total)
over_parts n x [] k total h i j = j
over_parts n x (p ∷ ps) k total h i j = over_parts n x ps k (Form.sum total (part_form x p k)) h.1 i (over_sum n total (part_form x p k) j (subst_over n x p.1 k i h.0))

over_pick : (n : ℕ) (up : Bool) (a b : Form) → IsOver n a → IsOver n b → IsOver n (pick_form up a b)
over_pick n true a b h k = over_sum n a b h k
over_pick n false a b h k = over_sum n a b h k

over_check : (n : ℕ) (kind : CheckKind) (a b : Form) → IsOver n a → IsOver n b → IsOver n (check_form kind a b)
over_check n CheckKind.Assert a b h k = over_sum n a b h k
over_check n CheckKind.Assume a b h k = over_sum n a b h k
over_check n CheckKind.CoAssert a b h k = over_sum n a b h k
over_check n CheckKind.CoAssume a b h k = over_sum n a b h k

over_validate : (n : ℕ) (co : Bool) (a : Form) → IsOver n a → IsOver n (validate_form co a)
over_validate n true a h = h
over_validate n false a h = h

over_number : (n : ℕ) (v : Value) → IsOver n (Form.number v)
over_number n v = λ y j. absurd (cc)

over_toss : (n x : ℕ) (f : Form) (span : Span) (k : Form) → IsOver n f → IsOver n k → IsOver n (toss_form x f span k)
over_toss n x f span k h i =
    let one = Form.number oneᵛ in
    let w : IsOver n (Form.min f one) = over_sum n f one h (over_number n oneᵛ) in
    let side = λ (b : Bool). subst_over n x (Term.truth (Cond.constant b)) k i (λ y j. absurd (cc)) in
    over_sum n (Form.product (Form.min f one) (subst x (Term.truth (Cond.constant true)) k) span) (Form.product (Form.cut one (Form.min f one)) (subst x (Term.truth (Cond.constant false)) k) span)
    (over_sum n (Form.min f one) (subst x (Term.truth (Cond.constant true)) k) w (side true))
    (over_sum n (Form.cut one (Form.min f one)) (subst x (Term.truth (Cond.constant false)) k) (over_sum n one (Form.min f one) (over_number n oneᵛ) w) (side false))

free_under : (b free : Bool) → cond b false free ≡ true → free ≡ true
free_under true free h = absurd (cc)
free_under false free h = h

mutual
  over_act : (n : ℕ) (a : Act) (k : Form) → ActIsOver n a → IsOver n k → IsOver n (vp_act a k)
  over_act n (Act.set x t span) k h i = subst_over n x t k i h
  over_act n (Act.draw x [] span) k h i = λ y j. absurd (cc)
  over_act n (Act.draw x (p ∷ ps) span) k h i = over_parts n x ps k (part_form x p k) h.1 i (subst_over n x p.1 k i h.0)
  over_act n (Act.toss x f span) k h i = over_toss n x f span k h i
  over_act n (Act.any x up ty span) k h i = λ y j. i y (free_under (y == x) (is_free y k) j)
  over_act n (Act.reward f span) k h i = over_sum n k f i h
  over_act n (Act.ifs arms e span) k h i = over_arms n arms k (vp e k) h.0 i (over_acts n e k h.1 i)
  over_act n (Act.pick up a b span) k h i = over_pick n up (vp a k) (vp b k) (over_acts n a k h.0 i) (over_acts n b k h.1 i)
  over_act n (Act.check kind f span) k h i = over_check n kind f k h i
  over_act n (Act.validate co span) k h i = over_validate n co k i
  over_act n (Act.loop l b) k h i = λ y j. absurd (cc)
  over_act n (Act.call xs p es span) k h i = λ y j. absurd (cc)

  pub over_acts : (n : ℕ) (acts : Acts) (k : Form) → ActsAreOver n acts → IsOver n k → IsOver n (vp acts k)
  over_acts n Acts.done k h i = i
  over_acts n (Acts.next a rest) k h i = over_act n a (vp rest k) h.0 (over_acts n rest k h.1 i)

  over_arms : (n : ℕ) (arms : Arms) (k o : Form) → ArmsAreOver n arms → IsOver n k → IsOver n o → IsOver n (vp_arms arms k o)
  over_arms n Arms.no_arm k o h i j = j
  over_arms n (Arms.arm g b more) k o h i j = λ x m. two _ _ x n (h.0 x) (λ m. two (is_free x (vp b k)) (is_free x (vp_arms more k o)) x n (over_acts n b k h.1.0 i x) (over_arms n more k o h.1.1 i j x) m) m
