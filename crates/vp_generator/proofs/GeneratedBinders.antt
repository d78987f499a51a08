-- Acts that give no variable any value generate no binder.
use Rattle.std.proofs.Common.{◌≡◌, ℕ, refl, ◌∙◌, Bool, true, false, ◌||◌, List, [], ◌∷◌}
use Rattle.heyvl_num.specs.Rational.{Rational}
use Rattle.heyvl_places.specs.declared.spans.Span.{Span}
use Rattle.heyvl_places.specs.declared.checks.CheckKind.{CheckKind}
use Rattle.heylo_formula.specs.Formula.{Form, Cond, Term}
use Rattle.heylo_formula.specs.Binders.{has_binder, has_binder_in}
use Rattle.heylo_formula.specs.Substitution as Replaced
use Rattle.heylo_formula.specs.Typing.{Types, TermFits}
use Rattle.heylo_formula.specs.declared.types.Ty.{Ty}
use Rattle.heylo_formula.proofs.exported.Plain.{term_plain, typed_plain}
use Rattle.heylo_formula.proofs.exported.Substitutions.{subst_binders}
use Rattle.heyvl_acts.specs.Acts.{Act, Acts, Arms}
use Rattle.heyvl_acts.specs.WellTypedActs.{PartsFit, ActFits, ActsFit, ArmsFit}
use Rattle.vp_generator.specs.GeneratedForms.{pick_form, check_form, validate_form, part_form, sum_of_parts, toss_form, vp, vp_act, vp_arms}
use Rattle.vp_generator.specs.GraphAnswers.{HasNoAny, HaveNoAny, HaveNoAnyIn}

neither : (a b : Bool) → a ≡ false → b ≡ false → (a || b) ≡ false
neither true b h k = h
neither false b h k = k

plain_subst : (types : Types) (x : ℕ) (t : Term) (k : Form) → TermFits types (types x) t → has_binder k ≡ false → has_binder (Replaced.subst x t k) ≡ false
plain_subst types x t k h i = subst_binders x t k (term_plain types (types x) t h) ∙ i

plain_parts : (types : Types) (x : ℕ) (ps : List (Rational × Term)) (k total : Form) → PartsFit types x ps → has_binder k ≡ false → has_binder total ≡ false → has_binder (sum_of_parts x ps k total) ≡ false
plain_parts types x [] k total h i j = j
plain_parts types x (p ∷ ps) k total h i j = plain_parts types x ps k (Form.sum total (part_form x p k)) h.1 i (neither (has_binder total) (has_binder (Replaced.subst x p.1 k)) j (plain_subst types x p.1 k h.0.1 i))

plain_pick : (up : Bool) (a b : Form) → has_binder a ≡ false → has_binder b ≡ false → has_binder (pick_form up a b) ≡ false
plain_pick true a b h k = neither (has_binder a) (has_binder b) h k
plain_pick false a b h k = neither (has_binder a) (has_binder b) h k

plain_check : (kind : CheckKind) (a b : Form) → has_binder a ≡ false → has_binder b ≡ false → has_binder (check_form kind a b) ≡ false
plain_check CheckKind.Assert a b h k = neither (has_binder a) (has_binder b) h k
plain_check CheckKind.Assume a b h k = neither (has_binder a) (has_binder b) h k
plain_check CheckKind.CoAssert a b h k = neither (has_binder a) (has_binder b) h k
plain_check CheckKind.CoAssume a b h k = neither (has_binder a) (has_binder b) h k

plain_validate : (co : Bool) (a : Form) → has_binder a ≡ false → has_binder (validate_form co a) ≡ false
plain_validate true a h = h
plain_validate false a h = h

plain_toss : (types : Types) (x : ℕ) (f : Form) (span : Span) (k : Form) → types x ≡ Ty.Bool → has_binder f ≡ false → has_binder k ≡ false → has_binder (toss_form x f span k) ≡ false
plain_toss types x f span k t u i =
    let w = neither (has_binder f) false u refl in
    let side = λ (b : Bool). plain_subst types x (Term.truth (Cond.constant b)) k (t, refl) i in
    neither _ _ (neither (has_binder f || false) (has_binder (Replaced.subst x (Term.truth (Cond.constant true)) k)) w (side true)) (neither (has_binder f || false) (has_binder (Replaced.subst x (Term.truth (Cond.constant false)) k)) w (side false))

mutual
  pub plain_act : (types : Types) (a : Act) (k : Form) → ActFits types a → HasNoAny a → has_binder k ≡ false → has_binder (vp_act a k) ≡ false
  plain_act types (Act.set x t span) k h b i = plain_subst types x t k h i
  plain_act types (Act.draw x [] span) k h b i = refl
  plain_act types (Act.draw x (p ∷ ps) span) k h b i = plain_parts types x ps k (part_form x p k) h.1 i (plain_subst types x p.1 k h.0.1 i)
  plain_act types (Act.toss x f span) k h b i = plain_toss types x f span k h.0 h.1.0.1 i
  plain_act types (Act.any x up ty span) k h b i = absurd b
  plain_act types (Act.reward f span) k h b i = neither (has_binder k) (has_binder f) i h.1
  plain_act types (Act.ifs arms e span) k h b i = plain_arms types arms k (vp e k) h.0 b.0 i (plain_acts types e k h.1 b.1 i)
  plain_act types (Act.pick up x y span) k h b i = plain_pick up (vp x k) (vp y k) (plain_acts types x k h.0 b.0 i) (plain_acts types y k h.1 b.1 i)
  plain_act types (Act.check kind f span) k h b i = plain_check kind f k h.1 i
  plain_act types (Act.validate co span) k h b i = plain_validate co k i
  plain_act types (Act.loop l x) k h b i = refl
  plain_act types (Act.call xs p es span) k h b i = refl

  pub plain_acts : (types : Types) (acts : Acts) (k : Form) → ActsFit types acts → HaveNoAny acts → has_binder k ≡ false → has_binder (vp acts k) ≡ false
  plain_acts types Acts.done k h b i = i
  plain_acts types (Acts.next a rest) k h b i = plain_act types a (vp rest k) h.0 b.0 (plain_acts types rest k h.1 b.1 i)

  plain_arms : (types : Types) (arms : Arms) (k o : Form) → ArmsFit types arms → HaveNoAnyIn arms → has_binder k ≡ false → has_binder o ≡ false → has_binder (vp_arms arms k o) ≡ false
  plain_arms types Arms.no_arm k o h b i j = j
  plain_arms types (Arms.arm g x more) k o h b i j = neither (has_binder_in g) (has_binder (vp x k) || has_binder (vp_arms more k o)) (typed_plain types g h.0) (neither (has_binder (vp x k)) (has_binder (vp_arms more k o)) (plain_acts types x k h.1.0 b.0 i) (plain_arms types more k o h.1.1 b.1 i j))
