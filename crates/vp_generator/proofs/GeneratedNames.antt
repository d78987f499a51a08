-- The binders of a generated form have names of variables that acts give any value, or of the
-- post's binders.
use Rattle.std.proofs.Common.{◌≡◌, ℕ, refl, sym, ap₂, subst, Bool, true, false, ◌||◌, List, [], ◌∷◌, ◌++◌}
use Rattle.heyvl_num.specs.Rational.{Rational}
use Rattle.heyvl_num.specs.Value.{oneᵛ}
use Rattle.heyvl_places.specs.declared.spans.Span.{Span}
use Rattle.heyvl_places.specs.declared.checks.CheckKind.{CheckKind}
use Rattle.heylo_formula.specs.Formula.{Form, Cond, Term}
use Rattle.heylo_formula.specs.Binders.{has_binder, has_binder_in}
use Rattle.heylo_formula.specs.Substitution as Replaced
use Rattle.heylo_formula.specs.Typing.{Types, TermFits}
use Rattle.heylo_formula.specs.declared.types.Ty.{Ty}
use Rattle.heylo_formula.proofs.exported.Agreement.{or_false}
use Rattle.heyvl_acts.specs.Acts.{Act, Acts, Arms}
use Rattle.vp_generator.specs.GeneratedForms.{pick_form, check_form, validate_form, part_form, sum_of_parts, toss_form, vp, vp_act, vp_arms}
use Rattle.heyvl_acts.specs.WellTypedActs.{PartsFit, ActFits, ActsFit, ArmsFit}
use Rattle.heylo_formula.specs.BinderNames.{Binder, binders, binders_in}
use Rattle.heyvl_acts.specs.Rules.{AreNamed}
use Rattle.vp_generator.specs.Scopes.{AnyIsBelow, AnysAreBelow, AnysAreBelow_in}
use Rattle.heylo_formula.proofs.exported.Plain.{term_plain, typed_plain}
use Rattle.heylo_formula.proofs.exported.BinderNames.{names_plain, unnamed, unnamed_in}

named_both : (n : ℕ) (xs ys : List Binder) → AreNamed n xs → AreNamed n ys → AreNamed n (xs ++ ys)
named_both n [] ys h k = k
named_both n (x ∷ xs) ys h k = (h.0, named_both n xs ys h.1 k)

named_none : (n : ℕ) (xs : List Binder) → xs ≡ [] → AreNamed n xs
named_none n xs e = subst (AreNamed n) (sym e) tt

named_subst : (n : ℕ) (types : Types) (x : ℕ) (t : Term) (k : Form) → TermFits types (types x) t → AreNamed n (binders k) → AreNamed n (binders (Replaced.subst x t k))
named_subst n types x t k h i = subst (AreNamed n) (sym (names_plain x t k (term_plain types (types x) t h))) i

named_parts : (n : ℕ) (types : Types) (x : ℕ) (ps : List (Rational × Term)) (k total : Form) → PartsFit types x ps → AreNamed n (binders k) → AreNamed n (binders total) → AreNamed n (binders (sum_of_parts x ps k total))
named_parts n types x [] k total h i j = j
named_parts n types x (p ∷ ps) k total h i j = named_parts n types x ps k (Form.sum total (part_form x p k)) h.1 i (named_both n (binders total) (binders (Replaced.subst x p.1 k)) j (named_subst n types x p.1 k h.0.1 i))

named_pick : (n : ℕ) (up : Bool) (a b : Form) → AreNamed n (binders a) → AreNamed n (binders b) → AreNamed n (binders (pick_form up a b))
named_pick n true a b h k = named_both n (binders a) (binders b) h k
named_pick n false a b h k = named_both n (binders a) (binders b) h k

named_check : (n : ℕ) (kind : CheckKind) (a b : Form) → AreNamed n (binders a) → AreNamed n (binders b) → AreNamed n (binders (check_form kind a b))
named_check n CheckKind.Assert a b h k = named_both n (binders a) (binders b) h k
named_check n CheckKind.Assume a b h k = named_both n (binders a) (binders b) h k
named_check n CheckKind.CoAssert a b h k = named_both n (binders a) (binders b) h k
named_check n CheckKind.CoAssume a b h k = named_both n (binders a) (binders b) h k

named_validate : (n : ℕ) (co : Bool) (a : Form) → AreNamed n (binders a) → AreNamed n (binders (validate_form co a))
named_validate n true a h = h
named_validate n false a h = h

named_toss : (n : ℕ) (types : Types) (x : ℕ) (f : Form) (span : Span) (k : Form) → types x ≡ Ty.Bool → binders f ≡ [] → AreNamed n (binders k) → AreNamed n (binders (toss_form x f span k))
named_toss n types x f span k t u i =
    let w = named_both n (binders f) [] (named_none n (binders f) u) tt in
    let side = λ (b : Bool). named_subst n types x (Term.truth (Cond.constant b)) k (t, refl) i in
    named_both n (binders (Form.product (Form.min f (Form.number oneᵛ)) (Replaced.subst x (Term.truth (Cond.constant true)) k) span)) (binders (Form.product (Form.cut (Form.number oneᵛ) (Form.min f (Form.number oneᵛ))) (Replaced.subst x (Term.truth (Cond.constant false)) k) span))
    (named_both n (binders f ++ []) (binders (Replaced.subst x (Term.truth (Cond.constant true)) k)) w (side true))
    (named_both n (binders f ++ []) (binders (Replaced.subst x (Term.truth (Cond.constant false)) k)) w (side false))

mutual
  named_act : (n : ℕ) (types : Types) (a : Act) (k : Form) → ActFits types a → AnyIsBelow n a → AreNamed n (binders k) → AreNamed n (binders (vp_act a k))
  named_act n types (Act.set x t span) k h b i = named_subst n types x t k h i
  named_act n types (Act.draw x [] span) k h b i = tt
  named_act n types (Act.draw x (p ∷ ps) span) k h b i = named_parts n types x ps k (part_form x p k) h.1 i (named_subst n types x p.1 k h.0.1 i)
  named_act n types (Act.toss x f span) k h b i = named_toss n types x f span k h.0 (unnamed f h.1.0.1) i
  named_act n types (Act.any x up ty span) k h b i = (b, i)
  named_act n types (Act.reward f span) k h b i = named_both n (binders k) (binders f) i (named_none n (binders f) (unnamed f h.1))
  named_act n types (Act.ifs arms e span) k h b i = named_arms n types arms k (vp e k) h.0 b.0 i (named_acts n types e k h.1 b.1 i)
  named_act n types (Act.pick up x y span) k h b i = named_pick n up (vp x k) (vp y k) (named_acts n types x k h.0 b.0 i) (named_acts n types y k h.1 b.1 i)
  named_act n types (Act.check kind f span) k h b i = named_check n kind f k (named_none n (binders f) (unnamed f h.1)) i
  named_act n types (Act.validate co span) k h b i = named_validate n co k i
  named_act n types (Act.loop l x) k h b i = tt
  named_act n types (Act.call xs p es span) k h b i = tt

  pub named_acts : (n : ℕ) (types : Types) (acts : Acts) (k : Form) → ActsFit types acts → AnysAreBelow n acts → AreNamed n (binders k) → AreNamed n (binders (vp acts k))
  named_acts n types Acts.done k h b i = i
  named_acts n types (Acts.next a rest) k h b i = named_act n types a (vp rest k) h.0 b.0 (named_acts n types rest k h.1 b.1 i)

  named_arms : (n : ℕ) (types : Types) (arms : Arms) (k o : Form) → ArmsFit types arms → AnysAreBelow_in n arms → AreNamed n (binders k) → AreNamed n (binders o) → AreNamed n (binders (vp_arms arms k o))
  named_arms n types Arms.no_arm k o h b i j = j
  named_arms n types (Arms.arm g x more) k o h b i j = named_both n (binders_in g) (binders (vp x k) ++ binders (vp_arms more k o)) (named_none n (binders_in g) (unnamed_in g (typed_plain types g h.0))) (named_both n (binders (vp x k)) (binders (vp_arms more k o)) (named_acts n types x k h.1.0 b.0 i) (named_arms n types more k o h.1.1 b.1 i j))
