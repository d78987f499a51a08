-- Acts over Boolean variables are well typed, and their graphs satisfy the requirements of `vp_in`.
use Rattle.std.proofs.Common.{◌≡◌, ℕ, ◌<◌, refl, sym, ap, ap₂, subst, ◌∙◌, arith, Bool, true, false, if◌then◌else◌, ◌==◌, Box, List, [], ◌∷◌, ◌++◌}
use Rattle.std.proofs.lemmas.Int.{ints}
use Rattle.std.specs.Prelude.{Some, pos, Vec, Result, Ok, Err, IfOk}
use Rattle.std.specs.declared.alloc.Global.{Global}
use Rattle.heyvl_num.specs.Exact.{exact_quotient, quotient}
use Rattle.heyvl_num.specs.Rational.{Rational, zeroʳ, ◌≤ʳ◌}
use Rattle.heyvl_num.specs.Value.Value.{finite}
use Rattle.heyvl_num.specs.declared.extended_numbers.Ext.{Ext}
use Rattle.heyvl_num.proofs.exported.Exactness.{exact_quotient_some}
use Rattle.heyvl_num.proofs.exported.Rationals.{ratio_nonnegative}
use Rattle.heyvl_places.specs.declared.spans.Span.{Span}
use Rattle.heylo_formula.specs.declared.forms.Cond as C
use Rattle.heylo_formula.specs.declared.forms.Form as F
use Rattle.heylo_formula.specs.declared.terms.Term as T
use Rattle.heylo_formula.specs.declared.types.Ty.{Ty}
use Rattle.heylo_formula.specs.Formula.{Form, Cond}
use Rattle.heylo_formula.specs.PlainTrees.{form_of, cond_of}
use Rattle.heylo_formula.specs.Binders.{has_binder, has_binder_in}
use Rattle.heylo_formula.specs.Typing.{NumberType, joined, only_if, is_unsigned, is_finite_type, is_well_typed, constant_type}
use Rattle.heylo_formula.proofs.exported.Mirrors.{constant_cond, flag_cond, number_form, select_form}
use Rattle.heylo_graph.specs.Trees.{Tree}
use Rattle.heylo_graph.specs.Nodes.{Stands, assembled, tree_at}
use Rattle.heylo_graph.specs.declared.nodes.Node.{Node}
use Rattle.heylo_graph.proofs.exported.LongerLists.{iverson_node}
use Rattle.heyvl_acts.specs.declared.acts.Act as A
use Rattle.heyvl_acts.specs.Acts.{Act, Acts}
use Rattle.heyvl_acts.specs.PlainActs.{act_of, acts_of, parts_of}
use Rattle.heyvl_acts.specs.WellTypedActs.{ActFits, ActsFit, IsProbability}
use Rattle.heyvl_acts.proofs.exported.PlainActsAre.{draw_act, toss_act, any_act, validate_act}
use Rattle.vp_generator.specs.GraphAnswers.{Follows, HaveNoAny, MakeNoBinder}
use Rattle.generation_tests.specs.BooleanActs.{bools, IsCalm, AreCalm, StandsPlain}

-- ---- Acts

pub none_calm : AreCalm (acts_of [])
none_calm = record { fit = tt; calm = tt }

pub calm_last : (acts : List A.Act) (a : A.Act) → AreCalm (acts_of acts) → IsCalm (act_of a) → AreCalm (acts_of (acts ++ a ∷ []))
calm_last [] a h k = record { fit = (k.fit, tt); calm = (k.calm, tt) }
calm_last (b ∷ acts) a h k = let i = calm_last acts a (record { fit = h.fit.1; calm = h.calm.1 }) k in record { fit = (h.fit.0, i.fit); calm = (h.calm.0, i.calm) }

-- A draw of true and false with the same weight.
pub draw_calm : (w : Rational) (ps : Vec (Rational × T.Term) Global) (span : Span) → zeroʳ ≤ʳ w → ps.items ≡ (w, T.TheVariants.Truth (C.Const true)) ∷ (w, T.TheVariants.Truth (C.Const false)) ∷ [] → IsCalm (act_of (A.Draw 0 ps span))
draw_calm w ps span h e = subst IsCalm (sym (draw_act 0 ps span ∙ ap (λ l. Act.draw 0 (parts_of l) span) e)) (record { fit = ((h, (refl, ap (is_well_typed bools) (constant_cond true))), ((h, (refl, ap (is_well_typed bools) (constant_cond false))), tt)); calm = tt })

pub toss_calm : (f : F.Form) (span : Span) → IsProbability bools (form_of f) → IsCalm (act_of (A.Toss 0 f span))
toss_calm f span h = subst IsCalm (sym (toss_act 0 f span)) (record { fit = (refl, (h.0, h.1.0)); calm = tt })

pub validate_calm : (co : Bool) (span : Span) → IsCalm (act_of (A.Validate co span))
validate_calm co span = subst IsCalm (sym (validate_act co span)) (record { fit = tt; calm = tt })

pub any_behind : (a : A.Act) (span : Span) (acts : List A.Act) → acts ≡ a ∷ A.Any 1 true Ty.Bool span ∷ [] → IsCalm (act_of a) → ActsFit bools (acts_of acts)
any_behind a span acts e h = subst (λ l. ActsFit bools (acts_of l)) (sym e) (h.fit, (subst (ActFits bools) (sym (any_act 1 true Ty.Bool span)) refl, tt))

-- ---- Formulas of nodes

formula_is : (f g : Form) → Some (Tree.formula f) ≡ Some (Tree.formula g) → f ≡ g
formula_is f g e = cc

pub follows : (acts : Acts) (ns : List Node) (i : ℕ) → ActsFit bools acts → StandsPlain ns i → Follows acts ns i
follows acts ns i h s = record { form = s.form; stands = s.stands; fit = record { types = bools; fit = h; formula = s.formula } }

pub no_binder : (acts : Acts) (ns : List Node) (i : ℕ) → HaveNoAny acts → StandsPlain ns i → MakeNoBinder acts ns i
no_binder acts ns i h s = record { calm = h; post = λ k t. subst (λ f. has_binder f ≡ false) (formula_is s.form k (sym s.stands.tree ∙ t.tree)) s.plain }

-- A condition as the number 1 or 0.
pub ok_iverson : {E : Type 0} (old new : List Node) (i : ℕ) (g : Cond) (o : Result ℕ E) → is_well_typed bools g ≡ true → has_binder_in g ≡ false → Stands old i (Tree.condition g) → IfOk o (λ r. (t : Tree) → assembled (tree_at old) (Node.Iverson i) ≡ Some t → Stands new r t) → IfOk o (λ r. StandsPlain new r)
ok_iverson old new i g (Ok r) w p s h = record { form = Form.iverson g; stands = h (Tree.formula (Form.iverson g)) (iverson_node old i g s).gives; formula = ap (λ b. is_unsigned (only_if b (Some NumberType.uint))) w; plain = p }
ok_iverson old new i g (Err e) w p s h = tt

-- ---- Weights

pub part_nonnegative : (n : ℕ) (w : Rational) → 0 < n → Some w ≡ exact_quotient (pos 1) (pos n) → zeroʳ ≤ʳ w
unfolding quotient
part_nonnegative n w h e = subst (λ x. zeroʳ ≤ʳ x) (sym (exact_quotient_some (pos 1) (pos n) w e)) (ratio_nonnegative (pos 1) n h (omega (arith, ints)))

both_unsigned : (p q : Bool) → is_unsigned (joined (Some (if p then NumberType.uint else NumberType.ureal)) (Some (if q then NumberType.uint else NumberType.ureal))) ≡ true
both_unsigned true true = refl
both_unsigned true false = refl
both_unsigned false true = refl
both_unsigned false false = refl

both_finite : (p q : Bool) → is_finite_type (joined (Some (if p then NumberType.uint else NumberType.ureal)) (Some (if q then NumberType.uint else NumberType.ureal))) ≡ true
both_finite true true = refl
both_finite true false = refl
both_finite false true = refl
both_finite false false = refl

number_kind : (w : Rational) → zeroʳ ≤ʳ w → constant_type (finite w) ≡ Some (if w.den == 1 then NumberType.uint else NumberType.ureal)
number_kind w h = ap (λ b. if b then Some (if w.den == 1 then NumberType.uint else NumberType.ureal) else only_if (w.den == 1) (Some NumberType.int)) h.holds

-- The weight that a condition selects from two numbers is a probability.
pub choice_is : (x : ℕ) (v w : Rational) → zeroʳ ≤ʳ v → zeroʳ ≤ʳ w → IsProbability bools (Form.select (Cond.flag x) (Form.number (finite v)) (Form.number (finite w)))
choice_is x v w h k =
    let e = ap₂ joined (number_kind v h) (number_kind w k) in
    ((subst (λ t. is_unsigned t ≡ true) (sym e) (both_unsigned (v.den == 1) (w.den == 1)), refl), (subst (λ t. is_finite_type t ≡ true) (sym e) (both_finite (v.den == 1) (w.den == 1)), refl))

-- The weight that the program holds is a probability.
pub weight_is : (t : Box C.Cond Global) (l r : Box F.Form Global) (v w : Rational) → t.value ≡ C.Var 0 → l.value ≡ F.Const (Ext.Fin v) → r.value ≡ F.Const (Ext.Fin w) → zeroʳ ≤ʳ v → zeroʳ ≤ʳ w → IsProbability bools (form_of (F.Select t l r))
weight_is t l r v w d e i h k = subst (IsProbability bools) (sym (select_form t l r ∙ ap₂ (λ g (q : Form × Form). Form.select g q.0 q.1) (ap cond_of d ∙ flag_cond 0) (ap₂ (λ a b. (a, b)) (ap form_of e ∙ number_form (Ext.Fin v)) (ap form_of i ∙ number_form (Ext.Fin w))))) (choice_is 0 v w h k)
