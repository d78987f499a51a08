use Rattle.std.proofs.Common.{◌≡◌, ◌∙◌, ℕ, sym, ap, ap₂, subst, arith}
use Rattle.std.proofs.lemmas.Result.{IfOk-weaker}
use Rattle.std.specs.declared.alloc.Global.{Global}
use Rattle.std.specs.Prelude.{Box, IfOk, length}
use Rattle.heyvl_num.specs.ExtendedNumbers.{value_of}
use Rattle.heyvl_num.specs.Value.{oneᵛ}
use Rattle.heyvl_num.specs.declared.extended_numbers.Ext.{Ext}
use Rattle.heylo_formula.proofs.exported.Mirrors.{number_form, sum_form, variable_form}
use Rattle.heylo_formula.specs.Formula.{Form, Term}
use Rattle.heylo_formula.specs.PlainTrees.{form_of}
use Rattle.heylo_formula.specs.Sizes.{nodes}
use Rattle.heylo_formula.specs.Substitution as Replaced
use Rattle.heylo_formula.specs.declared.forms.Form as F
use Rattle.heyvl_acts.specs.Acts.{variables}
use Rattle.lower_goals.specs.OmegaGoals.{smaller}
use Rattle.lower_goals.specs.OmegaPairs.{formula_of}
use Rattle.lower_goals.specs.declared.answers.Step.{Step}
use Rattle.lower_goals.specs.declared.pairs.Pair.{Pair}
use Rattle.lower_goals.specs.LentOmegaPairs.{first, head, second}
use Rattle.lower_goals.proofs.ReadyPairs.{formula_small, vars_length}
use Rattle.lower_goals.proofs.step_sides.smaller.Goals as goal

same_put : (x y : ℕ) (t u : Term) (f g : Form) → x ≡ y → t ≡ u → f ≡ g → Replaced.subst x t f ≡ Replaced.subst y u g
same_put x y t u f g e h k = ap (λ z. Replaced.subst z t f) e ∙ (ap (λ z. Replaced.subst y z f) h ∙ ap (λ z. Replaced.subst y u z) k)

more_is : (a b : Box F.Form Global) (n : ℕ) (v : Ext) → a.value ≡ F.Var n → b.value ≡ F.Const v → value_of v ≡ oneᵛ → form_of (F.Sum a b) ≡ Form.sum (Form.variable n) (Form.number oneᵛ)
more_is a b n v e h k = sum_form a b ∙ ap₂ (λ x y. Form.sum x y) (ap form_of e ∙ variable_form n) (ap form_of h ∙ (number_form v ∙ ap (λ y. Form.number y) k))

abbrev Side : Pair → Step → F.Form → Type 0
Side x step form = form_of form ≡ smaller (length (variables (first x))) (formula_of (first x) (head x) (second x)) step

pub returns-in-One : goal.returns-in-One
returns-in-One c = subst (λ (k : Step). IfOk c.copy.result (Side c.args.pair.now k)) (sym c.in-One.is) (IfOk-weaker c.copy.result _ _ (λ f e. e ∙ c.requires.ready.formula) c.copy.ensures)

pub subst-requires : goal.subst-requires
subst-requires c = let f = formula_small c.args.pair.now c.requires.ready in let e = ap nodes c.requires.ready.formula in let k = ap nodes (number_form c.zero.result) in omega (arith, f, e, k)

pub returns-in-Base : goal.returns-in-Base
returns-in-Base c = subst (λ (k : Step). IfOk c.subst.result (Side c.args.pair.now k)) (sym c.in-Base.is) (IfOk-weaker c.subst.result _ _ (λ f e. e ∙ same_put _ _ _ _ _ _ (c.len-turns.ensures ∙ (c.args.pair.now.procedure.now.vars.ok.0 ∙ sym (vars_length c.args.pair.now.procedure.now))) (ap (λ z. Term.number z) (number_form c.zero.result ∙ ap (λ v. Form.number v) c.zero.ensures.value)) c.requires.ready.formula) c.subst.ensures.tree)

pub subst-requires-in-Turn : goal.subst-requires-in-Turn
subst-requires-in-Turn c =
    let f = formula_small c.args.pair.now c.requires.ready in
    let e = ap nodes c.requires.ready.formula in
    let k = ap nodes (more_is c.in_ok-before-in-Turn.before c.in_ok-one-in-Turn.one c.len-turns.result c.one.result c.in_ok-before-in-Turn.ensures.ok c.in_ok-one-in-Turn.ensures.ok c.one.ensures) in
    omega (arith, f, e, k)

pub returns-in_ok-one-in-Turn : goal.returns-in_ok-one-in-Turn
returns-in_ok-one-in-Turn c = subst (λ (k : Step). IfOk c.subst-in-Turn.result (Side c.args.pair.now k)) (sym c.in-Turn.is) (IfOk-weaker c.subst-in-Turn.result _ _ (λ f e. e ∙ same_put _ _ _ _ _ _ (c.len-turns.ensures ∙ (c.args.pair.now.procedure.now.vars.ok.0 ∙ sym (vars_length c.args.pair.now.procedure.now))) (ap (λ z. Term.number z) (more_is c.in_ok-before-in-Turn.before c.in_ok-one-in-Turn.one c.len-turns.result c.one.result c.in_ok-before-in-Turn.ensures.ok c.in_ok-one-in-Turn.ensures.ok c.one.ensures ∙ ap (λ n. Form.sum (Form.variable n) (Form.number oneᵛ)) (c.len-turns.ensures ∙ (c.args.pair.now.procedure.now.vars.ok.0 ∙ sym (vars_length c.args.pair.now.procedure.now))))) c.requires.ready.formula) c.subst-in-Turn.ensures.tree)
