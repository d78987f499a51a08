use Rattle.std.proofs.Common.{rules, ap, sym, ◌∙◌, FitsSigned}
use Rattle.std.proofs.lemmas.Int.{to_z-of_z}
use mir.Syntax.{w64}
use Rattle.std.specs.Prelude.{negsuc}
use Rattle.heyvl_num.specs.Exact.{exact_quotient}
use Rattle.linear_rows.specs.Terms.{coefficient}
use Rattle.linear_elim.proofs.EndRuns.{end_sum_none, end_factor_none, end_product}
use Rattle.linear_elim.proofs.ends.row_place.Goals as goal

pub returns-in_err-sum : goal.returns-in_err-sum
returns-in_err-sum c = c.from_residual.ensures ∙ end_sum_none c.args.x c.args.chosen.now c.args.row.now (sym c.sum_without.ensures ∙ c.in_err-sum.was)

pub returns-in_err-factor : goal.returns-in_err-factor
returns-in_err-factor c =
    let f : FitsSigned w64 c.coefficient_of-coefficient.result = search rules in
    c.from_residual-in_err-factor.ensures ∙ end_factor_none c.args.x c.args.chosen.now c.args.row.now _ (sym c.sum_without.ensures ∙ c.in_ok-sum.was) (sym (c.minus_one_over.ensures ∙ ap (exact_quotient (negsuc 0)) (to_z-of_z w64 _ f ∙ c.coefficient_of-coefficient.ensures.value ∙ ap (coefficient c.args.x) (c.deref.ensures.value ∙ ap (λ r. r.terms) c.row.view_is))) ∙ c.in_err-factor.was)

pub returns : goal.returns
returns c =
    let f : FitsSigned w64 c.coefficient_of-coefficient.result = search rules in
    c.mul.ensures ∙ end_product c.args.x c.args.chosen.now c.args.row.now _ _ (sym c.sum_without.ensures ∙ c.in_ok-sum.was) (sym (c.minus_one_over.ensures ∙ ap (exact_quotient (negsuc 0)) (to_z-of_z w64 _ f ∙ c.coefficient_of-coefficient.ensures.value ∙ ap (coefficient c.args.x) (c.deref.ensures.value ∙ ap (λ r. r.terms) c.row.view_is))) ∙ c.in_ok-factor.was)
