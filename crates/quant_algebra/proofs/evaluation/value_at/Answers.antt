use Rattle.std.proofs.Common.{◌≡◌, sym, ◌∙◌, subst}
use Rattle.std.specs.Prelude.{IfSome}
use Rattle.heylo_formula.specs.PlainTrees.{form_of}
use Rattle.heylo_formula.specs.State.{environment}
use Rattle.heylo_formula.specs.Choices.{Choices}
use Rattle.heylo_formula.specs.Meaning.{value}
use Rattle.quant_algebra.proofs.Exactness.{exact_is}
use Rattle.quant_algebra.proofs.evaluation.value_at.Goals as goal

pub returns-clause-meaning : goal.returns-clause-meaning
returns-clause-meaning c = subst (λ o. IfSome o (λ x. x ≡ value (form_of c.args.form.now) (environment c.args.state.now) Choices.stop)) (sym (c.at.ensures ∙ c.value.ensures)) (exact_is (form_of c.args.form.now) c.args.state.now)
