use Rattle.std.proofs.Common.{◌≡◌, sym, ◌∙◌, subst}
use Rattle.std.specs.Prelude.{IfSome}
use Rattle.heylo_formula.specs.PlainTrees.{cond_of}
use Rattle.heylo_formula.specs.State.{environment}
use Rattle.heylo_formula.specs.Choices.{Choices}
use Rattle.heylo_formula.specs.Meaning.{holds}
use Rattle.quant_algebra.proofs.Exactness.{truth_is}
use Rattle.quant_algebra.proofs.evaluation.holds_at.Goals as goal

pub returns-clause-meaning : goal.returns-clause-meaning
returns-clause-meaning c = subst (λ o. IfSome o (λ x. x ≡ holds (cond_of c.args.cond.now) (environment c.args.state.now) Choices.stop)) (sym (c.held.ensures ∙ c.truth.ensures)) (truth_is (cond_of c.args.cond.now) c.args.state.now)
