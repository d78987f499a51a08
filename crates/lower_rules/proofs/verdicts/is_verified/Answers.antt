use Rattle.std.proofs.Common.{◌∙◌, ap, sym}
use Rattle.verdict_report.specs.declared.answers.Answer.{Answer}
use Rattle.lower_rules.specs.internal.Said.{says_verified}
use Rattle.lower_rules.proofs.VerdictsOn.{unverified_on, verified_on}
use Rattle.lower_rules.proofs.verdicts.is_verified.Goals as goal

pub returns : goal.returns
returns c = record {
  yes = λ e. verified_on c.args.answers.now c.args.p c.index-answers-p.result c.requires c.index-answers-p.is (ap (λ (x : Answer). says_verified x.verdict) c.index-answers-p.is ∙ (sym c.says_verified.ensures ∙ e));
  no = λ e. unverified_on c.args.answers.now c.args.p c.index-answers-p.result c.requires c.index-answers-p.is (ap (λ (x : Answer). says_verified x.verdict) c.index-answers-p.is ∙ (sym c.says_verified.ensures ∙ e));
}
