use Rattle.std.proofs.Common.{◌∙◌, ap, sym}
use Rattle.std.specs.List.{list_any}
use Rattle.verdict_report.specs.declared.answers.Answer.{Answer}
use Rattle.lower_rules.specs.internal.Said.{ranks}
use Rattle.lower_rules.proofs.VerdictsOn.{ranked_on, unranked_on}
use Rattle.lower_rules.proofs.verdicts.is_ranked.Goals as goal

pub returns : goal.returns
returns c = record {
  yes = λ e. ranked_on c.args.answers.now c.args.p c.args.number c.index-answers-p.result c.requires c.index-answers-p.is (ap (λ (x : Answer). list_any (ranks c.args.number) x.loops.items) c.index-answers-p.is ∙ (ap (λ l. list_any (ranks c.args.number) l) (sym c.deref.ensures.value) ∙ (sym c.some_ranks.ensures ∙ e)));
  no = λ e. unranked_on c.args.answers.now c.args.p c.args.number c.index-answers-p.result c.requires c.index-answers-p.is (ap (λ (x : Answer). list_any (ranks c.args.number) x.loops.items) c.index-answers-p.is ∙ (ap (λ l. list_any (ranks c.args.number) l) (sym c.deref.ensures.value) ∙ (sym c.some_ranks.ensures ∙ e)));
}
