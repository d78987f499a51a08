use Rattle.heyvl_replies.proofs.RefuteStarts.{shown_is}
use Rattle.heyvl_replies.proofs.commands.refute.shown_of.Goals as goal
use Rattle.command_rules.specs.commands.Refute.{shown_by}
use Rattle.std.proofs.Common.{ap, sym, ◌∙◌}
use Rattle.verdict_report.specs.declared.answers.Answer.{Answer}

pub returns : goal.returns
returns c =
    let found = c.index-answers-p.is in
    c.shown_by.ensures ∙ (ap (λ (a : Answer). shown_by a.verdict) (sym found) ∙ shown_is c.args.answers.now c.args.p c.index-answers-p.result c.requires found)
