use Rattle.heyvl_acts.specs.PlainActs.{procedures_of}
use Rattle.heyvl_replies.proofs.PairReplies.{omega_has_pair}
use Rattle.heyvl_replies.proofs.ReportNeeds.{short_bytes}
use Rattle.heyvl_replies.proofs.commands.omega.of_pair.Goals as goal

pub omega_text-requires-clause-short : goal.omega_text-requires-clause-short
omega_text-requires-clause-short c = short_bytes c.args.bytes.now c.requires.short

pub omega_text-requires-clause-pair : goal.omega_text-requires-clause-pair
omega_text-requires-clause-pair c = omega_has_pair (procedures_of c.args.typed.now) c.args.p c.args.q c.in_ok-answer.answer c.in_ok-answer.ensures.answer

pub returns : goal.returns
returns c = record { answer = c.in_ok-answer.answer; is_answer = c.in_ok-answer.ensures.answer; bound = c.in_ok-answer.ensures.bound; shown = c.in_ok-answer.ensures.shown; text = c.in_ok-text.text.items; is_text = c.in_ok-text.ensures; told = c.reply.ensures }
