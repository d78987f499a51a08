use Rattle.heyvl_acts.specs.PlainActs.{procedure_of, procedures_of}
use Rattle.heyvl_replies.proofs.SaidOfFiles.{one_for_each}
use Rattle.heyvl_replies.proofs.PairReplies.{gives_bound, gives_turns, remainder_has_pair}
use Rattle.heyvl_replies.proofs.ReportNeeds.{short_bytes}
use Rattle.heyvl_replies.proofs.commands.remainder.of_pair.Goals as goal
use Rattle.std.proofs.Common.{◌∙◌}
use Rattle.std.proofs.lemmas.List.{length-map}

pub remainder-requires-clause-each : goal.remainder-requires-clause-each
remainder-requires-clause-each c =
    let a = c.in_ok-whole.ensures.answered in
    rw c.deref.ensures.value (one_for_each (procedures_of c.args.typed.now) _ _ 0 (procedures_of c.args.typed.now) c.in_ok-whole.whole.answers.items a.answers_of ∙ length-map c.args.typed.now.procs.items procedure_of)

pub remainder-requires-clause-verified : goal.remainder-requires-clause-verified
remainder-requires-clause-verified c = rw c.deref.ensures.value (gives_bound (procedures_of c.args.typed.now) c.in_ok-whole.whole.answers.items c.args.p c.in_ok-whole.ensures.headline)

pub remainder-requires-clause-ranked : goal.remainder-requires-clause-ranked
remainder-requires-clause-ranked c = rw c.deref.ensures.value (λ n. gives_turns (procedures_of c.args.typed.now) c.in_ok-whole.whole.answers.items c.args.p n c.in_ok-whole.ensures.headline)

pub remainder_text-requires-clause-short : goal.remainder_text-requires-clause-short
remainder_text-requires-clause-short c = short_bytes c.args.bytes.now c.requires.short

pub remainder_text-requires-clause-pair : goal.remainder_text-requires-clause-pair
remainder_text-requires-clause-pair c = remainder_has_pair (procedures_of c.args.typed.now) _ c.args.p c.args.q c.in_ok-answer.answer c.in_ok-answer.ensures.answer

pub returns : goal.returns
returns c = record {
  answers = c.in_ok-whole.whole.answers.items;
  made = c.in_ok-whole.whole.made.items;
  certs = c.in_ok-whole.whole.certs.items;
  are_answers = c.in_ok-whole.ensures.answered;
  answer = c.in_ok-answer.answer;
  is_answer = rw c.deref.ensures.value at c.in_ok-answer.ensures.answer;
  meant = c.in_ok-answer.ensures.bound;
  text = c.in_ok-text.text.items;
  is_text = c.in_ok-text.ensures;
  told = c.reply.ensures;
}
