use Rattle.heyvl_syntax.proofs.FrontHere.{front_here, number_here, too_large_here, word_here}
use Rattle.heyvl_syntax.proofs.Steps.{lexed_more, lexes_blank, lexes_end, stops_blank, stops_here, stops_token}
use Rattle.heyvl_syntax.proofs.lexer.lex_parts.Goals as goal
use Rattle.heyvl_syntax.specs.declared.fronts.Front.TheVariants as shapes
use Rattle.heyvl_syntax.specs.declared.tokens.TokenKind.TheVariants as kinds
use Rattle.std.proofs.Common.{[], arith}
use Rattle.std.proofs.lemmas.List.{append-nil}

pub returns-in-End-clause-found : goal.returns-in-End-clause-found
returns-in-End-clause-found c =
    let front = front_here c.parts.rest.now c.front_of.result shapes.End c.front_of.ensures.value c.in-End.is in
    rw append-nil at (c.parts.invariant.lexed [] (lexes_end c.parts.place c.parts.rest.now front))

pub returns-in-Fault-clause-fault : goal.returns-in-Fault-clause-fault
returns-in-Fault-clause-fault c =
    let front = front_here c.parts.rest.now c.front_of.result (shapes.Fault c.in-Fault.number c.in-Fault.n) c.front_of.ensures.value c.in-Fault.is in
    rw c.span_of.ensures (c.parts.invariant.stopped c.in-Fault.number _ (stops_here c.parts.place c.in-Fault.n c.in-Fault.number c.parts.rest.now front))

pub returns-in-None-clause-fault : goal.returns-in-None-clause-fault
returns-in-None-clause-fault c =
    let number = front_here c.parts.rest.now c.front_of.result (shapes.Number c.in-Number.n) c.front_of.ensures.value c.in-Number.is in
    let front = too_large_here c.parts.rest.now c.split_at-in-Number.result.0.now c.in-Number.n c.literal.result (omega (arith, c.split_at-in-Number.ensures.back_len)) c.split_at-in-Number.ensures.front c.literal.ensures c.in-None.is number in
    rw c.span_of-in-None.ensures (c.parts.invariant.stopped 3 _ (stops_here c.parts.place c.in-Number.n 3 c.parts.rest.now front))

pub parts-preserved-in-Blank : goal.parts-preserved-in-Blank
parts-preserved-in-Blank c =
    let front = front_here c.parts.rest.now c.front_of.result (shapes.Blank c.in-Blank.n) c.front_of.ensures.value c.in-Blank.is in
    record {
      within = omega (arith, c.parts.invariant.within, c.split_at.ensures.back_len);
      lexed = λ tokens rest. c.parts.invariant.lexed tokens (lexes_blank c.parts.place c.in-Blank.n c.parts.rest.now front tokens (rw (← c.split_at.ensures.back) rest));
      stopped = λ number span rest. c.parts.invariant.stopped number span (stops_blank c.parts.place c.in-Blank.n c.parts.rest.now front number span (rw (← c.split_at.ensures.back) rest));
    }

pub parts-preserved-in-Word : goal.parts-preserved-in-Word
parts-preserved-in-Word c =
    let word = front_here c.parts.rest.now c.front_of.result (shapes.Word c.in-Word.n) c.front_of.ensures.value c.in-Word.is in
    let front = word_here c.parts.rest.now c.in_ok-name-in-Word.name c.in-Word.n (omega (arith, c.in-Word.ensures.inside, c.split_at-in-Word.ensures.back_len)) c.in_ok-name-in-Word.ensures word in
    record {
      within = omega (arith, c.parts.invariant.within, c.split_at-in-Word.ensures.back_len);
      lexed = rw (c.in_ok-push-in-Word.ensures.items, c.token_of.ensures) (lexed_more c.parts.place c.in-Word.n (kinds.Word c.in_ok-name-in-Word.name) c.args.bytes.now c.parts.rest.now c.split_at-in-Word.result.1.now c.parts.tokens.items front c.split_at-in-Word.ensures.back c.parts.invariant.lexed);
      stopped = λ number span rest. c.parts.invariant.stopped number span (stops_token c.parts.place c.in-Word.n (kinds.Word c.in_ok-name-in-Word.name) c.parts.rest.now front number span (rw (← c.split_at-in-Word.ensures.back) rest));
    }

pub parts-preserved-in-Number : goal.parts-preserved-in-Number
parts-preserved-in-Number c =
    let number = front_here c.parts.rest.now c.front_of.result (shapes.Number c.in-Number.n) c.front_of.ensures.value c.in-Number.is in
    let front = number_here c.parts.rest.now c.split_at-in-Number.result.0.now c.in-Some.number c.in-Number.n c.literal.result (omega (arith, c.split_at-in-Number.ensures.back_len)) c.split_at-in-Number.ensures.front c.literal.ensures c.in-Some.is number in
    record {
      within = omega (arith, c.parts.invariant.within, c.split_at-in-Number.ensures.back_len);
      lexed = rw (c.in_ok-push-in-Some.ensures.items, c.token_of-in-Some.ensures) (lexed_more c.parts.place c.in-Number.n (kinds.Number c.in-Some.number) c.args.bytes.now c.parts.rest.now c.split_at-in-Number.result.1.now c.parts.tokens.items front c.split_at-in-Number.ensures.back c.parts.invariant.lexed);
      stopped = λ number span rest. c.parts.invariant.stopped number span (stops_token c.parts.place c.in-Number.n (kinds.Number c.in-Some.number) c.parts.rest.now front number span (rw (← c.split_at-in-Number.ensures.back) rest));
    }

pub parts-preserved-in-Key : goal.parts-preserved-in-Key
parts-preserved-in-Key c =
    let front = front_here c.parts.rest.now c.front_of.result (shapes.Key c.in-Key.key c.in-Key.n) c.front_of.ensures.value c.in-Key.is in
    record {
      within = omega (arith, c.parts.invariant.within, c.split_at-in-Key.ensures.back_len);
      lexed = rw (c.in_ok-push-in-Key.ensures.items, c.token_of-in-Key.ensures) (lexed_more c.parts.place c.in-Key.n (kinds.Key c.in-Key.key) c.args.bytes.now c.parts.rest.now c.split_at-in-Key.result.1.now c.parts.tokens.items front c.split_at-in-Key.ensures.back c.parts.invariant.lexed);
      stopped = λ number span rest. c.parts.invariant.stopped number span (stops_token c.parts.place c.in-Key.n (kinds.Key c.in-Key.key) c.parts.rest.now front number span (rw (← c.split_at-in-Key.ensures.back) rest));
    }

pub parts-preserved : goal.parts-preserved
parts-preserved c =
    let front = front_here c.parts.rest.now c.front_of.result (shapes.Mark c.in-Mark.mark c.in-Mark.n) c.front_of.ensures.value c.in-Mark.is in
    record {
      within = omega (arith, c.parts.invariant.within, c.split_at-in-Mark.ensures.back_len);
      lexed = rw (c.in_ok-push-in-Mark.ensures.items, c.token_of-in-Mark.ensures) (lexed_more c.parts.place c.in-Mark.n (kinds.Mark c.in-Mark.mark) c.args.bytes.now c.parts.rest.now c.split_at-in-Mark.result.1.now c.parts.tokens.items front c.split_at-in-Mark.ensures.back c.parts.invariant.lexed);
      stopped = λ number span rest. c.parts.invariant.stopped number span (stops_token c.parts.place c.in-Mark.n (kinds.Mark c.in-Mark.mark) c.parts.rest.now front number span (rw (← c.split_at-in-Mark.ensures.back) rest));
    }
