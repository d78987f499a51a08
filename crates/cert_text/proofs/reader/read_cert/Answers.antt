use Rattle.cert_text.specs.internal.ReadStates.{state_of}
use Rattle.cert_text.specs.internal.Steps.{IsStep, IsStuck}
use Rattle.cert_text.proofs.EndAnswers.{IsAnswer, answer_stuck, step_more, step_shrinks}
use Rattle.cert_text.proofs.reader.read_cert.Goals as goal

stopped : (c : goal.After-whole) → IsAnswer c.args.bytes.now c.whole.result
stopped c =
    let stuck : IsStuck (state_of c.lines.reading) (state_of c.first_line.new.reading) c.lines.rest.now = rw c.in-None.is at c.in_ok-behind.ensures in
    answer_stuck c.args.bytes.now c.lines.rest.now c.lines.number (state_of c.lines.reading) (state_of c.first_line.new.reading) c.whole.result c.lines.invariant.0 stuck c.whole.ensures

pub returns-in-None-clause-found : goal.returns-in-None-clause-found
returns-in-None-clause-found c = (stopped c).found

pub returns-in-None-clause-fault : goal.returns-in-None-clause-fault
returns-in-None-clause-fault c = (stopped c).fault

pub returns-in-None-clause-only : goal.returns-in-None-clause-only
returns-in-None-clause-only c = (stopped c).only

pub returns-in-None-clause-only_fault : goal.returns-in-None-clause-only_fault
returns-in-None-clause-only_fault c = (stopped c).only_fault

pub lines-preserved : goal.lines-preserved
lines-preserved c =
    let step : IsStep (state_of c.lines.reading) (state_of c.first_line.new.reading) c.lines.rest.now c.in-Some.behind.now = rw c.in-Some.is at c.in_ok-behind.ensures in (
      step_more c.args.bytes.now c.lines.rest.now c.in-Some.behind.now c.lines.number (state_of c.lines.reading) (state_of c.first_line.new.reading) c.lines.invariant.0 step,
      step_shrinks c.lines.rest.now c.in-Some.behind.now c.lines.number _ (state_of c.lines.reading) (state_of c.first_line.new.reading) step c.lines.invariant.1,
    )
