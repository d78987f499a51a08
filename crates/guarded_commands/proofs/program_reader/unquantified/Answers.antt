use Rattle.heyvl_parse.specs.declared.stops.PartStop.{PartStop}
use Rattle.heyvl_parse.specs.readers.PartStops.{IsPartStop}
use Rattle.guarded_commands.proofs.Quantifiers.{all_read, stop_before, stop_there}
use Rattle.guarded_commands.proofs.program_reader.unquantified.Goals as goal
use Rattle.guarded_commands.specs.Grammar.{IsProg}
use Rattle.guarded_commands.specs.Programs.{program_tree}
use Rattle.std.proofs.Common.{ap, arith, length, subst}

pub returns-in-Err-Fault-clause-fault : goal.returns-in-Err-Fault-clause-fault
returns-in-Err-Fault-clause-fault c =
    stop_before c.args.tokens.now c.split_at.result.0.now c.quantifier_at.result c.in-Err-Fault.left (length c.split_at.result.1.now)
    (record { inside = c.quantifier_at.ensures.inside; before = c.quantifier_at.ensures.before; here = c.quantifier_at.ensures.here })
    c.split_at.ensures.front c.split_at.ensures.back_len
    (subst (λ (s : PartStop). IsPartStop IsProg c.split_at.result.0.now s) c.in-Err-Fault.field-0-is c.in-Err-Fault.ensures.fault)

pub returns-in-None-clause-found : goal.returns-in-None-clause-found
returns-in-None-clause-found c =
    all_read c.args.tokens.now c.split_at.result.0.now c.quantifier_at.result (length c.split_at.result.1.now) (program_tree c.in-Ok.found)
    (record { inside = c.quantifier_at.ensures.inside; before = c.quantifier_at.ensures.before; here = c.quantifier_at.ensures.here })
    c.split_at.ensures.front c.split_at.ensures.back_len c.in-None.ensures.cases c.in-Ok.ensures.found

pub returns-in-Some-clause-fault : goal.returns-in-Some-clause-fault
returns-in-Some-clause-fault c =
    stop_there c.args.tokens.now c.split_at.result.0.now c.quantifier_at.result (length c.split_at.result.1.now) (program_tree c.in-Ok.found)
    (record { inside = c.quantifier_at.ensures.inside; before = c.quantifier_at.ensures.before; here = c.quantifier_at.ensures.here })
    c.split_at.ensures.front c.split_at.ensures.back_len (omega (arith, ap length c.in-Some.ensures.cases.0)) c.in-Ok.ensures.found
