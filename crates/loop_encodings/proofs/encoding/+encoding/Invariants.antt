use Rattle.std.proofs.Common.{◌≡◌, ◌+◌}
use Rattle.heyvl_acts.specs.Acts.{Act}
use Rattle.heyvl_acts.specs.PlainActs.{act_of, acts_of, arms_of, procedure_of, procedures_of}
use Rattle.loop_encodings.specs.internal.Ready.{plain_variables}
use Rattle.loop_encodings.proofs.Steps.{ArmTurns, Turns}
use Rattle.heyvl_acts.proofs.exported.Weights.{weight, weight_of}
use Rattle.loop_encodings.proofs.encoding.+encoding.Given as goal

abbrev pub decreases-encoded_acts : goal.decreases-encoded_acts
decreases-encoded_acts l = 1 + weight_of (acts_of l.acts.now)

abbrev pub decreases-add_act : goal.decreases-add_act
decreases-add_act l = weight (act_of l.act.now)

-- The encoding so far and the acts that are left make the encoding of all acts.
abbrev pub invariant-encoded_acts-loop-act : goal.invariant-encoded_acts-loop-act
invariant-encoded_acts-loop-act l = Turns (procedures_of l.typed) (procedure_of l.procedure) (plain_variables l.initial.vars.items) (plain_variables l.vars.items) l.acts l.made.items l.act-index

-- The encoded arms so far and those that are left make all arms, and the act is the if of these
-- arms.
abbrev pub invariant-add_act-loop-arm : goal.invariant-add_act-loop-arm
invariant-add_act-loop-arm l = ArmTurns (procedures_of l.typed) (procedure_of l.procedure) (plain_variables l.initial.vars.items) (plain_variables l.vars.items) l.arm-items l.encoded.items l.arm-index × (act_of l.act ≡ Act.ifs (arms_of l.arm-items) (acts_of l.other.items) l.span)
