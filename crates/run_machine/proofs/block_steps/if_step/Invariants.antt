use Rattle.std.proofs.Common.{◌≡◌, ◌+◌, ◌<◌, ◌^◌, length, drop}
use Rattle.heylo_formula.specs.State.{environment}
use Rattle.heyvl_acts.specs.Matching.{taken}
use Rattle.heyvl_acts.specs.Places.{in_order}
use Rattle.heyvl_acts.specs.PlainActs.{acts_of, arms_of}
use Rattle.run_machine.specs.BoundedStep.{guards_fit}
use Rattle.run_machine.specs.StoredMoves.{taken_place}
use Rattle.run_machine.proofs.BlockSizes.{arms_from}
use Rattle.run_machine.proofs.block_steps.if_step.Given as goal

-- The arms that are left determine the block that is taken, and its place.
abbrev pub invariant-loop-arm : goal.invariant-loop-arm
invariant-loop-arm l = record {
  room : l.at + arms_from l.arms l.arm-index + length (in_order (acts_of l.other)) < 2 ^ 31;
  fits : guards_fit (arms_of l.arms) l.config.state.items ≡ guards_fit (arms_of (drop l.arm-index l.arms)) l.config.state.items;
  place : taken_place l.place (arms_of l.arms) (environment l.config.state.items) ≡ taken_place l.at (arms_of (drop l.arm-index l.arms)) (environment l.config.state.items);
  block : taken (arms_of l.arms) (acts_of l.other) (environment l.config.state.items) ≡ taken (arms_of (drop l.arm-index l.arms)) (acts_of l.other) (environment l.config.state.items);
}
