-- The equations of plain trees.
use Rattle.guarded_commands.specs.PlainCommands.{PlainCommands}
use Rattle.guarded_commands.specs.Programs.{command_tree}
use Rattle.guarded_commands.specs.declared.programs.Command.TheFolds.{fold-roll-Command}
use Rattle.guarded_commands.specs.declared.programs.Command.TheVariants as commands
use Rattle.std.proofs.Common.{ap, sym, ◌∙◌}

pub plain_commands : PlainCommands
plain_commands = record {
  skip = λ s. ap command_tree (sym (commands.rolls-Skip s)) ∙ fold-roll-Command _ _ _;
  assign = λ x e s. ap command_tree (sym (commands.rolls-Assign x e s)) ∙ fold-roll-Command _ _ _;
  tick = λ e s. ap command_tree (sym (commands.rolls-Tick e s)) ∙ fold-roll-Command _ _ _;
  branch = λ g a b s. ap command_tree (sym (commands.rolls-If g a b s)) ∙ fold-roll-Command _ _ _;
  mix = λ p a b s. ap command_tree (sym (commands.rolls-Mix p a b s)) ∙ fold-roll-Command _ _ _;
  choice = λ a b s. ap command_tree (sym (commands.rolls-Choice a b s)) ∙ fold-roll-Command _ _ _;
  repeat = λ g i a s. ap command_tree (sym (commands.rolls-While g i a s)) ∙ fold-roll-Command _ _ _;
}
