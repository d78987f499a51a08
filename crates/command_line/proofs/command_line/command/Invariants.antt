use Rattle.clap.specs.Words.{app_of, with_rule}
use Rattle.clap.specs.declared.builder.command.Command.TheViews.{out-Command}
use Rattle.std.proofs.Common.{drop, false, fold, map, ◌≡◌}
use Rattle.command_line.proofs.command_line.command.Given as goal
use Rattle.command_line.specs.internal.CommandLine.{argument, command}

abbrev pub invariant-loop-name : goal.invariant-loop-name
invariant-loop-name l = record {
  shape : fold (λ app a. with_rule app (argument a)) (app_of l.made) (map (λ a. a.now) (drop l.name-index l.arguments)) ≡ command l.fn.name (map (λ a. a.now) l.arguments);
  local : (out-Command l.made).has_globals ≡ false;
}
