use Rattle.clap.specs.Words.{App, Rule, Text, app_of, with_rule}
use Rattle.std.proofs.Common.{Bor, List, [], ap, fold, map, rules, sym, ◌∙◌}
use Rattle.std.proofs.lemmas.List.{at_drop_more}
use Rattle.command_line.proofs.command_line.command.Goals as goal
use Rattle.command_line.specs.internal.CommandLine.{argument}

with_all : App → List (Bor Text) → App
with_all app names = fold (λ a name. with_rule a (argument name)) app (map (λ name. name.now) names)

pub loop-name-preserved : goal.loop-name-preserved
unfolding with_all
loop-name-preserved c =
    let more = at_drop_more (with_all (app_of c.loop-name.made)) c.args.arguments.now c.loop-name.name-index (record { ref_ptr = (0, 0); now = [] }) (search rules) in
    let made_is = c.in_ok-made.ensures.shape c.argument.ensures.local ∙ ap (λ (r : Rule). with_rule (app_of c.loop-name.made) r) c.argument.ensures.rule in
    record {
      shape = rw made_is (sym more ∙ c.loop-name.invariant.shape);
      local = search rules;
    }
