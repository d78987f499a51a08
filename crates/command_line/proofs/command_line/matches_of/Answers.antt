use Rattle.clap.specs.Words.{App, app_of, fault_of, is_simple, is_simple_and_free, subcommand_of, subcommand_rows_of, takes}
use Rattle.std.proofs.Common.{[], ap, map, string_bytes, subst, true, ◌∙◌, ◌≡◌}
use Rattle.std.proofs.lemmas.List.Folds.{list_all-map}
use Rattle.std.specs.List.{list_all}
use Rattle.command_line.proofs.ClapWords.{met_of, takes_asked, tool_is_free, tool_is_simple}
use Rattle.command_line.proofs.command_line.matches_of.Goals as goal
use Rattle.command_line.specs.internal.CommandLine.{tool}
use Rattle.command_words.specs.Words.{is_argument}

pub returns-in-Ok-clause-met : goal.returns-in-Ok-clause-met
returns-in-Ok-clause-met c =
    let tool_is : app_of c.in_ok-tool.field-0 ≡ tool = c.in_ok-tool.ensures in
    let words = map string_bytes c.args.words.now in
    let none : fault_of tool words ≡ [] = subst (λ (a : App). fault_of a words ≡ []) tool_is (c.in-Ok.ensures.kinds (ap is_simple_and_free tool_is ∙ tool_is_free)) in
    let all : list_all is_argument words ≡ true = list_all-map is_argument string_bytes c.args.words.now ∙ c.requires in
    let rows = (c.in-Ok.ensures.matches (ap is_simple tool_is ∙ tool_is_simple)).1 in
    met_of words (subcommand_rows_of c.in-Ok.matches) all none (rows ∙ ap (λ (a : App). subcommand_of a words) tool_is)

pub returns-clause-stop : goal.returns-clause-stop
returns-clause-stop c settings asked =
    let tool_is : app_of c.in_ok-tool.field-0 ≡ tool = c.in_ok-tool.ensures in
    let words = map string_bytes c.args.words.now in
    let memory = c.in-Err.ensures.passes (ap (λ (a : App). takes a words) tool_is ∙ takes_asked words settings asked) in
    let same = rw (c.kind.ensures, memory) at c.eq.ensures in
    cc (same, c.if-eq.false)
