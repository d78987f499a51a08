use Rattle.clap.specs.Words.{App, Text, with_subcommand}
use Rattle.std.proofs.Common.{List, [], ap, codes, ◌∙◌, ◌∷◌, ◌≡◌}
use Rattle.std.proofs.lemmas.Result.{IfOk-weaker}
use Rattle.command_line.proofs.command_line.tool.Goals as goal
use Rattle.command_line.specs.internal.CommandLine.{command}

-- -
more : {a b : App} (name : Text) (arguments : List Text) → a ≡ b → with_subcommand a (command name arguments).top ≡ with_subcommand b (command name arguments).top
more name arguments = ap (λ a. with_subcommand a (command name arguments).top)

pub returns : goal.returns
returns c =
    let file = codes "FILE" ∷ [] in
    let one = c.in_ok-tool.ensures ∙ more (codes "verify") file c.bare_tool.ensures in
    let two = c.in_ok-tool-2.ensures ∙ more (codes "print") file one in
    let three = c.in_ok-tool-3.ensures ∙ more (codes "run") (codes "FILE" ∷ codes "PROC" ∷ codes "SCRIPT" ∷ []) two in
    let four = c.in_ok-tool-4.ensures ∙ more (codes "certify") file three in
    let five = c.in_ok-tool-5.ensures ∙ more (codes "check") (codes "FILE" ∷ codes "CERT" ∷ []) four in
    let six = c.in_ok-tool-6.ensures ∙ more (codes "gen") (codes "N" ∷ []) five in
    let seven = c.in_ok-tool-7.ensures ∙ more (codes "pgcl") file six in
    let eight = c.in_ok-tool-8.ensures ∙ more (codes "omega") (codes "FILE" ∷ codes "PROC" ∷ codes "NAME" ∷ []) seven in
    let nine = c.in_ok-tool-9.ensures ∙ more (codes "remainder") (codes "FILE" ∷ codes "PROC" ∷ codes "NAME" ∷ []) eight in
    IfOk-weaker c.with_command-10.result _ _ (λ r h. h ∙ more (codes "refute") (codes "FILE" ∷ codes "PROC" ∷ codes "SCRIPT" ∷ []) nine) c.with_command-10.ensures
