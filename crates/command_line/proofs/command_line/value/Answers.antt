use Rattle.clap.proofs.WalkLemmas.{first_value-rows}
use Rattle.clap.specs.Words.{first_of, found_of, rows_of}
use Rattle.std.proofs.Common.{None, Some, sym, ◌∙◌, ◌≡◌}
use Rattle.command_line.proofs.command_line.value.Goals as goal

pub returns-in_default : goal.returns-in_default
returns-in_default c text asked =
    let none : first_of c.args.name.now (rows_of (found_of c.args.matches.now)) ≡ None = sym (c.in_default.ensures ∙ first_value-rows (found_of c.args.matches.now) c.args.name.now) in
    cc

pub returns : goal.returns
returns c text asked =
    let some : first_of c.args.name.now (rows_of (found_of c.args.matches.now)) ≡ Some c.in-Some.text.now = sym (c.in-Some.ensures ∙ first_value-rows (found_of c.args.matches.now) c.args.name.now) in
    cc (c.in_ok-new.ensures)
