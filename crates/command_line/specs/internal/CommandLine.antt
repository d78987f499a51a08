-- The commands of the program as the crate `clap` describes them.
use Rattle.clap.specs.Words.{App, Rule, Text, new_app, new_rule, with_rule, with_subcommand}
use Rattle.clap.specs.declared.builder.ArgAction.TheVariants.{Set}
use Rattle.command_words.specs.Forms.{Form, forms}
use Rattle.std.specs.Prelude.{List, Some, codes, fold, map, true}

-- An argument with this name. It has one value and is required.
abbrev pub argument : Text → Rule
argument name = record (new_rule name) { action = Some Set; required = true }

-- A command with arguments of these names, in their order.
abbrev pub command : Text → List Text → App
command name arguments = fold (λ app a. with_rule app (argument a)) (new_app name) arguments

-- The program without commands: the name of the program is not among the arguments, one of the
-- arguments is a command, and there is no help.
abbrev pub bare_tool : App
bare_tool = record (new_app (codes "caesar")) {
  top = record (new_app (codes "caesar")).top {
    no_binary_name = true;
    disable_help_flag = true;
    disable_help_subcommand = true;
    subcommand_required = true;
  };
}

-- The commands of the program, in their order.
abbrev pub commands : List App
commands = map (λ (f : Form). command f.word f.names) forms

-- The program with its commands.
abbrev pub tool : App
tool = fold (λ app c. with_subcommand app c.top) bare_tool commands
