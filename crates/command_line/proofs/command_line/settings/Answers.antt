use Rattle.std.proofs.Common.{map, string_bytes, sym, true, ◌∙◌, ◌≡◌}
use Rattle.std.proofs.lemmas.List.Folds.{list_all-map}
use Rattle.command_line.proofs.ClapWords.{plain_asked}
use Rattle.command_line.proofs.command_line.settings.Goals as goal
use Rattle.command_words.specs.Words.{is_argument}

pub returns-then-not-are_arguments-clause-stop : goal.returns-then-not-are_arguments-clause-stop
returns-then-not-are_arguments-clause-stop c settings asked =
    let plain = sym (list_all-map is_argument string_bytes c.args.words.now.items) ∙ plain_asked (map string_bytes c.args.words.now.items) settings asked in
    let all : c.are_arguments.result ≡ true = rw c.deref.ensures.value at c.are_arguments.ensures ∙ plain in
    let no = c.if-not-are_arguments.true in
    cc
