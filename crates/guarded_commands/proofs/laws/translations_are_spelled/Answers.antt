use Rattle.guarded_commands.proofs.ProgramsAgain.{translations_spell}
use Rattle.guarded_commands.proofs.laws.translations_are_spelled.Goals as goal

pub returns : goal.returns
returns c = translations_spell c.printable_files_are_spelled.ensures.spells c.printable_files_are_spelled.ensures.lexed c.text_ignores_places.ensures
