use Rattle.heyvl_print.proofs.FilesAgain.{lexed, spells_printable}
use Rattle.heyvl_print.proofs.laws.printable_files_are_spelled.Goals as goal

pub returns-clause-spells : goal.returns-clause-spells
returns-clause-spells c = spells_printable

pub returns-clause-lexed : goal.returns-clause-lexed
returns-clause-lexed c = lexed
