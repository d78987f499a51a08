use Rattle.heyvl_print.proofs.FilesAgain.{spells}
use Rattle.heyvl_print.proofs.laws.printed_text_spells_the_file.Goals as goal

pub returns : goal.returns
returns c = spells
