use Rattle.spelled_files.proofs.SpelledFiles.{stand_within}
use Rattle.spelled_files.proofs.file_laws.files_stand_within.Goals as goal

pub returns : goal.returns
returns c = stand_within
