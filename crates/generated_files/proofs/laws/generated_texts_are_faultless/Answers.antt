use Rattle.generated_files.proofs.GeneratedFiles.{faultless}
use Rattle.generated_files.proofs.laws.generated_texts_are_faultless.Goals as goal

pub returns : goal.returns
returns c = faultless
