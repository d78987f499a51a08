use Rattle.generated_files.proofs.Lengths.{short}
use Rattle.generated_files.proofs.laws.generated_texts_are_short.Goals as goal

pub returns : goal.returns
returns c = short
