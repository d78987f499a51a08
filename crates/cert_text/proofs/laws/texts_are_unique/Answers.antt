use Rattle.cert_text.proofs.Unique.{text_once}
use Rattle.cert_text.proofs.laws.texts_are_unique.Goals as goal

pub returns : goal.returns
returns c = text_once
