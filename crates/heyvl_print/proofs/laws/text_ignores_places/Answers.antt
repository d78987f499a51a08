use Rattle.heyvl_print.proofs.SameTexts.{ignores_places}
use Rattle.heyvl_print.proofs.laws.text_ignores_places.Goals as goal

pub returns : goal.returns
returns c = ignores_places
