use Rattle.linear_form.proofs.PlaceRuns.{place_stays}
use Rattle.linear_form.proofs.place_laws.places_stay.Goals as goal

pub returns : goal.returns
returns c = place_stays
