use Rattle.loop_encodings.proofs.EncodedBinders.{encoding_binds}
use Rattle.loop_encodings.proofs.EncodedOver.{encoding_over}
use Rattle.loop_encodings.proofs.laws.encodings_are_over_their_variables.Goals as goal

pub returns : goal.returns
returns c = record { over = encoding_over; binds = encoding_binds }
