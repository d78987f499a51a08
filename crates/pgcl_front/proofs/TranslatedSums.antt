-- The translation of a program has the sums of the program.
use Rattle.guarded_commands.specs.declared.stops.PgclStop.{PgclStop}
use Rattle.heyvl_syntax.specs.Procedures.{procedures}
use Rattle.heyvl_syntax.specs.declared.procedures.File.{File}
use Rattle.heyvl_syntax.specs.declared.tokens.Token.{Token}
use Rattle.pgcl_front.proofs.MainBounds.{bounds_carry_over}
use Rattle.pgcl_front.proofs.MainSums.{sums_are_equal}
use Rattle.pgcl_front.specs.EqualSums.{HasTranslatedSums}
use Rattle.std.proofs.Common.{Err, IfOk, List, Ok, Result}

pub translated_sums : (tokens : List Token) (r : Result File PgclStop) → IfOk r (λ file. HasTranslatedSums tokens (procedures file))
translated_sums tokens (Ok file) = λ t faultless. record {
  equal = sums_are_equal tokens (procedures file) t faultless;
  bounded = bounds_carry_over tokens (procedures file) t faultless;
}
translated_sums tokens (Err stop) = tt
