-- The values of number literals. This project's own.
use Rattle.heyvl_num.specs.Rational.{Rational, ratio}
use Rattle.heyvl_num.specs.Value.{is_zero_num}
use Rattle.heyvl_syntax.specs.declared.literals.Lit.{Lit}
use Rattle.std.specs.Int.Signed.{le_z}
use Rattle.std.specs.Prelude.{Bool, nat_le, pos, unsigned_abs, ◌&&◌, ◌^◌}

-- Whether a text can spell the literal: it has no sign and at most 38 places.
abbrev pub is_written : Lit → Bool
is_written n = le_z (pos 0) n.digits && nat_le n.places 38

-- The value of a literal: `0.5` has the digits 5, one place and the value 1/2.
unfoldable pub literal_value : Lit → Rational
literal_value n = ratio n.digits (10 ^ n.places)

-- One divided by the value of a literal, which is not 0.
unfoldable pub inverse_value : Lit → Rational
inverse_value n = ratio (pos (10 ^ n.places)) (unsigned_abs n.digits)

-- Whether the value of a literal is 0.
abbrev pub is_zero_literal : Lit → Bool
is_zero_literal n = is_zero_num n.digits
