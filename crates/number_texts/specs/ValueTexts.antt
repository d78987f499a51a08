-- The texts of fractions, of values and of places. This project's own.
use Rattle.heyvl_num.specs.Rational.{Rational}
use Rattle.heylo_formula.specs.declared.values.Val.{Val}
use Rattle.heylo_formula.specs.declared.values.Val.TheVariants.{Truth, Num}
use Rattle.heyvl_places.specs.Places.{line_of, column_of}
use Rattle.std.specs.Fmt.{signed_decimal}
use Rattle.std.specs.Prelude.{List, [], codes, decimal, false, if◌then◌else◌, true, ◌++◌, ◌==◌, ℕ}

-- A fraction in lowest terms: `p`, or `p/q`. The text of 6/4 is `3/2`.
abbrev pub fraction_text : Rational → List ℕ
fraction_text q = signed_decimal q.num ++ (if q.den == 1 then [] else codes "/" ++ decimal q.den)

-- The value of a variable: `true`, `false`, or a fraction.
abbrev pub value_text : Val → List ℕ
value_text (Truth true) = codes "true"
value_text (Truth false) = codes "false"
value_text (Num q) = fraction_text q

-- `LINE:COLUMN` of the byte with the index `at`.
abbrev pub place_text : List ℕ → ℕ → List ℕ
place_text bytes at = decimal (line_of bytes at) ++ codes ":" ++ decimal (column_of bytes at)
