-- The canonical text of a number literal. This project's own.
use Rattle.heyvl_syntax.specs.declared.literals.Lit.{Lit}
use Rattle.std.specs.Fmt.{decimal}
use Rattle.std.specs.Prelude.{List, cond, drop, length, replicate, take, unsigned_abs, ◌+◌, ◌++◌}
use Rattle.std.specs.Prelude.{◌-◌, ◌==◌, ◌∷◌, ℕ}

-- The digits, with zeros before them so that there are more than `places` digits. Example: one
-- place and the digit 5 give `05`.
abbrev pub padded : ℕ → List ℕ → List ℕ
padded places digits = replicate (places + 1 - length digits) 48 ++ digits

-- The digits with a point before the last `places` of them, and without a point if `places` is 0.
abbrev pub pointed : ℕ → List ℕ → List ℕ
pointed places digits =
    cond (places == 0) digits
    (take (length digits - places) digits ++ 46 ∷ drop (length digits - places) digits)

-- The text of a literal: `0.5` for the digits 5 with one place. No literal has a sign, and none is
-- printed.
abbrev pub number_text : Lit → List ℕ
number_text lit = pointed lit.places (padded lit.places (decimal (unsigned_abs lit.digits)))
