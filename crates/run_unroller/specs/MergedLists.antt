-- Lists of weighted elements, such as runs, in which equal elements are merged. This project's own.
use Rattle.std.specs.Prelude.{List, [], ◌∷◌, Bool, Option, Some, None, if◌then◌else◌}
use Rattle.heyvl_num.specs.Rational.{Rational, ◌+ʳ◌}

-- `put same x es`: the list `es` with `x`. Its weight is added to that of the first element of `es`
-- that is the same; if there is none, `x` becomes the last element.
abbrev pub put : {A : Type 0} → (A → A → Bool) → Rational × A → List (Rational × A)
    → List (Rational × A)
put same x [] = x ∷ []
put same x (e ∷ es) = if same x.1 e.1 then (e.0 +ʳ x.0, e.1) ∷ es else e ∷ put same x es

-- The list `es` after each element of `xs` is put into it, in order.
unfoldable pub merged_onto : {A : Type 0} → (A → A → Bool) → List (Rational × A)
    → List (Rational × A) → List (Rational × A)
merged_onto same es [] = es
merged_onto same es (x ∷ xs) = merged_onto same (put same x es) xs

-- The list in which equal elements are merged at the place of the first of them. The list of (1/4,
-- a), (1/2, b) and (1/4, a) becomes (1/2, a) and (1/2, b).
abbrev pub merged : {A : Type 0} → (A → A → Bool) → List (Rational × A) → List (Rational × A)
merged same xs = merged_onto same [] xs

-- The weight of the element `a` in a list, if it is there.
abbrev pub held : {A : Type 0} → (A → A → Bool) → A → List (Rational × A) → Option Rational
held same a [] = None
held same a (e ∷ es) = if same a e.1 then Some e.0 else held same a es
