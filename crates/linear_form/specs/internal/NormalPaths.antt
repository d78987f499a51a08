-- Paths whose comparisons are of values with increasing variables and without zero coefficients.
use Rattle.std.specs.Prelude.{List, [], ◌∷◌}
use Rattle.linear_values.specs.Lin.{AreNormal}
use Rattle.linear_form.specs.Query.{Atom, Taken}

abbrev pub IsNormalAtom : Atom → Type 0
IsNormalAtom (Atom.truth x) = Unit {0}
IsNormalAtom (Atom.row a strict) = AreNormal a.terms

abbrev pub IsNormalPath : List Taken → Type 0
IsNormalPath [] = Unit {0}
IsNormalPath (p ∷ ps) = IsNormalAtom p.atom × IsNormalPath ps
