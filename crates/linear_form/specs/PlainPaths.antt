-- The comparisons and paths of the program as those of the definitions, without pointers.
use Rattle.std.specs.Prelude.{List, map}
use Rattle.linear_form.specs.Query.{Atom, Taken}
use Rattle.linear_form.specs.declared.paths.Atom as A
use Rattle.linear_form.specs.declared.paths.Taken as T
use Rattle.linear_values.specs.PlainValues.{lin_of}

-- `atom_of q`: the comparison `q` of the program, as one of the definitions.
abbrev pub atom_of : A.Atom → Atom
atom_of (A.TheVariants.Truth x) = Atom.truth x
atom_of (A.TheVariants.Row a strict) = Atom.row (lin_of a) strict

-- `taken_of p`: the answered comparison `p` of the program, as one of the definitions.
abbrev pub taken_of : T.Taken → Taken
taken_of p = record { atom = atom_of p.atom; held = p.held }

-- `path_of ps`: the path `ps` of the program, as one of the definitions.
abbrev pub path_of : List T.Taken → List Taken
path_of ps = map taken_of ps
