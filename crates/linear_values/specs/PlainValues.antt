-- The linear values of the program as those of the definitions, without pointers.
use Rattle.std.specs.Prelude.{Option, Some, None}
use Rattle.linear_values.specs.Lin.{Lin, Linear}
use Rattle.linear_values.specs.declared.lin.Lin as L

-- `lin_of l`: the linear value `l` of the program, as one of the definitions.
abbrev pub lin_of : L.Lin → Lin
lin_of l = record { terms = l.terms.items; rest = l.rest }

-- `linear_of x`: the linear value of the program or infinity, as that of the definitions.
abbrev pub linear_of : Option L.Lin → Linear
linear_of (Some l) = Some (lin_of l)
linear_of None = None
