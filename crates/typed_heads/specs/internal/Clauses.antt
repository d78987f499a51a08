-- Joining the clauses of a procedure one by one.
use Rattle.heylo_formula.specs.Formula.{Form}
use Rattle.static_rules.specs.Files.{clause, joined_with}
use Rattle.std.specs.Prelude.{Bool, List, None, Option, Some}

-- The clauses joined so far, if there are any, joined with the clauses `fs`.
abbrev pub joined_behind : Bool → Option Form → List Form → Form
joined_behind co None fs = clause co fs
joined_behind co (Some f) fs = joined_with co f fs
