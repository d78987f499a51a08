-- Variables with names, as procedures and quantifiers declare them.
use Rattle.heylo_formula.specs.declared.types.Ty.{Ty}
use Rattle.std.specs.Prelude.{List, ℕ}

-- A variable: the bytes of its name, and its type.
pub record Variable : Type 0 where
  pub name : List ℕ
  pub ty : Ty
