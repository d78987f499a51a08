-- The value and the type of a form depend only on its free variables.
use Rattle.std.specs.Prelude.{◌≡◌, ℕ, true}
use Rattle.heylo_formula.specs.Formula.{Form, Cond}
use Rattle.heylo_formula.specs.State.{Env}
use Rattle.heylo_formula.specs.Choices.{Choices}
use Rattle.heylo_formula.specs.Meaning.{value, holds}
use Rattle.heylo_formula.specs.Variables.{is_free, is_free_in}
use Rattle.heylo_formula.specs.Typing.{Types, type_of, is_well_typed}

-- A form has the same value in two environments that agree on its free variables.
abbrev pub ValuesDependOnFree : Type 0
ValuesDependOnFree = (f : Form) (s t : Env) (c : Choices)
    → ((y : ℕ) → is_free y f ≡ true → s y ≡ t y) → value f s c ≡ value f t c

-- A condition holds in both or in neither of two environments that agree on its free variables.
abbrev pub TruthDependsOnFree : Type 0
TruthDependsOnFree = (g : Cond) (s t : Env) (c : Choices)
    → ((y : ℕ) → is_free_in y g ≡ true → s y ≡ t y) → holds g s c ≡ holds g t c

-- A form has the same type for two assignments of types that agree on its free variables.
abbrev pub TypesDependOnFree : Type 0
TypesDependOnFree = (f : Form) (s t : Types) → ((y : ℕ) → is_free y f ≡ true → s y ≡ t y)
    → type_of s f ≡ type_of t f

-- A condition is well typed for both or for neither of two assignments of types that agree on its
-- free variables.
abbrev pub ConditionsDependOnFree : Type 0
ConditionsDependOnFree = (g : Cond) (s t : Types) → ((y : ℕ) → is_free_in y g ≡ true → s y ≡ t y)
    → is_well_typed s g ≡ is_well_typed t g
