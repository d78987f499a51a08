-- Laws of shifted forms.
use Rattle.std.specs.Prelude.{◌≡◌, ℕ, ◌+◌, ◌≤◌, ◌<◌, Bool, true, false}
use Rattle.heylo_formula.specs.Formula.{Form, Cond}
use Rattle.heylo_formula.specs.State.{Env}
use Rattle.heylo_formula.specs.Choices.{Choices}
use Rattle.heylo_formula.specs.Meaning.{value, holds}
use Rattle.heylo_formula.specs.Variables.{is_free, occurs, IsOver, IsOverIn}
use Rattle.heylo_formula.specs.Binders.{has_binder, has_binder_in}
use Rattle.heylo_formula.specs.Sizes.{nodes, depth}
use Rattle.heylo_formula.specs.Extrema.{is_directed}
use Rattle.heylo_formula.specs.Typing.{Types, type_of, is_well_typed}
use Rattle.heylo_formula.specs.Shifts.{shifted, shifted_in, extent, extent_in}

-- `shifted m f` has in the environment `s` the value that `f` has in the environment in which each
-- variable `y` has the value of `m + y` in `s`.
abbrev pub ShiftingMovesTheState : Type 0
ShiftingMovesTheState = (m : ℕ) (f : Form) (s : Env) (c : Choices)
    → value (shifted m f) s c ≡ value f (λ y. s (m + y)) c

-- `shifted_in m g` is true in the environment `s` if and only if `g` is true in the environment in
-- which each variable `y` has the value of `m + y` in `s`.
abbrev pub ShiftingMovesTheStateOfTruth : Type 0
ShiftingMovesTheStateOfTruth = (m : ℕ) (g : Cond) (s : Env) (c : Choices)
    → holds (shifted_in m g) s c ≡ holds g (λ y. s (m + y)) c

-- `shifted m f` has for `types` the type that `f` has if each variable `y` has the type of `m + y`
-- in `types`. For example, `shifted 2 x0` is `x2`, and has the type of the variable 2.
abbrev pub ShiftingMovesTypes : Type 0
ShiftingMovesTypes = (m : ℕ) (f : Form) (types : Types)
    → type_of types (shifted m f) ≡ type_of (λ y. types (m + y)) f

-- `shifted_in m g` is well typed for `types` if and only if `g` is well typed if each variable `y`
-- has the type of `m + y` in `types`.
abbrev pub ShiftingMovesTypesOfConditions : Type 0
ShiftingMovesTypesOfConditions = (m : ℕ) (g : Cond) (types : Types)
    → is_well_typed types (shifted_in m g) ≡ is_well_typed (λ y. types (m + y)) g

-- A shifted form has binders if and only if the form has.
abbrev pub ShiftingKeepsBinders : Type 0
ShiftingKeepsBinders = (m : ℕ) (f : Form) → has_binder (shifted m f) ≡ has_binder f

-- A shifted form is directed if and only if the form is.
abbrev pub ShiftingKeepsDirections : Type 0
ShiftingKeepsDirections = (up : Bool) (m : ℕ) (f : Form)
    → is_directed up (shifted m f) ≡ is_directed up f

-- A shifted form has as many nodes as the form, and the same depth.
abbrev pub ShiftingKeepsSizes : Type 0
ShiftingKeepsSizes = (m : ℕ) (f : Form) → (nodes (shifted m f) ≡ nodes f)
    × (depth (shifted m f) ≡ depth f)

-- `m` + `x` is free in a shifted form if and only if `x` is free in the form.
abbrev pub ShiftingMovesFreeVariables : Type 0
ShiftingMovesFreeVariables = (m x : ℕ) (f : Form) → is_free (m + x) (shifted m f) ≡ is_free x f

-- No free variable of a shifted form is below `m`.
abbrev pub NoneBelowTheShift : Type 0
NoneBelowTheShift = (m y : ℕ) (f : Form) → is_free y (shifted m f) ≡ true → m ≤ y

-- If a form is over the first `n` variables, the shifted form is over the first `m` + `n`.
abbrev pub ShiftedIsOver : Type 0
ShiftedIsOver = (m n : ℕ) (f : Form) → IsOver n f → IsOver (m + n) (shifted m f)

-- If all variables that occur are below `n`, the extent is at most `n`.
abbrev pub ExtentIsLeast : Type 0
ExtentIsLeast = (n : ℕ) (f : Form) → ((x : ℕ) → occurs x f ≡ true → x < n) → extent f ≤ n

-- If all free variables of a form without binders are below `n`, the extent is at most `n`.
abbrev pub ExtentOfFreeVariables : Type 0
ExtentOfFreeVariables = (n : ℕ) (f : Form) → has_binder f ≡ false → IsOver n f → extent f ≤ n

-- If all free variables of a condition without binders are below `n`, the extent is at most `n`.
abbrev pub ExtentOfConditions : Type 0
ExtentOfConditions = (n : ℕ) (g : Cond) → has_binder_in g ≡ false → IsOverIn n g → extent_in g ≤ n
