-- Laws of renaming and substitution: what they keep, and the free variables and the size of the
-- result.
use Rattle.std.specs.Prelude.{◌≡◌, ◌⊎◌, ℕ, ◌≤◌, ◌<◌, Bool, true, false, []}
use Rattle.heylo_formula.specs.Formula.{Form, Cond, Term}
use Rattle.heylo_formula.specs.Variables.{is_free, is_free_in, occurs, occurs_in, occurs_in_term}
use Rattle.heylo_formula.specs.Variables.{IsOver}
use Rattle.heylo_formula.specs.Sizes.{nodes, nodes_in, depth}
use Rattle.heylo_formula.specs.Binders.{has_binder, IsPlain}
use Rattle.heylo_formula.specs.BinderNames.{binders}
use Rattle.heylo_formula.specs.Extrema.{is_directed}
use Rattle.heylo_formula.specs.Typing.{Types, retyped, type_of, is_well_typed}
use Rattle.heylo_formula.specs.Substitution.{renamed, renamed_in, subst, subst_in, as_form, as_cond}
use Rattle.heylo_formula.specs.Substitution.{nodes_put, nodes_put_in}

-- ---- Renaming

-- Renaming `y` to a variable `z` that does not occur yields the type for the types in which `y` has
-- the type of `z`.
abbrev pub RenamingKeepsTypes : Type 0
RenamingKeepsTypes = (y z : ℕ) (f : Form) (types : Types) → occurs z f ≡ false
    → type_of types (renamed y z f) ≡ type_of (retyped y (types z) types) f

-- A condition in which `y` is renamed to a variable `z` that does not occur is well typed if and
-- only if the condition is for the types in which `y` has the type of `z`.
abbrev pub RenamingKeepsConditions : Type 0
RenamingKeepsConditions = (y z : ℕ) (g : Cond) (types : Types) → occurs_in z g ≡ false
    → is_well_typed types (renamed_in y z g) ≡ is_well_typed (retyped y (types z) types) g

-- A renaming keeps the number of nodes and the depth.
abbrev pub RenamingKeepsSizes : Type 0
RenamingKeepsSizes = (y z : ℕ) (f : Form) → (nodes (renamed y z f) ≡ nodes f)
    × (depth (renamed y z f) ≡ depth f)

-- A renaming keeps binders, their names and their types.
abbrev pub RenamingKeepsBinders : Type 0
RenamingKeepsBinders = (y z : ℕ) (f : Form) → (has_binder (renamed y z f) ≡ has_binder f)
    × (binders (renamed y z f) ≡ binders f)

-- A renamed form is directed if and only if the form is.
abbrev pub RenamingKeepsDirections : Type 0
RenamingKeepsDirections = (up : Bool) (y z : ℕ) (f : Form)
    → is_directed up (renamed y z f) ≡ is_directed up f

-- A free variable of a renamed form, other than the new one, is free in the form and is not the old
-- one.
abbrev pub FreeInRenamed : Type 0
FreeInRenamed = (y w z : ℕ) (f : Form) → is_free y (renamed w z f) ≡ true
    → ((y ≡ z → ⊥) → (is_free y f ≡ true) × (y ≡ w → ⊥))

-- ---- Substitution

-- A free variable of the result is free in the form, or occurs in the term.
abbrev pub FreeInSubstitution : Type 0
FreeInSubstitution = (x y : ℕ) (t : Term) (f : Form) → is_free y (subst x t f) ≡ true
    → (is_free y f ≡ true) ⊎ (occurs_in_term y t ≡ true)

-- If the form is over the first `n` variables, and each variable that occurs in the term is below
-- `n`, the result is over the first `n` variables.
abbrev pub SubstitutionIsOver : Type 0
SubstitutionIsOver = (n x : ℕ) (t : Term) (f : Form) → IsOver n f
    → ((y : ℕ) → occurs_in_term y t ≡ true → y < n) → IsOver n (subst x t f)

-- A substitution for a variable that is not free does not change a form.
abbrev pub SubstitutionOfOthers : Type 0
SubstitutionOfOthers = (x : ℕ) (t : Term) (f : Form) → is_free x f ≡ false → subst x t f ≡ f

-- A substitution for a variable that is not free does not change a condition.
abbrev pub SubstitutionOfOthersInConditions : Type 0
SubstitutionOfOthersInConditions = (x : ℕ) (t : Term) (g : Cond) → is_free_in x g ≡ false
    → subst_in x t g ≡ g

-- The result has at least as many nodes as the form, and at least its depth.
abbrev pub SubstitutionGrows : Type 0
SubstitutionGrows = (x : ℕ) (t : Term) (f : Form) → (nodes f ≤ nodes (subst x t f))
    × (depth f ≤ depth (subst x t f))

-- The number of nodes of the result is `nodes_put`.
abbrev pub SubstitutionCounts : Type 0
SubstitutionCounts = (x : ℕ) (t : Term) (f : Form)
    → nodes (subst x t f) ≡ nodes_put x (nodes (as_form t)) (nodes_in (as_cond t)) f

-- The number of nodes of the resulting condition is `nodes_put_in`.
abbrev pub SubstitutionCountsInConditions : Type 0
SubstitutionCountsInConditions = (x : ℕ) (t : Term) (g : Cond)
    → nodes_in (subst_in x t g) ≡ nodes_put_in x (nodes (as_form t)) (nodes_in (as_cond t)) g

-- A substitution of a plain term keeps the names and types of binders.
abbrev pub SubstitutionKeepsBinderNames : Type 0
SubstitutionKeepsBinderNames = (x : ℕ) (t : Term) (f : Form) → IsPlain t
    → binders (subst x t f) ≡ binders f

-- A form without binders has no names of binders.
abbrev pub NoBinderNoName : Type 0
NoBinderNoName = (f : Form) → has_binder f ≡ false → binders f ≡ []
