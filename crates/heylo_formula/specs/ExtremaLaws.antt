-- Laws of typed values and of suprema and infima.
use Rattle.std.specs.Prelude.{◌≡◌, ◌↔◌, ℕ, Bool, true, false}
use Rattle.heyvl_num.specs.Value.{Value, zeroᵛ, ◌≤ᵛ◌}
use Rattle.heylo_formula.specs.Operators.{is_finite}
use Rattle.heylo_formula.specs.State.{Env}
use Rattle.heylo_formula.specs.Choices.{Choices}
use Rattle.heylo_formula.specs.Formula.{Form, Cond, Term}
use Rattle.heylo_formula.specs.Meaning.{value}
use Rattle.heylo_formula.specs.Binders.{has_binder, IsPlain}
use Rattle.heylo_formula.specs.Substitution.{subst, subst_in}
use Rattle.heylo_formula.specs.Typing.{Types, type_of, is_well_typed, is_finite_type, fits}
use Rattle.heylo_formula.specs.Typing.{IsFormula, HasTypes, TermFits}
use Rattle.heylo_formula.specs.Goals.{Compares}
use Rattle.heylo_formula.specs.Extrema.{Means, is_directed}

-- A form of Int, UInt or UReal is finite in every state, for all choices.
abbrev pub FiniteTypesAreFinite : Type 0
FiniteTypesAreFinite = (types : Types) (f : Form) (s : Env) (c : Choices)
    → is_finite_type (type_of types f) ≡ true → is_finite (value f s c) ≡ true

-- A formula is nonnegative if its variables have values of their types.
abbrev pub FormulasAreNonnegative : Type 0
FormulasAreNonnegative = (types : Types) (f : Form) (s : Env) (c : Choices) → IsFormula types f
    → HasTypes types s → zeroᵛ ≤ᵛ value f s c

-- A form of Int, UInt or UReal without binders may be substituted for a variable.
abbrev pub FiniteTermsArePlain : Type 0
FiniteTermsArePlain = (types : Types) (f : Form) → has_binder f ≡ false
    → is_finite_type (type_of types f) ≡ true → IsPlain (Term.number f)

-- The type of a form after a substitution of a fitting term widens to its type before.
abbrev pub SubstitutionKeepsTypes : Type 0
SubstitutionKeepsTypes = (types : Types) (x : ℕ) (t : Term) (f : Form) → TermFits types (types x) t
    → fits (type_of types (subst x t f)) (type_of types f) ≡ true

-- Substituting a term that fits the type of the variable keeps a formula a formula.
abbrev pub SubstitutionKeepsFormulas : Type 0
SubstitutionKeepsFormulas = (types : Types) (x : ℕ) (t : Term) (f : Form)
    → TermFits types (types x) t → IsFormula types f → IsFormula types (subst x t f)

-- Substituting a term that fits the type of the variable keeps a condition well typed.
abbrev pub SubstitutionKeepsConditions : Type 0
SubstitutionKeepsConditions = (types : Types) (x : ℕ) (t : Term) (g : Cond)
    → TermFits types (types x) t → is_well_typed types g ≡ true
    → is_well_typed types (subst_in x t g) ≡ true

-- A form without binders means its value, and nothing else.
abbrev pub BinderFreeFormsMeanTheirValues : Type 0
BinderFreeFormsMeanTheirValues = (f : Form) (s : Env) (m : Value) → has_binder f ≡ false
    → Means f s m ↔ (m ≡ value f s Choices.stop)

-- A form means at most one value.
abbrev pub FormsMeanOneValue : Type 0
FormsMeanOneValue = (f : Form) (s : Env) (m n : Value) → Means f s m → Means f s n → m ≡ n

-- If the binders are only below operators that preserve their direction, a formula with suprema is
-- at most a value if and only if its value under every choice is; and a formula with infima is at
-- least a value if and only if its value under every choice is.
abbrev pub BoundsHoldByChoices : Type 0
BoundsHoldByChoices = (types : Types) (up : Bool) (f : Form) (s : Env) (m z : Value)
    → IsFormula types f → HasTypes types s → is_directed up f ≡ true → Means f s m
    → Compares up z m ↔ ((c : Choices) → Compares up z (value f s c))

-- Every form without binders is directed both ways.
abbrev pub BinderFreeFormsAreDirected : Type 0
BinderFreeFormsAreDirected = (up : Bool) (f : Form) → has_binder f ≡ false → is_directed up f ≡ true

-- A substitution of a plain term does not change whether a form has binders.
abbrev pub SubstitutionKeepsBinders : Type 0
SubstitutionKeepsBinders = (x : ℕ) (t : Term) (f : Form) → IsPlain t
    → has_binder (subst x t f) ≡ has_binder f

-- A directed form stays directed after a substitution of a plain term.
abbrev pub SubstitutionKeepsDirections : Type 0
SubstitutionKeepsDirections = (up : Bool) (x : ℕ) (t : Term) (f : Form) → IsPlain t
    → is_directed up f ≡ true → is_directed up (subst x t f) ≡ true
