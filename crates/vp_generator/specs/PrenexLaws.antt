-- The laws of the prenexed form. They hold for every numbering: the variables of the form may even
-- be among the new ones. This project's own.
use Rattle.std.specs.Prelude.{◌≡◌, ℕ, true, false, List, [], ◌∷◌}
use Prim.Native.Nat.{suc}
use Rattle.heyvl_num.specs.Value.{Value}
use Rattle.heylo_formula.specs.Formula.{Form}
use Rattle.heylo_formula.specs.State.{Env, has, IsTyped}
use Rattle.heylo_formula.specs.Choices.{Choices}
use Rattle.heylo_formula.specs.Meaning.{value}
use Rattle.heylo_formula.specs.Binders.{has_binder}
use Rattle.heylo_formula.specs.Typing.{Types, IsFormula}
use Rattle.heylo_formula.specs.declared.values.Val.{Val}
use Rattle.heylo_formula.specs.BinderNames.{Binder, binders}
use Rattle.vp_generator.specs.PrenexedForms.{Numbering, unbound, chosen, new_types}

-- `IsFrom n ws r`: in `r`, the variables from `n` on have the values `ws`, in order.
abbrev pub IsFrom : ℕ → List Val → Env → Type 0
IsFrom n [] r = Unit {0}
IsFrom n (w ∷ ws) r = (r n ≡ w) × IsFrom (suc n) ws r

-- `TypedFrom n bs r`: in `r`, the variables from `n` on have values of the types of the binders
-- `bs`, in order.
abbrev pub TypedFrom : ℕ → List Binder → Env → Type 0
TypedFrom n [] r = Unit {0}
TypedFrom n (b ∷ bs) r = (has b.1 (r n) ≡ true) × TypedFrom (suc n) bs r

-- `TypesFrom n bs types`: in `types`, the variables from `n` on have the types of the binders `bs`,
-- in order.
abbrev pub TypesFrom : ℕ → List Binder → Types → Type 0
TypesFrom n [] types = Unit {0}
TypesFrom n (b ∷ bs) types = (types n ≡ b.1) × TypesFrom (suc n) bs types

-- `v` is the value of `f` for some choices.
pub record Found (A : Type 0) (f : Choices → A) (v : A) : Type 0 where
  pub choices : Choices
  pub same : v ≡ f choices

-- If the new variables have the values that `c` chooses, the value of the prenexed form is that of
-- `f` under `c`.
abbrev pub ChoicesAreValues : Type 0
ChoicesAreValues = (f : Form) (m : Numbering) (n : ℕ) (r : Env) (c : Choices)
    → IsFrom n (chosen f c) r → value (unbound m n f) r Choices.stop ≡ value f (λ y. r (m y)) c

-- For all values of the new variables that have their types, some choices give the same value.
abbrev pub ValuesAreChoices : Type 0
ValuesAreChoices = (f : Form) (m : Numbering) (n : ℕ) (r : Env) → TypedFrom n (binders f) r
    → Found Value (λ c. value f (λ y. r (m y)) c) (value (unbound m n f) r Choices.stop)

-- The values that `c` chooses are one for each binder, of the binder's type.
abbrev pub ChoicesAreTyped : Type 0
ChoicesAreTyped = (f : Form) (c : Choices) → IsTyped (new_types (binders f)) (chosen f c)

-- The prenexed form of a formula is a formula, if the new variables have the types of the binders.
abbrev pub PrenexedFormIsFormula : Type 0
PrenexedFormIsFormula = (f : Form) (m : Numbering) (n : ℕ) (types : Types)
    → TypesFrom n (binders f) types → IsFormula (λ y. types (m y)) f
    → IsFormula types (unbound m n f)

-- The prenexed form has no binder.
abbrev pub PrenexedFormHasNoBinder : Type 0
PrenexedFormHasNoBinder = (f : Form) (m : Numbering) (n : ℕ) → has_binder (unbound m n f) ≡ false
