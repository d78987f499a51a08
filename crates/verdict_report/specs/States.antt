-- A goal's state in a report. The values of some variables are always shown, those of binders only
-- if they are neither 0 nor false. This project's own.
use Rattle.heylo_formula.specs.State.{get}
use Rattle.heylo_formula.specs.declared.values.Val.{Val}
use Rattle.heylo_formula.specs.declared.values.Val.TheVariants.{Truth, Num}
use Rattle.std.specs.Prelude.{Bool, List, [], codes, drop, if◌then◌else◌, map, not, unsigned_abs}
use Rattle.std.specs.Prelude.{◌++◌, ◌==◌, ◌∷◌, ℕ}
use Rattle.verdict_report.specs.Settings.{Names, settings_text}
use Prim.Native.Nat.{suc}

-- Whether the value of a binder is shown.
abbrev pub is_telling : Val → Bool
is_telling (Truth b) = b
is_telling (Num q) = not (unsigned_abs q.num == 0)

-- The binders whose values are shown, with these values. The first binder has the number `x`.
abbrev pub telling : ℕ → List Val → List (ℕ × Val)
telling x [] = []
telling x (v ∷ vs) = if is_telling v then (x, v) ∷ telling (suc x) vs else telling (suc x) vs

-- The variables `xs` with their values in `s`.
abbrev pub valued : List Val → List ℕ → List (ℕ × Val)
valued s xs = map (λ x. (x, get x s)) xs

-- What is shown of the state `s`: the variables `xs`, then the binders, which have the numbers from
-- `own` on.
abbrev pub state_settings : ℕ → List ℕ → List Val → List (ℕ × Val)
state_settings own xs s = valued s xs ++ telling own (drop own s)

-- The settings with commas between them, or `any state` if there are none.
abbrev pub listed_text : Names → List (ℕ × Val) → List ℕ
listed_text n [] = codes "any state"
listed_text n (p ∷ ps) = settings_text n (p ∷ ps)

-- The text of a state: the variables `xs`, and the binders whose values are shown.
abbrev pub state_text : Names → List ℕ → List Val → List ℕ
state_text n xs s = listed_text n (state_settings n.own xs s)
