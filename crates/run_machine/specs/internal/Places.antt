-- Which configurations have items after the first one, and where acts are in the text of a body.
use Rattle.std.specs.Prelude.{◌≡◌, ◌+◌, ℕ, List, [], ◌∷◌, Some, reverse}
use Rattle.heyvl_acts.specs.Acts.{Act, TypedProcedure}
use Rattle.heyvl_acts.specs.Places.{nth, acts_of_procedure}
use Rattle.run_machine.specs.Names.{Numbered, Lists, Stored}

-- If there are callers, there is an item after the first.
abbrev pub GoesOn : List Numbered → List Lists → Type 0
GoesOn is [] = Unit {0}
GoesOn [] (f ∷ fs) = ⊥
GoesOn (i ∷ []) (f ∷ fs) = ⊥
GoesOn (i ∷ (j ∷ is)) (f ∷ fs) = Unit {0}

abbrev pub Continues : Stored → Type 0
Continues c = GoesOn c.items (reverse c.frames)

-- `Stands xs n ys`: `ys` is the part of `xs` that starts at the index `n`.
abbrev pub Stands : List Act → ℕ → List Act → Type 0
Stands xs n ys = (k : ℕ) (a : Act) → nth ys k ≡ Some a → nth xs (n + k) ≡ Some a

-- The acts of the body of procedure `p`, in the order of the text.
abbrev pub text : List TypedProcedure → ℕ → List Act
text ps p = acts_of_procedure (nth ps p)
