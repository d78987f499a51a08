-- Which variables are visible, and that acts read only visible variables. A variable that a block
-- declares is visible from the act that first assigns it to the end of the block, so that it is
-- written before it is read.
use Rattle.std.specs.Prelude.{◌≡◌, ℕ, ◌==◌, Bool, true, false, ◌||◌, List, [], ◌∷◌, ◌++◌, Option}
use Rattle.std.specs.Prelude.{Some, None, length, leb}
use Prim.Native.Nat.{suc}
use Rattle.heyvl_num.specs.Rational.{Rational}
use Rattle.heylo_formula.specs.Formula.{Form, Cond, Term}
use Rattle.heylo_formula.specs.Variables.{is_free, is_free_in}
use Rattle.heyvl_acts.specs.Acts.{Act, Acts, Arms, TypedProcedure}

-- A set of visible variables.
abbrev pub Visible : Type 0
Visible = ℕ → Bool

-- The variables of a list.
abbrev pub among : List ℕ → Visible
among [] y = false
among (x ∷ xs) y = (x == y) || among xs y

-- The set `v` with the variable `x`.
abbrev pub shown : ℕ → Visible → Visible
shown x v y = (x == y) || v y

-- The set `v` with the variables of a list.
abbrev pub shown_all : List ℕ → Visible → Visible
shown_all [] v = v
shown_all (x ∷ xs) v = shown_all xs (shown x v)

-- The inputs and the outputs of a procedure.
abbrev pub interface : TypedProcedure → Visible
interface p y = leb (suc y) (length (p.inputs ++ p.outputs))

-- Each free variable of the form is visible.
abbrev pub Sees : Visible → Form → Type 0
Sees v f = (y : ℕ) → is_free y f ≡ true → v y ≡ true

-- Each free variable of the condition is visible.
abbrev pub SeesCond : Visible → Cond → Type 0
SeesCond v g = (y : ℕ) → is_free_in y g ≡ true → v y ≡ true

-- Each free variable of the term is visible.
abbrev pub SeesTerm : Visible → Term → Type 0
SeesTerm v (Term.truth g) = SeesCond v g
SeesTerm v (Term.number f) = Sees v f

-- Each free variable of the terms is visible.
abbrev pub SeesTerms : Visible → List Term → Type 0
SeesTerms v [] = Unit {0}
SeesTerms v (e ∷ es) = SeesTerm v e × SeesTerms v es

-- Each free variable of the terms of a draw is visible.
abbrev pub SeesParts : Visible → List (Rational × Term) → Type 0
SeesParts v [] = Unit {0}
SeesParts v (q ∷ qs) = SeesTerm v q.1 × SeesParts v qs

-- Each free variable of the ranking, if there is one, is visible.
abbrev pub SeesRank : Visible → Option (Rational × Form) → Type 0
SeesRank v None = Unit {0}
SeesRank v (Some r) = Sees v r.1

-- The variables that are visible after the act.
abbrev pub shown_by : Act → Visible → Visible
shown_by (Act.set x t span) v = shown x v
shown_by (Act.draw x qs span) v = shown x v
shown_by (Act.toss x p span) v = shown x v
shown_by (Act.any x up ty span) v = shown x v
shown_by (Act.reward f span) v = v
shown_by (Act.ifs arms e span) v = v
shown_by (Act.pick up a b span) v = v
shown_by (Act.check kind f span) v = v
shown_by (Act.validate co span) v = v
shown_by (Act.loop h b) v = v
shown_by (Act.call xs p es span) v = shown_all xs v

abbrev mutual
  -- The act reads only visible variables.
  pub ScopedAct : Visible → Act → Type 0
  ScopedAct v (Act.set x t span) = SeesTerm v t
  ScopedAct v (Act.draw x qs span) = SeesParts v qs
  ScopedAct v (Act.toss x p span) = Sees v p
  ScopedAct v (Act.any x up ty span) = Unit {0}
  ScopedAct v (Act.reward f span) = Sees v f
  ScopedAct v (Act.ifs arms e span) = ScopedArms v arms × Scoped v e
  ScopedAct v (Act.pick up a b span) = Scoped v a × Scoped v b
  ScopedAct v (Act.check kind f span) = Sees v f
  ScopedAct v (Act.validate co span) = Unit {0}
  ScopedAct v (Act.loop h b) = ((y : ℕ) → v y ≡ among h.scope y)
      × ((Sees v h.inv × (SeesCond v h.guard × SeesRank v h.rank)) × Scoped v b)
  ScopedAct v (Act.call xs p es span) = SeesTerms v es

  -- Each act reads only variables that are visible at it.
  pub Scoped : Visible → Acts → Type 0
  Scoped v Acts.done = Unit {0}
  Scoped v (Acts.next a rest) = ScopedAct v a × Scoped (shown_by a v) rest

  -- The guards and the acts of the arms read only variables that are visible at them.
  pub ScopedArms : Visible → Arms → Type 0
  ScopedArms v Arms.no_arm = Unit {0}
  ScopedArms v (Arms.arm g b more) = SeesCond v g × (Scoped v b × ScopedArms v more)
