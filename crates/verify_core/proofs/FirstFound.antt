-- Lists gathered from acts, and the act that a number finds first.
use Rattle.std.proofs.Common.{◌≡◌, ℕ, true, false, cond, ◌≤◌, ◌==◌, ap, ◌∙◌, arith, List, [], ◌∷◌}
use Rattle.std.specs.Prelude.{Option, Some}
use Prim.Native.Nat.{suc}
use Rattle.heyvl_acts.specs.Acts.{Act}
use Rattle.heyvl_acts.specs.Rules.{Each}

-- A number from `from` on finds an item among the acts, and `Says` relates the number, the item and
-- `x`.
pub record IsFirst {C X : Type 0} (find : ℕ → List Act → Option C) (Says : ℕ → C → X → Type 0) (from : ℕ) (acts : List Act) (x : X) : Type 0 where
  pub number : ℕ
  pub item : C
  pub least : from ≤ number
  pub found : find number acts ≡ Some item
  pub says : Says number item x

-- After an act that no number finds.
pub same_from : {C X : Type 0} (find : ℕ → List Act → Option C) (Says : ℕ → C → X → Type 0) (from : ℕ) (acts more : List Act) (xs : List X) → ((n : ℕ) → find n more ≡ find n acts) → Each (IsFirst find Says from acts) xs → Each (IsFirst find Says from more) xs
same_from find Says from acts more [] e h = tt
same_from find Says from acts more (x ∷ xs) e h = (record { number = h.0.number; item = h.0.item; least = h.0.least; found = e h.0.number ∙ h.0.found; says = h.0.says }, same_from find Says from acts more xs e h.1)

-- After a loop of a lower number.
pub further : {C X : Type 0} (find : ℕ → List Act → Option C) (Says : ℕ → C → X → Type 0) (from : ℕ) (acts more : List Act) (xs : List X) → ((n : ℕ) → suc from ≤ n → find n more ≡ find n acts) → Each (IsFirst find Says (suc from) acts) xs → Each (IsFirst find Says from more) xs
further find Says from acts more [] e h = tt
further find Says from acts more (x ∷ xs) e h = (record { number = h.0.number; item = h.0.item; least = let l = h.0.least in omega (arith, l); found = e h.0.number h.0.least ∙ h.0.found; says = h.0.says }, further find Says from acts more xs e h.1)

pub other_number : {C : Type 0} (from n : ℕ) (item : C) (rest : Option C) → suc from ≤ n → cond (from == n) (Some item) rest ≡ rest
other_number from n item rest lt = ap (λ b. cond b (Some item) rest) (different from n lt)
  where
    different : (m n : ℕ) → suc m ≤ n → (m == n) ≡ false
    different m n l = grind arith

pub own_number : {C : Type 0} (n : ℕ) (item : C) (rest : Option C) → cond (n == n) (Some item) rest ≡ Some item
own_number n item rest = ap (λ b. cond b (Some item) rest) (same n)
  where
    same : (n : ℕ) → (n == n) ≡ true
    same n = grind arith
