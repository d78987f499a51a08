-- The first `*/`.
use Rattle.heyvl_syntax.specs.Comments.{closes_at}
use Rattle.heyvl_syntax.specs.internal.Fronts.{close_from}
use Rattle.std.proofs.Common.{Bool, List, None, Some, [], arith, cond, false, refl, suc, true, zero, ◌+◌, ◌<◌, ◌∷◌, ◌≡◌, ℕ}

closes_nowhere : (k : ℕ) → closes_at [] k ≡ false
closes_nowhere zero = refl
closes_nowhere (suc k) = refl

pub never_closes : (n : ℕ) (bytes : List ℕ) → close_from n bytes ≡ None → (k : ℕ) → closes_at bytes k ≡ false
never_closes n [] h k = closes_nowhere k
never_closes n (b ∷ bs) h k = pick (closes_at (b ∷ bs) 0) refl h (never_closes (n + 1) bs) k
  where
    pick : (here : Bool) → closes_at (b ∷ bs) 0 ≡ here → cond here (Some n) (close_from (n + 1) bs) ≡ None → (close_from (n + 1) bs ≡ None → (k : ℕ) → closes_at bs k ≡ false) → (k : ℕ) → closes_at (b ∷ bs) k ≡ false
    pick true e h later k = cc
    pick false e h later zero = e
    pick false e h later (suc k) = later h k

-- The `*/` at `inner` is the first one.
pub record IsFirstClose (bytes : List ℕ) (inner : ℕ) : Type 0 where
  pub closes : closes_at bytes inner ≡ true
  pub first : (k : ℕ) → k < inner → closes_at bytes k ≡ false

pub closes_first : (n : ℕ) (bytes : List ℕ) (place : ℕ) → close_from n bytes ≡ Some place → (inner : ℕ) × (place ≡ n + inner) × IsFirstClose bytes inner
closes_first n [] place h = absurd (cc)
closes_first n (b ∷ bs) place h = pick (closes_at (b ∷ bs) 0) refl h (closes_first (n + 1) bs place)
  where
    later : (inner : ℕ) → place ≡ n + 1 + inner → IsFirstClose bs inner → closes_at (b ∷ bs) 0 ≡ false → IsFirstClose (b ∷ bs) (suc inner)
    later inner e r here = record { closes = r.closes; first = before }
      where
        before : (k : ℕ) → k < suc inner → closes_at (b ∷ bs) k ≡ false
        before zero l = here
        before (suc k) l = r.first k (omega arith)

    next : closes_at (b ∷ bs) 0 ≡ false → ((inner : ℕ) × (place ≡ n + 1 + inner) × IsFirstClose bs inner) → (inner : ℕ) × (place ≡ n + inner) × IsFirstClose (b ∷ bs) inner
    next here (inner, e, r) = (suc inner, omega (arith, e), later inner e r here)

    none : (k : ℕ) → k < 0 → closes_at (b ∷ bs) k ≡ false
    none k l = absurd (omega arith)

    pick : (here : Bool) → closes_at (b ∷ bs) 0 ≡ here → cond here (Some n) (close_from (n + 1) bs) ≡ Some place → (close_from (n + 1) bs ≡ Some place → (inner : ℕ) × (place ≡ n + 1 + inner) × IsFirstClose bs inner) → (inner : ℕ) × (place ≡ n + inner) × IsFirstClose (b ∷ bs) inner
    pick true e h rest = let same : n ≡ place = cc in (0, omega (arith, same), record { closes = e; first = none })
    pick false e h rest = next e (rest h)
