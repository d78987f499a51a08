-- Variables that are moved, and then renamed one by one to those at their positions, end at their
-- positions.
use Rattle.std.proofs.Common.{◌≡◌, ◌∙◌, ◌<◌, ◌≤◌, ◌+◌, ◌==◌, ℕ, refl, ap, arith, Bool, true, false, cond, List, [], ◌∷◌, length, take, get_or}
use Rattle.std.proofs.lemmas.List.{take_all}
use Prim.Native.Nat.{zero, suc}
use Rattle.heylo_formula.specs.Binders.{has_binder}
use Rattle.heylo_formula.specs.Formula.{Form}
use Rattle.heylo_formula.specs.Substitution.{renamed}
use Rattle.heylo_formula.specs.Variables.{IsOver}
use Rattle.heyvl_acts.specs.Rules.{Each}
use Rattle.vp_generator.specs.PrenexedForms.{unbound}
use Rattle.lower_goals.specs.OmegaPairs.{by_position}
use Rattle.lower_goals.proofs.PlacedForms.{renamed_is, same_is}

-- ---- Numbers

alike : (x : ℕ) → (x == x) ≡ true
alike x = grind arith

pick_first : (b : Bool) (x u : ℕ) → b ≡ true → cond b x u ≡ x
pick_first true x u e = refl
pick_first false x u e = absurd (cc)

pick_second : (b : Bool) (x u : ℕ) → b ≡ false → cond b x u ≡ u
pick_second true x u e = absurd (cc)
pick_second false x u e = refl

above : (w x d : ℕ) → x < d → d ≤ w → (w == x) ≡ false
above w x d l h = go (w == x) refl
  where
    go : (b : Bool) → (w == x) ≡ b → b ≡ false
    go true e = let i : w ≡ x = grind arith in absurd (omega (arith, i, l, h))
    go false e = refl

next_same : (x y : ℕ) → (suc x == suc y) ≡ (x == y)
next_same x y = go (x == y) refl
  where
    go : (b : Bool) → (x == y) ≡ b → (suc x == suc y) ≡ b
    go true e = grind arith
    go false e = grind arith

same_sum : (d x y : ℕ) → ((d + x) == (d + y)) ≡ (x == y)
same_sum d x y = go (x == y) refl
  where
    go : (b : Bool) → (x == y) ≡ b → ((d + x) == (d + y)) ≡ b
    go true e = grind arith
    go false e = grind arith

-- ---- One more position

moved_step : (xs : List ℕ) (d w u i y : ℕ) → Each (λ x. x < d) xs → i < length xs → d ≤ w → (w == u) ≡ (i == y) → cond (w == get_or (take i xs) y u) (get_or xs i 0) (get_or (take i xs) y u) ≡ get_or (take (suc i) xs) y u
moved_step [] d w u i y near lt le e = absurd (omega (arith, lt))
moved_step (x ∷ xs) d w u zero zero near lt le e = pick_first (w == u) x u (e ∙ alike 0)
moved_step (x ∷ xs) d w u zero (suc y) near lt le e = pick_second (w == u) x u (e ∙ other y)
  where
    other : (y : ℕ) → (0 == suc y) ≡ false
    other y = grind arith
moved_step (x ∷ xs) d w u (suc i) zero near lt le e = pick_second (w == x) (get_or xs i 0) x (above w x d near.0 le)
moved_step (x ∷ xs) d w u (suc i) (suc y) near lt le e = moved_step xs d w u i y near.1 (omega (arith, lt)) le (e ∙ next_same i y)

-- The variables at the first positions are placed, the others are still moved.
abbrev pub IsMoved : ℕ → List ℕ → ℕ → Form → Form → Type 0
IsMoved d xs i f g = g ≡ unbound (λ y. get_or (take i xs) y (d + y)) 0 f

pub move_more : (d : ℕ) (xs : List ℕ) (i w z : ℕ) (f g h : Form) → has_binder f ≡ false → Each (λ x. x < d) xs → i < length xs → w ≡ d + i → z ≡ get_or xs i 0 → IsMoved d xs i f g → h ≡ renamed w z g → IsMoved d xs (i + 1) f h
move_more d xs i w z f g h plain near lt ew ez m e =
    let n : suc i ≡ i + 1 = omega arith in
    e ∙ (ap (λ v. renamed v z g) ew ∙ (ap (λ v. renamed (d + i) v g) ez ∙ (ap (λ v. renamed (d + i) (get_or xs i 0) v) m ∙ (renamed_is (d + i) (get_or xs i 0) 0 (λ y. get_or (take i xs) y (d + y)) (λ y. get_or (take (suc i) xs) y (d + y)) f plain (λ y j. moved_step xs d (d + i) (d + y) i y near lt (omega arith) (same_sum d i y)) ∙ ap (λ k. unbound (λ y. get_or (take k xs) y (d + y)) 0 f) n))))

get_any : (xs : List ℕ) (y u v : ℕ) → y < length xs → get_or xs y u ≡ get_or xs y v
get_any [] y u v lt = absurd (omega (arith, lt))
get_any (x ∷ xs) zero u v lt = refl
get_any (x ∷ xs) (suc y) u v lt = get_any xs y u v (omega (arith, lt))

pub all_moved : (d : ℕ) (xs : List ℕ) (i : ℕ) (f g : Form) → has_binder f ≡ false → IsOver (length xs) f → length xs ≤ i → IsMoved d xs i f g → g ≡ unbound (by_position xs) 0 f
all_moved d xs i f g plain over le m = m ∙ (ap (λ l. unbound (λ y. get_or l y (d + y)) 0 f) (take_all i xs le) ∙ same_is 0 (λ y. get_or xs y (d + y)) (by_position xs) f plain (λ y j. get_any xs y (d + y) 0 (over y j)))
