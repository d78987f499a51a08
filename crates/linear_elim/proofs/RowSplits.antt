-- Splitting rows by the sign of a coefficient.
use Rattle.std.proofs.Common.{◌≡◌, ℕ, List, [], ◌∷◌, ◌++◌, refl, sym, ap, ◌∙◌, arith, subst, Bool, true, false, cond}
use Rattle.std.specs.Prelude.{ℤ, pos, negsuc, Option, None}
use Rattle.std.specs.List.{filter}
use borrow.Author.Differences.{ints}
use Rattle.std.specs.Int.Signed.{lt_z}
use Prim.Native.Nat.{zero, suc}
use Rattle.heyvl_num.specs.Value.{is_zero_num}
use Rattle.linear_rows.specs.Terms.{coefficient}
use Rattle.linear_elim.specs.Joins.{Derived, is_below_zero, is_above_zero}
use Rattle.linear_elim.specs.Steps.{lowers, uppers, kept}
use Rattle.linear_elim.specs.internal.GatheredRows.{found_after, rows_after, found_all, rows_all}
use Rattle.linear_elim.proofs.JoinSequences.{found-append, rows-append}

pub filter_yes : (p : Derived → Bool) (xs : List Derived) (r : Derived) → p r ≡ true → filter p (xs ++ r ∷ []) ≡ filter p xs ++ r ∷ []
filter_yes p [] r e = ap (λ b. cond b (r ∷ []) []) e
filter_yes p (x ∷ xs) r e = go (p x) (filter_yes p xs r e)
  where
    go : (b : Bool) → filter p (xs ++ r ∷ []) ≡ filter p xs ++ r ∷ [] → cond b (x ∷ filter p (xs ++ r ∷ [])) (filter p (xs ++ r ∷ [])) ≡ cond b (x ∷ filter p xs) (filter p xs) ++ r ∷ []
    go true h = ap (λ ys. x ∷ ys) h
    go false h = h

pub filter_no : (p : Derived → Bool) (xs : List Derived) (r : Derived) → p r ≡ false → filter p (xs ++ r ∷ []) ≡ filter p xs
filter_no p [] r e = ap (λ b. cond b (r ∷ []) []) e
filter_no p (x ∷ xs) r e = go (p x) (filter_no p xs r e)
  where
    go : (b : Bool) → filter p (xs ++ r ∷ []) ≡ filter p xs → cond b (x ∷ filter p (xs ++ r ∷ [])) (filter p (xs ++ r ∷ [])) ≡ cond b (x ∷ filter p xs) (filter p xs)
    go true h = ap (λ ys. x ∷ ys) h
    go false h = h

pub record Signs (C : ℤ) (n p z : Bool) : Type 0 where
  pub negative : is_below_zero C ≡ n
  pub positive : is_above_zero C ≡ p
  pub nothing : is_zero_num C ≡ z

below : (C : ℤ) → lt_z C (pos 0) ≡ true → Signs C true false false
below (pos n) h = absurd (omega (arith, ints, h))
below (negsuc n) h = record { negative = refl; positive = refl; nothing = refl }

above : (C : ℤ) → lt_z (pos 0) C ≡ true → Signs C false true false
above (pos zero) h = absurd (omega (arith, ints, h))
above (pos (suc n)) h = record { negative = refl; positive = refl; nothing = refl }
above (negsuc n) h = absurd (omega (arith, ints, h))

level : (C : ℤ) → lt_z C (pos 0) ≡ false → lt_z (pos 0) C ≡ false → Signs C false false true
level (pos zero) h k = record { negative = refl; positive = refl; nothing = refl }
level (pos (suc n)) h k = absurd (omega (arith, ints, k))
level (negsuc n) h k = absurd (omega (arith, ints, h))

pub signs_low : (x : ℕ) (r : Derived) (c : ℤ) → c ≡ coefficient x r.row.terms → lt_z c (pos 0) ≡ true → Signs (coefficient x r.row.terms) true false false
signs_low x r c e h = below _ (subst (λ z. lt_z z (pos 0) ≡ true) e h)

pub signs_up : (x : ℕ) (r : Derived) (c : ℤ) → c ≡ coefficient x r.row.terms → lt_z (pos 0) c ≡ true → Signs (coefficient x r.row.terms) false true false
signs_up x r c e h = above _ (subst (λ z. lt_z (pos 0) z ≡ true) e h)

pub signs_none : (x : ℕ) (r : Derived) (c : ℤ) → c ≡ coefficient x r.row.terms → lt_z c (pos 0) ≡ false → lt_z (pos 0) c ≡ false → Signs (coefficient x r.row.terms) false false true
signs_none x r c e h k = level _ (subst (λ z. lt_z z (pos 0) ≡ false) e h) (subst (λ z. lt_z (pos 0) z ≡ false) e k)

pub low_yes : (x : ℕ) (xs : List Derived) (r : Derived) {p z : Bool} → Signs (coefficient x r.row.terms) true p z → lowers x (xs ++ r ∷ []) ≡ lowers x xs ++ r ∷ []
low_yes x xs r s = filter_yes (λ r. is_below_zero (coefficient x r.row.terms)) xs r s.negative

pub low_no : (x : ℕ) (xs : List Derived) (r : Derived) {p z : Bool} → Signs (coefficient x r.row.terms) false p z → lowers x (xs ++ r ∷ []) ≡ lowers x xs
low_no x xs r s = filter_no (λ r. is_below_zero (coefficient x r.row.terms)) xs r s.negative

pub up_yes : (x : ℕ) (xs : List Derived) (r : Derived) {n z : Bool} → Signs (coefficient x r.row.terms) n true z → uppers x (xs ++ r ∷ []) ≡ uppers x xs ++ r ∷ []
up_yes x xs r s = filter_yes (λ r. is_above_zero (coefficient x r.row.terms)) xs r s.positive

pub up_no : (x : ℕ) (xs : List Derived) (r : Derived) {n z : Bool} → Signs (coefficient x r.row.terms) n false z → uppers x (xs ++ r ∷ []) ≡ uppers x xs
up_no x xs r s = filter_no (λ r. is_above_zero (coefficient x r.row.terms)) xs r s.positive

pub kept_no : (x : ℕ) (xs : List Derived) (r : Derived) {n p : Bool} → Signs (coefficient x r.row.terms) n p false → kept x (xs ++ r ∷ []) ≡ kept x xs
kept_no x xs r s = filter_no (λ r. is_zero_num (coefficient x r.row.terms)) xs r s.nothing

pub kept_found : (x : ℕ) (xs : List Derived) (r : Derived) (o now : Option Derived) {n p : Bool} → Signs (coefficient x r.row.terms) n p true → o ≡ found_all (kept x xs) None → now ≡ found_after r o → now ≡ found_all (kept x (xs ++ r ∷ [])) None
unfolding found_all
kept_found x xs r o now s e h = h ∙ ap (found_after r) e ∙ sym (found-append (kept x xs) (r ∷ []) None) ∙ ap (λ ds. found_all ds None) (sym (filter_yes (λ r. is_zero_num (coefficient x r.row.terms)) xs r s.nothing))

pub kept_rows : (x : ℕ) (xs : List Derived) (r : Derived) (ks now : List Derived) {n p : Bool} → Signs (coefficient x r.row.terms) n p true → ks ≡ rows_all (kept x xs) [] → now ≡ rows_after r ks → now ≡ rows_all (kept x (xs ++ r ∷ [])) []
unfolding rows_all
kept_rows x xs r ks now s e h = h ∙ ap (rows_after r) e ∙ sym (rows-append (kept x xs) (r ∷ []) []) ∙ ap (λ ds. rows_all ds []) (sym (filter_yes (λ r. is_zero_num (coefficient x r.row.terms)) xs r s.nothing))
