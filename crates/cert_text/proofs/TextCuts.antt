-- A text has only one cut at a separator.
use Prim.Native.Nat.{suc}
use Rattle.std.proofs.Common.{◌≡◌, ◌≢◌, ℕ, ℤ, pos, negsuc, ◌<◌, ◌^◌, List, [], ◌∷◌, ◌++◌, Some, length, get_or, decimal, unsigned_abs, refl, sym, ap, ◌∙◌, arith}
use Rattle.std.specs.Fmt.{signed_decimal}
use Rattle.std.specs.List.{All}
use Rattle.std.specs.Int.{IsInRange}
use Rattle.std.proofs.lemmas.Fmt.{decimal_is_IsNumeral}
use Rattle.std.proofs.lemmas.Str.Parse.{not_in_digits}
use Rattle.cert_text.proofs.Decimals.{own}
use Rattle.cert_text.specs.declared.goal_names.GoalName.{GoalName}
use Rattle.heylo_formula.specs.declared.goals.GoalId.{GoalId}
use Rattle.cert_text.specs.Lines.{multipliers_text}
use Rattle.cert_text.specs.internal.ReadStates.{IsMultiplier}
use Rattle.cert_text.specs.internal.Words.{IsFreeOf, IsEndOrAt}

pub free_from_all : (mark : ℕ) (bs : List ℕ) → All (λ b. b ≢ mark) bs → IsFreeOf mark bs
free_from_all mark [] all = tt
free_from_all mark (b ∷ bs) all = (all 0 b (omega arith), free_from_all mark bs (λ k d l. all (suc k) d (omega arith)))

free_from_reads : (mark : ℕ) (bs : List ℕ) → ((i : ℕ) → i < length bs → get_or bs i 0 ≢ mark) → IsFreeOf mark bs
free_from_reads mark [] reads = tt
free_from_reads mark (b ∷ bs) reads = (reads 0 (omega arith), free_from_reads mark bs (λ k l. reads (suc k) (omega arith)))

pub IsFreeOf-append : (mark : ℕ) (bs cs : List ℕ) → IsFreeOf mark bs → IsFreeOf mark cs → IsFreeOf mark (bs ++ cs)
IsFreeOf-append mark [] cs f g = g
IsFreeOf-append mark (b ∷ bs) cs f g = (f.0, IsFreeOf-append mark bs cs f.1 g)

-- The digits of a number do not include a byte that is no digit.
pub IsFreeOf-decimal : (mark n : ℕ) → (IsInRange 48 57 mark → ⊥) → n < 2 ^ 64 → IsFreeOf mark (decimal n)
IsFreeOf-decimal mark n apart small = free_from_reads mark (decimal n) (λ i l. not_in_digits own (decimal n) mark (decimal_is_IsNumeral n small).0.1 apart i l)

pub IsFreeOf-signed : (mark : ℕ) (m : ℤ) → (IsInRange 48 57 mark → ⊥) → 45 ≢ mark → unsigned_abs m < 2 ^ 62 → IsFreeOf mark (signed_decimal m)
IsFreeOf-signed mark (pos n) apart other small = IsFreeOf-decimal mark n apart (omega arith)
IsFreeOf-signed mark (negsuc n) apart other small = (other, IsFreeOf-decimal mark (suc n) apart (omega arith))

pub space_is_no_digit : IsInRange 48 57 32 → ⊥
space_is_no_digit r = let a = r.0 in omega arith

pub colon_is_no_digit : IsInRange 48 57 58 → ⊥
colon_is_no_digit r = let a = r.1 in omega arith

pub line_feed_is_no_digit : IsInRange 48 57 10 → ⊥
line_feed_is_no_digit r = let a = r.0 in omega arith

pub cut_once : (mark : ℕ) (a b c d : List ℕ) → IsFreeOf mark a → IsFreeOf mark c → IsEndOrAt mark b → IsEndOrAt mark d → a ++ b ≡ c ++ d → (a ≡ c) × (b ≡ d)
cut_once mark [] b [] d f g p q e = (refl, e)
cut_once mark [] [] (y ∷ c) d f g p q e = absurd (cc)
cut_once mark [] (x ∷ b) (y ∷ c) d f g p q e = let h : x ≡ y = cc in absurd (g.0 (sym h ∙ p))
cut_once mark (x ∷ a) b [] [] f g p q e = absurd (cc)
cut_once mark (x ∷ a) b [] (y ∷ d) f g p q e = let h : x ≡ y = cc in absurd (f.0 (h ∙ q))
cut_once mark (x ∷ a) b (y ∷ c) d f g p q e =
    let h : x ≡ y = cc in
    let t : a ++ b ≡ c ++ d = cc in
    let r = cut_once mark a b c d f.1 g.1 p q t in
    (ap (λ z. z ∷ a) h ∙ ap (λ z. y ∷ z) r.0, r.1)

pub cut_is : (mark : ℕ) (text before behind word more : List ℕ) → text ≡ before ++ behind → All (λ b. b ≢ mark) before → IsEndOrAt mark behind
    → IsFreeOf mark word → IsEndOrAt mark more → text ≡ word ++ more → (before ≡ word) × (behind ≡ more)
cut_is mark text before behind word more parts free at f q e = cut_once mark before behind word more (free_from_all mark before free) f at q (sym parts ∙ e)

pub cut_after_number : (mark : ℕ) (text before behind : List ℕ) (n : ℕ) (more : List ℕ) → (IsInRange 48 57 mark → ⊥) → text ≡ before ++ behind
    → All (λ b. b ≢ mark) before → IsEndOrAt mark behind → n < 2 ^ 64 → text ≡ decimal n ++ mark ∷ more → (before ≡ decimal n) × (behind ≡ mark ∷ more)
cut_after_number mark text before behind n more apart parts free at small e =
    cut_is mark text before behind (decimal n) (mark ∷ more) parts free at (IsFreeOf-decimal mark n apart small) refl e

pub multipliers_end_or_at : (ms : List (ℕ × ℕ)) → IsEndOrAt 32 (multipliers_text ms)
multipliers_end_or_at [] = tt
multipliers_end_or_at (m ∷ ms) = refl

pub multiplier_free : (mark : ℕ) (m : ℕ × ℕ) → (IsInRange 48 57 mark → ⊥) → (58 ≢ mark) → IsMultiplier m → IsFreeOf mark (decimal m.0 ++ 58 ∷ decimal m.1)
multiplier_free mark m apart other k =
    let i = k.within in
    let j = k.narrow in
    let small : m.0 < 2 ^ 64 = omega arith in
    let short : m.1 < 2 ^ 64 = omega arith in
    IsFreeOf-append mark (decimal m.0) (58 ∷ decimal m.1) (IsFreeOf-decimal mark m.0 apart small) (other, IsFreeOf-decimal mark m.1 apart short)

pub cut_after_multiplier : (text before behind : List ℕ) (m : ℕ × ℕ) (ms : List (ℕ × ℕ)) → IsMultiplier m → text ≡ before ++ behind
    → All (λ b. b ≢ 32) before → IsEndOrAt 32 behind → text ≡ (decimal m.0 ++ 58 ∷ decimal m.1) ++ multipliers_text ms
    → (before ≡ decimal m.0 ++ 58 ∷ decimal m.1) × (behind ≡ multipliers_text ms)
cut_after_multiplier text before behind m ms k parts free at e =
    cut_is 32 text before behind (decimal m.0 ++ 58 ∷ decimal m.1) (multipliers_text ms) parts free at (multiplier_free 32 m space_is_no_digit (λ h. omega arith) k) (multipliers_end_or_at ms) e

pub same_name : (p q : ℕ) (i j : GoalId) → p ≡ q → i ≡ j → let N : Type 0 = GoalName in let a : N = record { proc = p; id = i } in let b : N = record { proc = q; id = j } in Some a ≡ Some b
same_name p q i j e f = let N : Type 0 = GoalName in
    ap (λ (z : ℕ). let a : N = record { proc = z; id = i } in Some a) e ∙ ap (λ (z : GoalId). let a : N = record { proc = q; id = z } in Some a) f

pub same_split : (x : ℕ) (m : ℤ) (y : ℕ) (n : ℤ) → x ≡ y → m ≡ n → let a : ℕ × ℤ = (x, m) in let b : ℕ × ℤ = (y, n) in Some a ≡ Some b
same_split x m y n e f = ap (λ (z : ℕ). let a : ℕ × ℤ = (z, m) in Some a) e ∙ ap (λ (z : ℤ). let a : ℕ × ℤ = (y, z) in Some a) f

pub same_pair : (i m j n : ℕ) → i ≡ j → m ≡ n → let a : ℕ × ℕ = (i, m) in let b : ℕ × ℕ = (j, n) in Some a ≡ Some b
same_pair i m j n e f = ap (λ (z : ℕ). let a : ℕ × ℕ = (z, m) in Some a) e ∙ ap (λ (z : ℕ). let a : ℕ × ℕ = (j, z) in Some a) f
