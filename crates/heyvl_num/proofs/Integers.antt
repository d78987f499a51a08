-- Laws of the integers that the standard library lacks. To import: `use
-- Rattle.heyvl_num.proofs.Integers.{ring, ring_neg}`, or
-- `using(heyvl_num::proofs::Integers::ring)`. `simp ring` proves an identity of sums and products;
-- `simp ring_neg (omega (arith, ints))` one with differences too.
use Rattle.std.proofs.Common.{◌≡◌, ℕ, ◌+◌, ◌*◌, ◌<◌, ap, refl, arith, Bool, true, false}
use Rattle.std.specs.Prelude.{◌≤ℤ◌}
use Rattle.std.specs.Int.Signed.{le_z}
use Rattle.std.proofs.Math.Dec.{T}
use Rattle.std.proofs.Math.IntN.{ℤ, pos, ◌+ℤ◌, ◌*ℤ◌, neg_ℤ, *ℤ_comm, +ℤ_comm, +ℤ_assoc}
use Rattle.std.proofs.Math.Nat.{mul-le-mul_right, le_of_mul-le-mul_right}
use borrow.Author.Differences.{up, down, same_in, product_is, sum_is_lem, neg_is, ints, le_out}

pub *ℤ_assoc : (a b c : ℤ) → (a *ℤ b) *ℤ c ≡ a *ℤ (b *ℤ c)
*ℤ_assoc a b c = same_in _ _ (omega (arith, product_is (a *ℤ b) c, product_is a (b *ℤ c), ap (λ x. x * up c) (product_is a b).0, ap (λ x. x * down c) (product_is a b).0, ap (λ x. x * up c) (product_is a b).1, ap (λ x. x * down c) (product_is a b).1, ap (λ x. up a * x) (product_is b c).0, ap (λ x. up a * x) (product_is b c).1, ap (λ x. down a * x) (product_is b c).0, ap (λ x. down a * x) (product_is b c).1))

pub *ℤ-+ℤ : (a b c : ℤ) → a *ℤ (b +ℤ c) ≡ (a *ℤ b) +ℤ (a *ℤ c)
*ℤ-+ℤ a b c = same_in _ _ (omega (arith, product_is a (b +ℤ c), product_is a b, product_is a c, sum_is_lem (a *ℤ b) (a *ℤ c), ap (λ x. up a * x) (sum_is_lem b c), ap (λ x. down a * x) (sum_is_lem b c)))

pub +ℤ-*ℤ : (a b c : ℤ) → (a +ℤ b) *ℤ c ≡ (a *ℤ c) +ℤ (b *ℤ c)
+ℤ-*ℤ a b c = rw (*ℤ_comm (a +ℤ b) c, *ℤ-+ℤ, *ℤ_comm c a, *ℤ_comm c b)

pub *ℤ_left_comm : (a b c : ℤ) → a *ℤ (b *ℤ c) ≡ b *ℤ (a *ℤ c)
*ℤ_left_comm a b c = rw (← *ℤ_assoc a b c, *ℤ_comm a b, *ℤ_assoc)

pub +ℤ_left_comm : (a b c : ℤ) → a +ℤ (b +ℤ c) ≡ b +ℤ (a +ℤ c)
+ℤ_left_comm a b c = rw (← +ℤ_assoc a b c, +ℤ_comm a b, +ℤ_assoc)

pub neg-*ℤ : (a b : ℤ) → neg_ℤ a *ℤ b ≡ neg_ℤ (a *ℤ b)
neg-*ℤ a b = same_in _ _ (omega (arith, product_is (neg_ℤ a) b, neg_is (a *ℤ b), product_is a b, ap (λ x. x * up b) (neg_is a).0, ap (λ x. x * down b) (neg_is a).0, ap (λ x. x * up b) (neg_is a).1, ap (λ x. x * down b) (neg_is a).1))

pub *ℤ-neg : (a b : ℤ) → a *ℤ neg_ℤ b ≡ neg_ℤ (a *ℤ b)
*ℤ-neg a b = rw (*ℤ_comm a (neg_ℤ b), neg-*ℤ b a, *ℤ_comm b a)

pub ruleset ring = (*ℤ-+ℤ, +ℤ-*ℤ, *ℤ_assoc, *ℤ_comm, *ℤ_left_comm, +ℤ_assoc, +ℤ_comm, +ℤ_left_comm)

pub ruleset ring_neg = (neg-*ℤ, *ℤ-neg, *ℤ-+ℤ, +ℤ-*ℤ, *ℤ_assoc, *ℤ_comm, *ℤ_left_comm, +ℤ_assoc, +ℤ_comm, +ℤ_left_comm)

pub ≤ℤ-scale : (a b : ℤ) (k : ℕ) → a ≤ℤ b → (a *ℤ pos k) ≤ℤ (b *ℤ pos k)
≤ℤ-scale a b k h = omega (arith, ints, mul-le-mul_right k (le_out a b h))

pub ≤ℤ-cancel : (a b : ℤ) (k : ℕ) → 0 < k → (a *ℤ pos k) ≤ℤ (b *ℤ pos k) → a ≤ℤ b
≤ℤ-cancel a b k p h = omega (arith, ints, le_of_mul-le-mul_right {m = up a + down b} {n = up b + down a} {k = k} (omega (arith, ints)) p)

pub one-*ℤ : (a : ℤ) → pos 1 *ℤ a ≡ a
one-*ℤ a = omega (arith, ints)

pub *ℤ-one : (a : ℤ) → a *ℤ pos 1 ≡ a
*ℤ-one a = omega (arith, ints)

pub zero_times : (a : ℤ) → pos 0 *ℤ a ≡ pos 0
zero_times a = omega (arith, ints)

pub zero-+ℤ : (a : ℤ) → pos 0 +ℤ a ≡ a
zero-+ℤ a = omega (arith, ints)

is_true : (b : Bool) → T b → b ≡ true
is_true true h = refl
is_true false h = absurd h

is_truth : (b : Bool) → b ≡ true → T b
is_truth true h = tt
is_truth false h = absurd (cc)

pub le_test : (a b : ℤ) → a ≤ℤ b → le_z a b ≡ true
le_test a b h = is_true (le_z a b) h.le

pub test_le : (a b : ℤ) → le_z a b ≡ true → a ≤ℤ b
test_le a b h = record { le = is_truth (le_z a b) h }

same_truth : (p q : Bool) → (T p → T q) → (T q → T p) → p ≡ q
same_truth true true f g = refl
same_truth true false f g = absurd (f tt)
same_truth false true f g = absurd (g tt)
same_truth false false f g = refl

pub same_test : (a b c d : ℤ) → (a ≤ℤ b → c ≤ℤ d) → (c ≤ℤ d → a ≤ℤ b) → le_z a b ≡ le_z c d
same_test a b c d f g = same_truth _ _ (λ h. (f (record { le = h })).le) (λ h. (g (record { le = h })).le)
