-- A shift that satisfies lower and upper bounds, if each lower bound is compatible with each upper
-- bound.
--
-- A lower bound `a` demands that `limit a / scale a` is at most the shift. An upper bound `b`
-- demands that the shift is at most `- limit b / scale b`.
use Rattle.std.proofs.Common.{◌≡◌, ℕ, ◌*◌, ◌+◌, ◌<◌, List, [], ◌∷◌, arith, Bool, true, false, ◌||◌}
use Rattle.std.specs.Prelude.{ℤ, pos, negsuc, ◌+ℤ◌, ◌*ℤ◌, ◌≤ℤ◌, ◌<ℤ◌}
use Rattle.std.proofs.Math.IntN.{◌-ℤ◌, neg_ℤ}
use Rattle.std.proofs.Math.Nat.{mul-pos, zero-lt-suc}
use borrow.Author.Differences.{ints}
use Rattle.std.specs.List.{All}
use Rattle.std.proofs.lemmas.List.Elements.{All-nil, All-cons, All-head, All-tail, All-weaker}
use Rattle.std.proofs.lemmas.Int.{by_lt_z}
use Rattle.heyvl_num.proofs.exported.Integers.{ring, ring_neg, ≤ℤ-scale, ≤ℤ-cancel}
use Rattle.linear_rows.specs.Points.{IsBelow}
use Prim.Native.Nat.{zero, suc}

-- ---- Signs
pub below-weak : (t : Bool) (z : ℤ) → IsBelow t z → z ≤ℤ pos 0
below-weak true z h = omega (arith, ints)
below-weak false z h = h

pub below-strong : (t : Bool) (z : ℤ) → z <ℤ pos 0 → IsBelow t z
below-strong true z h = h
below-strong false z h = omega (arith, ints)

pub below-scale : (t : Bool) (k : ℕ) (z : ℤ) → 0 < k → IsBelow t z → IsBelow t (pos k *ℤ z)
below-scale true k (pos n) p h = absurd (omega (arith, ints, h))
below-scale true k (negsuc n) p h = omega (arith, ints)
below-scale false k (pos n) p h = let e : n ≡ 0 = omega (arith, ints) in rw e (omega (arith, ints))
below-scale false k (negsuc n) p h = omega (arith, ints)

pub nonpositive-scale : (k : ℕ) (z : ℤ) → z ≤ℤ pos 0 → (pos k *ℤ z) ≤ℤ pos 0
nonpositive-scale k (pos n) h = let e : n ≡ 0 = omega (arith, ints) in rw e (omega (arith, ints))
nonpositive-scale k (negsuc n) h = omega (arith, ints)

pub below-cancel : (t : Bool) (k : ℕ) (z : ℤ) → 0 < k → IsBelow t (pos k *ℤ z) → IsBelow t z
below-cancel true zero z p h = absurd (omega arith)
below-cancel true (suc k) (pos n) p h = absurd (omega (arith, ints, h))
below-cancel true (suc k) (negsuc n) p h = omega (arith, ints)
below-cancel false zero z p h = absurd (omega arith)
below-cancel false (suc k) (pos zero) p h = omega (arith, ints)
below-cancel false (suc k) (pos (suc n)) p h = absurd (omega (arith, ints, h))
below-cancel false (suc k) (negsuc n) p h = omega (arith, ints)

pub below-or_left : (s t : Bool) (z : ℤ) → IsBelow (s || t) z → IsBelow s z
below-or_left true t z h = h
below-or_left false t z h = below-weak t z h

pub below-or_right : (s t : Bool) (z : ℤ) → IsBelow (s || t) z → IsBelow t z
below-or_right true true z h = h
below-or_right true false z h = below-weak true z h
below-or_right false t z h = h

-- In a sum, one of the two may be strict.
pub below-sum : (t : Bool) (a b : ℤ) → a ≤ℤ pos 0 → IsBelow t b → IsBelow t (a +ℤ b)
below-sum true a b h k = omega (arith, ints)
below-sum false a b h k = omega (arith, ints)

pub below-both : (s t : Bool) (a b : ℤ) → IsBelow s a → IsBelow t b → IsBelow (s || t) (a +ℤ b)
below-both true true a b h k = omega (arith, ints)
below-both true false a b h k = omega (arith, ints)
below-both false true a b h k = omega (arith, ints)
below-both false false a b h k = omega (arith, ints)

pub below-same : (t : Bool) (y z : ℤ) → y ≡ z → IsBelow t z → IsBelow t y
below-same t y z e h = rw e h

pub All-both : {A : Type 0} (P Q R : A → Type 0) → ((x : A) → P x → Q x → R x) → (xs : List A) → All P xs → All Q xs → All R xs
All-both P Q R f [] p q = All-nil _
All-both P Q R f (x ∷ xs) p q = All-cons R x xs (f x (All-head P x xs p) (All-head Q x xs q)) (All-both P Q R f xs (All-tail P x xs p) (All-tail Q x xs q))

pub All-every : {A : Type 0} (P : A → Type 0) → ((x : A) → P x) → (xs : List A) → All P xs
All-every P f [] = All-nil _
All-every P f (x ∷ xs) = All-cons P x xs (f x) (All-every P f xs)

pub All-swap : {A B : Type 0} (R : A → B → Type 0) → (xs : List A) (ys : List B) → All (λ x. All (λ y. R x y) ys) xs → All (λ y. All (λ x. R x y) xs) ys
All-swap R [] ys h = All-every (λ y. All (λ x. R x y) []) (λ y. All-nil _) ys
All-swap R (x ∷ xs) ys h = All-both (λ y. R x y) (λ y. All (λ x. R x y) xs) (λ y. All (λ x. R x y) (x ∷ xs)) (λ y a b. All-cons (λ x. R x y) x xs a b) ys (All-head (λ x. All (λ y. R x y) ys) x xs h) (All-swap R xs ys (All-tail (λ x. All (λ y. R x y) ys) x xs h))

mid_low : (q p l v w x : ℤ) → (((q *ℤ p) +ℤ (q *ℤ p)) *ℤ x) -ℤ (l *ℤ ((v *ℤ p) -ℤ (w *ℤ q))) ≡ (p *ℤ ((x *ℤ q) -ℤ (v *ℤ l))) +ℤ (q *ℤ ((p *ℤ x) +ℤ (l *ℤ w)))
mid_low q p l v w x = simp ring_neg (omega (arith, ints))

mid_high : (q p u v w x : ℤ) → (((q *ℤ p) +ℤ (q *ℤ p)) *ℤ x) +ℤ (u *ℤ ((v *ℤ p) -ℤ (w *ℤ q))) ≡ (q *ℤ ((x *ℤ p) -ℤ (w *ℤ u))) +ℤ (p *ℤ ((u *ℤ v) +ℤ (q *ℤ x)))
mid_high q p u v w x = simp ring_neg (omega (arith, ints))

past_low : (q l v x : ℤ) → (q *ℤ x) -ℤ (l *ℤ (v +ℤ q)) ≡ ((x *ℤ q) -ℤ (v *ℤ l)) +ℤ neg_ℤ (l *ℤ q)
past_low q l v x = simp ring_neg (omega (arith, ints))

past_high : (p u w x : ℤ) → (p *ℤ x) +ℤ (u *ℤ (neg_ℤ w -ℤ p)) ≡ ((x *ℤ p) -ℤ (w *ℤ u)) +ℤ neg_ℤ (u *ℤ p)
past_high p u w x = simp ring_neg (omega (arith, ints))

to_difference : (a b : ℤ) → a ≤ℤ b → (a -ℤ b) ≤ℤ pos 0
to_difference a b h = omega (arith, ints)

product_positive : (a b : ℕ) → 0 < a → 0 < b → 0 < a * b
product_positive a b p q = mul-pos p q

negated_product : (a b : ℕ) → 0 < a → 0 < b → neg_ℤ (pos a *ℤ pos b) <ℤ pos 0
negated_product a b p q = let k = product_positive a b p q in omega (arith, ints, k)

add_negative : (a b : ℤ) → a ≤ℤ pos 0 → b <ℤ pos 0 → (a +ℤ b) <ℤ pos 0
add_negative a b h k = omega (arith, ints)

module _ {A : Type 0} (scale : A → ℕ) (limit : A → ℤ) (strict : A → Bool) where
  abbrev pub AtMost : A → A → Type 0
  AtMost a b = (limit a *ℤ pos (scale b)) ≤ℤ (limit b *ℤ pos (scale a))

  pub AtMost-trans : (a b c : A) → 0 < scale b → AtMost a b → AtMost b c → AtMost a c
  AtMost-trans a b c p h k = ≤ℤ-cancel _ _ (scale b) p (let h1 = simp ring at (≤ℤ-scale _ _ (scale c) h) in let k1 = simp ring at (≤ℤ-scale _ _ (scale a) k) in simp ring (omega (arith, ints, h1, k1)))

  pub record Greatest (P : A → Type 0) (xs : List A) : Type 0 where
    pub most : A
    pub is_positive : 0 < scale most
    pub keeps : P most
    pub above : All (λ a. AtMost a most) xs

  pub greatest : (P : A → Type 0) (a : A) (xs : List A) → All (λ b. 0 < scale b) (a ∷ xs) → All P (a ∷ xs) → Greatest P (a ∷ xs)
  greatest P a [] p h = record { most = a; is_positive = All-head (λ b. 0 < scale b) a [] p; keeps = All-head P a [] h; above = All-cons (λ b. AtMost b a) a [] (omega (arith, ints)) (All-nil _) }
  greatest P a (b ∷ bs) p h =
      let g = greatest P b bs (All-tail (λ b. 0 < scale b) a (b ∷ bs) p) (All-tail P a (b ∷ bs) h) in
      by_lt_z (limit a *ℤ pos (scale (g.most))) (limit (g.most) *ℤ pos (scale a))
      (λ l. record { most = g.most; is_positive = g.is_positive; keeps = g.keeps; above = All-cons (λ c. AtMost c g.most) a (b ∷ bs) (omega (arith, ints, l)) g.above })
      (λ l. record { most = a; is_positive = All-head (λ b. 0 < scale b) a (b ∷ bs) p; keeps = All-head P a (b ∷ bs) h; above = All-cons (λ c. AtMost c a) a (b ∷ bs) (omega (arith, ints)) (All-weaker (λ c. AtMost c g.most) (λ c. AtMost c a) (λ c k. AtMost-trans c g.most a g.is_positive k l) (b ∷ bs) g.above) })

  -- `Fits a b`: the lower bound `a` and the upper bound `b` are compatible.
  abbrev pub Fits : A → A → Type 0
  Fits a b = IsBelow (strict a || strict b) ((pos (scale b) *ℤ limit a) +ℤ (pos (scale a) *ℤ limit b))

  pub record Shift (ls us : List A) : Type 0 where
    pub factor : ℕ
    pub positive : 0 < factor
    pub shift : ℤ
    pub over : All (λ a. IsBelow (strict a) ((pos factor *ℤ limit a) -ℤ (pos (scale a) *ℤ shift))) ls
    pub under : All (λ b. IsBelow (strict b) ((pos factor *ℤ limit b) +ℤ (pos (scale b) *ℤ shift))) us

  pub between : (ls us : List A) → All (λ a. 0 < scale a) ls → All (λ a. 0 < scale a) us → All (λ a. All (λ b. Fits a b) us) ls → Shift ls us
  between [] [] p q h = record { factor = 1; positive = zero-lt-suc 0; shift = pos 0; over = All-nil _; under = All-nil _ }
  between [] (u ∷ us) p q h =
      let g = greatest (λ b. 0 < scale b) u us q q in
      let w = limit (g.most) in let s = scale (g.most) in
      record {
        factor = s;
        positive = g.is_positive;
        shift = neg_ℤ w -ℤ pos s;
        over = All-nil _;
        under = All-both (λ b. 0 < scale b) (λ b. AtMost b g.most) (λ b. IsBelow (strict b) ((pos s *ℤ limit b) +ℤ (pos (scale b) *ℤ (neg_ℤ w -ℤ pos s)))) (λ b k l. below-strong (strict b) _ (rw (past_high (pos s) (pos (scale b)) w (limit b)) (add_negative _ _ (to_difference _ _ l) (negated_product (scale b) s k g.is_positive)))) (u ∷ us) q g.above;
      }
  between (l ∷ ls) [] p q h =
      let g = greatest (λ b. 0 < scale b) l ls p p in
      let v = limit (g.most) in let s = scale (g.most) in
      record {
        factor = s;
        positive = g.is_positive;
        shift = v +ℤ pos s;
        under = All-nil _;
        over = All-both (λ b. 0 < scale b) (λ b. AtMost b g.most) (λ b. IsBelow (strict b) ((pos s *ℤ limit b) -ℤ (pos (scale b) *ℤ (v +ℤ pos s)))) (λ b k a. below-strong (strict b) _ (rw (past_low (pos s) (pos (scale b)) v (limit b)) (add_negative _ _ (to_difference _ _ a) (negated_product (scale b) s k g.is_positive)))) (l ∷ ls) p g.above;
      }
  between (l ∷ ls) (u ∷ us) p q h =
      let g = greatest (λ a. All (λ b. Fits a b) (u ∷ us)) l ls p h in
      let f = greatest (λ b. All (λ a. Fits a b) (l ∷ ls)) u us q (All-swap (λ a b. Fits a b) (l ∷ ls) (u ∷ us) h) in
      let v = limit (g.most) in let w = limit (f.most) in let m = scale (g.most) in let n = scale (f.most) in
      let mn = product_positive m n g.is_positive f.is_positive in
      record {
        factor = m * n + m * n;
        positive = omega (arith, mn);
        shift = (v *ℤ pos n) -ℤ (w *ℤ pos m);
        over = All-both (λ a. AtMost a g.most) (λ a. Fits a f.most) (λ a. IsBelow (strict a) ((pos (m * n + m * n) *ℤ limit a) -ℤ (pos (scale a) *ℤ ((v *ℤ pos n) -ℤ (w *ℤ pos m))))) (λ a k l. below-same (strict a) _ _ (mid_low (pos m) (pos n) (pos (scale a)) v w (limit a)) (below-sum (strict a) _ _ (nonpositive-scale n _ (to_difference _ _ k)) (below-scale (strict a) m _ g.is_positive (below-or_left (strict a) (strict f.most) _ l)))) (l ∷ ls) g.above f.keeps;
        under = All-both (λ b. AtMost b f.most) (λ b. Fits g.most b) (λ b. IsBelow (strict b) ((pos (m * n + m * n) *ℤ limit b) +ℤ (pos (scale b) *ℤ ((v *ℤ pos n) -ℤ (w *ℤ pos m))))) (λ b k l. below-same (strict b) _ _ (mid_high (pos m) (pos n) (pos (scale b)) v w (limit b)) (below-sum (strict b) _ _ (nonpositive-scale m _ (to_difference _ _ k)) (below-scale (strict b) n _ f.is_positive (below-or_right (strict g.most) (strict b) _ l)))) (u ∷ us) f.above g.keeps;
      }
