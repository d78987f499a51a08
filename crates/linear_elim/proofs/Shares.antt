-- A combination follows from the first rows by its multipliers.
use Rattle.std.proofs.Common.{◌≡◌, ℕ, ◌*◌, ◌/◌, ◌<◌, List, [], ◌∷◌, length, refl, sym, ap, ap₂, ◌∙◌, arith, Bool, true, false, cond, eqb, ltb, ◌||◌}
use Rattle.std.specs.Prelude.{ℤ, pos, negsuc, ◌+ℤ◌, ◌*ℤ◌, ◌<ℤ◌}
use Rattle.std.specs.Int.RustNames.{unsigned_abs, int_div}
use borrow.Author.Differences.{ints}
use Prim.Native.Nat.{zero, suc, ◌∣◌}
use Rattle.std.proofs.Math.Nat.{mul-pos}
use Rattle.std.proofs.lemmas.Bool.{eqb-true}
use Rattle.std.specs.List.{All}
use Rattle.std.proofs.lemmas.List.Elements.{All-nil, All-cons, All-head, All-tail}
use Rattle.heyvl_num.proofs.exported.Integers.{ring}
use Rattle.linear_rows.specs.Terms.{sum_at, IsNormal, put_term, add_term, add_terms}
use Rattle.linear_rows.specs.Row.{Row}
use Rattle.linear_rows.specs.Combination.{row_at}
use Rattle.linear_rows.proofs.exported.Sums.{sum_at-nil, sum_at-add}
use Rattle.linear_rows.proofs.exported.Normal.{add-normal, add-all}
use Rattle.linear_rows.specs.Divisors.{common, divisor, divided_terms}
use Rattle.linear_elim.specs.Joins.{is_above_zero, row_divisor, lowest, size, mixed_row, mixed_shares, joined_row, joined_shares, joined_over, share_divisor, join, Derived}
use Rattle.linear_elim.specs.internal.DerivedRows.{any_at, Follows}
use Rattle.linear_elim.proofs.Lowest.{lowest-is, sum_at-divided, times_back, or_one-divides, common-divides, or_one-positive, DividesAll}
use Rattle.linear_elim.proofs.Shapes.{cancel, divided-normal, divided-all}

abbrev pub ArePositive : List (ℕ × ℤ) → Type 0
ArePositive ts = All (λ s. is_above_zero s.1 ≡ true) ts

positive_from : (z : ℤ) → pos 0 <ℤ z → is_above_zero z ≡ true
positive_from (pos zero) h = absurd (omega (arith, ints, h))
positive_from (pos (suc n)) h = refl
positive_from (negsuc n) h = absurd (omega (arith, ints, h))

pub positive_out : (z : ℤ) → is_above_zero z ≡ true → pos 0 <ℤ z
positive_out (pos zero) e = absurd (cc)
positive_out (pos (suc n)) e = omega (arith, ints)
positive_out (negsuc n) e = absurd (cc)

positive_sum : (a b : ℤ) → is_above_zero a ≡ true → is_above_zero b ≡ true → is_above_zero (a +ℤ b) ≡ true
positive_sum a b p q = let h = positive_out a p in let k = positive_out b q in positive_from (a +ℤ b) (omega (arith, ints, h, k))

positive_product : (k : ℕ) (a : ℤ) → 0 < k → is_above_zero a ≡ true → is_above_zero (pos k *ℤ a) ≡ true
positive_product k (pos zero) h p = absurd (cc)
positive_product k (pos (suc n)) h p = let m : 0 < k * suc n = mul-pos h (omega arith) in positive_from (pos k *ℤ pos (suc n)) (omega (arith, ints, m))
positive_product k (negsuc n) h p = absurd (cc)

any_at-put : (f : ℕ → Bool) (v : ℕ) (c : ℤ) (ts : List (ℕ × ℤ)) → is_above_zero c ≡ true → any_at f (put_term v c ts) ≡ (f v || any_at f ts)
unfolding any_at
any_at-put f v (pos zero) ts p = absurd (cc)
any_at-put f v (pos (suc n)) ts p = refl
any_at-put f v (negsuc n) ts p = absurd (cc)

put-positive : (v : ℕ) (c : ℤ) (ts : List (ℕ × ℤ)) → is_above_zero c ≡ true → ArePositive ts → ArePositive (put_term v c ts)
put-positive v (pos zero) ts p h = absurd (cc)
put-positive v (pos (suc n)) ts p h = All-cons (λ s. is_above_zero s.1 ≡ true) (v, pos (suc n)) ts p h
put-positive v (negsuc n) ts p h = absurd (cc)

or_twice : (a b : Bool) → (a || b) ≡ (a || (a || b))
or_twice true b = refl
or_twice false b = refl

or_swap : (a b c : Bool) → (a || (b || c)) ≡ (b || (a || c))
or_swap true true c = refl
or_swap true false c = refl
or_swap false b c = refl

any_at-add_term : (f : ℕ → Bool) (v : ℕ) (c : ℤ) (ts : List (ℕ × ℤ)) → is_above_zero c ≡ true → ArePositive ts → any_at f (add_term v c ts) ≡ (f v || any_at f ts)
unfolding add_term any_at
any_at-add_term f v c [] p h = any_at-put f v c [] p
any_at-add_term f v c (t ∷ ts) p h = go (eqb v t.0) refl (ltb v t.0) (any_at-add_term f v c ts p (All-tail (λ s. is_above_zero s.1 ≡ true) t ts h))
  where
    go : (e : Bool) → eqb v t.0 ≡ e → (l : Bool) → any_at f (add_term v c ts) ≡ (f v || any_at f ts) → any_at f (cond e (put_term v (c +ℤ t.1) ts) (cond l (put_term v c (t ∷ ts)) (t ∷ add_term v c ts))) ≡ (f v || (f t.0 || any_at f ts))
    go true e l ih = any_at-put f v (c +ℤ t.1) ts (positive_sum c t.1 p (All-head (λ s. is_above_zero s.1 ≡ true) t ts h)) ∙ or_twice (f v) (any_at f ts) ∙ ap (λ w. f v || (f w || any_at f ts)) (eqb-true v t.0 e)
    go false e true ih = any_at-put f v c (t ∷ ts) p
    go false e false ih = ap (λ b. f t.0 || b) ih ∙ or_swap (f t.0) (f v) (any_at f ts)

add_term-positive : (v : ℕ) (c : ℤ) (ts : List (ℕ × ℤ)) → is_above_zero c ≡ true → ArePositive ts → ArePositive (add_term v c ts)
unfolding add_term
add_term-positive v c [] p h = put-positive v c [] p h
add_term-positive v c (t ∷ ts) p h = go (eqb v t.0) (ltb v t.0) (add_term-positive v c ts p (All-tail (λ s. is_above_zero s.1 ≡ true) t ts h))
  where
    go : (e l : Bool) → ArePositive (add_term v c ts) → ArePositive (cond e (put_term v (c +ℤ t.1) ts) (cond l (put_term v c (t ∷ ts)) (t ∷ add_term v c ts)))
    go true l ih = put-positive v (c +ℤ t.1) ts (positive_sum c t.1 p (All-head (λ s. is_above_zero s.1 ≡ true) t ts h)) (All-tail (λ s. is_above_zero s.1 ≡ true) t ts h)
    go false true ih = put-positive v c (t ∷ ts) p h
    go false false ih = All-cons (λ s. is_above_zero s.1 ≡ true) t (add_term v c ts) (All-head (λ s. is_above_zero s.1 ≡ true) t ts h) ih

add-positive : (k : ℕ) (ts us : List (ℕ × ℤ)) → 0 < k → ArePositive ts → ArePositive us → ArePositive (add_terms (pos k) ts us)
unfolding add_terms
add-positive k [] us p h l = l
add-positive k (t ∷ ts) us p h l = add_term-positive t.0 (pos k *ℤ t.1) (add_terms (pos k) ts us) (positive_product k t.1 p (All-head (λ s. is_above_zero s.1 ≡ true) t ts h)) (add-positive k ts us p (All-tail (λ s. is_above_zero s.1 ≡ true) t ts h) l)

or_assoc : (a b c : Bool) → (a || (b || c)) ≡ ((a || b) || c)
or_assoc true b c = refl
or_assoc false b c = refl

any_at-add : (f : ℕ → Bool) (k : ℕ) (ts us : List (ℕ × ℤ)) → 0 < k → ArePositive ts → ArePositive us → any_at f (add_terms (pos k) ts us) ≡ (any_at f ts || any_at f us)
unfolding add_terms any_at
any_at-add f k [] us p h l = refl
any_at-add f k (t ∷ ts) us p h l =
    let hs = All-tail (λ s. is_above_zero s.1 ≡ true) t ts h in
    any_at-add_term f t.0 (pos k *ℤ t.1) (add_terms (pos k) ts us) (positive_product k t.1 p (All-head (λ s. is_above_zero s.1 ≡ true) t ts h)) (add-positive k ts us p hs l) ∙ ap (λ b. f t.0 || b) (any_at-add f k ts us p hs l) ∙ or_assoc (f t.0) (any_at f ts) (any_at f us)

any_at-divided : (f : ℕ → Bool) (g : ℕ) (ts : List (ℕ × ℤ)) → any_at f (divided_terms g ts) ≡ any_at f ts
unfolding any_at
any_at-divided f g [] = refl
any_at-divided f g (t ∷ ts) = ap (λ b. f t.0 || b) (any_at-divided f g ts)

divided_positive : (g : ℕ) (c : ℤ) → g ∣ unsigned_abs c → is_above_zero c ≡ true → is_above_zero (int_div c (pos g)) ≡ true
divided_positive g (pos zero) d p = absurd (cc)
divided_positive g (pos (suc n)) d p = go (suc n / g) (times_back g (suc n) d)
  where
    go : (q : ℕ) → g * q ≡ suc n → is_above_zero (pos q) ≡ true
    go zero e = absurd (omega (arith, e))
    go (suc q) e = refl
divided_positive g (negsuc n) d p = absurd (cc)

divided-positive : (g : ℕ) (ts : List (ℕ × ℤ)) → All (λ t. g ∣ unsigned_abs t.1) ts → ArePositive ts → ArePositive (divided_terms g ts)
divided-positive g [] d h = All-nil _
divided-positive g (t ∷ ts) d h = All-cons (λ s. is_above_zero s.1 ≡ true) (t.0, int_div t.1 (pos g)) (divided_terms g ts) (divided_positive g t.1 (All-head (λ t. g ∣ unsigned_abs t.1) t ts d) (All-head (λ s. is_above_zero s.1 ≡ true) t ts h)) (divided-positive g ts (All-tail (λ t. g ∣ unsigned_abs t.1) t ts d) (All-tail (λ s. is_above_zero s.1 ≡ true) t ts h))

pub quotient_positive : (h o : ℕ) → h ∣ o → 0 < o → 0 < o / h
quotient_positive h o d p = go (o / h) (times_back h o d)
  where
    go : (q : ℕ) → h * q ≡ o → 0 < q
    go zero e = absurd (omega (arith, e))
    go (suc q) e = omega arith

divided_sum : (F : ℕ → ℤ) (h o : ℕ) (x : ℤ) (ms : List (ℕ × ℤ)) → 0 < h → All (λ t. h ∣ unsigned_abs t.1) ms → h ∣ o → pos o *ℤ x ≡ sum_at F ms → pos (o / h) *ℤ x ≡ sum_at F (divided_terms h ms)
divided_sum F h o x ms p d e k = cancel h _ _ p (regroup (pos h) (pos (o / h)) x ∙ ap (λ n. pos n *ℤ x) (times_back h o e) ∙ k ∙ sym (sum_at-divided F h ms d))
  where
    regroup : (a b c : ℤ) → a *ℤ (b *ℤ c) ≡ (a *ℤ b) *ℤ c
    regroup a b c = simp ring

mixed-sum : (F : ℕ → ℤ) (a : ℕ) (ms : List (ℕ × ℤ)) (b : ℕ) (ns : List (ℕ × ℤ)) → sum_at F (mixed_shares a ms b ns) ≡ (pos a *ℤ sum_at F ms) +ℤ (pos b *ℤ sum_at F ns)
mixed-sum F a ms b ns = sum_at-add F (pos a) ms _ ∙ ap (λ t. (pos a *ℤ sum_at F ms) +ℤ t) (sum_at-add F (pos b) ns [] ∙ ap (λ t. (pos b *ℤ sum_at F ns) +ℤ t) (sum_at-nil F) ∙ add_zero (pos b *ℤ sum_at F ns))
  where
    add_zero : (z : ℤ) → z +ℤ pos 0 ≡ z
    add_zero z = omega (arith, ints)

joined-sum : (F : ℕ → ℤ) (p q m n g : ℕ) (x y z : ℤ) (ms ns : List (ℕ × ℤ)) → pos g *ℤ z ≡ (pos p *ℤ x) +ℤ (pos q *ℤ y) → pos m *ℤ x ≡ sum_at F ms → pos n *ℤ y ≡ sum_at F ns → pos (m * n * g) *ℤ z ≡ sum_at F (mixed_shares (p * n) ms (q * m) ns)
joined-sum F p q m n g x y z ms ns e h k = outer (pos m) (pos n) (pos g) z ∙ ap (λ t. (pos m *ℤ pos n) *ℤ t) e ∙ inner (pos p) (pos q) (pos m) (pos n) x y ∙ ap₂ (λ s t. ((pos p *ℤ pos n) *ℤ s) +ℤ ((pos q *ℤ pos m) *ℤ t)) h k ∙ sym (mixed-sum F (p * n) ms (q * m) ns)
  where
    outer : (a b c d : ℤ) → ((a *ℤ b) *ℤ c) *ℤ d ≡ (a *ℤ b) *ℤ (c *ℤ d)
    outer a b c d = simp ring

    inner : (p q m n x y : ℤ) → (m *ℤ n) *ℤ ((p *ℤ x) +ℤ (q *ℤ y)) ≡ ((p *ℤ n) *ℤ (m *ℤ x)) +ℤ ((q *ℤ m) *ℤ (n *ℤ y))
    inner p q m n x y = simp ring

mixed_sums : (f : ℕ → ℤ) (p : ℕ) (r : Row) (q : ℕ) (s : Row) → sum_at f (mixed_row p r q s).terms ≡ (pos p *ℤ sum_at f r.terms) +ℤ (pos q *ℤ sum_at f s.terms)
unfolding mixed_row
mixed_sums f p r q s = mixed-sum f p r.terms q s.terms

mixed_rest : (p : ℕ) (r : Row) (q : ℕ) (s : Row) → (mixed_row p r q s).rest ≡ (pos p *ℤ r.rest) +ℤ (pos q *ℤ s.rest)
unfolding mixed_row
mixed_rest p r q s = refl

mixed_strict : (p : ℕ) (r : Row) (q : ℕ) (s : Row) → (mixed_row p r q s).strict ≡ (r.strict || s.strict)
unfolding mixed_row
mixed_strict p r q s = refl

or_false : (a : Bool) → a ≡ (a || false)
or_false true = refl
or_false false = refl

mixed-any : (f : ℕ → Bool) (a : ℕ) (ms : List (ℕ × ℤ)) (b : ℕ) (ns : List (ℕ × ℤ)) → 0 < a → 0 < b → ArePositive ms → ArePositive ns → any_at f (mixed_shares a ms b ns) ≡ (any_at f ms || any_at f ns)
unfolding any_at
mixed-any f a ms b ns p q h k = any_at-add f a ms (add_terms (pos b) ns []) p h (add-positive b ns [] q k (All-nil _)) ∙ ap (λ c. any_at f ms || c) (any_at-add f b ns [] q k (All-nil _) ∙ sym (or_false (any_at f ns)))

pub divides : (ts : List (ℕ × ℤ)) (n : ℕ) → All (λ t. divisor ts n ∣ unsigned_abs t.1) ts × (divisor ts n ∣ n)
unfolding DividesAll
divides ts n = or_one-divides ts n (common ts n) (common-divides ts n)

pub join-follows : (first : List Row) (x : ℕ) (l u : Derived) → 0 < size x l → 0 < size x u → Follows first l → Follows first u → Follows first (join x l u)
unfolding join
join-follows first x l u p q h k =
    let t = lowest-is (joined_row x l u) in
    let g : ℕ = row_divisor (joined_row x l u) in
    let a : 0 < size x u * u.over = mul-pos q k.positive in
    let b : 0 < size x l * l.over = mul-pos p h.positive in
    let d = divides (joined_shares x l u) (joined_over x l u) in
    let hp : 0 < share_divisor x l u = or_one-positive (common (joined_shares x l u) (joined_over x l u)) in
    let normal : IsNormal (joined_shares x l u) = add-normal (pos (size x u * u.over)) l.shares (add_terms (pos (size x l * l.over)) u.shares []) (add-normal (pos (size x l * l.over)) u.shares [] tt) in
    let positives : ArePositive (joined_shares x l u) = add-positive (size x u * u.over) l.shares (add_terms (pos (size x l * l.over)) u.shares []) a h.shares_positive (add-positive (size x l * l.over) u.shares [] b k.shares_positive (All-nil _)) in
    let within : All (λ s. s.0 < length first) (joined_shares x l u) = add-all (λ i. i < length first) (pos (size x u * u.over)) l.shares (add_terms (pos (size x l * l.over)) u.shares []) h.shares_within (add-all (λ i. i < length first) (pos (size x l * l.over)) u.shares [] k.shares_within (All-nil _)) in
    record {
      positive = quotient_positive (share_divisor x l u) (joined_over x l u) d.1 (mul-pos (mul-pos h.positive k.positive) t.positive);
      shares_normal = divided-normal (share_divisor x l u) (joined_shares x l u) d.0 normal;
      shares_positive = divided-positive (share_divisor x l u) (joined_shares x l u) d.0 positives;
      shares_within = divided-all (λ i. i < length first) (share_divisor x l u) (joined_shares x l u) within;
      sums = λ f. divided_sum (λ i. sum_at f (row_at first i).terms) (share_divisor x l u) (joined_over x l u) (sum_at f (lowest (joined_row x l u)).terms) (joined_shares x l u) hp d.0 d.1 (joined-sum (λ i. sum_at f (row_at first i).terms) (size x u) (size x l) l.over u.over g (sum_at f l.row.terms) (sum_at f u.row.terms) (sum_at f (lowest (joined_row x l u)).terms) l.shares u.shares (t.sums f ∙ mixed_sums f (size x u) l.row (size x l) u.row) (h.sums f) (k.sums f));
      rest = divided_sum (λ i. (row_at first i).rest) (share_divisor x l u) (joined_over x l u) (lowest (joined_row x l u)).rest (joined_shares x l u) hp d.0 d.1 (joined-sum (λ i. (row_at first i).rest) (size x u) (size x l) l.over u.over g l.row.rest u.row.rest (lowest (joined_row x l u)).rest l.shares u.shares (t.rest ∙ mixed_rest (size x u) l.row (size x l) u.row) h.rest k.rest);
      strict = t.strict ∙ mixed_strict (size x u) l.row (size x l) u.row ∙ ap₂ (λ s t. s || t) h.strict k.strict ∙ sym (any_at-divided (λ i. (row_at first i).strict) (share_divisor x l u) (joined_shares x l u) ∙ mixed-any (λ i. (row_at first i).strict) (size x u * u.over) l.shares (size x l * l.over) u.shares a b h.shares_positive k.shares_positive);
    }
