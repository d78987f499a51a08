-- The fresh number of a binder is the least unused one. The idea: different numbers occur at
-- different nodes, so there are more candidates than numbers that are taken.
use Rattle.std.proofs.Common.{◌≡◌, ℕ, ◌+◌, ◌≤◌, ◌<◌, refl, sym, ap, ◌∙◌, arith, Bool, true, false, cond, ◌==◌, ◌||◌, inl, inr, ◌⊎◌}
use Prim.Native.Nat.{zero, suc}
use Rattle.heylo_formula.specs.Formula.{Form, Cond, Term}
use Rattle.heylo_formula.specs.Variables.{occurs, occurs_in, occurs_in_term}
use Rattle.heylo_formula.specs.Sizes.{nodes, nodes_in, nodes_in_term}
use Rattle.heylo_formula.specs.Substitution.{least_unused, fresh, IsFresh}

-- How often a number occurs.
abbrev mutual
  places : ℕ → Form → ℕ
  places x (Form.number v) = 0
  places x (Form.variable w) = cond (x == w) 1 0
  places x (Form.sum a b) = places x a + places x b
  places x (Form.difference a b) = places x a + places x b
  places x (Form.cut a b) = places x a + places x b
  places x (Form.scale w a) = places x a
  places x (Form.product a b span) = places x a + places x b
  places x (Form.min a b) = places x a + places x b
  places x (Form.max a b) = places x a + places x b
  places x (Form.imply a b) = places x a + places x b
  places x (Form.co_imply a b) = places x a + places x b
  places x (Form.validate a) = places x a
  places x (Form.co_validate a) = places x a
  places x (Form.embed g) = places_in x g
  places x (Form.iverson g) = places_in x g
  places x (Form.select g a b) = places_in x g + (places x a + places x b)
  places x (Form.bind up w name ty a) = cond (x == w) 1 0 + places x a

  places_in : ℕ → Cond → ℕ
  places_in x (Cond.constant b) = 0
  places_in x (Cond.flag w) = cond (x == w) 1 0
  places_in x (Cond.not g) = places_in x g
  places_in x (Cond.and g h) = places_in x g + places_in x h
  places_in x (Cond.or g h) = places_in x g + places_in x h
  places_in x (Cond.same g h) = places_in x g + places_in x h
  places_in x (Cond.le a b) = places x a + places x b
  places_in x (Cond.lt a b) = places x a + places x b
  places_in x (Cond.equal a b) = places x a + places x b
  places_in x (Cond.ite g h k) = places_in x g + (places_in x h + places_in x k)

abbrev places_in_term : ℕ → Term → ℕ
places_in_term x (Term.truth g) = places_in x g
places_in_term x (Term.number f) = places x f

clash : (b : Bool) → b ≡ true → b ≡ false → ⊥
clash b h k = let e : true ≡ false = sym h ∙ k in cc

one_place : (b : Bool) → b ≡ true → 1 ≤ cond b 1 0
one_place true e = omega arith
one_place false e = absurd (cc)

either : (a b : Bool) (m n : ℕ) → (a ≡ true → 1 ≤ m) → (b ≡ true → 1 ≤ n) → (a || b) ≡ true → 1 ≤ m + n
either true b m n h k e = let l = h refl in omega arith
either false b m n h k e = let l = k e in omega arith

-- A number that occurs has at least one place.
mutual
  placed : (x : ℕ) (f : Form) → occurs x f ≡ true → 1 ≤ places x f
  placed x (Form.number v) h0 = absurd (cc)
  placed x (Form.variable w) h0 = one_place (x == w) h0
  placed x (Form.sum a b) h0 = either (occurs x a) (occurs x b) (places x a) (places x b) (placed x a) (placed x b) h0
  placed x (Form.difference a b) h0 = either (occurs x a) (occurs x b) (places x a) (places x b) (placed x a) (placed x b) h0
  placed x (Form.cut a b) h0 = either (occurs x a) (occurs x b) (places x a) (places x b) (placed x a) (placed x b) h0
  placed x (Form.scale w a) h0 = placed x a h0
  placed x (Form.product a b span) h0 = either (occurs x a) (occurs x b) (places x a) (places x b) (placed x a) (placed x b) h0
  placed x (Form.min a b) h0 = either (occurs x a) (occurs x b) (places x a) (places x b) (placed x a) (placed x b) h0
  placed x (Form.max a b) h0 = either (occurs x a) (occurs x b) (places x a) (places x b) (placed x a) (placed x b) h0
  placed x (Form.imply a b) h0 = either (occurs x a) (occurs x b) (places x a) (places x b) (placed x a) (placed x b) h0
  placed x (Form.co_imply a b) h0 = either (occurs x a) (occurs x b) (places x a) (places x b) (placed x a) (placed x b) h0
  placed x (Form.validate a) h0 = placed x a h0
  placed x (Form.co_validate a) h0 = placed x a h0
  placed x (Form.embed g) h0 = placed_in x g h0
  placed x (Form.iverson g) h0 = placed_in x g h0
  placed x (Form.select g a b) h0 = either (occurs_in x g) ((occurs x a) || (occurs x b)) (places_in x g) ((places x a) + (places x b)) (placed_in x g) (either (occurs x a) (occurs x b) (places x a) (places x b) (placed x a) (placed x b)) h0
  placed x (Form.bind up w name ty a) h0 = either (x == w) (occurs x a) (cond (x == w) 1 0) (places x a) (one_place (x == w)) (placed x a) h0

  placed_in : (x : ℕ) (g : Cond) → occurs_in x g ≡ true → 1 ≤ places_in x g
  placed_in x (Cond.constant b) h0 = absurd (cc)
  placed_in x (Cond.flag w) h0 = one_place (x == w) h0
  placed_in x (Cond.not g) h0 = placed_in x g h0
  placed_in x (Cond.and g h) h0 = either (occurs_in x g) (occurs_in x h) (places_in x g) (places_in x h) (placed_in x g) (placed_in x h) h0
  placed_in x (Cond.or g h) h0 = either (occurs_in x g) (occurs_in x h) (places_in x g) (places_in x h) (placed_in x g) (placed_in x h) h0
  placed_in x (Cond.same g h) h0 = either (occurs_in x g) (occurs_in x h) (places_in x g) (places_in x h) (placed_in x g) (placed_in x h) h0
  placed_in x (Cond.le a b) h0 = either (occurs x a) (occurs x b) (places x a) (places x b) (placed x a) (placed x b) h0
  placed_in x (Cond.lt a b) h0 = either (occurs x a) (occurs x b) (places x a) (places x b) (placed x a) (placed x b) h0
  placed_in x (Cond.equal a b) h0 = either (occurs x a) (occurs x b) (places x a) (places x b) (placed x a) (placed x b) h0
  placed_in x (Cond.ite g h k) h0 = either (occurs_in x g) ((occurs_in x h) || (occurs_in x k)) (places_in x g) ((places_in x h) + (places_in x k)) (placed_in x g) (either (occurs_in x h) (occurs_in x k) (places_in x h) (places_in x k) (placed_in x h) (placed_in x k)) h0

-- The sum of a function over `k` numbers from `m` on.
abbrev along : (ℕ → ℕ) → ℕ → ℕ → ℕ
along g m zero = 0
along g m (suc k) = g m + along g (m + 1) k

along-+ : (g h : ℕ → ℕ) (m k : ℕ) → along (λ n. g n + h n) m k ≡ along g m k + along h m k
along-+ g h m zero = refl
along-+ g h m (suc k) = let e = along-+ g h (m + 1) k in omega arith

along-zero : (m k : ℕ) → along (λ n. 0) m k ≡ 0
along-zero m zero = refl
along-zero m (suc k) = let h = along-zero (m + 1) k in omega arith

passed : (w m k : ℕ) → w < m → along (λ n. cond (n == w) 1 0) m k ≡ 0
passed w m zero h = refl
passed w m (suc k) h = let e : (m == w) ≡ false = grind arith in let h = passed w (m + 1) k (omega arith) in rw e (omega arith)

along-one : (w m k : ℕ) → along (λ n. cond (n == w) 1 0) m k ≤ 1
along-one w m zero = omega arith
along-one w m (suc k) = go (m == w) refl (along-one w (m + 1) k)
  where
    go : (b : Bool) → (m == w) ≡ b → along (λ n. cond (n == w) 1 0) (m + 1) k ≤ 1 → cond b 1 0 + along (λ n. cond (n == w) 1 0) (m + 1) k ≤ 1
    go true e h = let p = passed w (m + 1) k (let q : m ≡ w = grind arith in omega arith) in omega arith
    go false e h = omega arith

-- Different numbers have different nodes.
mutual
  within : (m k : ℕ) (f : Form) → along (λ x. places x f) m k ≤ nodes f
  within m k0 (Form.number v) = let e = along-zero m k0 in omega arith
  within m k0 (Form.variable w) = along-one w m k0
  within m k0 (Form.sum a b) = let e = along-+ (λ x. places x a) (λ x. places x b) m k0 in let p = within m k0 a in let q = within m k0 b in omega arith
  within m k0 (Form.difference a b) = let e = along-+ (λ x. places x a) (λ x. places x b) m k0 in let p = within m k0 a in let q = within m k0 b in omega arith
  within m k0 (Form.cut a b) = let e = along-+ (λ x. places x a) (λ x. places x b) m k0 in let p = within m k0 a in let q = within m k0 b in omega arith
  within m k0 (Form.scale w a) = let p = within m k0 a in omega arith
  within m k0 (Form.product a b span) = let e = along-+ (λ x. places x a) (λ x. places x b) m k0 in let p = within m k0 a in let q = within m k0 b in omega arith
  within m k0 (Form.min a b) = let e = along-+ (λ x. places x a) (λ x. places x b) m k0 in let p = within m k0 a in let q = within m k0 b in omega arith
  within m k0 (Form.max a b) = let e = along-+ (λ x. places x a) (λ x. places x b) m k0 in let p = within m k0 a in let q = within m k0 b in omega arith
  within m k0 (Form.imply a b) = let e = along-+ (λ x. places x a) (λ x. places x b) m k0 in let p = within m k0 a in let q = within m k0 b in omega arith
  within m k0 (Form.co_imply a b) = let e = along-+ (λ x. places x a) (λ x. places x b) m k0 in let p = within m k0 a in let q = within m k0 b in omega arith
  within m k0 (Form.validate a) = let p = within m k0 a in omega arith
  within m k0 (Form.co_validate a) = let p = within m k0 a in omega arith
  within m k0 (Form.embed g) = let p = within_in m k0 g in omega arith
  within m k0 (Form.iverson g) = let p = within_in m k0 g in omega arith
  within m k0 (Form.select g a b) = let e = along-+ (λ x. places_in x g) (λ x. places x a + places x b) m k0 in let f0 = along-+ (λ x. places x a) (λ x. places x b) m k0 in let p = within_in m k0 g in let q = within m k0 a in let r = within m k0 b in omega arith
  within m k0 (Form.bind up w name ty a) = let e = along-+ (λ x. cond (x == w) 1 0) (λ x. places x a) m k0 in let o = along-one w m k0 in let p = within m k0 a in omega arith

  within_in : (m k : ℕ) (g : Cond) → along (λ x. places_in x g) m k ≤ nodes_in g
  within_in m k0 (Cond.constant b) = let e = along-zero m k0 in omega arith
  within_in m k0 (Cond.flag w) = along-one w m k0
  within_in m k0 (Cond.not g) = let p = within_in m k0 g in omega arith
  within_in m k0 (Cond.and g h) = let e = along-+ (λ x. places_in x g) (λ x. places_in x h) m k0 in let p = within_in m k0 g in let q = within_in m k0 h in omega arith
  within_in m k0 (Cond.or g h) = let e = along-+ (λ x. places_in x g) (λ x. places_in x h) m k0 in let p = within_in m k0 g in let q = within_in m k0 h in omega arith
  within_in m k0 (Cond.same g h) = let e = along-+ (λ x. places_in x g) (λ x. places_in x h) m k0 in let p = within_in m k0 g in let q = within_in m k0 h in omega arith
  within_in m k0 (Cond.le a b) = let e = along-+ (λ x. places x a) (λ x. places x b) m k0 in let p = within m k0 a in let q = within m k0 b in omega arith
  within_in m k0 (Cond.lt a b) = let e = along-+ (λ x. places x a) (λ x. places x b) m k0 in let p = within m k0 a in let q = within m k0 b in omega arith
  within_in m k0 (Cond.equal a b) = let e = along-+ (λ x. places x a) (λ x. places x b) m k0 in let p = within m k0 a in let q = within m k0 b in omega arith
  within_in m k0 (Cond.ite g h k) = let e = along-+ (λ x. places_in x g) (λ x. places_in x h + places_in x k) m k0 in let f0 = along-+ (λ x. places_in x h) (λ x. places_in x k) m k0 in let p = within_in m k0 g in let q = within_in m k0 h in let r = within_in m k0 k in omega arith

within_term : (m k : ℕ) (t : Term) → along (λ x. places_in_term x t) m k ≤ nodes_in_term t
within_term m k (Term.truth g) = within_in m k g
within_term m k (Term.number f) = within m k f

placed_in_term : (x : ℕ) (t : Term) → occurs_in_term x t ≡ true → 1 ≤ places_in_term x t
placed_in_term x (Term.truth g) h = placed_in x g h
placed_in_term x (Term.number f) h = placed x f h

-- The number occurs in the body or in the term.
abbrev pub is_taken : Form → Term → ℕ → Bool
is_taken a t n = occurs n a || occurs_in_term n t

abbrev taken : Form → Term → ℕ → ℕ
taken a t n = places n a + places_in_term n t

taken_once : (a : Form) (t : Term) (n : ℕ) → is_taken a t n ≡ true → 1 ≤ taken a t n
taken_once a t n h = either (occurs n a) (occurs_in_term n t) (places n a) (places_in_term n t) (placed n a) (placed_in_term n t) h

taken_within : (a : Form) (t : Term) (m k : ℕ) → along (taken a t) m k ≤ nodes a + nodes_in_term t
taken_within a t m k = let e = along-+ (λ n. places n a) (λ n. places_in_term n t) m k in let p = within m k a in let q = within_term m k t in omega arith

-- The search finds an unused number, or all numbers that it tried are taken.
found : (k n : ℕ) (a : Form) (t : Term) → (is_taken a t (least_unused k n a t) ≡ false) ⊎ ((least_unused k n a t ≡ n + k) × (k ≤ along (taken a t) n k))
unfolding least_unused
found zero n a t = inr (omega arith, omega arith)
found (suc k) n a t = go (is_taken a t n) refl (found k (n + 1) a t)
  where
    go : (b : Bool) → is_taken a t n ≡ b → (is_taken a t (least_unused k (n + 1) a t) ≡ false) ⊎ ((least_unused k (n + 1) a t ≡ (n + 1) + k) × (k ≤ along (taken a t) (n + 1) k)) → (is_taken a t (cond b (least_unused k (n + 1) a t) n) ≡ false) ⊎ ((cond b (least_unused k (n + 1) a t) n ≡ n + suc k) × (suc k ≤ along (taken a t) n (suc k)))
    go false e h = inl e
    go true e (inl h) = inl h
    go true e (inr h) = let o = taken_once a t n e in let h0 = h.0 in let h1 = h.1 in inr (omega arith, omega arith)

along-suc : (g : ℕ → ℕ) (m k : ℕ) → along g m (suc k) ≡ along g m k + g (m + k)
along-suc g m zero = let e : m + zero ≡ m = omega arith in rw e (omega arith)
along-suc g m (suc k) = let e = along-suc g (m + 1) k in let p : (m + 1) + k ≡ m + suc k = omega arith in let q : g ((m + 1) + k) ≡ g (m + suc k) = ap g p in omega arith

unused_found : (n : ℕ) (a : Form) (t : Term) → is_taken a t (least_unused (nodes a + nodes_in_term t) n a t) ≡ false
unused_found n a t = go (found (nodes a + nodes_in_term t) n a t)
  where
    last : (b : Bool) → is_taken a t (n + (nodes a + nodes_in_term t)) ≡ b → (nodes a + nodes_in_term t) ≤ along (taken a t) n (nodes a + nodes_in_term t) → b ≡ false
    last false e h = refl
    last true e h = absurd (let o = taken_once a t (n + (nodes a + nodes_in_term t)) e in let s = along-suc (taken a t) n (nodes a + nodes_in_term t) in let w = taken_within a t n (suc (nodes a + nodes_in_term t)) in omega arith)

    go : (is_taken a t (least_unused (nodes a + nodes_in_term t) n a t) ≡ false) ⊎ ((least_unused (nodes a + nodes_in_term t) n a t ≡ n + (nodes a + nodes_in_term t)) × ((nodes a + nodes_in_term t) ≤ along (taken a t) n (nodes a + nodes_in_term t))) → is_taken a t (least_unused (nodes a + nodes_in_term t) n a t) ≡ false
    go (inl h) = h
    go (inr h) = ap (is_taken a t) h.0 ∙ last _ refl h.1

search_from : (k n : ℕ) (a : Form) (t : Term) → n ≤ least_unused k n a t
unfolding least_unused
search_from zero n a t = omega arith
search_from (suc k) n a t = go (is_taken a t n) (search_from k (n + 1) a t)
  where
    go : (b : Bool) → n + 1 ≤ least_unused k (n + 1) a t → n ≤ cond b (least_unused k (n + 1) a t) n
    go true h = omega arith
    go false h = omega arith

later : (n m : ℕ) → n ≤ m → (n == m) ≡ false → n + 1 ≤ m
later n m h q = grind arith

search_least : (k n : ℕ) (a : Form) (t : Term) (m : ℕ) → n ≤ m → m < least_unused k n a t → is_taken a t m ≡ true
unfolding least_unused
search_least zero n a t m h l = absurd (omega arith)
search_least (suc k) n a t m h l = go (is_taken a t n) (n == m) refl refl l (search_least k (n + 1) a t m)
  where
    go : (b d : Bool) → is_taken a t n ≡ b → (n == m) ≡ d → m < cond b (least_unused k (n + 1) a t) n → (n + 1 ≤ m → m < least_unused k (n + 1) a t → is_taken a t m ≡ true) → is_taken a t m ≡ true
    go true true e q l i = let p : n ≡ m = grind arith in ap (is_taken a t) (sym p) ∙ e
    go true false e q l i = i (later n m h q) l
    go false d e q l i = absurd (omega arith)

pub fresh_is : (a : Form) (t : Term) → IsFresh a t (fresh a t)
unfolding fresh
fresh_is a t = record { unused = unused_found 1048576 a t; from = search_from (nodes a + nodes_in_term t) 1048576 a t; least = search_least (nodes a + nodes_in_term t) 1048576 a t }

-- A search that has reached `n`: the remaining steps yield the fresh number.
pub record Searching (a : Form) (t : Term) (n : ℕ) : Type 0 where
  pub left : ℕ
  pub reached : n + left ≡ 1048576 + (nodes a + nodes_in_term t)
  pub rest : least_unused left n a t ≡ fresh a t

pub search_begun : (a : Form) (t : Term) → Searching a t 1048576
unfolding fresh
search_begun a t = record { left = nodes a + nodes_in_term t; reached = refl; rest = refl }

pub search_step : (a : Form) (t : Term) (n : ℕ) → Searching a t n → is_taken a t n ≡ true → Searching a t (n + 1)
unfolding least_unused
search_step a t n h e = go h.left h.reached h.rest
  where
    go : (k : ℕ) → n + k ≡ 1048576 + (nodes a + nodes_in_term t) → least_unused k n a t ≡ fresh a t → Searching a t (n + 1)
    go zero r q = absurd (clash (is_taken a t n) e (ap (is_taken a t) q ∙ (fresh_is a t).unused))
    go (suc k) r q = record { left = k; reached = omega arith; rest = sym (ap (λ b. cond b (least_unused k (n + 1) a t) n) e) ∙ q }

pub search_room : (a : Form) (t : Term) (n : ℕ) → Searching a t n → n ≤ 1048576 + (nodes a + nodes_in_term t)
search_room a t n h = let r = h.reached in omega arith

pub search_over : (a : Form) (t : Term) (n : ℕ) → Searching a t n → is_taken a t n ≡ false → n ≡ fresh a t
unfolding least_unused
search_over a t n h e = go h.left h.rest
  where
    go : (k : ℕ) → least_unused k n a t ≡ fresh a t → n ≡ fresh a t
    go zero q = q
    go (suc k) q = sym (ap (λ b. cond b (least_unused k (n + 1) a t) n) e) ∙ q
