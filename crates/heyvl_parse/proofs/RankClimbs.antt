-- The climb from an operand through the ranks.
use Rattle.heyvl_parse.specs.readers.ReadParts.{Bad, Full, Got, Out, Read, Reader, climbed, full, more, next_level, operand, operator_at, operator_of, operator_within, placed, ranked, reading, repeats, within, ◌>>=◌}
use Rattle.heyvl_parse.specs.readers.Results.{Fails, Gives}
use Rattle.heyvl_parse.specs.declared.stops.PartStop.TheVariants.{Fault, Memory}
use Rattle.heyvl_parse.specs.declared.stops.PartStop.{PartStop}
use Rattle.heyvl_syntax.specs.Expressions.{Expression}
use Rattle.heyvl_syntax.specs.Grammar.{ranks}
use Rattle.heyvl_syntax.specs.declared.operators.BinaryOp.{BinaryOp}
use Rattle.heyvl_places.specs.declared.spans.Span.{Span}
use Rattle.heyvl_syntax.specs.declared.tokens.Token.{Token}
use Rattle.std.proofs.Common.{Bool, Err, IsErr, IsErrAnd, List, None, Ok, Option, Result, Some, [], ap, arith, cond, false, length, nat_eq, nat_le, refl, subst, suc, sym, true, zero, ◌&&◌, ◌+◌, ◌-◌, ◌<◌, ◌∙◌, ◌∷◌, ◌≡◌, ◌≤◌, ℕ}
use Rattle.std.proofs.lemmas.Bool.Decides.{nat_tests}

bind_by : (r : Read Expression) (f g h : Expression → List Token → Read Expression) → ((x : Expression) (ts : List Token) → f x ts ≡ (g x ts >>= h)) → (r >>= f) ≡ ((r >>= g) >>= h)
bind_by (Got x ts) f g h same = same x ts
bind_by (Bad ts) f g h same = refl
bind_by Out f g h same = refl

bind_got : (r : Read Expression) (f : Expression → List Token → Read Expression) → ((x : Expression) (ts : List Token) → f x ts ≡ Got x ts) → (r >>= f) ≡ r
bind_got (Got x ts) f same = same x ts
bind_got (Bad ts) f same = refl
bind_got Out f same = refl

pub fails_first : (e : PartStop) (r : Read Expression) (f : Expression → List Token → Read Expression) → Fails e r → Fails e (r >>= f)
fails_first (Fault left) r f (rest, same, len) = rw same (rest, refl, len)
fails_first (Memory error) r f h = tt

-- The last rank after the others.
climbed_last : (self : Reader) (n low : ℕ) (left : Expression) (ts : List Token) → climbed self self (suc n) low left ts ≡ (climbed self self n low left ts >>= more self (low + n))
climbed_last self zero low left ts = let e : low + 0 ≡ low = omega arith in rw e (bind_got (more self low left ts) (climbed self self zero (suc low)) (λ x rest. refl))
climbed_last self (suc n) low left ts =
    let e : low + suc n ≡ suc low + n = omega arith in
    rw e (bind_by (more self low left ts) (climbed self self (suc n) (suc low)) (climbed self self n (suc low)) (more self (suc low + n)) (λ x rest. climbed_last self n (suc low) x rest))

pub full_climbed : (self : Reader) (k : ℕ) (ts : List Token) → full self k ts ≡ (operand self ts >>= climbed self self k 1)
full_climbed self zero ts = sym (bind_got (operand self ts) (climbed self self zero 1) (λ x rest. refl))
full_climbed self (suc k) ts =
    let e : 1 + k ≡ suc k = omega arith in
    let last : (x : Expression) (rest : List Token) → climbed self self (suc k) 1 x rest ≡ (climbed self self k 1 x rest >>= more self (suc k)) = λ x rest. rw (← e) (climbed_last self k 1 x rest) in
    ap (λ (r : Read Expression). r >>= more self (suc k)) (full_climbed self k ts) ∙ sym (bind_by (operand self ts) (climbed self self (suc k) 1) (climbed self self k 1) (more self (suc k)) last)

-- No operator of these ranks is the first token.
placed_some : {A : Type 0} (x : A) (s : Span) (ts : List Token) → placed s ts (Some x) ≡ None → ⊥
placed_some x s ts h = cc

no_rank : (low high j : ℕ) (found : Option BinaryOp) (s : Span) (ts : List Token) → low ≤ j → j ≤ high → placed s ts (within low high found) ≡ None → placed s ts (ranked j found) ≡ None
no_rank low high j None s ts a b h = refl
no_rank low high j (Some op) s ts a b h = pick (nat_le low (ranks op).rank && nat_le (ranks op).rank high) refl h
  where
    pick : (inside : Bool) → (nat_le low (ranks op).rank && nat_le (ranks op).rank high) ≡ inside → placed s ts (cond inside (Some op) None) ≡ None → placed s ts (cond (nat_eq (ranks op).rank j) (Some op) None) ≡ None
    pick true e none = absurd (placed_some op s ts none)
    pick false e none = let other : nat_eq (ranks op).rank j ≡ false = grind (arith, nat_tests) in rw other refl

none_at : (low high j : ℕ) (ts : List Token) → low ≤ j → j ≤ high → operator_within low high ts ≡ None → operator_at j ts ≡ None
none_at low high j [] a b h = refl
none_at low high j (t ∷ ts) a b h = no_rank low high j (operator_of t.kind) t.span ts a b h

quiet : (one others : Reader) (n low high : ℕ) (left : Expression) (ts : List Token) → ((j : ℕ) → low ≤ j → j ≤ high → operator_at j ts ≡ None) → low + n ≤ suc high → climbed one others n low left ts ≡ Got left ts
quiet one others zero low high left ts none le = refl
quiet one others (suc n) low high left ts none le =
    rw (none low (omega arith) (omega arith)) (quiet others others n (suc low) high left ts (λ j a b. none j (omega arith) b) (omega arith))

-- The operator that is the first token.
pub record Stands (low high : ℕ) (ts : List Token) (op : BinaryOp) (s : Span) (behind : List Token) : Type 0 where
  pub above : low ≤ (ranks op).rank
  pub below : (ranks op).rank ≤ high
  pub here : operator_at (ranks op).rank ts ≡ Some (op, s, behind)
  pub before : (j : ℕ) → j < (ranks op).rank → operator_at j ts ≡ None

stands_here : (low high : ℕ) (t : Token) (ts : List Token) (op : BinaryOp) → operator_of t.kind ≡ Some op → (nat_le low (ranks op).rank && nat_le (ranks op).rank high) ≡ true → Stands low high (t ∷ ts) op t.span ts
stands_here low high t ts op is e =
    let here : nat_eq (ranks op).rank (ranks op).rank ≡ true = grind (arith, nat_tests) in
    let before : (j : ℕ) → j < (ranks op).rank → operator_at j (t ∷ ts) ≡ None = λ j lt. rw (is, other_rank j lt) refl in
    record { above = grind (arith, nat_tests); below = grind (arith, nat_tests); here = rw (is, here) refl; before = before }
  where
    other_rank : (j : ℕ) → j < (ranks op).rank → nat_eq (ranks op).rank j ≡ false
    other_rank j lt = grind (arith, nat_tests)

stands_of : (low high : ℕ) (t : Token) (ts : List Token) (found : Option BinaryOp) (op : BinaryOp) (s : Span) (behind : List Token) → operator_of t.kind ≡ found → placed t.span ts (within low high found) ≡ Some (op, s, behind) → Stands low high (t ∷ ts) op s behind
stands_of low high t ts None op s behind is h = absurd (cc)
stands_of low high t ts (Some other) op s behind is h = pick (nat_le low (ranks other).rank && nat_le (ranks other).rank high) refl h
  where
    pick : (inside : Bool) → (nat_le low (ranks other).rank && nat_le (ranks other).rank high) ≡ inside → placed t.span ts (cond inside (Some other) None) ≡ Some (op, s, behind) → Stands low high (t ∷ ts) op s behind
    pick false e h = absurd (cc)
    pick true e h =
        let first : BinaryOp × Span × List Token = (other, t.span, ts) in
        let second : BinaryOp × Span × List Token = (op, s, behind) in
        let same : first ≡ second = cc in
        let P : BinaryOp × Span × List Token → Type 0 = λ p. Stands low high (t ∷ ts) p.0 p.1 p.2 in
        subst P same (stands_here low high t ts other is e)

stands : (low high : ℕ) (ts : List Token) (op : BinaryOp) (s : Span) (behind : List Token) → operator_within low high ts ≡ Some (op, s, behind) → Stands low high ts op s behind
stands low high [] op s behind h = absurd (cc)
stands low high (t ∷ ts) op s behind h = stands_of low high t ts (operator_of t.kind) op s behind refl h

-- `P` holds of the climb from a rank on, for all fuel above the number of tokens.
abbrev pub Holds : (Read Expression → Type 0) → ℕ → ℕ → Expression → List Token → Type 0
Holds P n low left ts = (m k : ℕ) → length ts < m → length ts < k → P (climbed (reading m) (reading k) n low left ts)

-- The climb skips the ranks that no operator follows.
climb_to : (P : Read Expression → Type 0) (d count n low rank : ℕ) (left : Expression) (ts : List Token) → count ≡ d + n → rank ≡ low + d → ((j : ℕ) → j < rank → operator_at j ts ≡ None) → Holds P n rank left ts → Holds P count low left ts
climb_to P zero count n low rank left ts c r none holds m k a b =
    let e : count ≡ n = omega arith in
    let f : rank ≡ low = omega arith in
    rw (e, ← f) (holds m k a b)
climb_to P (suc d) zero n low rank left ts c r none holds m k a b = absurd (omega arith)
climb_to P (suc d) (suc count) n low rank left ts c r none holds m k a b =
    rw (none low (omega arith)) (climb_to P d count n (suc low) rank left ts (omega arith) (omega arith) none holds k k b b)

-- The step that reads an operator and its right operand.
one_more : (P : Read Expression → Type 0) (n : ℕ) (op : BinaryOp) (left right : Expression) (s : Span) (ts behind rest : List Token) → operator_at (ranks op).rank ts ≡ Some (op, s, behind) → length behind < length ts → length rest < length behind → ((m : ℕ) → length behind < m → reading m (Full (ranks op).right) behind ≡ Got right rest) → (again : Bool) → repeats op ≡ again → Holds P (cond again (suc n) n) (cond again (ranks op).rank (suc (ranks op).rank)) (Expression.binary op left right s) rest → Holds P (suc n) (ranks op).rank left ts
one_more P n op left right s ts behind rest here shorter less read true e holds zero k a b = absurd (omega arith)
one_more P n op left right s ts behind rest here shorter less read true e holds (suc m) k a b =
    rw (here, read (suc m) (omega arith), e) (holds m k (omega arith) (omega arith))
one_more P n op left right s ts behind rest here shorter less read false e holds m k a b =
    rw (here, read m (omega arith), e) (holds k k (omega arith) (omega arith))

pub climb_on : (P : Read Expression → Type 0) (low high : ℕ) (op : BinaryOp) (left right : Expression) (s : Span) (ts behind rest : List Token) → operator_within low high ts ≡ Some (op, s, behind) → length behind < length ts → length rest < length behind → ((m : ℕ) → length behind < m → reading m (Full (ranks op).right) behind ≡ Got right rest) → Holds P (suc high - next_level op) (next_level op) (Expression.binary op left right s) rest → Holds P (suc high - low) low left ts
climb_on P low high op left right s ts behind rest inside shorter less read holds =
    let at = stands low high ts op s behind inside in
    climb_to P ((ranks op).rank - low) (suc high - low) (suc (high - (ranks op).rank)) low (ranks op).rank left ts (omega (arith, at.above, at.below)) (omega (arith, at.above)) at.before
    (one_more P (high - (ranks op).rank) op left right s ts behind rest at.here shorter less read (repeats op) refl (pick (repeats op) holds))
  where
    below : (ranks op).rank ≤ high
    below = (stands low high ts op s behind inside).below

    pick : (again : Bool) → Holds P (suc high - cond again (ranks op).rank (suc (ranks op).rank)) (cond again (ranks op).rank (suc (ranks op).rank)) (Expression.binary op left right s) rest → Holds P (cond again (suc (high - (ranks op).rank)) (high - (ranks op).rank)) (cond again (ranks op).rank (suc (ranks op).rank)) (Expression.binary op left right s) rest
    pick true holds =
        let same : suc high - (ranks op).rank ≡ suc (high - (ranks op).rank) = omega (arith, below) in
        subst (λ (n : ℕ). Holds P n (ranks op).rank (Expression.binary op left right s) rest) same holds
    pick false holds =
        let same : suc high - suc (ranks op).rank ≡ high - (ranks op).rank = omega arith in
        subst (λ (n : ℕ). Holds P n (suc (ranks op).rank) (Expression.binary op left right s) rest) same holds

-- The case in which the right operand is not read.
pub climb_stops : (e : PartStop) (low high : ℕ) (op : BinaryOp) (left : Expression) (s : Span) (ts behind : List Token) → operator_within low high ts ≡ Some (op, s, behind) → length behind < length ts → ((m : ℕ) → length behind < m → Fails e (reading m (Full (ranks op).right) behind)) → Holds (Fails e) (suc high - low) low left ts
climb_stops e low high op left s ts behind inside shorter read =
    let at = stands low high ts op s behind inside in
    climb_to (Fails e) ((ranks op).rank - low) (suc high - low) (suc (high - (ranks op).rank)) low (ranks op).rank left ts (omega (arith, at.above, at.below)) (omega (arith, at.above)) at.before
    (λ m k a b. rw at.here (fails_first e _ _ (fails_first e _ _ (read m (omega arith)))))

-- The case in which no operator follows.
pub climb_ends : (P : Read Expression → Type 0) (low high : ℕ) (left : Expression) (ts : List Token) → operator_within low high ts ≡ None → low ≤ suc high → P (Got left ts) → Holds P (suc high - low) low left ts
climb_ends P low high left ts none le got m k a b =
    rw (quiet (reading m) (reading k) (suc high - low) low high left ts (λ j x y. none_at low high j ts x y none) (omega arith)) got

-- The whole climb gives what the rest of it gives.
abbrev pub Leads : {X : Type 0} → (X → Expression) → (X → List Token) → ℕ → Expression → List Token → ℕ → Expression → List Token → Type 0
Leads {X} view rest high first all low left ts =
    (result : Result X PartStop) → Holds (λ r. Gives view rest result r) (suc high - low) low left ts → Holds (λ r. Gives view rest result r) high 1 first all

pub leads_first : {X : Type 0} (view : X → Expression) (rest : X → List Token) (high : ℕ) (first : Expression) (all : List Token) → Leads view rest high first all 1 first all
leads_first view rest high first all result holds m k a b =
    let e : suc high - 1 ≡ high = omega arith in
    rw (← e) (holds m k a b)

pub next_within : (low high : ℕ) (op : BinaryOp) (s : Span) (ts behind : List Token) → operator_within low high ts ≡ Some (op, s, behind) → next_level op ≤ suc high
next_within low high op s ts behind inside = pick (repeats op)
  where
    below : (ranks op).rank ≤ high
    below = (stands low high ts op s behind inside).below

    pick : (again : Bool) → cond again (ranks op).rank (suc (ranks op).rank) ≤ suc high
    pick true = omega (arith, below)
    pick false = omega (arith, below)

-- The error that `?` returns.
pub passed : {A : Type 0} (r : Result A PartStop) (e : PartStop) → IsErr r × IsErrAnd r (λ f. f ≡ e) → r ≡ Err e
passed (Ok x) e (is, same) = absurd same
passed (Err f) e (is, same) = ap Err same
