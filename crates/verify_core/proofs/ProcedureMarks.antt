-- The first marked procedure that is reached is the first one that is not closed.
use Rattle.std.proofs.Common.{◌≡◌, ◌<◌, ◌≤◌, ◌==◌, ◌||◌, ℕ, refl, sym, ap, ◌∙◌, subst, arith, Bool, true, false, List, [], ◌∷◌, length, get_or, ⊎_elim}
use Rattle.std.proofs.lemmas.Bool.{cases_eq, eq-eqb, ne_eqb, or_cases, false≢true}
use Rattle.std.specs.Prelude.{Some, None, if◌then◌else◌}
use Prim.Native.Nat.{zero, suc}
use Rattle.heyvl_acts.specs.Acts.{TypedProcedure}
use Rattle.heyvl_acts.specs.Program.{Reaches}
use Rattle.heyvl_acts.specs.Rules.{GrowBelow}
use Rattle.heyvl_acts.specs.Visible.{among}
use Rattle.proc_contracts.specs.ReachedProcedures.{AreReached}
use Rattle.verify_core.specs.Verdicts.{IsClosed, IsFirstOpen}
use Rattle.verify_core.specs.declared.outcomes.GoalOutcome.{GoalOutcome}
use Rattle.verify_core.specs.internal.Marks.{AreMarks, IsMark, first_marked}

-- ---- The first mark

pub among_within : (from n : ℕ) (xs : List ℕ) (r : ℕ) → GrowBelow from n xs → among xs r ≡ true → (from ≤ r) × (r < n)
among_within from n [] r h e = absurd (false≢true e)
among_within from n (x ∷ xs) r h e = ⊎_elim (λ ne. here ne) (λ k. let m = among_within (suc x) n xs r h.1 k in let a = m.0 in let b = h.0.0 in (omega (arith, a, b), m.1)) (or_cases (x == r) (among xs r) e)
  where
    here : (x == r) ≡ true → (from ≤ r) × (r < n)
    here k = ⊎_elim (λ q. subst (λ y. (from ≤ y) × (y < n)) q h.0) (λ q. absurd (false≢true (sym (ne_eqb x r q) ∙ k))) (cases_eq x r)

pub record IsFirst (ms : List Bool) (found : List ℕ) (q : ℕ) : Type 0 where
  pub listed : among found q ≡ true
  pub marked : get_or ms q false ≡ true
  pub before : (r : ℕ) → r < q → among found r ≡ true → get_or ms r false ≡ false

first_here : (ms : List Bool) (from n x : ℕ) (xs : List ℕ) → GrowBelow from n (x ∷ xs) → get_or ms x false ≡ true → IsFirst ms (x ∷ xs) x
first_here ms from n x xs h e = record {
  listed = ap (λ b. b || among xs x) (eq-eqb x x refl);
  marked = e;
  before = λ r l k. ⊎_elim (λ m. absurd (false≢true (sym (ne_eqb x r (λ z. absurd (omega (arith, l, z)))) ∙ m))) (λ m. let w = among_within (suc x) n xs r h.1 m in let a = w.0 in absurd (omega (arith, a, l))) (or_cases (x == r) (among xs r) k);
}

first_later : (ms : List Bool) (x q : ℕ) (xs : List ℕ) → get_or ms x false ≡ false → IsFirst ms xs q → IsFirst ms (x ∷ xs) q
first_later ms x q xs e h = record {
  listed = or_true (x == q) (among xs q) h.listed;
  marked = h.marked;
  before = λ r l k. ⊎_elim (λ m. ⊎_elim (λ z. subst (λ y. get_or ms y false ≡ false) z e) (λ z. absurd (false≢true (sym (ne_eqb x r z) ∙ m))) (cases_eq x r)) (λ m. h.before r l m) (or_cases (x == r) (among xs r) k);
}
  where
    or_true : (a b : Bool) → b ≡ true → (a || b) ≡ true
    or_true true b k = refl
    or_true false b k = k

same_number : (a b : ℕ) → Some a ≡ Some b → a ≡ b
same_number a b k = cc

first_by : (ms : List Bool) (from n x : ℕ) (xs : List ℕ) (q : ℕ) (b : Bool) → get_or ms x false ≡ b → GrowBelow from n (x ∷ xs) → Some q ≡ first_marked ms (x ∷ xs) → (Some q ≡ first_marked ms xs → IsFirst ms xs q) → IsFirst ms (x ∷ xs) q
first_by ms from n x xs q true k h e f = subst (IsFirst ms (x ∷ xs)) (sym (same_number q x (e ∙ ap (λ b. if b then Some x else first_marked ms xs) k))) (first_here ms from n x xs h k)
first_by ms from n x xs q false k h e f = first_later ms x q xs k (f (e ∙ ap (λ b. if b then Some x else first_marked ms xs) k))

pub is_first : (ms : List Bool) (from n : ℕ) (found : List ℕ) (q : ℕ) → GrowBelow from n found → Some q ≡ first_marked ms found → IsFirst ms found q
is_first ms from n [] q h e = absurd (cc)
is_first ms from n (x ∷ xs) q h e = first_by ms from n x xs q (get_or ms x false) refl h e (λ k. is_first ms (suc x) n xs q h.1 k)

none_by : (ms : List Bool) (x : ℕ) (xs : List ℕ) (r : ℕ) (b : Bool) → get_or ms x false ≡ b → None ≡ first_marked ms (x ∷ xs) → among (x ∷ xs) r ≡ true → (None ≡ first_marked ms xs → among xs r ≡ true → get_or ms r false ≡ false) → get_or ms r false ≡ false
none_by ms x xs r true m e k f = absurd (let z : None ≡ Some x = e ∙ ap (λ b. if b then Some x else first_marked ms xs) m in cc)
none_by ms x xs r false m e k f = ⊎_elim (λ y. ⊎_elim (λ z. subst (λ y. get_or ms y false ≡ false) z m) (λ z. absurd (false≢true (sym (ne_eqb x r z) ∙ y))) (cases_eq x r)) (λ y. f (e ∙ ap (λ b. if b then Some x else first_marked ms xs) m) y) (or_cases (x == r) (among xs r) k)

pub none_marked : (ms : List Bool) (found : List ℕ) (r : ℕ) → None ≡ first_marked ms found → among found r ≡ true → get_or ms r false ≡ false
none_marked ms [] r e k = absurd (false≢true k)
none_marked ms (x ∷ xs) r e k = none_by ms x xs r (get_or ms x false) refl e k (none_marked ms xs r)

pub all_within : (from n : ℕ) (xs : List ℕ) → GrowBelow from n xs → (k : ℕ) (d : ℕ) → k < length xs → get_or xs k d < n
all_within from n [] h k d l = absurd (omega arith)
all_within from n (x ∷ xs) h zero d l = h.0.1
all_within from n (x ∷ xs) h (suc k) d l = all_within (suc x) n xs h.1 k d (omega arith)

-- ---- What a mark means

module _ (ps : List TypedProcedure) (table : List (List GoalOutcome)) (p : ℕ) (ms : List Bool) (found : List ℕ) (reached : AreReached ps p found) (are : AreMarks ps table ms) where
  unmarked_closed : (r : ℕ) → among found r ≡ true → get_or ms r false ≡ false → IsClosed ps table r
  unmarked_closed r a e = subst (IsMark ps table r) e (are r (among_within 0 (length ps) found r reached.growing a).1)

  pub first_open : (q : ℕ) → Some q ≡ first_marked ms found → IsFirstOpen ps table p q
  first_open q e =
      let f = is_first ms 0 (length ps) found q reached.growing e in
      record {
        reached = reached.only q f.listed;
        is_open = subst (IsMark ps table q) f.marked (are q (among_within 0 (length ps) found q reached.growing f.listed).1);
        closed_before = λ r l h. unmarked_closed r (reached.all r h) (f.before r l (reached.all r h));
      }

  pub all_closed : None ≡ first_marked ms found → (q : ℕ) → Reaches ps p q → IsClosed ps table q
  all_closed e q h = unmarked_closed q (reached.all q h) (none_marked ms found q e (reached.all q h))
