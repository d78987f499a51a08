-- Marked numbers, and the list of them.
use Rattle.std.proofs.Common.{◌≡◌, ℕ, Bool, true, false, ◌||◌, ◌+◌, ◌<◌, ◌≤◌, ◌==◌, refl, ap, sym, subst, ◌∙◌, arith, List, [], ◌∷◌, ◌++◌, append_assoc, length, get_or, set, take, ⊎_elim, replicate}
use Prim.Native.Nat.{zero, suc}
use Rattle.std.proofs.lemmas.Bool.{cases_eq, eq-eqb, ne_eqb, or_right, false≢true}
use Rattle.std.proofs.lemmas.List.{length_push, length-set, get_or-set_same, get_or-set_other, take_more}
use Rattle.heyvl_acts.specs.Rules.{GrowBelow}
use Rattle.heyvl_acts.specs.Visible.{among}
use Rattle.proc_contracts.proofs.Targets.{grow_earlier}
use Rattle.proc_contracts.specs.internal.MarkedNumbers.{unset, marked, AreMarked, Grew}

or_assoc : (x y z : Bool) → ((x || y) || z) ≡ (x || (y || z))
or_assoc true y z = refl
or_assoc false y z = refl

or_false : (x : Bool) → (x || false) ≡ x
or_false true = refl
or_false false = refl

pub among_append : (xs ys : List ℕ) (q : ℕ) → among (xs ++ ys) q ≡ (among xs q || among ys q)
among_append [] ys q = refl
among_append (x ∷ xs) ys q = ap (λ b. (x == q) || b) (among_append xs ys q) ∙ sym (or_assoc (x == q) (among xs q) (among ys q))

pub among_push : (xs : List ℕ) (x q : ℕ) → among (xs ++ x ∷ []) q ≡ (among xs q || (x == q))
among_push xs x q = among_append xs (x ∷ []) q ∙ ap (λ b. among xs q || b) (or_false (x == q))

-- ---- Marks

pub none_marked : (n : ℕ) → AreMarked (replicate n false) []
none_marked n = record { same = unmarked n; once = all_unset n }
  where
    unmarked : (n q : ℕ) → get_or (replicate n false) q false ≡ false
    unmarked zero q = refl
    unmarked (suc n) zero = refl
    unmarked (suc n) (suc q) = unmarked n q

    all_unset : (n : ℕ) → unset (replicate n false) + 0 ≡ length (replicate n false)
    all_unset zero = refl
    all_unset (suc n) = let h = all_unset n in omega (arith, h)

one_less : (marks : List Bool) (q : ℕ) → q < length marks → get_or marks q false ≡ false → suc (unset (set marks q true)) ≡ unset marks
one_less [] q lt h = absurd (omega (arith, lt))
one_less (false ∷ rest) zero lt h = refl
one_less (true ∷ rest) zero lt h = absurd (false≢true (sym h))
one_less (true ∷ rest) (suc q) lt h = one_less rest q (omega (arith, lt)) h
one_less (false ∷ rest) (suc q) lt h = ap suc (one_less rest q (omega (arith, lt)) h)

pub mark_more : (marks : List Bool) (list : List ℕ) (q : ℕ) → AreMarked marks list → q < length marks → get_or marks q false ≡ false → AreMarked (set marks q true) (list ++ q ∷ [])
mark_more marks list q m lt h = record {
  same = λ y. ⊎_elim (λ e. subst (λ z. get_or (set marks q true) z false ≡ among (list ++ q ∷ []) z) e (get_or-set_same marks q true false lt ∙ sym (among_push list q q ∙ or_right (among list q) (q == q) (eq-eqb q q refl)))) (λ ne. get_or-set_other marks q y true false (λ e. ne (sym e)) ∙ (m.same y ∙ sym (among_push list q y ∙ (ap (λ b. among list y || b) (ne_eqb q y ne) ∙ or_false (among list y))))) (cases_eq q y);
  once = let a = one_less marks q lt h in let b = length_push list q in let c = length-set marks q true in let d = m.once in omega (arith, a, b, c, d);
}

-- ---- Lists that grow

-- A number that is already in the list.
pub grew_same : (before after asked : List ℕ) (x : ℕ) → Grew before after asked → among after x ≡ true → Grew before after (asked ++ x ∷ [])
grew_same before after asked x g h = record {
  more = g.more;
  behind = g.behind;
  exact = λ q. ⊎_elim (λ e. subst (λ z. among after z ≡ (among before z || among (asked ++ x ∷ []) z)) e (h ∙ sym (or_right (among before x) _ (among_push asked x x ∙ or_right (among asked x) (x == x) (eq-eqb x x refl))))) (λ ne. g.exact q ∙ ap (λ b. among before q || b) (sym (among_push asked x q ∙ (ap (λ b. among asked q || b) (ne_eqb x q ne) ∙ or_false (among asked q))))) (cases_eq x q);
}

-- A new number, which is appended.
pub grew_more : (before after asked : List ℕ) (x : ℕ) → Grew before after asked → Grew before (after ++ x ∷ []) (asked ++ x ∷ [])
grew_more before after asked x g = record {
  more = g.more ++ x ∷ [];
  behind = ap (λ l. l ++ x ∷ []) g.behind ∙ append_assoc before g.more (x ∷ []);
  exact = λ q. among_push after x q ∙ (ap (λ b. b || (x == q)) (g.exact q) ∙ (or_assoc (among before q) (among asked q) (x == q) ∙ ap (λ b. among before q || b) (sym (among_push asked x q))));
}

pub grew_next : (before after all : List ℕ) (k : ℕ) → k < length all → Grew before after (take k all ++ get_or all k 0 ∷ []) → Grew before after (take (k + 1) all)
grew_next before after all k lt g = subst (λ l. Grew before after l) (sym (take_more all k 0 lt)) g

-- ---- The marked numbers

-- They grow, from the number of the first mark on.
pub marked_grow : (n : ℕ) (marks : List Bool) (below : ℕ) → n + length marks ≤ below → GrowBelow n below (marked n marks)
marked_grow n [] below h = tt
marked_grow n (true ∷ rest) below h = ((omega arith, omega (arith, h)), marked_grow (suc n) rest below (omega (arith, h)))
marked_grow n (false ∷ rest) below h = grow_earlier n (suc n) below (marked (suc n) rest) (omega arith) (marked_grow (suc n) rest below (omega (arith, h)))

-- A number is among them if and only if it is marked.
not_before : (n : ℕ) (marks : List Bool) (q : ℕ) → q < n → among (marked n marks) q ≡ false
not_before n [] q lt = refl
not_before n (true ∷ rest) q lt = ap (λ b. b || among (marked (suc n) rest) q) (ne_eqb n q (λ e. absurd (omega (arith, lt, e)))) ∙ not_before (suc n) rest q (omega (arith, lt))
not_before n (false ∷ rest) q lt = not_before (suc n) rest q (omega (arith, lt))

shift : (n k : ℕ) → suc n + k ≡ n + suc k
shift n k = omega arith

from : (n : ℕ) (marks : List Bool) (k : ℕ) → among (marked n marks) (n + k) ≡ get_or marks k false
from n [] k = refl
from n (true ∷ rest) zero = ap (λ b. b || among (marked (suc n) rest) (n + 0)) (eq-eqb n (n + 0) (omega arith))
from n (false ∷ rest) zero = not_before (suc n) rest (n + 0) (omega arith)
from n (true ∷ rest) (suc k) = ap (λ b. b || among (marked (suc n) rest) (n + suc k)) (ne_eqb n (n + suc k) (λ e. absurd (omega (arith, e)))) ∙ (ap (λ m. among (marked (suc n) rest) m) (sym (shift n k)) ∙ from (suc n) rest k)
from n (false ∷ rest) (suc k) = ap (λ m. among (marked (suc n) rest) m) (sym (shift n k)) ∙ from (suc n) rest k

pub marked_are : (marks : List Bool) (q : ℕ) → among (marked 0 marks) q ≡ get_or marks q false
marked_are marks q = ap (λ m. among (marked 0 marks) m) (let e : q ≡ 0 + q = omega arith in e) ∙ from 0 marks q
