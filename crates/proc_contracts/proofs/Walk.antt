-- The walk over calls: its invariant, and its result.
use Rattle.std.proofs.Common.{◌≡◌, ℕ, Bool, true, false, ◌+◌, ◌<◌, ◌≤◌, ◌==◌, refl, ap, sym, subst, ◌∙◌, arith, List, [], ◌∷◌, ◌++◌, length, get_or, take, ⊎_elim}
use Prim.Native.Nat.{zero, suc}
use Rattle.std.proofs.lemmas.Bool.{cases_lt, eqb-true, eq-eqb, or_cases, or_left, or_right, false≢true}
use Rattle.std.proofs.lemmas.List.{get_or_past, take-append-le, take_all, take_more}
use Rattle.heyvl_acts.specs.Acts.{TypedProcedure}
use Rattle.heyvl_acts.specs.Program.{Calls, Reaches}
use Rattle.heyvl_acts.specs.Visible.{among}
use Rattle.proc_contracts.specs.ReachedProcedures.{AreReached}
use Rattle.proc_contracts.specs.internal.CallWalk.{AreCalled, ReachIsMarked}
use Rattle.proc_contracts.specs.internal.MarkedNumbers.{AreMarked, Grew, marked}
use Rattle.proc_contracts.proofs.Marks.{among_push, marked_are, marked_grow}

-- The list holds procedures that `p` reaches, among them those that `p` calls and those that the
-- procedures before `next` call.
pub record OnTheWay (ps : List TypedProcedure) (p : ℕ) (marks : List Bool) (list : List ℕ) (next : ℕ) : Type 0 where
  pub are_marked : AreMarked marks list
  pub sized : length marks ≡ length ps
  pub only : (q : ℕ) → among list q ≡ true → Reaches ps p q
  pub first : (r : ℕ) → Calls ps p r → among list r ≡ true
  pub closed : (q r : ℕ) → among (take next list) q ≡ true → Calls ps q r → among list r ≡ true

further : (ps : List TypedProcedure) (p q r : ℕ) → Reaches ps p q → Calls ps q r → Reaches ps p r
further ps _ _ r (Reaches.directly p q c) d = Reaches.onward p q r c (Reaches.directly q r d)
further ps _ _ r (Reaches.onward p q q' c h) d = Reaches.onward p q r c (further ps q q' r h d)

among_read : (xs : List ℕ) (i d : ℕ) → i < length xs → among xs (get_or xs i d) ≡ true
among_read [] i d lt = absurd (omega (arith, lt))
among_read (x ∷ xs) zero d lt = or_left (x == x) (among xs x) (eq-eqb x x refl)
among_read (x ∷ xs) (suc i) d lt = or_right (x == get_or xs i d) _ (among_read xs i d (omega (arith, lt)))

pub stands : (xs : List ℕ) (i x : ℕ) → i < length xs → x ≡ get_or xs i x → among xs x ≡ true
stands xs i x lt is = subst (λ y. among xs y ≡ true) (sym is) (among_read xs i x lt)

pub below_marks : (marks : List Bool) (list : List ℕ) (q : ℕ) → AreMarked marks list → among list q ≡ true → q < length marks
below_marks marks list q m h = ⊎_elim (λ lt. lt) (λ past. absurd (false≢true (sym (get_or_past marks q false past) ∙ (m.same q ∙ h)))) (cases_lt q (length marks))

kept : (before after asked : List ℕ) (q : ℕ) → Grew before after asked → among before q ≡ true → among after q ≡ true
kept before after asked q g h = g.exact q ∙ or_left (among before q) (among asked q) h

added : (before after asked : List ℕ) (q : ℕ) → Grew before after asked → among asked q ≡ true → among after q ≡ true
added before after asked q g h = g.exact q ∙ or_right (among before q) (among asked q) h

pub started : (ps : List TypedProcedure) (p : ℕ) (called : List ℕ) (marks : List Bool) (list : List ℕ) → AreCalled ps p called → AreMarked marks list → length marks ≡ length ps → Grew [] list called → OnTheWay ps p marks list 0
started ps p called marks list a m l g = record {
  are_marked = m;
  sized = l;
  only = λ q h. Reaches.directly p q (sym (a.each q) ∙ (sym (g.exact q) ∙ h));
  first = λ r c. g.exact r ∙ (a.each r ∙ c);
  closed = λ q r h c. absurd (false≢true h);
}

one_more : (list after called : List ℕ) (next x : ℕ) → next < length list → x ≡ get_or list next x → Grew list after called → take (next + 1) after ≡ take next list ++ x ∷ []
one_more list after called next x lt is g = ap (λ xs. take (next + 1) xs) g.behind ∙ (take-append-le (next + 1) list g.more (omega (arith, lt)) ∙ (take_more list next x lt ∙ ap (λ y. take next list ++ y ∷ []) (sym is)))

-- The step that adds what the next procedure of the list calls.
pub further_on : (ps : List TypedProcedure) (p : ℕ) (marks after_marks : List Bool) (list after called : List ℕ) (next x : ℕ) → OnTheWay ps p marks list next → next < length list → x ≡ get_or list next x → AreCalled ps x called → AreMarked after_marks after → length after_marks ≡ length marks → Grew list after called → OnTheWay ps p after_marks after (next + 1)
further_on ps p marks after_marks list after called next x w lt is a m l g = record {
  are_marked = m;
  sized = l ∙ w.sized;
  only = λ q h. ⊎_elim (λ old. w.only q old) (λ new. further ps p x q (w.only x (stands list next x lt is)) (sym (a.each q) ∙ new)) (or_cases (among list q) (among called q) (sym (g.exact q) ∙ h));
  first = λ r c. kept list after called r g (w.first r c);
  closed = λ q r h c. ⊎_elim (λ old. kept list after called r g (w.closed q r old c)) (λ new. added list after called r g (a.each r ∙ subst (λ y. Calls ps y r) (sym (eqb-true x q new)) c)) (or_cases (among (take next list) q) (x == q) (sym (among_push (take next list) x q) ∙ (ap (λ xs. among xs q) (sym (one_more list after called next x lt is g)) ∙ h)));
}

-- The step for `p` itself, which adds nothing.
pub past_itself : (ps : List TypedProcedure) (p : ℕ) (marks : List Bool) (list : List ℕ) (next x : ℕ) → OnTheWay ps p marks list next → next < length list → x ≡ get_or list next x → x ≡ p → OnTheWay ps p marks list (next + 1)
past_itself ps p marks list next x w lt is own = record {
  are_marked = w.are_marked;
  sized = w.sized;
  only = w.only;
  first = w.first;
  closed = λ q r h c. ⊎_elim (λ old. w.closed q r old c) (λ new. w.first r (subst (λ y. Calls ps y r) (sym (eqb-true x q new) ∙ own) c)) (or_cases (among (take next list) q) (x == q) (sym (among_push (take next list) x q) ∙ (ap (λ xs. among xs q) (sym (take_more list next x lt ∙ ap (λ y. take next list ++ y ∷ []) (sym is))) ∙ h)));
}

pub finished : (ps : List TypedProcedure) (p : ℕ) (marks : List Bool) (list : List ℕ) (next : ℕ) → OnTheWay ps p marks list next → length list ≤ next → ReachIsMarked ps p marks
finished ps p marks list next w over = record {
  length_is = w.sized;
  all = λ q h. w.are_marked.same q ∙ all p q h refl;
  only = λ q h. w.only q (sym (w.are_marked.same q) ∙ h);
}
  where
    step : (q r : ℕ) → among list q ≡ true → Calls ps q r → among list r ≡ true
    step q r h c = w.closed q r (ap (λ xs. among xs q) (take_all next list over) ∙ h) c

    on : (a q : ℕ) → among list a ≡ true → Reaches ps a q → among list q ≡ true
    on _ _ h (Reaches.directly a q c) = step a q h c
    on _ _ h (Reaches.onward a b q c rest) = on b q (step a b h c) rest

    all : (a q : ℕ) → Reaches ps a q → a ≡ p → among list q ≡ true
    all _ _ (Reaches.directly a q c) e = w.first q (subst (λ y. Calls ps y q) e c)
    all _ _ (Reaches.onward a b q c rest) e = on b q (w.first b (subst (λ y. Calls ps y b) e c)) rest

-- At the end, the marked numbers are the reached ones.
pub marked_are_reached : (ps : List TypedProcedure) (p : ℕ) (marks : List Bool) → ReachIsMarked ps p marks → AreReached ps p (marked 0 marks)
marked_are_reached ps p marks r = record {
  growing = marked_grow 0 marks (length ps) (let l = r.length_is in omega (arith, l));
  all = λ q h. marked_are marks q ∙ r.all q h;
  only = λ q h. r.only q (sym (marked_are marks q) ∙ h);
}
