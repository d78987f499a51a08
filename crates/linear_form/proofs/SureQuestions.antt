-- Trees that surely ask comparisons of numbers, and what follows for the ends of paths.
use Rattle.std.proofs.Common.{◌≡◌, ℕ, List, [], ◌∷◌, ◌++◌, sym, ap, ◌∙◌, subst, arith, Bool, true, false, cond, length}
use Rattle.std.proofs.lemmas.List.{take_all}
use Prim.Native.Nat.{zero, suc}
use Rattle.std.specs.Prelude.{Option, Some, None}
use Rattle.heylo_formula.specs.Goals.{Goal}
use Rattle.linear_form.specs.Query.{Query, Atom, Taken, next, known, unless_known, onto, once}
use Rattle.linear_form.specs.Query.Query.{done, bits, ask}
use Rattle.linear_form.specs.Questions.{questions}
use Rattle.linear_form.specs.QuestionLaws.{EachResult}
use Rattle.linear_form.specs.Paths.{walk, end_at}
use Rattle.linear_form.specs.LastingPaths.{IsNoEnd}
use Rattle.linear_form.specs.Standings.{Standing}
use Rattle.linear_form.specs.Places.{IsOn}
use Rattle.linear_form.specs.internal.Evaluations.{left_at, standing}
use Rattle.linear_form.specs.internal.LastingTrees.{Lasts}
use Rattle.linear_form.specs.declared.places.Evaluation.{Evaluation}
use Rattle.linear_form.proofs.SplitPaths.{walk_nil, walk_append}

pub lasts_bits : (A : Type 0) (k : ℕ) → Lasts {A = A} k bits
unfolding Lasts
lasts_bits A zero = tt
lasts_bits A (suc k) = tt

fewer : {A : Type 0} (k : ℕ) (t : Query A) → Lasts (suc k) t → Lasts k t
unfolding Lasts
fewer zero t h = tt
fewer (suc k) (done a) h = absurd h
fewer (suc k) bits h = tt
fewer (suc k) (ask (Atom.row a strict) y n) h = (fewer k y h.0, fewer k n h.1)
fewer (suc k) (ask (Atom.truth x) y n) h = (fewer (suc k) y h.0, fewer (suc k) n h.1)

-- ---- A part, and what follows it

pub lasts_first : {A B : Type 0} (k : ℕ) (t : Query A) (f : A → Query B) → Lasts k t → Lasts k (next t f)
unfolding Lasts
lasts_first zero t f h = tt
lasts_first (suc k) (done a) f h = absurd h
lasts_first (suc k) bits f h = tt
lasts_first (suc k) (ask (Atom.row a strict) y n) f h = (lasts_first k y f h.0, lasts_first k n f h.1)
lasts_first (suc k) (ask (Atom.truth x) y n) f h = (lasts_first (suc k) y f h.0, lasts_first (suc k) n f h.1)

pub lasts_each : {A B : Type 0} (P : A → Type 0) (k : ℕ) (t : Query A) (f : A → Query B) → EachResult P t → ((a : A) → P a → Lasts k (f a)) → Lasts k (next t f)
unfolding Lasts
lasts_each P zero t f h g = tt
lasts_each P (suc k) (done a) f h g = g a h
lasts_each P (suc k) bits f h g = tt
lasts_each P (suc k) (ask (Atom.row a strict) y n) f h g = (fewer k (next y f) (lasts_each P (suc k) y f h.0 g), fewer k (next n f) (lasts_each P (suc k) n f h.1 g))
lasts_each P (suc k) (ask (Atom.truth x) y n) f h g = (lasts_each P (suc k) y f h.0 g, lasts_each P (suc k) n f h.1 g)

each_any : {A : Type 0} (t : Query A) → EachResult (λ a. Unit {0}) t
each_any (done a) = tt
each_any bits = tt
each_any (ask q y n) = (each_any y, each_any n)

pub lasts_later : {A B : Type 0} (k : ℕ) (t : Query A) (f : A → Query B) → ((a : A) → Lasts k (f a)) → Lasts k (next t f)
lasts_later k t f g = lasts_each (λ a. Unit {0}) k t f (each_any t) (λ a u. g a)

pub lasts_twice : {A B : Type 0} (t : Query A) (f : A → Query B) → Lasts 1 t → ((a : A) → Lasts 1 (f a)) → Lasts 2 (next t f)
unfolding Lasts
lasts_twice (done a) f h g = absurd h
lasts_twice bits f h g = tt
lasts_twice (ask (Atom.row a strict) y n) f h g = (lasts_later 1 y f g, lasts_later 1 n f g)
lasts_twice (ask (Atom.truth x) y n) f h g = (lasts_twice y f h.0 g, lasts_twice n f h.1 g)

pub chosen_lasts : {B : Type 0} (k : ℕ) (t : Bool) (q r : Query B) → Lasts k q → Lasts k r → Lasts k (cond t q r)
chosen_lasts k true q r h g = h
chosen_lasts k false q r h g = g

-- ---- A tree that surely asks two comparisons is not at its end after one answer

known_lasts : {A : Type 0} (k : ℕ) (o : Option Bool) (y n z : Query A) → Lasts k y → Lasts k n → Lasts k z → Lasts k (unless_known o y n z)
known_lasts k (Some true) y n z h g l = h
known_lasts k (Some false) y n z h g l = g
known_lasts k None y n z h g l = l

lasts_once : {A : Type 0} (k : ℕ) (ps : List Taken) (t : Query A) → Lasts k t → Lasts k (once ps t)
unfolding Lasts
lasts_once zero ps t h = tt
lasts_once (suc k) ps (done a) h = absurd h
lasts_once (suc k) ps bits h = tt
lasts_once (suc k) ps (ask (Atom.row a strict) y n) h = (lasts_once k (onto ps (Atom.row a strict) true) y h.0, lasts_once k (onto ps (Atom.row a strict) false) n h.1)
lasts_once (suc k) ps (ask (Atom.truth x) y n) h = known_lasts (suc k) (known x ps) _ _ (ask (Atom.truth x) (once (onto ps (Atom.truth x) true) y) (once (onto ps (Atom.truth x) false) n)) (lasts_once (suc k) ps y h.0) (lasts_once (suc k) ps n h.1) (lasts_once (suc k) (onto ps (Atom.truth x) true) y h.0, lasts_once (suc k) (onto ps (Atom.truth x) false) n h.1)

neither_given : {A : Type 0} (k : ℕ) (b : Bool) (y n : Query A) (a : A) → Lasts (suc k) y → Lasts (suc k) n → cond b (walk y []) (walk n []) ≡ done a → ⊥
unfolding Lasts
neither_given k true y n a h g e = subst (Lasts (suc k)) (sym (walk_nil y) ∙ e) h
neither_given k false y n a h g e = subst (Lasts (suc k)) (sym (walk_nil n) ∙ e) g

one_given : {A : Type 0} (t : Query A) (p : Taken) (a : A) → Lasts 2 t → walk t (p ∷ []) ≡ done a → ⊥
unfolding Lasts
one_given (done b) p a h e = h
one_given bits p a h e = absurd (cc)
one_given (ask (Atom.row l strict) y n) p a h e = neither_given 0 p.held y n a h.0 h.1 e
one_given (ask (Atom.truth x) y n) p a h e = neither_given 1 p.held y n a h.0 h.1 e

pub no_end : (g : Goal) (ps : List Taken) (t : Taken) (p : Standing) → p.at ≡ length ps → Lasts 2 p.left → IsOn g ps p → IsNoEnd g (ps ++ (t ∷ []))
no_end g ps t p a h on e end = one_given (once ps p.left) t e (lasts_once 2 ps p.left h) (sym (ap (λ z. walk z (t ∷ [])) left) ∙ sym (walk_append (questions g) ps (t ∷ [])) ∙ end)
  where
    left : end_at g ps ≡ once ps p.left
    left = subst (λ xs. end_at g xs ≡ once xs p.left) (take_all p.at ps (omega (arith, a))) on.left

pub no_end_here : (g : Goal) (ps : List Taken) (t : Taken) (p : Standing) (e : Evaluation) (count : ℕ) → standing e ≡ p → e.at ≡ count → Lasts 2 (left_at e) → length ps ≡ count → IsOn g ps p → IsNoEnd g (ps ++ (t ∷ []))
no_end_here g ps t p e count s a h l on = no_end g ps t (standing e) (omega (arith, a, l)) h (subst (IsOn g ps) (sym s) on)
