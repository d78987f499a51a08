-- Laws of trees of comparisons: the path of a state, and the result at its end.
use Rattle.std.proofs.Common.{◌≡◌, ℕ, List, [], ◌∷◌, refl, sym, ap, ◌∙◌, subst, arith, Bool, true, false, cond, ◌==◌}
use Rattle.std.specs.Prelude.{Option, Some, None}
use Rattle.heylo_formula.specs.State.{Env, truth_of}
use Rattle.linear_form.specs.Query.{Query, Atom, next, holds_at, Taken, known, known_by, unless_known, onto, once}
use Rattle.linear_form.specs.Query.Query.{done, bits, ask}
use Rattle.linear_form.specs.Paths.{walk, Path, Agrees, Ended}

-- `Ends t s P`: if the answers of the state `s` lead to a result of the tree `t`, it has the
-- property `P`.
abbrev pub Ends : {A : Type 0} → Query A → Env → (A → Type 0) → Type 0
Ends (done a) s P = P a
Ends bits s P = Unit {0}
Ends (ask q y n) s P = (holds_at q s ≡ true → Ends y s P) × (holds_at q s ≡ false → Ends n s P)

pub ends_then : {A B : Type 0} (t : Query A) (f : A → Query B) (s : Env) (P : A → Type 0) (Q : B → Type 0) → Ends t s P → ((a : A) → P a → Ends (f a) s Q) → Ends (next t f) s Q
ends_then (done a) f s P Q h k = k a h
ends_then bits f s P Q h k = tt
ends_then (ask q y n) f s P Q h k = (λ e. ends_then y f s P Q (h.0 e) k, λ e. ends_then n f s P Q (h.1 e) k)

known_is : (x : ℕ) (ps : List Taken) (s : Env) (b : Bool) → Agrees s ps → known x ps ≡ Some b → truth_of (s x) ≡ b
known_is x [] s b h e = absurd (cc)
known_is x (p ∷ ps) s b h e = go p.atom refl (known_is x ps s b h.1) e
  where
    go : (q : Atom) → p.atom ≡ q → (known x ps ≡ Some b → truth_of (s x) ≡ b) → known_by x q p.held (known x ps) ≡ Some b → truth_of (s x) ≡ b
    go (Atom.row a strict) k ih e = ih e
    go (Atom.truth y) k ih e = step (x == y) refl ih e
      where
        step : (t : Bool) → (x == y) ≡ t → (known x ps ≡ Some b → truth_of (s x) ≡ b) → cond t (Some p.held) (known x ps) ≡ Some b → truth_of (s x) ≡ b
        step true q ih e = let r : p.held ≡ b = cc in let i : x ≡ y = grind arith in ap (λ z. truth_of (s z)) i ∙ ap (λ q. holds_at q s) (sym k) ∙ h.0 ∙ r
        step false q ih e = ih e

agree_onto : (s : Env) (ps : List Taken) (q : Atom) (b : Bool) → Agrees s ps → holds_at q s ≡ b → Agrees s (onto ps q b)
agree_onto s [] q b h e = (e, tt)
agree_onto s (p ∷ ps) q b h e = (h.0, agree_onto s ps q b h.1 e)

pub ends_once : {A : Type 0} (ps : List Taken) (t : Query A) (s : Env) (P : A → Type 0) → Agrees s ps → Ends t s P → Ends (once ps t) s P
ends_once ps (done a) s P k h = h
ends_once ps bits s P k h = tt
ends_once ps (ask (Atom.row a strict) y n) s P k h = (λ e. ends_once (onto ps (Atom.row a strict) true) y s P (agree_onto s ps (Atom.row a strict) true k e) (h.0 e), λ e. ends_once (onto ps (Atom.row a strict) false) n s P (agree_onto s ps (Atom.row a strict) false k e) (h.1 e))
ends_once ps (ask (Atom.truth x) y n) s P k h = go (known x ps) refl (λ e. ends_once ps y s P k (h.0 e)) (λ e. ends_once ps n s P k (h.1 e)) (λ e. ends_once (onto ps (Atom.truth x) true) y s P (agree_onto s ps (Atom.truth x) true k e) (h.0 e)) (λ e. ends_once (onto ps (Atom.truth x) false) n s P (agree_onto s ps (Atom.truth x) false k e) (h.1 e))
  where
    go : (o : Option Bool) → known x ps ≡ o → (truth_of (s x) ≡ true → Ends (once ps y) s P) → (truth_of (s x) ≡ false → Ends (once ps n) s P) → (truth_of (s x) ≡ true → Ends (once (onto ps (Atom.truth x) true) y) s P) → (truth_of (s x) ≡ false → Ends (once (onto ps (Atom.truth x) false) n) s P) → Ends (unless_known o (once ps y) (once ps n) (ask (Atom.truth x) (once (onto ps (Atom.truth x) true) y) (once (onto ps (Atom.truth x) false) n))) s P
    go (Some true) e a b y' n' = a (known_is x ps s true k e)
    go (Some false) e a b y' n' = b (known_is x ps s false k e)
    go None e a b y' n' = (y', n')

abbrev pub path_in : {A : Type 0} → Query A → Env → List Taken
path_in (done a) s = []
path_in bits s = []
path_in (ask q y n) s = record { atom = q; held = holds_at q s } ∷ cond (holds_at q s) (path_in y s) (path_in n s)

pub record Taking {A : Type 0} (t : Query A) (s : Env) (ps : List Taken) : Type 0 where
  pub is_path : Path t ps
  pub agrees : Agrees s ps
  pub ended : Ended (walk t ps)

pub path_taken : {A : Type 0} (t : Query A) (s : Env) → Taking t s (path_in t s)
path_taken (done a) s = record { is_path = Path.start (done a); agrees = tt; ended = Ended.result a }
path_taken bits s = record { is_path = Path.start bits; agrees = tt; ended = Ended.large }
path_taken {A} (ask q y n) s = go (holds_at q s) refl (path_taken y s) (path_taken n s)
  where
    go : (b : Bool) → holds_at q s ≡ b → Taking y s (path_in y s) → Taking n s (path_in n s) → Taking (ask q y n) s (record { atom = q; held = b } ∷ cond b (path_in y s) (path_in n s))
    go true e a b = record { is_path = Path.yes q y n _ a.is_path; agrees = (e, a.agrees); ended = a.ended }
    go false e a b = record { is_path = Path.no q y n _ b.is_path; agrees = (e, b.agrees); ended = b.ended }

pub one_path : {A : Type 0} (t : Query A) (s : Env) (ps : List Taken) → Path t ps → Agrees s ps → Ended (walk t ps) → ps ≡ path_in t s
one_path (done a) s _ (Path.start _) g e = refl
one_path bits s _ (Path.start _) g e = refl
one_path (ask q y n) s _ (Path.start _) g e = elim e [ ]
one_path (ask q y n) s _ (Path.yes _ _ _ ps p) g e = rw g.0 (ap (λ xs. record { atom = q; held = true } ∷ xs) (one_path y s ps p g.1 e))
one_path (ask q y n) s _ (Path.no _ _ _ ps p) g e = rw g.0 (ap (λ xs. record { atom = q; held = false } ∷ xs) (one_path n s ps p g.1 e))

abbrev got : {A : Type 0} → A → Query A → A
got d (done a) = a
got d _ = d

pub walk_ends : {A : Type 0} (t : Query A) (s : Env) (P : A → Type 0) (ps : List Taken) (a : A) → Ends t s P → Path t ps → Agrees s ps → walk t ps ≡ done a → P a
walk_ends (done b) s P _ a h (Path.start _) g e = subst P (ap (got b) e) h
walk_ends bits s P _ a h (Path.start _) g e = absurd (cc)
walk_ends (ask q y n) s P _ a h (Path.start _) g e = absurd (cc)
walk_ends (ask q y n) s P _ a h (Path.yes _ _ _ ps p) g e = walk_ends y s P ps a (h.0 g.0) p g.1 e
walk_ends (ask q y n) s P _ a h (Path.no _ _ _ ps p) g e = walk_ends n s P ps a (h.1 g.0) p g.1 e
