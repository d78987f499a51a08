-- An evaluation continued along a path from a place on it: the place that it reaches, and the end
-- of the path.
use Rattle.std.proofs.Common.{◌≡◌, ◌⊎◌, ℕ, ◌+◌, ◌<◌, ◌≤◌, List, [], ◌∷◌, ◌++◌, refl, sym, ap, ◌∙◌, subst, arith, Bool, true, false, cond, inl, inr, take, drop, length, get_or}
use Prim.Native.Nat.{zero, suc}
use Rattle.std.specs.Prelude.{Option, Some, None}
use Rattle.std.proofs.lemmas.List.{take-append-drop, take_more, drop_more}
use Rattle.heylo_formula.specs.Goals.{Goal}
use Rattle.linear_form.specs.Query.{Query, Atom, Taken, next, known, unless_known, once, onto}
use Rattle.linear_form.specs.Query.Query.{done, bits, ask}
use Rattle.linear_form.specs.Paths.{Path, walk, IsPath, end_at}
use Rattle.linear_form.specs.Questions.{Ends, questions}
use Rattle.linear_form.specs.Standings.{Standing}
use Rattle.linear_form.specs.Places.{IsOn}
use Rattle.linear_form.specs.internal.Run.{Evaluation, along, turned, heard}
use Rattle.linear_form.specs.internal.Run.Evaluation.{value, decide}
use Rattle.linear_form.proofs.SplitPaths.{walk_nil, walk_append}

-- ---- The answers of a path follow the tree as far as it has comparisons

abbrev pub Follows : {A : Type 0} → Query A → List Taken → Type 0
Follows (done a) ps = Unit {0}
Follows bits ps = Unit {0}
Follows (ask q y n) [] = Unit {0}
Follows (ask q y n) (p ∷ ps) = (p.atom ≡ q) × ((p.held ≡ true → Follows y ps) × (p.held ≡ false → Follows n ps))

follows_path : {A : Type 0} (t : Query A) (qs ss : List Taken) → Path t qs → (ss ≡ []) ⊎ ((a : A) × (walk t qs ≡ done a)) → Follows t (qs ++ ss)
follows_path (done a) _ ss (Path.start _) h = tt
follows_path bits _ ss (Path.start _) h = tt
follows_path (ask q y n) _ ss (Path.start _) (inl e) = subst (Follows (ask q y n)) (sym e) tt
follows_path (ask q y n) _ ss (Path.start _) (inr k) = let e = k.1 in absurd (cc)
follows_path (ask q y n) _ ss (Path.yes _ _ _ ps p) h = (refl, (λ e. follows_path y ps ss p h, λ e. absurd (cc)))
follows_path (ask q y n) _ ss (Path.no _ _ _ ps p) h = (refl, (λ e. absurd (cc), λ e. follows_path n ps ss p h))

follows : (g : Goal) (ps : List Taken) → IsPath g ps → Follows (questions g) ps
follows g ps h = subst (Follows (questions g)) (sym h.parts) (follows_path (questions g) h.asked h.splits h.is_asked h.at_end)

follows_further : {A : Type 0} (t : Query A) (xs ys : List Taken) → Follows t (xs ++ ys) → Follows (walk t xs) ys
follows_further (done a) xs ys h = tt
follows_further bits xs ys h = tt
follows_further (ask q y n) [] ys h = h
follows_further {A} (ask q y n) (x ∷ xs) ys h = go x.held refl (follows_further y xs ys) (follows_further n xs ys)
  where
    go : (b : Bool) → x.held ≡ b → (Follows y (xs ++ ys) → Follows (walk y xs) ys) → (Follows n (xs ++ ys) → Follows (walk n xs) ys) → Follows (cond b (walk y xs) (walk n xs)) ys
    go true e f k = f (h.1.0 e)
    go false e f k = k (h.1.1 e)

-- ---- One more answer

further : {A : Type 0} (t : Query A) (ps : List Taken) (i : ℕ) → walk t ps ≡ walk (walk t (take i ps)) (drop i ps)
further t ps i = ap (walk t) (sym (take-append-drop i ps)) ∙ walk_append t (take i ps) (drop i ps)

inside : (ps : List Taken) (i : ℕ) (p : Taken) (rest : List Taken) → drop i ps ≡ p ∷ rest → i < length ps
inside [] zero p rest e = absurd (cc)
inside [] (suc i) p rest e = absurd (cc)
inside (x ∷ ps) zero p rest e = omega arith
inside (x ∷ ps) (suc i) p rest e = let h = inside ps i p rest e in omega (arith, h)

next_taken : (ps : List Taken) (i : ℕ) (p : Taken) (rest : List Taken) → drop i ps ≡ p ∷ rest → take (i + 1) ps ≡ take i ps ++ (p ∷ [])
next_taken ps i p rest e = let l = inside ps i p rest e in let k : get_or ps i p ∷ drop (i + 1) ps ≡ p ∷ rest = sym (drop_more ps i p l) ∙ e in let m : get_or ps i p ≡ p = cc in take_more ps i p l ∙ ap (λ z. take i ps ++ (z ∷ [])) m

passed : {A : Type 0} (t : Query A) (past : List Taken) (q : Atom) (b : Bool) (y n : Query A) → walk t past ≡ ask q y n → walk t (onto past q b) ≡ cond b y n
passed {A} t past q b y n e = walk_append t past (record { atom = q; held = b } ∷ []) ∙ ap (λ z. walk z (record { atom = q; held = b } ∷ [])) e ∙ last b
  where
    last : (b : Bool) → cond b (walk y []) (walk n []) ≡ cond b y n
    last true = walk_nil y
    last false = walk_nil n

-- ---- The result of a part, if the rest of the tree follows its result

abbrev pub Reaches : {A B : Type 0} → Query B → List Taken → (A → Query B) → Evaluation A → Type 0
Reaches t ps f (value x j) = (j ≤ length ps) × (walk t (take j ps) ≡ once (take j ps) (f x))
Reaches {A} {B} t ps f (decide q) = (y : Query B) × ((n : Query B) × (walk t ps ≡ ask q y n))
Reaches t ps f Evaluation.bits = walk t ps ≡ bits

heard_reaches : {A B : Type 0} (t : Query B) (ps : List Taken) (f : A → Query B) (o : Option Bool) (w y n z : Query B) (u v out : Evaluation A) → w ≡ unless_known o y n z → (w ≡ y → Reaches t ps f u) → (w ≡ n → Reaches t ps f v) → (w ≡ z → Reaches t ps f out) → Reaches t ps f (heard o u v out)
heard_reaches t ps f (Some true) w y n z u v out e a b c = a e
heard_reaches t ps f (Some false) w y n z u v out e a b c = b e
heard_reaches t ps f None w y n z u v out e a b c = c e

turned_reaches : {A B : Type 0} (t : Query B) (ps : List Taken) (f : A → Query B) (q : Atom) (i : ℕ) (y n : Query B) (u v : Evaluation A) → Follows t ps → walk t (take i ps) ≡ ask q (once (onto (take i ps) q true) y) (once (onto (take i ps) q false) n) → (i + 1 ≤ length ps → walk t (take (i + 1) ps) ≡ once (take (i + 1) ps) y → Reaches t ps f u) → (i + 1 ≤ length ps → walk t (take (i + 1) ps) ≡ once (take (i + 1) ps) n → Reaches t ps f v) → Reaches t ps f (turned (drop i ps) q u v)
turned_reaches {A} {B} t ps f q i y n u v w e a b = go (drop i ps) refl
  where
    answer : (p : Bool) → i + 1 ≤ length ps → take (i + 1) ps ≡ onto (take i ps) q p → Reaches t ps f (cond p u v)
    answer true l c = a l (ap (walk t) c ∙ passed t (take i ps) q true _ _ e ∙ ap (λ z. once z y) (sym c))
    answer false l c = b l (ap (walk t) c ∙ passed t (take i ps) q false _ _ e ∙ ap (λ z. once z n) (sym c))

    go : (rest : List Taken) → drop i ps ≡ rest → Reaches t ps f (turned rest q u v)
    go [] k = (once (onto (take i ps) q true) y, (once (onto (take i ps) q false) n, further t ps i ∙ ap (λ z. walk z (drop i ps)) e ∙ ap (walk (ask q (once (onto (take i ps) q true) y) (once (onto (take i ps) q false) n))) k))
    go (p ∷ rest) k = let l = inside ps i p rest k in answer p.held (omega (arith, l)) (next_taken ps i p rest k ∙ ap (λ r. take i ps ++ (record { atom = r; held = p.held } ∷ [])) asked)
      where
        asked : p.atom ≡ q
        asked = (subst (Follows (ask q (once (onto (take i ps) q true) y) (once (onto (take i ps) q false) n))) k (subst (λ z. Follows z (drop i ps)) e (follows_further t (take i ps) (drop i ps) (subst (Follows t) (sym (take-append-drop i ps)) w)))).0

pub reaches : {A B : Type 0} (t : Query B) (ps : List Taken) (u : Query A) (f : A → Query B) (i : ℕ) → Follows t ps → i ≤ length ps → walk t (take i ps) ≡ once (take i ps) (next u f) → Reaches t ps f (along ps u i)
unfolding along
reaches t ps (done a) f i w l e = (l, e)
reaches t ps bits f i w l e = further t ps i ∙ ap (λ z. walk z (drop i ps)) e
reaches t ps (ask (Atom.row a strict) y n) f i w l e = turned_reaches t ps f (Atom.row a strict) i (next y f) (next n f) _ _ w e (reaches t ps y f (i + 1) w) (reaches t ps n f (i + 1) w)
reaches t ps (ask (Atom.truth x) y n) f i w l e = heard_reaches t ps f (known x (take i ps)) _ _ _ _ _ _ _ e (reaches t ps y f i w l) (reaches t ps n f i w l) (λ k. turned_reaches t ps f (Atom.truth x) i (next y f) (next n f) _ _ w k (reaches t ps y f (i + 1) w) (reaches t ps n f (i + 1) w))

-- ---- A goal's evaluation, from a place on a path

pub found_on : {A : Type 0} (g : Goal) (ps : List Taken) (u : Query A) (f : A → Query Ends) (i j : ℕ) (x : A) → IsPath g ps → along ps u i ≡ value x j → IsOn g ps (record { left = next u f; at = i }) → IsOn g ps (record { left = f x; at = j })
found_on g ps u f i j x w e h = let k = subst (Reaches (questions g) ps f) e (reaches (questions g) ps u f i (follows g ps w) h.within h.left) in record { within = k.0; left = k.1 }

pub next_done : {A : Type 0} (q : Query A) → next q (λ x. done x) ≡ q
next_done (done a) = refl
next_done bits = refl
next_done (ask q y n) = λ i. ask q (next_done y i) (next_done n i)

pub come_on : (g : Goal) (ps : List Taken) (p : Standing) (o : Evaluation Ends) → IsPath g ps → IsOn g ps p → along ps p.left p.at ≡ o → Reaches (questions g) ps (λ x. done x) o
come_on g ps p o w h e = subst (Reaches (questions g) ps (λ x. done x)) e (reaches (questions g) ps p.left (λ x. done x) p.at (follows g ps w) h.within (h.left ∙ ap (once (take p.at ps)) (sym (next_done p.left))))

pub value_on : (g : Goal) (ps : List Taken) (p : Standing) (x : Ends) (j : ℕ) → IsPath g ps → IsOn g ps p → along ps p.left p.at ≡ value x j → end_at g ps ≡ done x
value_on g ps p x j w h e = further (questions g) ps j ∙ ap (λ z. walk z (drop j ps)) (come_on g ps p (value x j) w h e).1
