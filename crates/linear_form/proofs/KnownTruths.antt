-- A path asks for a truth once, so its answer is the truth that the path has decided.
use Rattle.std.proofs.Common.{◌≡◌, ℕ, List, [], ◌∷◌, ◌++◌, refl, sym, ap, ◌∙◌, subst, arith, Bool, true, false, cond, ◌==◌, append_assoc}
use Rattle.std.specs.Prelude.{Option, Some, None}
use Rattle.std.specs.List.{All}
use Rattle.std.proofs.lemmas.List.Elements.{All-head, All-tail}
use Rattle.heylo_formula.specs.declared.types.Ty.{Ty}
use Rattle.heylo_formula.specs.Goals.{Goal}
use Rattle.linear_form.specs.Query.{Query, Atom, Taken, known, known_by, unless_known, onto, once}
use Rattle.linear_form.specs.Query.Query.{done, bits, ask}
use Rattle.linear_form.specs.Splits.{IsSplit}
use Rattle.linear_form.specs.Paths.{Path, IsPath}

abbrev IsNew : List Taken → Atom → Type 0
IsNew qs (Atom.truth x) = known x qs ≡ None
IsNew qs (Atom.row a strict) = Unit {0}

-- `AreNew qs ps`: no truth of the path `ps` is decided by `qs`, or asked twice.
abbrev AreNew : List Taken → List Taken → Type 0
AreNew qs [] = Unit {0}
AreNew qs (p ∷ ps) = IsNew qs p.atom × AreNew (onto qs p.atom p.held) ps

asked_new : {A : Type 0} (qs ps : List Taken) (q : Atom) (y n : Query A) → IsNew qs q → ((ps : List Taken) → Path y ps → AreNew (onto qs q true) ps) → ((ps : List Taken) → Path n ps → AreNew (onto qs q false) ps) → Path (ask q y n) ps → AreNew qs ps
asked_new qs _ q y n h k l (Path.start _) = tt
asked_new qs _ q y n h k l (Path.yes _ _ _ ps p) = (h, k ps p)
asked_new qs _ q y n h k l (Path.no _ _ _ ps p) = (h, l ps p)

once_new : {A : Type 0} (qs : List Taken) (t : Query A) (ps : List Taken) → Path (once qs t) ps → AreNew qs ps
once_new qs (done a) _ (Path.start _) = tt
once_new qs bits _ (Path.start _) = tt
once_new qs (ask (Atom.row a strict) y n) ps p = asked_new qs ps (Atom.row a strict) _ _ tt (once_new (onto qs (Atom.row a strict) true) y) (once_new (onto qs (Atom.row a strict) false) n) p
once_new {A} qs (ask (Atom.truth x) y n) ps p = go (known x qs) refl p (once_new qs y ps) (once_new qs n ps) (once_new (onto qs (Atom.truth x) true) y) (once_new (onto qs (Atom.truth x) false) n)
  where
    go : (o : Option Bool) → known x qs ≡ o → Path (unless_known o (once qs y) (once qs n) (ask (Atom.truth x) (once (onto qs (Atom.truth x) true) y) (once (onto qs (Atom.truth x) false) n))) ps → (Path (once qs y) ps → AreNew qs ps) → (Path (once qs n) ps → AreNew qs ps) → ((ps : List Taken) → Path (once (onto qs (Atom.truth x) true) y) ps → AreNew (onto qs (Atom.truth x) true) ps) → ((ps : List Taken) → Path (once (onto qs (Atom.truth x) false) n) ps → AreNew (onto qs (Atom.truth x) false) ps) → AreNew qs ps
    go (Some true) e p a b c d = a p
    go (Some false) e p a b c d = b p
    go None e p a b c d = asked_new qs ps (Atom.truth x) _ _ e c d p

abbrev pub IsKnownTruth : List Taken → Atom → Bool → Type 0
IsKnownTruth ks (Atom.truth x) held = known x ks ≡ Some held
IsKnownTruth ks (Atom.row a strict) held = Unit {0}

-- `AreKnown ks ps`: the path `ks` decides each truth as the path `ps` does.
abbrev pub AreKnown : List Taken → List Taken → Type 0
AreKnown ks [] = Unit {0}
AreKnown ks (p ∷ ps) = IsKnownTruth ks p.atom p.held × AreKnown ks ps

known_after : (x : ℕ) (qs ps : List Taken) → known x qs ≡ None → known x (qs ++ ps) ≡ known x ps
known_after x [] ps e = refl
known_after x (q ∷ qs) ps e = go q.atom e (known_after x qs ps)
  where
    go : (a : Atom) → known_by x a q.held (known x qs) ≡ None → (known x qs ≡ None → known x (qs ++ ps) ≡ known x ps) → known_by x a q.held (known x (qs ++ ps)) ≡ known x ps
    go (Atom.row a strict) e ih = ih e
    go (Atom.truth y) e ih = step (x == y) e ih
      where
        step : (b : Bool) → cond b (Some q.held) (known x qs) ≡ None → (known x qs ≡ None → known x (qs ++ ps) ≡ known x ps) → cond b (Some q.held) (known x (qs ++ ps)) ≡ known x ps
        step true e ih = absurd (cc)
        step false e ih = ih e

same : (x : ℕ) → (x == x) ≡ true
same x = grind arith

first_known : (q : Atom) (held : Bool) (qs ps : List Taken) → IsNew qs q → IsKnownTruth (qs ++ (record { atom = q; held = held } ∷ ps)) q held
first_known (Atom.truth x) held qs ps e = known_after x qs _ e ∙ ap (λ b. cond b (Some held) (known x ps)) (same x)
first_known (Atom.row a strict) held qs ps e = tt

new_known : (qs ps : List Taken) → AreNew qs ps → AreKnown (qs ++ ps) ps
new_known qs [] h = tt
new_known qs (p ∷ ps) h = (first_known p.atom p.held qs ps h.0, subst (λ ks. AreKnown ks ps) (append_assoc qs (p ∷ []) ps) (new_known (onto qs p.atom p.held) ps h.1))

new_split : (types : List Ty) (qs : List Taken) (p : Taken) → IsSplit types p → IsNew qs p.atom
new_split types qs p h = subst (IsNew qs) (sym h.atom) tt

splits_new : (types : List Ty) (qs ss : List Taken) → All (IsSplit types) ss → AreNew qs ss
splits_new types qs [] k = tt
splits_new types qs (s ∷ ss) k = (new_split types qs s (All-head (IsSplit types) s ss k), splits_new types (onto qs s.atom s.held) ss (All-tail (IsSplit types) s ss k))

new_splits : (types : List Ty) (qs ps ss : List Taken) → AreNew qs ps → All (IsSplit types) ss → AreNew qs (ps ++ ss)
new_splits types qs [] ss h k = splits_new types qs ss k
new_splits types qs (p ∷ ps) ss h k = (h.0, new_splits types (onto qs p.atom p.held) ps ss h.1 k)

pub path_known : (g : Goal) (ps : List Taken) → IsPath g ps → AreKnown ps ps
path_known g ps p = new_known [] ps (subst (AreNew []) (sym p.parts) (new_splits g.types [] p.asked p.splits (once_new [] _ p.asked p.is_asked) p.are_splits))
