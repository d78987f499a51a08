-- Trails with one more answer, and without it again.
use Rattle.std.proofs.Common.{◌≡◌, ℕ, List, [], ◌∷◌, ◌++◌, take, length, refl, sym, ap, ap₂, ◌∙◌, subst, arith, Bool, true, false}
use Rattle.std.specs.Prelude.{Option, Some, None}
use Rattle.std.specs.declared.alloc.Global.{Global}
use Rattle.std.specs.declared.vec.Vec.{Vec}
use Rattle.std.proofs.lemmas.List.{take_at, take_all, map-append}
use Rattle.heylo_formula.specs.Goals.{Goal}
use Rattle.heylo_formula.specs.Typing.{types_in}
use Rattle.linear_rows.specs.Row.{Row}
use Rattle.linear_values.specs.Tightening.{all_tightened}
use Rattle.linear_form.specs.Query.{Taken, onto}
use Rattle.linear_form.specs.Paths.{IsPath}
use Rattle.linear_form.specs.PathRows.{path_claims, rows_of}
use Rattle.linear_form.specs.Places.{IsOn}
use Rattle.linear_form.specs.PlainPaths.{atom_of, taken_of, path_of}
use Rattle.linear_form.specs.RowLists.{ArePathRows, AreLastRows}
use Rattle.linear_form.specs.declared.paths.Taken as T
use Rattle.linear_form.specs.declared.paths.Atom as A
use Rattle.linear_form.specs.declared.places.Place.{Place}
use Rattle.linear_form.specs.declared.path_rows.RowList as L
use Rattle.linear_form.proofs.exported.LastRows.{more_rows, lost_here, lost_before, lost_rows}
use Rattle.linear_form.proofs.exported.PathSteps.{empty_path}
use Rattle.linear_form.proofs.exported.Places.{place_stays}
use Rattle.farkas_check.specs.AcceptedCertificates.{has_denied, CanSplit, IsRefuted}
use Rattle.farkas_check.specs.internal.Trails.{IsStated, IsTrail, IsLonger, IsSame}
use Rattle.farkas_check.specs.declared.trail.Trail.{Trail}

pub path_of-append : (ps : List T.Taken) (p : T.Taken) → path_of (ps ++ p ∷ []) ≡ onto (path_of ps) (atom_of p.atom) p.held
path_of-append ps p = map-append taken_of ps (p ∷ [])

-- ---- One more answer

lost_longer : (g : Goal) (before t : Trail) (p : T.Taken) → t.path.items ≡ before.path.items ++ p ∷ [] → all_tightened (types_in g.types) (path_claims (onto (path_of before.path.items) (atom_of p.atom) p.held)) ≡ None → t.stated ≡ false → IsStated g (path_of t.path.items) t.rows.items t.stated
lost_longer g before t p e h f = subst (IsStated g (path_of t.path.items) t.rows.items) (sym f) (ap (λ ps. all_tightened (types_in g.types) (path_claims ps)) (ap path_of e ∙ path_of-append before.path.items p) ∙ h)

pub still_lost : (g : Goal) (before t : Trail) (p : T.Taken) → IsStated g (path_of before.path.items) before.rows.items before.stated → before.stated ≡ false → t.path.items ≡ before.path.items ++ p ∷ [] → t.rows.items ≡ before.rows.items → t.stated ≡ before.stated → IsLonger g before p t
still_lost g before t p h f e r k = record {
  path = e;
  rows = lost_longer g before t p e (lost_before g (path_of before.path.items) (atom_of p.atom) p.held (subst (IsStated g (path_of before.path.items) before.rows.items) f h)) (k ∙ f);
  first = ap (take (length before.rows.items)) r ∙ take_all (length before.rows.items) before.rows.items (omega arith);
}

last_found : (g : Goal) (items before : List T.Taken) (p : T.Taken) (list : L.RowList) → AreLastRows g (path_of items) list → items ≡ before ++ p ∷ [] → AreLastRows g (onto (path_of before) (atom_of p.atom) p.held) list
last_found g items before p list h e = subst (λ ps. AreLastRows g ps list) (ap path_of e ∙ path_of-append before p) h

pub lost_now : (g : Goal) (before t : Trail) (items : List T.Taken) (p : T.Taken) (list : L.RowList) → IsStated g (path_of before.path.items) before.rows.items before.stated → before.stated ≡ true → AreLastRows g (path_of items) list → items ≡ before.path.items ++ p ∷ [] → list ≡ L.TheVariants.Bits → t.path.items ≡ before.path.items ++ p ∷ [] → t.rows.items ≡ before.rows.items → t.stated ≡ false → IsLonger g before p t
lost_now g before t items p list h f l i b e r k = record {
  path = e;
  rows = lost_longer g before t p e (lost_here g (path_of before.path.items) (atom_of p.atom) p.held before.rows.items (subst (IsStated g (path_of before.path.items) before.rows.items) f h) (subst (AreLastRows g (onto (path_of before.path.items) (atom_of p.atom) p.held)) b (last_found g items before.path.items p list l i) (path_of before.path.items) (taken_of p) refl)) k;
  first = ap (take (length before.rows.items)) r ∙ take_all (length before.rows.items) before.rows.items (omega arith);
}

pub more_stated : (g : Goal) (before t : Trail) (items : List T.Taken) (p : T.Taken) (list : L.RowList) (more : Vec Row Global) → IsStated g (path_of before.path.items) before.rows.items before.stated → before.stated ≡ true → AreLastRows g (path_of items) list → items ≡ before.path.items ++ p ∷ [] → list ≡ L.TheVariants.Rows more → t.path.items ≡ before.path.items ++ p ∷ [] → t.rows.items ≡ before.rows.items ++ more.items → t.stated ≡ true → IsLonger g before p t
more_stated g before t items p list more h f l i b e r k = record {
  path = e;
  rows = subst (IsStated g (path_of t.path.items) t.rows.items) (sym k) (subst (λ ps. ArePathRows g ps t.rows.items) (sym (ap path_of e ∙ path_of-append before.path.items p)) (subst (ArePathRows g (onto (path_of before.path.items) (atom_of p.atom) p.held)) (sym r) (more_rows g (path_of before.path.items) (atom_of p.atom) p.held before.rows.items more.items (subst (IsStated g (path_of before.path.items) before.rows.items) f h) (subst (AreLastRows g (onto (path_of before.path.items) (atom_of p.atom) p.held)) b (last_found g items before.path.items p list l i) (path_of before.path.items) (taken_of p) refl))));
  first = ap (take (length before.rows.items)) r ∙ take_at before.rows.items more.items (length before.rows.items) refl;
}

pub longer_path : (g : Goal) (before : Trail) (items : List T.Taken) (p : T.Taken) → items ≡ before.path.items ++ p ∷ [] → IsPath g (onto (path_of before.path.items) (atom_of p.atom) p.held) → IsPath g (path_of items)
longer_path g before items p e h = subst (IsPath g) (sym (ap path_of e ∙ path_of-append before.path.items p)) h

-- ---- The longer trail, and the trail that is returned

pub longer_trail : (g : Goal) (before t : Trail) (p : T.Taken) → IsLonger g before p t → IsPath g (onto (path_of before.path.items) (atom_of p.atom) p.held) → IsTrail g t
longer_trail g before t p l h = record { path = longer_path g before t.path.items p l.path h; rows = l.rows }

pub longer_place : (g : Goal) (before t : Trail) (p : T.Taken) (e : Place) → IsLonger g before p t → IsOn g (path_of before.path.items) e → IsOn g (path_of t.path.items) e
longer_place g before t p e l h = subst (λ ps. IsOn g ps e) (sym (ap path_of l.path ∙ path_of-append before.path.items p)) (place_stays g (path_of before.path.items) _ e h)

pub restored : (g : Goal) (before t back here : Trail) (p : T.Taken) (n : ℕ) (b : Bool) → IsLonger g before p t → IsSame t back → n ≡ length before.rows.items → b ≡ before.stated → ((first : List T.Taken) (last : T.Taken) → back.path.items ≡ first ++ last ∷ [] → here.path.items ≡ first) → here.rows.items ≡ take n back.rows.items → here.stated ≡ b → IsSame before here
restored g before t back here p n b l s e f i j k = record { path = i before.path.items p (s.path ∙ l.path); rows = j ∙ ap₂ (λ m rows. take m rows) e s.rows ∙ l.first; stated = k ∙ f }

pub same_again : (s t u : Trail) → IsSame s t → IsSame t u → IsSame s u
same_again s t u h k = record { path = k.path ∙ h.path; rows = k.rows ∙ h.rows; stated = k.stated ∙ h.stated }

pub same_stated : (g : Goal) (s t : Trail) → IsSame s t → IsStated g (path_of s.path.items) s.rows.items s.stated → IsStated g (path_of t.path.items) t.rows.items t.stated
same_stated g s t h k = subst (λ ps. IsStated g (path_of ps) t.rows.items t.stated) (sym h.path) (subst (λ rows. IsStated g (path_of s.path.items) rows t.stated) (sym h.rows) (subst (IsStated g (path_of s.path.items) s.rows.items) (sym h.stated) k))

pub again_onto : (g : Goal) (s here : Trail) (q r : A.Atom) → IsSame s here → atom_of r ≡ atom_of q → ((held : Bool) → IsPath g (onto (path_of s.path.items) (atom_of q) held)) → IsPath g (onto (path_of here.path.items) (atom_of r) false)
again_onto g s here q r h e a = subst (λ k. IsPath g (onto (path_of here.path.items) k false)) (sym e) (subst (λ ps. IsPath g (onto (path_of ps) (atom_of q) false)) (sym h.path) (a false))

pub path_here : (g : Goal) (now : List T.Taken) (s : Trail) → now ≡ s.path.items → IsTrail g s → IsPath g (path_of now)
path_here g now s e h = subst (λ ps. IsPath g (path_of ps)) (sym e) h.path

pub place_here : (g : Goal) (now : List T.Taken) (s : Trail) (p : Place) → now ≡ s.path.items → IsOn g (path_of s.path.items) p → IsOn g (path_of now) p
place_here g now s p e h = subst (λ ps. IsOn g (path_of ps) p) (sym e) h

pub place_back : (g : Goal) (now : List T.Taken) (s : Trail) (p : Place) → now ≡ s.path.items → IsOn g (path_of now) p → IsOn g (path_of s.path.items) p
place_back g now s p e h = subst (λ ps. IsOn g (path_of ps) p) e h

pub split_here : (g : Goal) (now : List T.Taken) (s : Trail) (x : ℕ) → now ≡ s.path.items → CanSplit g (path_of now) x → CanSplit g (path_of s.path.items) x
split_here g now s x e h = subst (λ ps. CanSplit g (path_of ps) x) e h

pub behind : (P : List Taken → Type 0) (s here t : Trail) (g : Goal) (p : T.Taken) → IsLonger g here p t → IsSame s here → P (path_of t.path.items) → P (onto (path_of s.path.items) (atom_of p.atom) p.held)
behind P s here t g p l h k = subst (λ ps. P (onto (path_of ps) (atom_of p.atom) p.held)) h.path (subst P (ap path_of l.path ∙ path_of-append here.path.items p) k)

pub behind_again : (P : List Taken → Type 0) (s here t : Trail) (g : Goal) (q r : A.Atom) → IsLonger g here (record { atom = r; held = false }) t → IsSame s here → atom_of r ≡ atom_of q → P (path_of t.path.items) → P (onto (path_of s.path.items) (atom_of q) false)
behind_again P s here t g q r l h e k = subst (λ a. P (onto (path_of s.path.items) a false)) e (behind P s here t g (record { atom = r; held = false }) l h k)

pub same_place : (g : Goal) (s t : Trail) (p : Place) → IsSame s t → IsOn g (path_of s.path.items) p → IsOn g (path_of t.path.items) p
same_place g s t p h k = subst (λ ps. IsOn g (path_of ps) p) (sym h.path) k

-- ---- Before the first comparison

pub first_trail : (g : Goal) (s : Trail) → s.path.items ≡ [] → s.rows.items ≡ [] → s.stated ≡ true → IsTrail g s
first_trail g s e f h = record {
  path = empty_path g s.path.items e;
  rows = subst (IsStated g (path_of s.path.items) s.rows.items) (sym h) (record { are_rows = ap (λ (ps : List T.Taken). all_tightened (types_in g.types) (path_claims (path_of ps))) e ∙ ap Some (sym f) });
}

pub first_place : (g : Goal) (items : List T.Taken) (e : Place) → items ≡ [] → IsOn g [] e → IsOn g (path_of items) e
first_place g items e k h = subst (λ (ps : List T.Taken). IsOn g (path_of ps) e) (sym k) h

-- ---- Multipliers

pub none_refuted : (g : Goal) (s : Trail) (ms : List (ℕ × ℕ)) → IsTrail g s → s.stated ≡ false → IsRefuted g (path_of s.path.items) ms → ⊥
none_refuted g s ms h f r = let e = sym r.are_rows ∙ lost_rows g (path_of s.path.items) (has_denied g (path_of s.path.items)) (subst (IsStated g (path_of s.path.items) s.rows.items) f h.rows) in absurd (cc)

pub rows_of_trail : (g : Goal) (now : List T.Taken) (s : Trail) → IsTrail g s → s.stated ≡ true → now ≡ s.path.items → ArePathRows g (path_of now) s.rows.items
rows_of_trail g now s h f e = subst (λ ps. ArePathRows g (path_of ps) s.rows.items) (sym e) (subst (IsStated g (path_of s.path.items) s.rows.items) f h.rows)

pub rows_back : (g : Goal) (now : List T.Taken) (s : Trail) (o : Option (List Row)) → now ≡ s.path.items → rows_of g (path_of now) (has_denied g (path_of now)) ≡ o → rows_of g (path_of s.path.items) (has_denied g (path_of s.path.items)) ≡ o
rows_back g now s o e h = subst (λ ps. rows_of g (path_of ps) (has_denied g (path_of ps)) ≡ o) e h
