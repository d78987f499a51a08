-- The trees of a longer list of nodes, and of a shorter one.
use Rattle.std.proofs.Common.{Bool, true, false, if◌then◌else◌, append-nil, ◌⊎◌, inl, inr, ◌≡◌, ℕ, ◌+◌, ◌<◌, ◌≤◌, List, [], ◌∷◌, ◌++◌, Option, Some, None, length, slice_get, refl, sym, ap, subst, ◌∙◌, arith, append_assoc, length-append}
use Prim.Native.Nat.{zero, suc}
use Rattle.std.proofs.Math.Nat.{eq-or-lt_of_le}
use Rattle.std.proofs.lemmas.Option.{slice_get_within}
use Rattle.heylo_formula.specs.Formula.{Form, Cond}
use Rattle.heylo_graph.specs.Trees.{Tree}
use Rattle.heylo_graph.specs.declared.nodes.Node.{Node}
use Rattle.heylo_graph.specs.Nodes.{as_form, as_cond, with, assembled, joined, found, trees_after, trees, tree_at, Stands, IsGraph, IsJoined, Begins}

pub get_left : {X : Type 0} (xs ys : List X) (i : ℕ) → i < length xs → slice_get (xs ++ ys) i ≡ slice_get xs i
get_left [] ys i h = absurd (omega (arith, h))
get_left (x ∷ xs) ys zero h = refl
get_left (x ∷ xs) ys (suc i) h = get_left xs ys i (omega (arith, h))

pub get_last : {X : Type 0} (xs ys : List X) (y : X) → slice_get (xs ++ y ∷ ys) (length xs) ≡ Some y
get_last [] ys y = refl
get_last (x ∷ xs) ys y = get_last xs ys y

-- An element, with the elements before and after it.
pub record Split {X : Type 0} (xs : List X) (i : ℕ) (x : X) : Type 0 where
  pub before : List X
  pub after : List X
  pub whole : xs ≡ before ++ x ∷ after
  pub place : length before ≡ i

pub split_at : {X : Type 0} (xs : List X) (i : ℕ) (x : X) → slice_get xs i ≡ Some x → Split xs i x
split_at [] i x h = absurd (cc)
split_at (y ∷ xs) zero x h = record { before = []; after = xs; whole = ap (λ z. z ∷ xs) (some_is y x h); place = refl }
  where
    some_is : {X : Type 0} (a b : X) → Some a ≡ Some b → a ≡ b
    some_is a b e = cc
split_at (y ∷ xs) (suc i) x h = let s = split_at xs i x h in record { before = y ∷ s.before; after = s.after; whole = ap (λ l. y ∷ l) s.whole; place = omega (arith, s.place) }

pub trees_append : (ts : List (Option Tree)) (ns ms : List Node) → trees_after ts (ns ++ ms) ≡ trees_after (trees_after ts ns) ms
unfolding trees_after
trees_append ts [] ms = refl
trees_append ts (n ∷ ns) ms = trees_append (ts ++ assembled (found ts) n ∷ []) ns ms

pub trees_length : (ts : List (Option Tree)) (ns : List Node) → length (trees_after ts ns) ≡ length ts + length ns
unfolding trees_after
trees_length ts [] = omega arith
trees_length ts (n ∷ ns) = omega (arith, trees_length (ts ++ assembled (found ts) n ∷ []) ns, length-append ts (assembled (found ts) n ∷ []))

pub trees_keep : (ts : List (Option Tree)) (ns : List Node) (i : ℕ) → i < length ts → slice_get (trees_after ts ns) i ≡ slice_get ts i
unfolding trees_after
trees_keep ts [] i h = refl
trees_keep ts (n ∷ ns) i h = trees_keep (ts ++ assembled (found ts) n ∷ []) ns i (omega (arith, h, length-append ts (assembled (found ts) n ∷ []))) ∙ get_left ts (assembled (found ts) n ∷ []) i h

pub tree_kept : (ns ms : List Node) (i : ℕ) → i < length ns → tree_at (ns ++ ms) i ≡ tree_at ns i
tree_kept ns ms i h = ap (λ l. joined (slice_get l i)) (trees_append [] ns ms) ∙ ap joined (trees_keep (trees ns) ms i (omega (arith, h, trees_length [] ns)))

form_is : (f g : Form) → Some (Tree.formula f) ≡ Some (Tree.formula g) → f ≡ g
form_is f g e = cc

-- The form of a node is unique.
pub same_form : (ns : List Node) (i : ℕ) (f g : Form) → Stands ns i (Tree.formula f) → Stands ns i (Tree.formula g) → f ≡ g
same_form ns i f g s u = form_is f g (sym s.tree ∙ u.tree)

pub tree_within : (ns : List Node) (i : ℕ) (t : Tree) → tree_at ns i ≡ Some t → i < length ns
tree_within ns i t h = go (slice_get (trees ns) i) refl h
  where
    go : (r : Option (Option Tree)) → slice_get (trees ns) i ≡ r → joined r ≡ Some t → i < length ns
    go (Some x) e h = omega (arith, slice_get_within (trees ns) i x e, trees_length [] ns)
    go None e h = absurd (cc)

pub stands_longer : (old new : List Node) (i : ℕ) (t : Tree) → Begins old new → Stands old i t → Stands new i t
stands_longer old new i t b s = record { tree = ap (λ l. tree_at l i) b.whole ∙ tree_kept old b.more i (tree_within old i t s.tree) ∙ s.tree }

one : (ts : List (Option Tree)) (n : Node) → trees_after ts (n ∷ []) ≡ ts ++ assembled (found ts) n ∷ []
unfolding trees_after
one ts n = refl

pub tree_last : (ns : List Node) (n : Node) → tree_at (ns ++ n ∷ []) (length ns) ≡ assembled (tree_at ns) n
tree_last ns n = ap (λ l. joined (slice_get l (length ns))) (trees_append [] ns (n ∷ []) ∙ one (trees ns) n) ∙ ap (λ k. joined (slice_get (trees ns ++ assembled (tree_at ns) n ∷ []) k)) (sym same_length) ∙ ap joined (get_last (trees ns) [] (assembled (tree_at ns) n))
  where
    same_length : length (trees ns) ≡ length ns
    same_length = omega (arith, trees_length [] ns)

-- The tree of a node is assembled from those of the nodes before it.
pub tree_of_node : (ns : List Node) (i : ℕ) (n : Node) (s : Split ns i n) → tree_at ns i ≡ assembled (tree_at s.before) n
tree_of_node ns i n s =
    ap (λ l. tree_at l i) (s.whole ∙ sym (append_assoc s.before (n ∷ []) s.after))
    ∙ tree_kept (s.before ++ n ∷ []) s.after i (omega (arith, length-append s.before (n ∷ []), s.place))
    ∙ ap (tree_at (s.before ++ n ∷ [])) (sym s.place)
    ∙ tree_last s.before n

-- ---- Graphs

pub graph_cut : (ns ms : List Node) → IsGraph (ns ++ ms) → IsGraph ns
graph_cut ns ms g = record { each = λ i h. let r = g.each i (omega (arith, h, length-append ns ms)) in (r.0, sym (tree_kept ns ms i h) ∙ r.1) }

pub graph_more : (ns : List Node) (n : Node) (t : Tree) → IsGraph ns → assembled (tree_at ns) n ≡ Some t → IsGraph (ns ++ n ∷ [])
graph_more ns n t g e = record { each = λ i h. go i (eq-or-lt_of_le (at_most i h)) }
  where
    at_most : (i : ℕ) → i < length (ns ++ n ∷ []) → i ≤ length ns
    at_most i h = omega (arith, h, length-append ns (n ∷ []))

    go : (i : ℕ) → (i ≡ length ns) ⊎ (i < length ns) → (u : Tree) × (tree_at (ns ++ n ∷ []) i ≡ Some u)
    go i (inl q) = (t, ap (tree_at (ns ++ n ∷ [])) q ∙ tree_last ns n ∙ e)
    go i (inr l) = let r = g.each i l in (r.0, tree_kept ns (n ∷ []) i l ∙ r.1)

-- ---- More trees

-- Trees that are found stay the same.
pub record Grows (at to : ℕ → Option Tree) : Type 0 where
  pub grows : (p : ℕ) (t : Tree) → at p ≡ Some t → to p ≡ Some t

pub form_found : (r : Option Tree) (f : Form) → as_form r ≡ Some f → r ≡ Some (Tree.formula f)
form_found (Some (Tree.formula g)) f h = cc
form_found (Some (Tree.condition g)) f h = absurd (cc)
form_found None f h = absurd (cc)

pub cond_found : (r : Option Tree) (g : Cond) → as_cond r ≡ Some g → r ≡ Some (Tree.condition g)
cond_found (Some (Tree.formula f)) g h = absurd (cc)
cond_found (Some (Tree.condition f)) g h = cc
cond_found None g h = absurd (cc)

form_grows : {B : Type 0} (at to : ℕ → Option Tree) (a : ℕ) (k l : Form → Option B) (t : B) → Grows at to → ((f : Form) → k f ≡ Some t → l f ≡ Some t) → with (as_form (at a)) k ≡ Some t → with (as_form (to a)) l ≡ Some t
form_grows at to a k l t g next h = go (as_form (at a)) refl h
  where
    go : (r : Option Form) → as_form (at a) ≡ r → with r k ≡ Some t → with (as_form (to a)) l ≡ Some t
    go (Some f) e h = ap (λ r. with (as_form r) l) (g.grows a (Tree.formula f) (form_found (at a) f e)) ∙ next f h
    go None e h = absurd (cc)

cond_grows : {B : Type 0} (at to : ℕ → Option Tree) (a : ℕ) (k l : Cond → Option B) (t : B) → Grows at to → ((f : Cond) → k f ≡ Some t → l f ≡ Some t) → with (as_cond (at a)) k ≡ Some t → with (as_cond (to a)) l ≡ Some t
cond_grows at to a k l t g next h = go (as_cond (at a)) refl h
  where
    go : (r : Option Cond) → as_cond (at a) ≡ r → with r k ≡ Some t → with (as_cond (to a)) l ≡ Some t
    go (Some f) e h = ap (λ r. with (as_cond r) l) (g.grows a (Tree.condition f) (cond_found (at a) f e)) ∙ next f h
    go None e h = absurd (cc)

pub assembled_grows : (at to : ℕ → Option Tree) (n : Node) (t : Tree) → Grows at to → assembled at n ≡ Some t → assembled to n ≡ Some t
assembled_grows at to (Node.Const v) t g h = h
assembled_grows at to (Node.Var w) t g h = h
assembled_grows at to (Node.Sum a b) t g h = form_grows at to a _ _ t g (λ k. form_grows at to b _ _ t g (λ l e. e)) h
assembled_grows at to (Node.Diff a b) t g h = form_grows at to a _ _ t g (λ k. form_grows at to b _ _ t g (λ l e. e)) h
assembled_grows at to (Node.Cut a b) t g h = form_grows at to a _ _ t g (λ k. form_grows at to b _ _ t g (λ l e. e)) h
assembled_grows at to (Node.Scale w a) t g h = form_grows at to a _ _ t g (λ k e. e) h
assembled_grows at to (Node.Product a b span) t g h = form_grows at to a _ _ t g (λ k. form_grows at to b _ _ t g (λ l e. e)) h
assembled_grows at to (Node.Min a b) t g h = form_grows at to a _ _ t g (λ k. form_grows at to b _ _ t g (λ l e. e)) h
assembled_grows at to (Node.Max a b) t g h = form_grows at to a _ _ t g (λ k. form_grows at to b _ _ t g (λ l e. e)) h
assembled_grows at to (Node.Imply a b) t g h = form_grows at to a _ _ t g (λ k. form_grows at to b _ _ t g (λ l e. e)) h
assembled_grows at to (Node.CoImply a b) t g h = form_grows at to a _ _ t g (λ k. form_grows at to b _ _ t g (λ l e. e)) h
assembled_grows at to (Node.Validate a) t g h = form_grows at to a _ _ t g (λ k e. e) h
assembled_grows at to (Node.CoValidate a) t g h = form_grows at to a _ _ t g (λ k e. e) h
assembled_grows at to (Node.Embed a) t g h = cond_grows at to a _ _ t g (λ k e. e) h
assembled_grows at to (Node.Iverson a) t g h = cond_grows at to a _ _ t g (λ k e. e) h
assembled_grows at to (Node.Select a b c) t g h = cond_grows at to a _ _ t g (λ k. form_grows at to b _ _ t g (λ l. form_grows at to c _ _ t g (λ m e. e))) h
assembled_grows at to (Node.Bind up w name ty a) t g h = form_grows at to a _ _ t g (λ k e. e) h
assembled_grows at to (Node.Truth v) t g h = h
assembled_grows at to (Node.Flag w) t g h = h
assembled_grows at to (Node.Not a) t g h = cond_grows at to a _ _ t g (λ k e. e) h
assembled_grows at to (Node.And a b) t g h = cond_grows at to a _ _ t g (λ k. cond_grows at to b _ _ t g (λ l e. e)) h
assembled_grows at to (Node.Or a b) t g h = cond_grows at to a _ _ t g (λ k. cond_grows at to b _ _ t g (λ l e. e)) h
assembled_grows at to (Node.Same a b) t g h = cond_grows at to a _ _ t g (λ k. cond_grows at to b _ _ t g (λ l e. e)) h
assembled_grows at to (Node.Le a b) t g h = form_grows at to a _ _ t g (λ k. form_grows at to b _ _ t g (λ l e. e)) h
assembled_grows at to (Node.Lt a b) t g h = form_grows at to a _ _ t g (λ k. form_grows at to b _ _ t g (λ l e. e)) h
assembled_grows at to (Node.EqNum a b) t g h = form_grows at to a _ _ t g (λ k. form_grows at to b _ _ t g (λ l e. e)) h
assembled_grows at to (Node.Ite a b c) t g h = cond_grows at to a _ _ t g (λ k. cond_grows at to b _ _ t g (λ l. cond_grows at to c _ _ t g (λ m e. e))) h

pub grows_with : (old new : List Node) → Begins old new → Grows (tree_at old) (tree_at new)
grows_with old new b = record { grows = λ p t h. (stands_longer old new p t b (record { tree = h })).tree }

-- A node of a graph has the tree that its children give.
pub stands_assembled : (ns : List Node) (i : ℕ) (n : Node) (t : Tree) → slice_get ns i ≡ Some n → tree_at ns i ≡ Some t → assembled (tree_at ns) n ≡ Some t
stands_assembled ns i n t h e =
    let s = split_at ns i n h in
    assembled_grows (tree_at s.before) (tree_at ns) n t (grows_with s.before ns (record { more = n ∷ s.after; whole = s.whole })) (sym (tree_of_node ns i n s) ∙ e)

pub stands_joined : (old new : List Node) (id : ℕ) (n : Node) (t : Tree) → IsGraph new → Begins old new → slice_get new id ≡ Some n → assembled (tree_at old) n ≡ Some t → Stands new id t
stands_joined old new id n t g b h e =
    let r = g.each id (slice_get_within new id n h) in
    let one = stands_assembled new id n r.0 h r.1 in
    let two = assembled_grows (tree_at old) (tree_at new) n t (grows_with old new b) e in
    record { tree = r.1 ∙ sym one ∙ two }

-- ---- A node that is appended, unless it is in the list

pub begins_inserted : (old new : List Node) (n : Node) (b : Bool) → new ≡ (if b then old else old ++ n ∷ []) → Begins old new
begins_inserted old new n true e = record { more = []; whole = e ∙ sym (append-nil old) }
begins_inserted old new n false e = record { more = n ∷ []; whole = e }

-- The insertion into a list, for an equal list.
pub joined_as : (old new seen : List Node) (n : Node) (b : Bool) → old ≡ seen → new ≡ (if b then old else old ++ n ∷ []) → IsJoined seen n new
joined_as old new seen n b e k = subst (λ l. IsJoined l n new) e (record { stood = b; whole = k })

pub graph_inserted : (old new : List Node) (n : Node) (t : Tree) (b : Bool) → IsGraph old → assembled (tree_at old) n ≡ Some t → new ≡ (if b then old else old ++ n ∷ []) → IsGraph new
graph_inserted old new n t true g h e = subst IsGraph (sym e) g
graph_inserted old new n t false g h e = subst IsGraph (sym e) (graph_more old n t g h)
