-- Nodes with changed trees, in one list and in a longer one.
use Rattle.std.proofs.Common.{◌⊎◌, inl, inr, ◌≤◌, length-append, append_assoc, append-nil, ◌≡◌, ℕ, ◌<◌, ◌+◌, Bool, true, false, List, [], ◌∷◌, ◌++◌, Option, Some, None, length, get_or, replicate, set, slice_get, refl, sym, ap, subst, ◌∙◌, arith}
use Prim.Native.Nat.{zero, suc}
use Rattle.std.specs.Prelude.{Result, Ok, Err, IfOk, OnOk}
use Rattle.std.proofs.lemmas.Option.{slice_get_within, slice_get-get_or}
use Rattle.heylo_graph.specs.Trees.{Tree, is_free_tree}
use Rattle.heylo_graph.specs.declared.nodes.Node.{Node}
use Rattle.heylo_graph.specs.Nodes.{assembled, tree_at, Stands, IsGraph, IsFitting, Begins}
use Rattle.heylo_graph.specs.Parts.{first, second, third}
use Rattle.heylo_graph.specs.internal.Tables.{Moves, PartMoves, AreMoved, AreMarked, IsBefore, IsReady, AreEmpty}
use Rattle.heylo_graph.proofs.Trees.{get_left, grows_with, tree_kept, stands_assembled, assembled_grows}
use Rattle.heylo_graph.proofs.PartTrees.{some_is}

-- ---- A longer list

pub begins_on : (a b c : List Node) → Begins a b → Begins b c → Begins a c
begins_on a b c p q = record { more = p.more ++ q.more; whole = q.whole ∙ ap (λ l. l ++ q.more) p.whole ∙ append_assoc a p.more q.more }

pub same_before : (old new : List Node) (i : ℕ) (t : Tree) → Begins old new → i < length old → tree_at new i ≡ Some t → tree_at old i ≡ Some t
same_before old new i t b l e = sym (tree_kept old b.more i l) ∙ sym (ap (λ m. tree_at m i) b.whole) ∙ e

pub same_later : (old new : List Node) (i : ℕ) → Begins old new → i < length old → tree_at new i ≡ tree_at old i
same_later old new i b l = ap (λ m. tree_at m i) b.whole ∙ tree_kept old b.more i l

pub longer : (old new : List Node) (i : ℕ) → Begins old new → i < length old → i < length new
longer old new i b l = let e = ap length b.whole ∙ length-append old b.more in omega (arith, e, l)

pub same_node : (old new : List Node) (i : ℕ) (n m : Node) → Begins old new → slice_get old i ≡ Some n → slice_get new i ≡ Some m → m ≡ n
same_node old new i n m b h k = some_is m n (sym k ∙ ap (λ l. slice_get l i) b.whole ∙ get_left old b.more i (slice_get_within old i n h) ∙ h)

pub moves_longer : (change : Tree → Tree) (old new : List Node) (i j : ℕ) → Begins old new → i < length old → Moves change old i j → Moves change new i j
moves_longer change old new i j b l m = record { moves = λ t h. (grows_with old new b).grows j (change t) (m.moves t (same_before old new i t b l h)) }

pub marked_longer : (binders : Bool) (x : ℕ) (old new : List Node) (table : List Bool) → Begins old new → length table ≤ length old → AreMarked binders x old table → AreMarked binders x new table
marked_longer binders x old new table b l f = record { each = λ j u h k. f.each j u h (same_before old new j u b (omega (arith, h, l)) k) }

noted_within : (notes : List (Option ℕ)) (i j : ℕ) → get_or notes i None ≡ Some j → i < length notes
noted_within [] i j h = absurd (cc)
noted_within (m ∷ ms) zero j h = omega arith
noted_within (m ∷ ms) (suc i) j h = let l = noted_within ms i j h in omega (arith, l)

pub moved_longer : (change : Tree → Tree) (old new : List Node) (notes : List (Option ℕ)) → Begins old new → length notes ≤ length old → AreMoved change old notes → AreMoved change new notes
moved_longer change old new notes b l m = record { each = λ i j h. moves_longer change old new i j b (let k = noted_within notes i j h in omega (arith, k, l)) (m.each i j h) }

-- ---- Cached results

set_cases : (notes : List (Option ℕ)) (k : ℕ) (v : Option ℕ) (i j : ℕ) → get_or (set notes k v) i None ≡ Some j → ((i ≡ k) × (v ≡ Some j)) ⊎ (get_or notes i None ≡ Some j)
set_cases [] k v i j h = inr h
set_cases (m ∷ ms) zero v zero j h = inl (refl, h)
set_cases (m ∷ ms) zero v (suc i) j h = inr h
set_cases (m ∷ ms) (suc k) v zero j h = inr h
set_cases (m ∷ ms) (suc k) v (suc i) j h = later (set_cases ms k v i j h)
  where
    later : ((i ≡ k) × (v ≡ Some j)) ⊎ (get_or ms i None ≡ Some j) → ((suc i ≡ suc k) × (v ≡ Some j)) ⊎ (get_or ms i None ≡ Some j)
    later (inl p) = inl (ap suc p.0, p.1)
    later (inr q) = inr q

noted : (change : Tree → Tree) (ns : List Node) (notes : List (Option ℕ)) (k r : ℕ) → AreMoved change ns notes → Moves change ns k r → AreMoved change ns (set notes k (Some r))
noted change ns notes k r m s = record { each = λ i j h. go i j (set_cases notes k (Some r) i j h) }
  where
    go : (i j : ℕ) → ((i ≡ k) × (Some r ≡ Some j)) ⊎ (get_or notes i None ≡ Some j) → Moves change ns i j
    go i j (inl p) = subst (λ z. Moves change ns z j) (sym p.0) (subst (λ z. Moves change ns k z) (some_is r j p.1) s)
    go i j (inr q) = m.each i j q

no_note : (n i j : ℕ) → get_or (replicate n None) i None ≡ Some j → ⊥
no_note zero zero j h = cc
no_note zero (suc i) j h = cc
no_note (suc n) zero j h = cc
no_note (suc n) (suc i) j h = no_note n i j h

pub none_noted : (notes : List (Option ℕ)) (n : ℕ) → notes ≡ replicate n None → AreEmpty notes
none_noted notes n e = subst AreEmpty (sym e) (record { none = λ i j h. no_note n i j h })

pub empty_moved : (change : Tree → Tree) (ns : List Node) (notes : List (Option ℕ)) → AreEmpty notes → AreMoved change ns notes
empty_moved change ns notes s = record { each = λ i j h. absurd (s.none i j h) }

pub ready_begun : (change : Tree → Tree) (x : ℕ) (ns : List Node) (id : ℕ) (table : List Bool) (notes : List (Option ℕ)) → id < length ns → length table ≡ id + 1 → AreMarked false x ns table → length notes ≡ length table → AreEmpty notes → IsReady change x ns table notes
ready_begun change x ns id table notes l e m k s = record { inside = omega (arith, l, e); free = m; size = k; moved = empty_moved change ns notes s }

-- ---- The invariant of each call

pub ready_longer : (change : Tree → Tree) (x : ℕ) (old new : List Node) (table : List Bool) (notes : List (Option ℕ)) → Begins old new → IsReady change x old table notes → IsReady change x new table notes
ready_longer change x old new table notes b r = record {
  inside = let i = r.inside in omega (arith, i, ap length b.whole ∙ length-append old b.more);
  free = marked_longer false x old new table b r.inside r.free;
  size = r.size;
  moved = moved_longer change old new notes b (let i = r.inside in let j = r.size in omega (arith, i, j)) r.moved;
}

length_set : {X : Type 0} (xs : List X) (k : ℕ) (v : X) → length (set xs k v) ≡ length xs
length_set [] k v = refl
length_set (y ∷ ys) zero v = refl
length_set (y ∷ ys) (suc k) v = ap suc (length_set ys k v)

pub ready_noted : (change : Tree → Tree) (x : ℕ) (ns : List Node) (table : List Bool) (notes now : List (Option ℕ)) (k r : ℕ) → now ≡ set notes k (Some r) → IsReady change x ns table notes → Moves change ns k r → IsReady change x ns table now
ready_noted change x ns table notes now k r e h m = subst (IsReady change x ns table) (sym e) (record { inside = h.inside; free = h.free; size = length_set notes k (Some r) ∙ h.size; moved = noted change ns notes k r h.moved m })

-- A node in which the variable is not free is its own result.
pub stays : (change : Tree → Tree) (x : ℕ) (ns : List Node) (table : List Bool) (notes : List (Option ℕ)) (i : ℕ) → ((t : Tree) → is_free_tree x t ≡ false → change t ≡ t) → IsReady change x ns table notes → i < length table → get_or table i false ≡ false → Moves change ns i i
stays change x ns table notes i kept r l e = record { moves = λ t k. k ∙ ap Some (sym (kept t (sym (r.free.each i t l k) ∙ e))) }

-- A node of the table in whose tree the variable is free.
pub free_here : (change : Tree → Tree) (x : ℕ) (ns : List Node) (table : List Bool) (notes : List (Option ℕ)) (i : ℕ) → IsReady change x ns table notes → i < length table → get_or table i false ≡ true → (t : Tree) → tree_at ns i ≡ Some t → is_free_tree x t ≡ true
free_here change x ns table notes i r l e t k = sym (r.free.each i t l k) ∙ e

-- ---- The children of a node, one after another

pub part_longer : (change : Tree → Tree) (old new : List Node) (p : Option ℕ) (j i : ℕ) → Begins old new → i < length old → IsBefore p i → PartMoves change old p j → PartMoves change new p j
part_longer change old new None j i b l h m = tt
part_longer change old new (Some p) j i b l h m = moves_longer change old new p j b (omega (arith, h, l)) m

-- A node and the results of its children, in the list after the last of them.
pub record AllMoved (change : Tree → Tree) (old new : List Node) (i : ℕ) (n : Node) (a b c : ℕ) : Type 0 where
  pub begins : Begins old new
  pub there : slice_get new i ≡ Some n
  pub one : PartMoves change new (first n) a
  pub two : PartMoves change new (second n) b
  pub three : PartMoves change new (third n) c

pub all_moved : (change : Tree → Tree) (n0 n1 n2 n3 : List Node) (i : ℕ) (n : Node) (p q r : Option ℕ) (a b c : ℕ) → slice_get n0 i ≡ Some n → Begins n0 n1 → Begins n1 n2 → Begins n2 n3 → (p ≡ first n) × (q ≡ second n) × (r ≡ third n) → IsBefore p i × IsBefore q i × IsBefore r i → PartMoves change n1 p a → PartMoves change n2 q b → PartMoves change n3 r c → AllMoved change n0 n3 i n a b c
all_moved change n0 n1 n2 n3 i n p q r a b c h e f g s t ma mb mc =
    let l0 = slice_get_within n0 i n h in
    let l1 = longer n0 n1 i e l0 in
    let l2 = longer n1 n2 i f l1 in
    let whole = begins_on n0 n2 n3 (begins_on n0 n1 n2 e f) g in
    let a3 = part_longer change n2 n3 p a i g l2 t.0 (part_longer change n1 n2 p a i f l1 t.0 ma) in
    let b3 = part_longer change n2 n3 q b i g l2 t.1 mb in
    record {
      begins = whole;
      there = ap (λ l. slice_get l i) whole.whole ∙ get_left n0 whole.more i l0 ∙ h;
      one = subst (λ o. PartMoves change n3 o a) s.0 a3;
      two = subst (λ o. PartMoves change n3 o b) s.1 b3;
      three = subst (λ o. PartMoves change n3 o c) s.2 mc;
    }

-- ---- The insertion of a node with changed children

-- With changed children, the node `m` has the changed tree of the node `n`.
pub record IsChanged (change : Tree → Tree) (ns : List Node) (n m : Node) : Type 0 where
  pub changed : (t : Tree) → assembled (tree_at ns) n ≡ Some t → assembled (tree_at ns) m ≡ Some (change t)

pub changed_fits : (change : Tree → Tree) (old new : List Node) (i : ℕ) (n m : Node) → IsGraph old → slice_get old i ≡ Some n → Begins old new → IsChanged change new n m → IsFitting new m
changed_fits change old new i n m g h b s =
    let r = g.each i (slice_get_within old i n h) in
    record { tree = change r.0; stands = s.changed r.0 (assembled_grows (tree_at old) (tree_at new) n r.0 (grows_with old new b) (stands_assembled old i n r.0 h r.1)) }

pub changed_moves : (change : Tree → Tree) (old new : List Node) (i : ℕ) (n m : Node) (j : ℕ) → slice_get old i ≡ Some n → Begins old new → IsChanged change old n m → ((t : Tree) → assembled (tree_at old) m ≡ Some t → Stands new j t) → Moves change new i j
changed_moves change old new i n m j h b s k = record { moves = λ t e. (k (change t) (s.changed t (stands_assembled old i n t h (same_before old new i t b (slice_get_within old i n h) e)))).tree }

pub ok_moves : {E : Type 0} (change : Tree → Tree) (old new : List Node) (i : ℕ) (n m : Node) (o : Result ℕ E) → slice_get old i ≡ Some n → OnOk o (Begins old new) → IsChanged change old n m → IfOk o (λ j. (t : Tree) → assembled (tree_at old) m ≡ Some t → Stands new j t) → IfOk o (λ j. Moves change new i j)
ok_moves change old new i n m (Ok j) h b s k = changed_moves change old new i n m j h b s k
ok_moves change old new i n m (Err z) h b s k = tt

-- The tree of a node of a graph is the same in every longer list.
pub tree_here : (old new : List Node) (i : ℕ) (n : Node) (t : Tree) → IsGraph old → slice_get old i ≡ Some n → Begins old new → assembled (tree_at new) n ≡ Some t → tree_at old i ≡ Some t
tree_here old new i n t g h b e =
    let r = g.each i (slice_get_within old i n h) in
    r.1 ∙ sym (assembled_grows (tree_at old) (tree_at new) n r.0 (grows_with old new b) (stands_assembled old i n r.0 h r.1)) ∙ e

pub on_ok : {T E P : Type 0} (r : Result T E) → P → OnOk r P
on_ok (Ok x) p = p
on_ok (Err e) p = tt

pub ok_as : {T E : Type 0} {P Q : T → Type 0} (r : Result T E) → ((x : T) → P x → Q x) → IfOk r P → IfOk r Q
ok_as (Ok x) f h = f x h
ok_as (Err e) f h = tt

pub begins_itself : (ns : List Node) → Begins ns ns
begins_itself ns = record { more = []; whole = sym (append-nil ns) }

pub ok_over : {E : Type 0} (old new : List Node) (i : ℕ) (n m : Node) (f : Node → Node) (o : Result ℕ E) → slice_get old i ≡ Some n → m ≡ f n → IfOk o (λ j. (t : Tree) → assembled (tree_at old) m ≡ Some t → Stands new j t) → IfOk o (λ j. (k : Node) (t : Tree) → slice_get old i ≡ Some k → assembled (tree_at old) (f k) ≡ Some t → Stands new j t)
ok_over old new i n m f (Ok j) h e s = λ k t q r. s t (ap (assembled (tree_at old)) (e ∙ ap f (some_is n k (sym h ∙ q))) ∙ r)
ok_over old new i n m f (Err z) h e s = tt

-- ---- A node with children that were changed one after another

pub node_later : (old new : List Node) (i : ℕ) (n : Node) → Begins old new → slice_get old i ≡ Some n → slice_get new i ≡ Some n
node_later old new i n b h = ap (λ l. slice_get l i) b.whole ∙ get_left old b.more i (slice_get_within old i n h) ∙ h

pub made_fits : (change : Tree → Tree) (f : Node → Node) (n0 n3 : List Node) (i : ℕ) (n k : Node) → IsGraph n0 → slice_get n0 i ≡ Some n → Begins n0 n3 → IsChanged change n3 n (f n) → slice_get n3 i ≡ Some k → IsFitting n3 (f k)
made_fits change f n0 n3 i n k g h b s e = subst (λ j. IsFitting n3 (f j)) (some_is n k (sym (node_later n0 n3 i n b h) ∙ e)) (changed_fits change n0 n3 i n (f n) g h b s)

pub made_moves : {E : Type 0} (change : Tree → Tree) (f : Node → Node) (ns new : List Node) (i : ℕ) (n : Node) (o : Result ℕ E) → slice_get ns i ≡ Some n → IsChanged change ns n (f n) → Begins ns new → IfOk o (λ j. (k : Node) (t : Tree) → slice_get ns i ≡ Some k → assembled (tree_at ns) (f k) ≡ Some t → Stands new j t) → IfOk o (λ j. Moves change new i j)
made_moves change f ns new i n (Ok j) h s w k = record { moves = λ t e. (k n (change t) h (s.changed t (stands_assembled ns i n t h (same_before ns new i t w (slice_get_within ns i n h) e)))).tree }
made_moves change f ns new i n (Err z) h s w k = tt

-- The result has the changed tree, if the node has the tree.
pub ok_changed : {E : Type 0} (change : Tree → Tree) (old new : List Node) (i : ℕ) (o : Result ℕ E) → Begins old new → IfOk o (λ j. Moves change new i j) → IfOk o (λ j. (t : Tree) → Stands old i t → Stands new j (change t))
ok_changed change old new i (Ok j) b h = λ t s. record { tree = h.moves t ((grows_with old new b).grows i t s.tree) }
ok_changed change old new i (Err e) b h = tt

-- The cached result of a node, as it was read.
pub noted_here : (notes : List (Option ℕ)) (i k : ℕ) (r : Option ℕ) (j : ℕ) → k < length notes → i ≡ k → r ≡ get_or notes i r → r ≡ Some j → get_or notes k None ≡ Some j
noted_here notes i k r j l e h q = some_is (get_or notes k None) (get_or notes k r) (sym (slice_get-get_or notes k None l) ∙ slice_get-get_or notes k r l) ∙ ap (λ z. get_or notes z r) (sym e) ∙ sym h ∙ q

pub before_within : (p : Option ℕ) (i n : ℕ) → IsBefore p i → i < n → IsBefore p n
before_within None i n h l = tt
before_within (Some p) i n h l = omega (arith, h, l)
