-- Two nodes of a graph with the same tree are one.
use Rattle.std.specs.List.{IsDistinct, AllByRecursion, list_any}
use Rattle.heylo_graph.specs.contracts.nodes.NodePartialEq.TheImpl as node
use Rattle.std.proofs.Common.{rules, ◌||◌, if◌then◌else◌, ◌≡◌, ℕ, ◌<◌, Bool, true, false, List, [], ◌∷◌, ◌++◌, Option, Some, None, slice_get, refl, sym, ap, subst, ◌∙◌, arith}
use Prim.Native.Nat.{zero, suc}
use Rattle.heylo_graph.specs.Trees.{Tree}
use Rattle.heylo_graph.specs.declared.nodes.Node.{Node}
use Rattle.heylo_graph.specs.Nodes.{assembled, tree_at, Stands, HasTree, IsGraph, IsNodeOf, AreDifferent}
use Rattle.heylo_graph.specs.Parts.{first, second, third, with_parts}
use Rattle.heylo_graph.specs.internal.Tables.{IsBefore, PartTree}
use Rattle.heylo_graph.proofs.Trees.{tree_within, stands_assembled}
use Rattle.std.specs.Prelude.{Result, Ok, Err, IfOk, OnOk}
use Rattle.heylo_graph.proofs.PartTrees.{first_tree, second_tree, third_tree, taken_apart, parts_before, node_at, some_is}

abbrev number_of : Option ℕ → ℕ
number_of None = 0
number_of (Some p) = p

rebuilt : (n : Node) → n ≡ with_parts (with_parts n 0 0 0) (number_of (first n)) (number_of (second n)) (number_of (third n))
rebuilt (Node.Const v) = refl
rebuilt (Node.Var w) = refl
rebuilt (Node.Sum a b) = refl
rebuilt (Node.Diff a b) = refl
rebuilt (Node.Cut a b) = refl
rebuilt (Node.Scale w a) = refl
rebuilt (Node.Product a b span) = refl
rebuilt (Node.Min a b) = refl
rebuilt (Node.Max a b) = refl
rebuilt (Node.Imply a b) = refl
rebuilt (Node.CoImply a b) = refl
rebuilt (Node.Validate a) = refl
rebuilt (Node.CoValidate a) = refl
rebuilt (Node.Embed a) = refl
rebuilt (Node.Iverson a) = refl
rebuilt (Node.Select a b c) = refl
rebuilt (Node.Bind up w name ty a) = refl
rebuilt (Node.Truth v) = refl
rebuilt (Node.Flag w) = refl
rebuilt (Node.Not a) = refl
rebuilt (Node.And a b) = refl
rebuilt (Node.Or a b) = refl
rebuilt (Node.Same a b) = refl
rebuilt (Node.Le a b) = refl
rebuilt (Node.Lt a b) = refl
rebuilt (Node.EqNum a b) = refl
rebuilt (Node.Ite a b c) = refl

-- Two nodes of the same kind with the same children are equal.
alike : (m n : Node) → with_parts m 0 0 0 ≡ with_parts n 0 0 0 → number_of (first m) ≡ number_of (first n) → number_of (second m) ≡ number_of (second n) → number_of (third m) ≡ number_of (third n) → m ≡ n
alike m n e p q r = rebuilt m ∙ (λ i. with_parts (e i) (p i) (q i) (r i)) ∙ sym (rebuilt n)

same_part : (at : ℕ → Option Tree) (i : ℕ) (p q : Option ℕ) (u : Option Tree) → ((a b : ℕ) (t : Tree) → a < i → at a ≡ Some t → at b ≡ Some t → a ≡ b) → IsBefore p i → PartTree at p u → PartTree at q u → number_of p ≡ number_of q
same_part at i None None None s l h k = refl
same_part at i None None (Some u) s l h k = refl
same_part at i None (Some b) None s l h k = absurd k
same_part at i None (Some b) (Some u) s l h k = absurd h
same_part at i (Some a) None None s l h k = absurd h
same_part at i (Some a) None (Some u) s l h k = absurd k
same_part at i (Some a) (Some b) None s l h k = absurd h
same_part at i (Some a) (Some b) (Some u) s l h k = s a b u l h k

same_below : (ns : List Node) → IsGraph ns → AreDifferent ns → (k i j : ℕ) (t : Tree) → i < k → tree_at ns i ≡ Some t → tree_at ns j ≡ Some t → i ≡ j
same_below ns g d zero i j t l h k = absurd (omega (arith, l))
same_below ns g d (suc z) i j t l h k = go (λ a b u m e f. same_below ns g d z a b u (omega (arith, l, m)) e f) (node_at ns i (tree_within ns i t h)) (node_at ns j (tree_within ns j t k))
  where
    go : ((a b : ℕ) (u : Tree) → a < i → tree_at ns a ≡ Some u → tree_at ns b ≡ Some u → a ≡ b) → (n : Node) × (slice_get ns i ≡ Some n) → (n : Node) × (slice_get ns j ≡ Some n) → i ≡ j
    go smaller m n =
        let x = taken_apart (tree_at ns) m.0 t (stands_assembled ns i m.0 t m.1 h) in
        let y = taken_apart (tree_at ns) n.0 t (stands_assembled ns j n.0 t n.1 k) in
        let b = parts_before ns i m.0 g m.1 in
        let same = alike m.0 n.0 (x.kind ∙ sym y.kind)
        (same_part (tree_at ns) i (first m.0) (first n.0) (first_tree t) smaller b.0 x.one y.one)
        (same_part (tree_at ns) i (second m.0) (second n.0) (second_tree t) smaller b.1 x.two y.two)
        (same_part (tree_at ns) i (third m.0) (third n.0) (third_tree t) smaller b.2 x.three y.three) in
        d.differ i j n.0 (m.1 ∙ ap Some same) n.1

pub same_tree : (ns : List Node) → IsGraph ns → AreDifferent ns → (i j : ℕ) (t : Tree) → tree_at ns i ≡ Some t → tree_at ns j ≡ Some t → i ≡ j
same_tree ns g d i j t h k = same_below ns g d (suc i) i j t (omega arith) h k

-- A node whose tree is in the graph is in the graph.
pub stands_already : (ns : List Node) (n : Node) (i : ℕ) (t : Tree) → IsGraph ns → AreDifferent ns → assembled (tree_at ns) n ≡ Some t → tree_at ns i ≡ Some t → slice_get ns i ≡ Some n
stands_already ns n i t g d e h = go (node_at ns i (tree_within ns i t h))
  where
    go : (m : Node) × (slice_get ns i ≡ Some m) → slice_get ns i ≡ Some n
    go m =
        let x = taken_apart (tree_at ns) m.0 t (stands_assembled ns i m.0 t m.1 h) in
        let y = taken_apart (tree_at ns) n t e in
        let b = parts_before ns i m.0 g m.1 in
        let smaller : (a b : ℕ) (u : Tree) → a < i → tree_at ns a ≡ Some u → tree_at ns b ≡ Some u → a ≡ b = λ a b u l p q. same_tree ns g d a b u p q in
        m.1 ∙ ap Some (alike m.0 n (x.kind ∙ sym y.kind)
        (same_part (tree_at ns) i (first m.0) (first n) (first_tree t) smaller b.0 x.one y.one)
        (same_part (tree_at ns) i (second m.0) (second n) (second_tree t) smaller b.1 x.two y.two)
        (same_part (tree_at ns) i (third m.0) (third n) (third_tree t) smaller b.2 x.three y.three))

-- ---- The set of nodes

none_equal : {X : Type 0} (e : X → X → Bool) (x : X) (ys : List X) (j : ℕ) → e x x ≡ true → AllByRecursion (λ y. e x y ≡ false) ys → slice_get ys j ≡ Some x → ⊥
none_equal e x [] j r h k = cc
none_equal e x (y ∷ ys) zero r h k = let a = h.0 in let b : y ≡ x = some_is y x k in let c : e x x ≡ false = subst (λ z. e x z ≡ false) b a in absurd (let d : true ≡ false = sym r ∙ c in cc)
none_equal e x (y ∷ ys) (suc j) r h k = none_equal e x ys j r h.1 k

distinct_differ : {X : Type 0} (e : X → X → Bool) → ((x : X) → e x x ≡ true) → (xs : List X) → IsDistinct e xs → (i j : ℕ) (x : X) → slice_get xs i ≡ Some x → slice_get xs j ≡ Some x → i ≡ j
unfolding IsDistinct
distinct_differ e r [] d i j x h k = absurd (cc)
distinct_differ e r (y ∷ ys) d zero zero x h k = refl
distinct_differ e r (y ∷ ys) d zero (suc j) x h k = absurd (none_equal e y ys j (r y) d.0 (k ∙ sym h))
distinct_differ e r (y ∷ ys) d (suc i) zero x h k = absurd (none_equal e y ys i (r y) d.0 (h ∙ sym k))
distinct_differ e r (y ∷ ys) d (suc i) (suc j) x h k = ap suc (distinct_differ e r ys d.1 i j x h k)

self_equal : (n : Node) → node.ghosts.eq n n ≡ true
self_equal n = search rules

pub set_differs : (ns : List Node) → IsDistinct (λ m n. node.ghosts.eq m n) ns → AreDifferent ns
set_differs ns d = record { differ = distinct_differ (λ m n. node.ghosts.eq m n) self_equal ns d }

found_any : {X : Type 0} (test : X → Bool) (xs : List X) (i : ℕ) (x : X) → slice_get xs i ≡ Some x → test x ≡ true → list_any test xs ≡ true
found_any test [] i x h t = absurd (cc)
found_any test (y ∷ ys) zero x h t = ap (λ b. b || list_any test ys) (ap test (some_is y x h) ∙ t)
found_any test (y ∷ ys) (suc i) x h t = ap (λ b. test y || b) (found_any test ys i x h t) ∙ or_true (test y)
  where
    or_true : (b : Bool) → (b || true) ≡ true
    or_true true = refl
    or_true false = refl

-- No node is added if its tree is in the graph.
pub adds_none : (old new : List Node) (n : Node) (i : ℕ) (t : Tree) → IsGraph old → IsDistinct (λ m n. node.ghosts.eq m n) old → Stands old i t → assembled (tree_at old) n ≡ Some t → new ≡ (if list_any (λ m. node.ghosts.eq n m) old then old else old ++ n ∷ []) → new ≡ old
adds_none old new n i t g d s e k = k ∙ ap (λ b. if b then old else old ++ n ∷ []) (found_any (λ m. node.ghosts.eq n m) old i n (stands_already old n i t g (set_differs old d) e s.tree) (self_equal n))

-- The node is found if its tree is in the graph.
pub found_at : (old new : List Node) (n : Node) (i j : ℕ) (t : Tree) → IsGraph old → IsDistinct (λ m n. node.ghosts.eq m n) old → Stands old i t → assembled (tree_at old) n ≡ Some t → new ≡ (if list_any (λ m. node.ghosts.eq n m) old then old else old ++ n ∷ []) → slice_get new j ≡ Some n → j ≡ i
found_at old new n i j t g d s e k h =
    let different = set_differs old d in
    different.differ j i n (ap (λ l. slice_get l j) (sym (adds_none old new n i t g d s e k)) ∙ h) (stands_already old n i t g different e s.tree)

-- The subtrees of a tree that is in the graph are in the graph too.
abbrev pub PartStands : List Node → Option Tree → Type 0
PartStands ns None = Unit {0}
PartStands ns (Some u) = HasTree ns u

part_stands : (ns : List Node) (p : Option ℕ) (u : Option Tree) → PartTree (tree_at ns) p u → PartStands ns u
part_stands ns None None h = tt
part_stands ns None (Some u) h = absurd h
part_stands ns (Some p) None h = absurd h
part_stands ns (Some p) (Some u) h = record { number = p; stands = record { tree = h } }

pub parts_stand : (ns : List Node) (t : Tree) → HasTree ns t → PartStands ns (first_tree t) × PartStands ns (second_tree t) × PartStands ns (third_tree t)
parts_stand ns t h = go (node_at ns h.number (tree_within ns h.number t h.stands.tree))
  where
    go : (n : Node) × (slice_get ns h.number ≡ Some n) → PartStands ns (first_tree t) × PartStands ns (second_tree t) × PartStands ns (third_tree t)
    go n =
        let x = taken_apart (tree_at ns) n.0 t (stands_assembled ns h.number n.0 t n.1 h.stands.tree) in
        (part_stands ns (first n.0) (first_tree t) x.one, part_stands ns (second n.0) (second_tree t) x.two, part_stands ns (third n.0) (third_tree t) x.three)

-- The first subtree is in the graph if the tree is.
pub has_first : (ns : List Node) (t u : Tree) → HasTree ns t → first_tree t ≡ Some u → HasTree ns u
has_first ns t u h e = subst (PartStands ns) e (parts_stand ns t h).0

pub has_second : (ns : List Node) (t u : Tree) → HasTree ns t → second_tree t ≡ Some u → HasTree ns u
has_second ns t u h e = subst (PartStands ns) e (parts_stand ns t h).1

pub has_third : (ns : List Node) (t u : Tree) → HasTree ns t → third_tree t ≡ Some u → HasTree ns u
has_third ns t u h e = subst (PartStands ns) e (parts_stand ns t h).2

-- ---- The insertion of a form

-- A property of all results, weakened.
ok_with : {E : Type 0} (r : Result ℕ E) (P Q : ℕ → Type 0) → IfOk r P → ((j : ℕ) → P j → Q j) → IfOk r Q
ok_with (Ok j) P Q h f = f j h
ok_with (Err z) P Q h f = tt

pub put_stands : {E : Type 0} (mid new : List Node) (n : Node) (t : Tree) (r : Result ℕ E) → IsNodeOf mid n t → IfOk r (λ j. (u : Tree) → assembled (tree_at mid) n ≡ Some u → Stands new j u) → IfOk r (λ j. Stands new j t)
put_stands mid new n t r g h = ok_with r (λ j. (u : Tree) → assembled (tree_at mid) n ≡ Some u → Stands new j u) (λ j. Stands new j t) h (λ j f. f t g.gives)

-- If the children added no node, and neither does the node, nothing is added.
pub none_added : {E : Type 0} (old mid new : List Node) (n : Node) (t : Tree) (r : Result ℕ E) → HasTree old t → mid ≡ old → IsNodeOf mid n t → ((u : Tree) → HasTree mid u → assembled (tree_at mid) n ≡ Some u → OnOk r (new ≡ mid)) → OnOk r (new ≡ old)
none_added old mid new n t (Ok j) h e g f = f t (subst (λ l. HasTree l t) (sym e) h) g.gives ∙ e
none_added old mid new n t (Err z) h e g f = tt

pub number_found : {E : Type 0} (old mid : List Node) (n : Node) (i : ℕ) (t : Tree) (r : Result ℕ E) → Stands old i t → mid ≡ old → IsNodeOf mid n t → ((k : ℕ) (u : Tree) → Stands mid k u → assembled (tree_at mid) n ≡ Some u → IfOk r (λ j. j ≡ k)) → IfOk r (λ j. j ≡ i)
number_found old mid n i t r h e g f = f i t (subst (λ l. Stands l i t) (sym e) h) g.gives
