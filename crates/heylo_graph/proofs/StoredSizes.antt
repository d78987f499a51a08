-- The stored sizes stay right if the list is truncated, and if a node is appended.
use Rattle.std.proofs.Common.{◌≡◌, ℕ, ◌+◌, ◌<◌, ◌≤◌, ◌^◌, min, max, Bool, true, false, if◌then◌else◌, ◌⊎◌, inl, inr, List, [], ◌∷◌, ◌++◌, Option, Some, None, length, take, drop, slice_get, refl, sym, ap, ap₂, subst, ◌∙◌, arith, length-append}
use Prim.Native.Nat.{zero, suc}
use Rattle.std.proofs.Math.Nat.{eq-or-lt_of_le}
use Rattle.std.proofs.Math.Seq.{take-append_seam, take-length}
use Rattle.std.proofs.lemmas.List.{length-take-le, take-append-drop}
use Rattle.heylo_graph.specs.Trees.{Tree}
use Rattle.heylo_graph.specs.declared.nodes.Node.{Node}
use Rattle.heylo_graph.specs.declared.sizes.Size.{Size}
use Rattle.heylo_graph.specs.Nodes.{assembled, tree_at, IsGraph}
use Rattle.heylo_graph.specs.Parts.{first, second, third}
use Rattle.heylo_graph.specs.internal.StoredSizes.{size_of, part_size, AreSizes, IsStored}
use Rattle.heylo_graph.specs.internal.Tables.{PartTree}
use Rattle.heylo_graph.proofs.Trees.{get_left, get_last, tree_kept, tree_last, tree_within, graph_cut, graph_inserted}
use Rattle.heylo_graph.proofs.PartTrees.{taken_apart, first_tree, second_tree, third_tree, some_is}
use Rattle.heylo_graph.proofs.PartSizes.{part_nodes, part_depth, nodes_over, depth_over}

get_take : {X : Type 0} (n : ℕ) (xs : List X) (i : ℕ) → i < n → slice_get (take n xs) i ≡ slice_get xs i
get_take zero xs i h = absurd (omega (arith, h))
get_take (suc n) [] i h = refl
get_take (suc n) (x ∷ xs) zero h = refl
get_take (suc n) (x ∷ xs) (suc i) h = get_take n xs i (omega (arith, h))

sizes_cut : (len : ℕ) (ns : List Node) (sizes : List Size) → len ≤ length ns → AreSizes ns sizes → AreSizes (take len ns) (take len sizes)
sizes_cut len ns sizes h s = record {
  count = length-take-le len sizes (let e = s.count in omega (arith, e, h)) ∙ sym (length-take-le len ns h);
  each = λ i t e.
      let l : i < length (take len ns) = tree_within (take len ns) i t e in
      let k : i < len = let m = length-take-le len ns h in omega (arith, l, m) in
      get_take len sizes i k ∙ s.each i t (ap (λ m. tree_at m i) (sym (take-append-drop len ns)) ∙ tree_kept (take len ns) (drop len ns) i l ∙ e);
}

pub stored_cut : (len : ℕ) (ns : List Node) (sizes : List Size) → len ≤ length ns → IsStored ns sizes → IsStored (take len ns) (take len sizes)
stored_cut len ns sizes h s = record {
  graph = graph_cut (take len ns) (drop len ns) (subst IsGraph (sym (take-append-drop len ns)) s.graph);
  sized = sizes_cut len ns sizes h s.sized;
}

sizes_more : (ns : List Node) (n : Node) (t : Tree) (sizes : List Size) (z : Size) → assembled (tree_at ns) n ≡ Some t → z ≡ size_of t → AreSizes ns sizes → AreSizes (ns ++ n ∷ []) (sizes ++ z ∷ [])
sizes_more ns n t sizes z a b s = record { count = total; each = λ i u e. go i u e (eq-or-lt_of_le (at_most i (tree_within (ns ++ n ∷ []) i u e))) }
  where
    total : length (sizes ++ z ∷ []) ≡ length (ns ++ n ∷ [])
    total = let e = s.count in omega (arith, e, length-append sizes (z ∷ []), length-append ns (n ∷ []))

    at_most : (i : ℕ) → i < length (ns ++ n ∷ []) → i ≤ length ns
    at_most i h = omega (arith, h, length-append ns (n ∷ []))

    go : (i : ℕ) (u : Tree) → tree_at (ns ++ n ∷ []) i ≡ Some u → (i ≡ length ns) ⊎ (i < length ns) → slice_get (sizes ++ z ∷ []) i ≡ Some (size_of u)
    go i u e (inl q) = ap (slice_get (sizes ++ z ∷ [])) (q ∙ sym s.count) ∙ get_last sizes [] z ∙ ap Some (b ∙ ap size_of (some_is t u (sym a ∙ sym (tree_last ns n) ∙ ap (tree_at (ns ++ n ∷ [])) (sym q) ∙ e)))
    go i u e (inr l) = get_left sizes (z ∷ []) i (let k = s.count in omega (arith, l, k)) ∙ s.each i u (sym (tree_kept ns (n ∷ []) i l) ∙ e)

whole_again : (sizes : List Size) (z : Size) (ns : List Node) → length sizes ≡ length ns → take (length ns) (sizes ++ z ∷ []) ≡ sizes
whole_again sizes z ns e = ap (λ l. take l (sizes ++ z ∷ [])) (sym e) ∙ take-append_seam sizes (z ∷ [])

whole_more : (sizes : List Size) (z : Size) (ns : List Node) (n : Node) → length sizes ≡ length ns → take (length (ns ++ n ∷ [])) (sizes ++ z ∷ []) ≡ sizes ++ z ∷ []
whole_more sizes z ns n e = ap (λ l. take l (sizes ++ z ∷ [])) (omega (arith, e, length-append ns (n ∷ []), length-append sizes (z ∷ []))) ∙ take-length (sizes ++ z ∷ [])

-- The list with a node inserted, and its sizes, as many as there are nodes.
pub stored_inserted : (old new : List Node) (n : Node) (t : Tree) (sizes : List Size) (z : Size) (b : Bool) → IsStored old sizes → assembled (tree_at old) n ≡ Some t → z ≡ size_of t → new ≡ (if b then old else old ++ n ∷ []) → IsStored new (take (length new) (sizes ++ z ∷ []))
stored_inserted old new n t sizes z true s a e h = subst (λ l. IsStored l (take (length l) (sizes ++ z ∷ []))) (sym h) (subst (IsStored old) (sym (whole_again sizes z old s.sized.count)) s)
stored_inserted old new n t sizes z false s a e h = subst (λ l. IsStored l (take (length l) (sizes ++ z ∷ []))) (sym h) (subst (IsStored (old ++ n ∷ [])) (sym (whole_more sizes z old n s.sized.count)) (record { graph = graph_inserted old (old ++ n ∷ []) n t false s.graph a refl; sized = sizes_more old n t sizes z a e s.sized }))

pub stored_same : (old new : List Node) (sizes : List Size) (z : Size) → IsStored old sizes → new ≡ old → IsStored new (take (length new) (sizes ++ z ∷ []))
stored_same old new sizes z s h = subst (λ l. IsStored l (take (length l) (sizes ++ z ∷ []))) (sym h) (subst (IsStored old) (sym (whole_again sizes z old s.sized.count)) s)

-- ---- The size of a node's tree

part_of : (at : ℕ → Option Tree) (p : Option ℕ) (u : Option Tree) → PartTree at p u → Size
part_of at p u h = part_size u

nodes_part : (u : Option Tree) → (part_size u).nodes ≡ min (2 ^ 63) (part_nodes u)
nodes_part None = refl
nodes_part (Some t) = refl

depth_part : (u : Option Tree) → (part_size u).depth ≡ min (2 ^ 63) (part_depth u)
depth_part None = refl
depth_part (Some t) = refl

-- The size follows from those of the children.
pub size_together : (ns : List Node) (n : Node) (t : Tree) (a b c : Size) (x y : ℕ) → assembled (tree_at ns) n ≡ Some t
    → ((u : Option Tree) → PartTree (tree_at ns) (first n) u → a ≡ part_size u)
    → ((u : Option Tree) → PartTree (tree_at ns) (second n) u → b ≡ part_size u)
    → ((u : Option Tree) → PartTree (tree_at ns) (third n) u → c ≡ part_size u)
    → ((k l m : ℕ) → a.nodes ≡ min (2 ^ 63) k → b.nodes ≡ min (2 ^ 63) l → c.nodes ≡ min (2 ^ 63) m → x ≡ min (2 ^ 63) (1 + (k + (l + m))))
    → ((k l m : ℕ) → a.depth ≡ min (2 ^ 63) k → b.depth ≡ min (2 ^ 63) l → c.depth ≡ min (2 ^ 63) m → y ≡ min (2 ^ 63) (1 + max k (max l m)))
    → record { nodes = x; depth = y } ≡ size_of t
size_together ns n t a b c x y h fa fb fc fx fy =
    let p = taken_apart (tree_at ns) n t h in
    let ea = fa (first_tree t) p.one in
    let eb = fb (second_tree t) p.two in
    let ec = fc (third_tree t) p.three in
    let ex = fx (part_nodes (first_tree t)) (part_nodes (second_tree t)) (part_nodes (third_tree t)) (ap (λ (s : Size). s.nodes) ea ∙ nodes_part (first_tree t)) (ap (λ (s : Size). s.nodes) eb ∙ nodes_part (second_tree t)) (ap (λ (s : Size). s.nodes) ec ∙ nodes_part (third_tree t)) in
    let ey = fy (part_depth (first_tree t)) (part_depth (second_tree t)) (part_depth (third_tree t)) (ap (λ (s : Size). s.depth) ea ∙ depth_part (first_tree t)) (ap (λ (s : Size). s.depth) eb ∙ depth_part (second_tree t)) (ap (λ (s : Size). s.depth) ec ∙ depth_part (third_tree t)) in
    λ i. record { nodes = (ex ∙ ap (min (2 ^ 63)) (sym (nodes_over t))) i; depth = (ey ∙ ap (min (2 ^ 63)) (sym (depth_over t))) i }

pub cut_stored : (len : ℕ) (ns now : List Node) (sizes left : List Size) → len ≤ length ns → IsStored ns sizes → now ≡ take len ns → left ≡ take len sizes → IsStored now left
cut_stored len ns now sizes left h s e k = subst (λ l. IsStored l left) (sym e) (subst (IsStored (take len ns)) (sym k) (stored_cut len ns sizes h s))

pub stored_none : (ns : List Node) (sizes : List Size) → ns ≡ [] → sizes ≡ [] → IsStored ns sizes
stored_none ns sizes e k = subst (λ l. IsStored l sizes) (sym e) (subst (IsStored []) (sym k) (record { graph = record { each = λ i h. absurd (omega (arith, h)) }; sized = record { count = refl; each = λ i t h. absurd (let l = tree_within [] i t h in omega (arith, l)) } }))

-- The stored sizes after the calls of the code.
pub stored_after : (old new : List Node) (n : Node) (t : Tree) (sizes pushed left : List Size) (z : Size) (l : ℕ) (b : Bool) → IsStored old sizes → assembled (tree_at old) n ≡ Some t → z ≡ size_of t → new ≡ (if b then old else old ++ n ∷ []) → l ≡ length new → pushed ≡ sizes ++ z ∷ [] → left ≡ take l pushed → IsStored new left
stored_after old new n t sizes pushed left z l b s a e h m p k = subst (IsStored new) (sym (k ∙ ap₂ take m p)) (stored_inserted old new n t sizes z b s a e h)
