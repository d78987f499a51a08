-- The parts of a goal's graph, node by node.
use Prim.Native.Nat.{zero, suc}
use Rattle.std.proofs.Common.{◌≡◌, ℕ, ◌+◌, ◌<◌, ◌≤◌, ◌⊎◌, inl, inr, false, List, [], ◌∷◌, ◌++◌, map, Some, length, slice_get, refl, sym, ap, ap₂, subst, ◌∙◌, arith, length-append, add-one, Global}
use Rattle.std.specs.Prelude.{take, drop}
use Rattle.std.specs.Rc.{rc_value}
use Rattle.std.specs.declared.rc.Rc.{Rc}
use Rattle.std.proofs.Math.Nat.{eq-or-lt_of_le}
use Rattle.std.proofs.Math.Seq.{take-suc}
use Rattle.std.proofs.lemmas.List.{map-append, length-map, length-take-le, take-append-drop}
use Rattle.std.proofs.lemmas.Option.{get_or_from_slice_get, slice_get_within}
use Rattle.heylo_formula.specs.Goals.{Goal}
use Rattle.heylo_graph.specs.Trees.{Tree}
use Rattle.heylo_graph.specs.Nodes.{assembled, tree_at, IsGraph, IsNodeOf}
use Rattle.heylo_graph.specs.declared.nodes.Node.{Node}
use Rattle.heylo_graph.proofs.exported.LongerLists.{tree_within, tree_kept, tree_last}
use Rattle.linear_form.specs.Query.{next}
use Rattle.linear_form.specs.Questions.{evaluate}
use Rattle.linear_form.specs.internal.Evaluations.{ended}
use Rattle.linear_form.specs.internal.GoalParts.{AreParts, HasPart, IsPartOf, IsWorkOf, IsGoalPart, IsReadyAs}
use Rattle.linear_form.specs.internal.Parts.{asked, asked_by_work, operated, IsReadyWork}
use Rattle.linear_form.specs.internal.Parts as parts
use Rattle.linear_form.specs.internal.PlainParts.{part_of, work_of}
use Rattle.linear_form.specs.declared.parts.Operation.{Operation}
use Rattle.linear_form.specs.declared.parts.Part.{Part}
use Rattle.linear_form.specs.declared.parts.Work.{Work}
use Rattle.linear_form.proofs.AssembledTrees.{all_asked}
use Rattle.linear_form.proofs.NodeWorks.{ready_unsure}

-- ---- A list and its first elements

get_left : {X : Type 0} (xs ys : List X) (i : ℕ) (x : X) → slice_get xs i ≡ Some x → slice_get (xs ++ ys) i ≡ Some x
get_left [] ys i x h = absurd (cc)
get_left (y ∷ xs) ys zero x h = h
get_left (y ∷ xs) ys (suc i) x h = get_left xs ys i x h

get_last : {X : Type 0} (xs : List X) (x : X) → slice_get (xs ++ x ∷ []) (length xs) ≡ Some x
get_last [] x = refl
get_last (y ∷ xs) x = get_last xs x

pub take_one_more : {X : Type 0} (xs : List X) (i : ℕ) (x : X) → slice_get xs i ≡ Some x → take (suc i) xs ≡ take i xs ++ x ∷ []
take_one_more xs i x h = take-suc xs i x (slice_get_within xs i x h) ∙ ap (λ y. take i xs ++ y ∷ []) (get_or_from_slice_get xs i x x h)

-- ---- Nodes, over those before them

-- `Over ns i n`: the node `n` is at index `i`, and its tree is over the nodes before it.
pub record Over (ns : List Node) (i : ℕ) (n : Node) : Type 0 where
  pub there : slice_get ns i ≡ Some n
  pub tree : Tree
  pub node : IsNodeOf (take i ns) n tree

pub over : (ns : List Node) (i j : ℕ) (n : Node) → IsGraph ns → j ≡ i → slice_get ns j ≡ Some n → i < length ns → Over ns i n
over ns i j n g k e l = record { there = at_i; tree = (g.each i l).0; node = record { gives = sym last ∙ (g.each i l).1 } }
  where
    at_i : slice_get ns i ≡ Some n
    at_i = subst (λ j. slice_get ns j ≡ Some n) k e

    long : length (take i ns) ≡ i
    long = length-take-le i ns (omega (arith, l))

    last : tree_at ns i ≡ assembled (tree_at (take i ns)) n
    last =
        ap (λ l. tree_at l i) (sym (take-append-drop (suc i) ns) ∙ ap (λ l. l ++ drop (suc i) ns) (take_one_more ns i n at_i))
        ∙ tree_kept (take i ns ++ n ∷ []) (drop (suc i) ns) i (omega (arith, long, length-append (take i ns) (n ∷ [])))
        ∙ ap (tree_at (take i ns ++ n ∷ [])) (sym long)
        ∙ tree_last (take i ns) n

-- ---- The list of parts

pub no_parts : (ps : List Part) → AreParts [] ps
no_parts ps = record { each = λ i t e. let l = tree_within [] i t e in absurd (omega (arith, l)) }

parts_more : (ns : List Node) (n : Node) (ps : List Part) (p : Part) (t : Tree) → length ps ≡ length ns → IsNodeOf ns n t → IsPartOf t p → AreParts ns ps → AreParts (ns ++ n ∷ []) (ps ++ p ∷ [])
parts_more ns n ps p t l m i h = record { each = λ j u e. go j u e (eq-or-lt_of_le (at_most j u e)) }
  where
    at_most : (j : ℕ) (u : Tree) → tree_at (ns ++ n ∷ []) j ≡ Some u → j ≤ length ns
    at_most j u e = omega (arith, tree_within (ns ++ n ∷ []) j u e, length-append ns (n ∷ []))

    longer : (j : ℕ) (u : Tree) → HasPart ps j u → HasPart (ps ++ p ∷ []) j u
    longer j u k = record { part = k.part; there = get_left ps (p ∷ []) j k.part k.there; is_part = k.is_part }

    go : (j : ℕ) (u : Tree) → tree_at (ns ++ n ∷ []) j ≡ Some u → (j ≡ length ns) ⊎ (j < length ns) → HasPart (ps ++ p ∷ []) j u
    go j u e (inr k) = longer j u (h.each j u (sym (tree_kept ns (n ∷ []) j k) ∙ e))
    go j u e (inl k) =
        let s : Some t ≡ Some u = sym m.gives ∙ sym (tree_last ns n) ∙ sym (ap (tree_at (ns ++ n ∷ [])) k) ∙ e in
        let v : t ≡ u = cc in
        record { part = p; there = ap (slice_get (ps ++ p ∷ [])) (k ∙ sym l) ∙ get_last ps p; is_part = subst (λ t. IsPartOf t p) v i }

ready_is : (t : Tree) (w : Work) (p : Part) → IsWorkOf t w → IsReadyAs (work_of w) p → IsPartOf t p
ready_is t w p h r = record { asks = r.asks ∙ h.asks; ready = r.ready }

pub parts_grow : (ns : List Node) (i : ℕ) (n : Node) (ps new : List (Rc Part Global)) (r : Rc Part Global) (w : Work) → length ps ≡ i → new ≡ ps ++ r ∷ [] → (o : Over ns i n) → IsWorkOf o.tree w → IsReadyAs (work_of w) r.value → AreParts (take i ns) (map rc_value ps) → AreParts (take (i + 1) ns) (map rc_value new)
parts_grow ns i n ps new r w l f o h k a = subst (λ ms. AreParts ms (map rc_value new)) (sym (ap (λ j. take j ns) (add-one i) ∙ take_one_more ns i n o.there)) (subst (AreParts (take i ns ++ n ∷ [])) (sym (ap (map rc_value) f ∙ map-append rc_value ps (r ∷ []))) (parts_more (take i ns) n (map rc_value ps) r.value o.tree (length-map ps rc_value ∙ l ∙ sym (length-take-le i ns (omega (arith, slice_get_within ns i n o.there)))) o.node (ready_is o.tree w r.value h k) a))

-- ---- Both forms of a goal

pub goal_is : (g : Goal) (p a b : Part) (w : Work) → part_of p ≡ parts.Part.part (work_of w) false → work_of w ≡ parts.Work.two Operation.Ends (part_of a) (part_of b) → IsPartOf (Tree.formula g.stated) a → IsPartOf (Tree.formula g.found) b → IsGoalPart g p
goal_is g p a b w e f h k = record { asks = ap (λ m. next m ended) (ap asked e ∙ ap asked_by_work f ∙ ap₂ (λ m q. next m (λ x. next q (λ y. operated Operation.Ends x y))) h.asks k.asks) ∙ all_asked (evaluate g.stated) (evaluate g.found); ready = ready_unsure (part_of p) (work_of w) e (subst IsReadyWork (sym f) (h.ready, k.ready)) }
