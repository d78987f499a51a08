-- Occurrences of a variable, node by node.
use Rattle.std.proofs.Common.{◌⊎◌, inl, inr, ◌≡◌, ◌==◌, ◌||◌, ℕ, ◌<◌, ◌≤◌, ◌+◌, Bool, true, false, if◌then◌else◌, List, [], ◌∷◌, ◌++◌, Option, Some, None, length, get_or, length-append, refl, sym, ap, ap₂, subst, ◌∙◌, arith}
use Rattle.std.proofs.Math.Nat.{eq-or-lt_of_le}
use Rattle.std.proofs.Math.Seq.{get_or-append_seam}
use Rattle.std.proofs.lemmas.List.{get_or_append_left}
use Rattle.heylo_formula.specs.Formula.{Form, Cond}
use Rattle.heylo_formula.specs.Variables.{is_free, is_free_in, occurs, occurs_in}
use Rattle.heylo_graph.specs.Trees.{Tree, is_free_tree, occurs_tree}
use Rattle.heylo_graph.specs.declared.nodes.Node.{Node}
use Rattle.heylo_graph.specs.Nodes.{assembled, tree_at}
use Rattle.heylo_graph.specs.Parts.{first, second, third, variable_of, bound_by}
use Rattle.heylo_graph.specs.internal.Tables.{PartTree, is_marked, mark_over, AreMarked, PartIsMarked}
use Rattle.heylo_graph.proofs.PartTrees.{head_tree, first_tree, second_tree, third_tree, taken_apart}

-- The mark of a child's tree; false if there is no child.
abbrev Marked : (Tree → Bool) → Option Tree → Bool → Type 0
Marked f None b = b ≡ false
Marked f (Some u) b = b ≡ f u

or_nothing : (a : Bool) → (a || false) ≡ a
or_nothing true = refl
or_nothing false = refl

none : (p q r : Bool) → p ≡ false → q ≡ false → r ≡ false → (p || (q || r)) ≡ false
none p q r e f g = ap₂ (λ x y. x || y) e (ap₂ (λ x y. x || y) f g)

one : (a p q r : Bool) → p ≡ a → q ≡ false → r ≡ false → (p || (q || r)) ≡ a
one a p q r e f g = ap₂ (λ x y. x || y) e (ap₂ (λ x y. x || y) f g) ∙ or_nothing a

two : (a b p q r : Bool) → p ≡ a → q ≡ b → r ≡ false → (p || (q || r)) ≡ (a || b)
two a b p q r e f g = ap₂ (λ x y. x || y) e (ap₂ (λ x y. x || y) f g ∙ or_nothing b)

three : (a b c p q r : Bool) → p ≡ a → q ≡ b → r ≡ c → (p || (q || r)) ≡ (a || (b || c))
three a b c p q r e f g = ap₂ (λ x y. x || y) e (ap₂ (λ x y. x || y) f g)

outside : (b a p : Bool) → p ≡ a → (if b then false else p) ≡ (if b then false else a)
outside b a p e = ap (λ c. if b then false else c) e

-- A binder of the variable, or its body.
within : (b a p : Bool) → p ≡ a → (if b then true else p) ≡ (b || a)
within true a p e = refl
within false a p e = e

free_over : (x : ℕ) (t : Tree) (p q r : Bool) → Marked (is_free_tree x) (first_tree t) p → Marked (is_free_tree x) (second_tree t) q → Marked (is_free_tree x) (third_tree t) r → mark_over false x (variable_of (head_tree t)) (bound_by (head_tree t)) p q r ≡ is_free_tree x t
free_over x (Tree.formula (Form.number v)) p q r e f g = none p q r e f g
free_over x (Tree.formula (Form.variable w)) p q r e f g = refl
free_over x (Tree.formula (Form.sum k l)) p q r e f g = two (is_free x k) (is_free x l) p q r e f g
free_over x (Tree.formula (Form.difference k l)) p q r e f g = two (is_free x k) (is_free x l) p q r e f g
free_over x (Tree.formula (Form.cut k l)) p q r e f g = two (is_free x k) (is_free x l) p q r e f g
free_over x (Tree.formula (Form.scale w k)) p q r e f g = one (is_free x k) p q r e f g
free_over x (Tree.formula (Form.product k l span)) p q r e f g = two (is_free x k) (is_free x l) p q r e f g
free_over x (Tree.formula (Form.min k l)) p q r e f g = two (is_free x k) (is_free x l) p q r e f g
free_over x (Tree.formula (Form.max k l)) p q r e f g = two (is_free x k) (is_free x l) p q r e f g
free_over x (Tree.formula (Form.imply k l)) p q r e f g = two (is_free x k) (is_free x l) p q r e f g
free_over x (Tree.formula (Form.co_imply k l)) p q r e f g = two (is_free x k) (is_free x l) p q r e f g
free_over x (Tree.formula (Form.validate k)) p q r e f g = one (is_free x k) p q r e f g
free_over x (Tree.formula (Form.co_validate k)) p q r e f g = one (is_free x k) p q r e f g
free_over x (Tree.formula (Form.embed k)) p q r e f g = one (is_free_in x k) p q r e f g
free_over x (Tree.formula (Form.iverson k)) p q r e f g = one (is_free_in x k) p q r e f g
free_over x (Tree.formula (Form.select k l m)) p q r e f g = three (is_free_in x k) (is_free x l) (is_free x m) p q r e f g
free_over x (Tree.formula (Form.bind up w name ty k)) p q r e f g = outside (x == w) (is_free x k) p e
free_over x (Tree.condition (Cond.constant v)) p q r e f g = none p q r e f g
free_over x (Tree.condition (Cond.flag w)) p q r e f g = refl
free_over x (Tree.condition (Cond.not k)) p q r e f g = one (is_free_in x k) p q r e f g
free_over x (Tree.condition (Cond.and k l)) p q r e f g = two (is_free_in x k) (is_free_in x l) p q r e f g
free_over x (Tree.condition (Cond.or k l)) p q r e f g = two (is_free_in x k) (is_free_in x l) p q r e f g
free_over x (Tree.condition (Cond.same k l)) p q r e f g = two (is_free_in x k) (is_free_in x l) p q r e f g
free_over x (Tree.condition (Cond.le k l)) p q r e f g = two (is_free x k) (is_free x l) p q r e f g
free_over x (Tree.condition (Cond.lt k l)) p q r e f g = two (is_free x k) (is_free x l) p q r e f g
free_over x (Tree.condition (Cond.equal k l)) p q r e f g = two (is_free x k) (is_free x l) p q r e f g
free_over x (Tree.condition (Cond.ite k l m)) p q r e f g = three (is_free_in x k) (is_free_in x l) (is_free_in x m) p q r e f g

occurs_over : (x : ℕ) (t : Tree) (p q r : Bool) → Marked (occurs_tree x) (first_tree t) p → Marked (occurs_tree x) (second_tree t) q → Marked (occurs_tree x) (third_tree t) r → mark_over true x (variable_of (head_tree t)) (bound_by (head_tree t)) p q r ≡ occurs_tree x t
occurs_over x (Tree.formula (Form.number v)) p q r e f g = none p q r e f g
occurs_over x (Tree.formula (Form.variable w)) p q r e f g = refl
occurs_over x (Tree.formula (Form.sum k l)) p q r e f g = two (occurs x k) (occurs x l) p q r e f g
occurs_over x (Tree.formula (Form.difference k l)) p q r e f g = two (occurs x k) (occurs x l) p q r e f g
occurs_over x (Tree.formula (Form.cut k l)) p q r e f g = two (occurs x k) (occurs x l) p q r e f g
occurs_over x (Tree.formula (Form.scale w k)) p q r e f g = one (occurs x k) p q r e f g
occurs_over x (Tree.formula (Form.product k l span)) p q r e f g = two (occurs x k) (occurs x l) p q r e f g
occurs_over x (Tree.formula (Form.min k l)) p q r e f g = two (occurs x k) (occurs x l) p q r e f g
occurs_over x (Tree.formula (Form.max k l)) p q r e f g = two (occurs x k) (occurs x l) p q r e f g
occurs_over x (Tree.formula (Form.imply k l)) p q r e f g = two (occurs x k) (occurs x l) p q r e f g
occurs_over x (Tree.formula (Form.co_imply k l)) p q r e f g = two (occurs x k) (occurs x l) p q r e f g
occurs_over x (Tree.formula (Form.validate k)) p q r e f g = one (occurs x k) p q r e f g
occurs_over x (Tree.formula (Form.co_validate k)) p q r e f g = one (occurs x k) p q r e f g
occurs_over x (Tree.formula (Form.embed k)) p q r e f g = one (occurs_in x k) p q r e f g
occurs_over x (Tree.formula (Form.iverson k)) p q r e f g = one (occurs_in x k) p q r e f g
occurs_over x (Tree.formula (Form.select k l m)) p q r e f g = three (occurs_in x k) (occurs x l) (occurs x m) p q r e f g
occurs_over x (Tree.formula (Form.bind up w name ty k)) p q r e f g = within (x == w) (occurs x k) p e
occurs_over x (Tree.condition (Cond.constant v)) p q r e f g = none p q r e f g
occurs_over x (Tree.condition (Cond.flag w)) p q r e f g = refl
occurs_over x (Tree.condition (Cond.not k)) p q r e f g = one (occurs_in x k) p q r e f g
occurs_over x (Tree.condition (Cond.and k l)) p q r e f g = two (occurs_in x k) (occurs_in x l) p q r e f g
occurs_over x (Tree.condition (Cond.or k l)) p q r e f g = two (occurs_in x k) (occurs_in x l) p q r e f g
occurs_over x (Tree.condition (Cond.same k l)) p q r e f g = two (occurs_in x k) (occurs_in x l) p q r e f g
occurs_over x (Tree.condition (Cond.le k l)) p q r e f g = two (occurs x k) (occurs x l) p q r e f g
occurs_over x (Tree.condition (Cond.lt k l)) p q r e f g = two (occurs x k) (occurs x l) p q r e f g
occurs_over x (Tree.condition (Cond.equal k l)) p q r e f g = two (occurs x k) (occurs x l) p q r e f g
occurs_over x (Tree.condition (Cond.ite k l m)) p q r e f g = three (occurs_in x k) (occurs_in x l) (occurs_in x m) p q r e f g

marked_over : (binders : Bool) (x : ℕ) (t : Tree) (p q r : Bool) → Marked (is_marked binders x) (first_tree t) p → Marked (is_marked binders x) (second_tree t) q → Marked (is_marked binders x) (third_tree t) r → mark_over binders x (variable_of (head_tree t)) (bound_by (head_tree t)) p q r ≡ is_marked binders x t
marked_over true x t p q r e f g = occurs_over x t p q r e f g
marked_over false x t p q r e f g = free_over x t p q r e f g

-- The right mark of a child's tree; false if there is no child.
abbrev pub marked_part : Bool → ℕ → Option Tree → Bool
marked_part binders x None = false
marked_part binders x (Some u) = is_marked binders x u

of_part : (binders : Bool) (x : ℕ) (u : Option Tree) → Marked (is_marked binders x) u (marked_part binders x u)
of_part binders x None = refl
of_part binders x (Some u) = refl

pub part_marked : (binders : Bool) (x : ℕ) (ns : List Node) (p : Option ℕ) (u : Option Tree) (b : Bool) → PartTree (tree_at ns) p u → PartIsMarked binders x ns p b → b ≡ marked_part binders x u
part_marked binders x ns None None b h k = k
part_marked binders x ns None (Some u) b h k = absurd h
part_marked binders x ns (Some p) None b h k = absurd h
part_marked binders x ns (Some p) (Some u) b h k = k u h

-- The mark of a node's tree follows from those of its children.
pub marks_of_parts : (binders : Bool) (x : ℕ) (at : ℕ → Option Tree) (n : Node) (t : Tree) → assembled at n ≡ Some t → mark_over binders x (variable_of n) (bound_by n) (marked_part binders x (first_tree t)) (marked_part binders x (second_tree t)) (marked_part binders x (third_tree t)) ≡ is_marked binders x t
marks_of_parts binders x at n t h =
    let k = taken_apart at n t h in
    ap₂ (λ v b. mark_over binders x v b (marked_part binders x (first_tree t)) (marked_part binders x (second_tree t)) (marked_part binders x (third_tree t))) k.variable k.bound
    ∙ marked_over binders x t _ _ _ (of_part binders x (first_tree t)) (of_part binders x (second_tree t)) (of_part binders x (third_tree t))

pub mark_of_variable : (binders : Bool) (x y : ℕ) (at : ℕ → Option Tree) (n : Node) (t : Tree) → variable_of n ≡ Some y → assembled at n ≡ Some t → (x == y) ≡ is_marked binders x t
mark_of_variable binders x y at n t e h = sym (ap (λ v. mark_over binders x v (bound_by n) (marked_part binders x (first_tree t)) (marked_part binders x (second_tree t)) (marked_part binders x (third_tree t))) e) ∙ marks_of_parts binders x at n t h

pub mark_of_binder : (binders : Bool) (x y : ℕ) (at : ℕ → Option Tree) (n : Node) (t : Tree) → variable_of n ≡ None → bound_by n ≡ Some y → assembled at n ≡ Some t → (if x == y then binders else marked_part binders x (first_tree t)) ≡ is_marked binders x t
mark_of_binder binders x y at n t e f h = sym (ap₂ (λ v b. mark_over binders x v b (marked_part binders x (first_tree t)) (marked_part binders x (second_tree t)) (marked_part binders x (third_tree t))) e f) ∙ marks_of_parts binders x at n t h

pub mark_of_other : (binders : Bool) (x : ℕ) (at : ℕ → Option Tree) (n : Node) (t : Tree) → variable_of n ≡ None → bound_by n ≡ None → assembled at n ≡ Some t → (marked_part binders x (first_tree t) || (marked_part binders x (second_tree t) || marked_part binders x (third_tree t))) ≡ is_marked binders x t
mark_of_other binders x at n t e f h = sym (ap₂ (λ v b. mark_over binders x v b (marked_part binders x (first_tree t)) (marked_part binders x (second_tree t)) (marked_part binders x (third_tree t))) e f) ∙ marks_of_parts binders x at n t h

pub marked_further : (binders : Bool) (x : ℕ) (ns : List Node) (table now : List Bool) (b : Bool) (i : ℕ) → length table ≡ i → now ≡ table ++ b ∷ [] → AreMarked binders x ns table → ((t : Tree) → tree_at ns i ≡ Some t → b ≡ is_marked binders x t) → AreMarked binders x ns now
marked_further binders x ns table now b i e w f s = subst (AreMarked binders x ns) (sym w) (record { each = λ j u h k. go j u k (eq-or-lt_of_le (at_most j h)) })
  where
    at_most : (j : ℕ) → j < length (table ++ b ∷ []) → j ≤ length table
    at_most j h = omega (arith, h, length-append table (b ∷ []))

    go : (j : ℕ) (u : Tree) → tree_at ns j ≡ Some u → (j ≡ length table) ⊎ (j < length table) → get_or (table ++ b ∷ []) j false ≡ is_marked binders x u
    go j u k (inl q) = ap (λ m. get_or (table ++ b ∷ []) m false) q ∙ get_or-append_seam table b [] false ∙ s u (subst (λ m. tree_at ns m ≡ Some u) (q ∙ e) k)
    go j u k (inr l) = get_or_append_left table (b ∷ []) false j l ∙ f.each j u l k

pub counted_marks : (table now : List Bool) (b : Bool) (i : ℕ) → length table ≡ i → now ≡ table ++ b ∷ [] → length now ≡ i + 1
counted_marks table now b i e w = ap length w ∙ length-append table (b ∷ []) ∙ omega (arith, e)
