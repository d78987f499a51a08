-- Substitution node by node.
use Rattle.std.proofs.Common.{◌≡◌, ◌==◌, ◌&&◌, ℕ, Bool, true, false, cond, List, slice_get, Option, Some, None, sym, ap, ap₂, subst, ◌∙◌, arith}
use Rattle.heyvl_num.specs.Rational.{Rational}
use Rattle.heyvl_num.specs.Value.{Value}
use Rattle.heyvl_places.specs.declared.spans.Span.{Span}
use Rattle.heylo_formula.specs.declared.types.Ty.{Ty}
use Rattle.heylo_formula.specs.Formula.{Form, Cond, Term}
use Rattle.heylo_graph.specs.declared.nodes.Node.{Node}
use Rattle.heylo_graph.specs.Nodes.{as_form, a_form, a_cond, with, assembled, tree_at, IsGraph, Stands, Begins}
use Rattle.heylo_graph.specs.Parts.{first, second, third, with_parts, variable_of, bound_by, binder_of, is_flag, with_binder}
use Rattle.heylo_graph.specs.internal.Tables.{Moves, PartMoves}
use Rattle.heylo_formula.specs.Variables.{is_free, occurs_in_term}
use Rattle.heylo_formula.specs.Substitution as Put
use Rattle.heylo_formula.specs.Substitution.{renamed, fresh}
use Rattle.heylo_formula.proofs.exported.Substitutions.{kept_subst, kept_subst_in, substitutions}
use Rattle.heyvl_num.specs.ExtendedNumbers.{value_of}
use Rattle.heylo_graph.specs.Trees.{Tree, is_free_tree, subst_tree}
use Rattle.heylo_graph.specs.internal.Tables.{IsCalm, put_tree}
use Rattle.heylo_graph.proofs.PartTrees.{form_part}
use Rattle.heylo_graph.proofs.ChangedParts.{form_moved, cond_moved, lifted, asked}
use Rattle.heylo_graph.proofs.NodeMoves.{AllMoved, IsChanged, tree_here, same_before}
use Rattle.heylo_graph.proofs.Trees.{stands_longer, stands_assembled}
use Rattle.std.specs.Prelude.{Result, Ok, Err, IfOk}
use Rattle.std.proofs.lemmas.Option.{slice_get_within}
use Rattle.heylo_graph.proofs.RenamedNodes.{unbound}

-- A substitution in each kind of leaf and node.

subst_number : (x : ℕ) (s : Term) (v : Value) → Put.subst x s (Form.number v) ≡ Form.number v
subst_number x s v = search substitutions

subst_variable : (x : ℕ) (s : Term) (w : ℕ) → Put.subst x s (Form.variable w) ≡ cond (x == w) (Put.as_form s) (Form.variable w)
subst_variable x s w = search substitutions

subst_sum : (x : ℕ) (s : Term) (k : Form) (l : Form) → Put.subst x s (Form.sum k l) ≡ Form.sum (Put.subst x s k) (Put.subst x s l)
subst_sum x s k l = search substitutions

subst_difference : (x : ℕ) (s : Term) (k : Form) (l : Form) → Put.subst x s (Form.difference k l) ≡ Form.difference (Put.subst x s k) (Put.subst x s l)
subst_difference x s k l = search substitutions

subst_cut : (x : ℕ) (s : Term) (k : Form) (l : Form) → Put.subst x s (Form.cut k l) ≡ Form.cut (Put.subst x s k) (Put.subst x s l)
subst_cut x s k l = search substitutions

subst_scale : (x : ℕ) (s : Term) (w : Rational) (k : Form) → Put.subst x s (Form.scale w k) ≡ Form.scale w (Put.subst x s k)
subst_scale x s w k = search substitutions

subst_product : (x : ℕ) (s : Term) (k : Form) (l : Form) (span : Span) → Put.subst x s (Form.product k l span) ≡ Form.product (Put.subst x s k) (Put.subst x s l) span
subst_product x s k l span = search substitutions

subst_min : (x : ℕ) (s : Term) (k : Form) (l : Form) → Put.subst x s (Form.min k l) ≡ Form.min (Put.subst x s k) (Put.subst x s l)
subst_min x s k l = search substitutions

subst_max : (x : ℕ) (s : Term) (k : Form) (l : Form) → Put.subst x s (Form.max k l) ≡ Form.max (Put.subst x s k) (Put.subst x s l)
subst_max x s k l = search substitutions

subst_imply : (x : ℕ) (s : Term) (k : Form) (l : Form) → Put.subst x s (Form.imply k l) ≡ Form.imply (Put.subst x s k) (Put.subst x s l)
subst_imply x s k l = search substitutions

subst_co_imply : (x : ℕ) (s : Term) (k : Form) (l : Form) → Put.subst x s (Form.co_imply k l) ≡ Form.co_imply (Put.subst x s k) (Put.subst x s l)
subst_co_imply x s k l = search substitutions

subst_validate : (x : ℕ) (s : Term) (k : Form) → Put.subst x s (Form.validate k) ≡ Form.validate (Put.subst x s k)
subst_validate x s k = search substitutions

subst_co_validate : (x : ℕ) (s : Term) (k : Form) → Put.subst x s (Form.co_validate k) ≡ Form.co_validate (Put.subst x s k)
subst_co_validate x s k = search substitutions

subst_embed : (x : ℕ) (s : Term) (k : Cond) → Put.subst x s (Form.embed k) ≡ Form.embed (Put.subst_in x s k)
subst_embed x s k = search substitutions

subst_iverson : (x : ℕ) (s : Term) (k : Cond) → Put.subst x s (Form.iverson k) ≡ Form.iverson (Put.subst_in x s k)
subst_iverson x s k = search substitutions

subst_select : (x : ℕ) (s : Term) (k : Cond) (l : Form) (m : Form) → Put.subst x s (Form.select k l m) ≡ Form.select (Put.subst_in x s k) (Put.subst x s l) (Put.subst x s m)
subst_select x s k l m = search substitutions

subst_bind : (x : ℕ) (s : Term) (up : Bool) (w : ℕ) (name : ℕ) (ty : Ty) (k : Form) → Put.subst x s (Form.bind up w name ty k) ≡ cond (x == w) (Form.bind up w name ty k) (cond (occurs_in_term w s && is_free x k) (Form.bind up (fresh k s) name ty (Put.subst x s (renamed w (fresh k s) k))) (Form.bind up w name ty (Put.subst x s k)))
subst_bind x s up w name ty k = search substitutions

subst_in_constant : (x : ℕ) (s : Term) (v : Bool) → Put.subst_in x s (Cond.constant v) ≡ Cond.constant v
subst_in_constant x s v = search substitutions

subst_in_flag : (x : ℕ) (s : Term) (w : ℕ) → Put.subst_in x s (Cond.flag w) ≡ cond (x == w) (Put.as_cond s) (Cond.flag w)
subst_in_flag x s w = search substitutions

subst_in_not : (x : ℕ) (s : Term) (k : Cond) → Put.subst_in x s (Cond.not k) ≡ Cond.not (Put.subst_in x s k)
subst_in_not x s k = search substitutions

subst_in_and : (x : ℕ) (s : Term) (k : Cond) (l : Cond) → Put.subst_in x s (Cond.and k l) ≡ Cond.and (Put.subst_in x s k) (Put.subst_in x s l)
subst_in_and x s k l = search substitutions

subst_in_or : (x : ℕ) (s : Term) (k : Cond) (l : Cond) → Put.subst_in x s (Cond.or k l) ≡ Cond.or (Put.subst_in x s k) (Put.subst_in x s l)
subst_in_or x s k l = search substitutions

subst_in_same : (x : ℕ) (s : Term) (k : Cond) (l : Cond) → Put.subst_in x s (Cond.same k l) ≡ Cond.same (Put.subst_in x s k) (Put.subst_in x s l)
subst_in_same x s k l = search substitutions

subst_in_le : (x : ℕ) (s : Term) (k : Form) (l : Form) → Put.subst_in x s (Cond.le k l) ≡ Cond.le (Put.subst x s k) (Put.subst x s l)
subst_in_le x s k l = search substitutions

subst_in_lt : (x : ℕ) (s : Term) (k : Form) (l : Form) → Put.subst_in x s (Cond.lt k l) ≡ Cond.lt (Put.subst x s k) (Put.subst x s l)
subst_in_lt x s k l = search substitutions

subst_in_equal : (x : ℕ) (s : Term) (k : Form) (l : Form) → Put.subst_in x s (Cond.equal k l) ≡ Cond.equal (Put.subst x s k) (Put.subst x s l)
subst_in_equal x s k l = search substitutions

subst_in_ite : (x : ℕ) (s : Term) (k : Cond) (l : Cond) (m : Cond) → Put.subst_in x s (Cond.ite k l m) ≡ Cond.ite (Put.subst_in x s k) (Put.subst_in x s l) (Put.subst_in x s m)
subst_in_ite x s k l m = search substitutions

pub subst_kept : (x : ℕ) (s : Term) (t : Tree) → is_free_tree x t ≡ false → subst_tree x s t ≡ t
subst_kept x s (Tree.formula f) h = ap Tree.formula (kept_subst x s f h)
subst_kept x s (Tree.condition g) h = ap Tree.condition (kept_subst_in x s g h)

-- The node of the result is that of its tree.
form_by : (x : ℕ) (s : Term) (f k : Form) (t : Tree) → Put.subst x s f ≡ k → a_form f ≡ Some t → a_form k ≡ Some (subst_tree x s t)
form_by x s f k t e h = ap a_form (sym e) ∙ ap (lifted (subst_tree x s)) h

cond_by : (x : ℕ) (s : Term) (f k : Cond) (t : Tree) → Put.subst_in x s f ≡ k → a_cond f ≡ Some t → a_cond k ≡ Some (subst_tree x s t)
cond_by x s f k t e h = ap a_cond (sym e) ∙ ap (lifted (subst_tree x s)) h

bound_put : (x : ℕ) (s : Term) (up : Bool) (w name : ℕ) (ty : _) (k : Form) (t : Tree) → occurs_in_term w s ≡ false → is_free_tree x t ≡ true → a_form (Form.bind up w name ty k) ≡ Some t → a_form (Form.bind up w name ty (Put.subst x s k)) ≡ Some (subst_tree x s t)
bound_put x s up w name ty k t o f e =
    let n = (unbound (x == w) (is_free x k) (ap (asked (is_free_tree x)) e ∙ f)).0 in
    form_by x s (Form.bind up w name ty k) (Form.bind up w name ty (Put.subst x s k)) t (subst_bind x s up w name ty k ∙ ap₂ (λ b c. cond b (Form.bind up w name ty k) (cond (c && is_free x k) (Form.bind up (fresh k s) name ty (Put.subst x s (renamed w (fresh k s) k))) (Form.bind up w name ty (Put.subst x s k)))) n o) e

-- A binder that captures takes a fresh variable.
pub captured_put : (x : ℕ) (s : Term) (up : Bool) (w name : ℕ) (ty : _) (k : Form) (t : Tree) → occurs_in_term w s ≡ true → is_free_tree x t ≡ true → a_form (Form.bind up w name ty k) ≡ Some t → a_form (Form.bind up (fresh k s) name ty (Put.subst x s (renamed w (fresh k s) k))) ≡ Some (subst_tree x s t)
captured_put x s up w name ty k t o f e =
    let n = unbound (x == w) (is_free x k) (ap (asked (is_free_tree x)) e ∙ f) in
    form_by x s (Form.bind up w name ty k) (Form.bind up (fresh k s) name ty (Put.subst x s (renamed w (fresh k s) k))) t (subst_bind x s up w name ty k ∙ ap₂ (λ b c. cond b (Form.bind up w name ty k) (cond c (Form.bind up (fresh k s) name ty (Put.subst x s (renamed w (fresh k s) k))) (Form.bind up w name ty (Put.subst x s k)))) n.0 (ap₂ (λ c d. c && d) o n.1)) e

pub subst_over : (x : ℕ) (s : Term) (ns : List Node) (n : Node) (p q r : ℕ) (t : Tree) → variable_of n ≡ None → IsCalm s (bound_by n) → is_free_tree x t ≡ true → PartMoves (subst_tree x s) ns (first n) p → PartMoves (subst_tree x s) ns (second n) q → PartMoves (subst_tree x s) ns (third n) r → assembled (tree_at ns) n ≡ Some t → assembled (tree_at ns) (with_parts n p q r) ≡ Some (subst_tree x s t)
subst_over x s ns (Node.Const v) p q r t o g f i j d h = form_by x s (Form.number (value_of v)) (Form.number (value_of v)) t (subst_number x s (value_of v)) h
subst_over x s ns (Node.Var w) p q r t o g f i j d h = absurd (cc)
subst_over x s ns (Node.Sum a b) p q r t o g f i j d h = form_moved (Put.subst x s) (Put.subst_in x s) ns a p _ _ t _ i (λ k. form_moved (Put.subst x s) (Put.subst_in x s) ns b q _ _ t _ j (λ l e. form_by x s (Form.sum k l) (Form.sum (Put.subst x s k) (Put.subst x s l)) t (subst_sum x s k l) e)) h
subst_over x s ns (Node.Diff a b) p q r t o g f i j d h = form_moved (Put.subst x s) (Put.subst_in x s) ns a p _ _ t _ i (λ k. form_moved (Put.subst x s) (Put.subst_in x s) ns b q _ _ t _ j (λ l e. form_by x s (Form.difference k l) (Form.difference (Put.subst x s k) (Put.subst x s l)) t (subst_difference x s k l) e)) h
subst_over x s ns (Node.Cut a b) p q r t o g f i j d h = form_moved (Put.subst x s) (Put.subst_in x s) ns a p _ _ t _ i (λ k. form_moved (Put.subst x s) (Put.subst_in x s) ns b q _ _ t _ j (λ l e. form_by x s (Form.cut k l) (Form.cut (Put.subst x s k) (Put.subst x s l)) t (subst_cut x s k l) e)) h
subst_over x s ns (Node.Scale w a) p q r t o g f i j d h = form_moved (Put.subst x s) (Put.subst_in x s) ns a p _ _ t _ i (λ k e. form_by x s (Form.scale w k) (Form.scale w (Put.subst x s k)) t (subst_scale x s w k) e) h
subst_over x s ns (Node.Product a b span) p q r t o g f i j d h = form_moved (Put.subst x s) (Put.subst_in x s) ns a p _ _ t _ i (λ k. form_moved (Put.subst x s) (Put.subst_in x s) ns b q _ _ t _ j (λ l e. form_by x s (Form.product k l span) (Form.product (Put.subst x s k) (Put.subst x s l) span) t (subst_product x s k l span) e)) h
subst_over x s ns (Node.Min a b) p q r t o g f i j d h = form_moved (Put.subst x s) (Put.subst_in x s) ns a p _ _ t _ i (λ k. form_moved (Put.subst x s) (Put.subst_in x s) ns b q _ _ t _ j (λ l e. form_by x s (Form.min k l) (Form.min (Put.subst x s k) (Put.subst x s l)) t (subst_min x s k l) e)) h
subst_over x s ns (Node.Max a b) p q r t o g f i j d h = form_moved (Put.subst x s) (Put.subst_in x s) ns a p _ _ t _ i (λ k. form_moved (Put.subst x s) (Put.subst_in x s) ns b q _ _ t _ j (λ l e. form_by x s (Form.max k l) (Form.max (Put.subst x s k) (Put.subst x s l)) t (subst_max x s k l) e)) h
subst_over x s ns (Node.Imply a b) p q r t o g f i j d h = form_moved (Put.subst x s) (Put.subst_in x s) ns a p _ _ t _ i (λ k. form_moved (Put.subst x s) (Put.subst_in x s) ns b q _ _ t _ j (λ l e. form_by x s (Form.imply k l) (Form.imply (Put.subst x s k) (Put.subst x s l)) t (subst_imply x s k l) e)) h
subst_over x s ns (Node.CoImply a b) p q r t o g f i j d h = form_moved (Put.subst x s) (Put.subst_in x s) ns a p _ _ t _ i (λ k. form_moved (Put.subst x s) (Put.subst_in x s) ns b q _ _ t _ j (λ l e. form_by x s (Form.co_imply k l) (Form.co_imply (Put.subst x s k) (Put.subst x s l)) t (subst_co_imply x s k l) e)) h
subst_over x s ns (Node.Validate a) p q r t o g f i j d h = form_moved (Put.subst x s) (Put.subst_in x s) ns a p _ _ t _ i (λ k e. form_by x s (Form.validate k) (Form.validate (Put.subst x s k)) t (subst_validate x s k) e) h
subst_over x s ns (Node.CoValidate a) p q r t o g f i j d h = form_moved (Put.subst x s) (Put.subst_in x s) ns a p _ _ t _ i (λ k e. form_by x s (Form.co_validate k) (Form.co_validate (Put.subst x s k)) t (subst_co_validate x s k) e) h
subst_over x s ns (Node.Embed a) p q r t o g f i j d h = cond_moved (Put.subst x s) (Put.subst_in x s) ns a p _ _ t _ i (λ k e. form_by x s (Form.embed k) (Form.embed (Put.subst_in x s k)) t (subst_embed x s k) e) h
subst_over x s ns (Node.Iverson a) p q r t o g f i j d h = cond_moved (Put.subst x s) (Put.subst_in x s) ns a p _ _ t _ i (λ k e. form_by x s (Form.iverson k) (Form.iverson (Put.subst_in x s k)) t (subst_iverson x s k) e) h
subst_over x s ns (Node.Select a b c) p q r t o g f i j d h = cond_moved (Put.subst x s) (Put.subst_in x s) ns a p _ _ t _ i (λ k. form_moved (Put.subst x s) (Put.subst_in x s) ns b q _ _ t _ j (λ l. form_moved (Put.subst x s) (Put.subst_in x s) ns c r _ _ t _ d (λ m e. form_by x s (Form.select k l m) (Form.select (Put.subst_in x s k) (Put.subst x s l) (Put.subst x s m)) t (subst_select x s k l m) e))) h
subst_over x s ns (Node.Bind up w name ty a) p q r t o g f i j d h = form_moved (Put.subst x s) (Put.subst_in x s) ns a p _ _ t _ i (λ k e. bound_put x s up w name ty k t g f e) h
subst_over x s ns (Node.Truth v) p q r t o g f i j d h = cond_by x s (Cond.constant v) (Cond.constant v) t (subst_in_constant x s v) h
subst_over x s ns (Node.Flag w) p q r t o g f i j d h = absurd (cc)
subst_over x s ns (Node.Not a) p q r t o g f i j d h = cond_moved (Put.subst x s) (Put.subst_in x s) ns a p _ _ t _ i (λ k e. cond_by x s (Cond.not k) (Cond.not (Put.subst_in x s k)) t (subst_in_not x s k) e) h
subst_over x s ns (Node.And a b) p q r t o g f i j d h = cond_moved (Put.subst x s) (Put.subst_in x s) ns a p _ _ t _ i (λ k. cond_moved (Put.subst x s) (Put.subst_in x s) ns b q _ _ t _ j (λ l e. cond_by x s (Cond.and k l) (Cond.and (Put.subst_in x s k) (Put.subst_in x s l)) t (subst_in_and x s k l) e)) h
subst_over x s ns (Node.Or a b) p q r t o g f i j d h = cond_moved (Put.subst x s) (Put.subst_in x s) ns a p _ _ t _ i (λ k. cond_moved (Put.subst x s) (Put.subst_in x s) ns b q _ _ t _ j (λ l e. cond_by x s (Cond.or k l) (Cond.or (Put.subst_in x s k) (Put.subst_in x s l)) t (subst_in_or x s k l) e)) h
subst_over x s ns (Node.Same a b) p q r t o g f i j d h = cond_moved (Put.subst x s) (Put.subst_in x s) ns a p _ _ t _ i (λ k. cond_moved (Put.subst x s) (Put.subst_in x s) ns b q _ _ t _ j (λ l e. cond_by x s (Cond.same k l) (Cond.same (Put.subst_in x s k) (Put.subst_in x s l)) t (subst_in_same x s k l) e)) h
subst_over x s ns (Node.Le a b) p q r t o g f i j d h = form_moved (Put.subst x s) (Put.subst_in x s) ns a p _ _ t _ i (λ k. form_moved (Put.subst x s) (Put.subst_in x s) ns b q _ _ t _ j (λ l e. cond_by x s (Cond.le k l) (Cond.le (Put.subst x s k) (Put.subst x s l)) t (subst_in_le x s k l) e)) h
subst_over x s ns (Node.Lt a b) p q r t o g f i j d h = form_moved (Put.subst x s) (Put.subst_in x s) ns a p _ _ t _ i (λ k. form_moved (Put.subst x s) (Put.subst_in x s) ns b q _ _ t _ j (λ l e. cond_by x s (Cond.lt k l) (Cond.lt (Put.subst x s k) (Put.subst x s l)) t (subst_in_lt x s k l) e)) h
subst_over x s ns (Node.EqNum a b) p q r t o g f i j d h = form_moved (Put.subst x s) (Put.subst_in x s) ns a p _ _ t _ i (λ k. form_moved (Put.subst x s) (Put.subst_in x s) ns b q _ _ t _ j (λ l e. cond_by x s (Cond.equal k l) (Cond.equal (Put.subst x s k) (Put.subst x s l)) t (subst_in_equal x s k l) e)) h
subst_over x s ns (Node.Ite a b c) p q r t o g f i j d h = cond_moved (Put.subst x s) (Put.subst_in x s) ns a p _ _ t _ i (λ k. cond_moved (Put.subst x s) (Put.subst_in x s) ns b q _ _ t _ j (λ l. cond_moved (Put.subst x s) (Put.subst_in x s) ns c r _ _ t _ d (λ m e. cond_by x s (Cond.ite k l m) (Cond.ite (Put.subst_in x s k) (Put.subst_in x s l) (Put.subst_in x s m)) t (subst_in_ite x s k l m) e))) h

true_equal : (x w : ℕ) → (x == w) ≡ true → x ≡ w
true_equal x w h = grind arith

own_number : (x : ℕ) (s : Term) (w : ℕ) (t : Tree) → is_free_tree x t ≡ true → a_form (Form.variable w) ≡ Some t → a_form (Put.as_form s) ≡ Some (subst_tree x s t)
own_number x s w t f h = form_by x s (Form.variable w) (Put.as_form s) t (subst_variable x s w ∙ ap (λ b. cond b (Put.as_form s) (Form.variable w)) (ap (asked (is_free_tree x)) h ∙ f)) h

own_flag : (x : ℕ) (s : Term) (w : ℕ) (t : Tree) → is_free_tree x t ≡ true → a_cond (Cond.flag w) ≡ Some t → a_cond (Put.as_cond s) ≡ Some (subst_tree x s t)
own_flag x s w t f h = cond_by x s (Cond.flag w) (Put.as_cond s) t (subst_in_flag x s w ∙ ap (λ b. cond b (Put.as_cond s) (Cond.flag w)) (ap (asked (is_free_tree x)) h ∙ f)) h

-- The tree that replaces the variable itself.
pub subst_own : (x : ℕ) (s : Term) (ns : List Node) (n : Node) (w : ℕ) (t : Tree) → variable_of n ≡ Some w → is_free_tree x t ≡ true → assembled (tree_at ns) n ≡ Some t → Some (put_tree (is_flag n) s) ≡ Some (subst_tree x s t)
subst_own x s ns (Node.Const v) y t o f h = absurd (cc)
subst_own x s ns (Node.Var w) y t o f h = own_number x s w t f h
subst_own x s ns (Node.Sum a b) y t o f h = absurd (cc)
subst_own x s ns (Node.Diff a b) y t o f h = absurd (cc)
subst_own x s ns (Node.Cut a b) y t o f h = absurd (cc)
subst_own x s ns (Node.Scale w a) y t o f h = absurd (cc)
subst_own x s ns (Node.Product a b span) y t o f h = absurd (cc)
subst_own x s ns (Node.Min a b) y t o f h = absurd (cc)
subst_own x s ns (Node.Max a b) y t o f h = absurd (cc)
subst_own x s ns (Node.Imply a b) y t o f h = absurd (cc)
subst_own x s ns (Node.CoImply a b) y t o f h = absurd (cc)
subst_own x s ns (Node.Validate a) y t o f h = absurd (cc)
subst_own x s ns (Node.CoValidate a) y t o f h = absurd (cc)
subst_own x s ns (Node.Embed a) y t o f h = absurd (cc)
subst_own x s ns (Node.Iverson a) y t o f h = absurd (cc)
subst_own x s ns (Node.Select a b c) y t o f h = absurd (cc)
subst_own x s ns (Node.Bind up w name ty a) y t o f h = absurd (cc)
subst_own x s ns (Node.Truth v) y t o f h = absurd (cc)
subst_own x s ns (Node.Flag w) y t o f h = own_flag x s w t f h
subst_own x s ns (Node.Not a) y t o f h = absurd (cc)
subst_own x s ns (Node.And a b) y t o f h = absurd (cc)
subst_own x s ns (Node.Or a b) y t o f h = absurd (cc)
subst_own x s ns (Node.Same a b) y t o f h = absurd (cc)
subst_own x s ns (Node.Le a b) y t o f h = absurd (cc)
subst_own x s ns (Node.Lt a b) y t o f h = absurd (cc)
subst_own x s ns (Node.EqNum a b) y t o f h = absurd (cc)
subst_own x s ns (Node.Ite a b c) y t o f h = absurd (cc)

-- The body of a binder, and its tree.
pub record BinderBody (at : ℕ → Option Tree) (w a : ℕ) (t : Tree) : Type 0 where
  pub up : Bool
  pub name : ℕ
  pub ty : Ty
  pub form : Form
  pub there : at a ≡ Some (Tree.formula form)
  pub whole : a_form (Form.bind up w name ty form) ≡ Some t

abbrev number_in : Option (ℕ × ℕ) → ℕ
number_in (Some p) = p.0
number_in None = 0

abbrev body_in : Option (ℕ × ℕ) → ℕ
body_in (Some p) = p.1
body_in None = 0

pair_number : (w a x b : ℕ) → ◌≡◌ {A = Option (ℕ × ℕ)} (Some (w, a)) (Some (x, b)) → w ≡ x
pair_number w a x b e = ap number_in e

pair_body : (w a x b : ℕ) → ◌≡◌ {A = Option (ℕ × ℕ)} (Some (w, a)) (Some (x, b)) → a ≡ b
pair_body w a x b e = ap body_in e

binder_same : (at : ℕ → Option Tree) (w a x b : ℕ) (t : Tree) → BinderBody at w a t → ◌≡◌ {A = Option (ℕ × ℕ)} (Some (w, a)) (Some (x, b)) → BinderBody at x b t
binder_same at w a x b t h e = subst (λ y. BinderBody at y b t) (pair_number w a x b e) (subst (λ d. BinderBody at w d t) (pair_body w a x b e) h)

pub binder_body : (at : ℕ → Option Tree) (n : Node) (x b : ℕ) (t : Tree) → binder_of n ≡ Some (x, b) → assembled at n ≡ Some t → BinderBody at x b t
binder_body at (Node.Const v) x d t e h = absurd (cc)
binder_body at (Node.Var w) x d t e h = absurd (cc)
binder_body at (Node.Sum a b) x d t e h = absurd (cc)
binder_body at (Node.Diff a b) x d t e h = absurd (cc)
binder_body at (Node.Cut a b) x d t e h = absurd (cc)
binder_body at (Node.Scale w a) x d t e h = absurd (cc)
binder_body at (Node.Product a b span) x d t e h = absurd (cc)
binder_body at (Node.Min a b) x d t e h = absurd (cc)
binder_body at (Node.Max a b) x d t e h = absurd (cc)
binder_body at (Node.Imply a b) x d t e h = absurd (cc)
binder_body at (Node.CoImply a b) x d t e h = absurd (cc)
binder_body at (Node.Validate a) x d t e h = absurd (cc)
binder_body at (Node.CoValidate a) x d t e h = absurd (cc)
binder_body at (Node.Embed a) x d t e h = absurd (cc)
binder_body at (Node.Iverson a) x d t e h = absurd (cc)
binder_body at (Node.Select a b c) x d t e h = absurd (cc)
binder_body at (Node.Bind up w name ty a) x d t e h = let p = form_part at a _ t h in binder_same at w a x d t (record { up = up; name = name; ty = ty; form = p.form; there = p.there; whole = p.rest }) e
binder_body at (Node.Truth v) x d t e h = absurd (cc)
binder_body at (Node.Flag w) x d t e h = absurd (cc)
binder_body at (Node.Not a) x d t e h = absurd (cc)
binder_body at (Node.And a b) x d t e h = absurd (cc)
binder_body at (Node.Or a b) x d t e h = absurd (cc)
binder_body at (Node.Same a b) x d t e h = absurd (cc)
binder_body at (Node.Le a b) x d t e h = absurd (cc)
binder_body at (Node.Lt a b) x d t e h = absurd (cc)
binder_body at (Node.EqNum a b) x d t e h = absurd (cc)
binder_body at (Node.Ite a b c) x d t e h = absurd (cc)

rebound_is : (ns : List Node) (up : Bool) (z name : ℕ) (ty : Ty) (r : ℕ) (k : Form) → tree_at ns r ≡ Some (Tree.formula k) → assembled (tree_at ns) (Node.Bind up z name ty r) ≡ a_form (Form.bind up z name ty k)
rebound_is ns up z name ty r k e = ap (λ o. with (as_form o) (λ d. a_form (Form.bind up z name ty d))) e

-- A binder that captures, with a fresh variable and the substituted body.
pub subst_captured : (x : ℕ) (s : Term) (ns : List Node) (n : Node) (y b z r : ℕ) (t : Tree) → binder_of n ≡ Some (y, b) → occurs_in_term y s ≡ true → is_free_tree x t ≡ true → ((f : Form) → tree_at ns b ≡ Some (Tree.formula f) → z ≡ fresh f s) → ((f : Form) → tree_at ns b ≡ Some (Tree.formula f) → tree_at ns r ≡ Some (Tree.formula (Put.subst x s (renamed y (fresh f s) f)))) → assembled (tree_at ns) n ≡ Some t → assembled (tree_at ns) (with_binder n z r) ≡ Some (subst_tree x s t)
subst_captured x s ns (Node.Const v) y o z r t e u f i j h = absurd (cc)
subst_captured x s ns (Node.Var w) y o z r t e u f i j h = absurd (cc)
subst_captured x s ns (Node.Sum a b) y o z r t e u f i j h = absurd (cc)
subst_captured x s ns (Node.Diff a b) y o z r t e u f i j h = absurd (cc)
subst_captured x s ns (Node.Cut a b) y o z r t e u f i j h = absurd (cc)
subst_captured x s ns (Node.Scale w a) y o z r t e u f i j h = absurd (cc)
subst_captured x s ns (Node.Product a b span) y o z r t e u f i j h = absurd (cc)
subst_captured x s ns (Node.Min a b) y o z r t e u f i j h = absurd (cc)
subst_captured x s ns (Node.Max a b) y o z r t e u f i j h = absurd (cc)
subst_captured x s ns (Node.Imply a b) y o z r t e u f i j h = absurd (cc)
subst_captured x s ns (Node.CoImply a b) y o z r t e u f i j h = absurd (cc)
subst_captured x s ns (Node.Validate a) y o z r t e u f i j h = absurd (cc)
subst_captured x s ns (Node.CoValidate a) y o z r t e u f i j h = absurd (cc)
subst_captured x s ns (Node.Embed a) y o z r t e u f i j h = absurd (cc)
subst_captured x s ns (Node.Iverson a) y o z r t e u f i j h = absurd (cc)
subst_captured x s ns (Node.Select a b c) y o z r t e u f i j h = absurd (cc)
subst_captured x s ns (Node.Bind up w name ty a) y o z r t e u f i j h =
    let p = form_part (tree_at ns) a _ t h in
    let q : w ≡ y = pair_number w a y o e in
    let d : a ≡ o = pair_body w a y o e in
    let there : tree_at ns o ≡ Some (Tree.formula p.form) = ap (tree_at ns) (sym d) ∙ p.there in
    rebound_is ns up z name ty r (Put.subst x s (renamed y (fresh p.form s) p.form)) (j p.form there)
    ∙ ap (λ m. a_form (Form.bind up m name ty (Put.subst x s (renamed y (fresh p.form s) p.form)))) (i p.form there)
    ∙ captured_put x s up y name ty p.form t u f (ap (λ m. a_form (Form.bind up m name ty p.form)) (sym q) ∙ p.rest)
subst_captured x s ns (Node.Truth v) y o z r t e u f i j h = absurd (cc)
subst_captured x s ns (Node.Flag w) y o z r t e u f i j h = absurd (cc)
subst_captured x s ns (Node.Not a) y o z r t e u f i j h = absurd (cc)
subst_captured x s ns (Node.And a b) y o z r t e u f i j h = absurd (cc)
subst_captured x s ns (Node.Or a b) y o z r t e u f i j h = absurd (cc)
subst_captured x s ns (Node.Same a b) y o z r t e u f i j h = absurd (cc)
subst_captured x s ns (Node.Le a b) y o z r t e u f i j h = absurd (cc)
subst_captured x s ns (Node.Lt a b) y o z r t e u f i j h = absurd (cc)
subst_captured x s ns (Node.EqNum a b) y o z r t e u f i j h = absurd (cc)
subst_captured x s ns (Node.Ite a b c) y o z r t e u f i j h = absurd (cc)

pub subst_changed : (x : ℕ) (s : Term) (n0 n3 : List Node) (i : ℕ) (n : Node) (a b c : ℕ) → IsGraph n0 → slice_get n0 i ≡ Some n → AllMoved (subst_tree x s) n0 n3 i n a b c → variable_of n ≡ None → IsCalm s (bound_by n) → ((t : Tree) → tree_at n0 i ≡ Some t → is_free_tree x t ≡ true) → IsChanged (subst_tree x s) n3 n (with_parts n a b c)
subst_changed x s n0 n3 i n a b c g h m v k f = record { changed = λ t e. subst_over x s n3 n a b c t v k (f t (tree_here n0 n3 i n t g h m.begins e)) m.one m.two m.three e }

pub ok_subst : {E : Type 0} (x : ℕ) (s : Term) (old new : List Node) (i : ℕ) (o : Result ℕ E) → Begins old new → IfOk o (λ j. Moves (subst_tree x s) new i j) → IfOk o (λ j. (f : Form) → Stands old i (Tree.formula f) → Stands new j (Tree.formula (Put.subst x s f)))
ok_subst x s old new i (Ok j) b h = λ f k. record { tree = h.moves (Tree.formula f) ((stands_longer old new i (Tree.formula f) b k).tree) }
ok_subst x s old new i (Err e) b h = tt

-- The variable itself.
pub own_moves : {E : Type 0} (x : ℕ) (s : Term) (old new : List Node) (i : ℕ) (n : Node) (b : Bool) (w : ℕ) (o : Result ℕ E) → IsGraph old → slice_get old i ≡ Some n → variable_of n ≡ Some w → b ≡ is_flag n → Begins old new → ((t : Tree) → tree_at old i ≡ Some t → is_free_tree x t ≡ true) → IfOk o (λ r. Stands new r (put_tree b s)) → IfOk o (λ r. Moves (subst_tree x s) new i r)
own_moves x s old new i n b w (Ok r) g h v e k f p = record { moves = λ t a. let a0 = same_before old new i t k (slice_get_within old i n h) a in p.tree ∙ ap (λ c. Some (put_tree c s)) e ∙ subst_own x s old n w t v (f t a0) (stands_assembled old i n t h a0) }
own_moves x s old new i n b w (Err z) g h v e k f p = tt
