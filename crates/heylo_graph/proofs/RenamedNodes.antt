-- Renaming node by node.
use Rattle.std.proofs.Common.{◌≡◌, ◌==◌, ◌||◌, ℕ, Bool, true, false, cond, List, slice_get, Some, None, refl, sym, ap, ap₂, ◌∙◌, arith}
use Rattle.heylo_formula.specs.Formula.{Form, Cond}
use Rattle.heylo_graph.specs.declared.nodes.Node.{Node}
use Rattle.heylo_graph.specs.Nodes.{a_form, a_cond, assembled, tree_at, IsFitting, IsGraph}
use Rattle.heylo_graph.specs.Parts.{first, second, third, with_parts, with_variable, variable_of}
use Rattle.heylo_graph.specs.internal.Tables.{PartMoves}
use Rattle.heylo_formula.specs.Variables.{is_free, is_free_in}
use Rattle.heylo_formula.specs.Substitution.{renamed, renamed_in}
use Rattle.heylo_graph.specs.Trees.{Tree, is_free_tree, renamed_tree}
use Rattle.heylo_graph.proofs.ChangedParts.{form_moved, cond_moved, lifted, asked}
use Rattle.heylo_graph.proofs.NodeMoves.{AllMoved, IsChanged, tree_here}
use Rattle.heylo_graph.proofs.NodesOverParts.{fits, var_node, flag_node}

-- A variable that is free in a binder is not the bound one.
pub unbound : (b c : Bool) → cond b false c ≡ true → (b ≡ false) × (c ≡ true)
unbound true c h = absurd (cc)
unbound false c h = (refl, h)

bound_renamed : (y z : ℕ) (up : Bool) (w name : ℕ) (ty : _) (k : Form) (t : Tree) → is_free_tree y t ≡ true → a_form (Form.bind up w name ty k) ≡ Some t → a_form (Form.bind up w name ty (renamed y z k)) ≡ Some (renamed_tree y z t)
bound_renamed y z up w name ty k t f e =
    let n = (unbound (y == w) (is_free y k) (ap (asked (is_free_tree y)) e ∙ f)).0 in
    ap (λ b. a_form (Form.bind up w name ty (cond b k (renamed y z k)))) (sym n) ∙ ap (lifted (renamed_tree y z)) e

pub renamed_over : (y z : ℕ) (ns : List Node) (n : Node) (p q r : ℕ) (t : Tree) → variable_of n ≡ None → is_free_tree y t ≡ true → PartMoves (renamed_tree y z) ns (first n) p → PartMoves (renamed_tree y z) ns (second n) q → PartMoves (renamed_tree y z) ns (third n) r → assembled (tree_at ns) n ≡ Some t → assembled (tree_at ns) (with_parts n p q r) ≡ Some (renamed_tree y z t)
renamed_over y z ns (Node.Const v) p q r t o f i j d h = ap (lifted (renamed_tree y z)) h
renamed_over y z ns (Node.Var w) p q r t o f i j d h = absurd (cc)
renamed_over y z ns (Node.Sum a b) p q r t o f i j d h = form_moved (renamed y z) (renamed_in y z) ns a p _ _ t _ i (λ k. form_moved (renamed y z) (renamed_in y z) ns b q _ _ t _ j (λ l e. ap (lifted (renamed_tree y z)) e)) h
renamed_over y z ns (Node.Diff a b) p q r t o f i j d h = form_moved (renamed y z) (renamed_in y z) ns a p _ _ t _ i (λ k. form_moved (renamed y z) (renamed_in y z) ns b q _ _ t _ j (λ l e. ap (lifted (renamed_tree y z)) e)) h
renamed_over y z ns (Node.Cut a b) p q r t o f i j d h = form_moved (renamed y z) (renamed_in y z) ns a p _ _ t _ i (λ k. form_moved (renamed y z) (renamed_in y z) ns b q _ _ t _ j (λ l e. ap (lifted (renamed_tree y z)) e)) h
renamed_over y z ns (Node.Scale w a) p q r t o f i j d h = form_moved (renamed y z) (renamed_in y z) ns a p _ _ t _ i (λ k e. ap (lifted (renamed_tree y z)) e) h
renamed_over y z ns (Node.Product a b span) p q r t o f i j d h = form_moved (renamed y z) (renamed_in y z) ns a p _ _ t _ i (λ k. form_moved (renamed y z) (renamed_in y z) ns b q _ _ t _ j (λ l e. ap (lifted (renamed_tree y z)) e)) h
renamed_over y z ns (Node.Min a b) p q r t o f i j d h = form_moved (renamed y z) (renamed_in y z) ns a p _ _ t _ i (λ k. form_moved (renamed y z) (renamed_in y z) ns b q _ _ t _ j (λ l e. ap (lifted (renamed_tree y z)) e)) h
renamed_over y z ns (Node.Max a b) p q r t o f i j d h = form_moved (renamed y z) (renamed_in y z) ns a p _ _ t _ i (λ k. form_moved (renamed y z) (renamed_in y z) ns b q _ _ t _ j (λ l e. ap (lifted (renamed_tree y z)) e)) h
renamed_over y z ns (Node.Imply a b) p q r t o f i j d h = form_moved (renamed y z) (renamed_in y z) ns a p _ _ t _ i (λ k. form_moved (renamed y z) (renamed_in y z) ns b q _ _ t _ j (λ l e. ap (lifted (renamed_tree y z)) e)) h
renamed_over y z ns (Node.CoImply a b) p q r t o f i j d h = form_moved (renamed y z) (renamed_in y z) ns a p _ _ t _ i (λ k. form_moved (renamed y z) (renamed_in y z) ns b q _ _ t _ j (λ l e. ap (lifted (renamed_tree y z)) e)) h
renamed_over y z ns (Node.Validate a) p q r t o f i j d h = form_moved (renamed y z) (renamed_in y z) ns a p _ _ t _ i (λ k e. ap (lifted (renamed_tree y z)) e) h
renamed_over y z ns (Node.CoValidate a) p q r t o f i j d h = form_moved (renamed y z) (renamed_in y z) ns a p _ _ t _ i (λ k e. ap (lifted (renamed_tree y z)) e) h
renamed_over y z ns (Node.Embed a) p q r t o f i j d h = cond_moved (renamed y z) (renamed_in y z) ns a p _ _ t _ i (λ k e. ap (lifted (renamed_tree y z)) e) h
renamed_over y z ns (Node.Iverson a) p q r t o f i j d h = cond_moved (renamed y z) (renamed_in y z) ns a p _ _ t _ i (λ k e. ap (lifted (renamed_tree y z)) e) h
renamed_over y z ns (Node.Select a b c) p q r t o f i j d h = cond_moved (renamed y z) (renamed_in y z) ns a p _ _ t _ i (λ k. form_moved (renamed y z) (renamed_in y z) ns b q _ _ t _ j (λ l. form_moved (renamed y z) (renamed_in y z) ns c r _ _ t _ d (λ m e. ap (lifted (renamed_tree y z)) e))) h
renamed_over y z ns (Node.Bind up w name ty a) p q r t o f i j d h = form_moved (renamed y z) (renamed_in y z) ns a p _ _ t _ i (λ k e. bound_renamed y z up w name ty k t f e) h
renamed_over y z ns (Node.Truth v) p q r t o f i j d h = ap (lifted (renamed_tree y z)) h
renamed_over y z ns (Node.Flag w) p q r t o f i j d h = absurd (cc)
renamed_over y z ns (Node.Not a) p q r t o f i j d h = cond_moved (renamed y z) (renamed_in y z) ns a p _ _ t _ i (λ k e. ap (lifted (renamed_tree y z)) e) h
renamed_over y z ns (Node.And a b) p q r t o f i j d h = cond_moved (renamed y z) (renamed_in y z) ns a p _ _ t _ i (λ k. cond_moved (renamed y z) (renamed_in y z) ns b q _ _ t _ j (λ l e. ap (lifted (renamed_tree y z)) e)) h
renamed_over y z ns (Node.Or a b) p q r t o f i j d h = cond_moved (renamed y z) (renamed_in y z) ns a p _ _ t _ i (λ k. cond_moved (renamed y z) (renamed_in y z) ns b q _ _ t _ j (λ l e. ap (lifted (renamed_tree y z)) e)) h
renamed_over y z ns (Node.Same a b) p q r t o f i j d h = cond_moved (renamed y z) (renamed_in y z) ns a p _ _ t _ i (λ k. cond_moved (renamed y z) (renamed_in y z) ns b q _ _ t _ j (λ l e. ap (lifted (renamed_tree y z)) e)) h
renamed_over y z ns (Node.Le a b) p q r t o f i j d h = form_moved (renamed y z) (renamed_in y z) ns a p _ _ t _ i (λ k. form_moved (renamed y z) (renamed_in y z) ns b q _ _ t _ j (λ l e. ap (lifted (renamed_tree y z)) e)) h
renamed_over y z ns (Node.Lt a b) p q r t o f i j d h = form_moved (renamed y z) (renamed_in y z) ns a p _ _ t _ i (λ k. form_moved (renamed y z) (renamed_in y z) ns b q _ _ t _ j (λ l e. ap (lifted (renamed_tree y z)) e)) h
renamed_over y z ns (Node.EqNum a b) p q r t o f i j d h = form_moved (renamed y z) (renamed_in y z) ns a p _ _ t _ i (λ k. form_moved (renamed y z) (renamed_in y z) ns b q _ _ t _ j (λ l e. ap (lifted (renamed_tree y z)) e)) h
renamed_over y z ns (Node.Ite a b c) p q r t o f i j d h = cond_moved (renamed y z) (renamed_in y z) ns a p _ _ t _ i (λ k. cond_moved (renamed y z) (renamed_in y z) ns b q _ _ t _ j (λ l. cond_moved (renamed y z) (renamed_in y z) ns c r _ _ t _ d (λ m e. ap (lifted (renamed_tree y z)) e))) h

pub own_number : (y z w : ℕ) → y ≡ w → cond (y == w) (Form.variable z) (Form.variable w) ≡ Form.variable z
own_number y z w e = let q : (y == w) ≡ true = grind (arith, e) in ap (λ b. cond b (Form.variable z) (Form.variable w)) q

pub own_flag : (y z w : ℕ) → y ≡ w → cond (y == w) (Cond.flag z) (Cond.flag w) ≡ Cond.flag z
own_flag y z w e = let q : (y == w) ≡ true = grind (arith, e) in ap (λ b. cond b (Cond.flag z) (Cond.flag w)) q

true_equal : (y w : ℕ) → (y == w) ≡ true → y ≡ w
true_equal y w h = grind arith

-- The renamed variable itself.
pub renamed_own : (y z : ℕ) (ns : List Node) (n : Node) (x : ℕ) (t : Tree) → variable_of n ≡ Some x → is_free_tree y t ≡ true → assembled (tree_at ns) n ≡ Some t → assembled (tree_at ns) (with_variable n z) ≡ Some (renamed_tree y z t)
renamed_own y z ns (Node.Const v) x t o f h = absurd (cc)
renamed_own y z ns (Node.Var w) x t o f h = ap a_form (sym (own_number y z w (true_equal y w (ap (asked (is_free_tree y)) h ∙ f)))) ∙ ap (lifted (renamed_tree y z)) h
renamed_own y z ns (Node.Sum a b) x t o f h = absurd (cc)
renamed_own y z ns (Node.Diff a b) x t o f h = absurd (cc)
renamed_own y z ns (Node.Cut a b) x t o f h = absurd (cc)
renamed_own y z ns (Node.Scale w a) x t o f h = absurd (cc)
renamed_own y z ns (Node.Product a b span) x t o f h = absurd (cc)
renamed_own y z ns (Node.Min a b) x t o f h = absurd (cc)
renamed_own y z ns (Node.Max a b) x t o f h = absurd (cc)
renamed_own y z ns (Node.Imply a b) x t o f h = absurd (cc)
renamed_own y z ns (Node.CoImply a b) x t o f h = absurd (cc)
renamed_own y z ns (Node.Validate a) x t o f h = absurd (cc)
renamed_own y z ns (Node.CoValidate a) x t o f h = absurd (cc)
renamed_own y z ns (Node.Embed a) x t o f h = absurd (cc)
renamed_own y z ns (Node.Iverson a) x t o f h = absurd (cc)
renamed_own y z ns (Node.Select a b c) x t o f h = absurd (cc)
renamed_own y z ns (Node.Bind up w name ty a) x t o f h = absurd (cc)
renamed_own y z ns (Node.Truth v) x t o f h = absurd (cc)
renamed_own y z ns (Node.Flag w) x t o f h = ap a_cond (sym (own_flag y z w (true_equal y w (ap (asked (is_free_tree y)) h ∙ f)))) ∙ ap (lifted (renamed_tree y z)) h
renamed_own y z ns (Node.Not a) x t o f h = absurd (cc)
renamed_own y z ns (Node.And a b) x t o f h = absurd (cc)
renamed_own y z ns (Node.Or a b) x t o f h = absurd (cc)
renamed_own y z ns (Node.Same a b) x t o f h = absurd (cc)
renamed_own y z ns (Node.Le a b) x t o f h = absurd (cc)
renamed_own y z ns (Node.Lt a b) x t o f h = absurd (cc)
renamed_own y z ns (Node.EqNum a b) x t o f h = absurd (cc)
renamed_own y z ns (Node.Ite a b c) x t o f h = absurd (cc)

or_false : (a b : Bool) → (a || b) ≡ false → (a ≡ false) × (b ≡ false)
or_false true b e = absurd (cc)
or_false false b e = (refl, e)

kept_number : (y z w : ℕ) → (y == w) ≡ false → cond (y == w) (Form.variable z) (Form.variable w) ≡ Form.variable w
kept_number y z w h = ap (λ b. cond b (Form.variable z) (Form.variable w)) h

kept_flag : (y z w : ℕ) → (y == w) ≡ false → cond (y == w) (Cond.flag z) (Cond.flag w) ≡ Cond.flag w
kept_flag y z w h = ap (λ b. cond b (Cond.flag z) (Cond.flag w)) h

kept_body : (y z : ℕ) (a : Form) (b : Bool) → cond b false (is_free y a) ≡ false → (is_free y a ≡ false → renamed y z a ≡ a) → cond b a (renamed y z a) ≡ a
kept_body y z a true h f = refl
kept_body y z a false h f = f h

mutual
  kept_form : (y z : ℕ) (f : Form) → is_free y f ≡ false → renamed y z f ≡ f
  kept_form y z (Form.number v) h = refl
  kept_form y z (Form.variable w) h = kept_number y z w h
  kept_form y z (Form.sum k l) h = let o = or_false (is_free y k) (is_free y l) h in ap₂ (λ b c. Form.sum b c) (kept_form y z k o.0) (kept_form y z l o.1)
  kept_form y z (Form.difference k l) h = let o = or_false (is_free y k) (is_free y l) h in ap₂ (λ b c. Form.difference b c) (kept_form y z k o.0) (kept_form y z l o.1)
  kept_form y z (Form.cut k l) h = let o = or_false (is_free y k) (is_free y l) h in ap₂ (λ b c. Form.cut b c) (kept_form y z k o.0) (kept_form y z l o.1)
  kept_form y z (Form.scale w k) h = ap (λ b. Form.scale w b) (kept_form y z k h)
  kept_form y z (Form.product k l span) h = let o = or_false (is_free y k) (is_free y l) h in ap₂ (λ b c. Form.product b c span) (kept_form y z k o.0) (kept_form y z l o.1)
  kept_form y z (Form.min k l) h = let o = or_false (is_free y k) (is_free y l) h in ap₂ (λ b c. Form.min b c) (kept_form y z k o.0) (kept_form y z l o.1)
  kept_form y z (Form.max k l) h = let o = or_false (is_free y k) (is_free y l) h in ap₂ (λ b c. Form.max b c) (kept_form y z k o.0) (kept_form y z l o.1)
  kept_form y z (Form.imply k l) h = let o = or_false (is_free y k) (is_free y l) h in ap₂ (λ b c. Form.imply b c) (kept_form y z k o.0) (kept_form y z l o.1)
  kept_form y z (Form.co_imply k l) h = let o = or_false (is_free y k) (is_free y l) h in ap₂ (λ b c. Form.co_imply b c) (kept_form y z k o.0) (kept_form y z l o.1)
  kept_form y z (Form.validate k) h = ap (λ b. Form.validate b) (kept_form y z k h)
  kept_form y z (Form.co_validate k) h = ap (λ b. Form.co_validate b) (kept_form y z k h)
  kept_form y z (Form.embed k) h = ap (λ b. Form.embed b) (kept_cond y z k h)
  kept_form y z (Form.iverson k) h = ap (λ b. Form.iverson b) (kept_cond y z k h)
  kept_form y z (Form.select k l m) h = let o = or_false (is_free_in y k) ((is_free y l) || (is_free y m)) h in let d = or_false (is_free y l) (is_free y m) o.1 in ap (λ b. Form.select b (renamed y z l) (renamed y z m)) (kept_cond y z k o.0) ∙ ap₂ (λ b c. Form.select k b c) (kept_form y z l d.0) (kept_form y z m d.1)
  kept_form y z (Form.bind up w name ty k) h = ap (λ b. Form.bind up w name ty b) (kept_body y z k (y == w) h (kept_form y z k))

  kept_cond : (y z : ℕ) (g : Cond) → is_free_in y g ≡ false → renamed_in y z g ≡ g
  kept_cond y z (Cond.constant v) h = refl
  kept_cond y z (Cond.flag w) h = kept_flag y z w h
  kept_cond y z (Cond.not k) h = ap (λ b. Cond.not b) (kept_cond y z k h)
  kept_cond y z (Cond.and k l) h = let o = or_false (is_free_in y k) (is_free_in y l) h in ap₂ (λ b c. Cond.and b c) (kept_cond y z k o.0) (kept_cond y z l o.1)
  kept_cond y z (Cond.or k l) h = let o = or_false (is_free_in y k) (is_free_in y l) h in ap₂ (λ b c. Cond.or b c) (kept_cond y z k o.0) (kept_cond y z l o.1)
  kept_cond y z (Cond.same k l) h = let o = or_false (is_free_in y k) (is_free_in y l) h in ap₂ (λ b c. Cond.same b c) (kept_cond y z k o.0) (kept_cond y z l o.1)
  kept_cond y z (Cond.le k l) h = let o = or_false (is_free y k) (is_free y l) h in ap₂ (λ b c. Cond.le b c) (kept_form y z k o.0) (kept_form y z l o.1)
  kept_cond y z (Cond.lt k l) h = let o = or_false (is_free y k) (is_free y l) h in ap₂ (λ b c. Cond.lt b c) (kept_form y z k o.0) (kept_form y z l o.1)
  kept_cond y z (Cond.equal k l) h = let o = or_false (is_free y k) (is_free y l) h in ap₂ (λ b c. Cond.equal b c) (kept_form y z k o.0) (kept_form y z l o.1)
  kept_cond y z (Cond.ite k l m) h = let o = or_false (is_free_in y k) ((is_free_in y l) || (is_free_in y m)) h in let d = or_false (is_free_in y l) (is_free_in y m) o.1 in ap (λ b. Cond.ite b (renamed_in y z l) (renamed_in y z m)) (kept_cond y z k o.0) ∙ ap₂ (λ b c. Cond.ite k b c) (kept_cond y z l d.0) (kept_cond y z m d.1)

pub renamed_kept : (y z : ℕ) (t : Tree) → is_free_tree y t ≡ false → renamed_tree y z t ≡ t
renamed_kept y z (Tree.formula f) h = ap Tree.formula (kept_form y z f h)
renamed_kept y z (Tree.condition g) h = ap Tree.condition (kept_cond y z g h)

-- A variable with another number has no children, and hence fits.
pub variable_fits : (ns : List Node) (n : Node) (y z : ℕ) → variable_of n ≡ Some y → IsFitting ns (with_variable n z)
variable_fits ns (Node.Const v) y z e = absurd (cc)
variable_fits ns (Node.Var w) y z e = fits ns (Node.Var z) _ (var_node ns z)
variable_fits ns (Node.Sum a b) y z e = absurd (cc)
variable_fits ns (Node.Diff a b) y z e = absurd (cc)
variable_fits ns (Node.Cut a b) y z e = absurd (cc)
variable_fits ns (Node.Scale w a) y z e = absurd (cc)
variable_fits ns (Node.Product a b span) y z e = absurd (cc)
variable_fits ns (Node.Min a b) y z e = absurd (cc)
variable_fits ns (Node.Max a b) y z e = absurd (cc)
variable_fits ns (Node.Imply a b) y z e = absurd (cc)
variable_fits ns (Node.CoImply a b) y z e = absurd (cc)
variable_fits ns (Node.Validate a) y z e = absurd (cc)
variable_fits ns (Node.CoValidate a) y z e = absurd (cc)
variable_fits ns (Node.Embed a) y z e = absurd (cc)
variable_fits ns (Node.Iverson a) y z e = absurd (cc)
variable_fits ns (Node.Select a b c) y z e = absurd (cc)
variable_fits ns (Node.Bind up w name ty a) y z e = absurd (cc)
variable_fits ns (Node.Truth v) y z e = absurd (cc)
variable_fits ns (Node.Flag w) y z e = fits ns (Node.Flag z) _ (flag_node ns z)
variable_fits ns (Node.Not a) y z e = absurd (cc)
variable_fits ns (Node.And a b) y z e = absurd (cc)
variable_fits ns (Node.Or a b) y z e = absurd (cc)
variable_fits ns (Node.Same a b) y z e = absurd (cc)
variable_fits ns (Node.Le a b) y z e = absurd (cc)
variable_fits ns (Node.Lt a b) y z e = absurd (cc)
variable_fits ns (Node.EqNum a b) y z e = absurd (cc)
variable_fits ns (Node.Ite a b c) y z e = absurd (cc)

pub renamed_changed : (y z : ℕ) (n0 n3 : List Node) (i : ℕ) (n : Node) (a b c : ℕ) → IsGraph n0 → slice_get n0 i ≡ Some n → AllMoved (renamed_tree y z) n0 n3 i n a b c → variable_of n ≡ None → ((t : Tree) → tree_at n0 i ≡ Some t → is_free_tree y t ≡ true) → IsChanged (renamed_tree y z) n3 n (with_parts n a b c)
renamed_changed y z n0 n3 i n a b c g h m v f = record { changed = λ t e. renamed_over y z n3 n a b c t v (f t (tree_here n0 n3 i n t g h m.begins e)) m.one m.two m.three e }
