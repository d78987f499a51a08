-- A tree, and the children of its node.
use Prim.Native.Nat.{zero, suc}
use Rattle.std.proofs.Common.{◌≡◌, ℕ, ◌<◌, List, [], ◌∷◌, Option, Some, None, slice_get, length, refl, sym, ap, subst, ◌∙◌, arith}
use Rattle.heyvl_num.specs.Value.{Value}
use Rattle.heyvl_num.specs.Value.Value.{finite, infinite}
use Rattle.heyvl_num.specs.ExtendedNumbers.{value_of}
use Rattle.heyvl_num.specs.declared.extended_numbers.Ext.{Ext}
use Rattle.std.proofs.lemmas.Option.{slice_get_within}
use Rattle.heylo_formula.specs.Formula.{Form, Cond}
use Rattle.heylo_graph.specs.Trees.{Tree}
use Rattle.heylo_graph.specs.declared.nodes.Node.{Node}
use Rattle.heylo_graph.specs.Nodes.{as_form, as_cond, with, assembled, tree_at, IsGraph}
use Rattle.heylo_graph.specs.Parts.{first, second, third, with_parts, variable_of, bound_by}
use Rattle.heylo_graph.specs.internal.Tables.{IsBefore, PartTree}
use Rattle.heylo_graph.proofs.Trees.{form_found, cond_found, split_at, tree_of_node, tree_within}

pub record FormPart (at : ℕ → Option Tree) (a : ℕ) (k : Form → Option Tree) (t : Tree) : Type 0 where
  pub form : Form
  pub there : at a ≡ Some (Tree.formula form)
  pub rest : k form ≡ Some t

pub form_part : (at : ℕ → Option Tree) (a : ℕ) (k : Form → Option Tree) (t : Tree) → with (as_form (at a)) k ≡ Some t → FormPart at a k t
form_part at a k t h = go (as_form (at a)) refl h
  where
    go : (r : Option Form) → as_form (at a) ≡ r → with r k ≡ Some t → FormPart at a k t
    go (Some f) e h = record { form = f; there = form_found (at a) f e; rest = h }
    go None e h = absurd (cc)

pub record CondPart (at : ℕ → Option Tree) (a : ℕ) (k : Cond → Option Tree) (t : Tree) : Type 0 where
  pub form : Cond
  pub there : at a ≡ Some (Tree.condition form)
  pub rest : k form ≡ Some t

pub cond_part : (at : ℕ → Option Tree) (a : ℕ) (k : Cond → Option Tree) (t : Tree) → with (as_cond (at a)) k ≡ Some t → CondPart at a k t
cond_part at a k t h = go (as_cond (at a)) refl h
  where
    go : (r : Option Cond) → as_cond (at a) ≡ r → with r k ≡ Some t → CondPart at a k t
    go (Some f) e h = record { form = f; there = cond_found (at a) f e; rest = h }
    go None e h = absurd (cc)

-- The number that the code stores for a value.
abbrev pub stored : Value → Ext
stored (finite x) = Ext.Fin x
stored infinite = Ext.Inf

pub stored_value : (v : Ext) → stored (value_of v) ≡ v
stored_value (Ext.Fin x) = refl
stored_value Ext.Inf = refl

-- The kind of a tree, as a node with the children 0.
abbrev pub head_tree : Tree → Node
head_tree (Tree.formula (Form.number v)) = Node.Const (stored v)
head_tree (Tree.formula (Form.variable w)) = Node.Var w
head_tree (Tree.formula (Form.sum k l)) = Node.Sum 0 0
head_tree (Tree.formula (Form.difference k l)) = Node.Diff 0 0
head_tree (Tree.formula (Form.cut k l)) = Node.Cut 0 0
head_tree (Tree.formula (Form.scale w k)) = Node.Scale w 0
head_tree (Tree.formula (Form.product k l span)) = Node.Product 0 0 span
head_tree (Tree.formula (Form.min k l)) = Node.Min 0 0
head_tree (Tree.formula (Form.max k l)) = Node.Max 0 0
head_tree (Tree.formula (Form.imply k l)) = Node.Imply 0 0
head_tree (Tree.formula (Form.co_imply k l)) = Node.CoImply 0 0
head_tree (Tree.formula (Form.validate k)) = Node.Validate 0
head_tree (Tree.formula (Form.co_validate k)) = Node.CoValidate 0
head_tree (Tree.formula (Form.embed k)) = Node.Embed 0
head_tree (Tree.formula (Form.iverson k)) = Node.Iverson 0
head_tree (Tree.formula (Form.select k l m)) = Node.Select 0 0 0
head_tree (Tree.formula (Form.bind up w name ty k)) = Node.Bind up w name ty 0
head_tree (Tree.condition (Cond.constant v)) = Node.Truth v
head_tree (Tree.condition (Cond.flag w)) = Node.Flag w
head_tree (Tree.condition (Cond.not k)) = Node.Not 0
head_tree (Tree.condition (Cond.and k l)) = Node.And 0 0
head_tree (Tree.condition (Cond.or k l)) = Node.Or 0 0
head_tree (Tree.condition (Cond.same k l)) = Node.Same 0 0
head_tree (Tree.condition (Cond.le k l)) = Node.Le 0 0
head_tree (Tree.condition (Cond.lt k l)) = Node.Lt 0 0
head_tree (Tree.condition (Cond.equal k l)) = Node.EqNum 0 0
head_tree (Tree.condition (Cond.ite k l m)) = Node.Ite 0 0 0

abbrev pub first_tree : Tree → Option Tree
first_tree (Tree.formula (Form.number v)) = None
first_tree (Tree.formula (Form.variable w)) = None
first_tree (Tree.formula (Form.sum k l)) = Some (Tree.formula k)
first_tree (Tree.formula (Form.difference k l)) = Some (Tree.formula k)
first_tree (Tree.formula (Form.cut k l)) = Some (Tree.formula k)
first_tree (Tree.formula (Form.scale w k)) = Some (Tree.formula k)
first_tree (Tree.formula (Form.product k l span)) = Some (Tree.formula k)
first_tree (Tree.formula (Form.min k l)) = Some (Tree.formula k)
first_tree (Tree.formula (Form.max k l)) = Some (Tree.formula k)
first_tree (Tree.formula (Form.imply k l)) = Some (Tree.formula k)
first_tree (Tree.formula (Form.co_imply k l)) = Some (Tree.formula k)
first_tree (Tree.formula (Form.validate k)) = Some (Tree.formula k)
first_tree (Tree.formula (Form.co_validate k)) = Some (Tree.formula k)
first_tree (Tree.formula (Form.embed k)) = Some (Tree.condition k)
first_tree (Tree.formula (Form.iverson k)) = Some (Tree.condition k)
first_tree (Tree.formula (Form.select k l m)) = Some (Tree.condition k)
first_tree (Tree.formula (Form.bind up w name ty k)) = Some (Tree.formula k)
first_tree (Tree.condition (Cond.constant v)) = None
first_tree (Tree.condition (Cond.flag w)) = None
first_tree (Tree.condition (Cond.not k)) = Some (Tree.condition k)
first_tree (Tree.condition (Cond.and k l)) = Some (Tree.condition k)
first_tree (Tree.condition (Cond.or k l)) = Some (Tree.condition k)
first_tree (Tree.condition (Cond.same k l)) = Some (Tree.condition k)
first_tree (Tree.condition (Cond.le k l)) = Some (Tree.formula k)
first_tree (Tree.condition (Cond.lt k l)) = Some (Tree.formula k)
first_tree (Tree.condition (Cond.equal k l)) = Some (Tree.formula k)
first_tree (Tree.condition (Cond.ite k l m)) = Some (Tree.condition k)

abbrev pub second_tree : Tree → Option Tree
second_tree (Tree.formula (Form.number v)) = None
second_tree (Tree.formula (Form.variable w)) = None
second_tree (Tree.formula (Form.sum k l)) = Some (Tree.formula l)
second_tree (Tree.formula (Form.difference k l)) = Some (Tree.formula l)
second_tree (Tree.formula (Form.cut k l)) = Some (Tree.formula l)
second_tree (Tree.formula (Form.scale w k)) = None
second_tree (Tree.formula (Form.product k l span)) = Some (Tree.formula l)
second_tree (Tree.formula (Form.min k l)) = Some (Tree.formula l)
second_tree (Tree.formula (Form.max k l)) = Some (Tree.formula l)
second_tree (Tree.formula (Form.imply k l)) = Some (Tree.formula l)
second_tree (Tree.formula (Form.co_imply k l)) = Some (Tree.formula l)
second_tree (Tree.formula (Form.validate k)) = None
second_tree (Tree.formula (Form.co_validate k)) = None
second_tree (Tree.formula (Form.embed k)) = None
second_tree (Tree.formula (Form.iverson k)) = None
second_tree (Tree.formula (Form.select k l m)) = Some (Tree.formula l)
second_tree (Tree.formula (Form.bind up w name ty k)) = None
second_tree (Tree.condition (Cond.constant v)) = None
second_tree (Tree.condition (Cond.flag w)) = None
second_tree (Tree.condition (Cond.not k)) = None
second_tree (Tree.condition (Cond.and k l)) = Some (Tree.condition l)
second_tree (Tree.condition (Cond.or k l)) = Some (Tree.condition l)
second_tree (Tree.condition (Cond.same k l)) = Some (Tree.condition l)
second_tree (Tree.condition (Cond.le k l)) = Some (Tree.formula l)
second_tree (Tree.condition (Cond.lt k l)) = Some (Tree.formula l)
second_tree (Tree.condition (Cond.equal k l)) = Some (Tree.formula l)
second_tree (Tree.condition (Cond.ite k l m)) = Some (Tree.condition l)

abbrev pub third_tree : Tree → Option Tree
third_tree (Tree.formula (Form.number v)) = None
third_tree (Tree.formula (Form.variable w)) = None
third_tree (Tree.formula (Form.sum k l)) = None
third_tree (Tree.formula (Form.difference k l)) = None
third_tree (Tree.formula (Form.cut k l)) = None
third_tree (Tree.formula (Form.scale w k)) = None
third_tree (Tree.formula (Form.product k l span)) = None
third_tree (Tree.formula (Form.min k l)) = None
third_tree (Tree.formula (Form.max k l)) = None
third_tree (Tree.formula (Form.imply k l)) = None
third_tree (Tree.formula (Form.co_imply k l)) = None
third_tree (Tree.formula (Form.validate k)) = None
third_tree (Tree.formula (Form.co_validate k)) = None
third_tree (Tree.formula (Form.embed k)) = None
third_tree (Tree.formula (Form.iverson k)) = None
third_tree (Tree.formula (Form.select k l m)) = Some (Tree.formula m)
third_tree (Tree.formula (Form.bind up w name ty k)) = None
third_tree (Tree.condition (Cond.constant v)) = None
third_tree (Tree.condition (Cond.flag w)) = None
third_tree (Tree.condition (Cond.not k)) = None
third_tree (Tree.condition (Cond.and k l)) = None
third_tree (Tree.condition (Cond.or k l)) = None
third_tree (Tree.condition (Cond.same k l)) = None
third_tree (Tree.condition (Cond.le k l)) = None
third_tree (Tree.condition (Cond.lt k l)) = None
third_tree (Tree.condition (Cond.equal k l)) = None
third_tree (Tree.condition (Cond.ite k l m)) = Some (Tree.condition m)

-- A node agrees with the root of its tree.
pub record Taken (at : ℕ → Option Tree) (n : Node) (t : Tree) : Type 0 where
  pub kind : with_parts n 0 0 0 ≡ head_tree t
  pub variable : variable_of n ≡ variable_of (head_tree t)
  pub bound : bound_by n ≡ bound_by (head_tree t)
  pub one : PartTree at (first n) (first_tree t)
  pub two : PartTree at (second n) (second_tree t)
  pub three : PartTree at (third n) (third_tree t)

pub some_is : {X : Type 0} (a b : X) → Some a ≡ Some b → a ≡ b
some_is a b e = cc

-- A statement on the tree of a node, moved to an equal tree.
taken : (at : ℕ → Option Tree) (n : Node) (t u : Tree) → Taken at n u → Some u ≡ Some t → Taken at n t
taken at n t u h e = subst (Taken at n) (some_is u t e) h

pub taken_apart : (at : ℕ → Option Tree) (n : Node) (t : Tree) → assembled at n ≡ Some t → Taken at n t
taken_apart at (Node.Const v) t h = taken at (Node.Const v) t (Tree.formula (Form.number (value_of v))) (record { kind = ap Node.Const (sym (stored_value v)); variable = refl; bound = refl; one = tt; two = tt; three = tt }) h
taken_apart at (Node.Var w) t h = taken at (Node.Var w) t (Tree.formula (Form.variable w)) (record { kind = refl; variable = refl; bound = refl; one = tt; two = tt; three = tt }) h
taken_apart at (Node.Sum a b) t h = let p = form_part at a _ t h in let q = form_part at b _ t p.rest in taken at (Node.Sum a b) t (Tree.formula (Form.sum p.form q.form)) (record { kind = refl; variable = refl; bound = refl; one = p.there; two = q.there; three = tt }) q.rest
taken_apart at (Node.Diff a b) t h = let p = form_part at a _ t h in let q = form_part at b _ t p.rest in taken at (Node.Diff a b) t (Tree.formula (Form.difference p.form q.form)) (record { kind = refl; variable = refl; bound = refl; one = p.there; two = q.there; three = tt }) q.rest
taken_apart at (Node.Cut a b) t h = let p = form_part at a _ t h in let q = form_part at b _ t p.rest in taken at (Node.Cut a b) t (Tree.formula (Form.cut p.form q.form)) (record { kind = refl; variable = refl; bound = refl; one = p.there; two = q.there; three = tt }) q.rest
taken_apart at (Node.Scale w a) t h = let p = form_part at a _ t h in taken at (Node.Scale w a) t (Tree.formula (Form.scale w p.form)) (record { kind = refl; variable = refl; bound = refl; one = p.there; two = tt; three = tt }) p.rest
taken_apart at (Node.Product a b span) t h = let p = form_part at a _ t h in let q = form_part at b _ t p.rest in taken at (Node.Product a b span) t (Tree.formula (Form.product p.form q.form span)) (record { kind = refl; variable = refl; bound = refl; one = p.there; two = q.there; three = tt }) q.rest
taken_apart at (Node.Min a b) t h = let p = form_part at a _ t h in let q = form_part at b _ t p.rest in taken at (Node.Min a b) t (Tree.formula (Form.min p.form q.form)) (record { kind = refl; variable = refl; bound = refl; one = p.there; two = q.there; three = tt }) q.rest
taken_apart at (Node.Max a b) t h = let p = form_part at a _ t h in let q = form_part at b _ t p.rest in taken at (Node.Max a b) t (Tree.formula (Form.max p.form q.form)) (record { kind = refl; variable = refl; bound = refl; one = p.there; two = q.there; three = tt }) q.rest
taken_apart at (Node.Imply a b) t h = let p = form_part at a _ t h in let q = form_part at b _ t p.rest in taken at (Node.Imply a b) t (Tree.formula (Form.imply p.form q.form)) (record { kind = refl; variable = refl; bound = refl; one = p.there; two = q.there; three = tt }) q.rest
taken_apart at (Node.CoImply a b) t h = let p = form_part at a _ t h in let q = form_part at b _ t p.rest in taken at (Node.CoImply a b) t (Tree.formula (Form.co_imply p.form q.form)) (record { kind = refl; variable = refl; bound = refl; one = p.there; two = q.there; three = tt }) q.rest
taken_apart at (Node.Validate a) t h = let p = form_part at a _ t h in taken at (Node.Validate a) t (Tree.formula (Form.validate p.form)) (record { kind = refl; variable = refl; bound = refl; one = p.there; two = tt; three = tt }) p.rest
taken_apart at (Node.CoValidate a) t h = let p = form_part at a _ t h in taken at (Node.CoValidate a) t (Tree.formula (Form.co_validate p.form)) (record { kind = refl; variable = refl; bound = refl; one = p.there; two = tt; three = tt }) p.rest
taken_apart at (Node.Embed a) t h = let p = cond_part at a _ t h in taken at (Node.Embed a) t (Tree.formula (Form.embed p.form)) (record { kind = refl; variable = refl; bound = refl; one = p.there; two = tt; three = tt }) p.rest
taken_apart at (Node.Iverson a) t h = let p = cond_part at a _ t h in taken at (Node.Iverson a) t (Tree.formula (Form.iverson p.form)) (record { kind = refl; variable = refl; bound = refl; one = p.there; two = tt; three = tt }) p.rest
taken_apart at (Node.Select a b c) t h = let p = cond_part at a _ t h in let q = form_part at b _ t p.rest in let r = form_part at c _ t q.rest in taken at (Node.Select a b c) t (Tree.formula (Form.select p.form q.form r.form)) (record { kind = refl; variable = refl; bound = refl; one = p.there; two = q.there; three = r.there }) r.rest
taken_apart at (Node.Bind up w name ty a) t h = let p = form_part at a _ t h in taken at (Node.Bind up w name ty a) t (Tree.formula (Form.bind up w name ty p.form)) (record { kind = refl; variable = refl; bound = refl; one = p.there; two = tt; three = tt }) p.rest
taken_apart at (Node.Truth v) t h = taken at (Node.Truth v) t (Tree.condition (Cond.constant v)) (record { kind = refl; variable = refl; bound = refl; one = tt; two = tt; three = tt }) h
taken_apart at (Node.Flag w) t h = taken at (Node.Flag w) t (Tree.condition (Cond.flag w)) (record { kind = refl; variable = refl; bound = refl; one = tt; two = tt; three = tt }) h
taken_apart at (Node.Not a) t h = let p = cond_part at a _ t h in taken at (Node.Not a) t (Tree.condition (Cond.not p.form)) (record { kind = refl; variable = refl; bound = refl; one = p.there; two = tt; three = tt }) p.rest
taken_apart at (Node.And a b) t h = let p = cond_part at a _ t h in let q = cond_part at b _ t p.rest in taken at (Node.And a b) t (Tree.condition (Cond.and p.form q.form)) (record { kind = refl; variable = refl; bound = refl; one = p.there; two = q.there; three = tt }) q.rest
taken_apart at (Node.Or a b) t h = let p = cond_part at a _ t h in let q = cond_part at b _ t p.rest in taken at (Node.Or a b) t (Tree.condition (Cond.or p.form q.form)) (record { kind = refl; variable = refl; bound = refl; one = p.there; two = q.there; three = tt }) q.rest
taken_apart at (Node.Same a b) t h = let p = cond_part at a _ t h in let q = cond_part at b _ t p.rest in taken at (Node.Same a b) t (Tree.condition (Cond.same p.form q.form)) (record { kind = refl; variable = refl; bound = refl; one = p.there; two = q.there; three = tt }) q.rest
taken_apart at (Node.Le a b) t h = let p = form_part at a _ t h in let q = form_part at b _ t p.rest in taken at (Node.Le a b) t (Tree.condition (Cond.le p.form q.form)) (record { kind = refl; variable = refl; bound = refl; one = p.there; two = q.there; three = tt }) q.rest
taken_apart at (Node.Lt a b) t h = let p = form_part at a _ t h in let q = form_part at b _ t p.rest in taken at (Node.Lt a b) t (Tree.condition (Cond.lt p.form q.form)) (record { kind = refl; variable = refl; bound = refl; one = p.there; two = q.there; three = tt }) q.rest
taken_apart at (Node.EqNum a b) t h = let p = form_part at a _ t h in let q = form_part at b _ t p.rest in taken at (Node.EqNum a b) t (Tree.condition (Cond.equal p.form q.form)) (record { kind = refl; variable = refl; bound = refl; one = p.there; two = q.there; three = tt }) q.rest
taken_apart at (Node.Ite a b c) t h = let p = cond_part at a _ t h in let q = cond_part at b _ t p.rest in let r = cond_part at c _ t q.rest in taken at (Node.Ite a b c) t (Tree.condition (Cond.ite p.form q.form r.form)) (record { kind = refl; variable = refl; bound = refl; one = p.there; two = q.there; three = r.there }) r.rest

-- A child has a number below that of the node.
before_part : (ns : List Node) (i : ℕ) (p : Option ℕ) (u : Option Tree) → length ns ≡ i → PartTree (tree_at ns) p u → IsBefore p i
before_part ns i None u e h = tt
before_part ns i (Some p) None e h = absurd h
before_part ns i (Some p) (Some u) e h = let l = tree_within ns p u h in omega (arith, e, l)

pub parts_before : (ns : List Node) (i : ℕ) (n : Node) → IsGraph ns → slice_get ns i ≡ Some n → IsBefore (first n) i × IsBefore (second n) i × IsBefore (third n) i
parts_before ns i n g h =
    let s = split_at ns i n h in
    let r = g.each i (slice_get_within ns i n h) in
    let p = taken_apart (tree_at s.before) n r.0 (sym (tree_of_node ns i n s) ∙ r.1) in
    (before_part s.before i (first n) (first_tree r.0) s.place p.one, before_part s.before i (second n) (second_tree r.0) s.place p.two, before_part s.before i (third n) (third_tree r.0) s.place p.three)

within_part : (ns : List Node) (p : Option ℕ) (u : Option Tree) → PartTree (tree_at ns) p u → IsBefore p (length ns)
within_part ns None u h = tt
within_part ns (Some p) None h = absurd h
within_part ns (Some p) (Some u) h = tree_within ns p u h

pub parts_within : (ns : List Node) (n : Node) (t : Tree) → assembled (tree_at ns) n ≡ Some t → IsBefore (first n) (length ns) × IsBefore (second n) (length ns) × IsBefore (third n) (length ns)
parts_within ns n t h =
    let p = taken_apart (tree_at ns) n t h in
    (within_part ns (first n) (first_tree t) p.one, within_part ns (second n) (second_tree t) p.two, within_part ns (third n) (third_tree t) p.three)

pub node_at : (ns : List Node) (i : ℕ) → i < length ns → (n : Node) × (slice_get ns i ≡ Some n)
node_at [] i h = absurd (omega (arith, h))
node_at (n ∷ ns) zero h = (n, refl)
node_at (n ∷ ns) (suc i) h = node_at ns i (omega (arith, h))
