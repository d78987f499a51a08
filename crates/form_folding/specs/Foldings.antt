-- Folding of forms: sums of numbers are computed. This project's own; it is the constant folding of
-- compilers. `(1 + 2) + x` folds to `3 + x`.
use Rattle.std.specs.Prelude.{◌≡◌, ℕ, List, true}
use Rattle.heyvl_num.specs.Rational.{Rational, ◌+ʳ◌}
use Rattle.heyvl_num.specs.Value.Value.{finite}
use Rattle.heylo_formula.specs.Formula.{Form, Cond}
use Rattle.heylo_graph.specs.Trees.{Tree}
use Rattle.heylo_graph.specs.Nodes.{Stands}
use Rattle.heylo_graph.specs.declared.nodes.Node.{Node}
use Rattle.linear_rows.specs.Numbers.{fits}

mutual
  -- `FoldsTo f g`: the form `f` folds to `g`: sums of two numbers below 2^62 are computed.
  pub data FoldsTo : Form → Form → Type 0 where
    same : (f : Form) → FoldsTo f f
    numbers : (f g : Form) (x y : Rational) → FoldsTo f (Form.number (finite x))
        → FoldsTo g (Form.number (finite y)) → fits x ≡ true → fits y ≡ true
        → FoldsTo (Form.sum f g) (Form.number (finite (x +ʳ y)))
    sum : (f g h k : Form) → FoldsTo f h → FoldsTo g k → FoldsTo (Form.sum f g) (Form.sum h k)
    scale : (w : Rational) (f h : Form) → FoldsTo f h → FoldsTo (Form.scale w f) (Form.scale w h)
    iverson : (g k : Cond) → TestFoldsTo g k → FoldsTo (Form.iverson g) (Form.iverson k)
    select : (t u : Cond) (f g h k : Form) → TestFoldsTo t u → FoldsTo f h → FoldsTo g k
        → FoldsTo (Form.select t f g) (Form.select u h k)

  -- `TestFoldsTo g k`: the condition `g` folds to `k`.
  pub data TestFoldsTo : Cond → Cond → Type 0 where
    same_test : (g : Cond) → TestFoldsTo g g
    at_most : (f g h k : Form) → FoldsTo f h → FoldsTo g k → TestFoldsTo (Cond.le f g) (Cond.le h k)
    less : (f g h k : Form) → FoldsTo f h → FoldsTo g k → TestFoldsTo (Cond.lt f g) (Cond.lt h k)

-- `HasFolded ns i f`: the node with the number `i` has a tree to which the form `f` folds.
pub record HasFolded (ns : List Node) (i : ℕ) (f : Form) : Type 0 where
  pub form : Form
  pub stands : Stands ns i (Tree.formula form)
  pub folds : FoldsTo f form
