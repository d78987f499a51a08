-- The sizes of forms, conditions and terms.
use Rattle.std.specs.Prelude.{ℕ, ◌+◌, max}
use Rattle.heylo_formula.specs.Formula.{Form, Cond, Term}

-- The number of nodes of a form, those of its conditions included. `x0 + 1` has 3 nodes.
abbrev mutual
  pub nodes : Form → ℕ
  nodes (Form.number v) = 1
  nodes (Form.variable x) = 1
  nodes (Form.sum a b) = 1 + (nodes a + nodes b)
  nodes (Form.difference a b) = 1 + (nodes a + nodes b)
  nodes (Form.cut a b) = 1 + (nodes a + nodes b)
  nodes (Form.scale w a) = 1 + nodes a
  nodes (Form.product a b span) = 1 + (nodes a + nodes b)
  nodes (Form.min a b) = 1 + (nodes a + nodes b)
  nodes (Form.max a b) = 1 + (nodes a + nodes b)
  nodes (Form.imply a b) = 1 + (nodes a + nodes b)
  nodes (Form.co_imply a b) = 1 + (nodes a + nodes b)
  nodes (Form.validate a) = 1 + nodes a
  nodes (Form.co_validate a) = 1 + nodes a
  nodes (Form.embed g) = 1 + nodes_in g
  nodes (Form.iverson g) = 1 + nodes_in g
  nodes (Form.select g a b) = 1 + (nodes_in g + (nodes a + nodes b))
  nodes (Form.bind up y name ty a) = 1 + nodes a

  -- The number of nodes of a condition, those of its forms included.
  pub nodes_in : Cond → ℕ
  nodes_in (Cond.constant b) = 1
  nodes_in (Cond.flag x) = 1
  nodes_in (Cond.not g) = 1 + nodes_in g
  nodes_in (Cond.and g h) = 1 + (nodes_in g + nodes_in h)
  nodes_in (Cond.or g h) = 1 + (nodes_in g + nodes_in h)
  nodes_in (Cond.same g h) = 1 + (nodes_in g + nodes_in h)
  nodes_in (Cond.le a b) = 1 + (nodes a + nodes b)
  nodes_in (Cond.lt a b) = 1 + (nodes a + nodes b)
  nodes_in (Cond.equal a b) = 1 + (nodes a + nodes b)
  nodes_in (Cond.ite g h k) = 1 + (nodes_in g + (nodes_in h + nodes_in k))

-- The number of nodes of a term.
abbrev pub nodes_in_term : Term → ℕ
nodes_in_term (Term.truth g) = nodes_in g
nodes_in_term (Term.number f) = nodes f

-- The number of nodes on a longest path from the root of a form to a leaf. A leaf has depth 1, and
-- the sum `x0 + 1` has depth 2.
abbrev mutual
  pub depth : Form → ℕ
  depth (Form.number v) = 1
  depth (Form.variable x) = 1
  depth (Form.sum a b) = 1 + max (depth a) (depth b)
  depth (Form.difference a b) = 1 + max (depth a) (depth b)
  depth (Form.cut a b) = 1 + max (depth a) (depth b)
  depth (Form.scale w a) = 1 + depth a
  depth (Form.product a b span) = 1 + max (depth a) (depth b)
  depth (Form.min a b) = 1 + max (depth a) (depth b)
  depth (Form.max a b) = 1 + max (depth a) (depth b)
  depth (Form.imply a b) = 1 + max (depth a) (depth b)
  depth (Form.co_imply a b) = 1 + max (depth a) (depth b)
  depth (Form.validate a) = 1 + depth a
  depth (Form.co_validate a) = 1 + depth a
  depth (Form.embed g) = 1 + depth_in g
  depth (Form.iverson g) = 1 + depth_in g
  depth (Form.select g a b) = 1 + max (depth_in g) (max (depth a) (depth b))
  depth (Form.bind up y name ty a) = 1 + depth a

  -- The number of nodes on a longest path from the root of a condition to a leaf.
  pub depth_in : Cond → ℕ
  depth_in (Cond.constant b) = 1
  depth_in (Cond.flag x) = 1
  depth_in (Cond.not g) = 1 + depth_in g
  depth_in (Cond.and g h) = 1 + max (depth_in g) (depth_in h)
  depth_in (Cond.or g h) = 1 + max (depth_in g) (depth_in h)
  depth_in (Cond.same g h) = 1 + max (depth_in g) (depth_in h)
  depth_in (Cond.le a b) = 1 + max (depth a) (depth b)
  depth_in (Cond.lt a b) = 1 + max (depth a) (depth b)
  depth_in (Cond.equal a b) = 1 + max (depth a) (depth b)
  depth_in (Cond.ite g h k) = 1 + max (depth_in g) (max (depth_in h) (depth_in k))
