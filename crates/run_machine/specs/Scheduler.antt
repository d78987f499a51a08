-- Schedulers: a tree has a decision for the next step, and below it a tree for each outcome of this
-- step. So a scheduler is deterministic and may depend on the whole history of a run. Where a tree
-- is missing, no decision is made. This project's own.
use Rattle.run_machine.specs.Step.{Decision}

mutual
  -- A scheduler: its decision, and how it continues after each outcome.
  pub data Tree : Type 0 where
    leaf : Tree
    node : Decision → Forest → Tree

  -- The schedulers for a list of outcomes.
  pub data Forest : Type 0 where
    no_trees : Forest
    trees : Tree → Forest → Forest

-- The decision for the next step.
abbrev pub decision : Tree → Decision
decision Tree.leaf = Decision.none
decision (Tree.node d ts) = d

-- The trees for the outcomes of the next step.
abbrev pub under : Tree → Forest
under Tree.leaf = Forest.no_trees
under (Tree.node d ts) = ts

-- The tree for the first outcome.
abbrev pub first : Forest → Tree
first Forest.no_trees = Tree.leaf
first (Forest.trees t ts) = t

-- The trees for the outcomes after the first.
abbrev pub rest : Forest → Forest
rest Forest.no_trees = Forest.no_trees
rest (Forest.trees t ts) = ts
