use Rattle.std.proofs.Common.{arith}
use Rattle.heylo_formula.specs.Sizes.{nodes, depth}
use Rattle.heylo_graph.specs.Trees.{Tree}
use Rattle.vp_generator.proofs.GraphForms.{passes, keeps}
use Rattle.vp_generator.proofs.nodes_of_acts.small.Goals as goal

pub returns-then-nodes-most : goal.returns-then-nodes-most
returns-then-nodes-most c = λ f s. passes c.args.most (nodes f) c.nodes.result (c.nodes.ensures (Tree.formula f) s) c.if-nodes-most.true

pub returns-then-depth-gt-DEEPEST : goal.returns-then-depth-gt-DEEPEST
returns-then-depth-gt-DEEPEST c = λ f s. passes 1000 (depth f) c.depth.result (c.depth.ensures (Tree.formula f) s) c.if-depth-gt-DEEPEST.true

pub returns : goal.returns
returns c = λ f s. (s, record { few = keeps c.args.most (nodes f) c.nodes.result c.requires.most (c.nodes.ensures (Tree.formula f) s) c.if-nodes-most.false; shallow = keeps 1000 (depth f) c.depth.result (omega arith) (c.depth.ensures (Tree.formula f) s) c.if-depth-gt-DEEPEST.false })
