use Rattle.heylo_formula.specs.PlainTrees.{term_of}
use Rattle.heylo_graph.proofs.SubstitutedNodes.{ok_subst}
use Rattle.heylo_graph.proofs.graphs.Graph.subst.Goals as goal

pub returns-else-is_err-clause-tree : goal.returns-else-is_err-clause-tree
returns-else-is_err-clause-tree c = ok_subst c.args.var (term_of c.args.with.now) c.args.self.now c.substituted_in-result.new.self c.args.id c.substituted_in-result.result c.substituted_in-result.ensures.begins c.substituted_in-result.ensures.moves
