use Rattle.std.proofs.Common.{sym, subst}
use Rattle.heylo_formula.specs.Formula.{Form, Term}
use Rattle.heylo_formula.specs.Substitution as Replaced
use Rattle.heylo_formula.proofs.exported.Mirrors.{constant_cond}
use Rattle.heylo_graph.specs.Trees.{Tree}
use Rattle.heylo_graph.proofs.exported.LongerLists.{fits, product_node, stands_longer}
use Rattle.vp_generator.specs.internal.FittingActs.{TermIsFit}
use Rattle.vp_generator.specs.internal.GraphSteps.{IsMade, IsReady}
use Rattle.vp_generator.proofs.GeneratorSteps.{flag_ready}
use Rattle.vp_generator.proofs.tosses.side.Goals as goal

pub put-requires-clause-ready : goal.put-requires-clause-ready
put-requires-clause-ready c = subst (λ g. IsReady c.args.most (TermIsFit c.args.var (Term.truth g)) c.args.graph.now c.args.form) (sym (constant_cond c.args.truth)) (flag_ready c.args.most c.args.var c.args.truth c.args.graph.now c.args.form c.requires.ready)

pub joined-requires-clause-fits : goal.joined-requires-clause-fits
joined-requires-clause-fits c = fits c.put.new.graph _ _ (product_node c.put.new.graph c.args.weight c.in-Ok.next c.args.span _ _ (stands_longer c.args.graph.now c.put.new.graph c.args.weight (Tree.formula c.requires.weight.form) c.in-Ok.ensures.begins c.requires.weight.stands) (c.in-Ok.ensures.made c.requires.ready.form c.requires.ready.stands).0)

pub returns-in-Ok-clause-made : goal.returns-in-Ok-clause-made
returns-in-Ok-clause-made c = λ k w s u. subst (λ g. IsMade c.args.most (Form.product w (Replaced.subst c.args.var (Term.truth g) k) c.args.span) c.joined.result c.joined.new.graph) (constant_cond c.args.truth) (c.joined.ensures.made _ (product_node c.put.new.graph c.args.weight c.in-Ok.next c.args.span _ _ (stands_longer c.args.graph.now c.put.new.graph c.args.weight (Tree.formula w) c.in-Ok.ensures.begins u) (c.in-Ok.ensures.made k s).0))
