use Rattle.heylo_formula.specs.Formula.{Form, Cond, Term}
use Rattle.heylo_formula.specs.Substitution as Replaced
use Rattle.std.proofs.Common.{true, false}
use Rattle.heylo_graph.specs.Trees.{Tree}
use Rattle.heylo_graph.proofs.exported.LongerLists.{stands_longer}
use Rattle.vp_generator.proofs.BuiltForms.{stop_of_right}
use Rattle.vp_generator.proofs.GraphForms.{ready_longer, formula_longer, made_form}
use Rattle.vp_generator.proofs.tosses.both_sides.Goals as goal

pub side-requires-in-Ok-clause-ready : goal.side-requires-in-Ok-clause-ready
side-requires-in-Ok-clause-ready c = ready_longer c.args.most _ c.args.graph.now c.side.new.graph c.args.form c.in-Ok.ensures.begins c.requires.ready

pub side-requires-in-Ok-clause-weight : goal.side-requires-in-Ok-clause-weight
side-requires-in-Ok-clause-weight c = formula_longer c.args.graph.now c.side.new.graph c.args.tails c.in-Ok.ensures.begins c.requires.tails

pub added-requires-clause-first : goal.added-requires-clause-first
added-requires-clause-first c = formula_longer c.side.new.graph c.side-in-Ok.new.graph c.in-Ok.first c.in-Ok-side.ensures.begins (made_form c.args.most _ c.side.new.graph c.in-Ok.first (c.in-Ok.ensures.made c.requires.ready.form c.requires.heads.form c.requires.ready.stands c.requires.heads.stands))

pub added-requires-clause-second : goal.added-requires-clause-second
added-requires-clause-second c = made_form c.args.most _ c.side-in-Ok.new.graph c.in-Ok-side.second (c.in-Ok-side.ensures.made c.requires.ready.form c.requires.tails.form (stands_longer c.args.graph.now c.side.new.graph c.args.form (Tree.formula c.requires.ready.form) c.in-Ok.ensures.begins c.requires.ready.stands) (stands_longer c.args.graph.now c.side.new.graph c.args.tails (Tree.formula c.requires.tails.form) c.in-Ok.ensures.begins c.requires.tails.stands))

pub returns-in-Ok-side-clause-made : goal.returns-in-Ok-side-clause-made
returns-in-Ok-side-clause-made c = λ k h t s u v. c.added.ensures.made _ _ (stands_longer c.side.new.graph c.side-in-Ok.new.graph c.in-Ok.first _ c.in-Ok-side.ensures.begins (c.in-Ok.ensures.made k h s u).0) (c.in-Ok-side.ensures.made k t (stands_longer c.args.graph.now c.side.new.graph c.args.form (Tree.formula k) c.in-Ok.ensures.begins s) (stands_longer c.args.graph.now c.side.new.graph c.args.tails (Tree.formula t) c.in-Ok.ensures.begins v)).0

pub returns-in-Err-side-clause-made : goal.returns-in-Err-side-clause-made
returns-in-Err-side-clause-made c = λ k h t s u v. stop_of_right c.args.most (Form.product h (Replaced.subst c.args.var (Term.truth (Cond.constant true)) k) c.args.span) (Form.product t (Replaced.subst c.args.var (Term.truth (Cond.constant false)) k) c.args.span) c.in-Err-side.stop (c.in-Err-side.ensures.made k t (stands_longer c.args.graph.now c.side.new.graph c.args.form (Tree.formula k) c.in-Ok.ensures.begins s) (stands_longer c.args.graph.now c.side.new.graph c.args.tails (Tree.formula t) c.in-Ok.ensures.begins v))
