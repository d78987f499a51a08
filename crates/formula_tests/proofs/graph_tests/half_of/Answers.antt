use Rattle.std.proofs.Common.{ap}
use Rattle.heylo_formula.specs.declared.forms.Cond as C
use Rattle.heylo_formula.specs.Formula.{Term}
use Rattle.heylo_formula.specs.Binders.{has_binder_in}
use Rattle.heylo_formula.specs.PlainTrees.{cond_of}
use Rattle.heylo_formula.proofs.exported.Mirrors.{constant_cond}
use Rattle.formula_tests.proofs.PlainGraphs.{ok_begins, ok_scale, no_binder, plain_put, scale_fits}
use Rattle.formula_tests.proofs.graph_tests.half_of.Goals as goal

pub subst-requires-clause-form : goal.subst-requires-clause-form
subst-requires-clause-form c = record { form = c.requires.form; stands = c.requires.stands }

pub subst-requires-clause-small : goal.subst-requires-clause-small
subst-requires-clause-small c = λ f s h. no_binder c.args.graph.now c.args.id f c.requires s h

pub join-requires : goal.join-requires
join-requires c = scale_fits c.subst.new.self c.args.half c.in_ok-part.part (plain_put c.args.graph.now c.subst.new.self c.args.id c.in_ok-part.part 0 (Term.truth (cond_of (C.Const c.args.truth))) (ap has_binder_in (constant_cond c.args.truth)) c.requires c.in_ok-part.ensures.tree)

pub returns-clause-begins : goal.returns-clause-begins
returns-clause-begins c = ok_begins c.args.graph.now c.subst.new.self c.join.new.self c.join.result c.in_ok-part.ensures.begins c.join.ensures.begins

pub returns-clause-plain : goal.returns-clause-plain
returns-clause-plain c = ok_scale c.subst.new.self c.join.new.self c.args.half c.in_ok-part.part c.join.result (plain_put c.args.graph.now c.subst.new.self c.args.id c.in_ok-part.part 0 (Term.truth (cond_of (C.Const c.args.truth))) (ap has_binder_in (constant_cond c.args.truth)) c.requires c.in_ok-part.ensures.tree) c.join.ensures.tree
