use Rattle.heylo_formula.specs.PlainTrees.{term_of}
use Rattle.heylo_formula.specs.Substitution as Replaced
use Rattle.vp_generator.proofs.BuiltForms.{stop_of_scale}
use Rattle.vp_generator.proofs.GraphForms.{made_form}
use Rattle.vp_generator.proofs.draws.part.Goals as goal

pub scaled-requires-clause-form : goal.scaled-requires-clause-form
scaled-requires-clause-form c = made_form c.args.most _ c.put.new.graph c.in-Ok.next (c.in-Ok.ensures.made c.requires.ready.form c.requires.ready.stands)

pub returns-in-Ok-clause-made : goal.returns-in-Ok-clause-made
returns-in-Ok-clause-made c = λ k s. c.scaled.ensures.made _ (c.in-Ok.ensures.made k s).0

pub returns-in-Err-clause-made : goal.returns-in-Err-clause-made
returns-in-Err-clause-made c = λ k s. stop_of_scale c.args.most c.args.one.now.0 (Replaced.subst c.args.var (term_of c.args.one.now.1) k) c.in-Err.stop (c.in-Err.ensures.made k s)
