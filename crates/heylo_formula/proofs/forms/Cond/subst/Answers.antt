use Rattle.heylo_formula.specs.PlainTrees.{cond_of, term_of}
use Rattle.heylo_formula.proofs.SubstitutionResults.{given_truth}
use Rattle.heylo_formula.proofs.forms.Cond.subst.Goals as goal

pub returns-clause-truth : goal.returns-clause-truth
returns-clause-truth c = given_truth c.args.var (term_of c.args.with.now) (cond_of c.args.self.now) c.with_term.result c.with_term.ensures
