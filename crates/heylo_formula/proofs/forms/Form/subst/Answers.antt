use Rattle.heylo_formula.specs.PlainTrees.{form_of, term_of}
use Rattle.heylo_formula.proofs.SubstitutionResults.{given_value}
use Rattle.heylo_formula.proofs.forms.Form.subst.Goals as goal

pub returns-clause-value : goal.returns-clause-value
returns-clause-value c = given_value c.args.var (term_of c.args.with.now) (form_of c.args.self.now) c.with_term.result c.with_term.ensures
