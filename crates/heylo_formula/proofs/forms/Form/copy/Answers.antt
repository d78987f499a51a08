use Rattle.heylo_formula.specs.PlainTrees.{form_of}
use Rattle.heylo_formula.proofs.SameRenaming.{copied}
use Rattle.heylo_formula.proofs.forms.Form.copy.Goals as goal

pub returns : goal.returns
returns c = copied (form_of c.args.self.now) c.rename.result c.rename.ensures
