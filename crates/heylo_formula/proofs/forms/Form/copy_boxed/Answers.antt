use Rattle.heylo_formula.specs.PlainTrees.{form_of}
use Rattle.heylo_formula.proofs.SameRenaming.{copied_boxed}
use Rattle.heylo_formula.proofs.forms.Form.copy_boxed.Goals as goal

pub returns : goal.returns
returns c = copied_boxed (form_of c.args.self.now) c.rename_boxed.result c.rename_boxed.ensures
