use Rattle.heylo_formula.specs.PlainTrees.{cond_of}
use Rattle.heylo_formula.proofs.SameRenaming.{copied_in}
use Rattle.heylo_formula.proofs.forms.Cond.copy.Goals as goal

pub returns : goal.returns
returns c = copied_in (cond_of c.args.self.now) c.rename.result c.rename.ensures
