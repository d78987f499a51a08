use Rattle.run_script.proofs.Numbers.{fraction_exact}
use Rattle.run_script.proofs.lines.fraction.Goals as goal
use Rattle.std.proofs.Common.{◌∙◌}

pub returns : goal.returns
returns c = c.new.ensures ∙ fraction_exact c.args.num _ c.args.den c.signed.ensures c.requires.num c.requires.den
