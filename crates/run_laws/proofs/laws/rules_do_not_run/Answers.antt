use Rattle.run_laws.proofs.Bare.{rules_do_not_run, sums_are_bare}
use Rattle.run_laws.proofs.laws.rules_do_not_run.Goals as goal

pub returns : goal.returns
returns c = record { sums = sums_are_bare; bounds = rules_do_not_run }
