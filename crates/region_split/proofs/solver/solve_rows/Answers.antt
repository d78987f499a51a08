use Rattle.std.proofs.Common.{subst, sym, List}
use Rattle.heylo_formula.specs.declared.types.Ty.{Ty}
use Rattle.linear_elim.specs.Answers.{IsAnswer}
use Rattle.region_split.proofs.solver.solve_rows.Goals as goal

pub returns : goal.returns
returns c = λ g ps denied e t. c.told.ensures g ps denied c.args.list.now e (subst (λ (tys : List Ty). IsAnswer c.args.list.now tys c.in_ok-eliminate.field-0) (sym t) c.in_ok-eliminate.ensures.answer)
