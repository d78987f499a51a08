use Rattle.std.proofs.Common.{subst, sym}
use Rattle.linear_form.specs.internal.GoalParts.{Compares}
use Rattle.linear_form.proofs.ReadyParts.{compared}
use Rattle.linear_form.proofs.ready_parts.compares.Goals as goal

pub returns-in-Le : goal.returns-in-Le
returns-in-Le c t = subst Compares (sym c.in-Of.is) (compared c.in-Of.node c.in-Le.is)

pub returns-in-Le-2 : goal.returns-in-Le-2
returns-in-Le-2 c t = subst Compares (sym c.in-Of.is) (compared c.in-Of.node c.in-Le.is)
