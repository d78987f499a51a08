use Rattle.std.proofs.Common.{◌≡◌, ◌<◌, ap, sym, subst, ◌∙◌, length, get_or}
use Rattle.heyvl_acts.specs.Acts.{types_of}
use Rattle.run_machine.proofs.Procedures.{found_at, past_all}
use Rattle.run_machine.proofs.VariableTypes.{variable_type, no_variable}
use Rattle.run_machine.proofs.configuration_steps.type_of.Goals as goal

pub returns-in-None : goal.returns-in-None
returns-in-None c = let h = c.in-None.ensures.lookup in let e = rw c.deref.ensures.value at (past_all _ c.args.q h.3) in sym (ap (λ p. types_of p c.args.x) e)

pub returns-in-None-get : goal.returns-in-None-get
returns-in-None-get c = let h = c.in-Some.ensures.lookup in let e = rw c.deref.ensures.value at (found_at _ c.args.q c.in-Some.procedure.now h.3.0 h.1) in let k = c.in-None-get.ensures.lookup in let n = rw c.deref-in-Some.ensures.value at k.3 in no_variable c.in-Some.procedure.now c.args.x n ∙ sym (ap (λ p. types_of p c.args.x) e)

pub returns-in-Some-get : goal.returns-in-Some-get
returns-in-Some-get c = let h = c.in-Some.ensures.lookup in let e = rw c.deref.ensures.value at (found_at _ c.args.q c.in-Some.procedure.now h.3.0 h.1) in let k = c.in-Some-get.ensures.lookup in variable_type c.in-Some.procedure.now c.args.x c.in-Some-get.variable.now (subst (λ l. c.args.x < length l) c.deref-in-Some.ensures.value k.3.0) (subst (λ l. c.in-Some-get.variable.now ≡ get_or l c.args.x c.in-Some-get.variable.now) c.deref-in-Some.ensures.value k.1) ∙ sym (ap (λ p. types_of p c.args.x) e)
