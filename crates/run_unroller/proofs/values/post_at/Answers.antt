use Rattle.std.proofs.Common.{ap, sym, ◌∙◌}
use Rattle.std.specs.Prelude.{Some}
use Rattle.quant_algebra.specs.ExactMeaning.{exact_value}
use Rattle.run_unroller.proofs.FoundProcedures.{found_at, past_all, zero_value}
use Rattle.run_unroller.proofs.values.post_at.Goals as goal

pub returns-in-None : goal.returns-in-None
returns-in-None c =
    let h = c.in-None.ensures.lookup in
    let e = rw c.deref.ensures.value at (past_all _ c.args.p h.3) in
    ap Some (sym (zero_value _ c.zero.ensures)) ∙ sym (ap (λ q. exact_value q.post c.args.state.now) e)

pub returns-in-Value : goal.returns-in-Value
returns-in-Value c =
    let h = c.in-Some.ensures.lookup in
    let e = rw c.deref.ensures.value at (found_at _ c.args.p c.in-Some.procedure.now h.3.0 h.1) in
    c.in-Value.ensures.exact ∙ sym (ap (λ q. exact_value q.post c.args.state.now) e)

pub returns-in-Bits : goal.returns-in-Bits
returns-in-Bits c =
    let h = c.in-Some.ensures.lookup in
    let e = rw c.deref.ensures.value at (found_at _ c.args.p c.in-Some.procedure.now h.3.0 h.1) in
    c.in-Bits.ensures.exact ∙ sym (ap (λ q. exact_value q.post c.args.state.now) e)
