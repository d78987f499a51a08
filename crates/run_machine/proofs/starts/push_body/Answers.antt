use Rattle.std.proofs.Common.{◌≡◌, ◌++◌, ap, sym, ◌∙◌, subst, arith, length}
use Rattle.std.specs.Prelude.{OnOk}
use Rattle.heyvl_acts.specs.Acts.{acts_in}
use Rattle.heyvl_acts.specs.Places.{in_order}
use Rattle.heyvl_acts.specs.PlainActs.{acts_of, body_of}
use Rattle.run_machine.specs.Names.{numbered}
use Rattle.run_machine.proofs.Procedures.{found_at, past_all, nothing_more}
use Rattle.run_machine.proofs.starts.push_body.Goals as goal

pub push_block-requires : goal.push_block-requires
push_block-requires c = let h = c.in-Some.ensures.lookup in let e = rw c.deref.ensures.value at (found_at _ c.args.p c.in-Some.procedure.now h.3.0 h.1) in let f = ap (λ q. length (in_order (acts_in q.body))) e ∙ ap (λ b. length (in_order (acts_in (body_of b)))) c.in-Some-body.is in let r = c.requires c.args.p in rw c.deref-in-Some-body.ensures.value (omega (arith, r, f))

pub returns-in-None : goal.returns-in-None
returns-in-None c = let h = c.in-None.ensures.lookup in let e = rw c.deref.ensures.value at (past_all _ c.args.p h.3) in nothing_more _ c.args.p _ (ap (λ q. q.body) e)

pub returns-in-None-body : goal.returns-in-None-body
returns-in-None-body c = let h = c.in-Some.ensures.lookup in let e = rw c.deref.ensures.value at (found_at _ c.args.p c.in-Some.procedure.now h.3.0 h.1) in nothing_more _ c.args.p _ (ap (λ q. q.body) e ∙ ap body_of c.in-None-body.is)

pub returns-in-Some-body : goal.returns-in-Some-body
returns-in-Some-body c = let h = c.in-Some.ensures.lookup in let e = rw c.deref.ensures.value at (found_at _ c.args.p c.in-Some.procedure.now h.3.0 h.1) in let f = ap (λ q. numbered c.args.p 0 (acts_in q.body)) e ∙ ap (λ b. numbered c.args.p 0 (acts_in (body_of b))) c.in-Some-body.is in subst (λ l. OnOk c.push_block.result (c.push_block.new.items.items ≡ c.args.items.now.items ++ l)) (ap (λ v. numbered c.args.p 0 (acts_of v)) c.deref-in-Some-body.ensures.value ∙ sym f) c.push_block.ensures
