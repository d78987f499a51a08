use Rattle.std.proofs.Common.{ap, ◌∙◌}
use Rattle.heylo_formula.specs.PlainTrees.{form_of}
use Rattle.heyvl_acts.proofs.exported.PlainActsAre.{head_of}
use Rattle.heyvl_acts.specs.Acts.{Act, Acts, join, types_of}
use Rattle.heyvl_acts.specs.PlainActs.{acts_of, procedure_of}
use Rattle.k_induction.specs.Copies.{must}
use Rattle.loop_encodings.specs.Encoding.{havocs, tested}
use Rattle.loop_encodings.proofs.AppendedActs.{one_more}
use Rattle.loop_encodings.proofs.loops.add_loop.Goals as goal

pub returns : goal.returns
returns c =
    c.in_ok-add_test.ensures
    ∙ (c.in_ok-add_havocs.ensures (tested c.args.procedure.now.co (head_of c.args.one.now) (acts_of c.args.body.now))
    ∙ (one_more _ _ _ (Act.check (must c.args.procedure.now.co) (form_of c.args.one.now.inv) c.args.one.now.span) _ c.in_ok-push.ensures.items (c.in_ok-stated.ensures ∙ ap (λ kind. Act.check kind (form_of c.args.one.now.inv) c.args.one.now.span) c.must.ensures)
    ∙ ap (λ found. join (acts_of c.args.made.now.items) (Acts.next (Act.check (must c.args.procedure.now.co) (form_of c.args.one.now.inv) c.args.one.now.span) (havocs c.args.procedure.now.co c.args.one.now.span (types_of (procedure_of c.args.procedure.now)) found (tested c.args.procedure.now.co (head_of c.args.one.now) (acts_of c.args.body.now))))) (c.deref.ensures.value ∙ c.in_ok-found.ensures.exact)))
