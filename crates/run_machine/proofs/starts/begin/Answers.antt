use Rattle.std.proofs.Common.{◌++◌, ap, ◌∙◌, map, replicate}
use Rattle.heyvl_acts.specs.Acts.{acts_in, procedure_at}
use Rattle.heyvl_acts.specs.PlainActs.{procedures_of}
use Rattle.run_machine.specs.Names.{config_of, lists_of, numbered}
use Rattle.run_machine.proofs.FirstConfigs.{first_config}
use Rattle.run_machine.proofs.Procedures.{first_stored, stored_begun}
use Rattle.run_machine.proofs.starts.begin.Goals as goal

pub push_body-requires : goal.push_body-requires
push_body-requires c = c.requires.few_acts

pub returns-clause-stored : goal.returns-clause-stored
returns-clause-stored c = first_stored (procedures_of c.args.typed.now) c.args.p c.args.state.now c.in_ok-from_slice.field-0.items c.push_body.new.items.items (map lists_of c.new.result.items) c.zero.result c.in_ok-no_turns.field-0.items (c.in_ok-push_body.ensures ∙ ap (λ l. l ++ numbered c.args.p 0 (acts_in (procedure_at (procedures_of c.args.typed.now) c.args.p).body)) c.new-items.ensures.items) c.in_ok-from_slice.ensures.items (ap (map lists_of) c.new.ensures.items) c.zero.ensures (c.in_ok-no_turns.ensures ∙ ap (λ n. replicate n 0) c.loops_of.ensures)

pub returns-clause-first : goal.returns-clause-first
returns-clause-first c = ap (config_of (procedures_of c.args.typed.now)) (returns-clause-stored c) ∙ stored_begun (procedures_of c.args.typed.now) c.args.p c.args.state.now

pub returns-clause-config : goal.returns-clause-config
returns-clause-config c = λ r st. first_config (procedures_of c.args.typed.now) c.args.p c.args.state.now c.in_ok-from_slice.field-0.items c.push_body.new.items.items (map lists_of c.new.result.items) _ c.in_ok-no_turns.field-0.items 0 r st (c.in_ok-push_body.ensures ∙ ap (λ l. l ++ numbered c.args.p 0 (acts_in (procedure_at (procedures_of c.args.typed.now) c.args.p).body)) c.new-items.ensures.items) c.in_ok-from_slice.ensures.items (ap (map lists_of) c.new.ensures.items) (c.in_ok-no_turns.ensures ∙ ap (λ n. replicate n 0) c.loops_of.ensures)
