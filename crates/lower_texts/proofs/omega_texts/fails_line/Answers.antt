use Rattle.heyvl_acts.specs.Acts.{procedure_at}
use Rattle.heyvl_acts.specs.PlainActs.{procedures_of}
use Rattle.lower_goals.specs.OmegaPairs.{places}
use Rattle.lower_texts.proofs.FirstScopes.{shown_as}
use Rattle.lower_texts.proofs.Lines.{step_told}
use Rattle.lower_texts.proofs.Procedures.{few_variables, name_is, procedure_is}
use Rattle.lower_texts.proofs.omega_texts.fails_line.Goals as goal
use Rattle.verdict_report.specs.GoalNames.{names_of_made}
use Rattle.lower_texts.specs.OmegaTexts.{step_text}
use Rattle.std.proofs.Common.{ap, ap₂, codes, ◌++◌, ◌∙◌}
use Rattle.verdict_report.specs.Settings.{Names}
use Rattle.verdict_report.specs.States.{state_text}

pub shown_variables-requires : goal.shown_variables-requires
shown_variables-requires c = few_variables c.args.typed.now c.args.p c.index-procedure.result.now c.requires.rules c.requires.first c.index-procedure.ensures

pub returns : goal.returns
returns c =
    let ps = procedures_of c.args.typed.now in
    let name = name_is c.args.typed.now c.args.p c.index-procedure.result.now c.requires.first c.index-procedure.ensures in
    let shown = shown_as (procedure_at ps c.args.p) _ c.in_ok-shown.shown.items (procedure_is c.args.typed.now.procs.items c.args.p c.index-procedure.result.now c.requires.first c.index-procedure.ensures) c.in_ok-shown.ensures c.requires.pair.loop in
    let said = state_text (names_of_made c.in_ok-made.made) (places (procedure_at ps c.args.p) c.requires.pair.loop.head) c.args.state.now in
    record {
      pair = c.requires.pair;
      made = c.in_ok-made.made;
      is_made = c.in_ok-made.ensures c.requires.pair;
      is = step_told (procedure_at ps c.args.p).name (codes "fails") (step_text c.args.step) said _ _ _
          (rw (c.as_bytes.ensures, name) at c.in_ok-text.ensures)
          (rw c.deref.ensures.value at c.in_ok-write_state.ensures ∙ ap (λ x. c.in_ok-text.text.items ++ x) (ap₂ (λ (n : Names) xs. state_text n xs c.args.state.now) c.names_of_made-own.ensures shown))
          c.in_ok-extend_from_slice.ensures.items;
    }
