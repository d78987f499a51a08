use Rattle.heyvl_acts.specs.Acts.{procedure_at}
use Rattle.heyvl_acts.specs.PlainActs.{procedures_of}
use Rattle.lower_texts.proofs.Lines.{remainder_told}
use Rattle.lower_texts.proofs.Procedures.{name_is}
use Rattle.lower_texts.proofs.remainder_texts.fails_line.Goals as goal
use Rattle.verdict_report.specs.GoalNames.{names_of_made}
use Rattle.std.proofs.Common.{ap, ap₂, codes, ◌++◌, ◌∙◌}
use Rattle.verdict_report.specs.LoopScopes.{interface_numbers}
use Rattle.verdict_report.specs.Settings.{Names}
use Rattle.verdict_report.specs.States.{state_text}

pub returns : goal.returns
returns c =
    let name = name_is c.args.typed.now c.args.p c.index.result.now c.requires.first c.index.ensures in
    record {
      pair = c.requires.pair;
      made = c.in_ok-made.made;
      is_made = c.in_ok-made.ensures c.requires.pair;
      is = remainder_told (procedure_at (procedures_of c.args.typed.now) c.args.p).name (codes "fails (start): ") (state_text (names_of_made c.in_ok-made.made) (interface_numbers (procedure_at (procedures_of c.args.typed.now) c.args.p)) c.args.state.now) _ _ _
          (rw (c.as_bytes-name.ensures, name) at c.in_ok-text.ensures)
          (rw c.deref.ensures.value at c.in_ok-write_state.ensures ∙ ap (λ x. c.in_ok-text.text.items ++ x) (ap₂ (λ (n : Names) xs. state_text n xs c.args.state.now) c.names_of_made-own.ensures c.in_ok-shown.ensures))
          c.in_ok-extend_from_slice.ensures.items;
    }
