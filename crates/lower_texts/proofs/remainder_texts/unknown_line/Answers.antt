use Rattle.heyvl_acts.specs.Acts.{procedure_at}
use Rattle.heyvl_acts.specs.PlainActs.{procedures_of}
use Rattle.lower_texts.proofs.Lines.{remainder_told}
use Rattle.lower_texts.proofs.Procedures.{name_is}
use Rattle.lower_texts.proofs.remainder_texts.unknown_line.Goals as goal
use Rattle.verdict_report.specs.GoalNames.{names_of_made}
use Rattle.lower_texts.specs.PlacedCauses.{placed}
use Rattle.std.proofs.Common.{ap, codes, length, ◌++◌, ◌∙◌}
use Rattle.verdict_report.specs.Causes.{cause_text}
use Rattle.verdict_report.specs.Settings.{Names}

pub returns : goal.returns
returns c =
    let name = name_is c.args.typed.now c.args.p c.index.result.now c.requires.first c.index.ensures in
    record {
      pair = c.requires.pair;
      made = c.in_ok-made.made;
      is_made = c.in_ok-made.ensures c.requires.pair;
      is = remainder_told (procedure_at (procedures_of c.args.typed.now) c.args.p).name (codes "unknown (start): ") (cause_text c.args.bytes.now (names_of_made c.in_ok-made.made) (placed (length c.args.bytes.now) c.args.cause.now)) _ _ _
          (rw (c.as_bytes-name.ensures, name) at c.in_ok-text.ensures)
          (c.in_ok-write_placed.ensures ∙ ap (λ (n : Names). c.in_ok-text.text.items ++ cause_text c.args.bytes.now n (placed (length c.args.bytes.now) c.args.cause.now)) c.names_of_made-own.ensures)
          c.in_ok-extend_from_slice.ensures.items;
    }
