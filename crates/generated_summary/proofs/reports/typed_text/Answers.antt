use Rattle.generated_files.specs.Laws.{IsFaultless}
use Rattle.generated_summary.proofs.NoFault.{no_fault}
use Rattle.generated_summary.proofs.reports.typed_text.Goals as goal
use Rattle.spelled_files.specs.Sources.{IsSourceStop}
use Rattle.spelled_files.specs.declared.stops.SourceStop.{SourceStop}
use Rattle.std.proofs.Common.{List, subst, sym, ℕ}

pub unreachable-requires : goal.unreachable-requires
unreachable-requires c =
    let none = subst (λ (z : List ℕ). IsFaultless c.args.lines z) (sym c.requires.made) (c.generated_texts_are_faultless.ensures c.args.lines c.requires.within) in
    no_fault c.sources_have_no_fault.ensures c.spelling_is_unique.ensures c.args.lines c.args.text.now none c.in-Err-Fault.field-0-0 c.in-Err-Fault.field-0-1
    (subst (λ (stop : SourceStop). IsSourceStop c.args.text.now stop) c.in-Err-Fault.field-0-is c.in-Err-Fault.ensures)
