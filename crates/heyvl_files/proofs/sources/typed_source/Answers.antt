use Rattle.heyvl_syntax.specs.Procedures.{procedures}
use Rattle.spelled_files.proofs.exported.ArmedFiles.{spelled_armed}
use Rattle.spelled_files.proofs.exported.FewParts.{spelled_few_parts}
use Rattle.spelled_files.proofs.exported.FewProcedures.{few_in_file}
use Rattle.heyvl_files.proofs.sources.typed_source.Goals as goal
use Rattle.spelled_files.specs.Sources.IsFileFault.{static}
use Rattle.static_rules.specs.Files.{first_fault}
use Rattle.typed_expressions.specs.Findings.{first}
use Rattle.std.proofs.Common.{None, Some, ap, ◌≡◌}

pub typed_file-requires-clause-few : goal.typed_file-requires-clause-few
typed_file-requires-clause-few c = let source = c.in_ok-file.ensures in few_in_file c.in_ok-file.file source.tokens source.within source.is_file

pub typed_file-requires-clause-parts : goal.typed_file-requires-clause-parts
typed_file-requires-clause-parts c = spelled_few_parts c.args.bytes.now (procedures c.in_ok-file.file) c.in_ok-file.ensures c.requires

pub typed_file-requires-clause-armed : goal.typed_file-requires-clause-armed
typed_file-requires-clause-armed c = let source = c.in_ok-file.ensures in spelled_armed (procedures c.in_ok-file.file) source.tokens source.is_file

pub returns-in-Ok : goal.returns-in-Ok
returns-in-Ok c =
    let none : first_fault (procedures c.in_ok-file.file) ≡ None = ap first c.in-Ok.ensures.gives.0 in
    record { file = procedures c.in_ok-file.file; spelled = c.in_ok-file.ensures; faultless = none; same = c.in-Ok.ensures.gives.1; ready = c.in-Ok.ensures.ready c.args.bytes.now c.requires c.in_ok-file.ensures }

pub returns-in-Err-Fault : goal.returns-in-Err-Fault
returns-in-Err-Fault c =
    let fault : first_fault (procedures c.in_ok-file.file) ≡ Some (c.in-Err-Fault.number, c.in-Err-Fault.place) = rw c.in-Err-Fault.field-0-is at c.in-Err-Fault.ensures.gives in
    static (procedures c.in_ok-file.file) c.in_ok-file.ensures fault
