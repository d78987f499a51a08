use Rattle.spelled_files.proofs.exported.ArmedFiles.{program_armed}
use Rattle.spelled_files.proofs.exported.FewParts.{program_few_parts}
use Rattle.spelled_files.proofs.exported.FewProcedures.{one_in_program}
use Rattle.spelled_files.proofs.exported.ProgramFiles.{stops_program}
use Rattle.heyvl_files.proofs.programs.program_file.Goals as goal
use Rattle.spelled_files.specs.Programs.IsProgramFault.{static}
use Rattle.heyvl_syntax.specs.Procedures.{procedures}
use Rattle.static_rules.specs.Files.{first_fault}
use Rattle.std.proofs.Common.{None, Some, ap, ◌≡◌}
use Rattle.typed_expressions.specs.Findings.{first}

pub resolve-requires-clause-few : goal.resolve-requires-clause-few
resolve-requires-clause-few c = one_in_program c.args.bytes.now c.in-Ok.file c.in-Ok.ensures

pub resolve-requires-clause-parts : goal.resolve-requires-clause-parts
resolve-requires-clause-parts c = program_few_parts c.args.bytes.now (procedures c.in-Ok.file) c.in-Ok.ensures c.requires

pub resolve-requires-clause-armed : goal.resolve-requires-clause-armed
resolve-requires-clause-armed c = program_armed c.args.bytes.now (procedures c.in-Ok.file) c.in-Ok.ensures

pub returns-in-Err-clause-made : goal.returns-in-Err-clause-made
returns-in-Err-clause-made c = stops_program c.args.bytes.now c.in-Err.stop c.in-Err.ensures

pub returns-in-Ok-resolve-clause-made : goal.returns-in-Ok-resolve-clause-made
returns-in-Ok-resolve-clause-made c =
    let none : first_fault (procedures c.in-Ok.file) ≡ None = ap first c.in-Ok-resolve.ensures.gives.0 in
    record { source = c.in-Ok.ensures; faultless = none }

pub returns-in-Err-Fault-clause-made : goal.returns-in-Err-Fault-clause-made
returns-in-Err-Fault-clause-made c =
    let fault : first_fault (procedures c.in-Ok.file) ≡ Some (c.in-Err-Fault.number, c.in-Err-Fault.place) = rw c.in-Err-Fault.field-0-is at c.in-Err-Fault.ensures.gives in
    static (procedures c.in-Ok.file) c.in-Ok.ensures fault

pub returns-in-Ok-resolve-clause-sums : goal.returns-in-Ok-resolve-clause-sums
returns-in-Ok-resolve-clause-sums c = c.program_files_have_sums.ensures c.args.bytes.now (procedures c.in-Ok.file)
