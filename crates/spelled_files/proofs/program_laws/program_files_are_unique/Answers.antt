use Rattle.spelled_files.proofs.exported.ProgramFiles.{fault_unique, file_unique, no_fault, spelled}
use Rattle.spelled_files.proofs.program_laws.program_files_are_unique.Goals as goal

pub returns-clause-file : goal.returns-clause-file
returns-clause-file c = file_unique c.pgcl_sources_are_unique.ensures.source

pub returns-clause-fault : goal.returns-clause-fault
returns-clause-fault c = fault_unique c.pgcl_sources_are_unique.ensures.source c.pgcl_sources_are_unique.ensures.fault c.pgcl_sources_are_unique.ensures.either

pub returns-clause-either : goal.returns-clause-either
returns-clause-either c = no_fault c.pgcl_sources_are_unique.ensures.source c.pgcl_sources_are_unique.ensures.fault c.pgcl_sources_are_unique.ensures.either

pub returns-clause-spelled : goal.returns-clause-spelled
returns-clause-spelled c = spelled c.translations_are_spelled.ensures
