use Rattle.guarded_commands.proofs.SourceClauses.{fault_unique, no_fault, source_unique}
use Rattle.guarded_commands.proofs.source_laws.pgcl_sources_are_unique.Goals as goal

pub returns-clause-source : goal.returns-clause-source
returns-clause-source c = source_unique c.tokens_are_unique.ensures

pub returns-clause-fault : goal.returns-clause-fault
returns-clause-fault c = fault_unique c.tokens_are_unique.ensures c.faults_are_unique.ensures c.tokens_exclude_faults.ensures

pub returns-clause-either : goal.returns-clause-either
returns-clause-either c = no_fault c.tokens_are_unique.ensures c.tokens_exclude_faults.ensures
