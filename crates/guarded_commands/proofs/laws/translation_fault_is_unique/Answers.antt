use Rattle.guarded_commands.proofs.TranslationClauses.{no_translation_fault, translation_fault_unique}
use Rattle.guarded_commands.proofs.laws.translation_fault_is_unique.Goals as goal

pub returns-clause-unique : goal.returns-clause-unique
returns-clause-unique c = translation_fault_unique

pub returns-clause-none : goal.returns-clause-none
returns-clause-none c = no_translation_fault
