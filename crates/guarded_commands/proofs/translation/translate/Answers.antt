use Rattle.guarded_commands.proofs.TranslationClauses.{only_translation, only_translation_fault}
use Rattle.guarded_commands.proofs.translation.translate.Goals as goal

pub returns-clause-only : goal.returns-clause-only
returns-clause-only c = only_translation c.args.tokens.now c.file_or_fault.result c.file_or_fault.ensures.found c.file_or_fault.ensures.fault

pub returns-clause-only_fault : goal.returns-clause-only_fault
returns-clause-only_fault c = only_translation_fault c.args.tokens.now c.file_or_fault.result c.file_or_fault.ensures.found c.file_or_fault.ensures.fault
