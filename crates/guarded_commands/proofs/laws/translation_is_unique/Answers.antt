use Rattle.guarded_commands.proofs.TranslationClauses.{translation_unique}
use Rattle.guarded_commands.proofs.laws.translation_is_unique.Goals as goal

pub returns : goal.returns
returns c = translation_unique
