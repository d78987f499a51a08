use Rattle.pgcl_front.proofs.TranslatedSums.{translated_sums}
use Rattle.pgcl_front.proofs.translation.translate.Goals as goal

pub returns-clause-sums : goal.returns-clause-sums
returns-clause-sums c = translated_sums c.args.tokens.now c.translate.result
