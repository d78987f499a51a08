use Rattle.answer_laws.proofs.SingleTables.{decisions_give_one_verdict, misses_give_one_verdict}
use Rattle.answer_laws.proofs.laws.tables_give_one_verdict.Goals as goal

pub returns : goal.returns
returns c = record { decisions = decisions_give_one_verdict; misses = misses_give_one_verdict }
