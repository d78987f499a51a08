use Rattle.linear_elim.proofs.Numbers.{ok_map}
use Rattle.linear_elim.proofs.EndAnswers.{settled}
use Rattle.linear_elim.proofs.full_elimination.eliminate.Goals as goal

pub returns-clause-settles : goal.returns-clause-settles
returns-clause-settles c = ok_map c.eliminate_in.result _ _ (λ o h. settled c.args.rows.now c.args.vars.now o h) c.eliminate_in.ensures
