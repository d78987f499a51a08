-- Remainder pairs: the first procedure has one loop, which has a ranking, and the second one gives
-- a bound over its inputs. This project's own.
use Rattle.std.specs.Prelude.{◌≡◌, true, [], Some, None}
use Rattle.heyvl_num.specs.Rational.{Rational}
use Rattle.heylo_formula.specs.Formula.{Form}
use Rattle.heyvl_acts.specs.Acts.{TypedProcedure, type_list}
use Rattle.lower_goals.specs.OneLoop.{OneLoop}

-- The procedure `q` is a coproc without body and outputs, whose inputs have the types of the inputs
-- of `p`, in order. Its pre is a formula over its inputs. In both procedures the inputs are
-- numbered from 0, so the pre is also a formula over the inputs of `p`, by position.
pub record IsInputBound (p q : TypedProcedure) : Type 0 where
  pub upper : q.co ≡ true
  pub no_body : q.body ≡ None
  pub no_output : q.outputs ≡ []
  pub inputs : type_list q.inputs ≡ type_list p.inputs

-- The procedure `p` has one loop, which has a ranking, and `q` gives a bound over its inputs.
pub record RemainderPair (p q : TypedProcedure) : Type 0 where
  pub loop : OneLoop p
  pub rank : Rational × Form
  pub ranked : loop.head.rank ≡ Some rank
  pub bound : IsInputBound p q
