-- A remainder pair by hand: `d = false`, and then `while !d { d = flip(1/2) }` with the ranking
-- `ite(d, 0, 2)` of step 1, and a coproc whose pre is 2.
use Rattle.std.proofs.Common.{◌≡◌, refl, true, false, [], ◌∷◌, pos}
use Rattle.std.specs.Prelude.{Some, None}
use Rattle.heyvl_num.specs.Rational.{Rational, ratio}
use Rattle.heyvl_num.specs.Value.{zeroᵛ, oneᵛ}
use Rattle.heyvl_num.specs.Value.Value.{finite}
use Rattle.heylo_formula.specs.Formula.{Form, Cond}
use Rattle.heylo_formula.specs.Substitution as Replaced
use Rattle.heylo_formula.specs.declared.types.Ty.{Ty}
use Rattle.heyvl_acts.specs.Acts.{Head, Act, Acts, TypedProcedure}
use Rattle.ranking_rule.specs.RankingGoals.{generated}
use Rattle.lower_goals.specs.OneLoop.{IsOneLoop}
use Rattle.lower_goals.specs.RemainderPairs.{RemainderPair}
use Rattle.lower_goals.specs.StartGoals.{start_goal}
use Rattle.lower_goals.proofs.Examples as plain

abbrev two_turns : Form
two_turns = Form.number (finite (ratio (pos 2) 1))

abbrev rank : Rational × Form
rank = (ratio (pos 1) 1, Form.select (Cond.flag 0) (Form.number zeroᵛ) two_turns)

abbrev head : Head
head = record { number = 1; k = 1; inv = Form.number oneᵛ; guard = Cond.not (Cond.flag 0); rank = Some rank; scope = 0 ∷ []; span = plain.nowhere }

abbrev two : TypedProcedure
two = record { name = []; co = false; weak = true; inputs = []; outputs = record { name = []; ty = Ty.Bool } ∷ []; locals = []; pre = Form.number oneᵛ; post = plain.post; body = Some (Acts.next (Act.set 0 plain.set_false plain.nowhere) (Acts.next (Act.loop head plain.body) Acts.done)); loops = 1; span = plain.nowhere }

abbrev bound : TypedProcedure
bound = record { name = []; co = true; weak = false; inputs = []; outputs = []; locals = []; pre = two_turns; post = Form.number zeroᵛ; body = None; loops = 0; span = plain.nowhere }

two_has_one_loop : IsOneLoop two plain.front head plain.body Acts.done
two_has_one_loop = record { whole = refl; plain_front = (tt, tt); plain_body = (tt, tt); plain_behind = tt; weak = refl; program = refl }

abbrev pair : RemainderPair two bound
pair = record {
  loop = record { front = plain.front; head = head; body = plain.body; behind = Acts.done; is = two_has_one_loop };
  rank = rank;
  ranked = refl;
  bound = record { upper = refl; no_body = refl; no_output = refl; inputs = refl };
}

-- A procedure with outputs and a body gives no bound, and neither does one that is no coproc.
no_pair : RemainderPair two two → ⊥
no_pair r = absurd (let e = r.bound.upper in cc)

-- The goal: 2 is at least the pre-expectation of the ranking over the assignment, which is 2 if the
-- guard holds. Its variable is d.
found_by_hand : generated plain.front rank ≡ Form.select (Cond.constant false) (Form.number zeroᵛ) two_turns
unfolding Replaced.subst
found_by_hand = refl

goal_by_hand : (start_goal two plain.front rank bound.pre).types ≡ Ty.Bool ∷ []
unfolding Replaced.subst
goal_by_hand = refl
