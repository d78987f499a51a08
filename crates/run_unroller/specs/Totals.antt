-- The sums over a list of runs as the program adds them: from 0 on, in the order of the list, with
-- exact fractions. This project's own.
use Rattle.std.specs.Prelude.{ℕ, List, [], ◌∷◌, ◌++◌, Option, Some, pos}
use Prim.Native.Nat.{zero, suc}
use Rattle.heyvl_num.specs.Rational.{Rational, ratio, zeroʳ}
use Rattle.heyvl_num.specs.Value.{Value, zeroᵛ}
use Rattle.heyvl_num.specs.Value.Value.{finite}
use Rattle.heyvl_num.specs.Exact.{exact_sum, exact_product}
use Rattle.heyvl_num.specs.ExactValues.{exact_sumᵛ, exact_productᵛ}
use Rattle.heylo_formula.specs.Formula.{Form}
use Rattle.heyvl_acts.specs.Acts.{TypedProcedure}
use Rattle.quant_algebra.specs.ExactMeaning.{exact_value}
use Rattle.quant_algebra.specs.ExactOperators.{and_then}
use Rattle.run_machine.specs.Names.{Numbered, Stored}
use Rattle.run_machine.specs.Names as names
use Rattle.run_unroller.specs.RunLists.{RunList}

-- `xs`, with the run `x` before it if `x` has terminated: it has no item left.
abbrev pub if_ended : List Numbered → Rational × Stored → RunList → RunList
if_ended [] x xs = x ∷ xs
if_ended (i ∷ is) x xs = xs

-- The terminated runs of a list, in their order.
abbrev pub ended : RunList → RunList
ended [] = []
ended (x ∷ xs) = if_ended x.1.items x (ended xs)

-- `xs`, with the run `x` before it if `x` has items left.
abbrev pub if_running : List Numbered → Rational × Stored → RunList → RunList
if_running [] x xs = xs
if_running (i ∷ is) x xs = x ∷ xs

-- The runs of a list that have not terminated, in their order.
abbrev pub running : RunList → RunList
running [] = []
running (x ∷ xs) = if_running x.1.items x (running xs)

-- The sum so far plus `w` times a value, or nothing if a number overflows.
abbrev pub and_one : Option Value → Rational → Option Value → Option Value
and_one so_far w value = and_then so_far
    (λ s. and_then value (λ v. and_then (exact_productᵛ (finite w) v) (λ x. exact_sumᵛ s x)))

-- The sum so far plus the values of the runs by `f`, each times the run's weight, or nothing if a
-- number overflows.
abbrev pub added : (Stored → Option Value) → Option Value → RunList → Option Value
added f so_far [] = so_far
added f so_far (x ∷ xs) = added f (and_one so_far x.0 (f x.1)) xs

-- The sum so far plus `w` times `v`, or nothing if a number overflows.
abbrev pub and_one_fraction : Option Rational → Rational → Rational → Option Rational
and_one_fraction so_far w v =
    and_then so_far (λ s. and_then (exact_product w v) (λ x. exact_sum s x))

-- The sum so far plus the fractions of the runs by `f`, each times the run's weight, or nothing if
-- a number overflows.
abbrev pub added_fractions : (Stored → Rational) → Option Rational → RunList → Option Rational
added_fractions f so_far [] = so_far
added_fractions f so_far (x ∷ xs) = added_fractions f (and_one_fraction so_far x.0 (f x.1)) xs

-- The sum so far plus the weights of the runs, or nothing if a number overflows.
abbrev pub added_weights : Option Rational → RunList → Option Rational
added_weights so_far [] = so_far
added_weights so_far (x ∷ xs) = added_weights (and_then so_far (λ s. exact_sum s x.0)) xs

-- The post in the state of a run.
abbrev pub post_of : Form → Stored → Option Value
post_of post c = exact_value post c.state

-- The reward of a run so far.
abbrev pub reward_of : Stored → Option Value
reward_of c = Some c.reward

-- The iterations of a loop in a run, by the loop's number.
abbrev pub turns_of : ℕ → Stored → Rational
turns_of number c = ratio (pos (names.turns_of c.turns number)) 1

-- The weighted sum of the post over the terminated runs.
abbrev pub post_total : Form → RunList → Option Value
post_total post rs = added (post_of post) (Some zeroᵛ) (ended rs)

-- The weighted sum of the rewards over all runs.
abbrev pub reward_total : RunList → Option Value
reward_total rs = added reward_of (Some zeroᵛ) rs

-- The mass not yet terminated: the sum of the weights of the runs that have items left.
abbrev pub running_total : RunList → Option Rational
running_total rs = added_weights (Some zeroʳ) (running rs)

-- The weighted sum of the iterations of a loop over all runs.
abbrev pub turns_total : ℕ → RunList → Option Rational
turns_total number rs = added_fractions (turns_of number) (Some zeroʳ) rs

-- The expected iterations of the first loops, which are numbered from 1.
abbrev pub all_turns : ℕ → RunList → Option (List Rational)
all_turns zero rs = Some []
all_turns (suc n) rs = and_then (all_turns n rs)
    (λ ts. and_then (turns_total (suc n) rs) (λ t. Some (ts ++ (t ∷ []))))

-- The sums over the runs: the post of the terminated ones, the reward of all, the mass not yet
-- terminated, and the expected iterations of each loop.
pub record Totals : Type 0 where
  pub post : Value
  pub reward : Value
  pub running : Rational
  pub turns : List Rational

-- The sums over runs of the procedure `p`, or nothing if a number overflows.
abbrev pub totals : TypedProcedure → RunList → Option Totals
totals p rs = and_then (post_total p.post rs)
    (λ post. and_then (reward_total rs)
    (λ reward. and_then (running_total rs)
    (λ running. and_then (all_turns p.loops rs)
    (λ turns. Some (record { post = post; reward = reward; running = running; turns = turns })))))
