-- Sums over runs: the upper sum adds rewards and posts, the weak sum adds posts and the mass not
-- yet terminated, and a third sum counts the iterations of a loop. This project's own.
use Rattle.std.specs.Prelude.{ℕ, Bool, true, false, List, [], ◌∷◌, pos}
use Rattle.heyvl_num.specs.Rational.{ratio}
use Rattle.heyvl_num.specs.Value.{Value, zeroᵛ, oneᵛ, ◌+ᵛ◌}
use Rattle.heyvl_num.specs.Value.Value.{finite}
use Rattle.heyvl_num.specs.WeightedSums.{weighted_sum}
use Rattle.heylo_formula.specs.State.{environment}
use Rattle.heylo_formula.specs.Choices.{Choices}
use Rattle.heylo_formula.specs.Formula.{Form}
use Rattle.heylo_formula.specs.Meaning.{value}
use Rattle.heylo_formula.specs.declared.values.Val.{Val}
use Rattle.run_machine.specs.Configurations.{Item, Config, Outcomes}

-- The value of a run that has not terminated, in place of its post: 0 in the upper sum, 1 in the
-- weak sum.
abbrev pub begun : Bool → Value
begun true = zeroᵛ
begun false = oneᵛ

-- The post in the final state of a terminated run; `begun up` if items are left.
abbrev pub ended : Bool → Form → List Item → List Val → Value
ended up post [] s = value post (environment s) Choices.stop
ended up post (i ∷ is) s = begun up

-- The summand of one run: in the upper sum its reward and its post, in the weak sum its post.
abbrev pub worth : Bool → Form → Config → Value
worth true post c = c.reward +ᵛ ended true post c.items c.state
worth false post c = ended false post c.items c.state

-- `sum_of up post cs`: the upper sum of `cs` if `up` is true, otherwise the weak sum. Let the post
-- be 1, one run of weight 1/2 have terminated with the reward 3, and another one of weight 1/2 not
-- have terminated, without a reward. Then the upper sum is 2, and the weak sum is 1.
abbrev pub sum_of : Bool → Form → Outcomes → Value
sum_of up post cs = weighted_sum (worth up post) cs

-- The iterations of the loop `n` in one run.
abbrev pub turns_in : ℕ → Config → Value
turns_in n c = finite (ratio (pos (c.turns n)) 1)

-- The expected iterations of the loop `n`.
abbrev pub turns_sum : ℕ → Outcomes → Value
turns_sum n cs = weighted_sum (turns_in n) cs
