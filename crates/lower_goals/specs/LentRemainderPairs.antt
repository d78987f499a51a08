-- Remainder pairs as the program borrows them. A remainder pair is a proc with `@wlp` and one loop,
-- which has a ranking, and a coproc whose pre is a bound over the inputs of the proc. This
-- project's own.
use Rattle.std.specs.Prelude.{◌≡◌, Option, Some, None}
use Rattle.heylo_formula.specs.PlainTrees.{form_of}
use Rattle.heyvl_acts.specs.Acts.{TypedProcedure}
use Rattle.heyvl_acts.specs.PlainActs.{acts_of}
use Rattle.lower_goals.specs.RemainderPairs.{RemainderPair}
use Rattle.lower_goals.specs.declared.remainder_pairs.RankedParts.{RankedParts}

-- `IsPairAs p q parts`: the procedures `p` and `q` are a remainder pair. `parts` are the acts
-- before the loop of `p`, the loop's number, and its ranking with the step.
pub record IsPairAs (p q : TypedProcedure) (parts : RankedParts) : Type 0 where
  pub pair : RemainderPair p q
  pub front : pair.loop.front ≡ acts_of parts.front.now
  pub number : pair.loop.head.number ≡ parts.number
  pub rank : pair.rank ≡ (parts.step, form_of parts.ranking.now)

-- `ArePair p q result`: `result` are the parts of the remainder pair `p` and `q`, or `None` if they
-- are no remainder pair.
abbrev pub ArePair : TypedProcedure → TypedProcedure → Option RankedParts → Type 0
ArePair p q (Some parts) = IsPairAs p q parts
ArePair p q None = RemainderPair p q → ⊥
