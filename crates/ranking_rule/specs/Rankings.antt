-- Rankings of loops: while the guard holds, the ranking is at least the step plus its expected
-- value after the body. Source: ranking functions for expected running times, as upper bounds on a
-- loop's iterations; this form is this project's own. For the loop `while x > 0 { x = x - 1 }` over
-- a UInt, `x` is a ranking with the step 1.
use Rattle.std.specs.Prelude.{◌≡◌, ℕ, List, Some, if◌then◌else◌}
use Rattle.heyvl_num.specs.Rational.{Rational}
use Rattle.heyvl_num.specs.Value.{Value, zeroᵛ, ◌+ᵛ◌, ◌≤ᵛ◌}
use Rattle.heyvl_num.specs.Value.Value.{finite}
use Rattle.heylo_formula.specs.Choices.{Choices}
use Rattle.heylo_formula.specs.Formula.{Form}
use Rattle.heylo_formula.specs.Meaning.{value, holds}
use Rattle.heylo_formula.specs.State.{Env, environment}
use Rattle.heylo_formula.specs.declared.values.Val.{Val}
use Rattle.act_walks.specs.Loops.{loop_in}
use Rattle.heyvl_acts.specs.Acts.{Head, Acts, TypedProcedure, acts_in}
use Rattle.heyvl_acts.specs.Forward.{forward}
use Rattle.heyvl_acts.specs.Places.{in_order}
use Rattle.run_machine.specs.Bound.{IsState}
use Rattle.heyvl_acts.specs.Upward.{upward}

-- The loop with the number `n` of the procedure's body, which has a ranking: a step and a formula.
pub record RankedLoop (p : TypedProcedure) (n : ℕ) : Type 0 where
  pub head : Head
  pub body : Acts
  pub rank : Rational × Form
  pub named : loop_in n (in_order (acts_in p.body)) ≡ Some (head, body)
  pub ranked : head.rank ≡ Some rank

-- The step plus the expected value of the ranking after the body if the guard holds, otherwise 0.
abbrev pub after_turn : Head → Acts → Rational × Form → Env → Choices → Value
after_turn h b r s c = if holds h.guard s Choices.stop
    then finite r.0 +ᵛ forward (upward b) (value r.1) s c else zeroᵛ

-- In each state of the procedure the ranking is at least `after_turn`, for all choices.
abbrev pub IsRanking : TypedProcedure → Head → Acts → Rational × Form → Type 0
IsRanking p h b r = (s : List Val) (c : Choices) → IsState p s
    → after_turn h b r (environment s) c ≤ᵛ value r.1 (environment s) Choices.stop

-- In the state `s` the ranking is less than `after_turn`, for some choices.
pub record IsNoRanking (p : TypedProcedure) (h : Head) (b : Acts) (r : Rational × Form)
    (s : List Val) : Type 0 where
  pub choices : Choices
  pub state : IsState p s
  pub fails : after_turn h b r (environment s) choices ≤ᵛ value r.1 (environment s) Choices.stop → ⊥
