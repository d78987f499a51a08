-- One step of a configuration under a decision: its outcomes, which are the next configurations
-- with their probabilities. Each item takes one step. The definition has no limit on values, frames
-- or decisions. Source: the operational reading of HeyVL programs (Schroeer, Batz, Kaminski,
-- Katoen, Matheja, OOPSLA 2023), in this project's own words.
use Rattle.std.specs.Prelude.{ℕ, ◌+◌, ◌==◌, Bool, true, false, List, [], ◌∷◌, set, map}
use Rattle.std.specs.Prelude.{if◌then◌else◌}
use Rattle.heyvl_num.specs.Rational.{Rational, oneʳ}
use Rattle.heyvl_num.specs.Value.{Value, ◌+ᵛ◌}
use Rattle.heylo_formula.specs.State.{fit, environment}
use Rattle.heylo_formula.specs.Choices.{Choices}
use Rattle.heylo_formula.specs.Formula.{Term}
use Rattle.heylo_formula.specs.Meaning.{value, holds, term_value}
use Rattle.heylo_formula.specs.declared.values.Val.{Val}
use Rattle.heylo_formula.specs.declared.values.Val.TheVariants.{Truth}
use Rattle.heyvl_acts.specs.Acts.{Head, Act, Acts, TypedProcedure, procedure_at}
use Rattle.heyvl_acts.specs.Matching.{taken}
use Rattle.heyvl_acts.specs.Tosses.{toss_parts}
use Rattle.run_machine.specs.Configurations.{Item, Frame, Config, Outcomes, running, push, evaluate}
use Rattle.run_machine.specs.Configurations.{set_all, callee_items, first_state, outputs_of}

-- A decision of a scheduler: none, the value of a variable, or the side of a pick, true for the
-- left one.
pub data Decision : Type 0 where
  none : Decision
  given : Val → Decision
  side : Bool → Decision

-- The decided value, or false if none is decided. If the variable is a number, `fit` makes it 0.
abbrev pub value_of : Decision → Val
value_of Decision.none = Truth false
value_of (Decision.given v) = v
value_of (Decision.side b) = Truth false

-- The decided side. If there is none, it is the left one.
abbrev pub side_of : Decision → Bool
side_of Decision.none = true
side_of (Decision.given v) = true
side_of (Decision.side b) = b

-- One configuration with the probability 1.
abbrev pub sure : Config → Outcomes
sure c = (oneʳ, c) ∷ []

-- `moved c is s`: `c` with the items `is` and the state `s`.
abbrev pub moved : Config → List Item → List Val → Config
moved c is s = record {
  procedure = c.procedure;
  items = is;
  frames = c.frames;
  state = s;
  reward = c.reward;
  turns = c.turns;
}

-- `rewarded c is v`: `c` with the items `is`, and `v` added to its reward.
abbrev pub rewarded : Config → List Item → Value → Config
rewarded c is v = record {
  procedure = c.procedure;
  items = is;
  frames = c.frames;
  state = c.state;
  reward = c.reward +ᵛ v;
  turns = c.turns;
}

-- The counts of iterations with one more for the loop `n`.
abbrev pub one_more : ℕ → (ℕ → ℕ) → ℕ → ℕ
one_more n turns m = if m == n then 1 + turns m else turns m

-- The counts of iterations after one more of the loop `n`. It counts only if the running procedure
-- is the one that was started.
abbrev pub counted : Config → ℕ → ℕ → ℕ
counted c n = if running c.procedure c.frames == c.procedure then one_more n c.turns else c.turns

-- `turned c is n`: `c` with the items `is`, after one more iteration of the loop `n`.
abbrev pub turned : Config → List Item → ℕ → Config
turned c is n = record {
  procedure = c.procedure;
  items = is;
  frames = c.frames;
  state = c.state;
  reward = c.reward;
  turns = counted c n;
}

-- The frame of the caller, which waits for the procedure `n`: `is` are its items after the call,
-- `xs` the targets.
abbrev pub waiting : Config → List Item → List ℕ → ℕ → Frame
waiting c is xs n = record { items = is; state = c.state; targets = xs; callee = n }

-- The configuration after a call: the items and the first state of the callee `p`, which has the
-- number `n`, and one more frame.
abbrev pub called : Config → List Item → List ℕ → ℕ → TypedProcedure → List Val → Config
called c is xs n p vs = record {
  procedure = c.procedure;
  items = callee_items p;
  frames = waiting c is xs n ∷ c.frames;
  state = first_state p vs;
  reward = c.reward;
  turns = c.turns;
}

-- The configuration after a return to the last caller `f`: the targets of the call have the values
-- of the outputs.
abbrev pub returned : List TypedProcedure → Config → Frame → List Frame → Config
returned ps c f fs = record {
  procedure = c.procedure;
  items = f.items;
  frames = fs;
  state = set_all f.targets (outputs_of (procedure_at ps f.callee) c.state) f.state;
  reward = c.reward;
  turns = c.turns;
}

-- The outcome of one part of a draw.
abbrev pub branch : Config → List Item → ℕ → Rational × Term → Rational × Config
branch c is x q = (q.0, moved c is (set c.state x (term_value q.1 (environment c.state))))

-- The outcomes of a draw, one for each part, in order.
abbrev pub branches : Config → List Item → ℕ → List (Rational × Term) → Outcomes
branches c is x qs = map (branch c is x) qs

-- The step of a loop's test: if the guard holds, the body comes before the next test; otherwise the
-- loop is left.
abbrev pub test : Config → List Item → Head → Acts → Outcomes
test c is h b = if holds h.guard (environment c.state) Choices.stop
    then sure (turned c (push b (Item.turn h b ∷ is)) h.number) else sure (moved c is c.state)

-- The step of the act `a` before the items `is`. A check or a validation, which no program has, is
-- skipped.
abbrev pub step_act : List TypedProcedure → Act → List Item → Config → Decision → Outcomes
step_act ps (Act.set x t span) is c d =
    sure (moved c is (set c.state x (term_value t (environment c.state))))
step_act ps (Act.draw x qs span) is c d = branches c is x qs
step_act ps (Act.toss x f span) is c d = branches c is x (toss_parts f (environment c.state))
step_act ps (Act.any x up ty span) is c d = sure (moved c is (set c.state x (fit ty (value_of d))))
step_act ps (Act.reward f span) is c d =
    sure (rewarded c is (value f (environment c.state) Choices.stop))
step_act ps (Act.ifs arms e span) is c d =
    sure (moved c (push (taken arms e (environment c.state)) is) c.state)
step_act ps (Act.pick up a b span) is c d =
    sure (moved c (push (if side_of d then a else b) is) c.state)
step_act ps (Act.check kind f span) is c d = sure (moved c is c.state)
step_act ps (Act.validate co span) is c d = sure (moved c is c.state)
step_act ps (Act.loop h b) is c d = test c is h b
step_act ps (Act.call xs p es span) is c d =
    sure (called c is xs p (procedure_at ps p) (evaluate es (environment c.state)))

-- The step of a return before the items `is`: the last caller continues. If there is none, the item
-- is skipped.
abbrev pub step_back : List TypedProcedure → List Item → Config → List Frame → Outcomes
step_back ps is c [] = sure (moved c is c.state)
step_back ps is c (f ∷ fs) = sure (returned ps c f fs)

-- The step of an item before the items `is`.
abbrev pub step_item : List TypedProcedure → Item → List Item → Config → Decision → Outcomes
step_item ps (Item.act a) is c d = step_act ps a is c d
step_item ps (Item.turn h b) is c d = test c is h b
step_item ps (Item.out x ty) is c d = sure (moved c is (set c.state x (fit ty (value_of d))))
step_item ps Item.back is c d = step_back ps is c c.frames

-- The step of the first item, with no outcome if there is no item.
abbrev pub step_items : List TypedProcedure → List Item → Config → Decision → Outcomes
step_items ps [] c d = []
step_items ps (i ∷ is) c d = step_item ps i is c d

-- `step ps c d`: the outcomes of one step of `c` under the decision `d`. A terminated configuration
-- has none.
abbrev pub step : List TypedProcedure → Config → Decision → Outcomes
step ps c d = step_items ps c.items c d
