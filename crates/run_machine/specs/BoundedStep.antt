-- The step as the program makes it, within two limits: on the numbers that are computed, and on the
-- number of values in the state and all frames. This project's own.
use Rattle.std.specs.Prelude.{◌+◌, ℕ, Bool, true, false, ◌&&◌, ◌||◌, List, [], ◌∷◌, Option, Some}
use Rattle.std.specs.Prelude.{None, option_map, is_some, map, length, nat_lt, if◌then◌else◌}
use Rattle.heyvl_num.specs.Rational.{Rational, oneʳ}
use Rattle.heyvl_num.specs.Value.{oneᵛ}
use Rattle.heyvl_num.specs.Exact.{exact_difference}
use Rattle.heyvl_num.specs.ExactValues.{exact_sumᵛ}
use Rattle.heylo_formula.specs.Formula.{Form, Term}
use Rattle.heylo_formula.specs.Operators.{finite_part}
use Rattle.heylo_formula.specs.declared.values.Val.{Val}
use Rattle.heylo_formula.specs.declared.values.Val.TheVariants.{Truth, Num}
use Rattle.quant_algebra.specs.ExactMeaning.{exact_value, exact_truth}
use Rattle.quant_algebra.specs.ExactOperators.{and_then, exact_minᵛ}
use Rattle.heyvl_acts.specs.Acts.{Act, Arms, TypedProcedure}
use Rattle.run_machine.specs.declared.configurations.Config as C
use Rattle.run_machine.specs.declared.configurations.Stepped.{Stepped}
use Rattle.run_machine.specs.declared.configurations.Stepped.TheVariants.{Next, Deep, Bits}
use Rattle.run_machine.specs.Configurations.{Item, Frame, Config, Outcomes}
use Rattle.run_machine.specs.Step.{Decision, step}
use Rattle.run_machine.specs.Names.{stored, config_of}

-- The value of a term, or nothing if a number on the way overflows.
abbrev pub exact_term : Term → List Val → Option Val
exact_term (Term.truth g) s = option_map Truth (exact_truth g s)
exact_term (Term.number f) s = option_map (λ v. Num (finite_part v)) (exact_value f s)

-- Whether the terms have values: no number on the way overflows.
abbrev pub terms_fit : List Term → List Val → Bool
terms_fit [] s = true
terms_fit (e ∷ es) s = is_some (exact_term e s) && terms_fit es s

-- Whether the terms of a draw's parts have values: no number on the way overflows.
abbrev pub parts_fit : List (Rational × Term) → List Val → Bool
parts_fit [] s = true
parts_fit (q ∷ qs) s = is_some (exact_term q.1 s) && parts_fit qs s

-- The smaller of a formula's value and 1: after the value, one comparison is computed.
abbrev pub exact_weight : Form → List Val → Option Rational
exact_weight f s = and_then (exact_value f s) (λ v. option_map finite_part (exact_minᵛ v oneᵛ))

-- Whether the weight of a toss and its difference to 1 have values.
abbrev pub toss_fits : Form → List Val → Bool
toss_fits f s = is_some (and_then (exact_weight f s) (λ w. exact_difference oneʳ w))

-- `true_or t rest`: `t` is known and true, or `t` is known and `rest` is true.
abbrev pub true_or : Option Bool → Bool → Bool
true_or (Some true) rest = true
true_or (Some false) rest = rest
true_or None rest = false

-- Whether the guards up to the first that holds have values. Later guards are not evaluated.
abbrev pub guards_fit : Arms → List Val → Bool
guards_fit Arms.no_arm s = true
guards_fit (Arms.arm g b more) s = true_or (exact_truth g s) (guards_fit more s)

-- Whether no number overflows in the step of the act: in the term of an assignment, the terms of a
-- draw, the weights of a toss, the guards of an if up to the first that holds, the guard of a loop,
-- the arguments of a call, or a reward and its sum with the reward so far.
abbrev pub act_fits : Act → Config → Bool
act_fits (Act.set x t span) c = is_some (exact_term t c.state)
act_fits (Act.draw x qs span) c = parts_fit qs c.state
act_fits (Act.toss x f span) c = toss_fits f c.state
act_fits (Act.any x up ty span) c = true
act_fits (Act.reward f span) c =
    is_some (and_then (exact_value f c.state) (λ v. exact_sumᵛ c.reward v))
act_fits (Act.ifs arms e span) c = guards_fit arms c.state
act_fits (Act.pick up a b span) c = true
act_fits (Act.check kind f span) c = true
act_fits (Act.validate co span) c = true
act_fits (Act.loop h b) c = is_some (exact_truth h.guard c.state)
act_fits (Act.call xs p es span) c = terms_fit es c.state

-- Whether no number overflows in the step of the item.
abbrev pub item_fits : Item → Config → Bool
item_fits (Item.act a) c = act_fits a c
item_fits (Item.turn h b) c = is_some (exact_truth h.guard c.state)
item_fits (Item.out x ty) c = true
item_fits Item.back c = true

-- Whether no number overflows in the step of the first item. Without items, none does.
abbrev pub items_fit : List Item → Config → Bool
items_fit [] c = true
items_fit (i ∷ is) c = item_fits i c

-- The number of values in the states of the frames.
abbrev pub frame_values : List Frame → ℕ
frame_values [] = 0
frame_values (f ∷ fs) = length f.state + frame_values fs

-- The number of values of a configuration: in its state and in the states of its callers.
abbrev pub values_in : Config → ℕ
values_in c = length c.state + frame_values c.frames

-- Whether one of the outcomes has more than 512 values.
abbrev pub any_deep : Outcomes → Bool
any_deep [] = false
any_deep (x ∷ xs) = nat_lt 512 (values_in x.1) || any_deep xs

-- The result of a step: its outcomes, `deep` if one of them has more than 512 values, or `bits` if
-- a number overflows.
pub data Answer : Type 0 where
  next : Outcomes → Answer
  deep : Answer
  bits : Answer

-- The outcomes, or `deep` if one of them has more than 512 values.
abbrev pub limited : Outcomes → Answer
limited cs = if any_deep cs then Answer.deep else Answer.next cs

-- The outcomes within the limit of values if `fits`, otherwise `bits`.
abbrev pub bounded : Bool → Outcomes → Answer
bounded fits cs = if fits then limited cs else Answer.bits

-- The step within both limits. If both are exceeded, the result is `bits`.
abbrev pub bounded_step : List TypedProcedure → Config → Decision → Answer
bounded_step ps c d = bounded (items_fit c.items c) (step ps c d)

-- The outcome of a run that an outcome of the program represents: the same weight, with the
-- configuration that its stored configuration represents.
abbrev pub outcome_of : List TypedProcedure → Rational × C.Config → Rational × Config
outcome_of ps x = (x.0, config_of ps (stored x.1))

-- The outcomes of a run that outcomes of the program represent, in their order.
abbrev pub outcomes_of : List TypedProcedure → List (Rational × C.Config) → Outcomes
outcomes_of ps xs = map (outcome_of ps) xs

-- The result of a step that the result of the program's step represents.
abbrev pub answer_of : List TypedProcedure → Stepped → Answer
answer_of ps (Next outcomes) = Answer.next (outcomes_of ps outcomes.items)
answer_of ps Deep = Answer.deep
answer_of ps Bits = Answer.bits
