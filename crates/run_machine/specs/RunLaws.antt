-- Laws of steps and runs. This project's own.
use Rattle.std.specs.Prelude.{◌≡◌, ℕ, ◌+◌, Bool, false, List, [], ◌∷◌, ◌++◌, set}
use Prim.Native.Nat.{zero, suc}
use Rattle.heyvl_num.specs.Rational.{Rational, oneʳ}
use Rattle.heyvl_num.specs.WeightedSums.{total_weight, scaled, joined}
use Rattle.heyvl_places.specs.declared.spans.Span.{Span}
use Rattle.heylo_formula.specs.State.{has, default}
use Rattle.heylo_formula.specs.declared.types.Ty.{Ty}
use Rattle.heylo_formula.specs.declared.values.Val.{Val}
use Rattle.heyvl_acts.specs.Acts.{Act, Acts, TypedProcedure}
use Rattle.heyvl_acts.specs.Rules.{WeighsOne}
use Rattle.run_machine.specs.Configurations.{Item, Config, Outcomes, push}
use Rattle.run_machine.specs.Step.{Decision, sure, moved, step_act, step_item, step}
use Rattle.run_machine.specs.Scheduler.{Tree, Forest, decision, under, first, rest}
use Rattle.run_machine.specs.Runs.{runs}

-- If the item is a draw, the weights of its parts have the sum 1.
abbrev pub ItemWeighsOne : Item → Type 0
ItemWeighsOne (Item.act a) = WeighsOne a
ItemWeighsOne (Item.turn h b) = Unit {0}
ItemWeighsOne (Item.out x ty) = Unit {0}
ItemWeighsOne Item.back = Unit {0}

-- The weights of a step's outcomes have the sum 1, if those of a draw do.
abbrev pub StepsWeighOne : Type 0
StepsWeighOne = (ps : List TypedProcedure) (i : Item) (is : List Item) (c : Config) (d : Decision)
    → ItemWeighsOne i → total_weight (step_item ps i is c d) ≡ oneʳ

-- The configuration and the decision determine the step.
abbrev pub StepsAreDetermined : Type 0
StepsAreDetermined = (ps : List TypedProcedure) (c e : Config) (d f : Decision) → c ≡ e → d ≡ f
    → step ps c d ≡ step ps e f

-- A pick goes left if no decision is made, and if a value is decided.
abbrev pub PicksGoLeft : Type 0
PicksGoLeft = (ps : List TypedProcedure) (up : Bool) (a b : Acts) (span : Span) (is : List Item)
    (c : Config) (v : Val)
    → (step_act ps (Act.pick up a b span) is c Decision.none ≡ sure (moved c (push a is) c.state))
    × (step_act ps (Act.pick up a b span) is c (Decision.given v)
    ≡ sure (moved c (push a is) c.state))

-- An output takes the default value of its type, false or 0, if the decided value has another type.
abbrev pub IllTypedIsDefault : Type 0
IllTypedIsDefault = (ps : List TypedProcedure) (x : ℕ) (ty : Ty) (is : List Item) (c : Config)
    (v : Val) → has ty v ≡ false → step_item ps (Item.out x ty) is c (Decision.given v)
    ≡ sure (moved c is (set c.state x (default ty)))

-- An output takes the default value of its type, false or 0, if no decision is made.
abbrev pub MissingIsDefault : Type 0
MissingIsDefault = (ps : List TypedProcedure) (x : ℕ) (ty : Ty) (is : List Item) (c : Config)
    → step_item ps (Item.out x ty) is c Decision.none
    ≡ sure (moved c is (set c.state x (default ty)))

-- A variable that takes any value takes it as an output does.
abbrev pub AnysAreOuts : Type 0
AnysAreOuts = (ps : List TypedProcedure) (x : ℕ) (up : Bool) (ty : Ty) (span : Span)
    (is : List Item) (c : Config) (d : Decision)
    → step_act ps (Act.any x up ty span) is c d ≡ step_item ps (Item.out x ty) is c d

-- The runs of a terminated configuration are this configuration alone.
abbrev pub EndedStays : Type 0
EndedStays = (ps : List TypedProcedure) (n : ℕ) (c : Config) (t : Tree) → c.items ≡ []
    → runs ps n c t ≡ sure c

-- Configurations with their probabilities and the schedulers that remain for them.
abbrev pub Reached : Type 0
Reached = List (Rational × (Config × Tree))

-- `spread_reached f xs ts`: the results of `f` on each configuration of `xs` under its tree in
-- `ts`, with the weights multiplied.
abbrev pub spread_reached : (Config → Tree → Reached) → Outcomes → Forest → Reached
spread_reached f [] ts = []
spread_reached f (x ∷ xs) ts = scaled x.0 (f x.1 (first ts)) ++ spread_reached f xs (rest ts)

-- The results of the first step and then of `f`. A terminated configuration stays as it is, with
-- its tree.
abbrev pub onward_reached : List TypedProcedure → (Config → Tree → Reached) → List Item → Config
    → Tree → Reached
onward_reached ps f [] c t = (oneʳ, (c, t)) ∷ []
onward_reached ps f (i ∷ is) c t = spread_reached f (step_item ps i is c (decision t)) (under t)

-- `reached ps n c t`: the outcomes of at most `n` steps from `c` under `t`, each with the scheduler
-- that remains.
abbrev pub reached : List TypedProcedure → ℕ → Config → Tree → Reached
reached ps zero c t = (oneʳ, (c, t)) ∷ []
reached ps (suc n) c t = onward_reached ps (reached ps n) c.items c t

-- The runs of `n` + `m` steps are the outcomes of `n` steps, each followed by its runs of `m`
-- steps.
abbrev pub RunsContinue : Type 0
RunsContinue = (ps : List TypedProcedure) (n m : ℕ) (c : Config) (t : Tree)
    → runs ps (n + m) c t ≡ joined (λ r. runs ps m r.0 r.1) (reached ps n c t)
