-- The expected post of terminated runs of the loop `while !d { d = flip(1/2) }`, and the answers on
-- three goals.
use Rattle.std.proofs.Common.{◌≡◌, refl, ℕ, true, false, [], ◌∷◌, pos}
use Rattle.std.specs.Prelude.{None, Vec}
use Rattle.heyvl_num.specs.Rational.{Rational, ratio}
use Rattle.heyvl_num.specs.Value.{zeroᵛ, oneᵛ}
use Rattle.heyvl_places.specs.declared.spans.Span.{Span}
use Rattle.heylo_formula.specs.Formula.{Form, Cond, Term}
use Rattle.heylo_formula.specs.declared.values.Val.TheVariants.{Truth}
use Rattle.heyvl_acts.specs.Acts.{Head, Act, Acts}
use Rattle.run_machine.specs.Configurations.{Item, Config}
use Rattle.heylo_formula.specs.declared.values.Val.{Val}
use Rattle.goal_answers.specs.declared.causes.Cause.TheVariants as Cause
use Rattle.goal_answers.specs.declared.decisions.Decision.TheVariants as decision
use Rattle.std.specs.declared.alloc.Global.{Global}
use Rattle.lower_rules.specs.CollectedSums.{settled}
use Rattle.lower_rules.specs.OmegaAnswers.{told}
use Rattle.lower_goals.specs.declared.answers.Omega.TheVariants as answer
use Rattle.lower_goals.specs.declared.answers.Step.TheVariants as Step

abbrev nowhere : Span
nowhere = record { from = 0; to = 0 }

abbrev half : Rational
half = ratio (pos 1) 2

abbrev body : Acts
body = Acts.next (Act.draw 0 ((half, Term.truth (Cond.constant true)) ∷ (half, Term.truth (Cond.constant false)) ∷ []) nowhere) Acts.done

abbrev head : Head
head = record { number = 1; k = 1; inv = Form.number oneᵛ; guard = Cond.not (Cond.flag 0); rank = None; scope = 0 ∷ []; span = nowhere }

abbrev post : Form
post = Form.iverson (Cond.flag 0)

abbrev ended_after : ℕ → Config
ended_after k = record { procedure = 0; items = []; frames = []; state = Truth true ∷ []; reward = zeroᵛ; turns = λ n. k }

abbrev running_after : ℕ → Config
running_after k = record { procedure = 0; items = Item.turn head body ∷ []; frames = []; state = Truth true ∷ []; reward = zeroᵛ; turns = λ n. k }

-- With at most two iterations the post counts, with three it does not; nor does it if the run has
-- not terminated.
settled_rows : (settled 2 1 post (ended_after 2) ≡ oneᵛ) × (settled 2 1 post (ended_after 3) ≡ zeroᵛ) × (settled 2 1 post (running_after 2) ≡ zeroᵛ)
settled_rows = (refl, refl, refl)

-- ---- Answers: a falsified goal is reported rather than an earlier goal that is not decided

falsified_goes_before : (s : Vec Val Global) → told (decision.Unknown Cause.Bits) (decision.Proved None) (decision.Falsified s) ≡ answer.Fails Step.Turn s
falsified_goes_before s = refl

first_unknown_is_told : told (decision.Proved None) (decision.Unknown Cause.Bits) (decision.Unknown Cause.Depth) ≡ answer.Unknown Step.Base Cause.Bits
first_unknown_is_told = refl
