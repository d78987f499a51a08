-- A place of a goal, computed at an evaluation found by hand.
use Rattle.std.proofs.Common.{◌≡◌, arith, refl, [], ◌∷◌, true, false}
use Rattle.std.specs.Prelude.{None}
use Rattle.heylo_formula.specs.Formula.{Form, Cond}
use Rattle.heylo_formula.specs.Goals.{Goal}
use Rattle.linear_form.specs.Paths.{end_at}
use Rattle.linear_form.specs.Standings.{Standing}
use Rattle.linear_form.specs.Places.{IsOn}
use Rattle.linear_form.specs.Query.{Atom, Taken, next}
use Rattle.linear_form.specs.Query.Query.{done, ask}
use Rattle.linear_form.specs.Questions.{zero, one, all_questions}
use Rattle.linear_form.specs.internal.Evaluations.{ended}
use Rattle.linear_form.specs.internal.Outcomes.{Result}
use Rattle.linear_form.specs.internal.Parts.{Part, Work, asked, known_part}
use Rattle.linear_form.specs.internal.Run.{along}
use Rattle.linear_form.specs.internal.Run.Evaluation.{decide}
use Rattle.linear_values.specs.Lin.{Linear}
use Rattle.linear_form.specs.declared.parts.Operation.{Operation}

-- The stated bound is the Iverson bracket of the Boolean 3; the computed form is infinity if 3 and
-- 4 are true, otherwise 0.
later_goal : Goal
later_goal = record { upper = true; stated = Form.iverson (Cond.flag 3); found = Form.embed (Cond.and (Cond.flag 3) (Cond.flag 4)); types = []; names = []; own = 0 }

three : Taken
three = record { atom = Atom.truth 3; held = true }

value : Linear → Part
value x = known_part (Result.number x)

truth : Atom → Part
truth q = Part.part (Work.asks q (known_part (Result.truth true)) (known_part (Result.truth false))) false

no : Part
no = known_part (Result.truth false)

whole : Part
whole = Part.part (Work.two Operation.Ends (Part.part (Work.choice (truth (Atom.truth 3)) (value one) (value zero)) false) (Part.part (Work.choice (Part.part (Work.choice (truth (Atom.truth 3)) (truth (Atom.truth 4)) no) false) (value None) (value zero)) false)) false

whole_asks : next (asked whole) ended ≡ all_questions later_goal
unfolding later_goal value truth no whole
whole_asks = refl

-- The place after the answer to 3.
abbrev behind_three : Standing
behind_three = record { left = ask (Atom.truth 3) (ask (Atom.truth 4) (done (one, None)) (done (one, zero))) (done (one, zero)); at = 1 }

behind_on : IsOn later_goal (three ∷ []) behind_three
unfolding later_goal three
behind_on = record { within = omega arith; left = refl }

-- From there, 3 is decided and 4 is asked, as at the end of the path of the goal.
resumed : (along (three ∷ []) behind_three.left behind_three.at ≡ decide (Atom.truth 4)) × (end_at later_goal (three ∷ []) ≡ ask (Atom.truth 4) (done (one, None)) (done (one, zero)))
unfolding later_goal three along
resumed = (refl, refl)
