-- The tree of the comparisons that an evaluation has still to ask: those of the focus, then those
-- of the waiting parts.
use Rattle.std.specs.Prelude.{ℕ, ◌+◌, Bool, false, List, [], ◌∷◌}
use Rattle.linear_form.specs.Query.{Query, next}
use Rattle.linear_form.specs.Query.Query.{done, bits}
use Rattle.linear_form.specs.Questions.{Ends}
use Rattle.linear_form.specs.Standings.{Standing}
use Rattle.linear_form.specs.internal.Outcomes.{Result, IsKeptResult}
use Rattle.linear_form.specs.internal.Parts.{after_first, after_second, asked, IsReady, IsReadyWork}
use Rattle.linear_form.specs.internal.Parts.{later_weight, notes_later, part_weight}
use Rattle.linear_form.specs.internal.PlainParts.{outcome_of, part_of, work_of}
use Rattle.linear_form.specs.declared.places.Evaluation.{Evaluation}
use Rattle.linear_form.specs.declared.places.Focus as F
use Rattle.linear_form.specs.declared.places.Frame as W

-- `asked_by f`: the tree of the focus `f`: that of its part, or a result.
abbrev pub asked_by : F.Focus → Query Result
asked_by (F.TheVariants.Part p) = asked (part_of p.value)
asked_by (F.TheVariants.Came o) = done (outcome_of o)

-- `resumed w r`: the tree of the waiting part `w` after it gets the result `r`.
abbrev pub resumed : W.Frame → Result → Query Result
resumed (W.TheVariants.First p) r = after_first (work_of p.value.work) r
resumed (W.TheVariants.Second p o) r = after_second (work_of p.value.work) (outcome_of o) r

-- `framed q fs`: the tree `q`, followed by the frames `fs`, the last frame first.
abbrev pub framed : Query Result → List W.Frame → Query Result
framed q [] = q
framed q (f ∷ fs) = next (framed q fs) (resumed f)

-- `ended r`: the end of an evaluation: the result `r` has to be the values of both forms.
abbrev pub ended : Result → Query Ends
ended (Result.number x) = bits
ended (Result.truth t) = bits
ended (Result.ends e) = done e

-- `through q fs`: the tree `q`, followed by the frames `fs` and the end.
abbrev pub through : Query Result → List W.Frame → Query Ends
through q fs = next (framed q fs) ended

-- `left_at p`: the tree of the comparisons that the evaluation `p` has still to ask.
abbrev pub left_at : Evaluation → Query Ends
left_at p = through (asked_by p.focus) p.frames.items

-- `standing p`: the model of the evaluation `p` in contracts.
abbrev pub standing : Evaluation → Standing
standing p = record { left = left_at p; at = p.at }

-- ---- The records of parts are right

-- `IsReadyFocus f`: the records of the part at the focus `f` are right; a result has increasing
-- terms and numbers that fit.
abbrev pub IsReadyFocus : F.Focus → Type 0
IsReadyFocus (F.TheVariants.Part p) = IsReady (part_of p.value)
IsReadyFocus (F.TheVariants.Came o) = IsKeptResult (outcome_of o)

-- `IsReadyFrame w`: the records of the waiting part `w` are right.
abbrev pub IsReadyFrame : W.Frame → Type 0
IsReadyFrame (W.TheVariants.First p) = IsReadyWork (work_of p.value.work)
IsReadyFrame (W.TheVariants.Second p o) = IsReadyWork (work_of p.value.work)
    × IsKeptResult (outcome_of o)

-- `AreReadyFrames fs`: the records of all waiting parts are right.
abbrev pub AreReadyFrames : List W.Frame → Type 0
AreReadyFrames [] = Unit {0}
AreReadyFrames (f ∷ fs) = IsReadyFrame f × AreReadyFrames fs

-- `IsReadyEvaluation e`: the records of all parts of the evaluation `e` are right.
abbrev pub IsReadyEvaluation : Evaluation → Type 0
IsReadyEvaluation e = IsReadyFocus e.focus × AreReadyFrames e.frames.items

-- `frame_asks w`: it is recorded that the waiting part `w` surely asks a comparison of numbers
-- after it gets its result.
abbrev pub frame_asks : W.Frame → Bool
frame_asks (W.TheVariants.First p) = notes_later (work_of p.value.work)
frame_asks (W.TheVariants.Second p o) = false

-- ---- A bound on the remaining steps

-- `focus_weight f`: the bound for the focus `f`.
abbrev pub focus_weight : F.Focus → ℕ
focus_weight (F.TheVariants.Part p) = part_weight (part_of p.value)
focus_weight (F.TheVariants.Came o) = 0

-- `frame_weight w`: the bound for the waiting part `w` after it gets its result.
abbrev pub frame_weight : W.Frame → ℕ
frame_weight (W.TheVariants.First p) = later_weight (work_of p.value.work)
frame_weight (W.TheVariants.Second p o) = 1

-- `frames_weight fs`: the bound for all waiting parts.
abbrev pub frames_weight : List W.Frame → ℕ
frames_weight [] = 0
frames_weight (f ∷ fs) = frame_weight f + frames_weight fs

-- `weight p`: the bound for the evaluation `p`. It decreases with each step.
abbrev pub weight : Evaluation → ℕ
weight p = focus_weight p.focus + frames_weight p.frames.items
