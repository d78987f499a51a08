-- Copies of results and evaluations.
use Rattle.std.proofs.Common.{◌≡◌, List, [], ◌∷◌, refl, sym, subst, ap, ap₂, ◌∙◌}
use Rattle.std.specs.List.{AllZip}
use Rattle.linear_values.specs.PlainValues.{linear_of}
use Rattle.linear_form.specs.Query.{Query, next}
use Rattle.linear_form.specs.Query.Query.{done}
use Rattle.linear_form.specs.internal.Evaluations.{asked_by, resumed, framed, ended, left_at, standing, IsReadyFocus, IsReadyFrame, AreReadyFrames, IsReadyEvaluation}
use Rattle.linear_form.specs.internal.Outcomes.{Result, IsKeptResult}
use Rattle.linear_form.specs.internal.Parts.{after_first, after_second, asked, IsReady, IsReadyWork}
use Rattle.linear_form.specs.internal.PlainParts.{outcome_of, part_of, work_of}
use Rattle.linear_form.specs.declared.places.Evaluation as V
use Rattle.linear_form.specs.declared.places.Focus as F
use Rattle.linear_form.specs.declared.places.Frame as W
use Rattle.linear_form.specs.declared.parts.Outcome as O
use Rattle.linear_form.specs.declared.parts.Part.{Part}
use Rattle.linear_form.specs.contracts.places.EvaluationClone.TheImpl as evaluation
use Rattle.linear_form.specs.contracts.places.FocusClone.TheImpl as focus
use Rattle.linear_form.specs.contracts.places.FrameClone.TheImpl as frame
use Rattle.linear_form.specs.contracts.parts.OutcomeClone.TheImpl as outcome

pub same_outcome : (o c : O.Outcome) → outcome.by_variants o c → outcome_of c ≡ outcome_of o
same_outcome (O.TheVariants.Number x) (O.TheVariants.Number y) h = ap (λ v. Result.number (linear_of v)) h
same_outcome (O.TheVariants.Number x) (O.TheVariants.Truth t) h = elim h [ ]
same_outcome (O.TheVariants.Number x) (O.TheVariants.Ends z w) h = elim h [ ]
same_outcome (O.TheVariants.Truth t) (O.TheVariants.Number y) h = elim h [ ]
same_outcome (O.TheVariants.Truth t) (O.TheVariants.Truth u) h = ap Result.truth h
same_outcome (O.TheVariants.Truth t) (O.TheVariants.Ends z w) h = elim h [ ]
same_outcome (O.TheVariants.Ends x y) (O.TheVariants.Number z) h = elim h [ ]
same_outcome (O.TheVariants.Ends x y) (O.TheVariants.Truth t) h = elim h [ ]
same_outcome (O.TheVariants.Ends x y) (O.TheVariants.Ends z w) h = ap₂ (λ v u. Result.ends (linear_of v, linear_of u)) h.0 h.1

pub same_focus : (f c : F.Focus) → focus.by_variants f c → asked_by c ≡ asked_by f
same_focus (F.TheVariants.Part p) (F.TheVariants.Part q) h = ap (λ p. asked (part_of p)) h
same_focus (F.TheVariants.Part p) (F.TheVariants.Came o) h = elim h [ ]
same_focus (F.TheVariants.Came o) (F.TheVariants.Part q) h = elim h [ ]
same_focus (F.TheVariants.Came o) (F.TheVariants.Came x) h = ap done (same_outcome o x h)

pub ready_focus : (f c : F.Focus) → focus.by_variants f c → IsReadyFocus f → IsReadyFocus c
ready_focus (F.TheVariants.Part p) (F.TheVariants.Part q) h r = subst (λ p. IsReady (part_of p)) (sym h) r
ready_focus (F.TheVariants.Part p) (F.TheVariants.Came o) h r = elim h [ ]
ready_focus (F.TheVariants.Came o) (F.TheVariants.Part q) h r = elim h [ ]
ready_focus (F.TheVariants.Came o) (F.TheVariants.Came x) h r = subst IsKeptResult (sym (same_outcome o x h)) r

same_frame : (f c : W.Frame) → frame.by_variants f c → resumed c ≡ resumed f
same_frame (W.TheVariants.First p) (W.TheVariants.First q) h = ap (λ (p : Part). after_first (work_of p.work)) h
same_frame (W.TheVariants.First p) (W.TheVariants.Second q o) h = elim h [ ]
same_frame (W.TheVariants.Second p o) (W.TheVariants.First q) h = elim h [ ]
same_frame (W.TheVariants.Second p o) (W.TheVariants.Second q x) h = ap₂ (λ (p : Part) r. after_second (work_of p.work) r) h.0 (same_outcome o x h.1)

ready_frame : (f c : W.Frame) → frame.by_variants f c → IsReadyFrame f → IsReadyFrame c
ready_frame (W.TheVariants.First p) (W.TheVariants.First q) h r = subst (λ (p : Part). IsReadyWork (work_of p.work)) (sym h) r
ready_frame (W.TheVariants.First p) (W.TheVariants.Second q o) h r = elim h [ ]
ready_frame (W.TheVariants.Second p o) (W.TheVariants.First q) h r = elim h [ ]
ready_frame (W.TheVariants.Second p o) (W.TheVariants.Second q x) h r = (subst (λ (p : Part). IsReadyWork (work_of p.work)) (sym h.0) r.0, subst IsKeptResult (sym (same_outcome o x h.1)) r.1)

same_frames : (t : Query Result) (fs cs : List W.Frame) → AllZip frame.by_variants fs cs → framed t cs ≡ framed t fs
same_frames t [] [] h = refl
same_frames t [] (c ∷ cs) h = elim h [ ]
same_frames t (f ∷ fs) [] h = elim h [ ]
same_frames t (f ∷ fs) (c ∷ cs) h = ap₂ next (same_frames t fs cs h.1) (same_frame f c h.0)

ready_frames : (fs cs : List W.Frame) → AllZip frame.by_variants fs cs → AreReadyFrames fs → AreReadyFrames cs
ready_frames [] [] h r = tt
ready_frames [] (c ∷ cs) h r = elim h [ ]
ready_frames (f ∷ fs) [] h r = tt
ready_frames (f ∷ fs) (c ∷ cs) h r = (ready_frame f c h.0 r.0, ready_frames fs cs h.1 r.1)

pub same_standing : (e c : V.Evaluation) → evaluation.ghosts.is_clone e c → standing c ≡ standing e
same_standing e c h = λ i. record { left = left i; at = h.1.1 i }
  where
    left : left_at c ≡ left_at e
    left = ap (λ t. next t ended) (same_frames (asked_by c.focus) e.frames.items c.frames.items h.1.0.0 ∙ ap (λ t. framed t e.frames.items) (same_focus e.focus c.focus h.0))

pub ready_evaluation : (e c : V.Evaluation) → evaluation.ghosts.is_clone e c → IsReadyEvaluation e → IsReadyEvaluation c
ready_evaluation e c h r = (ready_focus e.focus c.focus h.0 r.0, ready_frames e.frames.items c.frames.items h.1.0.0 r.1)
