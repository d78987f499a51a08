-- Evaluations that continue from a place, step by step.
use Rattle.std.proofs.Common.{◌≡◌, ℕ, ◌+◌, ◌<◌, List, [], ◌∷◌, ◌++◌, refl, sym, ap, ap₂, ◌∙◌, subst, arith, length, slice_get, ◌-◌, ◌⊎◌, inl, inr, Global, Bool, true, false, cond}
use Prim.Native.Nat.{suc}
use Rattle.std.specs.Prelude as M
use Rattle.std.specs.Prelude.{Option, Some, None, take}
use Rattle.heylo_formula.specs.Goals.{Goal}
use Rattle.linear_form.specs.Query.{Query, Atom, Taken, next}
use Rattle.linear_form.specs.Query.Query.{done, ask}
use Rattle.linear_form.specs.Questions.{Ends}
use Rattle.linear_form.specs.Paths.{IsPath}
use Rattle.linear_form.specs.Places.{IsOn}
use Rattle.linear_form.specs.internal.Run.{Evaluation, along}
use Rattle.linear_form.specs.internal.Run.Evaluation.{value, decide}
use Rattle.linear_form.specs.internal.EvaluationResults.{Stops}
use Rattle.linear_form.specs.internal.Outcomes.{Result, IsKeptResult}
use Rattle.linear_form.specs.internal.Parts.{Work, after_first, after_second, asked, asked_by_work, later_weight, operated, part_weight, work_weight, IsReady, IsReadyWork}
use Rattle.linear_form.specs.internal.PlainParts.{outcome_of, part_of, work_of}
use Rattle.linear_form.specs.internal.Evaluations.{asked_by, resumed, framed, ended, through, left_at, standing, IsReadyFocus, IsReadyFrame, AreReadyFrames, IsReadyEvaluation, focus_weight, frame_weight, frames_weight, weight}
use Rattle.linear_form.specs.internal.Steps.{Moves, GoesOn, UnlessMemory, Steps}
use Rattle.linear_form.specs.declared.cursor.Stop as S
use Rattle.linear_form.specs.declared.questions.Ask.{Ask}
use Rattle.linear_form.specs.declared.cursor.Stop.{Stop}
use Rattle.linear_form.specs.declared.places.Evaluation as V
use Rattle.linear_form.specs.declared.places.Focus.{Focus}
use Rattle.linear_form.specs.declared.places.Focus as F
use Rattle.linear_form.specs.declared.places.Frame.{Frame}
use Rattle.linear_form.specs.declared.places.Frame as G
use Rattle.linear_form.specs.declared.parts.Outcome.{Outcome}
use Rattle.linear_form.specs.declared.parts.Outcome as O
use Rattle.linear_form.specs.declared.parts.Operation.{Operation}
use Rattle.linear_form.specs.declared.parts.Part as P
use Rattle.linear_form.specs.declared.parts.Work as W
use Rattle.linear_form.specs.declared.operations.Came.{Came}
use Rattle.linear_values.specs.declared.lin.Lin.{Lin}
use Rattle.linear_values.specs.PlainValues.{linear_of}
use Rattle.std.specs.declared.boxed.Box.{Box}
use Rattle.std.specs.declared.rc.Rc.{Rc}
use Rattle.linear_form.proofs.AssembledTrees.{next_assoc}
use Rattle.std.proofs.lemmas.List.{take_all}
use Rattle.std.proofs.lemmas.Option.{slice_get_within}
use Rattle.linear_form.proofs.GoalPartLists.{take_one_more}
use Rattle.linear_form.proofs.KeptOperations.{came_kept, operated_kept}
use Rattle.linear_form.proofs.PathEnds.{found_on, next_done}
use Rattle.linear_form.proofs.PlainPartsAre.{asks_by, choice_work, ready_by, two_work, weighs_by}
use Rattle.linear_form.proofs.Runs.{run_bits, run_decide, run_done, run_large}

-- ---- Frames

framed_next : {A : Type 0} (q : Query A) (f : A → Query Result) (fs : List Frame) → framed (next q f) fs ≡ next q (λ x. framed (f x) fs)
framed_next q f [] = refl
framed_next q f (g ∷ fs) = ap (λ z. next z (resumed g)) (framed_next q f fs) ∙ next_assoc q (λ x. framed (f x) fs) (resumed g)

through_next : {A : Type 0} (q : Query A) (f : A → Query Result) (fs : List Frame) → through (next q f) fs ≡ next q (λ x. through (f x) fs)
through_next q f fs = ap (λ z. next z ended) (framed_next q f fs) ∙ next_assoc q (λ x. framed (f x) fs) ended

framed_push : (q : Query Result) (fs : List Frame) (f : Frame) → framed q (fs ++ (f ∷ [])) ≡ framed (next q (resumed f)) fs
framed_push q [] f = refl
framed_push q (g ∷ fs) f = ap (λ z. next z (resumed g)) (framed_push q fs f)

pub through_push : (q : Query Result) (fs : List Frame) (f : Frame) → through q (fs ++ (f ∷ [])) ≡ through (next q (resumed f)) fs
through_push q fs f = ap (λ z. next z ended) (framed_push q fs f)

ready_push : (fs : List Frame) (f : Frame) → AreReadyFrames fs → IsReadyFrame f → AreReadyFrames (fs ++ (f ∷ []))
ready_push [] f h k = (k, tt)
ready_push (g ∷ fs) f h k = (h.0, ready_push fs f h.1 k)

ready_split : (fs : List Frame) (f : Frame) → AreReadyFrames (fs ++ (f ∷ [])) → AreReadyFrames fs × IsReadyFrame f
ready_split [] f h = (tt, h.0)
ready_split (g ∷ fs) f h = let k = ready_split fs f h.1 in ((h.0, k.0), k.1)

pub ready_pop : (all fs : List Frame) (f : Frame) → all ≡ fs ++ (f ∷ []) → AreReadyFrames all → AreReadyFrames fs × IsReadyFrame f
ready_pop all fs f e h = ready_split fs f (subst AreReadyFrames e h)

weight_push : (fs : List Frame) (f : Frame) → frames_weight (fs ++ (f ∷ [])) ≡ frame_weight f + frames_weight fs
weight_push [] f = refl
weight_push (g ∷ fs) f = let e = weight_push fs f in omega (arith, e)

-- ---- An evaluation that continues

stays : (ps : List Taken) (q : Query Ends) (i w : ℕ) (p : V.Evaluation) → q ≡ left_at p → p.at ≡ i → weight p < w → IsReadyEvaluation p → GoesOn ps q i w p
stays ps q i w p e a l h = (
  record {
    on = λ g path o. subst (λ t. IsOn g ps (record { left = t; at = p.at })) e (subst (λ n. IsOn g ps (record { left = q; at = n })) (sym a) o);
    ready = h;
  },
  l,
)

pub here : (ps : List Taken) (p : V.Evaluation) → IsReadyEvaluation p → Moves ps (left_at p) p.at p
here ps p h = record { on = λ g path o. o; ready = h }

pub moved : (g : Goal) (ps : List Taken) (p p' : V.Evaluation) → IsPath g ps → IsOn g ps (standing p) → Moves ps (left_at p) p.at p' → IsOn g ps (standing p') × IsReadyEvaluation p'
moved g ps p p' path h m = (m.on g path h, m.ready)

pub goes_part : (ps : List Taken) (q : Query Result) (i w : ℕ) (f : Focus) (p : V.Evaluation) → q ≡ asked_by f → IsReadyFocus f → focus_weight f < w → p.focus ≡ f → p.at ≡ i → AreReadyFrames p.frames.items → GoesOn ps (through q p.frames.items) i (w + frames_weight p.frames.items) p
goes_part ps q i w f p e r l k a h = stays ps _ i _ p (ap (λ q. through q p.frames.items) (e ∙ sym (ap asked_by k))) a (let n = ap focus_weight k in omega (arith, n, l)) (subst IsReadyFocus (sym k) r, h)

pub goes_waiting : (ps : List Taken) (q : Query Result) (fs : List Frame) (f : Frame) (i w : ℕ) (t : Focus) (p : V.Evaluation) → q ≡ next (asked_by t) (resumed f) → IsReadyFocus t → IsReadyFrame f → focus_weight t + frame_weight f < w → p.focus ≡ t → p.frames.items ≡ fs ++ (f ∷ []) → p.at ≡ i → AreReadyFrames fs → GoesOn ps (through q fs) i (w + frames_weight fs) p
goes_waiting ps q fs f i w t p e r s l k m a h = stays ps _ i _ p (ap (λ q. through q fs) (e ∙ ap (λ q. next q (resumed f)) (sym (ap asked_by k))) ∙ sym (ap (through (asked_by p.focus)) m ∙ through_push (asked_by p.focus) fs f)) a (let n = ap focus_weight k in let o = ap frames_weight m ∙ weight_push fs f in omega (arith, n, o, l)) (subst IsReadyFocus (sym k) r, subst AreReadyFrames (sym m) (ready_push fs f h s))

composed : {A : Type 0} (ps : List Taken) (q : Query A) (f : A → Query Result) (fs : List Frame) (i j : ℕ) (x : A) (p : V.Evaluation) → along ps q i ≡ value x j → Moves ps (through (f x) fs) j p → Moves ps (through (next q f) fs) i p
composed ps q f fs i j x p e m = record {
  on = λ g path o. m.on g path (found_on g ps q (λ x. through (f x) fs) i j x path e (subst (λ q. IsOn g ps (record { left = q; at = i })) (through_next q f fs) o));
  ready = m.ready;
}

-- The same, if no other part waits.
found : {A : Type 0} (ps : List Taken) (q : Query A) (f : A → Query Result) (i w j : ℕ) (x : A) (t : Focus) (p : V.Evaluation) → along ps q i ≡ value x j → asked_by t ≡ f x → IsReadyFocus t → focus_weight t < w → p.focus ≡ t → p.at ≡ j → AreReadyFrames p.frames.items → GoesOn ps (through (next q f) p.frames.items) i (w + frames_weight p.frames.items) p
found ps q f i w j x t p e g r l k a h = (
  composed ps q f p.frames.items i p.at x p (e ∙ ap (value x) (sym a)) (subst (λ q. Moves ps (through q p.frames.items) p.at p) (ap asked_by k ∙ g) (here ps p (subst IsReadyFocus (sym k) r, h))),
  let n = ap focus_weight k in omega (arith, n, l),
)

pub goes_come : (ps : List Taken) (q : Query Result) (i w j : ℕ) (o : Outcome) (p : V.Evaluation) → along ps q i ≡ value (outcome_of o) j → IsKeptResult (outcome_of o) → 0 < w → p.focus ≡ F.TheVariants.Came o → p.at ≡ j → AreReadyFrames p.frames.items → GoesOn ps (through q p.frames.items) i (w + frames_weight p.frames.items) p
goes_come ps q i w j o p e h l k a r = subst (λ q. GoesOn ps (through q p.frames.items) i (w + frames_weight p.frames.items) p) (next_done q) (found ps q (λ x. done x) i w j (outcome_of o) (F.TheVariants.Came o) p e refl h l k a r)

pub goes_asked : (ps : List Taken) (a : Atom) (y n : Query Result) (i w j : ℕ) (b : Bool) (t : Focus) (p : V.Evaluation) → along ps (ask a (done true) (done false)) i ≡ value b j → asked_by t ≡ cond b y n → IsReadyFocus t → focus_weight t < w → p.focus ≡ t → p.at ≡ j → AreReadyFrames p.frames.items → GoesOn ps (through (ask a y n) p.frames.items) i (w + frames_weight p.frames.items) p
goes_asked ps a y n i w j b t p e g r l k m h = found ps (ask a (done true) (done false)) (λ b. cond b y n) i w j b t p e g r l k m h

-- ---- An evaluation that stops

framed_decide : (ps : List Taken) (q : Query Result) (fs : List Frame) (i : ℕ) (a : Atom) → along ps q i ≡ decide a → along ps (framed q fs) i ≡ decide a
framed_decide ps q [] i a e = e
framed_decide ps q (f ∷ fs) i a e = run_decide ps (framed q fs) (resumed f) i a (framed_decide ps q fs i a e)

framed_large : (ps : List Taken) (q : Query Result) (fs : List Frame) (i : ℕ) → along ps q i ≡ Evaluation.bits → along ps (framed q fs) i ≡ Evaluation.bits
framed_large ps q [] i e = e
framed_large ps q (f ∷ fs) i e = run_large ps (framed q fs) (resumed f) i (framed_large ps q fs i e)

stops_through : (e : Stop) (ps : List Taken) (q : Query Result) (fs : List Frame) (i : ℕ) → Stops e (along ps q i) → Stops e (along ps (through q fs) i)
stops_through (S.TheVariants.Decide a) ps q fs i h = run_decide ps (framed q fs) ended i _ (framed_decide ps q fs i _ h)
stops_through S.TheVariants.Bits ps q fs i h = run_large ps (framed q fs) ended i (framed_large ps q fs i h)
stops_through (S.TheVariants.Memory e) ps q fs i h = tt

unless_memory : (e : Stop) (H : Type 0) → H → UnlessMemory e H
unless_memory (S.TheVariants.Decide a) H h = h
unless_memory S.TheVariants.Bits H h = h
unless_memory (S.TheVariants.Memory e) H h = tt

pub stops_there : (e : Stop) (ps : List Taken) (q : Query Result) (fs : List Frame) (p p' : V.Evaluation) → left_at p ≡ through q fs → Stops e (along ps q p.at) → left_at p' ≡ left_at p → p'.at ≡ p.at → IsReadyEvaluation p' → Stops e (along ps (left_at p) p.at) × UnlessMemory e (Moves ps (left_at p) p.at p')
stops_there e ps q fs p p' l h m a r = (
  subst (λ t. Stops e (along ps t p.at)) (sym l) (stops_through e ps q fs p.at h),
  unless_memory e _ (subst (λ t. Moves ps t p.at p') m (subst (λ i. Moves ps (left_at p') i p') a (here ps p' r))),
)

-- ---- A result for a waiting part

pub left_popped : (p : V.Evaluation) (o : Outcome) (fs : List Frame) (f : Frame) → p.focus ≡ F.TheVariants.Came o → p.frames.items ≡ fs ++ (f ∷ []) → left_at p ≡ through (resumed f (outcome_of o)) fs
left_popped p o fs f e g = ap₂ (λ t all. through (asked_by t) all) e g ∙ through_push (done (outcome_of o)) fs f

weight_popped : (p : V.Evaluation) (o : Outcome) (fs : List Frame) (f : Frame) → p.focus ≡ F.TheVariants.Came o → p.frames.items ≡ fs ++ (f ∷ []) → weight p ≡ frame_weight f + frames_weight fs
weight_popped p o fs f e g = let m = ap focus_weight e in let n = ap frames_weight g ∙ weight_push fs f in omega (arith, m, n)

pub steps_popped : (ps : List Taken) (r : M.Result (Option (Box Ask Global)) Stop) (p p' : V.Evaluation) (o : Outcome) (fs : List Frame) (f : Frame) → p.focus ≡ F.TheVariants.Came o → p.frames.items ≡ fs ++ (f ∷ []) → Steps ps (through (resumed f (outcome_of o)) fs) p.at (frame_weight f + frames_weight fs) p' r → Steps ps (left_at p) p.at (weight p) p' r
steps_popped ps r p p' o fs f e g h = subst (λ q. Steps ps q p.at (weight p) p' r) (sym (left_popped p o fs f e g)) (subst (λ w. Steps ps (through (resumed f (outcome_of o)) fs) p.at w p' r) (sym (weight_popped p o fs f e g)) h)

pub left_at_focus : (p : V.Evaluation) (f : Focus) → p.focus ≡ f → left_at p ≡ through (asked_by f) p.frames.items
left_at_focus p f e = ap (λ f. through (asked_by f) p.frames.items) e

pub steps_at_focus : (ps : List Taken) (r : M.Result (Option (Box Ask Global)) Stop) (p p' : V.Evaluation) (f : Focus) → p.focus ≡ f → Steps ps (through (asked_by f) p.frames.items) p.at (focus_weight f + frames_weight p.frames.items) p' r → Steps ps (left_at p) p.at (weight p) p' r
steps_at_focus ps r p p' f e h = subst (λ f. Steps ps (through (asked_by f) p.frames.items) p.at (focus_weight f + frames_weight p.frames.items) p' r) (sym e) h

-- ---- The end

pub at_end : (ps : List Taken) (p : V.Evaluation) (o : Outcome) → p.frames.items ≡ [] → p.focus ≡ F.TheVariants.Came o → along ps (left_at p) p.at ≡ along ps (ended (outcome_of o)) p.at
at_end ps p o f g = ap₂ (λ t fs. along ps (through (asked_by t) fs) p.at) g f

some_last : (f : Frame) (fs : List Frame) → None ≡ slice_get (f ∷ fs) (length fs) → ⊥
some_last f [] e = absurd (cc)
some_last f (g ∷ fs) e = some_last g fs e

pub none_last : (fs gs : List Frame) → fs ≡ gs → None ≡ slice_get fs (length fs - 1) → gs ≡ []
none_last [] gs e h = sym e
none_last (f ∷ fs) gs e h = let n : length (f ∷ fs) - 1 ≡ length fs = omega arith in absurd (some_last f fs (h ∙ ap (slice_get (f ∷ fs)) n))

pub no_ends : (ps : List Taken) (o : Outcome) (i : ℕ) → ((x y : Rc (Option Lin) Global) → o ≡ O.TheVariants.Ends x y → ⊥) → along ps (ended (outcome_of o)) i ≡ Evaluation.bits
no_ends ps (O.TheVariants.Number x) i h = run_bits ps i
no_ends ps (O.TheVariants.Truth t) i h = run_bits ps i
no_ends ps (O.TheVariants.Ends x y) i h = absurd (h x y refl)

pub both_ends : (ps : List Taken) (o : Outcome) (i : ℕ) (x y : Rc (Option Lin) Global) → o ≡ O.TheVariants.Ends x y → along ps (ended (outcome_of o)) i ≡ value (linear_of x.value, linear_of y.value) i
both_ends ps o i x y e = ap (λ o. along ps (ended (outcome_of o)) i) e ∙ run_done ps _ i

pub step_at : (ps : List Taken) (p q p' : V.Evaluation) (r : M.Result (Option (Box Ask Global)) Stop) → p ≡ q → Steps ps (left_at p) p.at (weight p) p' r → Steps ps (left_at q) q.at (weight q) p' r
step_at ps p q p' r e h = subst (λ (q : V.Evaluation). Steps ps (left_at q) q.at (weight q) p' r) e h

-- ---- One of two parts

chosen_asks : (b : Bool) (y n : P.Part) → asked (part_of (cond b y n)) ≡ cond b (asked (part_of y)) (asked (part_of n))
chosen_asks true y n = refl
chosen_asks false y n = refl

chosen_ready : (b : Bool) (y n : P.Part) → IsReady (part_of y) × IsReady (part_of n) → IsReady (part_of (cond b y n))
chosen_ready true y n h = h.0
chosen_ready false y n h = h.1

chosen_less : (b : Bool) (y n : P.Part) (k m : ℕ) → k ≡ 1 + (part_weight (part_of y) + part_weight (part_of n)) → m ≡ part_weight (part_of (cond b y n)) → m < k
chosen_less true y n k m e h = omega (arith, e, h)
chosen_less false y n k m e h = omega (arith, e, h)

-- ---- Steps of each kind

steps_on : (ps : List Taken) (p p' : V.Evaluation) (f : Focus) → p.focus ≡ f → GoesOn ps (through (asked_by f) p.frames.items) p.at (focus_weight f + frames_weight p.frames.items) p' → GoesOn ps (left_at p) p.at (weight p) p'
steps_on ps p p' f e h = steps_at_focus ps (M.Ok M.None) p p' f e h

pub stopped : (ps : List Taken) (q : Query Ends) (i w : ℕ) (p : V.Evaluation) (r : M.Result (Option (Box Ask Global)) Stop) (e : Stop) → r ≡ M.Err e → Stops e (along ps q i) × UnlessMemory e (Moves ps q i p) → Steps ps q i w p r
stopped ps q i w p r e k h = subst (Steps ps q i w p) (sym k) h

pub at_question : (ps : List Taken) (p p' : V.Evaluation) (u : Rc P.Part Global) (a : Atom) (y n r : Rc P.Part Global) (b : Bool) (j : ℕ) → p.focus ≡ F.TheVariants.Part u → work_of u.value.work ≡ Work.asks a (part_of y.value) (part_of n.value) → along ps (ask a (done true) (done false)) p.at ≡ value b j → r.value ≡ cond b y.value n.value → p'.focus ≡ F.TheVariants.Part r → p'.frames.items ≡ p.frames.items → p'.at ≡ j → IsReadyEvaluation p → GoesOn ps (left_at p) p.at (weight p) p'
at_question ps p p' u a y n r b j e k h m f g i d =
    let all = ready_by u.value _ k (subst IsReadyFocus e d.0) in
    let goes = goes_asked ps a (asked (part_of y.value)) (asked (part_of n.value)) p.at (part_weight (part_of u.value)) j b (F.TheVariants.Part r) p' h (ap (λ v. asked (part_of v)) m ∙ chosen_asks b y.value n.value) (subst (λ v. IsReady (part_of v)) (sym m) (chosen_ready b y.value n.value all)) (chosen_less b y.value n.value _ _ (weighs_by u.value _ k) (ap (λ v. part_weight (part_of v)) m)) f i (subst AreReadyFrames (sym g) d.1) in
    steps_on ps p p' (F.TheVariants.Part u) e (subst (λ fs. GoesOn ps (through (asked (part_of u.value)) fs) p.at (part_weight (part_of u.value) + frames_weight fs) p') g (subst (λ q. GoesOn ps (through q p'.frames.items) p.at (part_weight (part_of u.value) + frames_weight p'.frames.items) p') (sym (asks_by u.value _ k)) goes))

pub first_done : (u d : P.Part) (t : Rc P.Part Global) → d ≡ u → ((o : Operation) × (s : Rc P.Part Global) × (d.work ≡ W.TheVariants.Two o t s)) ⊎ ((y : Rc P.Part Global) × (n : Rc P.Part Global) × (d.work ≡ W.TheVariants.Choice t y n)) → ((o : Operation) × (s : Rc P.Part Global) × (u.work ≡ W.TheVariants.Two o t s)) ⊎ ((y : Rc P.Part Global) × (n : Rc P.Part Global) × (u.work ≡ W.TheVariants.Choice t y n))
first_done u d t e (inl k) = inl (k.0, k.1, ap (λ (p : P.Part). p.work) (sym e) ∙ k.2)
first_done u d t e (inr k) = inr (k.0, k.1, ap (λ (p : P.Part). p.work) (sym e) ∙ k.2)

waits : (ps : List Taken) (p p' : V.Evaluation) (u v t r : Rc P.Part Global) (w : Work) → p.focus ≡ F.TheVariants.Part u → work_of u.value.work ≡ w → asked_by_work w ≡ next (asked (part_of t.value)) (after_first w) → IsReady (part_of t.value) → part_weight (part_of t.value) + later_weight w < work_weight w → v.value ≡ u.value → r.value ≡ t.value → p'.focus ≡ F.TheVariants.Part r → p'.frames.items ≡ p.frames.items ++ (G.TheVariants.First v ∷ []) → p'.at ≡ p.at → IsReadyEvaluation p → GoesOn ps (left_at p) p.at (weight p) p'
waits ps p p' u v t r w e k q h l c m f g i d =
    let same : work_of v.value.work ≡ w = ap (λ (v : P.Part). work_of v.work) c ∙ k in
    let x = weighs_by u.value _ k in
    let z = ap later_weight same in
    let b = ap (λ v. part_weight (part_of v)) m in
    steps_on ps p p' (F.TheVariants.Part u) e (goes_waiting ps (asked (part_of u.value)) p.frames.items (G.TheVariants.First v) p.at (part_weight (part_of u.value)) (F.TheVariants.Part r) p' (asks_by u.value _ k ∙ q ∙ sym (ap₂ next (ap (λ v. asked (part_of v)) m) (ap after_first same))) (subst (λ v. IsReady (part_of v)) (sym m) h) (subst IsReadyWork (sym same) (ready_by u.value _ k (subst IsReadyFocus e d.0))) (omega (arith, x, z, b, l)) f g i d.1)

pub at_first : (ps : List Taken) (p p' : V.Evaluation) (u v t r : Rc P.Part Global) → p.focus ≡ F.TheVariants.Part u → ((o : Operation) × (s : Rc P.Part Global) × (u.value.work ≡ W.TheVariants.Two o t s)) ⊎ ((y : Rc P.Part Global) × (n : Rc P.Part Global) × (u.value.work ≡ W.TheVariants.Choice t y n)) → v.value ≡ u.value → r.value ≡ t.value → p'.focus ≡ F.TheVariants.Part r → p'.frames.items ≡ p.frames.items ++ (G.TheVariants.First v ∷ []) → p'.at ≡ p.at → IsReadyEvaluation p → GoesOn ps (left_at p) p.at (weight p) p'
at_first ps p p' u v t r e (inl k) c m f g i d = let w = ap work_of k.2 ∙ two_work k.0 t k.1 in waits ps p p' u v t r _ e w refl (ready_by u.value _ w (subst IsReadyFocus e d.0)).0 (omega arith) c m f g i d
at_first ps p p' u v t r e (inr k) c m f g i d = let w = ap work_of k.2 ∙ choice_work t k.0 k.1 in waits ps p p' u v t r _ e w refl (ready_by u.value _ w (subst IsReadyFocus e d.0)).0 (omega arith) c m f g i d

last_of : (fs : List Frame) (f : Frame) → Some f ≡ slice_get fs (length fs - 1) → fs ≡ take (length fs - 1) fs ++ (f ∷ [])
last_of fs f e = let l = slice_get_within fs (length fs - 1) f (sym e) in sym (take_all (suc (length fs - 1)) fs (omega (arith, l))) ∙ take_one_more fs (length fs - 1) f (sym e)

pub last_is : (p : V.Evaluation) (fs : List Frame) (f g : Frame) → fs ≡ p.frames.items → Some g ≡ slice_get fs (length fs - 1) → g ≡ f → p.frames.items ≡ take (length p.frames.items - 1) p.frames.items ++ (f ∷ [])
last_is p fs f g e h k = subst (λ fs. fs ≡ take (length fs - 1) fs ++ (f ∷ [])) e (subst (λ f. fs ≡ take (length fs - 1) fs ++ (f ∷ [])) k (last_of fs g h))

steps_from : (ps : List Taken) (p p' : V.Evaluation) (o : Outcome) (fs : List Frame) (f : Frame) → p.focus ≡ F.TheVariants.Came o → p.frames.items ≡ fs ++ (f ∷ []) → GoesOn ps (through (resumed f (outcome_of o)) fs) p.at (frame_weight f + frames_weight fs) p' → GoesOn ps (left_at p) p.at (weight p) p'
steps_from ps p p' o fs f e g h = steps_popped ps (M.Ok M.None) p p' o fs f e g h

pub at_second : (ps : List Taken) (p p' : V.Evaluation) (o c : Outcome) (fs : List Frame) (u v s r : Rc P.Part Global) (n : Operation) (t : Rc P.Part Global) → p.focus ≡ F.TheVariants.Came o → p.frames.items ≡ fs ++ (G.TheVariants.First u ∷ []) → u.value.work ≡ W.TheVariants.Two n t s → v.value ≡ u.value → outcome_of c ≡ outcome_of o → r.value ≡ s.value → p'.focus ≡ F.TheVariants.Part r → p'.frames.items ≡ fs ++ (G.TheVariants.Second v c ∷ []) → p'.at ≡ p.at → IsReadyEvaluation p → GoesOn ps (left_at p) p.at (weight p) p'
at_second ps p p' o c fs u v s r n t e g k m x y f h i d =
    let w = ap work_of k ∙ two_work n t s in
    let a = ready_pop p.frames.items fs (G.TheVariants.First u) g d.1 in
    let b = subst IsReadyWork w a.1 in
    let l = ap later_weight w in
    let z = ap (λ v. part_weight (part_of v)) y in
    steps_from ps p p' o fs (G.TheVariants.First u) e g (goes_waiting ps (resumed (G.TheVariants.First u) (outcome_of o)) fs (G.TheVariants.Second v c) p.at (frame_weight (G.TheVariants.First u)) (F.TheVariants.Part r) p' (ap (λ w. after_first w (outcome_of o)) w ∙ sym (ap₂ next (ap (λ v. asked (part_of v)) y) (ap₂ (λ (v : P.Part) o. after_second (work_of v.work) o) m x ∙ ap (λ w. after_second w (outcome_of o)) w))) (subst (λ v. IsReady (part_of v)) (sym y) b.1) (subst (λ (v : P.Part). IsReadyWork (work_of v.work)) (sym m) a.1, subst IsKeptResult (sym x) (subst IsReadyFocus e d.0)) (omega (arith, l, z)) f h i a.0)

pub at_choice : (ps : List Taken) (p p' : V.Evaluation) (o : Outcome) (b : Bool) (fs : List Frame) (u g y n r : Rc P.Part Global) → p.focus ≡ F.TheVariants.Came o → o ≡ O.TheVariants.Truth b → p.frames.items ≡ fs ++ (G.TheVariants.First u ∷ []) → u.value.work ≡ W.TheVariants.Choice g y n → r.value ≡ cond b y.value n.value → p'.focus ≡ F.TheVariants.Part r → p'.frames.items ≡ fs → p'.at ≡ p.at → IsReadyEvaluation p → GoesOn ps (left_at p) p.at (weight p) p'
at_choice ps p p' o b fs u g y n r e t h k m f j i d =
    let w = ap work_of k ∙ choice_work g y n in
    let a = ready_pop p.frames.items fs (G.TheVariants.First u) h d.1 in
    let goes = goes_part ps (resumed (G.TheVariants.First u) (outcome_of o)) p.at (frame_weight (G.TheVariants.First u)) (F.TheVariants.Part r) p' (ap₂ after_first w (ap outcome_of t) ∙ sym (ap (λ v. asked (part_of v)) m ∙ chosen_asks b y.value n.value)) (subst (λ v. IsReady (part_of v)) (sym m) (chosen_ready b y.value n.value (subst IsReadyWork w a.1).1)) (chosen_less b y.value n.value _ _ (ap later_weight w) (ap (λ v. part_weight (part_of v)) m)) f i (subst AreReadyFrames (sym j) a.0) in
    steps_from ps p p' o fs (G.TheVariants.First u) e h (subst (λ fs. GoesOn ps (through (resumed (G.TheVariants.First u) (outcome_of o)) fs) p.at (frame_weight (G.TheVariants.First u) + frames_weight fs) p') j goes)

pub at_both : (ps : List Taken) (p p' : V.Evaluation) (o x : Outcome) (fs : List Frame) (u t s : Rc P.Part Global) (n : Operation) (c : Came) → p.focus ≡ F.TheVariants.Came o → p.frames.items ≡ fs ++ (G.TheVariants.Second u x ∷ []) → u.value.work ≡ W.TheVariants.Two n t s → along ps (operated n (outcome_of x) (outcome_of o)) p.at ≡ value (outcome_of c.outcome) c.next → p'.focus ≡ F.TheVariants.Came c.outcome → p'.frames.items ≡ fs → p'.at ≡ c.next → IsReadyEvaluation p → GoesOn ps (left_at p) p.at (weight p) p'
at_both ps p p' o x fs u t s n c e g k h f j i d =
    let w = ap work_of k ∙ two_work n t s in
    let a = ready_pop p.frames.items fs (G.TheVariants.Second u x) g d.1 in
    let kept = came_kept ps (operated n (outcome_of x) (outcome_of o)) p.at c (operated_kept n (outcome_of x) (outcome_of o) a.1.1 (subst IsReadyFocus e d.0)) h in
    steps_from ps p p' o fs (G.TheVariants.Second u x) e g (subst (λ fs. GoesOn ps (through (resumed (G.TheVariants.Second u x) (outcome_of o)) fs) p.at (1 + frames_weight fs) p') j (goes_come ps (resumed (G.TheVariants.Second u x) (outcome_of o)) p.at 1 c.next c.outcome p' (ap (λ w. along ps (after_second w (outcome_of x) (outcome_of o)) p.at) w ∙ h) kept (omega arith) f i (subst AreReadyFrames (sym j) a.0)))
