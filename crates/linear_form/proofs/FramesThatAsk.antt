-- Frames that surely ask a comparison of numbers after they get their result.
use Rattle.std.proofs.Common.{◌≡◌, ℕ, List, [], ◌∷◌, Bool, true, false, ◌&&◌, ◌||◌, refl, sym, ap, ◌∙◌, subst}
use Rattle.std.specs.List.{list_any}
use Rattle.linear_form.specs.Query.{Query}
use Rattle.linear_form.specs.internal.LastingTrees.{Lasts, IsComparison}
use Rattle.linear_form.specs.internal.Outcomes.{Result}
use Rattle.linear_form.specs.internal.Evaluations.{frame_asks, framed, ended, asked_by, left_at, resumed, AreReadyFrames, IsReadyFrame, IsReadyEvaluation, IsReadyFocus}
use Rattle.linear_form.specs.internal.Parts.{Part, Work, after_first, asked, notes, notes_later, IsReady, IsReadyWork}
use Rattle.linear_form.specs.internal.PlainParts.{work_of, part_of}
use Rattle.linear_form.specs.declared.places.Evaluation as V
use Rattle.linear_form.specs.declared.places.Frame as F
use Rattle.linear_form.specs.declared.places.Frame.{Frame}
use Rattle.std.specs.declared.alloc.Global.{Global}
use Rattle.std.specs.declared.rc.Rc.{Rc}
use Rattle.linear_form.specs.PlainPaths.{atom_of}
use Rattle.linear_form.specs.declared.places.Focus as O
use Rattle.linear_form.specs.declared.parts.Part as P
use Rattle.linear_form.specs.declared.parts.Work as W
use Rattle.linear_form.specs.declared.paths.Atom as A
use Rattle.linear_form.proofs.PlainPartsAre.{asks_by, asks_work, does, ready_by}
use Rattle.linear_form.proofs.ReadyParts.{choice_follows, comparison_lasts, none_lasts, part_asks, two_follows}
use Rattle.linear_form.proofs.SureQuestions.{lasts_first, lasts_twice}

-- ---- What is recorded of parts

pub sure : (p : Part) → IsReady p → notes p ≡ true → Lasts 1 (asked p)
sure (Part.part w b) h e = h.0 e

both_true : (b c : Bool) → (b && c) ≡ true → (b ≡ true) × (c ≡ true)
both_true true c e = (refl, e)
both_true false c e = absurd (cc)

-- ---- Frames

framed_first : (k : ℕ) (q : Query Result) (fs : List Frame) → Lasts k q → Lasts k (framed q fs)
framed_first k q [] h = h
framed_first k q (f ∷ fs) h = lasts_first k (framed q fs) (resumed f) (framed_first k q fs h)

-- ---- Frames that ask by their record

follows : (w : Work) (r : Result) → IsReadyWork w → notes_later w ≡ true → Lasts 1 (after_first w r)
follows (Work.known x) r h e = absurd (cc)
follows Work.large r h e = absurd (cc)
follows (Work.asks a p u) r h e = absurd (cc)
follows (Work.two o p u) r h e = two_follows o p u (sure u h.1 e) r
follows (Work.choice g p u) r h e = let b = both_true (notes p) (notes u) e in choice_follows g p u (sure p h.1.0 b.0) (sure u h.1.1 b.1) r

frame_follows : (f : Frame) (r : Result) → IsReadyFrame f → frame_asks f ≡ true → Lasts 1 (resumed f r)
frame_follows (F.TheVariants.First p) r h e = follows (work_of p.value.work) r h e
frame_follows (F.TheVariants.Second p o) r h e = absurd (cc)

one_more : (q : Query Result) (fs : List Frame) (f : Frame) → Lasts 1 q → AreReadyFrames (f ∷ fs) → (list_any frame_asks fs ≡ true → Lasts 2 (framed q fs)) → (b : Bool) → frame_asks f ≡ b → (b || list_any frame_asks fs) ≡ true → Lasts 2 (framed q (f ∷ fs))
one_more q fs f h a g true k e = lasts_twice (framed q fs) (resumed f) (framed_first 1 q fs h) (λ r. frame_follows f r a.0 k)
one_more q fs f h a g false k e = lasts_first 2 (framed q fs) (resumed f) (g e)

pub framed_twice : (q : Query Result) (fs : List Frame) → Lasts 1 q → AreReadyFrames fs → list_any frame_asks fs ≡ true → Lasts 2 (framed q fs)
framed_twice q [] h a e = absurd (cc)
framed_twice q (f ∷ fs) h a e = one_more q fs f h a (framed_twice q fs h a.1) (frame_asks f) refl e

pub left_twice : (p : V.Evaluation) (fs : List Frame) → fs ≡ p.frames.items → Lasts 2 (framed (asked_by p.focus) fs) → Lasts 2 (left_at p)
left_twice p fs e h = lasts_first 2 (framed (asked_by p.focus) p.frames.items) ended (subst (λ fs. Lasts 2 (framed (asked_by p.focus) fs)) e h)

-- ---- Evaluations at a comparison

comparison_sure : (u : P.Part) (a : Rc A.Atom Global) (y n : Rc P.Part Global) → u.work ≡ W.TheVariants.Asks a y n → IsComparison (atom_of a.value) → Lasts 1 (asked (part_of u))
comparison_sure u a y n e c = subst (Lasts 1) (sym (asks_by u _ (ap work_of e ∙ asks_work a y n))) (comparison_lasts 0 (atom_of a.value) _ _ c (none_lasts _) (none_lasts _))

pub waiting_twice : (p : V.Evaluation) (u : Rc P.Part Global) (d : P.Part) (a : Rc A.Atom Global) (y n : Rc P.Part Global) (fs : List Frame) → p.focus ≡ O.TheVariants.Part u → d ≡ u.value → d.work ≡ W.TheVariants.Asks a y n → IsComparison (atom_of a.value) → IsReadyEvaluation p → fs ≡ p.frames.items → list_any frame_asks fs ≡ true → Lasts 2 (left_at p)
waiting_twice p u d a y n fs e k g c r f h = left_twice p fs f (framed_twice (asked_by p.focus) fs (subst (λ f. Lasts 1 (asked_by f)) (sym e) (subst (λ d. Lasts 1 (asked (part_of d))) k (comparison_sure d a y n g c))) (subst AreReadyFrames (sym f) r.1) h)

pub question_twice : (p : V.Evaluation) (u : Rc P.Part Global) (d : P.Part) (a : Rc A.Atom Global) (y n : Rc P.Part Global) → p.focus ≡ O.TheVariants.Part u → d ≡ u.value → d.work ≡ W.TheVariants.Asks a y n → IsComparison (atom_of a.value) → IsReadyEvaluation p → y.value.asks ≡ true → n.value.asks ≡ true → Lasts 2 (left_at p)
question_twice p u d a y n e k g c r s t =
    let w = does u.value d _ k g ∙ asks_work a y n in
    let h = ready_by u.value _ w (subst IsReadyFocus e r.0) in
    let two : Lasts 2 (asked (part_of u.value)) = subst (Lasts 2) (sym (asks_by u.value _ w)) (comparison_lasts 1 (atom_of a.value) _ _ c (part_asks y.value _ refl h.0 s) (part_asks n.value _ refl h.1 t)) in
    left_twice p p.frames.items refl (framed_first 2 (asked_by p.focus) p.frames.items (subst (λ f. Lasts 2 (asked_by f)) (sym e) two))
