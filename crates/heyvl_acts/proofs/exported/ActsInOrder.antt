-- For the proofs of other crates: the acts of the code, in the order of the text, the remaining
-- ones of a walk, and those in an act.
use Rattle.std.proofs.Common.{◌≡◌, ℕ, Bool, ◌<◌, ◌+◌, ap, sym, ◌∙◌, List, ◌∷◌, ◌++◌, append_assoc, length, drop, get_or}
use Rattle.std.proofs.lemmas.List.{at_drop_more}
use Rattle.std.specs.Prelude.{Vec}
use Rattle.std.specs.declared.alloc.Global.{Global}
use Rattle.heyvl_places.specs.declared.spans.Span.{Span}
use Rattle.heylo_formula.specs.declared.forms.Cond as C
use Rattle.heyvl_acts.proofs.exported.PlainActsAre.{if_act, pick_act}
use Rattle.heyvl_acts.specs.Acts.{Act}
use Rattle.heyvl_acts.specs.Places.{in_order, inside, inside_arms}
use Rattle.heyvl_acts.specs.PlainActs.{act_of, acts_of, arms_of}
use Rattle.heyvl_acts.specs.declared.acts.Act as A

-- The acts that remain of a walk over acts, and over arms.
abbrev pub acts_from : List A.Act → ℕ → List Act
acts_from acts k = in_order (acts_of (drop k acts))

abbrev pub arms_from : List (C.Cond × Vec A.Act Global) → ℕ → List Act → List Act
arms_from arms k e = inside_arms (arms_of (drop k arms)) ++ e

pub next_act : (acts : List A.Act) (k : ℕ) (x : A.Act) → k < length acts → x ≡ get_or acts k x → acts_from acts k ≡ (act_of x ∷ inside (act_of x)) ++ acts_from acts (k + 1)
next_act acts k x lt is = at_drop_more (λ l. in_order (acts_of l)) acts k x lt ∙ ap (λ y. (act_of y ∷ inside (act_of y)) ++ acts_from acts (k + 1)) (sym is)

pub next_arm : (arms : List (C.Cond × Vec A.Act Global)) (k : ℕ) (e : List Act) (x : C.Cond × Vec A.Act Global) → k < length arms → x ≡ get_or arms k x → arms_from arms k e ≡ in_order (acts_of x.1.items) ++ arms_from arms (k + 1) e
next_arm arms k e x lt is = at_drop_more (λ l. inside_arms (arms_of l) ++ e) arms k x lt ∙ (ap (λ y. (in_order (acts_of y.1.items) ++ inside_arms (arms_of (drop (k + 1) arms))) ++ e) (sym is) ∙ append_assoc (in_order (acts_of x.1.items)) (inside_arms (arms_of (drop (k + 1) arms))) e)

-- The acts in an act, and the act itself, under a function of lists for which the act itself does
-- not count.
pub of_if : {B : Type 0} (f : List Act → B) (a : A.Act) (arms : Vec (C.Cond × Vec A.Act Global) Global) (e : Vec A.Act Global) (span : Span) → f (arms_from arms.items 0 (in_order (acts_of e.items))) ≡ f (Act.ifs (arms_of arms.items) (acts_of e.items) span ∷ arms_from arms.items 0 (in_order (acts_of e.items))) → a ≡ A.If arms e span → f (arms_from arms.items 0 (in_order (acts_of e.items))) ≡ f (act_of a ∷ inside (act_of a))
of_if f a arms e span left_out is = left_out ∙ sym (ap (λ x. f (act_of x ∷ inside (act_of x))) is ∙ ap (λ x. f (x ∷ inside x)) (if_act arms e span))

pub of_pick : {B : Type 0} (f : List Act → B) (a : A.Act) (up : Bool) (b d : Vec A.Act Global) (span : Span) → f (in_order (acts_of b.items) ++ in_order (acts_of d.items)) ≡ f (Act.pick up (acts_of b.items) (acts_of d.items) span ∷ (in_order (acts_of b.items) ++ in_order (acts_of d.items))) → a ≡ A.Pick up b d span → f (in_order (acts_of b.items) ++ in_order (acts_of d.items)) ≡ f (act_of a ∷ inside (act_of a))
of_pick f a up b d span left_out is = left_out ∙ sym (ap (λ x. f (act_of x ∷ inside (act_of x))) is ∙ ap (λ x. f (x ∷ inside x)) (pick_act up b d span))
