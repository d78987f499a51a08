-- The walk that collects acts: the collected ones, and the remaining ones.
use Rattle.std.proofs.Common.{◌≡◌, ℕ, Bool, ◌<◌, ◌+◌, ap, sym, ◌∙◌, List, [], ◌∷◌, ◌++◌, append_assoc, length, get_or, map}
use Rattle.std.proofs.lemmas.List.{map-append}
use Rattle.std.specs.Borrow.{Bor}
use Rattle.std.specs.Prelude.{Vec}
use Rattle.std.specs.declared.alloc.Global.{Global}
use Rattle.heyvl_places.specs.declared.spans.Span.{Span}
use Rattle.heylo_formula.specs.declared.forms.Cond as C
use Rattle.heyvl_acts.proofs.exported.PlainActsAre.{if_act, pick_act}
use Rattle.heyvl_acts.specs.Acts.{Act}
use Rattle.heyvl_acts.specs.Places.{in_order, inside}
use Rattle.heyvl_acts.specs.PlainActs.{act_of, acts_of}
use Rattle.heyvl_acts.specs.declared.acts.Act as A
use Rattle.act_walks.specs.Lent.{lent}
use Rattle.heyvl_acts.proofs.exported.ActsInOrder.{acts_from, arms_from, next_act, next_arm}

-- An act is appended, and then the acts in it.
pub next_gathered : (before pushed after : List (Bor A.Act)) (x : Bor A.Act) (acts : List A.Act) (k : ℕ) → pushed ≡ before ++ x ∷ [] → map lent after ≡ map lent pushed ++ inside (act_of x.now) → k < length acts → x.now ≡ get_or acts k x.now → map lent after ++ acts_from acts (k + 1) ≡ map lent before ++ acts_from acts k
next_gathered before pushed after x acts k e h lt is =
    ap (λ l. l ++ acts_from acts (k + 1)) (h ∙ (ap (λ l. map lent l ++ inside (act_of x.now)) e ∙ (ap (λ l. l ++ inside (act_of x.now)) (map-append lent before (x ∷ [])) ∙ append_assoc (map lent before) (lent x ∷ []) (inside (act_of x.now)))))
    ∙ (append_assoc (map lent before) (lent x ∷ inside (act_of x.now)) (acts_from acts (k + 1))
    ∙ ap (λ l. map lent before ++ l) (sym (next_act acts k x.now lt is)))

-- The acts of an arm are appended.
pub next_arm_gathered : (before after : List Act) (arms : List (C.Cond × Vec A.Act Global)) (k : ℕ) (e : List Act) (x : C.Cond × Vec A.Act Global) → k < length arms → x ≡ get_or arms k x → after ≡ before ++ in_order (acts_of x.1.items) → after ++ arms_from arms (k + 1) e ≡ before ++ arms_from arms k e
next_arm_gathered before after arms k e x lt is h =
    ap (λ l. l ++ arms_from arms (k + 1) e) h
    ∙ (append_assoc before (in_order (acts_of x.1.items)) (arms_from arms (k + 1) e)
    ∙ ap (λ l. before ++ l) (sym (next_arm arms k e x lt is)))

-- The acts in an act, part by part.
pub inside_if : (a : A.Act) (arms : Vec (C.Cond × Vec A.Act Global) Global) (e : Vec A.Act Global) (span : Span) → a ≡ A.If arms e span → arms_from arms.items 0 (in_order (acts_of e.items)) ≡ inside (act_of a)
inside_if a arms e span is = sym (ap (λ x. inside (act_of x)) is ∙ ap inside (if_act arms e span))

pub inside_pick : (a : A.Act) (up : Bool) (b d : Vec A.Act Global) (span : Span) → a ≡ A.Pick up b d span → in_order (acts_of b.items) ++ in_order (acts_of d.items) ≡ inside (act_of a)
inside_pick a up b d span is = sym (ap (λ x. inside (act_of x)) is ∙ ap inside (pick_act up b d span))
