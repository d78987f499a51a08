-- Sizes and items of blocks, act by act.
use Rattle.std.proofs.Common.{◌≡◌, ℕ, Bool, ◌+◌, ◌≤◌, ◌<◌, ap, sym, ◌∙◌, List, [], ◌∷◌, ◌++◌, length, drop, get_or}
use Rattle.std.proofs.lemmas.List.{at_drop_more, drop_all, length-append}
use Rattle.std.specs.Prelude.{Vec}
use Rattle.std.specs.declared.alloc.Global.{Global}
use Prim.Native.Nat.{suc}
use Rattle.heyvl_places.specs.declared.spans.Span.{Span}
use Rattle.heylo_formula.specs.declared.forms.Cond as C
use Rattle.heyvl_acts.specs.declared.acts.Act as A
use Rattle.heyvl_acts.specs.declared.acts.LoopAct as L
use Rattle.std.specs.declared.boxed.Box.{Box}
use Rattle.heyvl_acts.specs.PlainActs.{act_of, acts_of, arms_of}
use Rattle.heyvl_acts.specs.Places.{in_order, inside, inside_arms}
use Rattle.heyvl_acts.proofs.exported.PlainActsAre.{if_act, pick_act, loop_act}
use Rattle.run_machine.specs.declared.configurations.Item.TheVariants.{Do}
use Rattle.run_machine.specs.Names.{numbered}

-- The number of acts, with the acts in them, from index `k` of a list on.
abbrev pub size_from : List A.Act → ℕ → ℕ
size_from acts k = length (in_order (acts_of (drop k acts)))

abbrev pub arms_from : List (C.Cond × Vec A.Act Global) → ℕ → ℕ
arms_from arms k = length (inside_arms (arms_of (drop k arms)))

pub size_next : (acts : List A.Act) (k : ℕ) (x : A.Act) → k < length acts → x ≡ get_or acts k x → size_from acts k ≡ suc (length (inside (act_of x))) + size_from acts (k + 1)
size_next acts k x lt is = at_drop_more (λ l. length (in_order (acts_of l))) acts k x lt ∙ ap (λ y. length ((act_of y ∷ inside (act_of y)) ++ in_order (acts_of (drop (k + 1) acts)))) (sym is) ∙ length-append (act_of x ∷ inside (act_of x)) (in_order (acts_of (drop (k + 1) acts)))

pub size_none : (acts : List A.Act) (k : ℕ) → length acts ≤ k → size_from acts k ≡ 0
size_none acts k over = ap (λ l. length (in_order (acts_of l))) (drop_all k acts over)

pub arms_next : (arms : List (C.Cond × Vec A.Act Global)) (k : ℕ) (x : C.Cond × Vec A.Act Global) → k < length arms → x ≡ get_or arms k x → arms_from arms k ≡ length (in_order (acts_of x.1.items)) + arms_from arms (k + 1)
arms_next arms k x lt is = at_drop_more (λ l. length (inside_arms (arms_of l))) arms k x lt ∙ ap (λ y. length (in_order (acts_of y.1.items) ++ inside_arms (arms_of (drop (k + 1) arms)))) (sym is) ∙ length-append (in_order (acts_of x.1.items)) (inside_arms (arms_of (drop (k + 1) arms)))

pub arms_none : (arms : List (C.Cond × Vec A.Act Global)) (k : ℕ) → length arms ≤ k → arms_from arms k ≡ 0
arms_none arms k over = ap (λ l. length (inside_arms (arms_of l))) (drop_all k arms over)

pub if_size : (a : A.Act) (arms : Vec (C.Cond × Vec A.Act Global) Global) (e : Vec A.Act Global) (span : Span) → a ≡ A.If arms e span → length (inside (act_of a)) ≡ length (inside_arms (arms_of arms.items)) + length (in_order (acts_of e.items))
if_size a arms e span is = ap (λ x. length (inside (act_of x))) is ∙ ap (λ x. length (inside x)) (if_act arms e span) ∙ length-append (inside_arms (arms_of arms.items)) (in_order (acts_of e.items))

pub pick_size : (a : A.Act) (up : Bool) (b d : Vec A.Act Global) (span : Span) → a ≡ A.Pick up b d span → length (inside (act_of a)) ≡ length (in_order (acts_of b.items)) + length (in_order (acts_of d.items))
pick_size a up b d span is = ap (λ x. length (inside (act_of x))) is ∙ ap (λ x. length (inside x)) (pick_act up b d span) ∙ length-append (in_order (acts_of b.items)) (in_order (acts_of d.items))

pub loop_size : (a : A.Act) (l : Box L.LoopAct Global) → a ≡ A.Loop l → length (inside (act_of a)) ≡ length (in_order (acts_of l.value.body.items))
loop_size a l is = ap (λ x. length (inside (act_of x))) is ∙ ap (λ x. length (inside x)) (loop_act l)

pub numbered_next : (p place : ℕ) (acts : List A.Act) (k : ℕ) (x : A.Act) → k < length acts → x ≡ get_or acts k x → numbered p place (acts_of (drop k acts)) ≡ Do p place ∷ numbered p (place + suc (length (inside (act_of x)))) (acts_of (drop (k + 1) acts))
numbered_next p place acts k x lt is = at_drop_more (λ l. numbered p place (acts_of l)) acts k x lt ∙ ap (λ y. Do p place ∷ numbered p (place + suc (length (inside (act_of y)))) (acts_of (drop (k + 1) acts))) (sym is)

pub numbered_none : (p place : ℕ) (acts : List A.Act) (k : ℕ) → length acts ≤ k → numbered p place (acts_of (drop k acts)) ≡ []
numbered_none p place acts k over = ap (λ l. numbered p place (acts_of l)) (drop_all k acts over)
