-- Counts up to a ceiling, for sequences of acts and of arms.
use Rattle.heylo_formula.specs.declared.forms.Cond as C
use Rattle.heyvl_acts.proofs.exported.PlainActsAre.{head_of, if_act}
use Rattle.heyvl_acts.specs.Acts.{Act}
use Rattle.heyvl_acts.specs.Count.{count_of, count_of_act, count_of_arms}
use Rattle.heyvl_acts.specs.PlainActs.{act_of, acts_of, arms_of, loop_of}
use Rattle.heyvl_acts.specs.declared.acts.Act as A
use Rattle.heyvl_acts.specs.declared.acts.Act.TheFolds.{fold-roll-LoopAct}
use Rattle.heyvl_acts.specs.declared.acts.LoopAct as L
use Rattle.heyvl_places.specs.declared.spans.Span.{Span}
use Rattle.std.proofs.Common.{List, ap, arith, drop, get_or, length, sym, ◌+◌, ◌<◌, ◌∙◌, ◌≡◌, ◌≤◌, ℕ}
use Rattle.std.proofs.lemmas.List.{at_drop_more, drop_all}
use Rattle.std.specs.Prelude.{Vec, min}
use Rattle.std.specs.declared.alloc.Global.{Global}

-- The number of statements of the acts, and of the arms, from the index `k` on.
abbrev pub acts_left : List A.Act → ℕ → ℕ
acts_left acts k = count_of (acts_of (drop k acts))

abbrev pub arms_left : List (C.Cond × Vec A.Act Global) → ℕ → ℕ
arms_left arms k = count_of_arms (arms_of (drop k arms))

pub next_act : (acts : List A.Act) (k : ℕ) (a : A.Act) → k < length acts → a ≡ get_or acts k a → acts_left acts k ≡ count_of_act (act_of a) + acts_left acts (k + 1)
next_act acts k a lt is = at_drop_more (λ l. count_of (acts_of l)) acts k a lt ∙ ap (λ y. count_of_act (act_of y) + acts_left acts (k + 1)) (sym is)

pub no_act : (acts : List A.Act) (k : ℕ) → length acts ≤ k → acts_left acts k ≡ 0
no_act acts k over = ap (λ l. count_of (acts_of l)) (drop_all k acts over)

pub next_arm : (arms : List (C.Cond × Vec A.Act Global)) (k : ℕ) (a : C.Cond × Vec A.Act Global) → k < length arms → a ≡ get_or arms k a → arms_left arms k ≡ 1 + (count_of (acts_of a.1.items) + arms_left arms (k + 1))
next_arm arms k a lt is = at_drop_more (λ l. count_of_arms (arms_of l)) arms k a lt ∙ ap (λ y. 1 + (count_of (acts_of y.1.items) + arms_left arms (k + 1))) (sym is)

pub no_arm : (arms : List (C.Cond × Vec A.Act Global)) (k : ℕ) → length arms ≤ k → arms_left arms k ≡ 0
no_arm arms k over = ap (λ l. count_of_arms (arms_of l)) (drop_all k arms over)

pub if_count : (a : A.Act) (arms : Vec (C.Cond × Vec A.Act Global) Global) (other : Vec A.Act Global) (span : Span) → a ≡ A.If arms other span → arms_left arms.items 0 + count_of (acts_of other.items) ≡ count_of_act (act_of a)
if_count a arms other span is = sym (ap (λ y. count_of_act (act_of y)) is ∙ ap count_of_act (if_act arms other span))

-- The statements that are counted and those that are left, compared with all.
pub record Counts (all total left : ℕ) : Type 0 where
  pub below : total ≤ 1025
  pub same : min 1025 (total + left) ≡ min 1025 all

pub start : (all : ℕ) → Counts all 0 all
start all = record { below = omega arith; same = omega arith }

pub start_behind : (all total a b : ℕ) → a + b ≡ all → total ≡ min 1025 b → Counts all total a
start_behind all total a b e h = record { below = omega arith; same = omega arith }

pub step : (all total x rest left new : ℕ) → Counts all total left → left ≡ x + rest → new ≡ min 1025 (total + x) → Counts all new rest
step all total x rest left new c e h = let s = c.same in record { below = omega arith; same = omega (arith, s) }

pub full : (all total left : ℕ) → Counts all total left → 1025 ≤ total → 1025 ≡ min 1025 all
full all total left c h = let s = c.same in omega (arith, s)

pub finished : (all total left : ℕ) → Counts all total left → left ≡ 0 → total ≡ min 1025 all
finished all total left c h = let s = c.same in let b = c.below in omega (arith, s, b)

pub capped_self : (total : ℕ) → total ≤ 1025 → total ≡ min 1025 total
capped_self total h = omega arith

-- A loop, and a call.
pub loop_plain : (l : L.LoopAct) → loop_of l ≡ Act.loop (head_of l) (acts_of l.body.items)
loop_plain l = fold-roll-LoopAct _ _ _ _ _

pub loop_full : (counted m copies : ℕ) → counted ≡ min 1025 (4 + copies) → 1025 ≤ counted → 1025 ≡ min 1025 (4 + (m + copies))
loop_full counted m copies e h = omega arith

pub loop_counted : (m copies : ℕ) → min 1025 ((4 + copies) + m) ≡ min 1025 (4 + (m + copies))
loop_counted m copies = ap (min 1025) (omega arith)
