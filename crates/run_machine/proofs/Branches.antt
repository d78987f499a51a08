-- The arms of an if, one by one.
use Rattle.std.proofs.Common.{◌≡◌, ℕ, ◌+◌, ◌<◌, ◌≤◌, ap, sym, ◌∙◌, Bool, true, false, List, length, drop, get_or}
use Rattle.std.proofs.lemmas.List.{at_drop_more, drop_all}
use Rattle.std.specs.Prelude.{if◌then◌else◌, Some, Vec}
use Rattle.std.specs.declared.alloc.Global.{Global}
use Rattle.heylo_formula.specs.Choices.{Choices}
use Rattle.heylo_formula.specs.Meaning.{holds}
use Rattle.heylo_formula.specs.PlainTrees.{cond_of}
use Rattle.heylo_formula.specs.State.{Env}
use Rattle.heylo_formula.specs.declared.forms.Cond as C
use Rattle.heylo_formula.specs.declared.values.Val.{Val}
use Rattle.heyvl_acts.specs.declared.acts.Act as A
use Rattle.heyvl_acts.specs.Acts.{Acts}
use Rattle.heyvl_acts.specs.Matching.{taken}
use Rattle.heyvl_acts.specs.Places.{in_order}
use Rattle.heyvl_acts.specs.PlainActs.{acts_of, arms_of}
use Rattle.quant_algebra.specs.ExactMeaning.{exact_truth}
use Rattle.run_machine.specs.BoundedStep.{guards_fit, true_or}
use Rattle.run_machine.specs.StoredMoves.{taken_place}

abbrev pub Arm : Type 0
Arm = C.Cond × Vec A.Act Global

guards_next : (s : List Val) (arms : List Arm) (k : ℕ) (x : Arm) (b : Bool) → k < length arms → x ≡ get_or arms k x → Some b ≡ exact_truth (cond_of x.0) s → guards_fit (arms_of (drop k arms)) s ≡ true_or (Some b) (guards_fit (arms_of (drop (k + 1) arms)) s)
guards_next s arms k x b lt is h = at_drop_more (λ l. guards_fit (arms_of l) s) arms k x lt ∙ ap (λ y. true_or (exact_truth (cond_of y.0) s) (guards_fit (arms_of (drop (k + 1) arms)) s)) (sym is) ∙ ap (λ o. true_or o (guards_fit (arms_of (drop (k + 1) arms)) s)) (sym h)

pub guards_past : (s : List Val) (arms : List Arm) (k : ℕ) (x : Arm) → k < length arms → x ≡ get_or arms k x → Some false ≡ exact_truth (cond_of x.0) s → guards_fit (arms_of (drop k arms)) s ≡ guards_fit (arms_of (drop (k + 1) arms)) s
guards_past s arms k x lt is h = guards_next s arms k x false lt is h

pub guards_found : (s : List Val) (arms : List Arm) (k : ℕ) (x : Arm) → k < length arms → x ≡ get_or arms k x → Some true ≡ exact_truth (cond_of x.0) s → guards_fit (arms_of (drop k arms)) s ≡ true
guards_found s arms k x lt is h = guards_next s arms k x true lt is h

pub guards_none : (s : List Val) (arms : List Arm) (k : ℕ) → length arms ≤ k → guards_fit (arms_of (drop k arms)) s ≡ true
guards_none s arms k over = ap (λ l. guards_fit (arms_of l) s) (drop_all k arms over)

pub block_next : (e : Acts) (s : Env) (arms : List Arm) (k : ℕ) (x : Arm) (b : Bool) → k < length arms → x ≡ get_or arms k x → b ≡ holds (cond_of x.0) s Choices.stop → taken (arms_of (drop k arms)) e s ≡ (if b then acts_of x.1.items else taken (arms_of (drop (k + 1) arms)) e s)
block_next e s arms k x b lt is h = at_drop_more (λ l. taken (arms_of l) e s) arms k x lt ∙ ap (λ y. if holds (cond_of y.0) s Choices.stop then acts_of y.1.items else taken (arms_of (drop (k + 1) arms)) e s) (sym is) ∙ ap (λ t. if t then acts_of x.1.items else taken (arms_of (drop (k + 1) arms)) e s) (sym h)

pub block_none : (e : Acts) (s : Env) (arms : List Arm) (k : ℕ) → length arms ≤ k → taken (arms_of (drop k arms)) e s ≡ e
block_none e s arms k over = ap (λ l. taken (arms_of l) e s) (drop_all k arms over)

pub place_next : (n : ℕ) (s : Env) (arms : List Arm) (k : ℕ) (x : Arm) (b : Bool) → k < length arms → x ≡ get_or arms k x → b ≡ holds (cond_of x.0) s Choices.stop → taken_place n (arms_of (drop k arms)) s ≡ (if b then n else taken_place (n + length (in_order (acts_of x.1.items))) (arms_of (drop (k + 1) arms)) s)
place_next n s arms k x b lt is h = at_drop_more (λ l. taken_place n (arms_of l) s) arms k x lt ∙ ap (λ y. if holds (cond_of y.0) s Choices.stop then n else taken_place (n + length (in_order (acts_of y.1.items))) (arms_of (drop (k + 1) arms)) s) (sym is) ∙ ap (λ t. if t then n else taken_place (n + length (in_order (acts_of x.1.items))) (arms_of (drop (k + 1) arms)) s) (sym h)

pub place_none : (n : ℕ) (s : Env) (arms : List Arm) (k : ℕ) → length arms ≤ k → taken_place n (arms_of (drop k arms)) s ≡ n
place_none n s arms k over = ap (λ l. taken_place n (arms_of l) s) (drop_all k arms over)
