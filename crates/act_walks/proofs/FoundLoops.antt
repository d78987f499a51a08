-- The loop with a given number, in appended lists of acts.
use Rattle.std.proofs.Common.{◌≡◌, ℕ, Bool, true, false, cond, ◌<◌, ◌+◌, ◌==◌, refl, ap, sym, ◌∙◌, List, [], ◌∷◌, ◌++◌, length, get_or}
use Rattle.std.specs.Option.{option_or}
use Rattle.std.specs.Prelude.{Option, Some, None, Vec}
use Rattle.std.specs.declared.alloc.Global.{Global}
use Rattle.heylo_formula.specs.declared.forms.Cond as C
use Rattle.heyvl_acts.specs.Acts.{Head, Act, Acts}
use Rattle.heyvl_acts.specs.Places.{in_order, inside}
use Rattle.heyvl_acts.specs.PlainActs.{act_of, acts_of}
use Rattle.heyvl_acts.specs.declared.acts.Act as A
use Rattle.act_walks.specs.Loops.{loop_in}
use Rattle.heyvl_acts.proofs.exported.ActsInOrder.{acts_from, arms_from, next_act, next_arm}

abbrev Found : Type 0
Found = Option (Head × Acts)

either : (t : Bool) (l : Head × Acts) (x y : Found) → cond t (Some l) (option_or x y) ≡ option_or (cond t (Some l) x) y
either true l x y = refl
either false l x y = refl

both : (n : ℕ) (xs ys : List Act) → loop_in n (xs ++ ys) ≡ option_or (loop_in n xs) (loop_in n ys)
both n [] ys = refl
both n (Act.set x t span ∷ rest) ys = both n rest ys
both n (Act.draw x ps span ∷ rest) ys = both n rest ys
both n (Act.toss x f span ∷ rest) ys = both n rest ys
both n (Act.any x up ty span ∷ rest) ys = both n rest ys
both n (Act.reward f span ∷ rest) ys = both n rest ys
both n (Act.ifs arms e span ∷ rest) ys = both n rest ys
both n (Act.pick up a b span ∷ rest) ys = both n rest ys
both n (Act.check kind f span ∷ rest) ys = both n rest ys
both n (Act.validate d span ∷ rest) ys = both n rest ys
both n (Act.loop h b ∷ rest) ys = ap (λ (x : Found). cond (h.number == n) (Some (h, b)) x) (both n rest ys) ∙ either (h.number == n) (h, b) (loop_in n rest) (loop_in n ys)
both n (Act.call xs p es span ∷ rest) ys = both n rest ys

-- A loop that is found in the first list is found in both.
pub found_first : (n : ℕ) (xs ys : List Act) (l : Head × Acts) → Some l ≡ loop_in n xs → Some l ≡ loop_in n (xs ++ ys)
found_first n xs ys l h = sym (both n xs ys ∙ ap (λ o. option_or o (loop_in n ys)) (sym h))

-- If there is none in the first list, the second one decides.
pub past_first : (n : ℕ) (xs ys : List Act) → None ≡ loop_in n xs → loop_in n (xs ++ ys) ≡ loop_in n ys
past_first n xs ys h = both n xs ys ∙ ap (λ o. option_or o (loop_in n ys)) (sym h)

pub act_found : (n : ℕ) (acts : List A.Act) (k : ℕ) (x : A.Act) (l : Head × Acts) → k < length acts → x ≡ get_or acts k x → Some l ≡ loop_in n (act_of x ∷ inside (act_of x)) → Some l ≡ loop_in n (acts_from acts k)
act_found n acts k x l lt is h = found_first n (act_of x ∷ inside (act_of x)) (acts_from acts (k + 1)) l h ∙ ap (λ l. loop_in n l) (sym (next_act acts k x lt is))

pub act_past : (n : ℕ) (acts : List A.Act) (k : ℕ) (x : A.Act) → k < length acts → x ≡ get_or acts k x → None ≡ loop_in n (act_of x ∷ inside (act_of x)) → loop_in n (acts_from acts (k + 1)) ≡ loop_in n (acts_from acts k)
act_past n acts k x lt is h = sym (ap (λ l. loop_in n l) (next_act acts k x lt is) ∙ past_first n (act_of x ∷ inside (act_of x)) (acts_from acts (k + 1)) h)

pub arm_found : (n : ℕ) (arms : List (C.Cond × Vec A.Act Global)) (k : ℕ) (e : List Act) (x : C.Cond × Vec A.Act Global) (l : Head × Acts) → k < length arms → x ≡ get_or arms k x → Some l ≡ loop_in n (in_order (acts_of x.1.items)) → Some l ≡ loop_in n (arms_from arms k e)
arm_found n arms k e x l lt is h = found_first n (in_order (acts_of x.1.items)) (arms_from arms (k + 1) e) l h ∙ ap (λ l. loop_in n l) (sym (next_arm arms k e x lt is))

pub arm_past : (n : ℕ) (arms : List (C.Cond × Vec A.Act Global)) (k : ℕ) (e : List Act) (x : C.Cond × Vec A.Act Global) → k < length arms → x ≡ get_or arms k x → None ≡ loop_in n (in_order (acts_of x.1.items)) → loop_in n (arms_from arms (k + 1) e) ≡ loop_in n (arms_from arms k e)
arm_past n arms k e x lt is h = sym (ap (λ l. loop_in n l) (next_arm arms k e x lt is) ∙ past_first n (in_order (acts_of x.1.items)) (arms_from arms (k + 1) e) h)
