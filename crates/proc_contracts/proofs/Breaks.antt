-- The first act that no program has, in two lists of acts.
use Rattle.std.proofs.Common.{◌≡◌, ℕ, Bool, true, false, ◌<◌, ◌+◌, refl, ap, sym, ◌∙◌, List, [], ◌∷◌, ◌++◌, length, get_or}
use mathlib.Core.Bool.{beq, not}
use Rattle.std.specs.Option.{option_or}
use Rattle.std.specs.Prelude.{Some, None, Vec}
use Rattle.std.specs.declared.alloc.Global.{Global}
use Rattle.heyvl_places.specs.declared.spans.Span.{Span}
use Rattle.heylo_formula.specs.declared.forms.Cond as C
use Rattle.heyvl_acts.specs.declared.acts.Act as A
use Rattle.std.proofs.lemmas.Bool.{false≢true}
use Rattle.heyvl_acts.proofs.exported.ActsInOrder.{acts_from, arms_from, next_act, next_arm, of_pick}
use Rattle.heyvl_acts.specs.Acts.{Act, Acts}
use Rattle.heyvl_acts.specs.Places.{in_order, inside}
use Rattle.heyvl_acts.specs.PlainActs.{act_of, acts_of}
use Rattle.heyvl_acts.specs.Program.{first_break}

both : (co : Bool) (xs ys : List Act) → first_break co (xs ++ ys) ≡ option_or (first_break co xs) (first_break co ys)
both co [] ys = refl
both co (Act.set x t span ∷ rest) ys = both co rest ys
both co (Act.draw x ps span ∷ rest) ys = both co rest ys
both co (Act.toss x f span ∷ rest) ys = both co rest ys
both co (Act.any x up ty span ∷ rest) ys = both co rest ys
both co (Act.reward f span ∷ rest) ys = both co rest ys
both co (Act.ifs arms e span ∷ rest) ys = both co rest ys
both true (Act.pick true a b span ∷ rest) ys = both true rest ys
both true (Act.pick false a b span ∷ rest) ys = refl
both false (Act.pick true a b span ∷ rest) ys = refl
both false (Act.pick false a b span ∷ rest) ys = both false rest ys
both co (Act.check kind f span ∷ rest) ys = refl
both co (Act.validate d span ∷ rest) ys = refl
both co (Act.loop h b ∷ rest) ys = both co rest ys
both co (Act.call xs p es span ∷ rest) ys = both co rest ys

-- The first list has one.
pub found_first : (co : Bool) (xs ys : List Act) (s : Span) → Some s ≡ first_break co xs → Some s ≡ first_break co (xs ++ ys)
found_first co xs ys s h = sym (both co xs ys ∙ ap (λ o. option_or o (first_break co ys)) (sym h))

-- The first list has none, and the second counts.
pub past_first : (co : Bool) (xs ys : List Act) → None ≡ first_break co xs → first_break co (xs ++ ys) ≡ first_break co ys
past_first co xs ys h = both co xs ys ∙ ap (λ o. option_or o (first_break co ys)) (sym h)

pub act_found : (co : Bool) (acts : List A.Act) (k : ℕ) (x : A.Act) (s : Span) → k < length acts → x ≡ get_or acts k x → Some s ≡ first_break co (act_of x ∷ inside (act_of x)) → Some s ≡ first_break co (acts_from acts k)
act_found co acts k x s lt is h = found_first co (act_of x ∷ inside (act_of x)) (acts_from acts (k + 1)) s h ∙ ap (λ l. first_break co l) (sym (next_act acts k x lt is))

pub act_past : (co : Bool) (acts : List A.Act) (k : ℕ) (x : A.Act) → k < length acts → x ≡ get_or acts k x → None ≡ first_break co (act_of x ∷ inside (act_of x)) → first_break co (acts_from acts (k + 1)) ≡ first_break co (acts_from acts k)
act_past co acts k x lt is h = sym (ap (λ l. first_break co l) (next_act acts k x lt is) ∙ past_first co (act_of x ∷ inside (act_of x)) (acts_from acts (k + 1)) h)

pub arm_found : (co : Bool) (arms : List (C.Cond × Vec A.Act Global)) (k : ℕ) (e : List Act) (x : C.Cond × Vec A.Act Global) (s : Span) → k < length arms → x ≡ get_or arms k x → Some s ≡ first_break co (in_order (acts_of x.1.items)) → Some s ≡ first_break co (arms_from arms k e)
arm_found co arms k e x s lt is h = found_first co (in_order (acts_of x.1.items)) (arms_from arms (k + 1) e) s h ∙ ap (λ l. first_break co l) (sym (next_arm arms k e x lt is))

pub arm_past : (co : Bool) (arms : List (C.Cond × Vec A.Act Global)) (k : ℕ) (e : List Act) (x : C.Cond × Vec A.Act Global) → k < length arms → x ≡ get_or arms k x → None ≡ first_break co (in_order (acts_of x.1.items)) → first_break co (arms_from arms (k + 1) e) ≡ first_break co (arms_from arms k e)
arm_past co arms k e x lt is h = sym (ap (λ l. first_break co l) (next_arm arms k e x lt is) ∙ past_first co (in_order (acts_of x.1.items)) (arms_from arms (k + 1) e) h)

-- A choice in the direction of the procedure, with the acts inside it.
pub pick_start : (co : Bool) (a : A.Act) (up : Bool) (b d : Vec A.Act Global) (span : Span) → a ≡ A.Pick up b d span → not (beq co up) ≡ false → first_break co (in_order (acts_of b.items) ++ in_order (acts_of d.items)) ≡ first_break co (act_of a ∷ inside (act_of a))
pick_start co a up b d span is same = of_pick (first_break co) a up b d span (agreeing co up (acts_of b.items) (acts_of d.items) same) is
  where
    agreeing : (co up : Bool) (xs ys : Acts) → not (beq co up) ≡ false → first_break co (in_order xs ++ in_order ys) ≡ first_break co (Act.pick up xs ys span ∷ (in_order xs ++ in_order ys))
    agreeing true true xs ys e = refl
    agreeing false false xs ys e = refl
    agreeing true false xs ys e = absurd (false≢true (sym e))
    agreeing false true xs ys e = absurd (false≢true (sym e))
