-- The act at a place, in appended lists of acts.
use Rattle.std.proofs.Common.{◌≡◌, ℕ, Bool, ◌+◌, ◌<◌, ◌≤◌, refl, ap, sym, subst, ◌∙◌, arith, List, [], ◌∷◌, ◌++◌, length, get_or}
use Rattle.std.proofs.lemmas.List.{drop_all, length-append}
use Rattle.std.proofs.lemmas.Option.{none-some}
use Rattle.std.specs.Prelude.{Some, None, Result, Ok, Err, Vec}
use Rattle.std.specs.Borrow.{Bor}
use Rattle.std.specs.declared.alloc.Global.{Global}
use Prim.Native.Nat.{zero, suc}
use Rattle.heyvl_places.specs.declared.spans.Span.{Span}
use Rattle.heylo_formula.specs.declared.forms.Cond as C
use Rattle.heyvl_acts.specs.declared.acts.Act as A
use Rattle.heyvl_acts.specs.Acts.{Act}
use Rattle.heyvl_acts.proofs.exported.ActsInOrder.{acts_from, arms_from, next_act, next_arm}
use Rattle.heyvl_acts.proofs.exported.PlainActsAre.{if_act, pick_act}
use Rattle.heyvl_acts.specs.PlainActs.{act_of, acts_of, arms_of}
use Rattle.heyvl_acts.specs.Places.{nth, in_order, inside, inside_arms}
use Rattle.heyvl_acts.specs.internal.PlaceWalks.{Finds, Behind}

nth_first : (xs ys : List Act) (n : ℕ) (x : Act) → nth xs n ≡ Some x → nth (xs ++ ys) n ≡ Some x
nth_first [] ys n x h = elim (none-some x h) [ ]
nth_first (y ∷ xs) ys zero x h = h
nth_first (y ∷ xs) ys (suc n) x h = nth_first xs ys n x h

further : (m n : ℕ) → suc m + n ≡ suc (m + n)
further m n = omega arith

nth_second : (xs ys : List Act) (n : ℕ) → nth (xs ++ ys) (length xs + n) ≡ nth ys n
nth_second [] ys n = ap (λ m. nth ys m) (omega arith)
nth_second (y ∷ xs) ys n = ap (λ m. nth (y ∷ (xs ++ ys)) m) (further (length xs) n) ∙ nth_second xs ys n

pub nth_none : (xs : List Act) (n : ℕ) → nth xs (length xs + n) ≡ None
nth_none [] n = refl
nth_none (y ∷ xs) n = ap (λ m. nth (y ∷ xs) m) (further (length xs) n) ∙ nth_none xs n

pub start : (acts : List Act) (place : ℕ) → Behind acts place acts place
start acts place = record { same = refl; apart = omega arith }

-- An act that is found in the first list is found in both.
pub found_first : (acts : List Act) (place : ℕ) (xs ys : List Act) (left : ℕ) (a : Bor A.Act) → Behind acts place (xs ++ ys) left → Finds xs left (Ok a) → Finds acts place (Ok a)
found_first acts place xs ys left a b h = b.same ∙ nth_first xs ys left (act_of a.now) h

-- The place is after the first list.
pub past_first : (acts : List Act) (place : ℕ) (xs ys : List Act) (left rest : ℕ) → Behind acts place (xs ++ ys) left → Finds xs left (Err rest) → Behind acts place ys rest
past_first acts place xs ys left rest b h = record {
  same = b.same ∙ (ap (λ n. nth (xs ++ ys) n) h ∙ nth_second xs ys rest);
  apart = let l = length-append xs ys in let e = b.apart in omega (arith, l, e, h);
}

pub finds_rest : (acts : List Act) (place : ℕ) (rest : List Act) (left : ℕ) (r : Result (Bor A.Act) ℕ) → Behind acts place rest left → Finds rest left r → Finds acts place r
finds_rest acts place rest left (Ok a) b h = b.same ∙ h
finds_rest acts place rest left (Err n) b h = let e = b.apart in omega (arith, e, h)

-- The acts that remain in a loop over acts, and over arms.
pub no_act : (acts : List A.Act) (k : ℕ) → length acts ≤ k → acts_from acts k ≡ []
no_act acts k over = ap (λ l. in_order (acts_of l)) (drop_all k acts over)

pub no_arm : (arms : List (C.Cond × Vec A.Act Global)) (k : ℕ) (e : List Act) → length arms ≤ k → arms_from arms k e ≡ e
no_arm arms k e over = ap (λ l. inside_arms (arms_of l) ++ e) (drop_all k arms over)

pub act_found : (all : List Act) (place : ℕ) (acts : List A.Act) (k : ℕ) (x : A.Act) (left : ℕ) (a : Bor A.Act) → k < length acts → x ≡ get_or acts k x → Behind all place (acts_from acts k) left → Finds (act_of x ∷ inside (act_of x)) left (Ok a) → Finds all place (Ok a)
act_found all place acts k x left a lt is b h = found_first all place (act_of x ∷ inside (act_of x)) (acts_from acts (k + 1)) left a (subst (λ r. Behind all place r left) (next_act acts k x lt is) b) h

pub act_past : (all : List Act) (place : ℕ) (acts : List A.Act) (k : ℕ) (x : A.Act) (left rest : ℕ) → k < length acts → x ≡ get_or acts k x → Behind all place (acts_from acts k) left → Finds (act_of x ∷ inside (act_of x)) left (Err rest) → Behind all place (acts_from acts (k + 1)) rest
act_past all place acts k x left rest lt is b h = past_first all place (act_of x ∷ inside (act_of x)) (acts_from acts (k + 1)) left rest (subst (λ r. Behind all place r left) (next_act acts k x lt is) b) h

pub arm_found : (all : List Act) (place : ℕ) (arms : List (C.Cond × Vec A.Act Global)) (k : ℕ) (e : List Act) (x : C.Cond × Vec A.Act Global) (left : ℕ) (a : Bor A.Act) → k < length arms → x ≡ get_or arms k x → Behind all place (arms_from arms k e) left → Finds (in_order (acts_of x.1.items)) left (Ok a) → Finds all place (Ok a)
arm_found all place arms k e x left a lt is b h = found_first all place (in_order (acts_of x.1.items)) (arms_from arms (k + 1) e) left a (subst (λ r. Behind all place r left) (next_arm arms k e x lt is) b) h

pub arm_past : (all : List Act) (place : ℕ) (arms : List (C.Cond × Vec A.Act Global)) (k : ℕ) (e : List Act) (x : C.Cond × Vec A.Act Global) (left rest : ℕ) → k < length arms → x ≡ get_or arms k x → Behind all place (arms_from arms k e) left → Finds (in_order (acts_of x.1.items)) left (Err rest) → Behind all place (arms_from arms (k + 1) e) rest
arm_past all place arms k e x left rest lt is b h = past_first all place (in_order (acts_of x.1.items)) (arms_from arms (k + 1) e) left rest (subst (λ r. Behind all place r left) (next_arm arms k e x lt is) b) h

pub if_start : (a : A.Act) (arms : Vec (C.Cond × Vec A.Act Global) Global) (e : Vec A.Act Global) (span : Span) (place : ℕ) → a ≡ A.If arms e span → Behind (inside (act_of a)) place (arms_from arms.items 0 (in_order (acts_of e.items))) place
if_start a arms e span place is = subst (λ all. Behind all place (arms_from arms.items 0 (in_order (acts_of e.items))) place) (sym (ap (λ x. inside (act_of x)) is ∙ ap inside (if_act arms e span))) (start _ place)

pub pick_start : (a : A.Act) (up : Bool) (b d : Vec A.Act Global) (span : Span) (place : ℕ) → a ≡ A.Pick up b d span → Behind (inside (act_of a)) place (in_order (acts_of b.items) ++ in_order (acts_of d.items)) place
pick_start a up b d span place is = subst (λ all. Behind all place (in_order (acts_of b.items) ++ in_order (acts_of d.items)) place) (sym (ap (λ x. inside (act_of x)) is ∙ ap inside (pick_act up b d span))) (start _ place)
