-- The loop that the program finds is that of the procedure.
use Rattle.std.proofs.Common.{◌≡◌, ◌∙◌, ◌<◌, ◌+◌, ℕ, refl, sym, ap, ap₂, subst, arith, Bool, true, false, ◌&&◌, List, [], ◌∷◌, ◌++◌, length, take, drop, get_or}
use Rattle.std.proofs.lemmas.List.{length-drop, take_all}
use Rattle.std.specs.Prelude.{Some, None, Vec, ◌-◌}
use Rattle.std.specs.declared.alloc.Global.{Global}
use Prim.Native.Nat.{zero, suc}
use Rattle.heylo_formula.specs.declared.forms.Cond as C
use Rattle.heyvl_acts.specs.Acts.{Head, Act, Acts, TypedProcedure, acts_in, join}
use Rattle.heyvl_acts.specs.Places.{in_order, inside}
use Rattle.heyvl_acts.specs.PlainActs.{act_of, acts_of}
use Rattle.heyvl_acts.specs.Program.{IsProgram, Reason, why_no_program}
use Rattle.heyvl_acts.specs.Rules.{Each}
use Rattle.heyvl_acts.specs.Straight.{IsStraight}
use Rattle.heyvl_acts.specs.declared.acts.Act as A
use Rattle.lower_goals.specs.OneLoop.{OneLoop, IsOneLoop}
use Rattle.lower_goals.specs.internal.Shapes.{HasNoLoop, IsNoLoop, all_straight, is_straight}
use Rattle.lower_goals.proofs.UniqueLoops.{no_loop_in, same_parts, straight_no_loops}
use Rattle.heyvl_acts.proofs.exported.ActsInOrder.{acts_from, arms_from, next_act, next_arm}

-- ---- Whether acts are neither loops nor calls

one_straight : (a : Act) → is_straight a ≡ true → IsStraight a
one_straight (Act.loop h b) e = absurd (cc)
one_straight (Act.call xs q es span) e = absurd (cc)
one_straight (Act.set x t span) e = tt
one_straight (Act.draw x qs span) e = tt
one_straight (Act.toss x f span) e = tt
one_straight (Act.any x up ty span) e = tt
one_straight (Act.reward f span) e = tt
one_straight (Act.ifs arms e span) e' = tt
one_straight (Act.pick up a b span) e = tt
one_straight (Act.check kind f span) e = tt
one_straight (Act.validate co span) e = tt

straight_one : (a : Act) → IsStraight a → is_straight a ≡ true
straight_one (Act.loop h b) s = absurd s
straight_one (Act.call xs q es span) s = absurd s
straight_one (Act.set x t span) s = refl
straight_one (Act.draw x qs span) s = refl
straight_one (Act.toss x f span) s = refl
straight_one (Act.any x up ty span) s = refl
straight_one (Act.reward f span) s = refl
straight_one (Act.ifs arms e span) s = refl
straight_one (Act.pick up a b span) s = refl
straight_one (Act.check kind f span) s = refl
straight_one (Act.validate co span) s = refl

pub and_both : (a b : Bool) → (a && b) ≡ true → (a ≡ true) × (b ≡ true)
and_both true b e = (refl, e)
and_both false b e = absurd (cc)

pub both_and : (a b : Bool) → a ≡ true → b ≡ true → (a && b) ≡ true
both_and a b e f = ap₂ (λ x y. x && y) e f

pub are_straight : (acts : List Act) → all_straight acts ≡ true → Each IsStraight acts
are_straight [] e = tt
are_straight (a ∷ rest) e = let h = and_both (is_straight a) (all_straight rest) e in (one_straight a h.0, are_straight rest h.1)

pub straight_all : (acts : List Act) → Each IsStraight acts → all_straight acts ≡ true
straight_all [] s = refl
straight_all (a ∷ rest) s = both_and (is_straight a) (all_straight rest) (straight_one a s.0) (straight_all rest s.1)

and_assoc : (a b c : Bool) → (a && (b && c)) ≡ ((a && b) && c)
and_assoc true b c = refl
and_assoc false b c = refl

pub all_append : (xs ys : List Act) → all_straight (xs ++ ys) ≡ (all_straight xs && all_straight ys)
all_append [] ys = refl
all_append (x ∷ xs) ys = ap (λ b. is_straight x && b) (all_append xs ys) ∙ and_assoc (is_straight x) (all_straight xs) (all_straight ys)

pub past : (xs ys : List Act) → true ≡ all_straight xs → all_straight ys ≡ all_straight (xs ++ ys)
past xs ys h = sym (all_append xs ys ∙ ap (λ b. b && all_straight ys) (sym h))

pub bent : (xs ys : List Act) → false ≡ all_straight xs → false ≡ all_straight (xs ++ ys)
bent xs ys h = sym (all_append xs ys ∙ ap (λ b. b && all_straight ys) (sym h))

pub act_bent : (acts : List A.Act) (k : ℕ) (x : A.Act) → k < length acts → x ≡ get_or acts k x → false ≡ all_straight (act_of x ∷ inside (act_of x)) → false ≡ all_straight (acts_from acts k)
act_bent acts k x lt is h = bent (act_of x ∷ inside (act_of x)) (acts_from acts (k + 1)) h ∙ ap all_straight (sym (next_act acts k x lt is))

pub act_past : (acts : List A.Act) (k : ℕ) (x : A.Act) → k < length acts → x ≡ get_or acts k x → true ≡ all_straight (act_of x ∷ inside (act_of x)) → all_straight (acts_from acts (k + 1)) ≡ all_straight (acts_from acts k)
act_past acts k x lt is h = past (act_of x ∷ inside (act_of x)) (acts_from acts (k + 1)) h ∙ ap all_straight (sym (next_act acts k x lt is))

pub arm_bent : (arms : List (C.Cond × Vec A.Act Global)) (k : ℕ) (e : List Act) (x : C.Cond × Vec A.Act Global) → k < length arms → x ≡ get_or arms k x → false ≡ all_straight (in_order (acts_of x.1.items)) → false ≡ all_straight (arms_from arms k e)
arm_bent arms k e x lt is h = bent (in_order (acts_of x.1.items)) (arms_from arms (k + 1) e) h ∙ ap all_straight (sym (next_arm arms k e x lt is))

pub arm_past : (arms : List (C.Cond × Vec A.Act Global)) (k : ℕ) (e : List Act) (x : C.Cond × Vec A.Act Global) → k < length arms → x ≡ get_or arms k x → true ≡ all_straight (in_order (acts_of x.1.items)) → all_straight (arms_from arms (k + 1) e) ≡ all_straight (arms_from arms k e)
arm_past arms k e x lt is h = past (in_order (acts_of x.1.items)) (arms_from arms (k + 1) e) h ∙ ap all_straight (sym (next_arm arms k e x lt is))

-- ---- The program's acts, taken apart at an index

whole_at : (xs : List A.Act) (i : ℕ) (x : A.Act) → i < length xs → x ≡ get_or xs i x → acts_of xs ≡ join (acts_of (take i xs)) (Acts.next (act_of x) (acts_of (drop (suc i) xs)))
whole_at [] i x lt is = absurd (omega (arith, lt))
whole_at (y ∷ xs) zero x lt is = ap (λ a. Acts.next (act_of a) (acts_of xs)) (sym is)
whole_at (y ∷ xs) (suc i) x lt is = ap (λ r. Acts.next (act_of y) r) (whole_at xs i x (omega (arith, lt)) is)

pub whole_here : (xs : List A.Act) (i : ℕ) (x : A.Act) → i < length xs → x ≡ get_or xs i x → acts_of xs ≡ join (acts_of (take i xs)) (Acts.next (act_of x) (acts_of (drop (i + 1) xs)))
whole_here xs i x lt is = let e : suc i ≡ i + 1 = omega arith in whole_at xs i x lt is ∙ ap (λ n. join (acts_of (take i xs)) (Acts.next (act_of x) (acts_of (drop n xs)))) e

none_at : (xs : List A.Act) (i : ℕ) (x : A.Act) → i < length xs → x ≡ get_or xs i x → HasNoLoop (acts_of (take i xs)) → IsNoLoop (act_of x) → HasNoLoop (acts_of (take (suc i) xs))
none_at [] i x lt is h n = absurd (omega (arith, lt))
none_at (y ∷ xs) zero x lt is h n = (subst (λ a. IsNoLoop (act_of a)) is n, tt)
none_at (y ∷ xs) (suc i) x lt is h n = (h.0, none_at xs i x (omega (arith, lt)) is h.1 n)

pub none_before : (xs : List A.Act) (i : ℕ) (x : A.Act) → i < length xs → x ≡ get_or xs i x → HasNoLoop (acts_of (take i xs)) → IsNoLoop (act_of x) → HasNoLoop (acts_of (take (i + 1) xs))
none_before xs i x lt is h n = let e : suc i ≡ i + 1 = omega arith in subst (λ k. HasNoLoop (acts_of (take k xs))) e (none_at xs i x lt is h n)

pub whole_loop : (xs : List A.Act) (i : ℕ) (x : A.Act) (h : Head) (b : Acts) → i < length xs → x ≡ get_or xs i x → act_of x ≡ Act.loop h b → acts_of xs ≡ join (acts_of (take i xs)) (Acts.next (Act.loop h b) (acts_of (drop (i + 1) xs)))
whole_loop xs i x h b lt is e = whole_here xs i x lt is ∙ ap (λ a. join (acts_of (take i xs)) (Acts.next a (acts_of (drop (i + 1) xs)))) e

rest_all : (xs : List A.Act) (k : ℕ) → take (length xs - k) (drop k xs) ≡ drop k xs
rest_all xs k = take_all (length xs - k) (drop k xs) (let d = length-drop k xs in omega (arith, d))

pub lent_loop : (xs : List A.Act) (i : ℕ) (x : A.Act) (h : Head) (b : Acts) → i < length xs → x ≡ get_or xs i x → act_of x ≡ Act.loop h b → acts_of xs ≡ join (acts_of (take i xs)) (Acts.next (Act.loop h b) (acts_of (take (length xs - (i + 1)) (drop (i + 1) xs))))
lent_loop xs i x h b lt is e = whole_loop xs i x h b lt is e ∙ ap (λ l. join (acts_of (take i xs)) (Acts.next (Act.loop h b) (acts_of l))) (sym (rest_all xs (i + 1)))

-- ---- Procedures without one loop

pub not_weak : (p : TypedProcedure) → p.weak ≡ false → OneLoop p → ⊥
not_weak p e l = absurd (let f = sym e ∙ l.is.weak in cc)

pub no_program : (p : TypedProcedure) (why : Reason) → Some why ≡ why_no_program p → OneLoop p → ⊥
no_program p why e l = absurd (let f = e ∙ l.is.program in cc)

pub none_at_all : (p : TypedProcedure) (acts : Acts) → acts_in p.body ≡ acts → HasNoLoop acts → OneLoop p → ⊥
none_at_all p acts e n l = no_loop_in acts l.front l.head l.body l.behind n (sym e ∙ l.is.whole)

pub bodiless : (p : TypedProcedure) → p.body ≡ None → OneLoop p → ⊥
bodiless p e l = none_at_all p Acts.done (ap acts_in e) tt l

-- ---- The answer

module _ (p : TypedProcedure) (front : Acts) (h : Head) (b behind : Acts) (whole : acts_in p.body ≡ join front (Acts.next (Act.loop h b) behind)) (none : HasNoLoop front) (weak : p.weak ≡ true) (program : IsProgram p) where
  abbrev three : Bool
  three = all_straight (in_order front) && (all_straight (in_order b) && all_straight (in_order behind))

  pub is_one_loop : three ≡ true → IsOneLoop p front h b behind
  is_one_loop e =
      let m = and_both (all_straight (in_order front)) (all_straight (in_order b) && all_straight (in_order behind)) e in
      let n = and_both (all_straight (in_order b)) (all_straight (in_order behind)) m.1 in
      record { whole = whole; plain_front = are_straight (in_order front) m.0; plain_body = are_straight (in_order b) n.0; plain_behind = are_straight (in_order behind) n.1; weak = weak; program = program }

  pub is_no_loop : three ≡ false → OneLoop p → ⊥
  is_no_loop e l = absurd (let f = sym e ∙ all in cc)
    where
      same : (acts acts' : Acts) → acts ≡ acts' → Each IsStraight (in_order acts') → all_straight (in_order acts) ≡ true
      same acts acts' i s = straight_all (in_order acts) (subst (λ a. Each IsStraight (in_order a)) (sym i) s)

      all : three ≡ true
      all =
          let r = same_parts front h b behind l.front l.head l.body l.behind none (straight_no_loops l.front l.is.plain_front) (sym whole ∙ l.is.whole) in
          both_and (all_straight (in_order front)) (all_straight (in_order b) && all_straight (in_order behind)) (same front l.front r.front_is l.is.plain_front) (both_and (all_straight (in_order b)) (all_straight (in_order behind)) (same b l.body r.body_is l.is.plain_body) (same behind l.behind r.behind_is l.is.plain_behind))
