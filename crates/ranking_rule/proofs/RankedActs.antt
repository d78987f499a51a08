-- A property of each act of a procedure holds of the loop with a number, and of each act of its
-- body.
use Rattle.std.proofs.Common.{◌≡◌, ℕ, subst, Bool, true, false, cond, List, [], ◌∷◌, ◌==◌}
use Rattle.std.specs.Prelude.{Option, Some, None}
use Rattle.heyvl_acts.specs.Acts.{Head, Act, Acts, Arms, TypedProcedure, acts_in}
use Rattle.heyvl_acts.specs.Places.{in_order, inside, inside_arms}
use Rattle.heyvl_acts.specs.Rules.{Each}
use Rattle.act_walks.specs.Loops.{loop_in}
use Rattle.ranking_rule.specs.Rankings.{RankedLoop}
use Rattle.heyvl_acts.proofs.exported.Each.{each_first, each_second, each_append}

-- ---- A property of each act holds of the acts in each

module _ (P : Act → Type 0) where
  abbrev Inside : Act → Type 0
  Inside a = Each P (inside a)

  mutual
    all_inside : (acts : Acts) → Each P (in_order acts) → Each Inside (in_order acts)
    all_inside Acts.done h = tt
    all_inside (Acts.next a rest) h = let i = each_first P (inside a) (in_order rest) h.1 in (i, each_append Inside (inside a) (in_order rest) (act_inside a i) (all_inside rest (each_second P (inside a) (in_order rest) h.1)))

    act_inside : (a : Act) → Each P (inside a) → Each Inside (inside a)
    act_inside (Act.set x t span) h = tt
    act_inside (Act.draw x qs span) h = tt
    act_inside (Act.toss x f span) h = tt
    act_inside (Act.any x up ty span) h = tt
    act_inside (Act.reward f span) h = tt
    act_inside (Act.ifs arms e span) h = each_append Inside (inside_arms arms) (in_order e) (arms_inside arms (each_first P (inside_arms arms) (in_order e) h)) (all_inside e (each_second P (inside_arms arms) (in_order e) h))
    act_inside (Act.pick up a b span) h = each_append Inside (in_order a) (in_order b) (all_inside a (each_first P (in_order a) (in_order b) h)) (all_inside b (each_second P (in_order a) (in_order b) h))
    act_inside (Act.check kind f span) h = tt
    act_inside (Act.validate co span) h = tt
    act_inside (Act.loop k b) h = all_inside b h
    act_inside (Act.call xs q es span) h = tt

    arms_inside : (arms : Arms) → Each P (inside_arms arms) → Each Inside (inside_arms arms)
    arms_inside Arms.no_arm h = tt
    arms_inside (Arms.arm g b more) h = each_append Inside (in_order b) (inside_arms more) (all_inside b (each_first P (in_order b) (inside_arms more) h)) (arms_inside more (each_second P (in_order b) (inside_arms more) h))

-- ---- The loop that a number names

abbrev this_loop : Head → Acts → Option (Head × Acts)
this_loop h b = Some (h, b)

same_loop : (h k : Head) (b c : Acts) (P : Act → Type 0) → this_loop k c ≡ this_loop h b → P (Act.loop k c) → P (Act.loop h b)
same_loop h k b c P e i = subst (λ (x : Option (Head × Acts)). at x) e i
  where
    at : Option (Head × Acts) → Type 0
    at None = Unit {0}
    at (Some x) = P (Act.loop x.0 x.1)

one_or_other : (t : Bool) (h k : Head) (b c : Acts) (o : Option (Head × Acts)) (P : Act → Type 0) → cond t (this_loop k c) o ≡ this_loop h b → P (Act.loop k c) → (o ≡ this_loop h b → P (Act.loop h b)) → P (Act.loop h b)
one_or_other true h k b c o P e i more = same_loop h k b c P e i
one_or_other false h k b c o P e i more = more e

of_loop : (P : Act → Type 0) (n : ℕ) (h : Head) (b : Acts) (xs : List Act) → loop_in n xs ≡ this_loop h b → Each P xs → P (Act.loop h b)
of_loop P n h b [] e i = absurd (cc)
of_loop P n h b (Act.loop k c ∷ xs) e i = one_or_other (k.number == n) h k b c (loop_in n xs) P e i.0 (λ q. of_loop P n h b xs q i.1)
of_loop P n h b (Act.set x t span ∷ xs) e i = of_loop P n h b xs e i.1
of_loop P n h b (Act.draw x qs span ∷ xs) e i = of_loop P n h b xs e i.1
of_loop P n h b (Act.toss x f span ∷ xs) e i = of_loop P n h b xs e i.1
of_loop P n h b (Act.any x up ty span ∷ xs) e i = of_loop P n h b xs e i.1
of_loop P n h b (Act.reward f span ∷ xs) e i = of_loop P n h b xs e i.1
of_loop P n h b (Act.ifs arms el span ∷ xs) e i = of_loop P n h b xs e i.1
of_loop P n h b (Act.pick up x y span ∷ xs) e i = of_loop P n h b xs e i.1
of_loop P n h b (Act.check kind f span ∷ xs) e i = of_loop P n h b xs e i.1
of_loop P n h b (Act.validate co span ∷ xs) e i = of_loop P n h b xs e i.1
of_loop P n h b (Act.call ys q es span ∷ xs) e i = of_loop P n h b xs e i.1

pub of_head : (P : Act → Type 0) (p : TypedProcedure) (n : ℕ) (l : RankedLoop p n) → Each P (in_order (acts_in p.body)) → P (Act.loop l.head l.body)
of_head P p n l i = of_loop P n l.head l.body (in_order (acts_in p.body)) l.named i

pub of_body : (P : Act → Type 0) (p : TypedProcedure) (n : ℕ) (l : RankedLoop p n) → Each P (in_order (acts_in p.body)) → Each P (in_order l.body)
of_body P p n l i = of_loop (Inside P) n l.head l.body (in_order (acts_in p.body)) l.named (all_inside P (acts_in p.body) i)
