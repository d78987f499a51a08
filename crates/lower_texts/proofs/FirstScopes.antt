-- The scope of the one loop of a procedure.
use Rattle.heyvl_acts.specs.Acts.{Act, Acts, Head, TypedProcedure, acts_in, join}
use Rattle.heyvl_acts.specs.Places.{in_order, inside}
use Rattle.heyvl_acts.specs.PlainActs.{act_of, acts_of}
use Rattle.heyvl_acts.specs.Rules.{Each}
use Rattle.heyvl_acts.specs.Straight.{IsStraight}
use Rattle.heyvl_acts.specs.declared.acts.Act as A
use Rattle.lower_goals.specs.OmegaPairs.{places}
use Rattle.lower_goals.specs.OneLoop.{OneLoop}
use Rattle.lower_texts.specs.internal.FirstScopes.{first_scope, or_scope, own_scope}
use Rattle.std.proofs.Common.{List, None, Some, [], ap, drop, get_or, length, refl, subst, sym, ◌+◌, ◌++◌, ◌<◌, ◌∙◌, ◌∷◌, ◌≡◌, ℕ}
use Rattle.std.proofs.lemmas.List.{at_drop_more}

-- ---- The program's walk

next_scope : (acts : List A.Act) (k : ℕ) (x : A.Act) → k < length acts → x ≡ get_or acts k x → first_scope (acts_of (drop k acts)) ≡ or_scope (own_scope (act_of x)) (first_scope (acts_of (drop (k + 1) acts)))
next_scope acts k x lt is = at_drop_more (λ l. first_scope (acts_of l)) acts k x lt ∙ ap (λ y. or_scope (own_scope (act_of y)) (first_scope (acts_of (drop (k + 1) acts)))) (sym is)

pub scope_found : (acts : List A.Act) (k : ℕ) (x : A.Act) (s : List ℕ) → k < length acts → x ≡ get_or acts k x → Some s ≡ own_scope (act_of x) → s ≡ first_scope (acts_of (drop k acts))
scope_found acts k x s lt is h = sym (next_scope acts k x lt is ∙ ap (λ o. or_scope o (first_scope (acts_of (drop (k + 1) acts)))) (sym h))

pub scope_past : (acts : List A.Act) (k : ℕ) (x : A.Act) → k < length acts → x ≡ get_or acts k x → None ≡ own_scope (act_of x) → first_scope (acts_of (drop (k + 1) acts)) ≡ first_scope (acts_of (drop k acts))
scope_past acts k x lt is h = sym (next_scope acts k x lt is ∙ ap (λ o. or_scope o (first_scope (acts_of (drop (k + 1) acts)))) (sym h))

-- ---- One loop

each_behind : (P : Act → Type 0) (xs ys : List Act) → Each P (xs ++ ys) → Each P ys
each_behind P [] ys h = h
each_behind P (x ∷ xs) ys h = each_behind P xs ys h.1

straight_scope : (front : Acts) (h : Head) (b behind : Acts) → Each IsStraight (in_order front) → first_scope (join front (Acts.next (Act.loop h b) behind)) ≡ h.scope
straight_scope Acts.done h b behind plain = refl
straight_scope (Acts.next (Act.loop g d) rest) h b behind plain = absurd plain.0
straight_scope (Acts.next (Act.call xs q es span) rest) h b behind plain = absurd plain.0
straight_scope (Acts.next (Act.set x t span) rest) h b behind plain = straight_scope rest h b behind plain.1
straight_scope (Acts.next (Act.draw x qs span) rest) h b behind plain = straight_scope rest h b behind plain.1
straight_scope (Acts.next (Act.toss x f span) rest) h b behind plain = straight_scope rest h b behind plain.1
straight_scope (Acts.next (Act.any x up ty span) rest) h b behind plain = straight_scope rest h b behind plain.1
straight_scope (Acts.next (Act.reward f span) rest) h b behind plain = straight_scope rest h b behind plain.1
straight_scope (Acts.next (Act.ifs arms e span) rest) h b behind plain = straight_scope rest h b behind (each_behind IsStraight (inside (Act.ifs arms e span)) (in_order rest) plain.1)
straight_scope (Acts.next (Act.pick up a d span) rest) h b behind plain = straight_scope rest h b behind (each_behind IsStraight (inside (Act.pick up a d span)) (in_order rest) plain.1)
straight_scope (Acts.next (Act.check kind f span) rest) h b behind plain = straight_scope rest h b behind plain.1
straight_scope (Acts.next (Act.validate co span) rest) h b behind plain = straight_scope rest h b behind plain.1

pub one_scope : (p : TypedProcedure) (l : OneLoop p) → first_scope (acts_in p.body) ≡ l.head.scope
one_scope p l = let is = l.is in ap first_scope is.whole ∙ straight_scope l.front l.head l.body l.behind is.plain_front

pub shown_as : (p q : TypedProcedure) (shown : List ℕ) → p ≡ q → ((l : OneLoop q) → shown ≡ places q l.head) → (l : OneLoop p) → shown ≡ places p l.head
shown_as p q shown e h = subst (λ (a : TypedProcedure). (l : OneLoop a) → shown ≡ places a l.head) (sym e) h
