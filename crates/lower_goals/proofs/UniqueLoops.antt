-- A body has one loop in only one way: the acts before it, the loop and the acts after it are
-- unique.
use Rattle.std.proofs.Common.{◌≡◌, ◌∙◌, refl, sym, ap, subst}
use Rattle.heyvl_acts.specs.Acts.{Head, Act, Acts, TypedProcedure, join}
use Rattle.heyvl_acts.specs.Places.{in_order, inside}
use Rattle.heyvl_acts.specs.Rules.{Each}
use Rattle.heyvl_acts.specs.Straight.{IsStraight}
use Rattle.heyvl_acts.proofs.exported.Each.{each_second}
use Rattle.lower_goals.specs.OneLoop.{OneLoop}
use Rattle.lower_goals.specs.internal.Shapes.{IsNoLoop, HasNoLoop}

-- ---- Lists of acts

abbrev first_act : Act → Acts → Act
first_act a Acts.done = a
first_act a (Acts.next b rest) = b

abbrev more_acts : Acts → Acts
more_acts Acts.done = Acts.done
more_acts (Acts.next a rest) = rest

same_first : (a b : Act) (r s : Acts) → Acts.next a r ≡ Acts.next b s → a ≡ b
same_first a b r s e = ap (λ acts. first_act a acts) e

same_rest : (a b : Act) (r s : Acts) → Acts.next a r ≡ Acts.next b s → r ≡ s
same_rest a b r s e = ap more_acts e

abbrev head_in : Head → Act → Head
head_in h (Act.loop k b) = k
head_in h (Act.call xs q es span) = h
head_in h (Act.set x t span) = h
head_in h (Act.draw x qs span) = h
head_in h (Act.toss x f span) = h
head_in h (Act.any x up ty span) = h
head_in h (Act.reward f span) = h
head_in h (Act.ifs arms e span) = h
head_in h (Act.pick up a b span) = h
head_in h (Act.check kind f span) = h
head_in h (Act.validate co span) = h

abbrev body_in : Act → Acts
body_in (Act.loop k b) = b
body_in (Act.call xs q es span) = Acts.done
body_in (Act.set x t span) = Acts.done
body_in (Act.draw x qs span) = Acts.done
body_in (Act.toss x f span) = Acts.done
body_in (Act.any x up ty span) = Acts.done
body_in (Act.reward f span) = Acts.done
body_in (Act.ifs arms e span) = Acts.done
body_in (Act.pick up a b span) = Acts.done
body_in (Act.check kind f span) = Acts.done
body_in (Act.validate co span) = Acts.done

-- ---- Acts without loops

straight_no_loop : (a : Act) → IsStraight a → IsNoLoop a
straight_no_loop (Act.loop h b) s = s
straight_no_loop (Act.call xs q es span) s = tt
straight_no_loop (Act.set x t span) s = tt
straight_no_loop (Act.draw x qs span) s = tt
straight_no_loop (Act.toss x f span) s = tt
straight_no_loop (Act.any x up ty span) s = tt
straight_no_loop (Act.reward f span) s = tt
straight_no_loop (Act.ifs arms e span) s = tt
straight_no_loop (Act.pick up a b span) s = tt
straight_no_loop (Act.check kind f span) s = tt
straight_no_loop (Act.validate co span) s = tt

pub straight_no_loops : (acts : Acts) → Each IsStraight (in_order acts) → HasNoLoop acts
straight_no_loops Acts.done s = tt
straight_no_loops (Acts.next a rest) s = (straight_no_loop a s.0, straight_no_loops rest (each_second IsStraight (inside a) (in_order rest) s.1))

pub no_loop_in : (acts front : Acts) (h : Head) (b behind : Acts) → HasNoLoop acts → acts ≡ join front (Acts.next (Act.loop h b) behind) → ⊥
no_loop_in acts Acts.done h b behind n e = (subst HasNoLoop e n).0
no_loop_in Acts.done (Acts.next a front) h b behind n e = absurd (cc)
no_loop_in (Acts.next c acts) (Acts.next a front) h b behind n e = no_loop_in acts front h b behind n.1 (same_rest c a acts (join front (Acts.next (Act.loop h b) behind)) e)

-- ---- The parts

-- Two ways to take a body apart are the same.
pub record AreSame (front : Acts) (h : Head) (b behind front' : Acts) (h' : Head) (b' behind' : Acts) : Type 0 where
  pub front_is : front ≡ front'
  pub head_is : h ≡ h'
  pub body_is : b ≡ b'
  pub behind_is : behind ≡ behind'

pub same_parts : (front : Acts) (h : Head) (b behind front' : Acts) (h' : Head) (b' behind' : Acts) → HasNoLoop front → HasNoLoop front' → join front (Acts.next (Act.loop h b) behind) ≡ join front' (Acts.next (Act.loop h' b') behind') → AreSame front h b behind front' h' b' behind'
same_parts Acts.done h b behind Acts.done h' b' behind' n m e =
    let l = same_first (Act.loop h b) (Act.loop h' b') behind behind' e in
    record { front_is = refl; head_is = ap (λ a. head_in h a) l; body_is = ap body_in l; behind_is = same_rest (Act.loop h b) (Act.loop h' b') behind behind' e }
same_parts Acts.done h b behind (Acts.next c front') h' b' behind' n m e = absurd (subst IsNoLoop (sym (same_first (Act.loop h b) c behind (join front' (Acts.next (Act.loop h' b') behind')) e)) m.0)
same_parts (Acts.next a front) h b behind Acts.done h' b' behind' n m e = absurd (subst IsNoLoop (same_first a (Act.loop h' b') (join front (Acts.next (Act.loop h b) behind)) behind' e) n.0)
same_parts (Acts.next a front) h b behind (Acts.next c front') h' b' behind' n m e =
    let r = same_parts front h b behind front' h' b' behind' n.1 m.1 (same_rest a c (join front (Acts.next (Act.loop h b) behind)) (join front' (Acts.next (Act.loop h' b') behind')) e) in
    let f = same_first a c (join front (Acts.next (Act.loop h b) behind)) (join front' (Acts.next (Act.loop h' b') behind')) e in
    record { front_is = ap (λ x. Acts.next x front) f ∙ ap (λ x. Acts.next c x) r.front_is; head_is = r.head_is; body_is = r.body_is; behind_is = r.behind_is }

pub unique_loops : (p : TypedProcedure) (l m : OneLoop p) → AreSame l.front l.head l.body l.behind m.front m.head m.body m.behind
unique_loops p l m = same_parts l.front l.head l.body l.behind m.front m.head m.body m.behind (straight_no_loops l.front l.is.plain_front) (straight_no_loops m.front m.is.plain_front) (sym l.is.whole ∙ m.is.whole)
