-- The static rules on each act of a program without loops and calls.
use Rattle.std.proofs.Common.{◌≡◌, ℕ, refl, sym, subst, Bool, true, false, not, ◌||◌, List, [], ◌∷◌}
use Rattle.std.specs.Prelude.{Option, Some, None, if◌then◌else◌}
use Rattle.heyvl_num.specs.Rational.{Rational, oneʳ}
use Rattle.heyvl_num.specs.WeightedSums.{total_weight}
use Rattle.heyvl_places.specs.declared.spans.Span.{Span}
use Rattle.heylo_formula.specs.Binders.{has_binder}
use Rattle.heylo_formula.specs.Formula.{Term}
use Rattle.heylo_formula.specs.Operators.{agree}
use Rattle.heylo_formula.specs.Typing.{Types, TermFits}
use Rattle.heyvl_acts.specs.Acts.{Act, Acts, TypedProcedure, acts_in, types_of}
use Rattle.heyvl_acts.specs.Places.{in_order}
use Rattle.heyvl_acts.specs.Program.{Reason, first_break, reason_of_break, IsProgram}
use Rattle.heyvl_acts.specs.Rules.{Each, IsOwn, FollowsDirection, HasOwnTargets, IsTypedAct, MeetsRules, WeighsOne}
use Rattle.heyvl_acts.specs.WellTypedActs.{DrawFits, PartsFit, IsProbability}
use Rattle.heylo_formula.specs.declared.types.Ty.{Ty}
use Rattle.heyvl_acts.specs.Straight.{IsStraight}

-- The act is no check, no loop and no call; a target is one of `n` variables, the weights of a draw
-- are not negative and have the sum 1, and rewards occur only upward.
abbrev pub IsSimple : Bool → TypedProcedure → Act → Type 0
IsSimple up n (Act.set x t span) = IsOwn n x × TermFits (types_of n) (types_of n x) t
IsSimple up n (Act.draw x qs span) = IsOwn n x × (PartsFit (types_of n) x qs × (total_weight qs ≡ oneʳ))
IsSimple up n (Act.toss x f span) = IsOwn n x × ((types_of n x ≡ Ty.Bool) × IsProbability (types_of n) f)
IsSimple up n (Act.any x over ty span) = IsOwn n x × (types_of n x ≡ ty)
IsSimple up n (Act.reward f span) = up ≡ true
IsSimple up n (Act.ifs arms e span) = Unit {0}
IsSimple up n (Act.pick over a b span) = Unit {0}
IsSimple up n (Act.check kind f span) = ⊥
IsSimple up n (Act.validate co span) = ⊥
IsSimple up n (Act.loop h b) = ⊥
IsSimple up n (Act.call xs q es span) = ⊥

-- ---- Programs

-- The conditions on a program other than those on its body.
pub record Plain (p : TypedProcedure) : Type 0 where
  pub directed : (p.co || p.weak) ≡ true
  pub unbound : has_binder p.post ≡ false
  pub unbroken : first_break p.co (in_order (acts_in p.body)) ≡ None

record Reasonless (a b : Bool) (o : Option Span) : Type 0 where
  first : a ≡ true
  second : b ≡ false
  third : o ≡ None

no_reason : (a b : Bool) (o : Option Span) → (if not a then Some Reason.no_wlp else (if b then Some Reason.quantifier else reason_of_break o)) ≡ None → Reasonless a b o
no_reason false b o h = absurd (cc)
no_reason true true o h = absurd (cc)
no_reason true false (Some s) h = absurd (cc)
no_reason true false None h = record { first = refl; second = refl; third = refl }

pub plain_program : (p : TypedProcedure) → IsProgram p → Plain p
plain_program p h = go p.body refl h
  where
    go : (b : Option Acts) → p.body ≡ b → IsProgram (record p { body = b }) → Plain p
    go None e k = absurd (cc)
    go (Some acts) e k = let r = no_reason (p.co || p.weak) (has_binder p.post) (first_break p.co (in_order acts)) k in record { directed = r.first; unbound = r.second; unbroken = subst (λ b. first_break p.co (in_order (acts_in b)) ≡ None) (sym e) r.third }

-- ---- Acts

parts_of_draw : (types : Types) (x : ℕ) (qs : List (Rational × Term)) → DrawFits types x qs → PartsFit types x qs
parts_of_draw types x [] h = absurd h
parts_of_draw types x (q ∷ qs) h = h

upward : (co weak : Bool) → (co || weak) ≡ true → weak ≡ false → co ≡ true
upward true weak h k = refl
upward false true h k = absurd (cc)
upward false false h k = absurd (cc)

module _ (ps : List TypedProcedure) (p : TypedProcedure) (directed : (p.co || p.weak) ≡ true) where
  all_simple : (acts : List Act) → first_break p.co acts ≡ None → Each IsStraight acts → Each (HasOwnTargets p) acts → Each (IsTypedAct ps p) acts → Each WeighsOne acts → Each (FollowsDirection ps p) acts → Each (IsSimple p.co p) acts
  all_simple [] b s o t w d = tt
  all_simple (Act.set x e span ∷ rest) b s o t w d = ((o.0, t.0), all_simple rest b s.1 o.1 t.1 w.1 d.1)
  all_simple (Act.draw x qs span ∷ rest) b s o t w d = ((o.0, (parts_of_draw (types_of p) x qs t.0, w.0)), all_simple rest b s.1 o.1 t.1 w.1 d.1)
  all_simple (Act.toss x f span ∷ rest) b s o t w d = ((o.0, t.0), all_simple rest b s.1 o.1 t.1 w.1 d.1)
  all_simple (Act.any x over ty span ∷ rest) b s o t w d = ((o.0, t.0), all_simple rest b s.1 o.1 t.1 w.1 d.1)
  all_simple (Act.reward f span ∷ rest) b s o t w d = (upward p.co p.weak directed d.0, all_simple rest b s.1 o.1 t.1 w.1 d.1)
  all_simple (Act.ifs arms e span ∷ rest) b s o t w d = (tt, all_simple rest b s.1 o.1 t.1 w.1 d.1)
  all_simple (Act.pick over a e span ∷ rest) b s o t w d = go (agree p.co over) refl (λ k. all_simple rest k s.1 o.1 t.1 w.1 d.1)
    where
      go : (g : Bool) → agree p.co over ≡ g → (first_break p.co rest ≡ None → Each (IsSimple p.co p) rest) → Each (IsSimple p.co p) (Act.pick over a e span ∷ rest)
      go true k more = (tt, more (rw k at b))
      go false k more = let l = rw k at b in absurd (cc)
  all_simple (Act.check kind f span ∷ rest) b s o t w d = absurd (cc)
  all_simple (Act.validate co span ∷ rest) b s o t w d = absurd (cc)
  all_simple (Act.loop h e ∷ rest) b s o t w d = absurd s.0
  all_simple (Act.call xs q es span ∷ rest) b s o t w d = absurd s.0

pub simple_program : (ps : List TypedProcedure) (p : TypedProcedure) → MeetsRules ps p → Plain p → Each IsStraight (in_order (acts_in p.body)) → Each (IsSimple p.co p) (in_order (acts_in p.body))
simple_program ps p rules plain straight = all_simple ps p plain.directed (in_order (acts_in p.body)) plain.unbroken straight rules.targets rules.typed rules.weights rules.directions
