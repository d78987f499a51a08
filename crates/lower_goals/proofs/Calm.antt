-- The static rules on the acts of a proc with `@wlp` that is a program and has one loop.
use Rattle.std.proofs.Common.{◌≡◌, ◌+◌, refl, sym, subst, Bool, true, false, not, ◌||◌, List, [], ◌∷◌, ◌++◌}
use Rattle.std.specs.Prelude.{Option, Some, None, if◌then◌else◌}
use Rattle.heyvl_num.specs.Rational.{oneʳ}
use Rattle.heyvl_num.specs.WeightedSums.{total_weight}
use Rattle.heyvl_places.specs.declared.spans.Span.{Span}
use Rattle.heylo_formula.specs.Binders.{has_binder}
use Rattle.heylo_formula.specs.Operators.{agree}
use Rattle.heylo_formula.specs.Typing.{TermFits}
use Rattle.heylo_formula.specs.declared.types.Ty.{Ty}
use Rattle.heyvl_acts.specs.Acts.{Act, Acts, TypedProcedure, acts_in, types_of}
use Rattle.heyvl_acts.specs.Places.{in_order}
use Rattle.heyvl_acts.specs.Program.{Reason, breaks, first_break, reason_of_break, IsProgram}
use Rattle.heyvl_acts.specs.Rules.{Each, FollowsDirection, HasOwnTargets, IsOwn, IsTypedAct, MeetsRules, WeighsOne}
use Rattle.heyvl_acts.specs.Straight.{IsStraight}
use Rattle.heyvl_acts.specs.WellTypedActs.{DrawFits, IsProbability}
use Rattle.heyvl_acts.proofs.exported.Each.{each_two}
use Rattle.lower_goals.specs.OneLoop.{OneLoop}
use Rattle.lower_goals.proofs.LoopParts.{OfParts, body_in_order, of_parts, tail}

-- ---- Programs

pub record Plain (p : TypedProcedure) : Type 0 where
  pub unbound : has_binder p.post ≡ false
  pub unbroken : first_break p.co (in_order (acts_in p.body)) ≡ None

record Reasonless (a b : Bool) (o : Option Span) : Type 0 where
  second : b ≡ false
  third : o ≡ None

no_reason : (a b : Bool) (o : Option Span) → (if not a then Some Reason.no_wlp else (if b then Some Reason.quantifier else reason_of_break o)) ≡ None → Reasonless a b o
no_reason false b o h = absurd (cc)
no_reason true true o h = absurd (cc)
no_reason true false (Some s) h = absurd (cc)
no_reason true false None h = record { second = refl; third = refl }

pub plain_program : (p : TypedProcedure) → IsProgram p → Plain p
plain_program p h = go p.body refl h
  where
    go : (b : Option Acts) → p.body ≡ b → IsProgram (record p { body = b }) → Plain p
    go None e k = absurd (cc)
    go (Some acts) e k = let r = no_reason (p.co || p.weak) (has_binder p.post) (first_break p.co (in_order acts)) k in record { unbound = r.second; unbroken = subst (λ b. first_break p.co (in_order (acts_in b)) ≡ None) (sym e) r.third }

-- ---- Acts

-- The act is no check, no reward, no loop and no call; if it is a pick, it goes downward.
abbrev pub IsCalm : TypedProcedure → Act → Type 0
IsCalm p (Act.set x t span) = IsOwn p x × TermFits (types_of p) (types_of p x) t
IsCalm p (Act.draw x qs span) = IsOwn p x × (DrawFits (types_of p) x qs × (total_weight qs ≡ oneʳ))
IsCalm p (Act.toss x f span) = IsOwn p x × ((types_of p x ≡ Ty.Bool) × IsProbability (types_of p) f)
IsCalm p (Act.any x up ty span) = IsOwn p x × (types_of p x ≡ ty)
IsCalm p (Act.reward f span) = ⊥
IsCalm p (Act.ifs arms e span) = Unit {0}
IsCalm p (Act.pick up a b span) = up ≡ false
IsCalm p (Act.check kind f span) = ⊥
IsCalm p (Act.validate co span) = ⊥
IsCalm p (Act.loop h b) = ⊥
IsCalm p (Act.call xs q es span) = ⊥

abbrev pub AreCalm : TypedProcedure → Acts → Type 0
AreCalm p acts = Each (IsCalm p) (in_order acts)

-- The static rules on an act.
abbrev pub Ruled : List TypedProcedure → TypedProcedure → Act → Type 0
Ruled ps p a = (HasOwnTargets p a × IsTypedAct ps p a) × (WeighsOne a × FollowsDirection ps p a)

module _ (ps : List TypedProcedure) (p : TypedProcedure) (weak : p.weak ≡ true) (low : p.co ≡ false) where
  agree_false : (up : Bool) → agree false up ≡ true → up ≡ false
  agree_false true h = absurd (cc)
  agree_false false h = refl

  all_calm : (acts : List Act) → first_break false acts ≡ None → Each IsStraight acts → Each (Ruled ps p) acts → Each (IsCalm p) acts
  all_calm [] b s r = tt
  all_calm (Act.set x t span ∷ rest) b s r = (r.0.0, all_calm rest b s.1 r.1)
  all_calm (Act.draw x qs span ∷ rest) b s r = ((r.0.0.0, (r.0.0.1, r.0.1.0)), all_calm rest b s.1 r.1)
  all_calm (Act.toss x f span ∷ rest) b s r = (r.0.0, all_calm rest b s.1 r.1)
  all_calm (Act.any x up ty span ∷ rest) b s r = (r.0.0, all_calm rest b s.1 r.1)
  all_calm (Act.reward f span ∷ rest) b s r = absurd (let e = r.0.1.1 in cc)
  all_calm (Act.ifs arms e span ∷ rest) b s r = (tt, all_calm rest b s.1 r.1)
  all_calm (Act.pick up a e span ∷ rest) b s r = go (agree false up) refl (λ k. all_calm rest k s.1 r.1)
    where
      go : (g : Bool) → agree false up ≡ g → (first_break false rest ≡ None → Each (IsCalm p) rest) → Each (IsCalm p) (Act.pick up a e span ∷ rest)
      go true k more = (agree_false up k, more (rw k at b))
      go false k more = let l = rw k at b in absurd (cc)
  all_calm (Act.check kind f span ∷ rest) b s r = absurd (cc)
  all_calm (Act.validate co span ∷ rest) b s r = absurd (cc)
  all_calm (Act.loop h e ∷ rest) b s r = absurd s.0
  all_calm (Act.call xs q es span ∷ rest) b s r = absurd s.0

-- ---- Acts one after the other

breaks_first : (co : Bool) (xs ys : List Act) → first_break co (xs ++ ys) ≡ None → first_break co xs ≡ None
breaks_first co [] ys h = refl
breaks_first co (x ∷ xs) ys h = go (breaks co x) refl h (breaks_first co xs ys)
  where
    go : (o : Option Span) → breaks co x ≡ o → first_break co (x ∷ (xs ++ ys)) ≡ None → (first_break co (xs ++ ys) ≡ None → first_break co xs ≡ None) → first_break co (x ∷ xs) ≡ None
    go (Some s) e k more = let l = rw e at k in absurd (cc)
    go None e k more = rw e (more (rw e at k))

breaks_second : (co : Bool) (xs ys : List Act) → first_break co (xs ++ ys) ≡ None → first_break co ys ≡ None
breaks_second co [] ys h = h
breaks_second co (x ∷ xs) ys h = go (breaks co x) refl h (breaks_second co xs ys)
  where
    go : (o : Option Span) → breaks co x ≡ o → first_break co (x ∷ (xs ++ ys)) ≡ None → (first_break co (xs ++ ys) ≡ None → first_break co ys ≡ None) → first_break co ys ≡ None
    go (Some s) e k more = let l = rw e at k in absurd (cc)
    go None e k more = more (rw e at k)

-- ---- The parts of the body

pub record CalmParts (p : TypedProcedure) (l : OneLoop p) : Type 0 where
  pub front : AreCalm p l.front
  pub body : AreCalm p l.body
  pub behind : AreCalm p l.behind

pub calm_parts : (ps : List TypedProcedure) (p : TypedProcedure) (l : OneLoop p) → MeetsRules ps p → CalmParts p l
calm_parts ps p l rules = record {
  front = calm (in_order l.front) (breaks_first false (in_order l.front) (tail p l) unbroken) l.is.plain_front ruled.front;
  body = calm (in_order l.body) (breaks_first false (in_order l.body) (in_order l.behind) in_tail) l.is.plain_body ruled.body;
  behind = calm (in_order l.behind) (breaks_second false (in_order l.body) (in_order l.behind) in_tail) l.is.plain_behind ruled.behind;
}
  where
    low : p.co ≡ false
    low = rules.weak_is_proc l.is.weak

    calm : (acts : List Act) → first_break false acts ≡ None → Each IsStraight acts → Each (Ruled ps p) acts → Each (IsCalm p) acts
    calm = all_calm ps p l.is.weak low

    unbroken : first_break false (in_order l.front ++ (Act.loop l.head l.body ∷ (in_order l.body ++ in_order l.behind))) ≡ None
    unbroken = subst (λ acts. first_break false acts ≡ None) (body_in_order p l) (subst (λ b. first_break b (in_order (acts_in p.body)) ≡ None) low (plain_program p l.is.program).unbroken)

    ruled : OfParts (Ruled ps p) p l
    ruled = of_parts (Ruled ps p) p l (each_two (λ a. HasOwnTargets p a × IsTypedAct ps p a) (λ a. WeighsOne a × FollowsDirection ps p a) (in_order (acts_in p.body)) (each_two (HasOwnTargets p) (IsTypedAct ps p) (in_order (acts_in p.body)) rules.targets rules.typed) (each_two WeighsOne (FollowsDirection ps p) (in_order (acts_in p.body)) rules.weights rules.directions))

    in_tail : first_break false (in_order l.body ++ in_order l.behind) ≡ None
    in_tail = breaks_second false (in_order l.front) (Act.loop l.head l.body ∷ (in_order l.body ++ in_order l.behind)) unbroken
