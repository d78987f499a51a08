-- The static rules on a loop with a ranking and on the acts of its body.
use Rattle.std.proofs.Common.{◌≡◌, ℕ, subst, true, List}
use Rattle.std.specs.Prelude.{Option, Some, None}
use Rattle.heyvl_num.specs.Rational.{Rational}
use Rattle.heylo_formula.specs.Formula.{Form}
use Rattle.heyvl_acts.specs.Acts.{Act, Acts, Arms, TypedProcedure, types_of}
use Rattle.heyvl_acts.specs.Places.{in_order, inside, inside_arms}
use Rattle.heyvl_acts.specs.Rules.{Each, HasOwnTargets, IsTypedAct, WeighsOne, LoopsMeet, LoopFits, LoopMeets, RankFits, RankedBodyIsPlain, is_rankable, GuardsFit, MeetsRules}
use Rattle.heyvl_acts.specs.WellTypedActs.{ActsFit, ArmsFit}
use Rattle.heyvl_acts.specs.Upward.{upward, upward_next, upward_arms}
use Rattle.ranking_rule.specs.Rankings.{RankedLoop}
use Rattle.heyvl_acts.proofs.exported.Each.{each_first, each_second, each_two}
use Rattle.ranking_rule.proofs.RankedActs.{of_body, of_head}

-- ---- A loop with a ranking

-- The static rules on an act of such a loop's body.
abbrev pub IsTurnAct : List TypedProcedure → TypedProcedure → Act → Type 0
IsTurnAct ps p a = (HasOwnTargets p a × IsTypedAct ps p a) × (WeighsOne a × (is_rankable a ≡ true))

ranked_plain : (o : Option (Rational × Form)) (r : Rational × Form) (b : Acts) → o ≡ Some r → RankedBodyIsPlain o b → Each (λ a. is_rankable a ≡ true) (in_order b)
ranked_plain None r b e h = absurd (cc)
ranked_plain (Some q) r b e h = h

ranked_fits : (p : TypedProcedure) (o : Option (Rational × Form)) (r : Rational × Form) → o ≡ Some r → RankFits p o → RankFits p (Some r)
ranked_fits p o r e h = subst (RankFits p) e h

module _ (ps : List TypedProcedure) (p : TypedProcedure) (n : ℕ) (l : RankedLoop p n) (rules : MeetsRules ps p) where
  pub loop_fits : LoopFits p l.head
  loop_fits = of_head (IsTypedAct ps p) p n l rules.typed

  pub rank_fits : RankFits p (Some l.rank)
  rank_fits = ranked_fits p l.head.rank l.rank l.ranked loop_fits.rank

  loop_meets : LoopMeets p l.head l.body
  loop_meets = of_head (LoopsMeet p) p n l rules.loops

  pub body_acts : Each (IsTurnAct ps p) (in_order l.body)
  body_acts = each_two (λ a. HasOwnTargets p a × IsTypedAct ps p a) (λ a. WeighsOne a × (is_rankable a ≡ true)) (in_order l.body) (each_two (HasOwnTargets p) (IsTypedAct ps p) (in_order l.body) (of_body (HasOwnTargets p) p n l rules.targets) (of_body (IsTypedAct ps p) p n l rules.typed)) (each_two WeighsOne (λ a. is_rankable a ≡ true) (in_order l.body) (of_body WeighsOne p n l rules.weights) (ranked_plain l.head.rank l.rank l.body l.ranked loop_meets.ranked))

-- ---- Upward, the acts are well typed

module _ (ps : List TypedProcedure) (p : TypedProcedure) where
  mutual
    pub upward_fit : (acts : Acts) → Each (IsTurnAct ps p) (in_order acts) → ActsFit (types_of p) (upward acts)
    upward_fit Acts.done h = tt
    upward_fit (Acts.next a rest) h = next_fit a (upward rest) h.0 (each_first (IsTurnAct ps p) (inside a) (in_order rest) h.1) (upward_fit rest (each_second (IsTurnAct ps p) (inside a) (in_order rest) h.1))

    next_fit : (a : Act) (rest : Acts) → IsTurnAct ps p a → Each (IsTurnAct ps p) (inside a) → ActsFit (types_of p) rest → ActsFit (types_of p) (upward_next a rest)
    next_fit (Act.set x t span) rest h i k = (h.0.1, k)
    next_fit (Act.draw x qs span) rest h i k = (h.0.1, k)
    next_fit (Act.toss x f span) rest h i k = ((h.0.1.0, (h.0.1.1.0, h.0.1.1.1.0)), k)
    next_fit (Act.any x up ty span) rest h i k = (h.0.1, k)
    next_fit (Act.reward f span) rest h i k = k
    next_fit (Act.ifs arms e span) rest h i k = ((arms_fit arms h.0.1 (each_first (IsTurnAct ps p) (inside_arms arms) (in_order e) i), upward_fit e (each_second (IsTurnAct ps p) (inside_arms arms) (in_order e) i)), k)
    next_fit (Act.pick up a b span) rest h i k = ((upward_fit a (each_first (IsTurnAct ps p) (in_order a) (in_order b) i), upward_fit b (each_second (IsTurnAct ps p) (in_order a) (in_order b) i)), k)
    next_fit (Act.check kind f span) rest h i k = absurd (let e = h.1.1 in cc)
    next_fit (Act.validate co span) rest h i k = absurd (let e = h.1.1 in cc)
    next_fit (Act.loop g b) rest h i k = absurd (let e = h.1.1 in cc)
    next_fit (Act.call xs q es span) rest h i k = absurd (let e = h.1.1 in cc)

    arms_fit : (arms : Arms) → GuardsFit p arms → Each (IsTurnAct ps p) (inside_arms arms) → ArmsFit (types_of p) (upward_arms arms)
    arms_fit Arms.no_arm g i = tt
    arms_fit (Arms.arm c b more) g i = (g.0, (upward_fit b (each_first (IsTurnAct ps p) (in_order b) (inside_arms more) i), arms_fit more g.1 (each_second (IsTurnAct ps p) (in_order b) (inside_arms more) i)))
