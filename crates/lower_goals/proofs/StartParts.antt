-- The static rules on the acts before the loop of a remainder pair, on its ranking, and on the
-- bound.
use Rattle.std.proofs.Common.{◌≡◌, refl, sym, ap, subst, ◌∙◌, arith, true, List, [], ◌∷◌, ◌++◌, length}
use Rattle.std.proofs.lemmas.List.{length-append, length-map}
use Rattle.std.specs.Prelude.{Some}
use Rattle.heyvl_num.specs.Rational.{Rational}
use Rattle.heylo_formula.specs.Formula.{Form}
use Rattle.heylo_formula.specs.Typing.{IsFormula, is_unsigned, types_in}
use Rattle.heylo_formula.specs.Variables.{IsOver}
use Rattle.heylo_formula.proofs.exported.Agreement.{same_types}
use Rattle.heyvl_acts.specs.Acts.{Act, Acts, TypedProcedure, Variable, type_list, types_of, variables}
use Rattle.heyvl_acts.specs.Places.{in_order}
use Rattle.heyvl_acts.specs.Rules.{Each, HasOwnTargets, IsTypedAct, MeetsRules, RankFits, WeighsOne, is_rankable}
use Rattle.heyvl_acts.proofs.exported.Each.{each_two}
use Rattle.loop_encodings.proofs.exported.EncodedTypes.{front_same}
use Rattle.lower_goals.specs.RemainderPairs.{IsInputBound, RemainderPair}
use Rattle.lower_goals.proofs.Calm.{IsCalm, calm_parts}
use Rattle.lower_goals.proofs.LoopParts.{of_parts}
use Rattle.ranking_rule.proofs.exported.ReadVariables.{ReadsFirst, all_read}
use Rattle.ranking_rule.proofs.exported.UpwardActs.{IsTurnAct, some_rank}

-- ---- The acts before the loop

rankable : (p : TypedProcedure) (a : Act) → IsCalm p a → is_rankable a ≡ true
rankable p (Act.set x t span) h = refl
rankable p (Act.draw x qs span) h = refl
rankable p (Act.toss x f span) h = refl
rankable p (Act.any x up ty span) h = refl
rankable p (Act.reward f span) h = refl
rankable p (Act.ifs arms e span) h = refl
rankable p (Act.pick up a b span) h = refl
rankable p (Act.check kind f span) h = absurd h
rankable p (Act.validate co span) h = absurd h
rankable p (Act.loop g b) h = absurd h
rankable p (Act.call xs q es span) h = absurd h

all_rankable : (p : TypedProcedure) (acts : List Act) → Each (IsCalm p) acts → Each (λ a. is_rankable a ≡ true) acts
all_rankable p [] h = tt
all_rankable p (a ∷ rest) h = (rankable p a h.0, all_rankable p rest h.1)

-- The conditions for the goal: the acts may be taken upward and read only variables of the
-- procedure, the ranking is a formula over them, and the bound is over the inputs.
pub record IsStart (ps : List TypedProcedure) (p q : TypedProcedure) (front : Acts) (r : Rational × Form) : Type 0 where
  pub turns : Each (IsTurnAct ps p) (in_order front)
  pub reads : Each (ReadsFirst (length (variables p))) (in_order front)
  pub fits : RankFits p (Some r)
  pub over : IsOver (length (variables p)) r.1
  pub bound : IsInputBound p q

pub is_start : (ps : List TypedProcedure) (p q : TypedProcedure) → MeetsRules ps p → (pair : RemainderPair p q) → IsStart ps p q pair.loop.front pair.rank
is_start ps p q rules pair = record {
  turns = each_two (λ a. HasOwnTargets p a × IsTypedAct ps p a) (λ a. WeighsOne a × (is_rankable a ≡ true)) acts (each_two (HasOwnTargets p) (IsTypedAct ps p) acts (of_parts (HasOwnTargets p) p pair.loop rules.targets).front (of_parts (IsTypedAct ps p) p pair.loop rules.typed).front) (each_two WeighsOne (λ a. is_rankable a ≡ true) acts (of_parts WeighsOne p pair.loop rules.weights).front (all_rankable p acts (calm_parts ps p pair.loop rules).front));
  reads = (of_parts (ReadsFirst (length (variables p))) p pair.loop (all_read ps p rules)).front;
  fits = subst (RankFits p) pair.ranked (of_parts (IsTypedAct ps p) p pair.loop rules.typed).loop.rank;
  over = some_rank (length (variables p)) pair.loop.head.rank pair.rank pair.ranked (of_parts (ReadsFirst (length (variables p))) p pair.loop (all_read ps p rules)).loop.1.1;
  bound = pair.bound;
}
  where
    acts : List Act
    acts = in_order pair.loop.front

pub start_as : (ps : List TypedProcedure) (p q : TypedProcedure) (front front' : Acts) (r r' : Rational × Form) → front ≡ front' → r ≡ r' → IsStart ps p q front r → IsStart ps p q front' r'
start_as ps p q front front' r r' e f h = subst (λ acts. IsStart ps p q acts r') e (subst (λ x. IsStart ps p q front x) f h)

-- ---- The bound over the inputs

module _ (ps : List TypedProcedure) (p q : TypedProcedure) (bound : IsInputBound p q) (rules : MeetsRules ps q) where
  as_many_inputs : length q.inputs ≡ length p.inputs
  as_many_inputs = sym (length-map q.inputs (λ (v : Variable). v.ty)) ∙ (ap length bound.inputs ∙ length-map p.inputs (λ (v : Variable). v.ty))

  pub bound_formula : IsFormula (types_of p) q.pre
  bound_formula = ap is_unsigned (same_types q.pre (types_of p) (types_in (type_list q.inputs)) (λ y e. front_same p.inputs (p.outputs ++ p.locals) y (let l = rules.pre_over y e in let m = as_many_inputs in omega (arith, l, m)) ∙ ap (λ ts. types_in ts y) (sym bound.inputs))) ∙ rules.pre.0

  pub bound_over : IsOver (length (type_list (variables p))) q.pre
  bound_over y e = let l = rules.pre_over y e in let m = as_many_inputs in let n = length-map (variables p) (λ (v : Variable). v.ty) in let o = length-append p.inputs (p.outputs ++ p.locals) in omega (arith, l, m, n, o)
