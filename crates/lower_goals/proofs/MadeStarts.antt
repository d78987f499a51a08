-- Results for the borrowed parts of a remainder pair.
use Rattle.std.proofs.Common.{◌≡◌, ◌∙◌, ◌<◌, ◌^◌, ℕ, sym, ap, subst, arith, List, length, get_or, map}
use Rattle.std.proofs.lemmas.List.{length-map}
use Rattle.std.proofs.lemmas.Result.{IfOk-weaker}
use Rattle.std.specs.Prelude.{Result, IfOk, true}
use Rattle.std.specs.declared.alloc.AllocError.{AllocError}
use Rattle.heyvl_num.specs.Rational.{Rational}
use Rattle.heylo_formula.specs.BinderNames.{binders}
use Rattle.heylo_formula.specs.Formula.{Form}
use Rattle.heylo_formula.specs.PlainTrees.{form_of}
use Rattle.heylo_formula.specs.declared.goals.Made.{Made}
use Rattle.heyvl_acts.specs.Acts.{Acts, TypedProcedure, Variable, procedure_at, variables}
use Rattle.heyvl_acts.specs.PlainActs.{acts_of, procedures_of, variable_of}
use Rattle.heyvl_acts.specs.Rules.{AreNamed, MeetsAllRules, MeetsRules}
use Rattle.heyvl_acts.specs.Upward.{upward}
use Rattle.heyvl_acts.specs.declared.typed_trees.TProc.{TProc}
use Rattle.heyvl_acts.specs.declared.typed_trees.Typed.{Typed}
use Rattle.heyvl_acts.specs.declared.typed_trees.VarInfo.{VarInfo}
use Rattle.heyvl_acts.proofs.exported.Each.{each_at}
use Rattle.loop_encodings.proofs.exported.FromRules.{is_there, procedure_is}
use Rattle.loop_encodings.proofs.exported.OwnVariables.{own_variables}
use Rattle.made_goals.specs.MadeGoals.{goal_over}
use Rattle.ranking_rule.specs.RankingGoals.{generated}
use Rattle.vp_generator.specs.Fit.{AreFit}
use Rattle.vp_generator.specs.PrenexedGoals.{IsMadeWithin}
use Rattle.vp_generator.specs.Scopes.{GeneratedFormIsNamed}
use Rattle.lower_goals.specs.RemainderPairs.{RemainderPair}
use Rattle.lower_goals.specs.StartGoals.{start_goal}
use Rattle.lower_goals.specs.declared.remainder_pairs.RankedParts.{RankedParts}
use Rattle.lower_goals.specs.LentRemainderPairs.{IsPairAs}
use Rattle.lower_goals.proofs.RemainderPairs.{one_front, one_rank}
use Rattle.lower_goals.proofs.StartForms.{start_fit, start_named}
use Rattle.lower_goals.proofs.StartParts.{IsStart, is_start, start_as}

module _ (typed : Typed) (p q : ℕ) (parts : RankedParts) (all : MeetsAllRules typed) (first : p < length typed.procs.items) (second : q < length typed.procs.items) (is : IsPairAs (procedure_at (procedures_of typed) p) (procedure_at (procedures_of typed) q) parts) where
  abbrev ps : List TypedProcedure
  ps = procedures_of typed

  abbrev one : TypedProcedure
  one = procedure_at ps p

  abbrev other : TypedProcedure
  other = procedure_at ps q

  abbrev front : Acts
  front = acts_of parts.front.now

  abbrev rank : Rational × Form
  rank = (parts.step, form_of parts.ranking.now)

  abbrev found : Form
  found = generated front rank

  first_there : p < length ps
  first_there = is_there typed p first

  rules : MeetsRules ps one
  rules = each_at (MeetsRules ps) ps p all.each first_there

  start : IsStart ps one other front rank
  start = start_as ps one other is.pair.loop.front front is.pair.rank rank is.front is.rank (is_start ps one other rules is.pair)

  module _ (x : TProc) (x_is : x ≡ get_or typed.procs.items p x) (vs : List VarInfo) (same : vs ≡ x.vars.items) where
    vars_are : map variable_of vs ≡ variables one
    vars_are = ap (λ (l : List VarInfo). map variable_of l) same ∙ sym (ap (λ (r : TypedProcedure). variables r) (procedure_is typed.procs.items p x first x_is) ∙ own_variables x)

    as_many : length vs ≡ length (variables one)
    as_many = sym (length-map vs variable_of) ∙ ap (λ (l : List Variable). length l) vars_are

    pub few_vars : length vs < 2 ^ 30
    few_vars = let f = rules.few_variables in let e = as_many in omega (arith, f, e)

    pub are_named : GeneratedFormIsNamed → AreNamed (length vs) (binders found)
    are_named law = subst (λ n. AreNamed n (binders found)) (sym as_many) (start_named ps one other front rank start law)

    module _ (y : TProc) (y_is : y ≡ get_or typed.procs.items q y) where
      bound_is : form_of y.pre ≡ other.pre
      bound_is = sym (ap (λ (r : TypedProcedure). r.pre) (procedure_is typed.procs.items q y second y_is))

      made_is : (m : Made) → IsMadeWithin found (goal_over true (map variable_of vs) (form_of y.pre) found) m → IsMadeWithin found (start_goal one front rank other.pre) m
      made_is m h = subst (λ (us : List Variable). IsMadeWithin found (goal_over true us other.pre found) m) vars_are (subst (λ b. IsMadeWithin found (goal_over true (map variable_of vs) b found) m) bound_is h)

      pub all_made : (r : Result Made AllocError) → IfOk r (λ m. IsMadeWithin found (goal_over true (map variable_of vs) (form_of y.pre) found) m) → IfOk r (λ m. IsMadeWithin found (start_goal one front rank other.pre) m)
      all_made r h = IfOk-weaker r (λ m. IsMadeWithin found (goal_over true (map variable_of vs) (form_of y.pre) found) m) (λ m. IsMadeWithin found (start_goal one front rank other.pre) m) made_is h

  pub is_fit : AreFit (upward front) (form_of parts.ranking.now)
  is_fit = start_fit ps one other front rank start

pub whole_goal : (p q : TypedProcedure) (parts : RankedParts) → IsPairAs p q parts → (l : RemainderPair p q) (m : Made) → IsMadeWithin (generated (acts_of parts.front.now) (parts.step, form_of parts.ranking.now)) (start_goal p (acts_of parts.front.now) (parts.step, form_of parts.ranking.now) q.pre) m → IsMadeWithin (generated l.loop.front l.rank) (start_goal p l.loop.front l.rank q.pre) m
whole_goal p q parts is l m h = subst (λ acts. IsMadeWithin (generated acts l.rank) (start_goal p acts l.rank q.pre) m) (sym is.front ∙ one_front p q is.pair l) (subst (λ r. IsMadeWithin (generated (acts_of parts.front.now) r) (start_goal p (acts_of parts.front.now) r q.pre) m) (sym is.rank ∙ one_rank p q is.pair l) h)
