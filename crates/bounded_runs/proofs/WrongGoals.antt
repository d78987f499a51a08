-- Goals that are left out, or weakened: the remaining goals hold of small programs although their
-- runs violate the bound. Each file satisfies the static rules.
use Rattle.std.proofs.Common.{◌≡◌, refl, true, false, List, [], ◌∷◌, pos, arith}
use Rattle.std.specs.Prelude.{Some, None}
use Rattle.heyvl_num.specs.Rational.{zeroʳ, oneʳ, halfʳ, ratio, leqʳ, ◌+ʳ◌, ◌*ʳ◌}
use Rattle.heyvl_num.specs.Value.{zeroᵛ, oneᵛ, is_zeroʳ, leqᵛ, ◌+ᵛ◌, ◌*ᵛ◌, ◌≤ᵛ◌}
use Rattle.heyvl_num.specs.Value.Value.{finite}
use Rattle.heyvl_num.specs.ValueOperators.{minᵛ, maxᵛ, impliesᵛ, coimpliesᵛ}
use Rattle.heyvl_num.specs.WeightedSums.{weighted_sum, scaled}
use Rattle.heyvl_num.proofs.exported.Values.{≤ᵛ_refl, zero-≤ᵛ-one, zero-≤ᵛ-zero}
use Rattle.heyvl_places.specs.declared.checks.CheckKind.{CheckKind}
use Rattle.heylo_formula.specs.Choices.{Choices}
use Rattle.heylo_formula.specs.Formula.{Form, Cond, Term}
use Rattle.heylo_formula.specs.Goals.{Compares}
use Rattle.heylo_formula.specs.Meaning.{value}
use Rattle.heylo_formula.specs.Operators.{validateᵛ, covalidateᵛ}
use Rattle.heylo_formula.specs.State.{environment, IsTyped}
use Rattle.heylo_formula.specs.declared.types.Ty.{Ty}
use Rattle.heylo_formula.specs.declared.values.Val.{Val}
use Rattle.heylo_formula.specs.declared.values.Val.TheVariants.{Truth}
use Rattle.heyvl_acts.specs.Acts.{Act, Acts, Arms, TypedProcedure, nobody}
use Rattle.heyvl_acts.specs.Forward.{forward}
use Rattle.heyvl_acts.specs.Program.{IsProgram}
use Rattle.heyvl_acts.specs.Rules.{MeetsRules}
use Rattle.run_machine.specs.Bound.{Bound}
use Rattle.run_machine.specs.Configurations.{begin}
use Rattle.run_machine.specs.Runs.{runs}
use Rattle.run_machine.specs.Scheduler.{Tree, Forest}
use Rattle.run_machine.specs.Step.{Decision}
use Rattle.run_machine.specs.Sums.{sum_of}
use Rattle.loop_encodings.specs.BoundGoals.{BoundGoal, GoalHolds, IsBounded}
use Rattle.loop_encodings.specs.Encoding.{encoding}
use Rattle.bounded_runs.proofs.SmallPrograms.{one_not_zero, zero_held, one_held, two_held, half_from_zero, fair_weighs_one, only_first, nowhere, only, flag_named, one_form, two_form, coin}

-- ---- Without the goals of a proc with `@wlp`: one with the pre 2, the post 2 and one assignment

abbrev doubling : TypedProcedure
doubling = record nobody {
  co = false;
  weak = true;
  outputs = flag_named 1 ∷ [];
  pre = two_form;
  post = two_form;
  body = Some (only (Act.set 0 (Term.truth (Cond.constant true)) nowhere));
}

doubling_meets : MeetsRules (doubling ∷ []) doubling
doubling_meets = record {
  few_parameters = omega arith;
  few_variables = omega arith;
  few_statements = omega arith;
  weak_is_proc = λ e. refl;
  pre = two_held [];
  pre_over = λ y e. absurd (cc);
  post = (two_held []).0;
  post_over = λ y e. absurd (cc);
  post_directed = refl;
  targets = (record { no_input = omega arith; below = omega arith }, tt);
  typed = ((refl, refl), tt);
  weights = (tt, tt);
  directions = (tt, tt);
  binders = ((λ e. absurd (cc)), tt);
  scopes = ((λ y e. absurd (cc)), tt);
  loops = (tt, tt);
  numbered = refl;
}

doubling_is_bounded : IsBounded (doubling ∷ []) doubling
doubling_is_bounded s c t = ≤ᵛ_refl (finite (ratio (pos 2) 1))

doubling_begun : sum_of false doubling.post (runs (doubling ∷ []) 0 (begin (doubling ∷ []) 0 (Truth false ∷ [])) Tree.leaf) ≡ oneᵛ
unfolding runs weighted_sum scaled ◌+ᵛ◌ ◌*ᵛ◌ zeroᵛ oneᵛ zeroʳ oneʳ ◌+ʳ◌ ◌*ʳ◌ ratio
doubling_begun = refl

two_above_one : finite (ratio (pos 2) 1) ≤ᵛ oneᵛ → ⊥
unfolding leqᵛ leqʳ oneᵛ oneʳ ratio
two_above_one h = let e = h.holds in absurd (cc)

doubling_breaks_its_bound : Bound (doubling ∷ []) 0 → ⊥
doubling_breaks_its_bound h = two_above_one (let k = h (Truth false ∷ []) (refl, refl) 0 Tree.leaf in rw doubling_begun at k)

pre_goal_fails : GoalHolds (doubling ∷ []) doubling BoundGoal.pre → ⊥
pre_goal_fails h = two_above_one (h (Truth false ∷ []) Choices.stop (refl, refl))

post_goal_fails : GoalHolds (doubling ∷ []) doubling BoundGoal.post → ⊥
post_goal_fails h = two_above_one (h (Truth false ∷ []) Choices.stop (refl, refl))

-- ---- Without the goals of invariants: a proc with `@wlp` that tosses a coin and then terminates,
-- or loops with the invariant 2

abbrev looping_or_not : TypedProcedure
looping_or_not = record nobody {
  co = false;
  weak = true;
  outputs = flag_named 1 ∷ [];
  pre = one_form;
  body = Some (Acts.next (Act.draw 0 coin nowhere) (only (Act.ifs (Arms.arm (Cond.flag 0) (only (Act.loop (record { number = 1; k = 1; inv = two_form; guard = Cond.constant true; rank = None; scope = 0 ∷ []; span = nowhere }) Acts.done)) Arms.no_arm) Acts.done nowhere)));
  loops = 1;
}

looping_or_not_meets : MeetsRules (looping_or_not ∷ []) looping_or_not
looping_or_not_meets = record {
  few_parameters = omega arith;
  few_variables = omega arith;
  few_statements = omega arith;
  weak_is_proc = λ e. refl;
  pre = one_held [];
  pre_over = λ y e. absurd (cc);
  post = (zero_held []).0;
  post_over = λ y e. absurd (cc);
  post_directed = refl;
  targets = (record { no_input = omega arith; below = omega arith }, (tt, (tt, tt)));
  typed = (((half_from_zero, (refl, refl)), ((half_from_zero, (refl, refl)), tt)), ((refl, tt), (record { inv = two_held (Ty.Bool ∷ []); guard = refl; rank = tt }, tt)));
  weights = (fair_weighs_one _ _, (tt, (tt, tt)));
  directions = (tt, (tt, (tt, tt)));
  binders = ((λ e. absurd (cc)), ((λ e. absurd (cc)), ((λ e. absurd (cc)), tt)));
  scopes = (((λ y e. absurd (cc)), ((λ y e. absurd (cc)), tt)), ((((λ y e. grind arith), (((only_first, (((λ y e. absurd (cc)), ((λ y e. absurd (cc)), tt)), tt)), tt), tt)), tt), tt));
  loops = (tt, (tt, (record { some_copy = omega arith; few_copies = omega arith; scope = ((omega arith, omega arith), tt); ranked = tt; nothing_against = tt }, tt)));
  numbered = refl;
}

looping_or_not_is_bounded : IsBounded (looping_or_not ∷ []) looping_or_not
unfolding minᵛ impliesᵛ validateᵛ halfʳ leqᵛ leqʳ ◌+ᵛ◌ ◌*ᵛ◌ zeroᵛ oneᵛ zeroʳ oneʳ ◌+ʳ◌ ◌*ʳ◌ ratio
looping_or_not_is_bounded s c t = record { holds = refl }

its_pre_is_small : GoalHolds (looping_or_not ∷ []) looping_or_not BoundGoal.pre
its_pre_is_small s c t = ≤ᵛ_refl oneᵛ

its_post_is_small : GoalHolds (looping_or_not ∷ []) looping_or_not BoundGoal.post
its_post_is_small s c t = zero-≤ᵛ-one

looping_or_not_breaks_its_bound : Bound (looping_or_not ∷ []) 0 → ⊥
unfolding runs weighted_sum scaled halfʳ leqᵛ leqʳ ◌+ᵛ◌ ◌*ᵛ◌ zeroᵛ oneᵛ zeroʳ oneʳ ◌+ʳ◌ ◌*ʳ◌ ratio
looping_or_not_breaks_its_bound h = let e = (h (Truth false ∷ []) (refl, refl) 2 Tree.leaf).holds in absurd (cc)

its_invariant_is_not_small : GoalHolds (looping_or_not ∷ []) looping_or_not (BoundGoal.invariant 1) → ⊥
its_invariant_is_not_small h = two_above_one (h (Truth false ∷ []) Choices.stop (refl, refl))

-- ---- Without the goals of a called procedure: a coproc with the pre 0 and the post 0 collects a
-- reward of 1

abbrev collecting : TypedProcedure
collecting = record nobody { body = Some (only (Act.reward one_form nowhere)) }

abbrev calling : TypedProcedure
calling = record nobody { body = Some (only (Act.call [] 1 [] nowhere)) }

collecting_meets : MeetsRules (calling ∷ collecting ∷ []) collecting
collecting_meets = record {
  few_parameters = omega arith;
  few_variables = omega arith;
  few_statements = omega arith;
  weak_is_proc = λ e. absurd (cc);
  pre = zero_held [];
  pre_over = λ y e. absurd (cc);
  post = (zero_held []).0;
  post_over = λ y e. absurd (cc);
  post_directed = refl;
  targets = (tt, tt);
  typed = (one_held [], tt);
  weights = (tt, tt);
  directions = (refl, tt);
  binders = ((λ e. absurd (cc)), tt);
  scopes = ((λ y e. absurd (cc)), tt);
  loops = (tt, tt);
  numbered = refl;
}

calling_meets : MeetsRules (calling ∷ collecting ∷ []) calling
calling_meets = record {
  few_parameters = omega arith;
  few_variables = omega arith;
  few_statements = omega arith;
  weak_is_proc = λ e. absurd (cc);
  pre = zero_held [];
  pre_over = λ y e. absurd (cc);
  post = (zero_held []).0;
  post_over = λ y e. absurd (cc);
  post_directed = refl;
  targets = (tt, tt);
  typed = (record { there = omega arith; arguments = tt; targets = tt }, tt);
  weights = (tt, tt);
  directions = (record { direction = refl; plain = refl }, tt);
  binders = ((λ e. absurd (cc)), tt);
  scopes = (tt, tt);
  loops = (tt, tt);
  numbered = refl;
}

calling_is_bounded : IsBounded (calling ∷ collecting ∷ []) calling
unfolding maxᵛ coimpliesᵛ covalidateᵛ is_zeroʳ leqᵛ leqʳ zeroᵛ zeroʳ ratio
calling_is_bounded s c t = record { holds = refl }

calling_breaks_its_bound : Bound (calling ∷ collecting ∷ []) 0 → ⊥
unfolding runs weighted_sum scaled leqᵛ leqʳ ◌+ᵛ◌ ◌*ᵛ◌ zeroᵛ oneᵛ zeroʳ oneʳ ◌+ʳ◌ ◌*ʳ◌ ratio
calling_breaks_its_bound h = let e = (h [] refl 2 Tree.leaf).holds in absurd (cc)

collecting_is_not_bounded : IsBounded (calling ∷ collecting ∷ []) collecting → ⊥
unfolding leqᵛ leqʳ ◌+ᵛ◌ zeroᵛ oneᵛ zeroʳ oneʳ ◌+ʳ◌ ratio
collecting_is_not_bounded h = let e = (h [] Choices.stop refl).holds in absurd (cc)

-- ---- With a single choice of values: a coproc with the pre 0 whose flag takes any value, and
-- whose post is 1 where it is raised

abbrev flag_taking : TypedProcedure
flag_taking = record nobody {
  outputs = flag_named 1 ∷ [];
  post = Form.iverson (Cond.flag 0);
  body = Some (only (Act.any 0 true Ty.Bool nowhere));
}

flag_taking_meets : MeetsRules (flag_taking ∷ []) flag_taking
flag_taking_meets = record {
  few_parameters = omega arith;
  few_variables = omega arith;
  few_statements = omega arith;
  weak_is_proc = λ e. absurd (cc);
  pre = zero_held [];
  pre_over = λ y e. absurd (cc);
  post = refl;
  post_over = λ y e. grind arith;
  post_directed = refl;
  targets = (record { no_input = omega arith; below = omega arith }, tt);
  typed = (refl, tt);
  weights = (tt, tt);
  directions = (refl, tt);
  binders = ((λ e. absurd (cc)), tt);
  scopes = (tt, tt);
  loops = (tt, tt);
  numbered = refl;
}

bounded_for_one_choice : (s : List Val) → IsTyped (Ty.Bool ∷ []) s → Compares true zeroᵛ (forward (encoding (flag_taking ∷ []) flag_taking) (value flag_taking.post) (environment s) Choices.stop)
bounded_for_one_choice s t = zero-≤ᵛ-zero

flag_taking_breaks_its_bound : Bound (flag_taking ∷ []) 0 → ⊥
unfolding runs weighted_sum scaled leqᵛ leqʳ ◌+ᵛ◌ ◌*ᵛ◌ zeroᵛ oneᵛ zeroʳ oneʳ ◌+ʳ◌ ◌*ʳ◌ ratio
flag_taking_breaks_its_bound h = let e = (h (Truth false ∷ []) (refl, refl) 1 (Tree.node (Decision.given (Truth true)) Forest.no_trees)).holds in absurd (cc)

flag_taking_is_not_bounded : IsBounded (flag_taking ∷ []) flag_taking → ⊥
flag_taking_is_not_bounded h = one_not_zero (h (Truth false ∷ []) (Choices.choose (Truth true) Choices.stop Choices.stop) (refl, refl))

-- ---- A procedure that is no program: a coproc with the pre 0, the post 1 and a check after which
-- nothing counts, which runs skip

abbrev checking : TypedProcedure
checking = record nobody { post = one_form; body = Some (only (Act.check CheckKind.CoAssume (Form.embed (Cond.constant true)) nowhere)) }

checking_meets : MeetsRules (checking ∷ []) checking
checking_meets = record {
  few_parameters = omega arith;
  few_variables = omega arith;
  few_statements = omega arith;
  weak_is_proc = λ e. absurd (cc);
  pre = zero_held [];
  pre_over = λ y e. absurd (cc);
  post = (one_held []).0;
  post_over = λ y e. absurd (cc);
  post_directed = refl;
  targets = (tt, tt);
  typed = ((refl, refl), tt);
  weights = (tt, tt);
  directions = (tt, tt);
  binders = ((λ e. absurd (cc)), tt);
  scopes = ((λ y e. absurd (cc)), tt);
  loops = (tt, tt);
  numbered = refl;
}

checking_is_bounded : IsBounded (checking ∷ []) checking
unfolding coimpliesᵛ leqᵛ leqʳ zeroᵛ oneᵛ zeroʳ oneʳ ratio
checking_is_bounded s c t = record { holds = refl }

checking_breaks_its_bound : Bound (checking ∷ []) 0 → ⊥
unfolding runs weighted_sum scaled leqᵛ leqʳ ◌+ᵛ◌ ◌*ᵛ◌ zeroᵛ oneᵛ zeroʳ oneʳ ◌+ʳ◌ ◌*ʳ◌ ratio
checking_breaks_its_bound h = let e = (h [] refl 1 Tree.leaf).holds in absurd (cc)

checking_is_no_program : IsProgram checking → ⊥
checking_is_no_program e = absurd (cc)
