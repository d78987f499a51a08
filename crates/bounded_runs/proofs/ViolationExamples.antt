-- Violated bounds of small programs, computed by hand, and derived by the law.
use Rattle.std.proofs.Common.{◌≡◌, ◌≤◌, refl, ℕ, true, false, [], ◌∷◌, arith}
use Rattle.std.specs.Prelude.{Some}
use Rattle.heyvl_num.specs.Rational.{ratio, zeroʳ, oneʳ, halfʳ, leqʳ, ◌+ʳ◌, ◌*ʳ◌}
use Rattle.heyvl_num.specs.Value.{zeroᵛ, oneᵛ, leqᵛ, ◌+ᵛ◌, ◌*ᵛ◌, ◌≤ᵛ◌}
use Rattle.heyvl_num.specs.Value.Value.{finite}
use Rattle.heyvl_num.specs.ValueOperators.{maxᵛ}
use Rattle.heyvl_num.specs.WeightedSums.{weighted_sum, scaled}
use Rattle.heylo_formula.specs.Choices.{Choices}
use Rattle.heylo_formula.specs.Formula.{Form, Cond}
use Rattle.heylo_formula.specs.declared.values.Val.TheVariants.{Truth}
use Rattle.heyvl_acts.specs.Acts.{Act, Acts, TypedProcedure, nobody}
use Rattle.heyvl_acts.specs.Rules.{MeetsRules}
use Rattle.run_machine.specs.Configurations.{begin}
use Rattle.run_machine.specs.Runs.{runs}
use Rattle.run_machine.specs.Scheduler.{Tree, Forest}
use Rattle.run_machine.specs.Step.{Decision}
use Rattle.run_machine.specs.Sums.{sum_of}
use Rattle.bounded_runs.specs.Law.{IsBroken}
use Rattle.bounded_runs.proofs.SmallPrograms.{nowhere, only, flag_named, zero_form, one_form, zero_held, one_held, coin, half_from_zero, fair_weighs_one}
use Rattle.bounded_runs.proofs.Violations.{broken}

-- ---- A coproc with the pre 0 and the post 0 that may collect a reward of 1

abbrev collecting : TypedProcedure
collecting = record nobody { body = Some (only (Act.pick true Acts.done (only (Act.reward one_form nowhere)) nowhere)) }

abbrev to_the_right : Tree
to_the_right = Tree.node (Decision.side false) Forest.no_trees

-- On the right a run collects the reward in its second step, on the left it does not.
after_one_step : sum_of true zero_form (runs (collecting ∷ []) 1 (begin (collecting ∷ []) 0 []) to_the_right) ≡ zeroᵛ
unfolding runs weighted_sum scaled ◌+ᵛ◌ ◌*ᵛ◌ zeroᵛ oneᵛ zeroʳ oneʳ ◌+ʳ◌ ◌*ʳ◌ ratio
after_one_step = refl

after_two_steps : sum_of true zero_form (runs (collecting ∷ []) 2 (begin (collecting ∷ []) 0 []) to_the_right) ≡ oneᵛ
unfolding runs weighted_sum scaled ◌+ᵛ◌ ◌*ᵛ◌ zeroᵛ oneᵛ zeroʳ oneʳ ◌+ʳ◌ ◌*ʳ◌ ratio
after_two_steps = refl

to_the_left : sum_of true zero_form (runs (collecting ∷ []) 2 (begin (collecting ∷ []) 0 []) Tree.leaf) ≡ zeroᵛ
unfolding runs weighted_sum scaled ◌+ᵛ◌ ◌*ᵛ◌ zeroᵛ oneᵛ zeroʳ oneʳ ◌+ʳ◌ ◌*ʳ◌ ratio
to_the_left = refl

collecting_meets : MeetsRules (collecting ∷ []) collecting
collecting_meets = record {
  few_parameters = omega arith;
  few_variables = omega arith;
  few_statements = omega arith;
  weak_is_proc = λ e. absurd (cc);
  pre = zero_held [];
  pre_over = λ y e. absurd (cc);
  post = (zero_held []).0;
  post_over = λ y e. absurd (cc);
  post_directed = refl;
  targets = (tt, (tt, tt));
  typed = (tt, (one_held [], tt));
  weights = (tt, (tt, tt));
  directions = (tt, (refl, tt));
  binders = (λ e. absurd (cc), (λ e. absurd (cc), tt));
  scopes = ((tt, ((λ y e. absurd (cc)), tt)), tt);
  loops = (tt, (tt, tt));
  numbered = refl;
}

one_above_zero : maxᵛ zeroᵛ (zeroᵛ +ᵛ oneᵛ) ≤ᵛ zeroᵛ → ⊥
unfolding maxᵛ leqᵛ leqʳ ◌+ᵛ◌ zeroᵛ oneᵛ zeroʳ oneʳ ◌+ʳ◌ ratio
one_above_zero h = let e = h.holds in absurd (cc)

collects_too_much : (n : ℕ) → 2 ≤ n → IsBroken (collecting ∷ []) 0 [] n
collects_too_much n h = broken (collecting ∷ []) 0 [] Choices.stop (collecting_meets, tt) (omega arith) refl (tt, (tt, tt)) refl one_above_zero n h

-- ---- A proc with `@wlp` and the pre 1, whose post is 1 with the probability 1/2

abbrev flipping : TypedProcedure
flipping = record nobody {
  co = false;
  weak = true;
  outputs = flag_named 1 ∷ [];
  pre = one_form;
  post = Form.iverson (Cond.flag 0);
  body = Some (only (Act.draw 0 coin nowhere));
}

-- Before the draw the sum is 1, and after it 1/2.
before_the_draw : sum_of false flipping.post (runs (flipping ∷ []) 0 (begin (flipping ∷ []) 0 (Truth false ∷ [])) Tree.leaf) ≡ oneᵛ
unfolding runs weighted_sum scaled ◌+ᵛ◌ ◌*ᵛ◌ zeroᵛ oneᵛ zeroʳ oneʳ ◌+ʳ◌ ◌*ʳ◌ ratio
before_the_draw = refl

after_the_draw : sum_of false flipping.post (runs (flipping ∷ []) 1 (begin (flipping ∷ []) 0 (Truth false ∷ [])) Tree.leaf) ≡ finite halfʳ
unfolding runs weighted_sum scaled halfʳ ◌+ᵛ◌ ◌*ᵛ◌ zeroᵛ oneᵛ zeroʳ oneʳ ◌+ʳ◌ ◌*ʳ◌ ratio
after_the_draw = refl

flipping_meets : MeetsRules (flipping ∷ []) flipping
flipping_meets = record {
  few_parameters = omega arith;
  few_variables = omega arith;
  few_statements = omega arith;
  weak_is_proc = λ e. refl;
  pre = one_held [];
  pre_over = λ y e. absurd (cc);
  post = refl;
  post_over = λ y e. grind arith;
  post_directed = refl;
  targets = (record { no_input = omega arith; below = omega arith }, tt);
  typed = (((half_from_zero, (refl, refl)), ((half_from_zero, (refl, refl)), tt)), tt);
  weights = (fair_weighs_one _ _, tt);
  directions = (tt, tt);
  binders = ((λ e. absurd (cc)), tt);
  scopes = (((λ y e. absurd (cc)), ((λ y e. absurd (cc)), tt)), tt);
  loops = (tt, tt);
  numbered = refl;
}

one_above_half : oneᵛ ≤ᵛ (finite halfʳ *ᵛ oneᵛ) +ᵛ (finite halfʳ *ᵛ zeroᵛ) → ⊥
unfolding halfʳ leqᵛ leqʳ ◌+ᵛ◌ ◌*ᵛ◌ zeroᵛ oneᵛ zeroʳ oneʳ ◌+ʳ◌ ◌*ʳ◌ ratio
one_above_half h = let e = h.holds in absurd (cc)

ends_well_too_rarely : (n : ℕ) → 1 ≤ n → IsBroken (flipping ∷ []) 0 (Truth false ∷ []) n
ends_well_too_rarely n h = broken (flipping ∷ []) 0 (Truth false ∷ []) Choices.stop (flipping_meets, tt) (omega arith) refl (tt, tt) (refl, refl) one_above_half n h
