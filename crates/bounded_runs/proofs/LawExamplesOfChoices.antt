-- Bounds of small programs with choices, upward and downward, which the law of encodings derives
-- from their goals.
use Rattle.std.proofs.Common.{refl, ℕ, Bool, true, false, [], ◌∷◌, arith}
use Rattle.std.specs.Prelude.{Some, not, ◌||◌, if◌then◌else◌}
use Rattle.heyvl_num.specs.Rational.{zeroʳ, oneʳ, halfʳ, ratio, leqʳ, ◌+ʳ◌, ◌*ʳ◌}
use Rattle.heyvl_num.specs.Value.{zeroᵛ, oneᵛ, leqᵛ, ◌+ᵛ◌, ◌*ᵛ◌, ◌≤ᵛ◌}
use Rattle.heyvl_num.specs.Value.Value.{finite}
use Rattle.heyvl_num.specs.ValueOperators.{minᵛ, maxᵛ}
use Rattle.heyvl_num.specs.WeightedSums.{weighted_sum, scaled}
use Rattle.heyvl_num.proofs.exported.Values.{≤ᵛ_refl, zero-≤ᵛ-one}
use Rattle.heylo_formula.specs.Choices.{here, left, right}
use Rattle.heylo_formula.specs.Formula.{Form, Cond, Term}
use Rattle.heylo_formula.specs.Operators.{agree}
use Rattle.heylo_formula.specs.State.{get, fit, truth_of}
use Rattle.heylo_formula.specs.declared.types.Ty.{Ty}
use Rattle.heylo_formula.specs.declared.values.Val.TheVariants.{Truth}
use Rattle.heyvl_acts.specs.Acts.{Act, Acts, TypedProcedure, nobody}
use Rattle.heyvl_acts.specs.Rules.{MeetsRules}
use Rattle.run_machine.specs.Bound.{Bound}
use Rattle.run_machine.specs.Configurations.{begin}
use Rattle.run_machine.specs.Runs.{runs}
use Rattle.run_machine.specs.Scheduler.{Tree, Forest}
use Rattle.run_machine.specs.Step.{Decision}
use Rattle.run_machine.specs.Sums.{sum_of}
use Rattle.bounded_runs.proofs.LawExamples.{bound_of}
use Rattle.bounded_runs.proofs.SmallPrograms.{nowhere, only, flag_named, one_form, one_held, coin, half_from_zero, fair_weighs_one}

abbrev raise : ℕ → Acts
raise x = only (Act.set x (Term.truth (Cond.constant true)) nowhere)

abbrev lower : ℕ → Acts
lower x = only (Act.set x (Term.truth (Cond.constant false)) nowhere)

-- ---- A choice in a coproc: the flag may be raised

abbrev may_raise : TypedProcedure
may_raise = record nobody {
  outputs = flag_named 1 ∷ [];
  pre = one_form;
  post = Form.iverson (Cond.flag 0);
  body = Some (only (Act.pick true (raise 0) (lower 0) nowhere));
}

may_raise_meets : MeetsRules (may_raise ∷ []) may_raise
may_raise_meets = record {
  few_parameters = omega arith;
  few_variables = omega arith;
  few_statements = omega arith;
  weak_is_proc = λ e. absurd (cc);
  pre = one_held [];
  pre_over = λ y e. absurd (cc);
  post = refl;
  post_over = λ y e. grind arith;
  post_directed = refl;
  targets = (tt, (record { no_input = omega arith; below = omega arith }, (record { no_input = omega arith; below = omega arith }, tt)));
  typed = (tt, ((refl, refl), ((refl, refl), tt)));
  weights = (tt, (tt, (tt, tt)));
  directions = (tt, (tt, (tt, tt)));
  binders = ((λ e. absurd (cc)), ((λ e. absurd (cc)), ((λ e. absurd (cc)), tt)));
  scopes = ((((λ y e. absurd (cc)), tt), ((λ y e. absurd (cc)), tt)), tt);
  loops = (tt, (tt, (tt, tt)));
  numbered = refl;
}

greater_is_one : maxᵛ oneᵛ zeroᵛ ≤ᵛ oneᵛ
unfolding maxᵛ leqᵛ leqʳ zeroᵛ oneᵛ zeroʳ oneʳ ratio
greater_is_one = record { holds = refl }

may_raise_is_bounded : Bound (may_raise ∷ []) 0
may_raise_is_bounded = bound_of may_raise may_raise_meets refl ((λ s c t. greater_is_one), tt) (λ q e. absurd (cc))

-- ---- A choice in a proc with `@wlp`: one of two flags is raised

abbrev one_raised : Form
one_raised = Form.iverson (Cond.or (Cond.flag 0) (Cond.flag 1))

one_raised_small : (b : Bool) → (if b then oneᵛ else zeroᵛ) ≤ᵛ oneᵛ
one_raised_small true = ≤ᵛ_refl oneᵛ
one_raised_small false = zero-≤ᵛ-one

abbrev must_raise : TypedProcedure
must_raise = record nobody {
  co = false;
  weak = true;
  outputs = flag_named 1 ∷ flag_named 2 ∷ [];
  pre = one_form;
  post = one_raised;
  body = Some (only (Act.pick false (raise 0) (raise 1) nowhere));
}

must_raise_meets : MeetsRules (must_raise ∷ []) must_raise
must_raise_meets = record {
  few_parameters = omega arith;
  few_variables = omega arith;
  few_statements = omega arith;
  weak_is_proc = λ e. refl;
  pre = one_held [];
  pre_over = λ y e. absurd (cc);
  post = refl;
  post_over = λ y e. grind arith;
  post_directed = refl;
  targets = (tt, (record { no_input = omega arith; below = omega arith }, (record { no_input = omega arith; below = omega arith }, tt)));
  typed = (tt, ((refl, refl), ((refl, refl), tt)));
  weights = (tt, (tt, (tt, tt)));
  directions = (tt, (tt, (tt, tt)));
  binders = ((λ e. absurd (cc)), ((λ e. absurd (cc)), ((λ e. absurd (cc)), tt)));
  scopes = ((((λ y e. absurd (cc)), tt), ((λ y e. absurd (cc)), tt)), tt);
  loops = (tt, (tt, (tt, tt)));
  numbered = refl;
}

-- If the second flag is raised, for both values of the first.
smaller_is_one : (b : Bool) → oneᵛ ≤ᵛ minᵛ oneᵛ (if b || true then oneᵛ else zeroᵛ)
unfolding minᵛ leqᵛ leqʳ oneᵛ oneʳ ratio
smaller_is_one true = record { holds = refl }
smaller_is_one false = record { holds = refl }

must_raise_is_bounded : Bound (must_raise ∷ []) 0
must_raise_is_bounded = bound_of must_raise must_raise_meets refl ((λ s c t. smaller_is_one (truth_of (get 0 s))), ((λ s c t. ≤ᵛ_refl oneᵛ), ((λ s c t. one_raised_small (truth_of (get 0 s) || truth_of (get 1 s))), tt))) (λ q e. absurd (cc))

-- ---- Any value in a coproc: a coin may be guessed

abbrev guessing : TypedProcedure
guessing = record nobody {
  outputs = flag_named 1 ∷ flag_named 2 ∷ [];
  pre = one_form;
  post = Form.iverson (Cond.same (Cond.flag 0) (Cond.flag 1));
  body = Some (Acts.next (Act.draw 0 coin nowhere) (only (Act.any 1 true Ty.Bool nowhere)));
}

guessing_meets : MeetsRules (guessing ∷ []) guessing
guessing_meets = record {
  few_parameters = omega arith;
  few_variables = omega arith;
  few_statements = omega arith;
  weak_is_proc = λ e. absurd (cc);
  pre = one_held [];
  pre_over = λ y e. absurd (cc);
  post = refl;
  post_over = λ y e. grind arith;
  post_directed = refl;
  targets = (record { no_input = omega arith; below = omega arith }, (record { no_input = omega arith; below = omega arith }, tt));
  typed = (((half_from_zero, (refl, refl)), ((half_from_zero, (refl, refl)), tt)), (refl, tt));
  weights = (fair_weighs_one _ _, (tt, tt));
  directions = (tt, (refl, tt));
  binders = ((λ e. absurd (cc)), ((λ e. absurd (cc)), tt));
  scopes = (((λ y e. absurd (cc)), ((λ y e. absurd (cc)), tt)), (tt, tt));
  loops = (tt, (tt, tt));
  numbered = refl;
}

-- For every guess, separately for each side of the coin.
guessed : (a b : Bool) → (finite halfʳ *ᵛ (if agree true a then oneᵛ else zeroᵛ)) +ᵛ (finite halfʳ *ᵛ (if agree false b then oneᵛ else zeroᵛ)) ≤ᵛ oneᵛ
unfolding halfʳ leqᵛ leqʳ ◌+ᵛ◌ ◌*ᵛ◌ zeroᵛ oneᵛ zeroʳ oneʳ ◌+ʳ◌ ◌*ʳ◌ ratio
guessed true true = record { holds = refl }
guessed true false = record { holds = refl }
guessed false true = record { holds = refl }
guessed false false = record { holds = refl }

guessing_is_bounded : Bound (guessing ∷ []) 0
guessing_is_bounded = bound_of guessing guessing_meets refl ((λ s c t. guessed (truth_of (fit Ty.Bool (here (left c)))) (truth_of (fit Ty.Bool (here (right c))))), tt) (λ q e. absurd (cc))

-- A scheduler that has seen the coin.
abbrev seeing : Tree
seeing = Tree.node Decision.none (Forest.trees (decided true) (Forest.trees (decided false) Forest.no_trees))
  where
    decided : Bool → Tree
    decided b = Tree.node (Decision.given (Truth b)) Forest.no_trees

-- It guesses right also from a state in which both flags are raised: no smaller bound holds.
seeing_guesses_right : oneᵛ ≤ᵛ sum_of true guessing.post (runs (guessing ∷ []) 2 (begin (guessing ∷ []) 0 (Truth true ∷ Truth true ∷ [])) seeing)
unfolding runs weighted_sum scaled halfʳ leqᵛ leqʳ ◌+ᵛ◌ ◌*ᵛ◌ zeroᵛ oneᵛ zeroʳ oneʳ ◌+ʳ◌ ◌*ʳ◌ ratio
seeing_guesses_right = record { holds = refl }

-- After any number of steps, its probability of being right is at most 1.
seeing_is_bounded : (n : ℕ) → sum_of true guessing.post (runs (guessing ∷ []) n (begin (guessing ∷ []) 0 (Truth true ∷ Truth true ∷ [])) seeing) ≤ᵛ oneᵛ
seeing_is_bounded n = guessing_is_bounded (Truth true ∷ Truth true ∷ []) (refl, (refl, refl)) n seeing

-- ---- Any value in a proc with `@wlp`: of a flag with any value and its opposite, one is raised

abbrev opposing : TypedProcedure
opposing = record nobody {
  co = false;
  weak = true;
  outputs = flag_named 1 ∷ flag_named 2 ∷ [];
  pre = one_form;
  post = one_raised;
  body = Some (Acts.next (Act.any 0 false Ty.Bool nowhere) (only (Act.set 1 (Term.truth (Cond.not (Cond.flag 0))) nowhere)));
}

opposing_meets : MeetsRules (opposing ∷ []) opposing
opposing_meets = record {
  few_parameters = omega arith;
  few_variables = omega arith;
  few_statements = omega arith;
  weak_is_proc = λ e. refl;
  pre = one_held [];
  pre_over = λ y e. absurd (cc);
  post = refl;
  post_over = λ y e. grind arith;
  post_directed = refl;
  targets = (record { no_input = omega arith; below = omega arith }, (record { no_input = omega arith; below = omega arith }, tt));
  typed = (refl, ((refl, refl), tt));
  weights = (tt, (tt, tt));
  directions = (refl, (tt, tt));
  binders = ((λ e. absurd (cc)), ((λ e. absurd (cc)), tt));
  scopes = (tt, ((λ y e. grind arith), tt));
  loops = (tt, (tt, tt));
  numbered = refl;
}

one_of_both : (b : Bool) → oneᵛ ≤ᵛ (if b || not b then oneᵛ else zeroᵛ)
one_of_both true = ≤ᵛ_refl oneᵛ
one_of_both false = ≤ᵛ_refl oneᵛ

opposing_is_bounded : Bound (opposing ∷ []) 0
opposing_is_bounded = bound_of opposing opposing_meets refl ((λ s c t. one_of_both (truth_of (fit Ty.Bool (here c)))), ((λ s c t. ≤ᵛ_refl oneᵛ), ((λ s c t. one_raised_small (truth_of (get 0 s) || truth_of (get 1 s))), tt))) (λ q e. absurd (cc))
