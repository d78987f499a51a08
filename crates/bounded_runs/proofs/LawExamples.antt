-- Bounds of small programs, one for each kind of act, which the law of encodings derives from their
-- goals.
use Rattle.std.proofs.Common.{◌≡◌, refl, sym, subst, ℕ, Bool, true, false, List, [], ◌∷◌, arith}
use Rattle.std.specs.Prelude.{Some, pos, if◌then◌else◌}
use Rattle.heyvl_num.specs.Rational.{Rational, zeroʳ, oneʳ, halfʳ, ratio, leqʳ, negʳ, ◌+ʳ◌, ◌*ʳ◌, ◌-ʳ◌}
use Rattle.heyvl_num.specs.Value.{zeroᵛ, oneᵛ, leqᵛ, ◌+ᵛ◌, ◌*ᵛ◌, ◌≤ᵛ◌}
use Rattle.heyvl_num.specs.Value.Value.{finite}
use Rattle.heyvl_num.specs.ValueOperators.{minᵛ}
use Rattle.heyvl_num.proofs.exported.Values.{≤ᵛ_refl}
use Rattle.heylo_formula.specs.Formula.{Form, Cond, Term}
use Rattle.heylo_formula.specs.Operators.{finite_part}
use Rattle.heylo_formula.specs.State.{get, truth_of}
use Rattle.heylo_formula.specs.Typing.{types_in}
use Rattle.heylo_formula.specs.declared.types.Ty.{Ty}
use Rattle.heyvl_acts.specs.Acts.{Act, Arms, TypedProcedure, nobody}
use Rattle.heyvl_acts.specs.Program.{Calls, IsProgram, Reaches}
use Rattle.heyvl_acts.specs.Rules.{MeetsRules}
use Rattle.heyvl_acts.specs.WellTypedActs.{IsHeld, IsProbability}
use Rattle.run_machine.specs.Bound.{Bound}
use Rattle.loop_encodings.specs.BoundGoals.{BoundGoalsHold}
use Rattle.bounded_runs.specs.Law.{IsShown}
use Rattle.bounded_runs.proofs.ShownBounds.{shown_bounds}
use Rattle.bounded_runs.proofs.SmallPrograms.{nowhere, only, flag_named, one_form, two_form, half_form, zero_held, one_held, half_held, coin, half_from_zero, fair_weighs_one}

-- ---- A file with one procedure

-- A procedure that calls only itself reaches only itself.
reaches_itself : (ps : List TypedProcedure) → ((q : ℕ) → Calls ps 0 q → q ≡ 0) → (n q : ℕ) → n ≡ 0 → Reaches ps n q → q ≡ 0
reaches_itself ps alone _ _ e (Reaches.directly n q c) = alone q (subst (λ m. Calls ps m q) e c)
reaches_itself ps alone _ _ e (Reaches.onward n m q c w) = reaches_itself ps alone m q (alone m (subst (λ k. Calls ps k m) e c)) w

pub bound_of : (p : TypedProcedure) → MeetsRules (p ∷ []) p → IsProgram p → BoundGoalsHold (p ∷ []) p → ((q : ℕ) → Calls (p ∷ []) 0 q → q ≡ 0) → Bound (p ∷ []) 0
bound_of p rules program goals alone = shown_bounds (p ∷ []) 0 (rules, tt) (omega arith) (record { itself = shown; reached = λ q w. subst (λ n. IsShown (p ∷ []) n) (sym (reaches_itself (p ∷ []) alone 0 q refl w)) shown })
  where
    shown : IsShown (p ∷ []) 0
    shown = record { program = program; goals = goals }

-- ---- A draw: the coin shows true with the probability 1/2

abbrev tossing : TypedProcedure
tossing = record nobody {
  outputs = flag_named 1 ∷ [];
  pre = half_form;
  post = Form.iverson (Cond.flag 0);
  body = Some (only (Act.draw 0 coin nowhere));
}

tossing_meets : MeetsRules (tossing ∷ []) tossing
tossing_meets = record {
  few_parameters = omega arith;
  few_variables = omega arith;
  few_statements = omega arith;
  weak_is_proc = λ e. absurd (cc);
  pre = half_held [];
  pre_over = λ y e. absurd (cc);
  post = refl;
  post_over = λ y e. grind arith;
  post_directed = refl;
  targets = (record { no_input = omega arith; below = omega arith }, tt);
  typed = (((half_from_zero, (refl, refl)), ((half_from_zero, (refl, refl)), tt)), tt);
  weights = (fair_weighs_one _ _, tt);
  directions = (tt, tt);
  binders = ((λ e. absurd (cc)), tt);
  scopes = (((λ y e. absurd (cc)), ((λ y e. absurd (cc)), tt)), tt);
  loops = (tt, tt);
  numbered = refl;
}

one_half : (finite halfʳ *ᵛ oneᵛ) +ᵛ (finite halfʳ *ᵛ zeroᵛ) ≤ᵛ finite halfʳ
unfolding halfʳ leqᵛ leqʳ ◌+ᵛ◌ ◌*ᵛ◌ zeroᵛ oneᵛ zeroʳ oneʳ ◌+ʳ◌ ◌*ʳ◌ ratio
one_half = record { holds = refl }

tossing_is_bounded : Bound (tossing ∷ []) 0
tossing_is_bounded = bound_of tossing tossing_meets refl ((λ s c t. one_half), tt) (λ q e. absurd (cc))

-- ---- A toss: the output is true with the probability 1/2 if the input holds, and otherwise with
-- 2, which counts as 1

abbrev chance : Form
chance = Form.select (Cond.flag 0) half_form two_form

abbrev weighing : TypedProcedure
weighing = record nobody {
  inputs = flag_named 1 ∷ [];
  outputs = flag_named 2 ∷ [];
  pre = Form.select (Cond.flag 0) half_form one_form;
  post = Form.iverson (Cond.flag 1);
  body = Some (only (Act.toss 1 chance nowhere));
}

weighing_pre : IsHeld (types_in (Ty.Bool ∷ [])) weighing.pre
unfolding halfʳ oneᵛ oneʳ zeroʳ ratio leqʳ
weighing_pre = (refl, refl)

weighing_chance : IsProbability (types_in (Ty.Bool ∷ Ty.Bool ∷ [])) chance
unfolding halfʳ zeroʳ ratio leqʳ
weighing_chance = ((refl, refl), (refl, refl))

weighing_meets : MeetsRules (weighing ∷ []) weighing
weighing_meets = record {
  few_parameters = omega arith;
  few_variables = omega arith;
  few_statements = omega arith;
  weak_is_proc = λ e. absurd (cc);
  pre = weighing_pre;
  pre_over = λ y e. grind arith;
  post = refl;
  post_over = λ y e. grind arith;
  post_directed = refl;
  targets = (record { no_input = omega arith; below = omega arith }, tt);
  typed = ((refl, weighing_chance), tt);
  weights = (tt, tt);
  directions = (tt, tt);
  binders = ((λ e. absurd (cc)), tt);
  scopes = ((λ y e. grind arith), tt);
  loops = (tt, tt);
  numbered = refl;
}

-- The weight by the input, and its difference to 1.
abbrev weight_of : Bool → Rational
weight_of b = finite_part (minᵛ (if b then finite halfʳ else finite (ratio (pos 2) 1)) oneᵛ)

weighed : (b : Bool) → (finite (weight_of b) *ᵛ oneᵛ) +ᵛ (finite (oneʳ -ʳ weight_of b) *ᵛ zeroᵛ) ≤ᵛ (if b then finite halfʳ else oneᵛ)
unfolding halfʳ minᵛ leqᵛ leqʳ ◌+ᵛ◌ ◌*ᵛ◌ zeroᵛ oneᵛ zeroʳ oneʳ ◌+ʳ◌ ◌*ʳ◌ ◌-ʳ◌ negʳ ratio
weighed true = record { holds = refl }
weighed false = record { holds = refl }

weighing_is_bounded : Bound (weighing ∷ []) 0
weighing_is_bounded = bound_of weighing weighing_meets refl ((λ s c t. weighed (truth_of (get 0 s))), tt) (λ q e. absurd (cc))

-- ---- A reward: 1 is collected

abbrev paying : TypedProcedure
paying = record nobody { pre = one_form; body = Some (only (Act.reward one_form nowhere)) }

paying_meets : MeetsRules (paying ∷ []) paying
paying_meets = record {
  few_parameters = omega arith;
  few_variables = omega arith;
  few_statements = omega arith;
  weak_is_proc = λ e. absurd (cc);
  pre = one_held [];
  pre_over = λ y e. absurd (cc);
  post = (zero_held []).0;
  post_over = λ y e. absurd (cc);
  post_directed = refl;
  targets = (tt, tt);
  typed = (one_held [], tt);
  weights = (tt, tt);
  directions = (refl, tt);
  binders = ((λ e. absurd (cc)), tt);
  scopes = ((λ y e. absurd (cc)), tt);
  loops = (tt, tt);
  numbered = refl;
}

none_and_one : zeroᵛ +ᵛ oneᵛ ≤ᵛ oneᵛ
unfolding leqᵛ leqʳ ◌+ᵛ◌ zeroᵛ oneᵛ zeroʳ oneʳ ◌+ʳ◌ ratio
none_and_one = record { holds = refl }

paying_is_bounded : Bound (paying ∷ []) 0
paying_is_bounded = bound_of paying paying_meets refl ((λ s c t. none_and_one), tt) (λ q e. absurd (cc))

-- ---- An if: the output is the input

abbrev copying : TypedProcedure
copying = record nobody {
  inputs = flag_named 1 ∷ [];
  outputs = flag_named 2 ∷ [];
  pre = Form.iverson (Cond.flag 0);
  post = Form.iverson (Cond.flag 1);
  body = Some (only (Act.ifs (Arms.arm (Cond.flag 0) (only (Act.set 1 (Term.truth (Cond.constant true)) nowhere)) Arms.no_arm) (only (Act.set 1 (Term.truth (Cond.constant false)) nowhere)) nowhere));
}

copying_meets : MeetsRules (copying ∷ []) copying
copying_meets = record {
  few_parameters = omega arith;
  few_variables = omega arith;
  few_statements = omega arith;
  weak_is_proc = λ e. absurd (cc);
  pre = (refl, refl);
  pre_over = λ y e. grind arith;
  post = refl;
  post_over = λ y e. grind arith;
  post_directed = refl;
  targets = (tt, (record { no_input = omega arith; below = omega arith }, (record { no_input = omega arith; below = omega arith }, tt)));
  typed = ((refl, tt), ((refl, refl), ((refl, refl), tt)));
  weights = (tt, (tt, (tt, tt)));
  directions = (tt, (tt, (tt, tt)));
  binders = ((λ e. absurd (cc)), ((λ e. absurd (cc)), ((λ e. absurd (cc)), tt)));
  scopes = ((((λ y e. grind arith), (((λ y e. absurd (cc)), tt), tt)), ((λ y e. absurd (cc)), tt)), tt);
  loops = (tt, (tt, (tt, tt)));
  numbered = refl;
}

copied : (b : Bool) → (if b then oneᵛ else zeroᵛ) ≤ᵛ (if b then oneᵛ else zeroᵛ)
copied b = ≤ᵛ_refl (if b then oneᵛ else zeroᵛ)

copying_is_bounded : Bound (copying ∷ []) 0
copying_is_bounded = bound_of copying copying_meets refl ((λ s c t. copied (truth_of (get 0 s))), tt) (λ q e. absurd (cc))
