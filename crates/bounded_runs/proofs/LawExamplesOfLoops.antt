-- Bounds of loops and of a recursion, which toss coins, derived by the law of encodings from their
-- goals.
use Rattle.std.proofs.Common.{◌≡◌, ◌≢◌, ◌⊎◌, inl, inr, refl, sym, ◌||◌, ℕ, ◌==◌, Bool, true, false, [], ◌∷◌, pos, arith}
use Rattle.std.specs.Prelude.{Some, None, eqb, if◌then◌else◌}
use Rattle.std.proofs.lemmas.Bool.Decides.{eqb_tells}
use Rattle.heyvl_num.specs.Rational.{zeroʳ, oneʳ, halfʳ, ratio, leqʳ, ◌+ʳ◌, ◌*ʳ◌}
use Rattle.heyvl_num.specs.Value.{Value, zeroᵛ, oneᵛ, is_zeroʳ, leqᵛ, ◌+ᵛ◌, ◌*ᵛ◌, ◌≤ᵛ◌}
use Rattle.heyvl_num.specs.Value.Value.{finite, infinite}
use Rattle.heyvl_num.specs.ValueOperators.{minᵛ, maxᵛ, impliesᵛ, coimpliesᵛ}
use Rattle.heyvl_num.proofs.exported.Values.{≤ᵛ_refl, zero-≤ᵛ-one}
use Rattle.heylo_formula.specs.Choices.{here, right}
use Rattle.heylo_formula.specs.Formula.{Form, Cond, Term}
use Rattle.heylo_formula.specs.Operators.{validateᵛ, covalidateᵛ}
use Rattle.heylo_formula.specs.State.{fit, get, truth_of}
use Rattle.heylo_formula.specs.Typing.{types_in}
use Rattle.heylo_formula.specs.declared.types.Ty.{Ty}
use Rattle.heyvl_acts.specs.Acts.{Act, Acts, Arms, TypedProcedure, nobody}
use Rattle.heyvl_acts.specs.Program.{Calls}
use Rattle.heyvl_acts.specs.Rules.{MeetsRules}
use Rattle.heyvl_acts.specs.WellTypedActs.{IsHeld}
use Rattle.run_machine.specs.Bound.{Bound}
use Rattle.bounded_runs.proofs.LawExamples.{bound_of}
use Rattle.bounded_runs.proofs.SmallPrograms.{half_form, half_held, nowhere, only, only_first, flag_named, zero_form, one_form, two_form, zero_held, one_held, two_held, coin, half_from_zero, fair_weighs_one}

abbrev twoᵛ : Value
twoᵛ = finite (ratio (pos 2) 1)

-- ---- A loop: 1 is collected for each toss

abbrev two_while : Form
two_while = Form.select (Cond.flag 0) two_form zero_form

abbrev toss_once : Acts
toss_once = Acts.next (Act.reward one_form nowhere) (only (Act.draw 0 coin nowhere))

abbrev tossing_on : TypedProcedure
tossing_on = record nobody {
  outputs = flag_named 1 ∷ [];
  pre = two_form;
  body = Some (Acts.next (Act.set 0 (Term.truth (Cond.constant true)) nowhere) (only (Act.loop (record { number = 1; k = 1; inv = two_while; guard = Cond.flag 0; rank = None; scope = 0 ∷ []; span = nowhere }) toss_once)));
  loops = 1;
}

two_while_held : IsHeld (types_in (Ty.Bool ∷ [])) two_while
unfolding zeroᵛ zeroʳ ratio leqʳ
two_while_held = (refl, refl)

tossing_on_meets : MeetsRules (tossing_on ∷ []) tossing_on
tossing_on_meets = record {
  few_parameters = omega arith;
  few_variables = omega arith;
  few_statements = omega arith;
  weak_is_proc = λ e. absurd (cc);
  pre = two_held [];
  pre_over = λ y e. absurd (cc);
  post = (zero_held []).0;
  post_over = λ y e. absurd (cc);
  post_directed = refl;
  targets = (record { no_input = omega arith; below = omega arith }, (tt, (tt, (record { no_input = omega arith; below = omega arith }, tt))));
  typed = ((refl, refl), (record { inv = two_while_held; guard = refl; rank = tt }, (one_held (Ty.Bool ∷ []), (((half_from_zero, (refl, refl)), ((half_from_zero, (refl, refl)), tt)), tt))));
  weights = (tt, (tt, (tt, (fair_weighs_one _ _, tt))));
  directions = (tt, (tt, (refl, (tt, tt))));
  binders = ((λ e. absurd (cc)), ((λ e. absurd (cc)), ((λ e. absurd (cc)), ((λ e. absurd (cc)), tt))));
  scopes = ((λ y e. absurd (cc)), ((only_first, (((λ y e. grind arith), ((λ y e. grind arith), tt)), ((λ y e. absurd (cc)), (((λ y e. absurd (cc)), ((λ y e. absurd (cc)), tt)), tt)))), tt));
  loops = (tt, (record { some_copy = omega arith; few_copies = omega arith; scope = ((omega arith, omega arith), tt); ranked = tt; nothing_against = (refl, (refl, tt)) }, (tt, (tt, tt))));
  numbered = refl;
}

-- For both values of the flag before the test: the invariant is at least the value of the copy of
-- the body.
inductive : (b : Bool) → maxᵛ twoᵛ (covalidateᵛ (coimpliesᵛ (if b then twoᵛ else zeroᵛ) (if b then ((finite halfʳ *ᵛ maxᵛ twoᵛ (coimpliesᵛ infinite zeroᵛ)) +ᵛ (finite halfʳ *ᵛ maxᵛ zeroᵛ (coimpliesᵛ infinite zeroᵛ))) +ᵛ oneᵛ else zeroᵛ))) ≤ᵛ twoᵛ
unfolding maxᵛ coimpliesᵛ covalidateᵛ is_zeroʳ halfʳ leqᵛ leqʳ ◌+ᵛ◌ ◌*ᵛ◌ zeroᵛ oneᵛ zeroʳ oneʳ ◌+ʳ◌ ◌*ʳ◌ ratio
inductive true = record { holds = refl }
inductive false = record { holds = refl }

tossing_on_is_bounded : Bound (tossing_on ∷ []) 0
tossing_on_is_bounded = bound_of tossing_on tossing_on_meets refl ((λ s c t. inductive (truth_of (fit Ty.Bool (here (right c))))), tt) (λ q e. absurd (cc))

-- ---- A loop in a proc with `@wlp`: if the coin shows true it never terminates, which counts 1

abbrev tossed : Form
tossed = Form.iverson (Cond.flag 0)

abbrev staying : TypedProcedure
staying = record nobody {
  co = false;
  weak = true;
  outputs = flag_named 1 ∷ [];
  pre = half_form;
  body = Some (Acts.next (Act.draw 0 coin nowhere) (only (Act.loop (record { number = 1; k = 1; inv = tossed; guard = Cond.flag 0; rank = None; scope = 0 ∷ []; span = nowhere }) Acts.done)));
  loops = 1;
}

staying_meets : MeetsRules (staying ∷ []) staying
staying_meets = record {
  few_parameters = omega arith;
  few_variables = omega arith;
  few_statements = omega arith;
  weak_is_proc = λ e. refl;
  pre = half_held [];
  pre_over = λ y e. absurd (cc);
  post = (zero_held []).0;
  post_over = λ y e. absurd (cc);
  post_directed = refl;
  targets = (record { no_input = omega arith; below = omega arith }, (tt, tt));
  typed = (((half_from_zero, (refl, refl)), ((half_from_zero, (refl, refl)), tt)), (record { inv = (refl, refl); guard = refl; rank = tt }, tt));
  weights = (fair_weighs_one _ _, (tt, tt));
  directions = (tt, (tt, tt));
  binders = ((λ e. absurd (cc)), ((λ e. absurd (cc)), tt));
  scopes = (((λ y e. absurd (cc)), ((λ y e. absurd (cc)), tt)), ((only_first, (((λ y e. grind arith), ((λ y e. grind arith), tt)), tt)), tt));
  loops = (tt, (record { some_copy = omega arith; few_copies = omega arith; scope = ((omega arith, omega arith), tt); ranked = tt; nothing_against = tt }, tt));
  numbered = refl;
}

-- A copy of the body from a flag that is raised, and from one that is not.
staying_main : finite halfʳ ≤ᵛ (finite halfʳ *ᵛ minᵛ oneᵛ (validateᵛ (impliesᵛ oneᵛ (minᵛ oneᵛ (impliesᵛ zeroᵛ zeroᵛ))))) +ᵛ (finite halfʳ *ᵛ minᵛ zeroᵛ (validateᵛ (impliesᵛ zeroᵛ zeroᵛ)))
unfolding minᵛ impliesᵛ validateᵛ halfʳ leqᵛ leqʳ ◌+ᵛ◌ ◌*ᵛ◌ zeroᵛ oneᵛ zeroʳ oneʳ ◌+ʳ◌ ◌*ʳ◌ ratio
staying_main = record { holds = refl }

half_small : finite halfʳ ≤ᵛ oneᵛ
unfolding halfʳ leqᵛ leqʳ oneᵛ oneʳ ratio
half_small = record { holds = refl }

tossed_small : (b : Bool) → (if b then oneᵛ else zeroᵛ) ≤ᵛ oneᵛ
tossed_small true = ≤ᵛ_refl oneᵛ
tossed_small false = zero-≤ᵛ-one

staying_is_bounded : Bound (staying ∷ []) 0
staying_is_bounded = bound_of staying staying_meets refl ((λ s c t. staying_main), ((λ s c t. half_small), ((λ s c t. zero-≤ᵛ-one), ((λ s c t. tossed_small (truth_of (get 0 s))), tt)))) (λ q e. absurd (cc))

-- ---- A recursion: 1 is collected for each toss

abbrev tossing_again : TypedProcedure
tossing_again = record nobody {
  outputs = flag_named 1 ∷ [];
  pre = two_form;
  body = Some (Acts.next (Act.reward one_form nowhere) (Acts.next (Act.draw 0 coin nowhere) (only (Act.ifs (Arms.arm (Cond.flag 0) (only (Act.call (0 ∷ []) 0 [] nowhere)) Arms.no_arm) Acts.done nowhere))));
}

tossing_again_meets : MeetsRules (tossing_again ∷ []) tossing_again
tossing_again_meets = record {
  few_parameters = omega arith;
  few_variables = omega arith;
  few_statements = omega arith;
  weak_is_proc = λ e. absurd (cc);
  pre = two_held [];
  pre_over = λ y e. absurd (cc);
  post = (zero_held []).0;
  post_over = λ y e. absurd (cc);
  post_directed = refl;
  targets = (tt, (record { no_input = omega arith; below = omega arith }, (tt, ((record { no_input = omega arith; below = omega arith }, tt), tt))));
  typed = (one_held (Ty.Bool ∷ []), (((half_from_zero, (refl, refl)), ((half_from_zero, (refl, refl)), tt)), ((refl, tt), (record { there = omega arith; arguments = tt; targets = (refl, tt) }, tt))));
  weights = (tt, (fair_weighs_one _ _, (tt, (tt, tt))));
  directions = (refl, (tt, (tt, (record { direction = refl; plain = refl }, tt))));
  binders = ((λ e. absurd (cc)), ((λ e. absurd (cc)), ((λ e. absurd (cc)), ((λ e. absurd (cc)), tt))));
  scopes = ((λ y e. absurd (cc)), (((λ y e. absurd (cc)), ((λ y e. absurd (cc)), tt)), ((((λ y e. grind arith), ((tt, tt), tt)), tt), tt)));
  loops = (tt, (tt, (tt, (tt, tt))));
  numbered = refl;
}

-- The pre of the call is asserted, and nothing follows it.
called_again : ((finite halfʳ *ᵛ maxᵛ twoᵛ (covalidateᵛ (coimpliesᵛ zeroᵛ zeroᵛ))) +ᵛ (finite halfʳ *ᵛ zeroᵛ)) +ᵛ oneᵛ ≤ᵛ twoᵛ
unfolding maxᵛ coimpliesᵛ covalidateᵛ is_zeroʳ halfʳ leqᵛ leqʳ ◌+ᵛ◌ ◌*ᵛ◌ zeroᵛ oneᵛ zeroʳ oneʳ ◌+ʳ◌ ◌*ʳ◌ ratio
called_again = record { holds = refl }

-- It calls only itself.
calls_itself : (q : ℕ) → Calls (tossing_again ∷ []) 0 q → q ≡ 0
calls_itself q e = go (eqb_tells 0 q)
  where
    go : ((eqb 0 q ≡ true) × (0 ≡ q)) ⊎ ((eqb 0 q ≡ false) × (0 ≢ q)) → q ≡ 0
    go (inl k) = sym k.1
    go (inr k) = let f : ((0 == q) || false) ≡ true = e in let g = rw k.0 at f in absurd (cc)

tossing_again_is_bounded : Bound (tossing_again ∷ []) 0
tossing_again_is_bounded = bound_of tossing_again tossing_again_meets refl ((λ s c t. called_again), tt) calls_itself
