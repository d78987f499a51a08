-- The requirements of the laws of unrolled runs, at a fair coin: a file that satisfies the static
-- rules, a state with the right types, and sums.
use Rattle.std.proofs.Common.{◌≡◌, ◌∙◌, ap, ◌≤◌, ℕ, refl, subst, Bool, true, false, List, [], ◌∷◌, Some, None, arith}
use Rattle.std.specs.Prelude.{Option}
use Rattle.heyvl_num.specs.Exact.{exact_sum, sum_fits, exact_product, product_fits}
use Rattle.heyvl_num.specs.Gcd.{gcd, gcd_steps}
use Rattle.heyvl_num.specs.Rational.{ratio, zeroʳ, oneʳ, halfʳ, leqʳ, compareʳ, ◌≤ʳ◌, ◌+ʳ◌, ◌*ʳ◌, ◌-ʳ◌}
use Rattle.heyvl_num.specs.Value.{Value, zeroᵛ, oneᵛ, ◌+ᵛ◌, ◌*ᵛ◌, infinite_times, is_zeroʳ, leqᵛ}
use Rattle.heyvl_num.specs.WeightedSums.{joined, scaled}
use Rattle.heyvl_num.proofs.exported.Rationals.{+ʳ-zero}
use Rattle.heyvl_num.proofs.exported.Signs.{halves}
use Rattle.heyvl_num.proofs.exported.WeightedSums.{total_weight-cons, total_weight-empty}
use Rattle.heyvl_places.specs.declared.spans.Span.{Span}
use Rattle.heylo_formula.specs.Formula.{Form, Cond, Term}
use Rattle.heylo_formula.specs.Typing.{types_in}
use Rattle.heylo_formula.specs.Variables.{IsOver}
use Rattle.heylo_formula.specs.declared.types.Ty.{Ty}
use Rattle.heylo_formula.specs.declared.values.Val.{Val}
use Rattle.heylo_formula.specs.declared.values.Val.TheVariants.{Truth}
use Rattle.heyvl_acts.specs.Acts.{Act, Acts, TypedProcedure, nobody}
use Rattle.heyvl_acts.specs.Program.{Calls, Reaches}
use Rattle.heyvl_acts.specs.Rules.{Each, MeetsRules, WeighsOne}
use Rattle.heyvl_acts.specs.WellTypedActs.{IsHeld}
use Rattle.run_machine.specs.Bound.{IsState}
use Rattle.run_machine.specs.ConfigConditions.{IsConfig, ReachesPrograms}
use Rattle.run_machine.specs.Names.{Stored}
use Rattle.run_machine.specs.StoredStep.{stored_begin}
use Rattle.run_unroller.specs.MergedLists.{merged_onto}
use Rattle.run_unroller.specs.RunLists.{after, begun}
use Rattle.run_unroller.specs.Totals.{Totals, totals}
use Rattle.run_unroller.specs.Unrolling.{Unrolling, unrolled}

abbrev place : Span
place = record { from = 0; to = 0 }

abbrev truth : Bool → Term
truth b = Term.truth (Cond.constant b)

abbrev flip : Act
flip = Act.draw 0 ((halfʳ, truth true) ∷ (halfʳ, truth false) ∷ []) place

-- A fair coin with the pre `pre`.
abbrev coin : Form → TypedProcedure
coin pre = record nobody { outputs = record { name = 1 ∷ []; ty = Ty.Bool } ∷ []; pre = pre; post = Form.iverson (Cond.flag 0); body = Some (Acts.next flip Acts.done) }

abbrev coins : Form → List TypedProcedure
coins pre = coin pre ∷ []

abbrev start : List Val
start = Truth false ∷ []

half_from_zero : zeroʳ ≤ʳ halfʳ
unfolding halfʳ zeroʳ ratio leqʳ
half_from_zero = record { holds = refl }

halves_weigh_one : WeighsOne flip
halves_weigh_one = total_weight-cons halfʳ (truth true) _ ∙ (ap (λ w. halfʳ +ʳ w) (total_weight-cons halfʳ (truth false) [] ∙ (ap (λ w. halfʳ +ʳ w) (total_weight-empty Term) ∙ +ʳ-zero halfʳ)) ∙ halves)

coin_meets : (pre : Form) → IsHeld (types_in []) pre → IsOver 0 pre → MeetsRules (coins pre) (coin pre)
coin_meets pre held over = record {
  few_parameters = omega arith;
  few_variables = omega arith;
  few_statements = omega arith;
  weak_is_proc = λ e. absurd (cc);
  pre = held;
  pre_over = over;
  post = refl;
  post_over = λ y e. grind arith;
  post_directed = refl;
  targets = (record { no_input = omega arith; below = omega arith }, tt);
  typed = (((half_from_zero, (refl, refl)), ((half_from_zero, (refl, refl)), tt)), tt);
  weights = (halves_weigh_one, tt);
  directions = (tt, tt);
  binders = ((λ e. absurd (cc)), tt);
  scopes = (((λ y e. absurd (cc)), ((λ y e. absurd (cc)), tt)), tt);
  loops = (tt, tt);
  numbered = refl;
}

number_is_over : (v : Value) → IsOver 0 (Form.number v)
number_is_over v y e = absurd (cc)

one_held : IsHeld (types_in []) (Form.number oneᵛ)
unfolding oneᵛ oneʳ zeroʳ ratio leqʳ
one_held = (refl, refl)

abbrev file : List TypedProcedure
file = coins (Form.number oneᵛ)

-- `ScriptedSumsGrow` requires a file that satisfies the static rules, a state with the right types,
-- and two numbers of steps.
file_meets_the_rules : Each (MeetsRules file) file × (IsState (coin (Form.number oneᵛ)) start × (1 ≤ 2))
file_meets_the_rules = ((coin_meets (Form.number oneᵛ) one_held (number_is_over oneᵛ), tt), ((refl, refl), omega arith))

-- The coin calls no procedure.
reaches_none : (n q : ℕ) → n ≡ 0 → Reaches file n q → ⊥
reaches_none _ _ e (Reaches.directly n q c) = absurd (let k = subst (λ m. Calls file m q) e c in cc)
reaches_none _ _ e (Reaches.onward n m q c w) = absurd (let k = subst (λ i. Calls file i m) e c in cc)

-- The coin reaches only programs, as `UnrolledSumsAreMeant` requires.
coin_reaches_programs : ReachesPrograms file 0
coin_reaches_programs = record { itself = refl; reached = λ q w. absurd (reaches_none 0 q refl w) }

abbrev first : Stored
first = stored_begin file 0 start

abbrev no_totals : Totals
no_totals = record { post = zeroᵛ; reward = zeroᵛ; running = zeroʳ; turns = [] }

abbrev sums_in : Unrolling → Totals
sums_in (Unrolling.sums t) = t
sums_in (Unrolling.stopped cause n) = no_totals

-- Nothing stops its first step, as `UnrolledSumsAreMeant` requires.
coin_has_sums : unrolled file 0 [] 1 (begun first) ≡ Unrolling.sums (sums_in (unrolled file 0 [] 1 (begun first)))
unfolding merged_onto joined scaled halfʳ ratio gcd gcd_steps zeroʳ oneʳ zeroᵛ oneᵛ ◌+ʳ◌ ◌*ʳ◌ ◌-ʳ◌ ◌+ᵛ◌ ◌*ᵛ◌ infinite_times is_zeroʳ leqʳ leqᵛ compareʳ exact_sum sum_fits exact_product product_fits
coin_has_sums = refl

abbrev or_none : Option Totals → Totals
or_none (Some t) = t
or_none None = no_totals

-- Its runs have totals, as `TotalsAreSums` requires.
coin_has_totals : totals (coin (Form.number oneᵛ)) (after file [] 1 (begun first)) ≡ Some (or_none (totals (coin (Form.number oneᵛ)) (after file [] 1 (begun first))))
unfolding merged_onto joined scaled halfʳ ratio gcd gcd_steps zeroʳ oneʳ zeroᵛ oneᵛ ◌+ʳ◌ ◌*ʳ◌ ◌-ʳ◌ ◌+ᵛ◌ ◌*ᵛ◌ infinite_times is_zeroʳ leqʳ leqᵛ compareʳ exact_sum sum_fits exact_product product_fits
coin_has_totals = refl

-- Its first configuration satisfies the condition that `ListsAreRuns` requires.
coin_begins : IsConfig file first
coin_begins = record { running = 0; lists = (refl, (((refl, record { act = flip; named = refl; runs = (tt, tt) }), tt), (refl, refl))); turns = refl }
