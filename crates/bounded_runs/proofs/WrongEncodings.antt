-- Encodings of a loop without one of their parts: their goals hold of a small program although its
-- runs violate the bound.
use Rattle.std.proofs.Common.{◌≡◌, ◌∙◌, refl, ℕ, Bool, true, false, List, [], ◌∷◌, arith}
use Rattle.std.specs.Prelude.{Some, None, drop, not, if◌then◌else◌}
use Rattle.heyvl_num.specs.Rational.{zeroʳ, oneʳ, ratio, leqʳ, ◌+ʳ◌, ◌*ʳ◌}
use Rattle.heyvl_num.specs.Value.{zeroᵛ, oneᵛ, leqᵛ, ◌+ᵛ◌, ◌*ᵛ◌, ◌≤ᵛ◌, is_zeroʳ}
use Rattle.heyvl_num.specs.Value.Value.{infinite}
use Rattle.heyvl_num.specs.ValueOperators.{maxᵛ, coimpliesᵛ}
use Rattle.heyvl_num.specs.WeightedSums.{weighted_sum, scaled}
use Rattle.heylo_formula.specs.Choices.{Choices, here, right}
use Rattle.heylo_formula.specs.Formula.{Form, Cond, Term}
use Rattle.heylo_formula.specs.Goals.{Compares}
use Rattle.heylo_formula.specs.Meaning.{value}
use Rattle.heylo_formula.specs.Operators.{covalidateᵛ}
use Rattle.heylo_formula.specs.State.{environment, fit, truth_of, IsTyped}
use Rattle.heylo_formula.specs.Typing.{types_in}
use Rattle.heylo_formula.specs.declared.types.Ty.{Ty}
use Rattle.heylo_formula.specs.declared.values.Val.{Val}
use Rattle.heylo_formula.specs.declared.values.Val.TheVariants.{Truth}
use Rattle.heyvl_acts.specs.Acts.{Act, Acts, TypedProcedure, nobody, Head, join, types_of}
use Rattle.heyvl_acts.specs.Forward.{forward}
use Rattle.heyvl_acts.specs.ModifiedVariables.{modified}
use Rattle.heyvl_acts.specs.Rules.{MeetsRules}
use Rattle.heyvl_acts.specs.Visible.{among, Sees}
use Rattle.heyvl_acts.specs.WellTypedActs.{IsHeld}
use Rattle.k_induction.specs.Copies.{if_holds, last_copy, may, must, no_more}
use Rattle.run_machine.specs.Bound.{Bound}
use Rattle.run_machine.specs.Configurations.{begin}
use Rattle.run_machine.specs.Runs.{runs}
use Rattle.run_machine.specs.Scheduler.{Tree}
use Rattle.run_machine.specs.Sums.{sum_of}
use Rattle.loop_encodings.specs.BoundGoals.{IsBounded}
use Rattle.loop_encodings.specs.Encoding.{encoded_loop, encoding, havocs}
use Rattle.bounded_runs.proofs.SmallPrograms.{one_not_zero, zero_held, only_first, nowhere, only, flag_named, zero_form}

-- ---- A coproc with the pre 0 whose flag is lowered, and then raised by a loop; its post is 1 if
-- the flag is raised

abbrev raise : Acts
raise = only (Act.set 0 (Term.truth (Cond.constant true)) nowhere)

abbrev until_raised : Form → Head
until_raised inv = record { number = 1; k = 1; inv = inv; guard = Cond.not (Cond.flag 0); rank = None; scope = 0 ∷ []; span = nowhere }

abbrev raising : Form → TypedProcedure
raising inv = record nobody {
  outputs = flag_named 1 ∷ [];
  post = Form.iverson (Cond.flag 0);
  body = Some (Acts.next (Act.set 0 (Term.truth (Cond.constant false)) nowhere) (only (Act.loop (until_raised inv) raise)));
  loops = 1;
}

raising_meets : (inv : Form) → IsHeld (types_in (Ty.Bool ∷ [])) inv → Sees (among (0 ∷ [])) inv → MeetsRules (raising inv ∷ []) (raising inv)
raising_meets inv held sees = record {
  few_parameters = omega arith;
  few_variables = omega arith;
  few_statements = omega arith;
  weak_is_proc = λ e. absurd (cc);
  pre = zero_held [];
  pre_over = λ y e. absurd (cc);
  post = refl;
  post_over = λ y e. grind arith;
  post_directed = refl;
  targets = (record { no_input = omega arith; below = omega arith }, (tt, (record { no_input = omega arith; below = omega arith }, tt)));
  typed = ((refl, refl), (record { inv = held; guard = refl; rank = tt }, ((refl, refl), tt)));
  weights = (tt, (tt, (tt, tt)));
  directions = (tt, (tt, (tt, tt)));
  binders = ((λ e. absurd (cc)), ((λ e. absurd (cc)), ((λ e. absurd (cc)), tt)));
  scopes = ((λ y e. absurd (cc)), ((only_first, (((λ y e. only_first y ∙ sees y e), ((λ y e. grind arith), tt)), ((λ y e. absurd (cc)), tt))), tt));
  loops = (tt, (record { some_copy = omega arith; few_copies = omega arith; scope = ((omega arith, omega arith), tt); ranked = tt; nothing_against = (refl, tt) }, (tt, tt)));
  numbered = refl;
}

-- The encoding with another encoding of the loop.
abbrev with_loop : Acts → Acts
with_loop loop = Acts.next (Act.set 0 (Term.truth (Cond.constant false)) nowhere) loop

-- The bound goal over such an encoding: its value is 0 in each state, for all choices.
abbrev IsNothing : Form → Acts → Type 0
IsNothing inv acts = (s : List Val) (c : Choices) → IsTyped (Ty.Bool ∷ []) s → Compares true zeroᵛ (forward acts (value (raising inv).post) (environment s) c)

raised_at_last : (inv : Form) → sum_of true (raising inv).post (runs (raising inv ∷ []) 4 (begin (raising inv ∷ []) 0 (Truth false ∷ [])) Tree.leaf) ≡ oneᵛ
unfolding runs weighted_sum scaled ◌+ᵛ◌ ◌*ᵛ◌ zeroᵛ oneᵛ zeroʳ oneʳ ◌+ʳ◌ ◌*ʳ◌ ratio
raised_at_last inv = refl

raising_breaks_its_bound : (inv : Form) → Bound (raising inv ∷ []) 0 → ⊥
raising_breaks_its_bound inv h = one_not_zero (let k = h (Truth false ∷ []) (refl, refl) 4 Tree.leaf in rw (raised_at_last inv) at k)

-- ---- The loop that forgets a modified variable: with the invariant 0

-- The encoding of the loop with other modified variables.
abbrev with_modified : List ℕ → Acts
with_modified xs = encoded_loop true (types_of (raising zero_form)) (until_raised zero_form) xs raise

encoding_is_with_modified : encoding (raising zero_form ∷ []) (raising zero_form) ≡ with_loop (with_modified (modified (until_raised zero_form).scope raise))
encoding_is_with_modified = refl

abbrev forgetful : Acts
forgetful = with_modified (drop 1 (modified (until_raised zero_form).scope raise))

forgetful_is_nothing : IsNothing zero_form (with_loop forgetful)
unfolding maxᵛ coimpliesᵛ covalidateᵛ is_zeroʳ leqᵛ leqʳ zeroᵛ oneᵛ zeroʳ oneʳ ratio
forgetful_is_nothing s c t = record { holds = refl }

-- The flag is raised before the loop's test: the choices for which the encoding's goal fails.
abbrev raised_before : Choices
raised_before = Choices.choose (Truth false) Choices.stop (Choices.choose (Truth true) Choices.stop Choices.stop)

infinite_above_zero : infinite ≤ᵛ zeroᵛ → ⊥
unfolding leqᵛ zeroᵛ
infinite_above_zero h = let e = h.holds in absurd (cc)

goal_of_forgetful_fails : IsBounded (raising zero_form ∷ []) (raising zero_form) → ⊥
unfolding maxᵛ coimpliesᵛ covalidateᵛ is_zeroʳ leqᵛ leqʳ zeroᵛ oneᵛ zeroʳ oneʳ ratio
goal_of_forgetful_fails h = let e = (h (Truth false ∷ []) raised_before (refl, refl)).holds in absurd (cc)

-- ---- The last copy without its coassert: with the invariant that is 1 if the flag is raised

abbrev raised : Form
raised = Form.iverson (Cond.flag 0)

-- The encoding of the loop with other acts for the copies.
abbrev with_copies : Acts → Acts
with_copies copies =
    Acts.next (Act.check (must true) raised nowhere) (
    havocs true nowhere (types_of (raising raised)) (modified (until_raised raised).scope raise) (
    Acts.next (Act.validate true nowhere) (
    Acts.next (Act.check (may true) raised nowhere) (
    only (if_holds nowhere (until_raised raised).guard copies)))))

encoding_is_with_last_copy : encoding (raising raised ∷ []) (raising raised) ≡ with_loop (with_copies (last_copy true nowhere raised raise))
encoding_is_with_last_copy = refl

abbrev unchecked : Acts
unchecked = with_copies (join raise (only (no_more true nowhere)))

unchecked_is_nothing : IsNothing raised (with_loop unchecked)
unfolding maxᵛ coimpliesᵛ covalidateᵛ is_zeroʳ leqᵛ leqʳ zeroᵛ oneᵛ zeroʳ oneʳ ratio
unchecked_is_nothing s c t = go (truth_of (fit Ty.Bool (here (right c))))
  where
    go : (b : Bool) → maxᵛ (if false then oneᵛ else zeroᵛ) (covalidateᵛ (coimpliesᵛ (if b then oneᵛ else zeroᵛ) (if not b then coimpliesᵛ infinite oneᵛ else (if b then oneᵛ else zeroᵛ)))) ≤ᵛ zeroᵛ
    go true = record { holds = refl }
    go false = record { holds = refl }

goal_of_unchecked_fails : IsBounded (raising raised ∷ []) (raising raised) → ⊥
unfolding maxᵛ coimpliesᵛ covalidateᵛ is_zeroʳ leqᵛ leqʳ zeroᵛ oneᵛ zeroʳ oneʳ ratio
goal_of_unchecked_fails h = let e = (h (Truth false ∷ []) Choices.stop (refl, refl)).holds in absurd (cc)

zero_meets : MeetsRules (raising zero_form ∷ []) (raising zero_form)
zero_meets = raising_meets zero_form (zero_held (Ty.Bool ∷ [])) (λ y e. absurd (cc))

raised_meets : MeetsRules (raising raised ∷ []) (raising raised)
raised_meets = raising_meets raised (refl, refl) (λ y e. grind arith)
