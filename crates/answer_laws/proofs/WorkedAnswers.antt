-- The promises of the headline about answers on small files, computed: goals that fail and a
-- ranking that is none in the states that are shown, and goals that hold although their procedure
-- is no program, or calls one that is not verified.
use Rattle.std.proofs.Common.{refl, subst, sym, ◌≡◌, ℕ, Bool, true, false, List, [], ◌∷◌, pos}
use Rattle.std.specs.Prelude.{Option, Some, None}
use Rattle.heyvl_num.specs.Rational.{Rational, zeroʳ, oneʳ, halfʳ, ratio, leqʳ, ◌+ʳ◌, ◌*ʳ◌}
use Rattle.heyvl_num.specs.Gcd.{gcd, gcd_steps}
use Rattle.heyvl_num.specs.Value.{Value, zeroᵛ, oneᵛ, leqᵛ, is_zeroʳ, ◌+ᵛ◌, ◌*ᵛ◌, ◌≤ᵛ◌}
use Rattle.heyvl_num.specs.Value.Value.{finite}
use Rattle.heyvl_num.specs.ValueOperators.{coimpliesᵛ, maxᵛ}
use Rattle.heyvl_num.proofs.exported.Operators.{coimplies_zero}
use Rattle.heyvl_num.proofs.exported.Values.{≤ᵛ_refl}
use Rattle.heyvl_places.specs.declared.checks.CheckKind.{CheckKind}
use Rattle.heyvl_places.specs.declared.spans.Span.{Span}
use Rattle.heylo_formula.specs.Choices.{Choices}
use Rattle.heylo_formula.specs.Formula.{Form, Cond, Term}
use Rattle.heylo_formula.specs.declared.goals.GoalId.TheVariants.{Main, Post}
use Rattle.heylo_formula.specs.declared.types.Ty.{Ty}
use Rattle.heylo_formula.specs.declared.values.Val.TheVariants.{Num, Truth}
use Rattle.heylo_formula.specs.declared.values.Val.{Val}
use Rattle.heylo_formula.specs.Operators.{covalidateᵛ}
use Rattle.heylo_formula.specs.Meaning.{value}
use Rattle.heylo_formula.specs.State.{environment}
use Rattle.heyvl_acts.specs.Forward.{forward}
use Rattle.heyvl_acts.specs.Acts.{Act, Acts, Head, Arms, TypedProcedure, Variable, nobody}
use Rattle.run_machine.specs.Bound.{IsState}
use Rattle.loop_encodings.specs.BoundGoals.{BoundGoal, BoundGoalsHold}
use Rattle.loop_encodings.specs.Encoding.{encoding}
use Rattle.ranking_rule.specs.Rankings.{after_turn}
use Rattle.verify_core.specs.Headline.{IsFalseAsShown, IsFalsifiedIn, IsUnrankedIn}

abbrev nowhere : Span
nowhere = record { from = 0; to = 0 }

abbrev only : Act → Acts
only a = Acts.next a Acts.done

abbrev constant : Rational → Form
constant q = Form.number (finite q)

abbrev one : Form
one = Form.number oneᵛ

abbrev variable_of_type : ℕ → Ty → Variable
variable_of_type n ty = record { name = n ∷ []; ty = ty }

-- ---- A proc with `@wlp` whose post is 2: the goal that its post is at most 1 fails in every state

abbrev big : TypedProcedure
big = record nobody { co = false; weak = true; pre = one; post = constant (ratio (pos 2) 1); body = Some Acts.done }

two_is_above_one : finite (ratio (pos 2) 1) ≤ᵛ oneᵛ → ⊥
unfolding leqᵛ leqʳ oneᵛ oneʳ ratio gcd gcd_steps
two_is_above_one h = let k = h.holds in absurd (cc)

big_is_falsified : IsFalsifiedIn (big ∷ []) 0 Post []
big_is_falsified = record { goal = BoundGoal.post; id_of = refl; state = refl; fails = record { choices = Choices.stop; state = refl; fails = λ h. two_is_above_one h } }

big_is_false_as_shown : IsFalseAsShown (big ∷ []) 0 Post []
big_is_false_as_shown = record { goal = BoundGoal.post; id_of = refl; fails = record { typed = refl; fails = λ h. two_is_above_one h } }

-- ---- A callee that returns 2: 2 is above its pre

abbrev two : TypedProcedure
two = record nobody { outputs = variable_of_type 2 Ty.UInt ∷ []; pre = one; post = Form.variable 0; body = Some (only (Act.set 0 (Term.number (constant (ratio (pos 2) 1))) nowhere)) }

abbrev caller : TypedProcedure
caller = record nobody { outputs = variable_of_type 1 Ty.UInt ∷ []; pre = one; post = Form.variable 0; body = Some (only (Act.call (0 ∷ []) 1 [] nowhere)) }

two_is_falsified : IsFalsifiedIn (caller ∷ two ∷ []) 1 Main (Num zeroʳ ∷ [])
unfolding zeroʳ ratio leqʳ
two_is_falsified = record { goal = BoundGoal.main; id_of = refl; state = (refl, refl); fails = record { choices = Choices.stop; state = (refl, refl); fails = λ h. two_is_above_one h } }

-- ---- A coassume: nothing after it counts, so that the bound holds and says nothing of runs

abbrev vacuous : TypedProcedure
vacuous = record nobody { post = constant (ratio (pos 5) 1); body = Some (only (Act.check CheckKind.CoAssume (Form.embed (Cond.constant true)) nowhere)) }

vacuous_holds : BoundGoalsHold (vacuous ∷ []) vacuous
unfolding coimpliesᵛ zeroᵛ leqᵛ leqʳ zeroʳ ratio
vacuous_holds = ((λ s c t. record { holds = refl }), tt)

-- ---- A caller: its goal holds, as the callee claims a bound

once_it_holds : maxᵛ oneᵛ (covalidateᵛ zeroᵛ) ≤ᵛ oneᵛ
unfolding maxᵛ covalidateᵛ is_zeroʳ zeroᵛ oneᵛ leqᵛ leqʳ zeroʳ oneʳ ratio
once_it_holds = record { holds = refl }

within_the_claim : (v : Value) → maxᵛ oneᵛ (covalidateᵛ (coimpliesᵛ v v)) ≤ᵛ oneᵛ
within_the_claim v = subst (λ z. maxᵛ oneᵛ (covalidateᵛ z) ≤ᵛ oneᵛ) (sym (coimplies_zero v v (≤ᵛ_refl v))) once_it_holds

caller_holds : BoundGoalsHold (caller ∷ two ∷ []) caller
caller_holds = ((λ s c t. within_the_claim _), tt)

-- ---- The geometric loop: 0 is init_c, 1 is c, 2 is cont and 3 is stop

abbrev flip_stop : Act
flip_stop = Act.draw 3 ((halfʳ, Term.truth (Cond.constant true)) ∷ (halfʳ, Term.truth (Cond.constant false)) ∷ []) nowhere

abbrev stop_or_count : Act
stop_or_count = Act.ifs (Arms.arm (Cond.flag 3) (only (Act.set 2 (Term.truth (Cond.constant false)) nowhere)) Arms.no_arm) (only (Act.set 1 (Term.number (Form.sum (Form.variable 1) one)) nowhere)) nowhere

abbrev head : Option (Rational × Form) → Head
head rank = record { number = 1; k = 1; inv = Form.select (Cond.flag 2) (Form.sum (Form.variable 1) one) (Form.variable 1); guard = Cond.flag 2; rank = rank; scope = 0 ∷ (1 ∷ (2 ∷ [])); span = nowhere }

abbrev turn : Acts
turn = Acts.next flip_stop (only stop_or_count)

-- The procedure with this ranking and this pre.
abbrev geometric : Option (Rational × Form) → Rational → TypedProcedure
geometric rank above = record nobody {
  inputs = variable_of_type 10 Ty.UInt ∷ [];
  outputs = variable_of_type 11 Ty.UInt ∷ [];
  locals = variable_of_type 12 Ty.Bool ∷ (variable_of_type 13 Ty.Bool ∷ []);
  pre = Form.sum (Form.variable 0) (constant above);
  post = Form.variable 1;
  body = Some (Acts.next (Act.set 1 (Term.number (Form.variable 0)) nowhere) (Acts.next (Act.set 2 (Term.truth (Cond.constant true)) nowhere) (only (Act.loop (head rank) turn))));
}

abbrev start : Bool → List Val
start b = Num zeroʳ ∷ (Num zeroʳ ∷ (Truth b ∷ (Truth false ∷ [])))

start_is_state : (rank : Option (Rational × Form)) (above : Rational) (b : Bool) → IsState (geometric rank above) (start b)
unfolding zeroʳ ratio leqʳ
start_is_state rank above b = (refl, (refl, (refl, (refl, refl))))

clash : (b : Bool) → b ≡ false → b ≡ true → ⊥
clash b e k = absurd (cc)

abbrev low : TypedProcedure
low = geometric None halfʳ

-- The invariant is 1 at the first test, and the pre is 1/2.
low_is_too_low : leqᵛ (forward (encoding (low ∷ []) low) (value low.post) (environment (start false)) Choices.stop) (value low.pre (environment (start false)) Choices.stop) ≡ false
unfolding maxᵛ coimpliesᵛ covalidateᵛ is_zeroʳ leqᵛ leqʳ ◌+ᵛ◌ ◌*ᵛ◌ zeroᵛ oneᵛ zeroʳ oneʳ halfʳ ◌+ʳ◌ ◌*ʳ◌ ratio gcd gcd_steps
low_is_too_low = refl

low_is_falsified : IsFalsifiedIn (low ∷ []) 0 Main (start false)
low_is_falsified =
    let s = start_is_state None halfʳ false in
    record { goal = BoundGoal.main; id_of = refl; state = s; fails = record { choices = Choices.stop; state = s; fails = λ h. clash _ low_is_too_low h.holds } }

-- A ranking that is 1 while the loop continues.
abbrev short : Rational × Form
short = (oneʳ, Form.select (Cond.flag 2) one (Form.number zeroᵛ))

-- After one iteration its expected value is 1/2, so that it is 3/2 with the step.
short_is_missed : leqᵛ (after_turn (head (Some short)) turn short (environment (start true)) Choices.stop) (value short.1 (environment (start true)) Choices.stop) ≡ false
unfolding leqᵛ leqʳ ◌+ᵛ◌ ◌*ᵛ◌ zeroᵛ oneᵛ zeroʳ oneʳ halfʳ ◌+ʳ◌ ◌*ʳ◌ ratio gcd gcd_steps
short_is_missed = refl

short_is_unranked : IsUnrankedIn (geometric (Some short) oneʳ ∷ []) 0 1 (start true)
short_is_unranked = record {
  loop = record { head = head (Some short); body = turn; rank = short; named = refl; ranked = refl };
  fails = record { choices = Choices.stop; state = start_is_state (Some short) oneʳ true; fails = λ h. clash _ short_is_missed h.holds };
}
