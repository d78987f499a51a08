-- The requirements of the laws of lower bounds, at `d = false`, and then
--   `while !d { d = flip(1/2) }`.
-- The procedure satisfies the static rules, and 0 is an omega invariant and a bound.
use Rattle.std.proofs.Common.{◌≡◌, ◌∙◌, ◌⊎◌, ◌≤◌, ◌<◌, inl, inr, ap, refl, ℕ, suc, zero, Bool, true, false, List, [], ◌∷◌, leb, ◌==◌, ◌||◌, arith}
use Rattle.std.specs.Prelude.{Some, None, not, if◌then◌else◌}
use Rattle.std.proofs.lemmas.Bool.Decides.{leb_tells}
use Rattle.heyvl_num.specs.Rational.{Rational, ratio, zeroʳ, oneʳ, halfʳ, leqʳ, ◌≤ʳ◌, ◌+ʳ◌, ◌*ʳ◌}
use Rattle.heyvl_num.specs.Value.{Value, zeroᵛ, oneᵛ, leqᵛ, ◌+ᵛ◌, ◌*ᵛ◌, ◌≤ᵛ◌}
use Rattle.heyvl_num.specs.Value.Value.{finite, infinite}
use Rattle.heyvl_num.proofs.exported.Rationals.{+ʳ-zero}
use Rattle.heyvl_num.proofs.exported.Signs.{halves}
use Rattle.heyvl_num.proofs.exported.WeightedSums.{total_weight-cons, total_weight-empty}
use Rattle.heyvl_places.specs.declared.spans.Span.{Span}
use Rattle.heylo_formula.specs.Choices.{Choices}
use Rattle.heylo_formula.specs.Formula.{Form, Cond, Term}
use Rattle.heylo_formula.specs.Meaning.{value}
use Rattle.heylo_formula.specs.State.{environment, get, truth_of}
use Rattle.heylo_formula.specs.Typing.{types_in}
use Rattle.heylo_formula.specs.declared.types.Ty.{Ty}
use Rattle.heylo_formula.specs.declared.values.Val.{Val}
use Rattle.heyvl_acts.specs.Acts.{Head, Act, Acts, TypedProcedure}
use Rattle.heyvl_acts.specs.Forward.{forward}
use Rattle.heyvl_acts.specs.Rules.{Each, MeetsRules, WeighsOne}
use Rattle.heyvl_acts.specs.Upward.{upward}
use Rattle.heyvl_acts.specs.WellTypedActs.{IsHeld}
use Rattle.lower_goals.specs.OneLoop.{OneLoop}
use Rattle.lower_rules.specs.Omega.{IsOmega}
use Rattle.run_laws.specs.RuledConfigurations.{ConfigFits}
use Rattle.run_laws.proofs.exported.RuledRuns.{runs_fit, sum_from_zero}
use Rattle.run_machine.specs.Bound.{Bound, IsState, RankedBy}
use Rattle.run_machine.specs.Configurations.{Item, begin}
use Rattle.run_machine.specs.Runs.{runs}
use Rattle.run_machine.specs.Sums.{ended, worth}

abbrev place : Span
place = record { from = 0; to = 0 }

abbrev truth : Bool → Term
truth b = Term.truth (Cond.constant b)

abbrev flip : Act
flip = Act.draw 0 ((halfʳ, truth true) ∷ (halfʳ, truth false) ∷ []) place

abbrev set_false : Act
set_false = Act.set 0 (truth false) place

abbrev front : Acts
front = Acts.next set_false Acts.done

abbrev body : Acts
body = Acts.next flip Acts.done

abbrev head : Head
head = record { number = 1; k = 1; inv = Form.number oneᵛ; guard = Cond.not (Cond.flag 0); rank = None; scope = 0 ∷ []; span = place }

abbrev post : Form
post = Form.iverson (Cond.flag 0)

abbrev zero_form : Form
zero_form = Form.number zeroᵛ

-- The procedure, whose pre is 0.
abbrev two : TypedProcedure
two = record { name = []; co = false; weak = true; inputs = []; outputs = record { name = 1 ∷ []; ty = Ty.Bool } ∷ []; locals = []; pre = zero_form; post = post; body = Some (Acts.next set_false (Acts.next (Act.loop head body) Acts.done)); loops = 1; span = place }

abbrev file : List TypedProcedure
file = two ∷ []

half_from_zero : zeroʳ ≤ʳ halfʳ
unfolding halfʳ zeroʳ ratio leqʳ
half_from_zero = record { holds = refl }

halves_weigh_one : WeighsOne flip
halves_weigh_one = total_weight-cons halfʳ (truth true) _ ∙ (ap (λ w. halfʳ +ʳ w) (total_weight-cons halfʳ (truth false) [] ∙ (ap (λ w. halfʳ +ʳ w) (total_weight-empty Term) ∙ +ʳ-zero halfʳ)) ∙ halves)

zero_held : IsHeld (types_in []) zero_form
unfolding zeroᵛ zeroʳ ratio leqʳ
zero_held = (refl, refl)

one_held : IsHeld (types_in (Ty.Bool ∷ [])) (Form.number oneᵛ)
unfolding oneᵛ oneʳ zeroʳ ratio leqʳ
one_held = (refl, refl)

-- Only the first variable is visible.
only_first : (y : ℕ) → ((0 == y) || leb (suc y) 1) ≡ ((0 == y) || false)
only_first zero = refl
only_first (suc y) = ap (λ b. (0 == suc y) || b) (go (leb_tells (suc (suc y)) 1))
  where
    go : ((leb (suc (suc y)) 1 ≡ true) × (suc (suc y) ≤ 1)) ⊎ ((leb (suc (suc y)) 1 ≡ false) × (1 < suc (suc y))) → leb (suc (suc y)) 1 ≡ false
    go (inl e) = absurd (let l = e.1 in omega arith)
    go (inr e) = e.0

two_meets : MeetsRules file two
two_meets = record {
  few_parameters = omega arith;
  few_variables = omega arith;
  few_statements = omega arith;
  weak_is_proc = λ e. refl;
  pre = zero_held;
  pre_over = λ y e. absurd (cc);
  post = refl;
  post_over = λ y e. grind arith;
  post_directed = refl;
  targets = (record { no_input = omega arith; below = omega arith }, (tt, (record { no_input = omega arith; below = omega arith }, tt)));
  typed = ((refl, refl), (record { inv = one_held; guard = refl; rank = tt }, (((half_from_zero, (refl, refl)), ((half_from_zero, (refl, refl)), tt)), tt)));
  weights = (tt, (tt, (halves_weigh_one, tt)));
  directions = (tt, (tt, (tt, tt)));
  binders = ((λ e. absurd (cc)), ((λ e. absurd (cc)), ((λ e. absurd (cc)), tt)));
  scopes = ((λ y e. absurd (cc)), ((only_first, (((λ y e. absurd (cc)), ((λ y e. grind arith), tt)), (((λ y e. absurd (cc)), ((λ y e. absurd (cc)), tt)), tt))), tt));
  loops = (tt, (record { some_copy = omega arith; few_copies = omega arith; scope = ((omega arith, omega arith), tt); ranked = tt; nothing_against = (refl, tt) }, (tt, tt)));
  numbered = refl;
}

one_loop : OneLoop two
one_loop = record { front = front; head = head; body = body; behind = Acts.done; is = record { whole = refl; plain_front = (tt, tt); plain_body = (tt, tt); plain_behind = tt; weak = refl; program = refl } }

base_at : (b : Bool) → zeroᵛ ≤ᵛ (if not b then zeroᵛ else (if b then oneᵛ else zeroᵛ))
unfolding leqᵛ leqʳ zeroᵛ oneᵛ zeroʳ oneʳ ratio
base_at true = record { holds = refl }
base_at false = record { holds = refl }

turn_at : (b : Bool) → zeroᵛ ≤ᵛ (if not b then (finite halfʳ *ᵛ zeroᵛ) +ᵛ (finite halfʳ *ᵛ zeroᵛ) else (if b then oneᵛ else zeroᵛ))
unfolding leqᵛ leqʳ ◌+ᵛ◌ ◌*ᵛ◌ zeroᵛ oneᵛ zeroʳ oneʳ halfʳ ◌+ʳ◌ ◌*ʳ◌ ratio
turn_at true = record { holds = refl }
turn_at false = record { holds = refl }

-- The file satisfies the static rules and 0 is an omega invariant, as `OmegaBoundsRuns` requires.
zero_is_an_invariant : Each (MeetsRules file) file × IsOmega two head body Acts.done zero_form
zero_is_an_invariant = ((two_meets, tt), record { base = λ s c typed. base_at (truth_of (get 0 s)); turn = λ s c m typed. turn_at (truth_of (get 0 s)) })

at_most_infinity : (v : Value) → v ≤ᵛ infinite
unfolding leqᵛ
at_most_infinity (finite x) = record { holds = refl }
at_most_infinity infinite = record { holds = refl }

at_most_one : (b : Bool) → (if b then oneᵛ else zeroᵛ) ≤ᵛ oneᵛ
unfolding leqᵛ leqʳ zeroᵛ oneᵛ zeroʳ oneʳ ratio
at_most_one true = record { holds = refl }
at_most_one false = record { holds = refl }

at_least_zero : (b : Bool) → zeroᵛ ≤ᵛ (if b then oneᵛ else zeroᵛ)
unfolding leqᵛ leqʳ zeroᵛ oneᵛ zeroʳ oneʳ ratio
at_least_zero true = record { holds = refl }
at_least_zero false = record { holds = refl }

ended_from_zero : (is : List Item) (s : List Val) → zeroᵛ ≤ᵛ ended false post is s
ended_from_zero [] s = at_least_zero (truth_of (get 0 s))
ended_from_zero (i ∷ is) s = at_least_zero true

begins_fit : (s : List Val) → IsState two s → ConfigFits file 0 (begin file 0 s)
begins_fit s typed = record { here = refl; frames = tt; items = (((((record { no_input = omega arith; below = omega arith }), (refl, refl)), tt), tt), (((((tt, record { inv = one_held; guard = refl; rank = tt }), tt), ((((record { no_input = omega arith; below = omega arith }), ((half_from_zero, (refl, refl)), ((half_from_zero, (refl, refl)), tt))), halves_weigh_one), tt)), tt))); state = typed }

zero_bounds : Bound file 0
zero_bounds s typed n t = sum_from_zero (worth false post) (ConfigFits file 0) (λ c fits. ended_from_zero c.items c.state) (runs file n (begin file 0 s) t) (runs_fit file (two_meets, tt) 0 n (begin file 0 s) t (begins_fit s typed))

-- The ranking that is infinite in each state.
abbrev infinitely : Rational × Form
infinitely = (oneʳ, Form.number infinite)

-- 0 is a bound, the post is at most 1, and infinity ranks the loop and bounds the ranking before
-- the loop, as `RemainderBoundsRuns` requires.
infinity_ranks : (Bound file 0 × ((s : List Val) → IsState two s → value post (environment s) Choices.stop ≤ᵛ oneᵛ)) × (RankedBy file 0 head body infinitely × ((s : List Val) (c : Choices) → forward (upward front) (value (Form.number infinite)) (environment s) c ≤ᵛ infinite))
infinity_ranks = ((zero_bounds, λ s typed. at_most_one (truth_of (get 0 s))), ((λ s typed n t. at_most_infinity _), λ s c. at_most_infinity _))
