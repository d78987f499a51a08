-- Worked rows of the laws, and of changes that would make them false, computed by evaluating the
-- definitions.
use Rattle.std.proofs.Common.{◌≡◌, ℕ, refl, true, false, List, [], ◌∷◌, Some, None, pos}
use Rattle.std.specs.Prelude.{ℤ}
use Rattle.heyvl_num.specs.Gcd.{gcd, gcd_steps}
use Rattle.heyvl_num.specs.Rational.{Rational, ratio, zeroʳ, oneʳ, halfʳ, leqʳ, compareʳ, ◌+ʳ◌, ◌*ʳ◌}
use Rattle.heyvl_num.specs.Value.{Value, zeroᵛ, oneᵛ, ◌+ᵛ◌, ◌*ᵛ◌, infinite_times, is_zeroʳ, leqᵛ}
use Rattle.heyvl_num.specs.Value.Value.{finite, infinite}
use Rattle.heyvl_num.specs.WeightedSums.{weighted_sum, scaled}
use Rattle.heyvl_places.specs.declared.spans.Span.{Span}
use Rattle.heylo_formula.specs.Formula.{Form, Cond, Term}
use Rattle.heylo_formula.specs.declared.types.Ty.{Ty}
use Rattle.heylo_formula.specs.declared.values.Val.TheVariants.{Truth}
use Rattle.heyvl_acts.specs.Acts.{Head, Act, Acts, Variable, TypedProcedure}
use Rattle.run_machine.specs.Configurations.{begin}
use Rattle.run_machine.specs.Runs.{runs}
use Rattle.run_machine.specs.Scheduler.{Tree}
use Rattle.run_machine.specs.Sums.{sum_of}
use Rattle.run_laws.specs.Bare.{bare_head, bare_procedures}

-- The numerator and the denominator of a value; 1 and 0 for infinity.
abbrev parts : Value → ℤ × ℕ
parts (finite x) = (x.num, x.den)
parts infinite = (pos 1, 0)

abbrev number : ℕ → Form
number n = Form.number (finite (ratio (pos n) 1))

abbrev truth : Term
truth = Term.truth (Cond.constant true)

abbrev place : ℕ → Span
place n = record { from = n; to = n }

abbrev acts : List Act → Acts
acts [] = Acts.done
acts (a ∷ rest) = Acts.next a (acts rest)

abbrev bool : Variable
bool = record { name = []; ty = Ty.Bool }

-- A coproc with one Bool output, whose post is 2.
abbrev procedure : List Act → TypedProcedure
procedure body = record { name = []; co = true; weak = false; inputs = []; outputs = bool ∷ []; locals = []; pre = number 0; post = number 2; body = Some (acts body); loops = 1; span = place 0 }

abbrev sum_after : ℕ → TypedProcedure → ℤ × ℕ
sum_after n p = parts (sum_of true p.post (runs (p ∷ []) n (begin (p ∷ []) 0 (Truth true ∷ [])) Tree.leaf))

-- ---- A loop that collects 1 in each iteration

abbrev collecting : Head → TypedProcedure
collecting h = procedure (Act.loop h (acts (Act.reward (number 1) (place 9) ∷ [])) ∷ [])

abbrev plain : Cond → Head
plain g = record { number = 1; k = 1; inv = number 0; guard = g; rank = None; scope = []; span = place 3 }

abbrev while_b : Head
while_b = plain (Cond.flag 0)

-- Other copies, another invariant, a ranking and another place.
abbrev with_rules : Head
with_rules = record { number = 1; k = 5; inv = number 7; guard = Cond.flag 0; rank = Some (oneʳ, number 4); scope = []; span = place 20 }

rules_differ_alone : bare_procedures (collecting while_b ∷ []) ≡ bare_procedures (collecting with_rules ∷ [])
rules_differ_alone = refl

one_turn : sum_after 2 (collecting while_b) ≡ (pos 1, 1)
unfolding runs weighted_sum scaled ratio gcd gcd_steps zeroʳ oneʳ zeroᵛ oneᵛ ◌+ʳ◌ ◌*ʳ◌ ◌+ᵛ◌ ◌*ᵛ◌ infinite_times is_zeroʳ leqʳ leqᵛ compareʳ
one_turn = refl

one_turn_with_rules : sum_after 2 (collecting with_rules) ≡ (pos 1, 1)
unfolding runs weighted_sum scaled ratio gcd gcd_steps zeroʳ oneʳ zeroᵛ oneᵛ ◌+ʳ◌ ◌*ʳ◌ ◌+ᵛ◌ ◌*ᵛ◌ infinite_times is_zeroʳ leqʳ leqᵛ compareʳ
one_turn_with_rules = refl

-- If the guard counted as a rule of a loop, files with other sums would differ only in rules.
abbrev without_guard : Head → Head
without_guard h = record (bare_head h) { guard = Cond.constant true }

guards_alone_differ : without_guard while_b ≡ without_guard (plain (Cond.not (Cond.flag 0)))
guards_alone_differ = refl

no_turn : sum_after 2 (collecting (plain (Cond.not (Cond.flag 0)))) ≡ (pos 2, 1)
unfolding runs weighted_sum scaled ratio gcd gcd_steps zeroʳ oneʳ zeroᵛ oneᵛ ◌+ʳ◌ ◌*ʳ◌ ◌+ᵛ◌ ◌*ᵛ◌ infinite_times is_zeroʳ leqʳ leqᵛ compareʳ
no_turn = refl

-- ---- A step whose weights have a sum below 1 loses a part of the reward

abbrev drawing : List (Rational × Term) → TypedProcedure
drawing qs = procedure (Act.reward (number 6) (place 1) ∷ Act.draw 0 qs (place 2) ∷ Act.set 0 truth (place 3) ∷ [])

collected_first : sum_after 1 (drawing ((halfʳ, truth) ∷ [])) ≡ (pos 6, 1)
unfolding runs weighted_sum scaled halfʳ ratio gcd gcd_steps zeroʳ oneʳ zeroᵛ oneᵛ ◌+ʳ◌ ◌*ʳ◌ ◌+ᵛ◌ ◌*ᵛ◌ infinite_times is_zeroʳ leqʳ leqᵛ compareʳ
collected_first = refl

half_is_lost : sum_after 2 (drawing ((halfʳ, truth) ∷ [])) ≡ (pos 3, 1)
unfolding runs weighted_sum scaled halfʳ ratio gcd gcd_steps zeroʳ oneʳ zeroᵛ oneᵛ ◌+ʳ◌ ◌*ʳ◌ ◌+ᵛ◌ ◌*ᵛ◌ infinite_times is_zeroʳ leqʳ leqᵛ compareʳ
half_is_lost = refl

nothing_is_lost : sum_after 2 (drawing ((halfʳ, truth) ∷ (halfʳ, truth) ∷ [])) ≡ (pos 6, 1)
unfolding runs weighted_sum scaled halfʳ ratio gcd gcd_steps zeroʳ oneʳ zeroᵛ oneᵛ ◌+ʳ◌ ◌*ʳ◌ ◌+ᵛ◌ ◌*ᵛ◌ infinite_times is_zeroʳ leqʳ leqᵛ compareʳ
nothing_is_lost = refl

post_is_added : sum_after 3 (drawing ((halfʳ, truth) ∷ (halfʳ, truth) ∷ [])) ≡ (pos 8, 1)
unfolding runs weighted_sum scaled halfʳ ratio gcd gcd_steps zeroʳ oneʳ zeroᵛ oneᵛ ◌+ʳ◌ ◌*ʳ◌ ◌+ᵛ◌ ◌*ᵛ◌ infinite_times is_zeroʳ leqʳ leqᵛ compareʳ
post_is_added = refl
