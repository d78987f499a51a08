-- Sums under scripts on worked rows: they do not decrease if entries go by the number of decisions,
-- but may if they went by the number of remaining steps.
use Rattle.std.proofs.Common.{◌≡◌, ℕ, refl, true, false, List, [], ◌∷◌, Some, pos}
use Rattle.std.specs.Prelude.{ℤ}
use Prim.Native.Nat.{zero, suc}
use Rattle.heyvl_num.specs.Gcd.{gcd, gcd_steps}
use Rattle.heyvl_num.specs.Rational.{ratio, zeroʳ, oneʳ, leqʳ, compareʳ, ◌+ʳ◌, ◌*ʳ◌}
use Rattle.heyvl_num.specs.Value.{Value, zeroᵛ, oneᵛ, ◌+ᵛ◌, ◌*ᵛ◌, infinite_times, is_zeroʳ, leqᵛ}
use Rattle.heyvl_num.specs.Value.Value.{finite, infinite}
use Rattle.heyvl_num.specs.WeightedSums.{weighted_sum, scaled}
use Rattle.heyvl_places.specs.declared.spans.Span.{Span}
use Rattle.heylo_formula.specs.Formula.{Form, Cond}
use Rattle.heylo_formula.specs.declared.types.Ty.{Ty}
use Rattle.heylo_formula.specs.declared.values.Val.TheVariants.{Truth}
use Rattle.heyvl_acts.specs.Acts.{Act, Acts, TypedProcedure}
use Rattle.run_machine.specs.Configurations.{Config, begin}
use Rattle.run_machine.specs.Runs.{runs}
use Rattle.run_machine.specs.Scheduler.{Tree}
use Rattle.run_machine.specs.Step.{step}
use Rattle.run_machine.specs.Sums.{sum_of}
use Rattle.run_machine.specs.declared.configurations.Decide.{Decide}
use Rattle.run_machine.specs.declared.configurations.Decide.TheVariants.{Give}
use Rattle.run_unroller.specs.ScriptTrees.{forest, scripted}
use Rattle.run_unroller.specs.Scripts.{entry}

abbrev parts : Value → ℤ × ℕ
parts (finite x) = (x.num, x.den)
parts infinite = (pos 1, 0)

abbrev place : Span
place = record { from = 0; to = 0 }

-- An output that takes any value; the post is 1 if it is true.
abbrev guessed : TypedProcedure
guessed = record { name = []; co = true; weak = false; inputs = []; outputs = record { name = []; ty = Ty.Bool } ∷ []; locals = []; pre = Form.number zeroᵛ; post = Form.iverson (Cond.flag 0); body = Some (Acts.next (Act.any 0 true Ty.Bool place) Acts.done); loops = 0; span = place }

abbrev start : Config
start = begin (guessed ∷ []) 0 (Truth false ∷ [])

abbrev guesses : List Decide
guesses = Give (Truth true) ∷ Give (Truth false) ∷ []

abbrev sum_by : Tree → ℕ → ℤ × ℕ
sum_by t n = parts (sum_of true guessed.post (runs (guessed ∷ []) n start t))

by_decisions_one : sum_by (scripted (guessed ∷ []) guesses 1 0 start) 1 ≡ (pos 1, 1)
unfolding runs weighted_sum scaled ratio gcd gcd_steps zeroʳ oneʳ zeroᵛ oneᵛ ◌+ʳ◌ ◌*ʳ◌ ◌+ᵛ◌ ◌*ᵛ◌ infinite_times is_zeroʳ leqʳ leqᵛ compareʳ
by_decisions_one = refl

by_decisions_two : sum_by (scripted (guessed ∷ []) guesses 2 0 start) 2 ≡ (pos 1, 1)
unfolding runs weighted_sum scaled ratio gcd gcd_steps zeroʳ oneʳ zeroᵛ oneᵛ ◌+ʳ◌ ◌*ʳ◌ ◌+ᵛ◌ ◌*ᵛ◌ infinite_times is_zeroʳ leqʳ leqᵛ compareʳ
by_decisions_two = refl

-- If the entry were that of the remaining steps, one more step would take another entry, and the
-- sum would decrease.
abbrev shifted : ℕ → Config → Tree
shifted zero c = Tree.leaf
shifted (suc n) c = Tree.node (entry guesses n) (forest (shifted n) (step (guessed ∷ []) c (entry guesses n)))

by_steps_one : sum_by (shifted 1 start) 1 ≡ (pos 1, 1)
unfolding runs weighted_sum scaled ratio gcd gcd_steps zeroʳ oneʳ zeroᵛ oneᵛ ◌+ʳ◌ ◌*ʳ◌ ◌+ᵛ◌ ◌*ᵛ◌ infinite_times is_zeroʳ leqʳ leqᵛ compareʳ
by_steps_one = refl

by_steps_two : sum_by (shifted 2 start) 2 ≡ (pos 0, 1)
unfolding runs weighted_sum scaled ratio gcd gcd_steps zeroʳ oneʳ zeroᵛ oneᵛ ◌+ʳ◌ ◌*ʳ◌ ◌+ᵛ◌ ◌*ᵛ◌ infinite_times is_zeroʳ leqʳ leqᵛ compareʳ
by_steps_two = refl
