-- Steps without outcomes, because one would have more than 512 values or a number overflows, and
-- small steps with outcomes.
use Rattle.std.proofs.Common.{◌≡◌, ℕ, refl, false, List, [], ◌∷◌, Some, pos}
use Rattle.std.specs.Prelude.{replicate}
use Rattle.heyvl_num.specs.Exact.{exact_sum, sum_fits}
use Rattle.heyvl_num.specs.Gcd.{gcd, gcd_steps}
use Rattle.heyvl_num.specs.Rational.{ratio, zeroʳ, ◌+ʳ◌}
use Rattle.heyvl_num.specs.Value.{zeroᵛ, ◌+ᵛ◌}
use Rattle.heyvl_num.specs.Value.Value.{finite}
use Rattle.heyvl_places.specs.declared.spans.Span.{Span}
use Rattle.heylo_formula.specs.Formula.{Form}
use Rattle.heylo_formula.specs.declared.types.Ty.{Ty}
use Rattle.heylo_formula.specs.declared.values.Val.TheVariants.{Truth}
use Rattle.heyvl_acts.specs.Acts.{Act, Acts, TypedProcedure, nobody}
use Rattle.run_machine.specs.declared.configurations.Item.TheVariants.{Do, Back}
use Rattle.run_machine.specs.BoundedStep.{Answer, bounded_step}
use Rattle.run_machine.specs.Names.{Stored, config_of}
use Rattle.run_machine.specs.Replies.{Reply}
use Rattle.run_machine.specs.Step.{Decision}
use Rattle.run_machine.specs.StoredStep.{stored_begin, stored_reply}

abbrev place : Span
place = record { from = 0; to = 0 }

abbrev number : ℕ → Form
number n = Form.number (finite (ratio (pos n) 1))

-- A procedure with `n` Boolean locals and one act.
abbrev procedure : ℕ → Act → TypedProcedure
procedure n a = record nobody { locals = replicate n (record { name = []; ty = Ty.Bool }); body = Some (Acts.next a Acts.done) }

-- ---- More than 512 values

-- A procedure that calls itself.
abbrev calls_itself : ℕ → List TypedProcedure
calls_itself n = procedure n (Act.call [] 0 [] place) ∷ []

-- The procedure has called itself once, and is about to do so again.
abbrev called_once : ℕ → Stored
called_once n = record { procedure = 0; items = Do 0 0 ∷ Back 0 0 ∷ []; state = replicate n (Truth false); frames = ([], replicate n (Truth false)) ∷ []; reward = zeroᵛ; turns = []; made = 0 }

-- With 200 locals the call would make 600 values, so there is no outcome.
deep_call : (stored_reply (calls_itself 200) (called_once 200) Decision.none ≡ Reply.deep) × (bounded_step (calls_itself 200) (config_of (calls_itself 200) (called_once 200)) Decision.none ≡ Answer.deep)
deep_call = (refl, refl)

-- With one local it makes 3 values, so there is an outcome.
call_is_not_deep : (stored_reply (calls_itself 1) (called_once 1) Decision.none ≡ Reply.deep → ⊥) × (bounded_step (calls_itself 1) (config_of (calls_itself 1) (called_once 1)) Decision.none ≡ Answer.deep → ⊥)
call_is_not_deep = ((λ e. cc), (λ e. cc))

-- ---- A number that overflows

-- A procedure that collects a reward.
abbrev collects : Form → List TypedProcedure
collects f = procedure 0 (Act.reward f place) ∷ []

abbrev first : List TypedProcedure → Stored
first ps = stored_begin ps 0 []

-- The largest number of 127 bits, plus 1.
abbrev wide : Form
wide = Form.sum (number 170141183460469231731687303715884105727) (number 1)

-- The step of a reward that overflows has no outcome.
wide_reward : (stored_reply (collects wide) (first (collects wide)) Decision.none ≡ Reply.bits) × (bounded_step (collects wide) (config_of (collects wide) (first (collects wide))) Decision.none ≡ Answer.bits)
unfolding ratio gcd gcd_steps exact_sum sum_fits
wide_reward = (refl, refl)

-- The step of a reward of 1 has an outcome.
reward_is_not_wide : (stored_reply (collects (number 1)) (first (collects (number 1))) Decision.none ≡ Reply.bits → ⊥) × (bounded_step (collects (number 1)) (config_of (collects (number 1)) (first (collects (number 1)))) Decision.none ≡ Answer.bits → ⊥)
unfolding ratio gcd gcd_steps exact_sum sum_fits zeroʳ zeroᵛ ◌+ʳ◌ ◌+ᵛ◌
reward_is_not_wide = ((λ e. cc), (λ e. cc))
