-- Numbers of steps after which a sum cannot be compared with the pre, because a number overflows.
-- This project's own.
use Rattle.std.specs.Prelude.{◌≡◌, ◌+◌, ℕ, Option, Some, None}
use Rattle.heyvl_num.specs.ExactValues.{exact_orderᵛ, exact_sumᵛ}
use Rattle.heyvl_num.specs.Value.{Value}
use Rattle.refute_runs.specs.SumsAfter.{IsSum, Unrollings}
use Rattle.run_unroller.specs.Totals.{Totals}
use Rattle.run_unroller.specs.Unrolling.{Unrolling, unrolling_of}
use Rattle.run_unroller.specs.declared.answers.Unrolled.TheVariants as unrolled

-- After `s` steps one of four numbers overflows: one in adding the sums, one in the pre, the sum of
-- the reward and the post, or one in the comparison of this sum with the pre.
pub data IsShort (us : Unrollings) (pre : Option Value) (s : ℕ) : Type 0 where
  final_adding : us s ≡ unrolling_of (unrolled.Bits (s + 1)) → IsShort us pre s
  no_pre : pre ≡ None → IsShort us pre s
  no_sum : (t : Totals) → us s ≡ Unrolling.sums t → exact_sumᵛ t.reward t.post ≡ None
      → IsShort us pre s
  no_order : (sum bound : Value) → IsSum us s sum → pre ≡ Some bound → exact_orderᵛ bound sum ≡ None
      → IsShort us pre s
