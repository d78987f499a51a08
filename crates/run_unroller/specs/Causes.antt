-- Causes that stop a step of the list of runs. The runs are processed in the order of the list, the
-- outcomes of each run in their order, and the first cause counts. This project's own.
use Rattle.std.specs.Option.{option_or}
use Rattle.std.specs.Prelude.{ℕ, List, [], ◌∷◌, ◌++◌, length, map, Option, Some, None, is_some}
use Rattle.std.specs.Prelude.{nat_lt, if◌then◌else◌}
use Prim.Native.Nat.{zero, suc}
use Rattle.heyvl_num.specs.Rational.{Rational, oneʳ, ◌*ʳ◌}
use Rattle.heyvl_num.specs.Exact.{exact_product, exact_sum}
use Rattle.heyvl_acts.specs.Acts.{TypedProcedure}
use Rattle.run_machine.specs.declared.configurations.Decide.{Decide}
use Rattle.run_machine.specs.Names.{Numbered, Stored}
use Rattle.run_machine.specs.Replies.{Reply}
use Rattle.run_machine.specs.SameConfigurations.{same_stored}
use Rattle.run_machine.specs.StoredStep.{stored_reply}
use Rattle.run_unroller.specs.declared.causes.Cause.{Cause}
use Rattle.run_unroller.specs.declared.causes.Cause.TheVariants.{Full, Deep, Bits}
use Rattle.run_unroller.specs.MergedLists.{held, put}
use Rattle.run_unroller.specs.RunLists.{RunList, after}
use Rattle.run_unroller.specs.Scripts.{entry}

-- The contribution of a run to the next list: an outcome, with the weight of the run, or a cause
-- that stops the step.
pub data Brought : Type 0 where
  joins : Rational → Rational × Stored → Brought
  stops : Cause → Brought

-- The contributions of the reply to the step of a run of the weight `w`, in order.
abbrev pub brought_by : Rational → Reply → List Brought
brought_by w (Reply.next xs) = map (Brought.joins w) xs
brought_by w Reply.deep = Brought.stops Deep ∷ []
brought_by w Reply.bits = Brought.stops Bits ∷ []

-- The contributions of a run with the given items. A terminated run makes no step and contributes
-- itself with the factor 1.
abbrev pub brought : List TypedProcedure → List Decide → List Numbered → Rational → Stored
    → List Brought
brought ps script [] w c = Brought.joins w (oneʳ, c) ∷ []
brought ps script (i ∷ is) w c = brought_by w (stored_reply ps c (entry script c.made))

-- The contributions of all runs, one after another.
abbrev pub all_brought : List TypedProcedure → List Decide → RunList → List Brought
all_brought ps script [] = []
all_brought ps script (x ∷ xs) = brought ps script x.1.items x.0 x.1 ++ all_brought ps script xs

-- The cause that stops a run of the weight `w` from being added to `n` others: with an equal run in
-- the list, `Bits` if the sum of the weights overflows; without one, `Full` if `n` is at least
-- 65,536.
abbrev pub put_cause : ℕ → Rational → Option Rational → Option Cause
put_cause n w (Some v) = if is_some (exact_sum v w) then None else Some Bits
put_cause n w None = if nat_lt n 65536 then None else Some Full

-- The cause that stops an outcome from being added to a list, where its weight is the given
-- product, or nothing if the product overflows.
abbrev pub product_cause : RunList → Stored → Option Rational → Option Cause
product_cause es c None = Some Bits
product_cause es c (Some w) = put_cause (length es) w (held same_stored c es)

-- The cause that stops an outcome `x` of a run of the weight `w` from being added to the list `es`.
abbrev pub join_cause : RunList → Rational → Rational × Stored → Option Cause
join_cause es w x = product_cause es x.1 (exact_product w x.0)

-- The first cause, if `es` is the list so far. `Full` is the cause at a 65,537th run.
abbrev pub first_cause : RunList → List Brought → Option Cause
first_cause es [] = None
first_cause es (Brought.stops cause ∷ more) = Some cause
first_cause es (Brought.joins w x ∷ more) =
    option_or (join_cause es w x) (first_cause (put same_stored (w *ʳ x.0, x.1) es) more)

-- The cause that stops the next step of the list `rs`.
abbrev pub step_cause : List TypedProcedure → List Decide → RunList → Option Cause
step_cause ps script rs = first_cause [] (all_brought ps script rs)

-- The cause with the number of its step.
abbrev pub at_step : ℕ → Option Cause → Option (Cause × ℕ)
at_step n None = None
at_step n (Some cause) = Some (cause, n)

-- The first of `n` steps that is stopped, with its cause. Steps are numbered from 1.
abbrev pub first_stop : List TypedProcedure → List Decide → ℕ → RunList → Option (Cause × ℕ)
first_stop ps script zero rs = None
first_stop ps script (suc n) rs = option_or (first_stop ps script n rs)
    (at_step (suc n) (step_cause ps script (after ps script n rs)))
