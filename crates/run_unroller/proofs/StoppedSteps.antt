-- Steps of a list of runs, one after another, up to one that is stopped.
use Rattle.std.proofs.Common.{◌≡◌, ℕ, ◌+◌, ◌-◌, ◌≤◌, ◌<◌, ◌^◌, ap, sym, ◌∙◌, arith, List, [], ◌∷◌}
use Rattle.std.specs.Option.{option_or}
use Rattle.std.specs.Prelude.{Option, Some, None}
use Prim.Native.Nat.{zero, suc}
use Rattle.heyvl_acts.specs.Acts.{TypedProcedure}
use Rattle.heyvl_acts.specs.Rules.{Each}
use Rattle.run_machine.specs.declared.configurations.Decide.{Decide}
use Rattle.run_machine.specs.ConfigConditions.{HasRoom, IsConfig}
use Rattle.run_machine.specs.Names.{turns_of}
use Rattle.run_unroller.specs.declared.causes.Cause.{Cause}
use Rattle.run_unroller.specs.Causes.{at_step, first_stop, step_cause}
use Rattle.run_unroller.specs.RunLists.{RunList, after, after_step}
use Rattle.run_unroller.specs.internal.Growth.{AllWithin}

few_turns : (n : ℕ) (ts : List ℕ) → ((k : ℕ) → turns_of ts k ≤ n) → n < 2 ^ 31 → Each (λ t. t < 2 ^ 31) ts
few_turns n [] h l = tt
few_turns n (t ∷ ts) h l = (let a = h 1 in omega (arith, a, l), few_turns n ts (rest ts n h) l)
  where
    rest : (us : List ℕ) (m : ℕ) → ((k : ℕ) → turns_of (t ∷ us) k ≤ m) → (k : ℕ) → turns_of us k ≤ m
    rest us m g zero = omega arith
    rest us m g (suc k) = g (suc (suc k))

pub within_configs : (ps : List TypedProcedure) (n : ℕ) (rs : RunList) → AllWithin ps n rs → Each (λ x. IsConfig ps x.1) rs
within_configs ps n [] h = tt
within_configs ps n (x ∷ xs) h = (h.0.1.config, within_configs ps n xs h.1)

pub within_rooms : (ps : List TypedProcedure) (n : ℕ) (rs : RunList) → AllWithin ps n rs → n < 2 ^ 31 → Each (λ x. HasRoom x.1) rs
within_rooms ps n [] h l = tt
within_rooms ps n (x ∷ xs) h l = (record { turns = few_turns n x.1.turns h.0.1.turns l; made = let m = h.0.1.made in omega (arith, m, l) }, within_rooms ps n xs h.1 l)

stays_stopped : (ps : List TypedProcedure) (script : List Decide) (rs : RunList) (stop : Cause × ℕ) (m k : ℕ) → first_stop ps script m rs ≡ Some stop → first_stop ps script (m + k) rs ≡ Some stop
stays_stopped ps script rs stop m zero h = ap (λ n. first_stop ps script n rs) (let e : m + 0 ≡ m = omega arith in e) ∙ h
stays_stopped ps script rs stop m (suc k) h =
    ap (λ n. first_stop ps script n rs) (let e : m + suc k ≡ suc (m + k) = omega arith in e)
    ∙ ap (λ o. option_or o (at_step (suc (m + k)) (step_cause ps script (after ps script (m + k) rs)))) (stays_stopped ps script rs stop m k h)

next_stop : (ps : List TypedProcedure) (script : List Decide) (rs : RunList) (o : Option Cause) (m : ℕ) → first_stop ps script m rs ≡ None → step_cause ps script (after ps script m rs) ≡ o → first_stop ps script (suc m) rs ≡ at_step (suc m) o
next_stop ps script rs o m free e = ap (λ p. option_or p (at_step (suc m) (step_cause ps script (after ps script m rs)))) free ∙ ap (at_step (suc m)) e

pub stops : (ps : List TypedProcedure) (script : List Decide) (rs now : RunList) (cause : Cause) (m n : ℕ) → first_stop ps script m rs ≡ None → now ≡ after ps script m rs → step_cause ps script now ≡ Some cause → m < n → first_stop ps script n rs ≡ Some (cause, m + 1)
stops ps script rs now cause m n free list e l =
    ap (λ k. first_stop ps script k rs) (let h : n ≡ suc m + (n - suc m) = omega (arith, l) in h)
    ∙ stays_stopped ps script rs (cause, suc m) (suc m) (n - suc m) (next_stop ps script rs (Some cause) m free (ap (step_cause ps script) (sym list) ∙ e))
    ∙ ap (λ k. Some (cause, k)) (let h : suc m ≡ m + 1 = omega arith in h)

pub goes_on : (ps : List TypedProcedure) (script : List Decide) (rs now : RunList) (m : ℕ) → first_stop ps script m rs ≡ None → now ≡ after ps script m rs → step_cause ps script now ≡ None → first_stop ps script (m + 1) rs ≡ None
goes_on ps script rs now m free list e = ap (λ k. first_stop ps script k rs) (let h : m + 1 ≡ suc m = omega arith in h) ∙ next_stop ps script rs None m free (ap (step_cause ps script) (sym list) ∙ e)

pub one_more : (ps : List TypedProcedure) (script : List Decide) (rs now : RunList) (m : ℕ) → now ≡ after ps script m rs → after_step ps script now ≡ after ps script (m + 1) rs
one_more ps script rs now m list = ap (after_step ps script) list ∙ ap (λ k. after ps script k rs) (let h : suc m ≡ m + 1 = omega arith in h)
