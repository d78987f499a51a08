-- Files that differ only in places have the same states, sums and bounds.
use Prim.Native.Nat.{suc, zero}
use Rattle.heylo_formula.specs.declared.types.Ty.{Ty}
use Rattle.heylo_formula.specs.State.{IsTyped}
use Rattle.heyvl_acts.specs.Acts.{TypedProcedure, procedure_at, type_list, variables}
use Rattle.static_rules.specs.Files.{resolved}
use Rattle.placeless_files.proofs.PlacelessProcedures.{same_procedures}
use Rattle.placeless_files.specs.PlacelessRuns.{BoundsIgnorePlaces, StatesIgnorePlaces, SumsIgnorePlaces}
use Rattle.run_laws.specs.Bare.{bare_procedures}
use Rattle.run_laws.specs.Violations.{RulesDoNotRun, SumsAreBare}
use Rattle.run_machine.specs.Configurations.{begin}
use Rattle.run_machine.specs.Runs.{runs}
use Rattle.run_machine.specs.Sums.{sum_of}
use Rattle.std.proofs.Common.{List, [], ap, refl, subst, sym, ◌∙◌, ◌∷◌, ◌≡◌, ℕ}

abbrev types_at : List TypedProcedure → ℕ → List Ty
types_at ps p = type_list (variables (procedure_at ps p))

bare_types : (ps : List TypedProcedure) (p : ℕ) → types_at (bare_procedures ps) p ≡ types_at ps p
bare_types [] p = refl
bare_types (q ∷ ps) zero = refl
bare_types (q ∷ ps) (suc p) = bare_types ps p

pub same_states : StatesIgnorePlaces
same_states file other e p s h =
    subst (λ (tys : List Ty). IsTyped tys s) (sym (bare_types (resolved file) p) ∙ (ap (λ ps. types_at ps p) (same_procedures file other e) ∙ bare_types (resolved other) p)) h

pub same_sums : SumsAreBare → SumsIgnorePlaces
same_sums bare file other e up p n s t =
    bare (resolved file) up p n s t
    ∙ (ap (λ ps. sum_of up (procedure_at ps p).post (runs ps n (begin ps p s) t)) (same_procedures file other e)
    ∙ sym (bare (resolved other) up p n s t))

pub same_bounds : RulesDoNotRun → BoundsIgnorePlaces
same_bounds carry file other e p h = carry (resolved other) (resolved file) (sym (same_procedures file other e)) p h
