-- The pair that the program finds of two procedures by their numbers.
use Rattle.std.proofs.Common.{◌≡◌, ◌<◌, ℕ, sym, subst, arith, List, [], ◌∷◌, length, get_or}
use Prim.Native.Nat.{zero, suc}
use Rattle.heyvl_acts.specs.Acts.{TypedProcedure, procedure_at}
use Rattle.heyvl_acts.specs.PlainActs.{procedure_of, procedures_of}
use Rattle.heyvl_acts.specs.Rules.{Each, IsCounted, MeetsAllRules}
use Rattle.heyvl_acts.specs.declared.typed_trees.TProc.{TProc}
use Rattle.heyvl_acts.specs.declared.typed_trees.Typed.{Typed}
use Rattle.loop_encodings.proofs.exported.FromRules.{procedure_is}
use Rattle.lower_goals.specs.RemainderPairs.{IsInputBound, RemainderPair}

counted_at : (procs : List TProc) (q : ℕ) (x : TProc) → Each IsCounted procs → q < length procs → x ≡ get_or procs q x → IsCounted x
counted_at [] q x h lt is = absurd (omega (arith, lt))
counted_at (y ∷ rest) zero x h lt is = subst IsCounted (sym is) h.0
counted_at (y ∷ rest) (suc q) x h lt is = counted_at rest q x h.1 (omega (arith, lt)) is

module _ (typed : Typed) (p q : ℕ) (all : MeetsAllRules typed) (first : p < length typed.procs.items) (second : q < length typed.procs.items) (x y : TProc) (x_is : x ≡ get_or typed.procs.items p x) (y_is : y ≡ get_or typed.procs.items q y) where
  abbrev ps : List TypedProcedure
  ps = procedures_of typed

  one_is : procedure_at ps p ≡ procedure_of x
  one_is = procedure_is typed.procs.items p x first x_is

  other_is : procedure_at ps q ≡ procedure_of y
  other_is = procedure_is typed.procs.items q y second y_is

  pub first_counted : IsCounted x
  first_counted = counted_at typed.procs.items p x all.counted first x_is

  pub second_counted : IsCounted y
  second_counted = counted_at typed.procs.items q y all.counted second y_is

  pub given_bound : IsInputBound (procedure_of x) (procedure_of y) → IsInputBound (procedure_at ps p) (procedure_at ps q)
  given_bound h = subst (λ (a : TypedProcedure). IsInputBound a (procedure_at ps q)) (sym one_is) (subst (λ (b : TypedProcedure). IsInputBound (procedure_of x) b) (sym other_is) h)

  pub none_given : (IsInputBound (procedure_of x) (procedure_of y) → ⊥) → RemainderPair (procedure_at ps p) (procedure_at ps q) → ⊥
  none_given n r = n (subst (λ (a : TypedProcedure). IsInputBound a (procedure_of y)) one_is (subst (λ (b : TypedProcedure). IsInputBound (procedure_at ps p) b) other_is r.bound))
