-- The start of a run: its procedure, and the first state.
use Prim.Native.Nat.{suc, zero}
use Rattle.heylo_formula.specs.declared.values.Val.{Val}
use Rattle.command_rules.specs.RunStarts.{IsFirstNoProgram}
use Rattle.command_rules.specs.commands.Run.{runs_by}
use Rattle.run_script.proofs.exported.StartStates.{start_typed}
use Rattle.run_script.specs.Scripts.{Script}
use Rattle.run_script.specs.Starts.{start_state}
use Rattle.run_script.specs.declared.scripts.Setting.{Setting}
use Rattle.heyvl_acts.specs.Acts.{TypedProcedure, procedure_at}
use Rattle.heyvl_acts.specs.Program.{IsProgram, why_no_program}
use Rattle.heyvl_acts.specs.PlainActs.{procedure_of}
use Rattle.heyvl_acts.specs.Rules.{Each, GrowBelow, IsCounted}
use Rattle.heyvl_acts.specs.declared.typed_trees.TProc.{TProc}
use Rattle.heyvl_acts.specs.Visible.{among}
use Rattle.proc_contracts.specs.ReachedProcedures.{AreReached}
use Rattle.run_machine.specs.Bound.{IsState}
use Rattle.run_machine.specs.ConfigConditions.{IsConfig, ReachesPrograms}
use Rattle.run_machine.specs.Names.{Stored}
use Rattle.run_machine.specs.StoredStep.{stored_begin}
use Rattle.run_machine.specs.declared.configurations.Decide.{Decide}
use Rattle.run_unroller.specs.RunLists.{begun}
use Rattle.run_unroller.specs.Unrolling.{Begins, Unrolling, unrolled}
use Rattle.std.proofs.Common.{Bool, IfSome, List, MatchOption, None, Option, Some, [], ap, arith, false, get_or, inl, inr, is_some, length, map, refl, subst, sym, true, ◌<◌, ◌==◌, ◌||◌, ◌∙◌, ◌∷◌, ◌≡◌, ◌≢◌, ◌≤◌, ◌⊎◌, ℕ}
use Rattle.std.proofs.lemmas.Bool.Decides.{eqb_tells, nat_tests}
use Rattle.std.proofs.lemmas.List.Elements.{All-cons, All-nil}
use Rattle.std.specs.List.{All, find}

-- ---- Programs

abbrev bad : List TypedProcedure → ℕ → Bool
bad ps q = is_some (why_no_program (procedure_at ps q))

good_is_program : (ps : List TypedProcedure) (q : ℕ) → bad ps q ≡ false → IsProgram (procedure_at ps q)
good_is_program ps q e = none (why_no_program (procedure_at ps q)) e
  where
    none : {A : Type 0} (o : Option A) → is_some o ≡ false → o ≡ None
    none None e = refl
    none (Some a) e = cc

bad_is_none : (ps : List TypedProcedure) (q : ℕ) → bad ps q ≡ true → IsProgram (procedure_at ps q) → ⊥
bad_is_none ps q e is = let no : is_some (why_no_program (procedure_at ps q)) ≡ false = rw is refl in cc

from_on : (from below : ℕ) (xs : List ℕ) → GrowBelow from below xs → (r : ℕ) → among xs r ≡ true → from ≤ r
from_on from below [] h r e = cc
from_on from below (x ∷ xs) h r e = pick (eqb_tells x r) (λ there. from_on (suc x) below xs h.1 r there)
  where
    pick : ((x == r) ≡ true) × (x ≡ r) ⊎ ((x == r) ≡ false) × (x ≢ r) → (among xs r ≡ true → suc x ≤ r) → from ≤ r
    pick (inl k) later = let low = h.0.0 in omega (arith, k.1)
    pick (inr k) later = let there : among xs r ≡ true = rw k.0 at e in let low = h.0.0 in omega (arith, later there)

same_number : (x : ℕ) → (x == x) ≡ true
same_number x = grind (arith, nat_tests)

either_true : (a b : Bool) → b ≡ true → (a || b) ≡ true
either_true true b e = refl
either_true false b e = e

abbrev IsFound : List TypedProcedure → List ℕ → ℕ → Type 0
IsFound ps xs q = (among xs q ≡ true) × ((bad ps q ≡ true) × ((r : ℕ) → r < q → among xs r ≡ true → bad ps r ≡ false))

found_first : (ps : List TypedProcedure) (from below : ℕ) (xs : List ℕ) → GrowBelow from below xs → (q : ℕ) → find (bad ps) xs ≡ Some q → IsFound ps xs q
found_first ps from below [] h q e = cc
found_first ps from below (x ∷ xs) h q e = pick (bad ps x) refl (λ later. found_first ps (suc x) below xs h.1 q later)
  where
    earlier : bad ps x ≡ false → (r : ℕ) → among (x ∷ xs) r ≡ true → ((x == r) ≡ true) × (x ≡ r) ⊎ ((x == r) ≡ false) × (x ≢ r) → (among xs r ≡ true → bad ps r ≡ false) → bad ps r ≡ false
    earlier k r there (inl m) others = subst (λ z. bad ps z ≡ false) m.1 k
    earlier k r there (inr m) others = others (rw m.0 at there)

    not_before : (r : ℕ) → r < x → among (x ∷ xs) r ≡ true → bad ps r ≡ false
    not_before r lt there = let low = from_on x below (x ∷ xs) ((omega arith, h.0.1), h.1) r there in absurd (omega arith)

    pick : (b : Bool) → bad ps x ≡ b → (find (bad ps) xs ≡ Some q → IsFound ps xs q) → IsFound ps (x ∷ xs) q
    pick true k rest =
        let here : Some x ≡ Some q = rw k at e in
        let same : x ≡ q = cc in
        subst (λ z. IsFound ps (x ∷ xs) z) same (rw (same_number x) refl, (k, not_before))
    pick false k rest =
        let later : find (bad ps) xs ≡ Some q = rw k at e in
        let found = rest later in
        (either_true (x == q) (among xs q) found.0, (found.1.0, λ r lt there. earlier k r there (eqb_tells x r) (found.1.1 r lt)))

none_bad : (ps : List TypedProcedure) (xs : List ℕ) → find (bad ps) xs ≡ None → (r : ℕ) → among xs r ≡ true → bad ps r ≡ false
none_bad ps [] e r there = cc
none_bad ps (x ∷ xs) e r there = pick (bad ps x) refl (λ later more. none_bad ps xs later r more)
  where
    place : bad ps x ≡ false → ((x == r) ≡ true) × (x ≡ r) ⊎ ((x == r) ≡ false) × (x ≢ r) → (among xs r ≡ true → bad ps r ≡ false) → bad ps r ≡ false
    place k (inl m) rest = subst (λ z. bad ps z ≡ false) m.1 k
    place k (inr m) rest = rest (rw m.0 at there)

    pick : (b : Bool) → bad ps x ≡ b → (find (bad ps) xs ≡ None → among xs r ≡ true → bad ps r ≡ false) → bad ps r ≡ false
    pick true k rest = let no : Some x ≡ None = rw k at e in cc
    pick false k rest = place k (eqb_tells x r) (rest (rw k at e))

pub first_or_programs : (ps : List TypedProcedure) (p : ℕ) (xs : List ℕ) (found : Option ℕ) → AreReached ps p xs → bad ps p ≡ false → found ≡ find (bad ps) xs → MatchOption found (ReachesPrograms ps p) (λ q. IsFirstNoProgram ps p q)
first_or_programs ps p xs None reached self e =
    record {
      itself = good_is_program ps p self;
      reached = λ r reaches. good_is_program ps r (none_bad ps xs (sym e) r (reached.all r reaches));
    }
first_or_programs ps p xs (Some q) reached self e =
    let first = found_first ps 0 (length ps) xs reached.growing q (sym e) in
    IsFirstNoProgram.reached q (good_is_program ps p self) (reached.only q first.0) (bad_is_none ps q first.1.0) (λ r lt reaches. good_is_program ps r (first.1.1 r lt (reached.all r reaches)))

pub itself_bad : (ps : List TypedProcedure) (p : ℕ) → bad ps p ≡ true → IsFirstNoProgram ps p p
itself_bad ps p e = IsFirstNoProgram.itself (bad_is_none ps p e)

below_all : (from below : ℕ) (xs : List ℕ) → GrowBelow from below xs → (r : ℕ) → among xs r ≡ true → r < below
below_all from below [] h r e = cc
below_all from below (x ∷ xs) h r e = pick (eqb_tells x r) (λ there. below_all (suc x) below xs h.1 r there)
  where
    pick : ((x == r) ≡ true) × (x ≡ r) ⊎ ((x == r) ≡ false) × (x ≢ r) → (among xs r ≡ true → r < below) → r < below
    pick (inl k) rest = subst (λ z. z < below) k.1 h.0.1
    pick (inr k) rest = rest (rw k.0 at e)

pub found_below : (ps : List TypedProcedure) (p n : ℕ) (xs : List ℕ) (found : Option ℕ) → AreReached ps p xs → length ps ≡ n → found ≡ find (bad ps) xs → IfSome found (λ q. q < n)
found_below ps p n xs None reached same e = tt
found_below ps p n xs (Some q) reached same e = subst (λ m. q < m) same (below_all 0 (length ps) xs reached.growing q (found_first ps 0 (length ps) xs reached.growing q (sym e)).0)

grow_all : (from below : ℕ) (xs : List ℕ) → GrowBelow from below xs → All (λ q. q < below) xs
grow_all from below [] h = All-nil (λ q. q < below)
grow_all from below (x ∷ xs) h = All-cons (λ q. q < below) x xs h.0.1 (grow_all (suc x) below xs h.1)

pub reached_below : (ps : List TypedProcedure) (p n : ℕ) (xs : List ℕ) → AreReached ps p xs → length ps ≡ n → All (λ q. q < n) xs
reached_below ps p n xs reached same = subst (λ m. All (λ q. q < m) xs) same (grow_all 0 (length ps) xs reached.growing)

-- ---- Procedures that the program holds

pub procedure_is : (procs : List TProc) (p : ℕ) (x : TProc) → p < length procs → x ≡ get_or procs p x → procedure_of x ≡ procedure_at (map procedure_of procs) p
procedure_is [] p x lt is = absurd (omega (arith, lt))
procedure_is (y ∷ rest) zero x lt is = ap procedure_of is
procedure_is (y ∷ rest) (suc p) x lt is = procedure_is rest p x (omega (arith, lt)) is

pub procedure_counted : (procs : List TProc) (p : ℕ) (x : TProc) → p < length procs → x ≡ get_or procs p x → Each IsCounted procs → IsCounted x
procedure_counted [] p x lt is h = absurd (omega (arith, lt))
procedure_counted (y ∷ rest) zero x lt is h = subst IsCounted (sym is) h.0
procedure_counted (y ∷ rest) (suc p) x lt is h = procedure_counted rest p x (omega (arith, lt)) is h.1

-- ---- Runs

pub begins_with : (ps : List TypedProcedure) (p : ℕ) (settings : List Setting) (state : List Val) (c : Stored) → state ≡ start_state (procedure_at ps p) settings → c ≡ stored_begin ps p state → (IsState (procedure_at ps p) state → IsConfig ps c) → Begins ps p c
begins_with ps p settings state c is first config = record {
  state = state;
  first = first;
  config = config (subst (IsState (procedure_at ps p)) (sym is) (start_typed (procedure_at ps p) settings));
}

pub unrolls_by : (ps : List TypedProcedure) (p : ℕ) (s : Script) (script : List Decide) (n : ℕ) (state : List Val) (first : Stored) (u : Unrolling) → u ≡ unrolled ps p script n (begun first) → script ≡ s.decisions → n ≡ s.steps → first ≡ stored_begin ps p state → state ≡ start_state (procedure_at ps p) s.settings → u ≡ runs_by ps p s
unrolls_by ps p s script n state first u e decisions steps begins starts =
    e ∙ (ap (λ d. unrolled ps p d n (begun first)) decisions
    ∙ (ap (λ m. unrolled ps p s.decisions m (begun first)) steps
    ∙ ap (λ c. unrolled ps p s.decisions s.steps (begun c)) (begins ∙ ap (stored_begin ps p) starts)))
