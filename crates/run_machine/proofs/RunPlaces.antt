-- Places name the acts of a block, and a run may take these.
use Rattle.std.proofs.Common.{ℕ, ◌+◌, append_assoc, refl, subst, arith, Bool, true, false, List, [], ◌∷◌, ◌++◌, length}
use Rattle.std.specs.Prelude.{if◌then◌else◌}
use Prim.Native.Nat.{suc}
use Rattle.heylo_formula.specs.Choices.{Choices}
use Rattle.heylo_formula.specs.Meaning.{holds}
use Rattle.heylo_formula.specs.State.{Env}
use Rattle.heyvl_acts.specs.Acts.{Act, Acts, Arms, TypedProcedure}
use Rattle.heyvl_acts.specs.Matching.{taken}
use Rattle.heyvl_acts.specs.Places.{in_order, inside, inside_arms}
use Rattle.heyvl_acts.specs.Rules.{Each}
use Rattle.run_machine.specs.ConfigConditions.{CanRun, IsItemOf}
use Rattle.run_machine.specs.Names.{numbered}
use Rattle.run_machine.specs.internal.Places.{Stands, text}
use Rattle.run_machine.specs.StoredMoves.{taken_place}
use Rattle.run_machine.proofs.Places.{part_first, part_second, part_rest, part_head}

pub each_first : {A : Type 0} (P : A → Type 0) (xs ys : List A) → Each P (xs ++ ys) → Each P xs
each_first P [] ys h = tt
each_first P (x ∷ xs) ys h = (h.0, each_first P xs ys h.1)

pub each_second : {A : Type 0} (P : A → Type 0) (xs ys : List A) → Each P (xs ++ ys) → Each P ys
each_second P [] ys h = h
each_second P (x ∷ xs) ys h = each_second P xs ys h.1

pub block_belongs : (ps : List TypedProcedure) (n place : ℕ) (acts : Acts) → Stands (text ps n) place (in_order acts) → Each (CanRun ps) (in_order acts) → Each (IsItemOf ps n) (numbered n place acts)
block_belongs ps n place Acts.done s r = tt
block_belongs ps n place (Acts.next a rest) s r = (
  (refl, record { act = a; named = part_head (text ps n) place a (inside a ++ in_order rest) s; runs = (r.0, each_first (CanRun ps) (inside a) (in_order rest) r.1) }),
  block_belongs ps n (place + suc (length (inside a))) rest (subst (λ m. Stands (text ps n) m (in_order rest)) (omega arith) (part_second (text ps n) (suc place) (inside a) (in_order rest) (part_rest (text ps n) place a (inside a ++ in_order rest) s))) (each_second (CanRun ps) (inside a) (in_order rest) r.1),
)

-- The block that an if takes is at its place.
stands_apart : (xs : List Act) (n : ℕ) (b : Acts) (more : Arms) (e : Acts) → Stands xs n ((in_order b ++ inside_arms more) ++ in_order e) → Stands xs n (in_order b ++ (inside_arms more ++ in_order e))
stands_apart xs n b more e h = subst (Stands xs n) (append_assoc (in_order b) (inside_arms more) (in_order e)) h

one_stands : (xs : List Act) (n m : ℕ) (b d : Acts) (t : Bool) → Stands xs n (in_order b) → Stands xs m (in_order d) → Stands xs (if t then n else m) (in_order (if t then b else d))
one_stands xs n m b d true h k = h
one_stands xs n m b d false h k = k

pub taken_stands : (xs : List Act) (n : ℕ) (arms : Arms) (e : Acts) (s : Env) → Stands xs n (inside_arms arms ++ in_order e) → Stands xs (taken_place n arms s) (in_order (taken arms e s))
taken_stands xs n Arms.no_arm e s h = h
taken_stands xs n (Arms.arm g b more) e s h = one_stands xs n _ b _ (holds g s Choices.stop) (part_first xs n (in_order b) (inside_arms more ++ in_order e) (stands_apart xs n b more e h)) (taken_stands xs (n + length (in_order b)) more e s (part_second xs n (in_order b) (inside_arms more ++ in_order e) (stands_apart xs n b more e h)))

runs_apart : (ps : List TypedProcedure) (b : Acts) (more : Arms) (e : Acts) → Each (CanRun ps) ((in_order b ++ inside_arms more) ++ in_order e) → Each (CanRun ps) (in_order b ++ (inside_arms more ++ in_order e))
runs_apart ps b more e h = subst (Each (CanRun ps)) (append_assoc (in_order b) (inside_arms more) (in_order e)) h

one_runs : (ps : List TypedProcedure) (b d : Acts) (t : Bool) → Each (CanRun ps) (in_order b) → Each (CanRun ps) (in_order d) → Each (CanRun ps) (in_order (if t then b else d))
one_runs ps b d true h k = h
one_runs ps b d false h k = k

pub taken_runs : (ps : List TypedProcedure) (arms : Arms) (e : Acts) (s : Env) → Each (CanRun ps) (inside_arms arms ++ in_order e) → Each (CanRun ps) (in_order (taken arms e s))
taken_runs ps Arms.no_arm e s h = h
taken_runs ps (Arms.arm g b more) e s h = one_runs ps b _ (holds g s Choices.stop) (each_first (CanRun ps) (in_order b) (inside_arms more ++ in_order e) (runs_apart ps b more e h)) (taken_runs ps more e s (each_second (CanRun ps) (in_order b) (inside_arms more ++ in_order e) (runs_apart ps b more e h)))
