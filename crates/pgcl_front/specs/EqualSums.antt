-- The sums of a program of guarded commands are those of its coproc, and so bounds of the coproc
-- are bounds of the program. This project's own.
use Prim.Native.Nat.{suc, zero}
use Rattle.pgcl_front.specs.GuardedRuns.{program_sum}
use Rattle.pgcl_front.specs.Readings.{IsGuardedState, amount, own_scope}
use Rattle.heylo_formula.specs.declared.values.Val.{Val}
use Rattle.heyvl_acts.specs.Acts.{procedure_at}
use Rattle.heyvl_num.specs.Value.{◌≤ᵛ◌}
use Rattle.heyvl_syntax.specs.Procedures.{Procedure}
use Rattle.heyvl_syntax.specs.declared.tokens.Token.{Token}
use Rattle.static_rules.specs.Files.{first_fault, resolved}
use Rattle.guarded_commands.specs.Programs.{ProgramTree}
use Rattle.guarded_commands.specs.Translations.{IsTranslation}
use Rattle.run_machine.specs.Bound.{Bound, IsState}
use Rattle.run_machine.specs.Configurations.{begin}
use Rattle.run_machine.specs.Runs.{runs}
use Rattle.run_machine.specs.Scheduler.{Tree, first, under}
use Rattle.run_machine.specs.Sums.{sum_of}
use Rattle.std.specs.Prelude.{List, None, length, take, ◌+◌, ◌≡◌, true, ℕ}

-- The tree below `t` after `k` steps with one outcome each.
abbrev pub descend : ℕ → Tree → Tree
descend zero t = t
descend (suc k) t = descend k (first (under t))

-- The sums of `program` equal those of the first procedure of `file`. `start` is a state of this
-- procedure, and its first values are those of the inputs. The program runs at most `n` steps from
-- the state with these values; the procedure runs from `start` for one step more for each variable,
-- so that the scheduler of the program is the one below these steps.
abbrev pub GuardedSumsAreEqual : ProgramTree → List Procedure → Type 0
GuardedSumsAreEqual program file =
    (start : List Val) → IsState (procedure_at (resolved file) 0) start → (n : ℕ) (tree : Tree)
    → program_sum program n (take (length program.declarations) start)
    (descend (length program.declarations) tree)
    ≡ sum_of true (procedure_at (resolved file) 0).post
    (runs (resolved file) (n + length program.declarations) (begin (resolved file) 0 start) tree)

-- The pre bounds the program: from every state, for every `n` and under every scheduler, the upper
-- sum of its runs of at most `n` steps is at most the pre in that state.
abbrev pub IsGuardedBound : ProgramTree → Type 0
IsGuardedBound program =
    (s : List Val) → IsGuardedState program.declarations s → (n : ℕ) (tree : Tree)
    → program_sum program n s tree ≤ᵛ amount (own_scope program.declarations) program.pre s

-- `file` has the sums of `program`: those of its first procedure, `main`, are the program's, and if
-- the bound of `main` holds, each sum of the program is at most its pre.
pub record HasSumsOf (program : ProgramTree) (file : List Procedure) : Type 0 where
  pub equal : GuardedSumsAreEqual program file
  pub bounded : Bound (resolved file) 0 → IsGuardedBound program

-- If the tokens are translated to `file` and it has no static error, it has the sums of the program
-- that they spell.
abbrev pub HasTranslatedSums : List Token → List Procedure → Type 0
HasTranslatedSums tokens file = (t : IsTranslation tokens file) → first_fault file ≡ None
    → HasSumsOf t.program file

-- If a program is translated to a file without a static error, the sums of the program equal those
-- of its coproc.
abbrev pub SumsAreEqual : Type 0
SumsAreEqual = (tokens : List Token) (file : List Procedure) (t : IsTranslation tokens file)
    → first_fault file ≡ None → GuardedSumsAreEqual t.program file

-- If the bound of the coproc to which a program is translated holds, the program's pre bounds its
-- sums.
abbrev pub BoundsCarryOver : Type 0
BoundsCarryOver = (tokens : List Token) (file : List Procedure) (t : IsTranslation tokens file)
    → first_fault file ≡ None → Bound (resolved file) 0 → IsGuardedBound t.program
