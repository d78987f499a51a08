-- Uniqueness of the program that tokens spell, and of their first error.
use Rattle.heyvl_syntax.specs.declared.tokens.Token.{Token}
use Rattle.guarded_commands.specs.Grammar.{IsProgram}
use Rattle.guarded_commands.specs.ProgramFaults.{IsProgramFault}
use Rattle.guarded_commands.specs.Programs.{ProgramTree}
use Rattle.std.specs.Prelude.{List, ◌≡◌, ℕ}

-- Tokens spell at most one program.
abbrev pub ProgramIsUnique : Type 0
ProgramIsUnique = (text : List Token) (program other : ProgramTree) → IsProgram program text
    → IsProgram other text → program ≡ other

-- Tokens have at most one first error as a program.
abbrev pub ProgramFaultIsUnique : Type 0
ProgramFaultIsUnique =
    (tokens : List Token) (number other i j : ℕ) → IsProgramFault tokens number i
    → IsProgramFault tokens other j
    → (number ≡ other) × (i ≡ j)
