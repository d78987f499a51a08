-- The start of a run: its procedure, and which procedures have to be programs. This project's own.
use Rattle.heyvl_acts.specs.Acts.{TypedProcedure, procedure_at}
use Rattle.heyvl_acts.specs.Program.{IsProgram, Reaches}
use Rattle.run_script.specs.Scripts.{Known}
use Rattle.run_script.specs.Starts.{known_of}
use Rattle.std.specs.List.{position_from}
use Rattle.std.specs.Prelude.{List, None, Option, Some, ◌<◌, ℕ}
use Rattle.std.specs.Str.{bytes_eq}

-- `procedure_named name ps`: the number of the first procedure of `ps` with the name `name`.
abbrev pub procedure_named : List ℕ → List TypedProcedure → Option ℕ
procedure_named name ps = position_from (λ p. bytes_eq name p.name) 0 ps

-- `known_at ps p`: the inputs and outputs of the procedure with the number `p`, if there is one.
abbrev pub known_at : List TypedProcedure → Option ℕ → Known
known_at ps None = None
known_at ps (Some p) = Some (known_of (procedure_at ps p))

-- `q` is the first procedure that is no program: `p` itself, the procedure to run, or else the
-- first one, in the order of the file, of those that `p` reaches.
pub data IsFirstNoProgram (ps : List TypedProcedure) (p : ℕ) : ℕ → Type 0 where
  itself : (IsProgram (procedure_at ps p) → ⊥) → IsFirstNoProgram ps p p
  reached : (q : ℕ) → IsProgram (procedure_at ps p) → Reaches ps p q
      → (IsProgram (procedure_at ps q) → ⊥)
      → ((r : ℕ) → r < q → Reaches ps p r → IsProgram (procedure_at ps r)) → IsFirstNoProgram ps p q
