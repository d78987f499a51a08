-- The variables that the encoding of a procedure reads and binds, in a file that satisfies the
-- static rules. They determine the free variables of the generated form and the names of its
-- binders. This project's own.
use Rattle.std.specs.Prelude.{◌<◌, ℕ, List, length}
use Rattle.heyvl_acts.specs.Acts.{TypedProcedure, procedure_at}
use Rattle.heyvl_acts.specs.Rules.{Each, MeetsRules}
use Rattle.vp_generator.specs.Over.{ActsAreOver}
use Rattle.vp_generator.specs.Scopes.{AnysAreBelow}
use Rattle.loop_encodings.specs.Encoding.{all_variables, encoding}

-- The encoding reads only the procedure's variables and the fresh ones.
abbrev pub EncodingIsOver : Type 0
EncodingIsOver = (ps : List TypedProcedure) (p : ℕ) → Each (MeetsRules ps) ps → p < length ps
    → ActsAreOver (length (all_variables ps (procedure_at ps p))) (encoding ps (procedure_at ps p))

-- The encoding gives any value only to the procedure's variables and the fresh ones.
abbrev pub EncodingBindsItsVariables : Type 0
EncodingBindsItsVariables = (ps : List TypedProcedure) (p : ℕ) → Each (MeetsRules ps) ps
    → p < length ps
    → AnysAreBelow (length (all_variables ps (procedure_at ps p))) (encoding ps (procedure_at ps p))
