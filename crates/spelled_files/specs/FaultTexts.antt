-- The line on a file with an error. This project's own.
use Rattle.heyvl_places.specs.Places.{column_of, line_of}
use Rattle.heyvl_places.specs.declared.spans.Span.{Span}
use Rattle.std.specs.Prelude.{List, [], codes, cond, decimal, nat_eq, ◌++◌, ◌∷◌, ℕ}

-- The texts of the errors of bytes, tokens and grammar, by their numbers.
abbrev pub source_texts : List (ℕ × List ℕ)
source_texts =
    (1, codes "no token here")
    ∷ (2, codes "comment without end")
    ∷ (3, codes "number too large")
    ∷ (4, codes "unexpected token or end of file")
    ∷ (5, codes "nested too deeply")
    ∷ (6, codes "too many procedures")
    ∷ []

-- The texts of the static errors, by their numbers.
abbrev pub static_texts : List (ℕ × List ℕ)
static_texts =
    (10, codes "unknown name")
    ∷ (11, codes "name given twice")
    ∷ (12, codes "types do not agree")
    ∷ (13, codes "input assigned")
    ∷ (14, codes "wrong number of values")
    ∷ (15, codes "literal out of range")
    ∷ (16, codes "division")
    ∷ (17, codes "statement on the wrong side")
    ∷ (18, codes "loop without one rule")
    ∷ (19, codes "k out of range")
    ∷ (20, codes "reward in a weak procedure")
    ∷ (21, codes "call against the direction")
    ∷ (22, codes "ranking body")
    ∷ (23, codes "quantifier out of place")
    ∷ (24, codes "procedure too large")
    ∷ []

-- The texts of the errors of programs of guarded commands, by their numbers.
abbrev pub program_texts : List (ℕ × List ℕ)
program_texts =
    (30, codes "no pGCL program")
    ∷ (31, codes "reserved name")
    ∷ []

-- The text with the number `n` in a table, or the empty text if there is none.
abbrev pub text_in : List (ℕ × List ℕ) → ℕ → List ℕ
text_in [] n = []
text_in (row ∷ more) n = cond (nat_eq n row.0) row.1 (text_in more n)

-- The text of the error with the number `n`.
abbrev pub fault_text : ℕ → List ℕ
fault_text n = text_in (source_texts ++ static_texts ++ program_texts) n

-- `LINE:COLUMN: fault NUMBER: TEXT`
abbrev pub source_fault_line : List ℕ → ℕ → Span → List ℕ
source_fault_line bytes number place =
    decimal (line_of bytes place.from) ++ codes ":" ++ decimal (column_of bytes place.from)
    ++ codes ": fault " ++ decimal number
    ++ codes ": " ++ fault_text number ++ codes "\n"
