-- The laws of generated texts: they have no error, and their length is bounded. This project's own.
use Rattle.generated_files.specs.Texts.{generated_text}
use Rattle.heyvl_syntax.specs.Procedures.{Procedure}
use Rattle.heyvl_syntax.specs.SourceFaults.{IsSource, procedure_limit}
use Rattle.static_rules.specs.Files.{first_fault}
use Rattle.std.specs.Prelude.{List, None, length, ◌*◌, ◌≡◌, ◌≤◌, ℕ}

-- `IsFaultless procedures bytes`: `bytes` spell a file of `procedures` procedures, which has no
-- static error.
pub record IsFaultless (procedures : ℕ) (bytes : List ℕ) : Type 0 where
  pub file : List Procedure
  pub count : length file ≡ procedures
  pub source : IsSource bytes file
  pub none : first_fault file ≡ None

-- A generated text of `n` lines, at most the limit of procedures, spells a file of `n` procedures
-- without an error.
abbrev pub GeneratedTextsAreFaultless : Type 0
GeneratedTextsAreFaultless = (n : ℕ) → n ≤ procedure_limit → IsFaultless n (generated_text n)

-- A generated text of `n` lines, at most the limit of procedures, has at most `300 * n` bytes.
abbrev pub GeneratedTextsAreShort : Type 0
GeneratedTextsAreShort = (n : ℕ) → n ≤ procedure_limit → length (generated_text n) ≤ 300 * n
