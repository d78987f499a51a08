-- Laws of files that tokens spell, and of their typed procedures. This project's own.
use Rattle.heyvl_acts.specs.FormSizes.{FormsWithin}
use Rattle.heyvl_acts.specs.Rules.{Each}
use Rattle.heyvl_syntax.specs.Grammar.{IsFile}
use Rattle.heyvl_syntax.specs.Procedures.{Procedure}
use Rattle.heyvl_syntax.specs.Tokens.{Lexes}
use Rattle.heyvl_syntax.specs.declared.tokens.Token.{Token}
use Rattle.static_rules.specs.Files.{file_findings, resolved}
use Rattle.std.specs.Prelude.{List, [], length, ◌^◌, ◌≡◌, ◌≤◌, ℕ}
use Rattle.heyvl_acts.specs.StandingParts.{StandsWithin}

-- In a file of at most 2^20 tokens without a static error, each form and condition has at most 2^27
-- nodes.
abbrev pub FilesHaveSmallForms : Type 0
FilesHaveSmallForms = (file : List Procedure) (tokens : List Token) → IsFile file tokens
    → file_findings file ≡ [] → length tokens ≤ 2 ^ 20 → Each (FormsWithin (2 ^ 27)) (resolved file)

-- In a file that bytes spell, each statement and each product in a form begins within the bytes.
abbrev pub FilesStandWithin : Type 0
FilesStandWithin = (bytes : List ℕ) (tokens : List Token) (file : List Procedure)
    → Lexes 0 bytes tokens → IsFile file tokens → Each (StandsWithin (length bytes)) (resolved file)
