use Rattle.heyvl_syntax.specs.Grammar.{IsFile}
use Rattle.heyvl_syntax.specs.declared.tokens.Token.{Token}
use Rattle.spelled_files.proofs.print_laws.spelling_is_unique.Goals as goal
use Rattle.std.proofs.Common.{List, subst, ◌≡◌}

-- -
pub returns : goal.returns
returns c = λ bytes file other one two.
    let same : one.tokens ≡ two.tokens = c.tokens_are_unique.ensures 0 bytes one.tokens two.tokens one.lexes two.lexes in
    c.file_is_unique.ensures two.tokens file other (subst (λ (ts : List Token). IsFile file ts) same one.is_file) two.is_file
