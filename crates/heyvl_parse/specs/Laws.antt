-- Uniqueness: tokens spell at most one tree.
use Rattle.heyvl_syntax.specs.Expressions.{Expression}
use Rattle.heyvl_syntax.specs.Grammar.{IsFile, IsFull}
use Rattle.heyvl_syntax.specs.Procedures.{Procedure}
use Rattle.heyvl_syntax.specs.declared.tokens.Token.{Token}
use Rattle.std.specs.Prelude.{List, ◌≡◌}

-- Two expressions that the same tokens spell are equal.
abbrev pub ExpressionIsUnique : Type 0
ExpressionIsUnique = (text : List Token) (tree other : Expression) → IsFull tree text
    → IsFull other text → tree ≡ other

-- Two files that the same tokens spell are equal.
abbrev pub FileIsUnique : Type 0
FileIsUnique = (text : List Token) (file other : List Procedure) → IsFile file text
    → IsFile other text → file ≡ other
