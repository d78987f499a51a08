-- Reading expressions that are all of the tokens.
use Rattle.heyvl_parse.specs.readers.Combinators.{ended}
use Rattle.heyvl_parse.specs.readers.ReadParts.{Read, expr, ◌>>=◌}
use Rattle.heyvl_syntax.specs.Expressions.{Expression}
use Rattle.heyvl_syntax.specs.declared.tokens.Token.{Token}
use Rattle.std.specs.Prelude.{List, ℕ}

-- `expr`, after which no token may be left.
abbrev pub only_expr : ℕ → List Token → Read Expression
only_expr n ts = expr n ts >>= ended
