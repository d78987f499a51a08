-- The symbols of HeyVL.
use Rattle.heyvl_syntax.specs.declared.marks.Mark.TheVariants as marks
use Rattle.heyvl_syntax.specs.declared.marks.Mark.{Mark}
use Rattle.std.specs.Prelude.{List, codes, ℕ}

-- The bytes of each symbol.
abbrev pub mark_text : Mark → List ℕ
mark_text marks.ParenLeft = codes "("
mark_text marks.ParenRight = codes ")"
mark_text marks.BraceLeft = codes "{"
mark_text marks.BraceRight = codes "}"
mark_text marks.BracketLeft = codes "["
mark_text marks.BracketRight = codes "]"
mark_text marks.Comma = codes ","
mark_text marks.Colon = codes ":"
mark_text marks.Semi = codes ";"
mark_text marks.Dot = codes "."
mark_text marks.Assign = codes "="
mark_text marks.Same = codes "=="
mark_text marks.Differ = codes "!="
mark_text marks.Less = codes "<"
mark_text marks.AtMost = codes "<="
mark_text marks.CoImply = codes "<=="
mark_text marks.More = codes ">"
mark_text marks.AtLeast = codes ">="
mark_text marks.Plus = codes "+"
mark_text marks.Minus = codes "-"
mark_text marks.Star = codes "*"
mark_text marks.Slash = codes "/"
mark_text marks.AndAnd = codes "&&"
mark_text marks.OrOr = codes "||"
mark_text marks.Bang = codes "!"
mark_text marks.Tilde = codes "~"
mark_text marks.Imply = codes "==>"
mark_text marks.Arrow = codes "->"
mark_text marks.Question = codes "?"
mark_text marks.AtSign = codes "@"
