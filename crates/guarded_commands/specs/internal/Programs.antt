-- Reading whole programs.
use Rattle.heyvl_parse.specs.readers.Combinators.{each, ended, is_key, is_there, lead, spanned}
use Rattle.heyvl_parse.specs.readers.Combinators.{trail}
use Rattle.heyvl_parse.specs.readers.ReadParts.{Read, is_mark, mapped, pair, one, word, ◌>>=◌}
use Rattle.heyvl_places.specs.declared.spans.Span.{Span}
use Rattle.heyvl_syntax.specs.Expressions.{Expression}
use Rattle.heyvl_syntax.specs.declared.keys.Key.TheVariants as keys
use Rattle.heyvl_syntax.specs.declared.marks.Mark.TheVariants as marks
use Rattle.heyvl_syntax.specs.declared.tokens.Token.{Token}
use Rattle.heyvl_syntax.specs.declared.tokens.TokenKind.TheVariants as kinds
use Rattle.heyvl_syntax.specs.declared.tokens.TokenKind.{TokenKind}
use Rattle.guarded_commands.specs.Grammar.{type_word}
use Rattle.guarded_commands.specs.Programs.{BlockTree, ProgramTree}
use Rattle.guarded_commands.specs.declared.programs.Declaration.{Declaration}
use Rattle.guarded_commands.specs.declared.programs.VariableType.TheVariants as types
use Rattle.guarded_commands.specs.declared.programs.VariableType.{VariableType}
use Rattle.guarded_commands.specs.internal.Commands.{commands, ended_expr}
use Rattle.std.specs.Cmp.Lexicographic.{pointwise}
use Rattle.std.specs.Prelude.{Bool, List, None, Option, Some, cond, nat_eq, ℕ}

-- The type that an identifier names.
abbrev pub word_type : List ℕ → Option VariableType
word_type w =
    cond (pointwise nat_eq w (type_word types.Bool)) (Some types.Bool)
    (cond (pointwise nat_eq w (type_word types.Nat)) (Some types.Nat)
    (cond (pointwise nat_eq w (type_word types.Real)) (Some types.Real) None))

abbrev pub kind_type : TokenKind → Option VariableType
kind_type (kinds.Word w) = word_type w
kind_type (kinds.Key k) = None
kind_type (kinds.Number n) = None
kind_type (kinds.Mark m) = None

-- Whether a token begins a declaration.
abbrev pub is_type : TokenKind → Bool
is_type k = is_there (kind_type k)

abbrev pub variable_type : List Token → Read VariableType
variable_type ts = one (λ t. kind_type t.kind) ts

abbrev pub declaration_tree : VariableType × List ℕ → Span → Declaration
declaration_tree p s = record { ty = p.0; name = p.1; span = s }

-- `('bool'|'nat'|'real') W ';'`
abbrev pub declared : List Token → Read (VariableType × List ℕ)
declared ts = pair variable_type (trail word (is_mark marks.Semi)) ts

abbrev pub declaration : List Token → Read Declaration
declaration ts = spanned declaration_tree declared ts

-- `'pre' expr ';'`
abbrev pub before : ℕ → List Token → Read Expression
before n ts = lead (is_key keys.Pre) (ended_expr n) ts

-- `'post' expr ';'`
abbrev pub after : ℕ → List Token → Read Expression
after n ts = lead (is_key keys.Post) (ended_expr n) ts

abbrev pub Parts : Type 0
Parts = List Declaration × (Expression × (Expression × BlockTree))

abbrev pub parts_tree : Parts → ProgramTree
parts_tree p = record { declarations = p.0; pre = p.1.0; post = p.1.1.0; body = p.1.1.1 }

-- Reads the parts of a program.
abbrev pub parts : ℕ → List Token → Read Parts
parts n ts = pair (each is_type declaration n) (pair (before n) (pair (after n) (commands n))) ts

-- Reads a program, which may have quantifiers, and after which no token may be left.
abbrev pub program : ℕ → List Token → Read ProgramTree
program n ts = mapped parts_tree (parts n) ts >>= ended
