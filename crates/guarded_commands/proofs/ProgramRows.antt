-- Worked rows of the grammar: two small texts, computed. Places are indices of tokens.
use Rattle.heyvl_parse.proofs.exported.Wholes.{found_all}
use Rattle.heyvl_parse.specs.readers.ReadParts.{Bad, Got}
use Rattle.heyvl_places.specs.declared.spans.Span.{Span}
use Rattle.heyvl_syntax.specs.Expressions.{Expression}
use Rattle.heyvl_syntax.specs.declared.keys.Key.TheVariants as keys
use Rattle.heyvl_syntax.specs.declared.keys.Key.{Key}
use Rattle.heyvl_syntax.specs.declared.literals.Lit.{Lit}
use Rattle.heyvl_syntax.specs.declared.marks.Mark.TheVariants as marks
use Rattle.heyvl_syntax.specs.declared.marks.Mark.{Mark}
use Rattle.heyvl_syntax.specs.declared.operators.BinaryOp.TheVariants as ops
use Rattle.heyvl_syntax.specs.declared.tokens.Token.{Token}
use Rattle.heyvl_syntax.specs.declared.tokens.TokenKind.TheVariants as kinds
use Rattle.heyvl_syntax.specs.declared.tokens.TokenKind.{TokenKind}
use Rattle.guarded_commands.proofs.ProgramLaws.{program_laws}
use Rattle.guarded_commands.specs.Grammar.{IsProg, IsProgram}
use Rattle.guarded_commands.specs.Programs.{BlockTree, CommandTree, ProgramTree}
use Rattle.guarded_commands.specs.declared.programs.VariableType.TheVariants as types
use Rattle.guarded_commands.specs.internal.Programs.{program}
use Rattle.std.proofs.Common.{List, [], codes, false, pos, refl, ◌+◌, ◌∷◌, ◌≡◌, ℕ}

abbrev pub span : ℕ → ℕ → Span
span from to = record { from = from; to = to }

abbrev placed : ℕ → List TokenKind → List Token
placed i [] = []
placed i (k ∷ ks) = record { kind = k; span = span i (i + 1) } ∷ placed (i + 1) ks

abbrev text : List TokenKind → List Token
text = placed 0

abbrev word : List ℕ → TokenKind
word w = kinds.Word w

abbrev sign : Mark → TokenKind
sign m = kinds.Mark m

abbrev key : Key → TokenKind
key k = kinds.Key k

abbrev pub digit : ℕ → Lit
digit n = record { digits = pos n; places = 0 }

abbrev number : ℕ → TokenKind
number n = kinds.Number (digit n)

abbrev c : TokenKind
c = word (codes "c")

abbrev go : TokenKind
go = word (codes "go")

abbrev pub name : List ℕ → ℕ → Expression
name x i = Expression.name x (span i (i + 1))

-- `ite(go, c + 1, c)`
abbrev bound_tokens : List TokenKind
bound_tokens = key keys.Ite ∷ sign marks.ParenLeft ∷ go ∷ sign marks.Comma ∷ c ∷ sign marks.Plus ∷ number 1 ∷ sign marks.Comma ∷ c ∷ sign marks.ParenRight ∷ []

abbrev pub bound_at : ℕ → Expression
bound_at i =
    Expression.choice (name (codes "go") (i + 2))
    (Expression.binary ops.Plus (name (codes "c") (i + 4)) (Expression.number (digit 1) (span (i + 6) (i + 7))) (span (i + 5) (i + 6)))
    (name (codes "c") (i + 8)) (span i (i + 10))

-- nat c; bool go; pre ite(go, c + 1, c); post c;
-- while (go) [ite(go, c + 1, c)] { { go := false; } [1/2] { c := c + 1; } }
abbrev pub walk : List Token
walk = text (
    word (codes "nat") ∷ c ∷ sign marks.Semi ∷ word (codes "bool") ∷ go ∷ sign marks.Semi
    ∷ key keys.Pre ∷ key keys.Ite ∷ sign marks.ParenLeft ∷ go ∷ sign marks.Comma ∷ c ∷ sign marks.Plus ∷ number 1 ∷ sign marks.Comma ∷ c ∷ sign marks.ParenRight ∷ sign marks.Semi
    ∷ key keys.Post ∷ c ∷ sign marks.Semi
    ∷ key keys.While ∷ sign marks.ParenLeft ∷ go ∷ sign marks.ParenRight
    ∷ sign marks.BracketLeft ∷ key keys.Ite ∷ sign marks.ParenLeft ∷ go ∷ sign marks.Comma ∷ c ∷ sign marks.Plus ∷ number 1 ∷ sign marks.Comma ∷ c ∷ sign marks.ParenRight ∷ sign marks.BracketRight
    ∷ sign marks.BraceLeft
    ∷ sign marks.BraceLeft ∷ go ∷ sign marks.Colon ∷ sign marks.Assign ∷ key keys.FalseWord ∷ sign marks.Semi ∷ sign marks.BraceRight
    ∷ sign marks.BracketLeft ∷ number 1 ∷ sign marks.Slash ∷ number 2 ∷ sign marks.BracketRight
    ∷ sign marks.BraceLeft ∷ c ∷ sign marks.Colon ∷ sign marks.Assign ∷ c ∷ sign marks.Plus ∷ number 1 ∷ sign marks.Semi ∷ sign marks.BraceRight
    ∷ sign marks.BraceRight ∷ []
    )

abbrev pub walk_tree : ProgramTree
walk_tree = record {
  declarations = record { ty = types.Nat; name = codes "c"; span = span 0 3 } ∷ record { ty = types.Bool; name = codes "go"; span = span 3 6 } ∷ [];
  pre = bound_at 7;
  post = name (codes "c") 19;
  body = BlockTree.next
      (CommandTree.repeat (name (codes "go") 23) (bound_at 26)
      (BlockTree.next
      (CommandTree.mix (Expression.binary ops.Slash (Expression.number (digit 1) (span 46 47)) (Expression.number (digit 2) (span 48 49)) (span 47 48))
      (BlockTree.next (CommandTree.assign (codes "go") (Expression.truth false (span 42 43)) (span 39 44)) BlockTree.done)
      (BlockTree.next
      (CommandTree.assign (codes "c")
      (Expression.binary ops.Plus (name (codes "c") 54) (Expression.number (digit 1) (span 56 57)) (span 55 56)) (span 51 58)) BlockTree.done)
      (span 38 59)) BlockTree.done)
      (span 21 60)) BlockTree.done;
}

-- It is read as this tree.
walk_is_read : program 70 walk ≡ Got walk_tree []
walk_is_read = refl

-- The grammar spells it.
walk_is_spelled : IsProgram walk_tree walk
walk_is_spelled = record { grammar = found_all IsProg program program_laws 70 walk walk_tree walk_is_read; unquantified = refl }

-- `nat x; pre x; post x; x := ;`
abbrev broken : List Token
broken = text (
    word (codes "nat") ∷ word (codes "x") ∷ sign marks.Semi ∷ key keys.Pre ∷ word (codes "x") ∷ sign marks.Semi
    ∷ key keys.Post ∷ word (codes "x") ∷ sign marks.Semi ∷ word (codes "x") ∷ sign marks.Colon ∷ sign marks.Assign ∷ sign marks.Semi ∷ []
    )

-- It is refused at the last `;`.
broken_is_refused : program 20 broken ≡ Bad (record { kind = sign marks.Semi; span = span 12 13 } ∷ [])
broken_is_refused = refl
