-- The grammar of programs of guarded commands: which tokens spell a program. Each definition is a
-- production, by cases on the tree. The language is Dijkstra's with probabilistic choice as in pGCL
-- (McIver and Morgan, Abstraction, Refinement and Proof for Probabilistic Systems, 2005); its
-- concrete form is this project's own. Tokens and expressions are those of HeyVL, and W is an
-- identifier:
--
--   prog   ::= (('bool'|'nat'|'real') W ';')* 'pre' expr ';' 'post' expr ';' pstmt*
--   pstmt  ::= 'skip' ';' | W ':' '=' expr ';' | 'tick' '(' expr ')' ';'
--            | 'if' '(' expr ')' pblock 'else' pblock | pblock '[' expr ']' pblock
--            | pblock '[' ']' pblock | 'while' '(' expr ')' '[' expr ']' pblock
--   pblock ::= '{' pstmt* '}'
--
-- A program has no `sup` and no `inf`. The place of a command or a declaration reaches from its
-- first byte to the end of its last token.
use Rattle.heyvl_syntax.specs.Expressions.{Expression}
use Rattle.heyvl_syntax.specs.Grammar.{IsBraced, IsFull}
use Rattle.heyvl_syntax.specs.Productions.{IsEach, IsKey, IsMark, IsName, IsNothing, extent, ◌then◌}
use Rattle.heyvl_syntax.specs.declared.keys.Key.TheVariants as keys
use Rattle.heyvl_syntax.specs.declared.marks.Mark.TheVariants as marks
use Rattle.heyvl_syntax.specs.declared.tokens.Token.{Token}
use Rattle.heyvl_syntax.specs.declared.tokens.TokenKind.TheVariants as kinds
use Rattle.heyvl_syntax.specs.declared.tokens.TokenKind.{TokenKind}
use Rattle.guarded_commands.specs.Programs.{BlockTree, CommandTree, ProgramTree}
use Rattle.guarded_commands.specs.declared.programs.Declaration.{Declaration}
use Rattle.guarded_commands.specs.declared.programs.VariableType.TheVariants as types
use Rattle.guarded_commands.specs.declared.programs.VariableType.{VariableType}
use Rattle.std.specs.Prelude.{Bool, List, codes, count_by, false, true, ◌≡◌, ℕ}

-- The keyword of each type.
abbrev pub type_word : VariableType → List ℕ
type_word types.Bool = codes "bool"
type_word types.Nat = codes "nat"
type_word types.Real = codes "real"

-- `('bool'|'nat'|'real') W ';'`
abbrev pub IsDeclaration : Declaration → List Token → Type 0
IsDeclaration d ts = (IsName (type_word d.ty) then IsName d.name then IsMark marks.Semi) ts
    × (d.span ≡ extent ts)

-- `'(' expr ')'`
abbrev pub IsEnclosed : Expression → List Token → Type 0
IsEnclosed a = IsMark marks.ParenLeft then IsFull a then IsMark marks.ParenRight

-- pstmt ::= 'skip' ';' | W ':' '=' expr ';' | 'tick' '(' expr ')' ';'
--         | 'if' '(' expr ')' pblock 'else' pblock | pblock '[' expr ']' pblock
--         | pblock '[' ']' pblock | 'while' '(' expr ')' '[' expr ']' pblock
abbrev mutual
  pub IsCommand : CommandTree → List Token → Type 0
  IsCommand (CommandTree.skip s) ts = (IsName (codes "skip") then IsMark marks.Semi) ts
      × (s ≡ extent ts)
  IsCommand (CommandTree.assign x e s) ts =
      (IsName x then IsMark marks.Colon then IsMark marks.Assign then IsFull e
      then IsMark marks.Semi) ts × (s ≡ extent ts)
  IsCommand (CommandTree.tick e s) ts =
      (IsKey keys.Tick then IsEnclosed e then IsMark marks.Semi) ts × (s ≡ extent ts)
  IsCommand (CommandTree.branch g a b s) ts =
      (IsKey keys.If then IsEnclosed g then IsBraced (IsCommands a) then IsKey keys.Else
      then IsBraced (IsCommands b)) ts
      × (s ≡ extent ts)
  IsCommand (CommandTree.mix p a b s) ts =
      (IsBraced (IsCommands a) then IsMark marks.BracketLeft then IsFull p
      then IsMark marks.BracketRight then IsBraced (IsCommands b)) ts
      × (s ≡ extent ts)
  IsCommand (CommandTree.choice a b s) ts =
      (IsBraced (IsCommands a) then IsMark marks.BracketLeft then IsMark marks.BracketRight
      then IsBraced (IsCommands b)) ts
      × (s ≡ extent ts)
  IsCommand (CommandTree.repeat g i a s) ts =
      (IsKey keys.While then IsEnclosed g then IsMark marks.BracketLeft then IsFull i
      then IsMark marks.BracketRight
      then IsBraced (IsCommands a)) ts
      × (s ≡ extent ts)

  -- `pstmt*`
  pub IsCommands : BlockTree → List Token → Type 0
  IsCommands BlockTree.done ts = IsNothing ts
  IsCommands (BlockTree.next x xs) ts = (IsCommand x then IsCommands xs) ts

-- `pblock ::= '{' pstmt* '}'`
abbrev pub IsPblock : BlockTree → List Token → Type 0
IsPblock b = IsBraced (IsCommands b)

-- `prog`, whose expressions may have quantifiers.
abbrev pub IsProg : ProgramTree → List Token → Type 0
IsProg p =
    IsEach IsDeclaration p.declarations then IsKey keys.Pre then IsFull p.pre then IsMark marks.Semi
    then IsKey keys.Post
    then IsFull p.post then IsMark marks.Semi then IsCommands p.body

-- Whether a token is `sup` or `inf`.
abbrev pub is_quantifier : TokenKind → Bool
is_quantifier (kinds.Key keys.Sup) = true
is_quantifier (kinds.Key keys.Inf) = true
is_quantifier _ = false

-- The number of tokens that are `sup` or `inf`.
abbrev pub quantifier_count : List Token → ℕ
quantifier_count = count_by (λ t. is_quantifier t.kind)

-- `IsProgram program tokens`: `tokens` spell `program` by the grammar, and none of them is `sup` or
-- `inf`.
pub record IsProgram (program : ProgramTree) (tokens : List Token) : Type 0 where
  pub grammar : IsProg program tokens
  pub unquantified : quantifier_count tokens ≡ 0
