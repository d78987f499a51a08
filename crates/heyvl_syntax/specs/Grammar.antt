-- The grammar of HeyVL: which tokens spell a tree. Each definition is a production, by cases on the
-- tree, with the production above it. Source: HeyVL of Schroeer, Batz, Kaminski, Katoen and Matheja
-- (OOPSLA 2023), in the notation of the verifier Caesar (caesarverifier.org).
--
-- `x*` is any number of x, `x?` at most one, `list(x)` one or more with ',' between, and `list0(x)`
-- none or list(x). W is an identifier, and N a number.
--
--   file   ::= proc*
--   proc   ::= note? ('proc'|'coproc') W '(' list0(param) ')' '->' '(' list0(param) ')'
--              clause* block?
--   note   ::= '@' ('wlp'|'wp'|'ert')
--   param  ::= W ':' type
--   type   ::= 'Bool'|'Int'|'UInt'|'UReal'|'EUReal'|'Real'
--   clause ::= ('pre'|'post') expr
--   block  ::= '{' (stmt ';'*)* '}'
--   stmt   ::= 'var' W ':' type ('=' right)?  |  list(W) '=' right  |  W '(' list0(expr) ')'
--            | ('assert'|'assume'|'coassert'|'coassume') expr | 'validate' | 'covalidate'
--            | ('havoc'|'cohavoc') list(W) | ('reward'|'tick') expr
--            | 'if' expr block ('else' 'if' expr block)* ('else' block)?
--            | 'if' ('\cap'|'\cup') block ('else' block)?
--            | rule* 'while' expr block
--   rule   ::= '@' 'invariant' '(' expr ')' | '@' 'k_induction' '(' expr ',' expr ')'
--            | '@' 'ranking' '(' expr ',' expr ')'
--   right  ::= 'flip' '(' expr ')' | 'unif' '(' expr ',' expr ')'
--            | 'choose' '{' list(expr ':' expr) '}' | W '(' list0(expr) ')' | expr
--   expr   ::= ('sup'|'inf') W ':' type '.' expr | e1
--   e1     ::= e2 (('==>'|'<==') e1)?
--   e2     ::= e2 '\cup' e3 | e3
--   e3     ::= e3 '\cap' e4 | e4
--   e4     ::= e4 '||' e5 | e5
--   e5     ::= e5 '&&' e6 | e6
--   e6     ::= e7 (('=='|'!='|'<'|'<='|'>'|'>=') e7)?
--   e7     ::= e7 ('+'|'-') e8 | e8
--   e8     ::= e8 ('*'|'/') e9 | e9
--   e9     ::= ('!'|'-'|'~') e9 | atom
--   atom   ::= N | 'true' | 'false' | '\infty' | W | '(' expr ')' | '[' expr ']' | '?' '(' expr ')'
--            | 'ite' '(' expr ',' expr ',' expr ')'
--
-- Each node has a place in the bytes. The place of a binary expression is that of its operator. The
-- place of every other node extends from its first byte to the end of its last token.
use Rattle.heyvl_places.specs.declared.checks.CheckKind.TheVariants as checks
use Rattle.heyvl_places.specs.declared.checks.CheckKind.{CheckKind}
use Rattle.heyvl_syntax.specs.Expressions.{Expression}
use Rattle.heyvl_syntax.specs.Procedures.{Procedure}
use Rattle.heyvl_syntax.specs.Productions.{AreSemis, IsAt, IsEach, IsKey, IsList, IsList0}
use Rattle.heyvl_syntax.specs.Productions.{IsLiteral, IsMark, IsName, IsNothing, IsOptional, extent}
use Rattle.heyvl_syntax.specs.Productions.{◌or◌, ◌then◌}
use Rattle.heyvl_syntax.specs.Statements.{Arms, Block, LoopRule, RightSide, Statement}
use Rattle.heyvl_syntax.specs.Tokens.{Lexes}
use Rattle.heyvl_syntax.specs.declared.keys.Key.TheVariants as keys
use Rattle.heyvl_syntax.specs.declared.keys.Key.{Key}
use Rattle.heyvl_syntax.specs.declared.marks.Mark.TheVariants as marks
use Rattle.heyvl_syntax.specs.declared.marks.Mark.{Mark}
use Rattle.heyvl_syntax.specs.declared.operators.BinaryOp.TheVariants as ops
use Rattle.heyvl_syntax.specs.declared.operators.BinaryOp.{BinaryOp}
use Rattle.heyvl_syntax.specs.declared.operators.UnaryOp.TheVariants as prefixes
use Rattle.heyvl_syntax.specs.declared.operators.UnaryOp.{UnaryOp}
use Rattle.heyvl_syntax.specs.declared.procedures.Note.TheVariants as notes
use Rattle.heyvl_syntax.specs.declared.procedures.Note.{Note}
use Rattle.heyvl_syntax.specs.declared.procedures.Param.{Param}
use Rattle.heyvl_syntax.specs.declared.tokens.Token.{Token}
use Rattle.heyvl_syntax.specs.declared.tokens.TokenKind.TheVariants as kinds
use Rattle.heyvl_syntax.specs.declared.tokens.TokenKind.{TokenKind}
use Rattle.heyvl_syntax.specs.declared.types.TypeName.TheVariants as types
use Rattle.heyvl_syntax.specs.declared.types.TypeName.{TypeName}
use Rattle.std.specs.Prelude.{Bool, List, [], codes, false, true, ◌∷◌, ◌≡◌, ◌≤◌, ◌⊎◌, ℕ}

-- The rank of a binary operator, and the highest ranks of its left and its right operand. The rank
-- of e9 is 0, that of e8 is 1, and so on up to e1, whose rank is 8; expr has rank 9.
pub record Ranks : Type 0 where
  pub rank : ℕ
  pub left : ℕ
  pub right : ℕ

-- A line of the table of operators.
abbrev pub row : ℕ → ℕ → ℕ → Ranks
row rank left right = record { rank = rank; left = left; right = right }

-- The table of the binary operators: rank, left rank and right rank, below the production of each.
abbrev pub ranks : BinaryOp → Ranks
-- e1 ::= e2 (('==>'|'<==') e1)?
ranks ops.Imply = row 8 7 8
ranks ops.CoImply = row 8 7 8
-- e2 ::= e2 '\cup' e3 | e3
ranks ops.Cup = row 7 7 6
-- e3 ::= e3 '\cap' e4 | e4
ranks ops.Cap = row 6 6 5
-- e4 ::= e4 '||' e5 | e5
ranks ops.Or = row 5 5 4
-- e5 ::= e5 '&&' e6 | e6
ranks ops.And = row 4 4 3
-- e6 ::= e7 (('=='|'!='|'<'|'<='|'>'|'>=') e7)?
ranks ops.Same = row 3 2 2
ranks ops.Differ = row 3 2 2
ranks ops.Less = row 3 2 2
ranks ops.AtMost = row 3 2 2
ranks ops.More = row 3 2 2
ranks ops.AtLeast = row 3 2 2
-- e7 ::= e7 ('+'|'-') e8 | e8
ranks ops.Plus = row 2 2 1
ranks ops.Minus = row 2 2 1
-- e8 ::= e8 ('*'|'/') e9 | e9
ranks ops.Star = row 1 1 0
ranks ops.Slash = row 1 1 0

-- The token of each operator.
abbrev pub operator : BinaryOp → TokenKind
operator ops.Imply = kinds.Mark marks.Imply
operator ops.CoImply = kinds.Mark marks.CoImply
operator ops.Cup = kinds.Key keys.Cup
operator ops.Cap = kinds.Key keys.Cap
operator ops.Or = kinds.Mark marks.OrOr
operator ops.And = kinds.Mark marks.AndAnd
operator ops.Same = kinds.Mark marks.Same
operator ops.Differ = kinds.Mark marks.Differ
operator ops.Less = kinds.Mark marks.Less
operator ops.AtMost = kinds.Mark marks.AtMost
operator ops.More = kinds.Mark marks.More
operator ops.AtLeast = kinds.Mark marks.AtLeast
operator ops.Plus = kinds.Mark marks.Plus
operator ops.Minus = kinds.Mark marks.Minus
operator ops.Star = kinds.Mark marks.Star
operator ops.Slash = kinds.Mark marks.Slash

-- The symbol of each prefix operator.
abbrev pub prefix : UnaryOp → Mark
prefix prefixes.Not = marks.Bang
prefix prefixes.Minus = marks.Minus
prefix prefixes.Tilde = marks.Tilde

-- The keyword of a truth value: `true` or `false`.
abbrev pub truth_key : Bool → Key
truth_key true = keys.TrueWord
truth_key false = keys.FalseWord

-- The keyword of a quantifier: `sup` if the flag is true, otherwise `inf`.
abbrev pub quantifier_key : Bool → Key
quantifier_key true = keys.Sup
quantifier_key false = keys.Inf

-- The keyword of each type.
abbrev pub type_key : TypeName → Key
type_key types.Bool = keys.BoolWord
type_key types.Int = keys.IntWord
type_key types.UInt = keys.UIntWord
type_key types.UReal = keys.URealWord
type_key types.EUReal = keys.EURealWord
type_key types.Real = keys.RealWord

-- type ::= 'Bool'|'Int'|'UInt'|'UReal'|'EUReal'|'Real'
abbrev pub IsType : TypeName → List Token → Type 0
IsType t = IsKey (type_key t)

-- `IsExpr a k ts`: the tokens `ts` spell the expression `a`, whose rank is at most `k`: 9 for expr,
-- 8 for e1, down to 0 for e9.
abbrev pub IsExpr : Expression → ℕ → List Token → Type 0
-- expr ::= ('sup'|'inf') W ':' type '.' expr | e1
IsExpr (Expression.bound up x t a s) k ts =
    (9 ≤ k)
    × (IsKey (quantifier_key up) then IsName x then IsMark marks.Colon then IsType t
    then IsMark marks.Dot then IsExpr a 9) ts
    × (s ≡ extent ts)
-- e1 to e8, by the table of operators.
IsExpr (Expression.binary op a b s) k ts =
    ((ranks op).rank ≤ k) × (IsExpr a (ranks op).left then IsAt (operator op) s
    then IsExpr b (ranks op).right) ts
-- e9 ::= ('!'|'-'|'~') e9 | atom
IsExpr (Expression.unary op a s) k ts = (IsMark (prefix op) then IsExpr a 0) ts × (s ≡ extent ts)
-- atom ::= N | 'true' | 'false' | '\infty' | W | '(' expr ')' | '[' expr ']' | '?' '(' expr ')'
--        | 'ite' '(' expr ',' expr ',' expr ')'
IsExpr (Expression.number n s) k ts = IsLiteral n ts × (s ≡ extent ts)
IsExpr (Expression.truth b s) k ts = IsKey (truth_key b) ts × (s ≡ extent ts)
IsExpr (Expression.infinity s) k ts = IsKey keys.Infty ts × (s ≡ extent ts)
IsExpr (Expression.name x s) k ts = IsName x ts × (s ≡ extent ts)
IsExpr (Expression.group a s) k ts =
    (IsMark marks.ParenLeft then IsExpr a 9 then IsMark marks.ParenRight) ts × (s ≡ extent ts)
IsExpr (Expression.bracket a s) k ts =
    (IsMark marks.BracketLeft then IsExpr a 9 then IsMark marks.BracketRight) ts × (s ≡ extent ts)
IsExpr (Expression.embed a s) k ts =
    (IsMark marks.Question then IsMark marks.ParenLeft then IsExpr a 9
    then IsMark marks.ParenRight) ts × (s ≡ extent ts)
IsExpr (Expression.choice a b c s) k ts =
    (IsKey keys.Ite then IsMark marks.ParenLeft then IsExpr a 9 then IsMark marks.Comma
    then IsExpr b 9 then IsMark marks.Comma
    then IsExpr c 9 then IsMark marks.ParenRight) ts
    × (s ≡ extent ts)

-- The production expr.
abbrev pub IsFull : Expression → List Token → Type 0
IsFull a = IsExpr a 9

-- expr ':' expr: an alternative of `choose`, with its weight first.
abbrev pub IsWeighted : Expression × Expression → List Token → Type 0
IsWeighted part = IsFull part.0 then IsMark marks.Colon then IsFull part.1

-- W '(' list0(expr) ')': a call of the procedure `f`.
abbrev pub IsCall : List ℕ → List Expression → List Token → Type 0
IsCall f arguments = IsName f then IsMark marks.ParenLeft then IsList0 IsFull arguments
    then IsMark marks.ParenRight

-- right ::= 'flip' '(' expr ')' | 'unif' '(' expr ',' expr ')'
--         | 'choose' '{' list(expr ':' expr) '}' | W '(' list0(expr) ')' | expr
abbrev pub IsRight : RightSide → List Token → Type 0
IsRight (RightSide.flip p) = IsKey keys.Flip then IsMark marks.ParenLeft then IsFull p
    then IsMark marks.ParenRight
IsRight (RightSide.unif a b) =
    IsKey keys.Unif then IsMark marks.ParenLeft then IsFull a then IsMark marks.Comma then IsFull b
    then IsMark marks.ParenRight
IsRight (RightSide.choose parts) = IsKey keys.Choose then IsMark marks.BraceLeft
    then IsList IsWeighted parts then IsMark marks.BraceRight
IsRight (RightSide.call f arguments) = IsCall f arguments
IsRight (RightSide.plain a) = IsFull a

-- rule ::= '@' 'invariant' '(' expr ')' | '@' 'k_induction' '(' expr ',' expr ')'
--        | '@' 'ranking' '(' expr ',' expr ')'
abbrev pub IsRule : LoopRule → List Token → Type 0
IsRule (LoopRule.invariant i s) ts =
    (IsMark marks.AtSign then IsName (codes "invariant") then IsMark marks.ParenLeft then IsFull i
    then IsMark marks.ParenRight) ts
    × (s ≡ extent ts)
IsRule (LoopRule.k_induction k i s) ts =
    (IsMark marks.AtSign then IsName (codes "k_induction") then IsMark marks.ParenLeft then IsFull k
    then IsMark marks.Comma
    then IsFull i then IsMark marks.ParenRight) ts
    × (s ≡ extent ts)
IsRule (LoopRule.ranking e r s) ts =
    (IsMark marks.AtSign then IsName (codes "ranking") then IsMark marks.ParenLeft then IsFull e
    then IsMark marks.Comma
    then IsFull r then IsMark marks.ParenRight) ts
    × (s ≡ extent ts)

-- The keyword of each kind of check: `assert`, `assume`, `coassert` or `coassume`.
abbrev pub check_key : CheckKind → Key
check_key checks.Assert = keys.Assert
check_key checks.Assume = keys.Assume
check_key checks.CoAssert = keys.CoAssert
check_key checks.CoAssume = keys.CoAssume

-- The keyword of a validate statement: `covalidate` if the flag is true, otherwise `validate`.
abbrev pub validate_key : Bool → Key
validate_key true = keys.CoValidate
validate_key false = keys.Validate

-- The keyword of a havoc statement: `cohavoc` if the flag is true, otherwise `havoc`.
abbrev pub havoc_key : Bool → Key
havoc_key true = keys.CoHavoc
havoc_key false = keys.Havoc

-- The keyword after `if` in a nondeterministic choice: `\cup` if the flag is true, otherwise
-- `\cap`.
abbrev pub pick_key : Bool → Key
pick_key true = keys.Cup
pick_key false = keys.Cap

-- '=' right: the right side of an assignment or of a declaration.
abbrev pub IsGiven : RightSide → List Token → Type 0
IsGiven r = IsMark marks.Assign then IsRight r

-- list(W) '=' right  |  W '(' list0(expr) ')'
abbrev pub IsAssign : List (List ℕ) → RightSide → List Token → Type 0
IsAssign [] (RightSide.call f arguments) ts = IsCall f arguments ts
IsAssign [] r ts = ⊥
IsAssign (x ∷ xs) r ts = (IsList IsName (x ∷ xs) then IsGiven r) ts

-- The tokens of a block with its braces, where `P` is the block.
abbrev pub IsBraced : (List Token → Type 0) → List Token → Type 0
IsBraced P = IsMark marks.BraceLeft then P then IsMark marks.BraceRight

-- ('else' block)?, where `P` is the block. A missing `else` is the empty block.
abbrev pub IsElse : Block → (List Token → Type 0) → List Token → Type 0
IsElse other P ts = (IsKey keys.Else then P) ts ⊎ ((other ≡ Block.done) × IsNothing ts)

-- stmt ::= 'var' W ':' type ('=' right)?  |  list(W) '=' right  |  W '(' list0(expr) ')'
--        | ('assert'|'assume'|'coassert'|'coassume') expr | 'validate' | 'covalidate'
--        | ('havoc'|'cohavoc') list(W) | ('reward'|'tick') expr
--        | 'if' expr block ('else' 'if' expr block)* ('else' block)?
--        | 'if' ('\cap'|'\cup') block ('else' block)?
--        | rule* 'while' expr block
abbrev mutual
  pub IsStmt : Statement → List Token → Type 0
  IsStmt (Statement.var x t r s) ts =
      (IsKey keys.Var then IsName x then IsMark marks.Colon then IsType t
      then IsOptional IsGiven r) ts × (s ≡ extent ts)
  IsStmt (Statement.assign xs r s) ts = IsAssign xs r ts × (s ≡ extent ts)
  IsStmt (Statement.check kind a s) ts = (IsKey (check_key kind) then IsFull a) ts × (s ≡ extent ts)
  IsStmt (Statement.validate co s) ts = IsKey (validate_key co) ts × (s ≡ extent ts)
  IsStmt (Statement.havoc co xs s) ts = (IsKey (havoc_key co) then IsList IsName xs) ts
      × (s ≡ extent ts)
  IsStmt (Statement.reward a s) ts = ((IsKey keys.Reward or IsKey keys.Tick) then IsFull a) ts
      × (s ≡ extent ts)
  IsStmt (Statement.branch arms other s) ts =
      (IsIf arms then IsElse other (IsBraced (IsStmts other))) ts × (s ≡ extent ts)
  IsStmt (Statement.pick up a b s) ts =
      (IsKey keys.If then IsKey (pick_key up) then IsBraced (IsStmts a)
      then IsElse b (IsBraced (IsStmts b))) ts × (s ≡ extent ts)
  IsStmt (Statement.loop rules g b s) ts =
      (IsEach IsRule rules then IsKey keys.While then IsFull g then IsBraced (IsStmts b)) ts
      × (s ≡ extent ts)

  -- 'if' expr block ('else' 'if' expr block)*
  pub IsIf : Arms → List Token → Type 0
  IsIf Arms.no_arm ts = ⊥
  IsIf (Arms.arm g b more) ts =
      (IsKey keys.If then IsFull g then IsBraced (IsStmts b) then IsElseIfs more) ts

  -- ('else' 'if' expr block)*
  pub IsElseIfs : Arms → List Token → Type 0
  IsElseIfs Arms.no_arm ts = IsNothing ts
  IsElseIfs (Arms.arm g b more) ts =
      (IsKey keys.Else then IsKey keys.If then IsFull g then IsBraced (IsStmts b)
      then IsElseIfs more) ts

  -- (stmt ';'*)*
  pub IsStmts : Block → List Token → Type 0
  IsStmts Block.done ts = IsNothing ts
  IsStmts (Block.next x xs) ts = (IsStmt x then AreSemis then IsStmts xs) ts

-- block ::= '{' (stmt ';'*)* '}'
abbrev pub IsBlock : Block → List Token → Type 0
IsBlock b = IsBraced (IsStmts b)

-- A pre or a post clause.
pub data Clause : Type 0 where
  pre : Expression → Clause
  post : Expression → Clause

-- clause ::= ('pre'|'post') expr
abbrev pub IsClause : Clause → List Token → Type 0
IsClause (Clause.pre a) = IsKey keys.Pre then IsFull a
IsClause (Clause.post a) = IsKey keys.Post then IsFull a

-- The expressions of the pre clauses, in their order.
abbrev pub pres : List Clause → List Expression
pres [] = []
pres (Clause.pre a ∷ clauses) = a ∷ pres clauses
pres (Clause.post a ∷ clauses) = pres clauses

-- The expressions of the post clauses, in their order.
abbrev pub posts : List Clause → List Expression
posts [] = []
posts (Clause.pre a ∷ clauses) = posts clauses
posts (Clause.post a ∷ clauses) = a ∷ posts clauses

-- clause*: pre and post clauses in any order. The expressions of the pre clauses are `before`, and
-- those of the post clauses `after`, in their order.
abbrev pub IsClauses : List Expression → List Expression → List Token → Type 0
IsClauses before after ts = (clauses : List Clause) × IsEach IsClause clauses ts
    × (pres clauses ≡ before) × (posts clauses ≡ after)

-- param ::= W ':' type
abbrev pub IsParam : Param → List Token → Type 0
IsParam p ts = (IsName p.name then IsMark marks.Colon then IsType p.ty) ts × (p.span ≡ extent ts)

-- The identifier of each note, after its '@'.
abbrev pub note_word : Note → List ℕ
note_word notes.Wlp = codes "wlp"
note_word notes.Wp = codes "wp"
note_word notes.Ert = codes "ert"

-- note ::= '@' ('wlp'|'wp'|'ert')
abbrev pub IsNote : Note → List Token → Type 0
IsNote note = IsMark marks.AtSign then IsName (note_word note)

-- The keyword of a procedure: `coproc` if the flag is true, otherwise `proc`.
abbrev pub proc_key : Bool → Key
proc_key true = keys.CoProc
proc_key false = keys.Proc

-- proc ::= note? ('proc'|'coproc') W '(' list0(param) ')' '->' '(' list0(param) ')' clause* block?
abbrev pub IsProc : Procedure → List Token → Type 0
IsProc p ts =
    (IsOptional IsNote p.note then IsKey (proc_key p.co) then IsName p.name
    then IsMark marks.ParenLeft then IsList0 IsParam p.inputs then IsMark marks.ParenRight
    then IsMark marks.Arrow
    then IsMark marks.ParenLeft then IsList0 IsParam p.outputs then IsMark marks.ParenRight
    then IsClauses p.pres p.posts then IsOptional IsBlock p.body) ts
    × (p.span ≡ extent ts)

-- file ::= proc*
abbrev pub IsFile : List Procedure → List Token → Type 0
IsFile = IsEach IsProc

-- The bytes spell the file: they are split into tokens, and the tokens spell the file.
pub record Spells (bytes : List ℕ) (file : List Procedure) : Type 0 where
  pub tokens : List Token
  pub lexes : Lexes 0 bytes tokens
  pub is_file : IsFile file tokens
