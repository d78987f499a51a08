-- The canonical text of a file: one text for each tree, production by production in the order of
-- the grammar. Each definition is the list of pieces of a tree. This project's own.
use Rattle.heyvl_print.specs.Pieces.{Piece, colon, comma, each, feed, key, margin, mark, separated}
use Rattle.heyvl_print.specs.Pieces.{space, text_of, token, word, ◌then◌}
use Rattle.heyvl_syntax.specs.Expressions.{Expression}
use Rattle.heyvl_syntax.specs.Grammar.{check_key, havoc_key, note_word, operator, pick_key, prefix}
use Rattle.heyvl_syntax.specs.Grammar.{proc_key, quantifier_key, truth_key, type_key, validate_key}
use Rattle.heyvl_syntax.specs.Procedures.{Procedure}
use Rattle.heyvl_syntax.specs.Statements.{Arms, Block, LoopRule, RightSide, Statement}
use Rattle.heyvl_syntax.specs.declared.keys.Key.TheVariants as keys
use Rattle.heyvl_syntax.specs.declared.marks.Mark.TheVariants as marks
use Rattle.heyvl_syntax.specs.declared.procedures.Note.{Note}
use Rattle.heyvl_syntax.specs.declared.procedures.Param.{Param}
use Rattle.heyvl_syntax.specs.declared.tokens.TokenKind.TheVariants as kinds
use Rattle.heyvl_syntax.specs.declared.types.TypeName.{TypeName}
use Rattle.std.specs.Prelude.{List, None, Option, Some, [], codes, ◌+◌, ◌∷◌, ℕ}

-- `(..)`, without a space inside.
abbrev pub parens : List Piece → List Piece
parens inner = mark marks.ParenLeft then inner then mark marks.ParenRight

-- `Bool`, `Int`, `UInt`, `UReal`, `EUReal` or `Real`.
abbrev pub type_piece : TypeName → List Piece
type_piece t = key (type_key t)

-- The pieces of an expression. A binary operator is between two spaces, a prefix operator has none,
-- and the point of `sup x: T. a` is followed by one.
abbrev pub expression_pieces : Expression → List Piece
expression_pieces (Expression.bound up x t a s) =
    key (quantifier_key up) then space then word x then colon then type_piece t then mark marks.Dot
    then space then expression_pieces a
expression_pieces (Expression.binary op a b s) =
    expression_pieces a then space then (token (operator op) ∷ []) then space
    then expression_pieces b
expression_pieces (Expression.unary op a s) = mark (prefix op) then expression_pieces a
expression_pieces (Expression.number n s) = token (kinds.Number n) ∷ []
expression_pieces (Expression.truth b s) = key (truth_key b)
expression_pieces (Expression.infinity s) = key keys.Infty
expression_pieces (Expression.name x s) = word x
expression_pieces (Expression.group a s) = parens (expression_pieces a)
expression_pieces (Expression.bracket a s) =
    mark marks.BracketLeft then expression_pieces a then mark marks.BracketRight
expression_pieces (Expression.embed a s) = mark marks.Question then parens (expression_pieces a)
expression_pieces (Expression.choice a b c s) =
    key keys.Ite then mark marks.ParenLeft then expression_pieces a then comma
    then expression_pieces b then comma then expression_pieces c
    then mark marks.ParenRight

-- `p: a`
abbrev pub weighted_pieces : Expression × Expression → List Piece
weighted_pieces part = expression_pieces part.0 then colon then expression_pieces part.1

-- `f(a, b)`
abbrev pub call_pieces : List ℕ → List Expression → List Piece
call_pieces f arguments = word f then parens (separated comma expression_pieces arguments)

-- `flip(p)`, `unif(a, b)`, `choose { p: a, q: b }`, a call or an expression.
abbrev pub right_pieces : RightSide → List Piece
right_pieces (RightSide.flip p) = key keys.Flip then parens (expression_pieces p)
right_pieces (RightSide.unif a b) = key keys.Unif then mark marks.ParenLeft then expression_pieces a
    then comma then expression_pieces b then mark marks.ParenRight
right_pieces (RightSide.choose parts) =
    key keys.Choose then space then mark marks.BraceLeft then space
    then separated comma weighted_pieces parts then space then mark marks.BraceRight
right_pieces (RightSide.call f arguments) = call_pieces f arguments
right_pieces (RightSide.plain a) = expression_pieces a

-- `@invariant(i)`, `@k_induction(k, i)` or `@ranking(e, r)`.
abbrev pub rule_pieces : LoopRule → List Piece
rule_pieces (LoopRule.invariant i s) = mark marks.AtSign then word (codes "invariant")
    then parens (expression_pieces i)
rule_pieces (LoopRule.k_induction k i s) =
    mark marks.AtSign then word (codes "k_induction") then mark marks.ParenLeft
    then expression_pieces k then comma then expression_pieces i
    then mark marks.ParenRight
rule_pieces (LoopRule.ranking e r s) =
    mark marks.AtSign then word (codes "ranking") then mark marks.ParenLeft then expression_pieces e
    then comma then expression_pieces r
    then mark marks.ParenRight

-- ` = r`, or nothing without a right side.
abbrev pub given_pieces : Option RightSide → List Piece
given_pieces None = []
given_pieces (Some r) = space then mark marks.Assign then space then right_pieces r

-- `x, y = `, or nothing without a target.
abbrev pub target_pieces : List (List ℕ) → List Piece
target_pieces [] = []
target_pieces (x ∷ xs) = separated comma word (x ∷ xs) then space then mark marks.Assign then space

-- A line of a rule, indented by `n` spaces.
abbrev pub rule_line : ℕ → LoopRule → List Piece
rule_line n rule = margin n then rule_pieces rule then feed

-- ` {` at the end of a line, the lines of a block, and `}` indented by `n` spaces.
abbrev pub braced : ℕ → List Piece → List Piece
braced n lines = space then mark marks.BraceLeft then feed then lines then margin n
    then mark marks.BraceRight

-- `if g { .. }` with the lines of the block.
abbrev pub arm_pieces : ℕ → Expression → List Piece → List Piece
arm_pieces n g lines = key keys.If then space then expression_pieces g then braced n lines

-- ` else { .. }` with the lines of the block.
abbrev pub else_pieces : ℕ → List Piece → List Piece
else_pieces n lines = space then key keys.Else then braced n lines

-- The lines of a statement that is indented by `n` spaces. The lines of a block have two spaces
-- more. An `else` is always printed, and `tick a` is printed as `reward a`.
abbrev mutual
  pub statement_lines : ℕ → Statement → List Piece
  statement_lines n (Statement.var x t r s) = margin n then key keys.Var then space then word x
      then colon then type_piece t then given_pieces r then feed
  statement_lines n (Statement.assign xs r s) =
      margin n then target_pieces xs then right_pieces r then feed
  statement_lines n (Statement.check kind a s) =
      margin n then key (check_key kind) then space then expression_pieces a then feed
  statement_lines n (Statement.validate co s) = margin n then key (validate_key co) then feed
  statement_lines n (Statement.havoc co xs s) =
      margin n then key (havoc_key co) then space then separated comma word xs then feed
  statement_lines n (Statement.reward a s) =
      margin n then key keys.Reward then space then expression_pieces a then feed
  statement_lines n (Statement.branch arms other s) =
      margin n then if_pieces n arms then else_pieces n (block_lines (n + 2) other) then feed
  statement_lines n (Statement.pick up a b s) =
      margin n then key keys.If then space then key (pick_key up)
      then braced n (block_lines (n + 2) a)
      then else_pieces n (block_lines (n + 2) b) then feed
  statement_lines n (Statement.loop rules g b s) =
      each (rule_line n) rules then margin n then key keys.While then space then expression_pieces g
      then braced n (block_lines (n + 2) b) then feed

  -- `if a { .. }`, and ` else if b { .. }` for each further arm.
  pub if_pieces : ℕ → Arms → List Piece
  if_pieces n Arms.no_arm = []
  if_pieces n (Arms.arm g b more) = arm_pieces n g (block_lines (n + 2) b)
      then else_if_pieces n more

  -- ` else if b { .. }` for each arm.
  pub else_if_pieces : ℕ → Arms → List Piece
  else_if_pieces n Arms.no_arm = []
  else_if_pieces n (Arms.arm g b more) = space then key keys.Else then space
      then arm_pieces n g (block_lines (n + 2) b) then else_if_pieces n more

  -- The lines of a block, indented by `n` spaces.
  pub block_lines : ℕ → Block → List Piece
  block_lines n Block.done = []
  block_lines n (Block.next x xs) = statement_lines n x then block_lines n xs

-- `@wlp`, `@wp` or `@ert` on a line, or nothing without a note.
abbrev pub note_line : Option Note → List Piece
note_line None = []
note_line (Some note) = mark marks.AtSign then word (note_word note) then feed

-- `x: T`
abbrev pub param_pieces : Param → List Piece
param_pieces p = word p.name then colon then type_piece p.ty

-- `(x: T, y: U)`
abbrev pub params_pieces : List Param → List Piece
params_pieces params = parens (separated comma param_pieces params)

-- `coproc f(x: T) -> (y: U)` on a line.
abbrev pub head_line : Procedure → List Piece
head_line p =
    key (proc_key p.co) then space then word p.name then params_pieces p.inputs
    then space then mark marks.Arrow then space then params_pieces p.outputs then feed

-- `  pre a` on a line.
abbrev pub pre_line : Expression → List Piece
pre_line a = margin 2 then key keys.Pre then space then expression_pieces a then feed

-- `  post a` on a line.
abbrev pub post_line : Expression → List Piece
post_line a = margin 2 then key keys.Post then space then expression_pieces a then feed

-- `{`, the statements and `}`, or nothing without a body.
abbrev pub body_lines : Option Block → List Piece
body_lines None = []
body_lines (Some b) = mark marks.BraceLeft then feed then block_lines 2 b then mark marks.BraceRight
    then feed

-- The lines of a procedure: its note, its head, its pre clauses, its post clauses and its body.
abbrev pub procedure_lines : Procedure → List Piece
procedure_lines p = note_line p.note then head_line p then each pre_line p.pres
    then each post_line p.posts then body_lines p.body

-- The lines of a file: its procedures, with one empty line between them.
abbrev pub file_lines : List Procedure → List Piece
file_lines = separated feed procedure_lines

-- The canonical text of a file.
abbrev pub canonical_text : List Procedure → List ℕ
canonical_text file = text_of (file_lines file)
