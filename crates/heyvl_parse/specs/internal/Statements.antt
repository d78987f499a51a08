-- Reading statements and blocks.
use Prim.Native.Nat.{suc, zero}
use Rattle.heyvl_parse.specs.readers.Combinators.{each, either, is_key, is_there, kind, lead, list}
use Rattle.heyvl_parse.specs.readers.Combinators.{optional, refuse, spanned, starts, taken, trail}
use Rattle.heyvl_parse.specs.internal.Loops.{rules}
use Rattle.heyvl_parse.specs.readers.ReadParts.{Bad, Got, Out, Read, expr, is_mark, mapped, pair}
use Rattle.heyvl_parse.specs.readers.ReadParts.{type_name, word, ◌>>=◌}
use Rattle.heyvl_parse.specs.internal.Rights.{call, call_tree, is_call, right}
use Rattle.heyvl_parse.specs.declared.statements.Link.TheVariants as steps
use Rattle.heyvl_parse.specs.declared.statements.Link.{Link}
use Rattle.heyvl_parse.specs.declared.statements.Opening.TheVariants as openings
use Rattle.heyvl_parse.specs.declared.statements.Opening.{Opening}
use Rattle.heyvl_syntax.specs.Expressions.{Expression}
use Rattle.heyvl_syntax.specs.Productions.{extent}
use Rattle.heyvl_syntax.specs.Statements.{Block, LoopRule, RightSide, Statement, arms_of, block}
use Rattle.heyvl_syntax.specs.Statements.{block_of, guarded}
use Rattle.heyvl_syntax.specs.declared.keys.Key.TheVariants as keys
use Rattle.heyvl_syntax.specs.declared.keys.Key.{Key}
use Rattle.heyvl_syntax.specs.declared.marks.Mark.TheVariants as marks
use Rattle.heyvl_syntax.specs.declared.marks.Mark.{Mark}
use Rattle.heyvl_places.specs.declared.spans.Span.{Span}
use Rattle.heyvl_places.specs.declared.checks.CheckKind.TheVariants as checks
use Rattle.heyvl_places.specs.declared.checks.CheckKind.{CheckKind}
use Rattle.heyvl_syntax.specs.declared.tokens.Token.{Token}
use Rattle.heyvl_syntax.specs.declared.tokens.TokenKind.TheVariants as kinds
use Rattle.heyvl_syntax.specs.declared.tokens.TokenKind.{TokenKind}
use Rattle.heyvl_syntax.specs.declared.types.TypeName.{TypeName}
use Rattle.std.specs.Prelude.{Bool, List, None, Option, Some, [], cond, false, true, ◌++◌, ◌<◌, ◌∷◌}
use Rattle.std.specs.Prelude.{◌≤◌, ℕ}

-- `'=' right`
abbrev pub given : ℕ → List Token → Read RightSide
given n ts = lead (is_mark marks.Assign) (right n) ts

-- `'var' W ':' type ('=' right)?`
abbrev pub declared : ℕ → List Token → Read (List ℕ × (TypeName × Option RightSide))
declared n ts = lead (is_key keys.Var)
    (pair word (lead (is_mark marks.Colon)
    (pair type_name (optional (is_mark marks.Assign) (given n))))) ts

abbrev pub var_tree : List ℕ × (TypeName × Option RightSide) → Span → Statement
var_tree p s = Statement.var p.0 p.1.0 p.1.1 s

abbrev pub alone : List ℕ × List Expression → List (List ℕ) × RightSide
alone p = ([], call_tree p)

abbrev pub assigned_if : ℕ → Bool → List Token → Read (List (List ℕ) × RightSide)
assigned_if n true ts = mapped alone (call n) ts
assigned_if n false ts = pair (list word n) (given n) ts

-- `list(W) '=' right  |  W '(' list0(expr) ')'`
abbrev pub assigned : ℕ → List Token → Read (List (List ℕ) × RightSide)
assigned n ts = assigned_if n (is_call ts) ts

abbrev pub assign_tree : List (List ℕ) × RightSide → Span → Statement
assign_tree p s = Statement.assign p.0 p.1 s

-- The assignment of the right side that `read` gives to `targets`. Its place reaches from the first
-- of the tokens `ts` to the last one before the rest of `read`.
abbrev pub valued : List (List ℕ) → List Token → Read RightSide → Read Statement
valued targets ts read = read >>= λ x r. Got (assign_tree (targets, x) (extent (taken ts r))) r

abbrev pub key_check : Key → Option CheckKind
key_check keys.Assert = Some checks.Assert
key_check keys.Assume = Some checks.Assume
key_check keys.CoAssert = Some checks.CoAssert
key_check keys.CoAssume = Some checks.CoAssume
key_check _ = None

abbrev pub key_validate : Key → Option Bool
key_validate keys.Validate = Some false
key_validate keys.CoValidate = Some true
key_validate _ = None

abbrev pub key_havoc : Key → Option Bool
key_havoc keys.Havoc = Some false
key_havoc keys.CoHavoc = Some true
key_havoc _ = None

abbrev pub key_pick : Key → Option Bool
key_pick keys.Cap = Some false
key_pick keys.Cup = Some true
key_pick _ = None

-- The value of `of` at a keyword; nothing for any other token.
abbrev pub by_key : {A : Type 0} → (Key → Option A) → TokenKind → Option A
by_key of (kinds.Key k) = of k
by_key of (kinds.Word w) = None
by_key of (kinds.Number n) = None
by_key of (kinds.Mark m) = None

abbrev pub checked : ℕ → List Token → Read (CheckKind × Expression)
checked n ts = pair (kind (by_key key_check)) (expr n) ts

abbrev pub check_tree : CheckKind × Expression → Span → Statement
check_tree p s = Statement.check p.0 p.1 s

abbrev pub havocked : ℕ → List Token → Read (Bool × List (List ℕ))
havocked n ts = pair (kind (by_key key_havoc)) (list word n) ts

abbrev pub havoc_tree : Bool × List (List ℕ) → Span → Statement
havoc_tree p s = Statement.havoc p.0 p.1 s

abbrev pub is_reward : TokenKind → Bool
is_reward k = either (is_key keys.Reward) (is_key keys.Tick) k

-- `('reward'|'tick') expr`
abbrev pub rewarded : ℕ → List Token → Read Expression
rewarded n ts = lead is_reward (expr n) ts

-- A reader of blocks with their braces.
abbrev pub BlockReader : Type 0
BlockReader = List Token → Read Block

abbrev pub braced : BlockReader → BlockReader
braced inside ts = lead (is_mark marks.BraceLeft) (trail inside (is_mark marks.BraceRight)) ts

-- What follows an arm of an `if`: a further arm, or the block of the last `else`.
pub data Next : Type 0 where
  again : Expression × Block → Next
  last : Block → Next

abbrev pub arm : ℕ → BlockReader → List Token → Read (Expression × Block)
arm n block ts = pair (expr n) block ts

abbrev pub else_by : ℕ → BlockReader → Bool → List Token → Read Next
else_by n block true ts = mapped Next.again (lead (is_key keys.If) (arm n block)) ts
else_by n block false ts = mapped Next.last block ts

abbrev pub behind_else : ℕ → BlockReader → List Token → Read Next
behind_else n block ts = else_by n block (starts (is_key keys.If) ts) ts

abbrev pub link_by : ℕ → BlockReader → Bool → List Token → Read Next
link_by n block true ts = lead (is_key keys.Else) (behind_else n block) ts
link_by n block false ts = Got (Next.last Block.done) ts

abbrev pub link : ℕ → BlockReader → List Token → Read Next
link n block ts = link_by n block (starts (is_key keys.Else) ts) ts

abbrev pub Links : Type 0
Links = List (Expression × Block) × Block

abbrev pub fronted : List (Expression × Block) → Read Links → Read Links
fronted before (Got x r) = Got (before ++ x.0, x.1) r
fronted before (Bad r) = Bad r
fronted before Out = Out

abbrev pub further : (List Token → Read Links) → Next → List Token → Read Links
further others (Next.last b) r = Got ([], b) r
further others (Next.again a) r = fronted (a ∷ []) (others r)

-- `('else' 'if' expr block)* ('else' block)?`
abbrev pub links : ℕ → BlockReader → ℕ → List Token → Read Links
links n block zero ts = Out
links n block (suc k) ts = link n block ts >>= further (links n block k)

abbrev pub else_if : BlockReader → Bool → List Token → Read Block
else_if block true ts = lead (is_key keys.Else) block ts
else_if block false ts = Got Block.done ts

-- `('else' block)?`
abbrev pub otherwise : BlockReader → List Token → Read Block
otherwise block ts = else_if block (starts (is_key keys.Else) ts) ts

-- What follows the keyword `if`: arms, or a choice of two blocks.
pub data IfParts : Type 0 where
  branching : Links → IfParts
  picking : Bool × (Block × Block) → IfParts

abbrev pub if_tree : IfParts → Span → Statement
if_tree (IfParts.branching p) s = Statement.branch (arms_of p.0) p.1 s
if_tree (IfParts.picking p) s = Statement.pick p.0 p.1.0 p.1.1 s

-- `expr block ('else' 'if' expr block)* ('else' block)?`
abbrev pub branched : ℕ → BlockReader → List Token → Read Links
branched n block ts = arm n block ts >>= λ a r. fronted (a ∷ []) (links n block n r)

abbrev pub picked : BlockReader → List Token → Read (Bool × (Block × Block))
picked block ts = pair (kind (by_key key_pick)) (pair block (otherwise block)) ts

abbrev pub is_pick : TokenKind → Bool
is_pick k = is_there (by_key key_pick k)

abbrev pub if_by : ℕ → BlockReader → Bool → List Token → Read IfParts
if_by n block true ts = mapped IfParts.picking (picked block) ts
if_by n block false ts = mapped IfParts.branching (branched n block) ts

abbrev pub behind_if : ℕ → BlockReader → List Token → Read IfParts
behind_if n block ts = if_by n block (starts is_pick ts) ts

abbrev pub if_parts : ℕ → BlockReader → List Token → Read IfParts
if_parts n block ts = lead (is_key keys.If) (behind_if n block) ts

abbrev pub Looped : Type 0
Looped = List LoopRule × (Expression × Block)

-- `rule* 'while' expr block`
abbrev pub looped : ℕ → BlockReader → List Token → Read Looped
looped n block ts = pair (rules n) (lead (is_key keys.While) (pair (expr n) block)) ts

abbrev pub loop_tree : Looped → Span → Statement
loop_tree p s = Statement.loop p.0 p.1.0 p.1.1 s

abbrev pub key_opening : Key → Opening
key_opening keys.Var = openings.Var
key_opening keys.Assert = openings.Check
key_opening keys.Assume = openings.Check
key_opening keys.CoAssert = openings.Check
key_opening keys.CoAssume = openings.Check
key_opening keys.Validate = openings.Validate
key_opening keys.CoValidate = openings.Validate
key_opening keys.Havoc = openings.Havoc
key_opening keys.CoHavoc = openings.Havoc
key_opening keys.Reward = openings.Reward
key_opening keys.Tick = openings.Reward
key_opening keys.If = openings.If
key_opening keys.While = openings.Loop
key_opening _ = openings.Other

abbrev pub mark_opening : Mark → Opening
mark_opening marks.AtSign = openings.Loop
mark_opening _ = openings.Other

-- The kind of statement that a token begins.
abbrev pub kind_opening : TokenKind → Opening
kind_opening (kinds.Word w) = openings.Assign
kind_opening (kinds.Key k) = key_opening k
kind_opening (kinds.Mark m) = mark_opening m
kind_opening (kinds.Number n) = openings.Other

abbrev pub opening : List Token → Opening
opening [] = openings.Other
opening (t ∷ ts) = kind_opening t.kind

abbrev pub opens : Opening → Bool
opens openings.Var = true
opens openings.Assign = true
opens openings.Check = true
opens openings.Validate = true
opens openings.Havoc = true
opens openings.Reward = true
opens openings.If = true
opens openings.Loop = true
opens openings.Other = false

abbrev pub is_opening : TokenKind → Bool
is_opening k = opens (kind_opening k)

abbrev pub stmt_by : ℕ → BlockReader → Opening → List Token → Read Statement
stmt_by n block openings.Var ts = spanned var_tree (declared n) ts
stmt_by n block openings.Assign ts = spanned assign_tree (assigned n) ts
stmt_by n block openings.Check ts = spanned check_tree (checked n) ts
stmt_by n block openings.Validate ts = spanned Statement.validate (kind (by_key key_validate)) ts
stmt_by n block openings.Havoc ts = spanned havoc_tree (havocked n) ts
stmt_by n block openings.Reward ts = spanned Statement.reward (rewarded n) ts
stmt_by n block openings.If ts = spanned if_tree (if_parts n block) ts
stmt_by n block openings.Loop ts = spanned loop_tree (looped n block) ts
stmt_by n block openings.Other ts = refuse ts

-- `stmt`
abbrev pub stmt : ℕ → BlockReader → List Token → Read Statement
stmt n block ts = stmt_by n block (opening ts) ts

abbrev pub skip : List Token → List Token
skip [] = []
skip (t ∷ ts) = cond (is_mark marks.Semi t.kind) (skip ts) (t ∷ ts)

-- `stmt ';'*`
abbrev pub entry : ℕ → BlockReader → List Token → Read Statement
entry n block ts = stmt n block ts >>= λ x r. Got x (skip r)

-- `(stmt ';'*)*`
abbrev pub stmts : ℕ → BlockReader
stmts zero ts = Out
stmts (suc m) ts = mapped block_of (each is_opening (entry (suc m) (braced (stmts m))) (suc m)) ts

abbrev pub next_of : Link → Next
next_of (steps.Again a) = Next.again (guarded a)
next_of (steps.Last b) = Next.last (block b.items)

-- `Shortens link rest all`: `rest` is less than `all` after an arm, which takes tokens, and at most
-- `all` after the end of the arms, which may take none.
abbrev pub Shortens : Link → ℕ → ℕ → Type 0
Shortens (steps.Again a) rest all = rest < all
Shortens (steps.Last b) rest all = rest ≤ all
