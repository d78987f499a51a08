-- Reading commands and blocks.
use Prim.Native.Nat.{suc, zero}
use Rattle.heyvl_parse.specs.readers.Combinators.{each, is_key, lead, refuse, sign, spanned, starts}
use Rattle.heyvl_parse.specs.readers.Combinators.{trail}
use Rattle.heyvl_parse.specs.readers.ReadParts.{Out, Read, expr, is_mark, mapped, pair, word, ◌>>=◌}
use Rattle.heyvl_places.specs.declared.spans.Span.{Span}
use Rattle.heyvl_syntax.specs.Expressions.{Expression}
use Rattle.heyvl_syntax.specs.declared.keys.Key.TheVariants as keys
use Rattle.heyvl_syntax.specs.declared.keys.Key.{Key}
use Rattle.heyvl_syntax.specs.declared.marks.Mark.TheVariants as marks
use Rattle.heyvl_syntax.specs.declared.marks.Mark.{Mark}
use Rattle.heyvl_syntax.specs.declared.tokens.Token.{Token}
use Rattle.heyvl_syntax.specs.declared.tokens.TokenKind.TheVariants as kinds
use Rattle.heyvl_syntax.specs.declared.tokens.TokenKind.{TokenKind}
use Rattle.guarded_commands.specs.Programs.{BlockTree, CommandTree, block_of}
use Rattle.guarded_commands.specs.declared.commands.Opening.TheVariants as openings
use Rattle.guarded_commands.specs.declared.commands.Opening.{Opening}
use Rattle.std.specs.Cmp.Lexicographic.{pointwise}
use Rattle.std.specs.Prelude.{Bool, List, [], codes, false, nat_eq, true, ◌&&◌, ◌∷◌, ℕ}

-- `'(' expr ')'`
abbrev pub enclosed : ℕ → List Token → Read Expression
enclosed n ts = lead (is_mark marks.ParenLeft) (trail (expr n) (is_mark marks.ParenRight)) ts

-- `expr ';'`
abbrev pub ended_expr : ℕ → List Token → Read Expression
ended_expr n ts = trail (expr n) (is_mark marks.Semi) ts

-- A command that begins with an identifier: `skip`, or an assignment.
pub data Named : Type 0 where
  skipping : Named
  giving : List ℕ → Expression → Named

abbrev pub named_tree : Named → Span → CommandTree
named_tree Named.skipping s = CommandTree.skip s
named_tree (Named.giving x e) s = CommandTree.assign x e s

abbrev pub is_skip : List ℕ → Bool
is_skip w = pointwise nat_eq w (codes "skip")

-- `':' '=' expr ';'`
abbrev pub given : ℕ → List Token → Read Expression
given n ts = lead (is_mark marks.Colon) (lead (is_mark marks.Assign) (ended_expr n)) ts

abbrev pub skipped : List Token → Read Named
skipped ts = mapped (λ s. Named.skipping) (sign (is_mark marks.Semi)) ts

abbrev pub named_by : ℕ → List ℕ → Bool → List Token → Read Named
named_by n w true ts = skipped ts
named_by n w false ts = mapped (Named.giving w) (given n) ts

-- Reads what follows the identifier `w` of a command.
abbrev pub behind_word : ℕ → List ℕ → List Token → Read Named
behind_word n w ts = named_by n w (is_skip w && starts (is_mark marks.Semi) ts) ts

-- `'skip' ';' | W ':' '=' expr ';'`
abbrev pub named : ℕ → List Token → Read Named
named n ts = word ts >>= behind_word n

-- `'tick' '(' expr ')' ';'`
abbrev pub ticked : ℕ → List Token → Read Expression
ticked n ts = lead (is_key keys.Tick) (trail (enclosed n) (is_mark marks.Semi)) ts

-- A reader of blocks with their braces.
abbrev pub BlockReader : Type 0
BlockReader = List Token → Read BlockTree

abbrev pub braced : BlockReader → BlockReader
braced inside ts = lead (is_mark marks.BraceLeft) (trail inside (is_mark marks.BraceRight)) ts

abbrev pub Branched : Type 0
Branched = Expression × (BlockTree × BlockTree)

abbrev pub branch_tree : Branched → Span → CommandTree
branch_tree p s = CommandTree.branch p.0 p.1.0 p.1.1 s

-- `'if' '(' expr ')' pblock 'else' pblock`
abbrev pub branched : ℕ → BlockReader → List Token → Read Branched
branched n block ts = lead (is_key keys.If)
    (pair (enclosed n) (pair block (lead (is_key keys.Else) block))) ts

-- `expr ']' pblock`
abbrev pub bracketed : ℕ → BlockReader → List Token → Read (Expression × BlockTree)
bracketed n block ts = pair (expr n) (lead (is_mark marks.BracketRight) block) ts

-- What follows a block and `[`: a probability and the other block, or the other block alone.
pub data Side : Type 0 where
  weighed : Expression × BlockTree → Side
  free : BlockTree → Side

abbrev pub side_by : ℕ → BlockReader → Bool → List Token → Read Side
side_by n block true ts = mapped Side.free (lead (is_mark marks.BracketRight) block) ts
side_by n block false ts = mapped Side.weighed (bracketed n block) ts

-- `expr ']' pblock | ']' pblock`
abbrev pub side : ℕ → BlockReader → List Token → Read Side
side n block ts = side_by n block (starts (is_mark marks.BracketRight) ts) ts

abbrev pub fork_tree : BlockTree × Side → Span → CommandTree
fork_tree (a, Side.weighed p) s = CommandTree.mix p.0 a p.1 s
fork_tree (a, Side.free b) s = CommandTree.choice a b s

-- `pblock '[' expr ']' pblock | pblock '[' ']' pblock`
abbrev pub forked : ℕ → BlockReader → List Token → Read (BlockTree × Side)
forked n block ts = pair block (lead (is_mark marks.BracketLeft) (side n block)) ts

abbrev pub Repeated : Type 0
Repeated = Expression × (Expression × BlockTree)

abbrev pub repeat_tree : Repeated → Span → CommandTree
repeat_tree p s = CommandTree.repeat p.0 p.1.0 p.1.1 s

-- `'while' '(' expr ')' '[' expr ']' pblock`
abbrev pub repeated : ℕ → BlockReader → List Token → Read Repeated
repeated n block ts = lead (is_key keys.While)
    (pair (enclosed n) (lead (is_mark marks.BracketLeft) (bracketed n block))) ts

abbrev pub key_opening : Key → Opening
key_opening keys.Tick = openings.Tick
key_opening keys.If = openings.If
key_opening keys.While = openings.While
key_opening _ = openings.Other

abbrev pub mark_opening : Mark → Opening
mark_opening marks.BraceLeft = openings.Block
mark_opening _ = openings.Other

-- The kind of command that a token begins.
abbrev pub kind_opening : TokenKind → Opening
kind_opening (kinds.Word w) = openings.Word
kind_opening (kinds.Key k) = key_opening k
kind_opening (kinds.Mark m) = mark_opening m
kind_opening (kinds.Number n) = openings.Other

abbrev pub opening : List Token → Opening
opening [] = openings.Other
opening (t ∷ ts) = kind_opening t.kind

abbrev pub opens : Opening → Bool
opens openings.Word = true
opens openings.Tick = true
opens openings.If = true
opens openings.Block = true
opens openings.While = true
opens openings.Other = false

abbrev pub is_opening : TokenKind → Bool
is_opening k = opens (kind_opening k)

abbrev pub command_by : ℕ → BlockReader → Opening → List Token → Read CommandTree
command_by n block openings.Word ts = spanned named_tree (named n) ts
command_by n block openings.Tick ts = spanned CommandTree.tick (ticked n) ts
command_by n block openings.If ts = spanned branch_tree (branched n block) ts
command_by n block openings.Block ts = spanned fork_tree (forked n block) ts
command_by n block openings.While ts = spanned repeat_tree (repeated n block) ts
command_by n block openings.Other ts = refuse ts

-- `pstmt`
abbrev pub command : ℕ → BlockReader → List Token → Read CommandTree
command n block ts = command_by n block (opening ts) ts

-- `pstmt*`
abbrev pub commands : ℕ → BlockReader
commands zero ts = Out
commands (suc m) ts = mapped block_of
    (each is_opening (command (suc m) (braced (commands m))) (suc m)) ts
