-- Worked examples of the grammar of statements: small texts with the trees that they spell, and
-- trees that they do not spell.
use Rattle.heyvl_places.specs.declared.checks.CheckKind.{CheckKind}
use Rattle.heyvl_places.specs.declared.spans.Span.{Span}
use Rattle.heyvl_syntax.proofs.Sequences.{nothing_then, one_then, or_then, semis_then, then_assoc, then_map}
use Rattle.heyvl_syntax.proofs.Texts.{a, b, c, key, leaf, name, placed, sign, span, text, token, word}
use Rattle.heyvl_syntax.specs.Expressions.{Expression}
use Rattle.heyvl_syntax.specs.Grammar.{IsBlock, IsElse, IsStmts, IsRight, IsRule, IsStmt, IsType, check_key, havoc_key, pick_key, type_key, validate_key}
use Rattle.heyvl_syntax.specs.Productions.{AreSemis, IsKey, IsMark, IsNothing, at, ◌then◌}
use Rattle.heyvl_syntax.specs.Statements.{Arms, Block, LoopRule, RightSide, Statement}
use Rattle.heyvl_syntax.specs.declared.keys.Key.TheVariants as keys
use Rattle.heyvl_syntax.specs.declared.keys.Key.{Key}
use Rattle.heyvl_syntax.specs.declared.marks.Mark.TheVariants as marks
use Rattle.heyvl_syntax.specs.declared.marks.Mark.{Mark}
use Rattle.heyvl_syntax.specs.declared.tokens.Token.{Token}
use Rattle.heyvl_syntax.specs.declared.tokens.TokenKind.TheVariants as kinds
use Rattle.heyvl_syntax.specs.declared.types.TypeName.TheVariants as types
use Rattle.heyvl_syntax.specs.declared.types.TypeName.{TypeName}
use Rattle.std.proofs.Common.{Bool, List, None, Some, [], codes, false, inl, inr, refl, true, ◌+◌, ◌∷◌, ◌≡◌, ◌⊎◌, ℕ}

-- One statement, without a semicolon after it.
one : {s : Span} → IsStmts (Block.next (Statement.validate false s) Block.done) (at (key keys.Validate) s ∷ [])
one {s = s} = (_, [], leaf, ([], [], tt, refl, refl), refl)

-- type
type_names : (t : TypeName) → IsType t (text (key (type_key t) ∷ []))
type_names t = token

-- 'flip' '(' expr ')'
flips : IsRight (RightSide.flip (name a 2)) (text (key keys.Flip ∷ sign marks.ParenLeft ∷ word a ∷ sign marks.ParenRight ∷ []))
flips = (_, _, token, (_, _, token, (_, _, leaf, token, refl), refl), refl)

-- 'unif' '(' expr ',' expr ')'
unifs :
    IsRight (RightSide.unif (name a 2) (name b 4))
    (text (key keys.Unif ∷ sign marks.ParenLeft ∷ word a ∷ sign marks.Comma ∷ word b ∷ sign marks.ParenRight ∷ []))
unifs = (_, _, token, (_, _, token, (_, _, leaf, (_, _, token, (_, _, leaf, token, refl), refl), refl), refl), refl)

-- 'choose' '{' list(expr ':' expr) '}', with one part and with two.
chooses_one :
    IsRight (RightSide.choose ((name a 2, name b 4) ∷ []))
    (text (key keys.Choose ∷ sign marks.BraceLeft ∷ word a ∷ sign marks.Colon ∷ word b ∷ sign marks.BraceRight ∷ []))
chooses_one =
    (_, _, token, (_, _, token, (_, _, (_, _, (_, _, leaf, (_, _, token, leaf, refl), refl), refl, refl), token, refl), refl), refl)

chooses_two :
    IsRight (RightSide.choose ((name a 2, name b 4) ∷ (name b 6, name c 8) ∷ []))
    (text (key keys.Choose ∷ sign marks.BraceLeft ∷ word a ∷ sign marks.Colon ∷ word b ∷ sign marks.Comma ∷ word b ∷ sign marks.Colon ∷ word c ∷ sign marks.BraceRight ∷ []))
chooses_two =
    (_, _, token, (_, _, token, (_, _, (_, _, (_, _, leaf, (_, _, token, leaf, refl), refl), (_, _, token, (_, _, (_, _, leaf, (_, _, token, leaf, refl), refl), refl, refl), refl), refl), token, refl), refl), refl)

-- A choose has at least one alternative.
chooses_none : (ts : List Token) → IsRight (RightSide.choose []) ts → ⊥
chooses_none ts spelled = spelled.3.3.2

-- W '(' list0(expr) ')', with no argument and with two.
calls_none : IsRight (RightSide.call a []) (text (word a ∷ sign marks.ParenLeft ∷ sign marks.ParenRight ∷ []))
calls_none = (_, _, token, (_, _, token, (_, _, refl, token, refl), refl), refl)

calls_two :
    IsRight (RightSide.call a (name b 2 ∷ name c 4 ∷ []))
    (text (word a ∷ sign marks.ParenLeft ∷ word b ∷ sign marks.Comma ∷ word c ∷ sign marks.ParenRight ∷ []))
calls_two =
    (_, _, token, (_, _, token, (_, _, (_, _, leaf, (_, _, token, (_, _, leaf, refl, refl), refl), refl), token, refl), refl), refl)

-- expr
plains : IsRight (RightSide.plain (name a 0)) (text (word a ∷ []))
plains = leaf

-- rule
invariants :
    IsRule (LoopRule.invariant (name a 3) (span 0 5))
    (text (sign marks.AtSign ∷ word (codes "invariant") ∷ sign marks.ParenLeft ∷ word a ∷ sign marks.ParenRight ∷ []))
invariants = ((_, _, token, (_, _, token, (_, _, token, (_, _, leaf, token, refl), refl), refl), refl), refl)

k_inductions :
    IsRule (LoopRule.k_induction (name a 3) (name b 5) (span 0 7))
    (text (sign marks.AtSign ∷ word (codes "k_induction") ∷ sign marks.ParenLeft ∷ word a ∷ sign marks.Comma ∷ word b ∷ sign marks.ParenRight ∷ []))
k_inductions =
    ((_, _, token, (_, _, token, (_, _, token, (_, _, leaf, (_, _, token, (_, _, leaf, token, refl), refl), refl), refl), refl), refl), refl)

rankings :
    IsRule (LoopRule.ranking (name a 3) (name b 5) (span 0 7))
    (text (sign marks.AtSign ∷ word (codes "ranking") ∷ sign marks.ParenLeft ∷ word a ∷ sign marks.Comma ∷ word b ∷ sign marks.ParenRight ∷ []))
rankings =
    ((_, _, token, (_, _, token, (_, _, token, (_, _, leaf, (_, _, token, (_, _, leaf, token, refl), refl), refl), refl), refl), refl), refl)

-- 'var' W ':' type ('=' right)?
var_alone :
    IsStmt (Statement.var a types.Int None (span 0 4)) (text (key keys.Var ∷ word a ∷ sign marks.Colon ∷ key keys.IntWord ∷ []))
var_alone = ((_, _, token, (_, _, token, (_, _, token, (_, _, token, refl, refl), refl), refl), refl), refl)

var_given :
    IsStmt (Statement.var a types.Int (Some (RightSide.plain (name b 5))) (span 0 6))
    (text (key keys.Var ∷ word a ∷ sign marks.Colon ∷ key keys.IntWord ∷ sign marks.Assign ∷ word b ∷ []))
var_given = ((_, _, token, (_, _, token, (_, _, token, (_, _, token, (_, _, token, leaf, refl), refl), refl), refl), refl), refl)

-- list(W) '=' right, with one target and with two.
assigns_one :
    IsStmt (Statement.assign (a ∷ []) (RightSide.plain (name b 2)) (span 0 3)) (text (word a ∷ sign marks.Assign ∷ word b ∷ []))
assigns_one = ((_, _, (_, _, token, refl, refl), (_, _, token, leaf, refl), refl), refl)

assigns_two :
    IsStmt (Statement.assign (a ∷ b ∷ []) (RightSide.call c []) (span 0 7))
    (text (word a ∷ sign marks.Comma ∷ word b ∷ sign marks.Assign ∷ word c ∷ sign marks.ParenLeft ∷ sign marks.ParenRight ∷ []))
assigns_two =
    ((_, _, (_, _, token, (_, _, token, (_, _, token, refl, refl), refl), refl), (_, _, token, (_, _, token, (_, _, token, (_, _, refl, token, refl), refl), refl), refl), refl), refl)

-- W '(' list0(expr) ')'
call_alone :
    IsStmt (Statement.assign [] (RightSide.call a (name b 2 ∷ [])) (span 0 4))
    (text (word a ∷ sign marks.ParenLeft ∷ word b ∷ sign marks.ParenRight ∷ []))
call_alone = ((_, _, token, (_, _, token, (_, _, (_, _, leaf, refl, refl), token, refl), refl), refl), refl)

-- An expression alone is no statement.
expression_alone : (x : Expression) (s : Span) (ts : List Token) → IsStmt (Statement.assign [] (RightSide.plain x) s) ts → ⊥
expression_alone x s ts spelled = spelled.0

-- ('assert'|'assume'|'coassert'|'coassume') expr
checks : (kind : CheckKind) → IsStmt (Statement.check kind (name a 1) (span 0 2)) (text (key (check_key kind) ∷ word a ∷ []))
checks kind = ((_, _, token, leaf, refl), refl)

-- 'validate' | 'covalidate'
validates : (co : Bool) → IsStmt (Statement.validate co (span 0 1)) (text (key (validate_key co) ∷ []))
validates co = leaf

-- ('havoc'|'cohavoc') list(W)
havocs : (co : Bool) →
    IsStmt (Statement.havoc co (a ∷ b ∷ []) (span 0 4)) (text (key (havoc_key co) ∷ word a ∷ sign marks.Comma ∷ word b ∷ []))
havocs co = ((_, _, token, (_, _, token, (_, _, token, (_, _, token, refl, refl), refl), refl), refl), refl)

havocs_none : (co : Bool) (s : Span) (ts : List Token) → IsStmt (Statement.havoc co [] s) ts → ⊥
havocs_none co s ts spelled = spelled.0.3

-- ('reward'|'tick') expr
rewards : IsStmt (Statement.reward (name a 1) (span 0 2)) (text (key keys.Reward ∷ word a ∷ []))
rewards = ((_, _, inl token, leaf, refl), refl)

ticks : IsStmt (Statement.reward (name a 1) (span 0 2)) (text (key keys.Tick ∷ word a ∷ []))
ticks = ((_, _, inr token, leaf, refl), refl)

-- 'if' expr block, without else and with one. A missing else is the empty block.
validate_at : ℕ → Block
validate_at i = Block.next (Statement.validate false (span i (i + 1))) Block.done

if_alone :
    IsStmt (Statement.branch (Arms.arm (name a 1) Block.done Arms.no_arm) Block.done (span 0 4))
    (text (key keys.If ∷ word a ∷ sign marks.BraceLeft ∷ sign marks.BraceRight ∷ []))
if_alone =
    ((_, _, (_, _, token, (_, _, leaf, (_, _, (_, _, token, (_, _, refl, token, refl), refl), refl, refl), refl), refl), inr (refl, refl), refl), refl)

if_empty_else :
    IsStmt (Statement.branch (Arms.arm (name a 1) Block.done Arms.no_arm) Block.done (span 0 7))
    (text (key keys.If ∷ word a ∷ sign marks.BraceLeft ∷ sign marks.BraceRight ∷ key keys.Else ∷ sign marks.BraceLeft ∷ sign marks.BraceRight ∷ []))
if_empty_else =
    ((_, _, (_, _, token, (_, _, leaf, (_, _, (_, _, token, (_, _, refl, token, refl), refl), refl, refl), refl), refl), inl (_, _, token, (_, _, token, (_, _, refl, token, refl), refl), refl), refl), refl)

if_else :
    IsStmt (Statement.branch (Arms.arm (name a 1) (validate_at 3) Arms.no_arm) (validate_at 7) (span 0 9))
    (text (key keys.If ∷ word a ∷ sign marks.BraceLeft ∷ key keys.Validate ∷ sign marks.BraceRight ∷ key keys.Else ∷ sign marks.BraceLeft ∷ key keys.Validate ∷ sign marks.BraceRight ∷ []))
unfolding validate_at
if_else =
    ((_, _, (_, _, token, (_, _, leaf, (_, _, (_, _, token, (_, _, one, token, refl), refl), refl, refl), refl), refl), inl (_, _, token, (_, _, token, (_, _, one, token, refl), refl), refl), refl), refl)

-- ('else' 'if' expr block)*
else_if :
    IsStmt (Statement.branch (Arms.arm (name a 1) Block.done (Arms.arm (name b 6) Block.done Arms.no_arm)) Block.done (span 0 12))
    (text (key keys.If ∷ word a ∷ sign marks.BraceLeft ∷ sign marks.BraceRight ∷ key keys.Else ∷ key keys.If ∷ word b ∷ sign marks.BraceLeft ∷ sign marks.BraceRight ∷ key keys.Else ∷ sign marks.BraceLeft ∷ sign marks.BraceRight ∷ []))
else_if =
    ((_, _, (_, _, token, (_, _, leaf, (_, _, (_, _, token, (_, _, refl, token, refl), refl), (_, _, token, (_, _, token, (_, _, leaf, (_, _, (_, _, token, (_, _, refl, token, refl), refl), refl, refl), refl), refl), refl), refl), refl), refl), inl (_, _, token, (_, _, token, (_, _, refl, token, refl), refl), refl), refl), refl)

-- An if has at least one arm.
if_without_arm : (other : Block) (s : Span) (ts : List Token) → IsStmt (Statement.branch Arms.no_arm other s) ts → ⊥
if_without_arm other s ts spelled = spelled.0.2

-- 'if' ('\\cap'|'\\cup') block ('else' block)?
picks : (up : Bool) →
    IsStmt (Statement.pick up Block.done (validate_at 6) (span 0 8))
    (text (key keys.If ∷ key (pick_key up) ∷ sign marks.BraceLeft ∷ sign marks.BraceRight ∷ key keys.Else ∷ sign marks.BraceLeft ∷ key keys.Validate ∷ sign marks.BraceRight ∷ []))
unfolding validate_at
picks up =
    ((_, _, token, (_, _, token, (_, _, (_, _, token, (_, _, refl, token, refl), refl), inl (_, _, token, (_, _, token, (_, _, one, token, refl), refl), refl), refl), refl), refl), refl)

pick_without_else : (up : Bool) →
    IsStmt (Statement.pick up Block.done Block.done (span 0 4))
    (text (key keys.If ∷ key (pick_key up) ∷ sign marks.BraceLeft ∷ sign marks.BraceRight ∷ []))
pick_without_else up =
    ((_, _, token, (_, _, token, (_, _, (_, _, token, (_, _, refl, token, refl), refl), inr (refl, refl), refl), refl), refl), refl)

-- rule* 'while' expr block, without an annotation and with one. The place of the loop begins at its
-- first annotation.
loop_alone :
    IsStmt (Statement.loop [] (name a 1) Block.done (span 0 4))
    (text (key keys.While ∷ word a ∷ sign marks.BraceLeft ∷ sign marks.BraceRight ∷ []))
loop_alone = ((_, _, refl, (_, _, token, (_, _, leaf, (_, _, token, (_, _, refl, token, refl), refl), refl), refl), refl), refl)

loop_with_rule :
    IsStmt (Statement.loop (LoopRule.invariant (name b 3) (span 0 5) ∷ []) (name a 6) Block.done (span 0 9))
    (text (sign marks.AtSign ∷ word (codes "invariant") ∷ sign marks.ParenLeft ∷ word b ∷ sign marks.ParenRight ∷ key keys.While ∷ word a ∷ sign marks.BraceLeft ∷ sign marks.BraceRight ∷ []))
loop_with_rule =
    ((_, _, (_, _, ((_, _, token, (_, _, token, (_, _, token, (_, _, leaf, token, refl), refl), refl), refl), refl), refl, refl), (_, _, token, (_, _, leaf, (_, _, token, (_, _, refl, token, refl), refl), refl), refl), refl), refl)

-- '{' (stmt ';'*)* '}': statements one after another, without and with semicolons.
empty_block : IsBlock Block.done (text (sign marks.BraceLeft ∷ sign marks.BraceRight ∷ []))
empty_block = (_, _, token, (_, _, refl, token, refl), refl)

two_statements :
    IsBlock (Block.next (Statement.validate false (span 1 2)) (Block.next (Statement.validate true (span 2 3)) Block.done))
    (text (sign marks.BraceLeft ∷ key keys.Validate ∷ key keys.CoValidate ∷ sign marks.BraceRight ∷ []))
two_statements = (_, _, token, (_, _, (_, _, leaf, ([], _, tt, (_, _, leaf, ([], [], tt, refl, refl), refl), refl), refl), token, refl), refl)

semicolons :
    IsBlock (Block.next (Statement.validate false (span 1 2)) (Block.next (Statement.validate true (span 4 5)) Block.done))
    (text (sign marks.BraceLeft ∷ key keys.Validate ∷ sign marks.Semi ∷ sign marks.Semi ∷ key keys.CoValidate ∷ sign marks.Semi ∷ sign marks.BraceRight ∷ []))
semicolons =
    (_, _, token, (_, _, (_, _, leaf, (placed 2 (sign marks.Semi ∷ sign marks.Semi ∷ []), _, (refl, (refl, tt)), (_, _, leaf, (placed 5 (sign marks.Semi ∷ []), _, (refl, tt), refl, refl), refl), refl), refl), token, refl), refl)

-- Kinds that differ.
key_no_mark : (k : Key) (m : Mark) → kinds.Key k ≡ kinds.Mark m → ⊥
key_no_mark k m e = cc

next_not_done : (x : Statement) (xs : Block) → Block.next x xs ≡ Block.done → ⊥
next_not_done x xs e = cc

-- `if` does not follow the `else` of `if \cap`: no text that has it there is the choice with that
-- `if` in its `else`.
if_at : Span → Block
if_at s = Block.next (Statement.branch (Arms.arm (name a 6) Block.done Arms.no_arm) Block.done s) Block.done

else_if_after_pick : (s t : Span) →
    IsStmt (Statement.pick false Block.done (if_at s) t)
    (text (key keys.If ∷ key keys.Cap ∷ sign marks.BraceLeft ∷ sign marks.BraceRight ∷ key keys.Else ∷ key keys.If ∷ word a ∷ sign marks.BraceLeft ∷ sign marks.BraceRight ∷ []))
    → ⊥
unfolding if_at
else_if_after_pick s t spelled =
    let behind_if = (one_then _ _ _ _ spelled.0).1 in
    let behind_cap = (one_then _ _ _ _ behind_if).1 in
    let block = (one_then _ _ _ _ (then_assoc _ _ _ _ behind_cap)).1 in
    let closing = nothing_then _ _ (then_assoc _ _ _ _ block) in
    no_else (one_then _ _ _ _ closing).1
  where
    no_else : IsElse (if_at s) (IsBlock (if_at s)) (placed 4 (key keys.Else ∷ key keys.If ∷ word a ∷ sign marks.BraceLeft ∷ sign marks.BraceRight ∷ [])) → ⊥
    no_else (inl e) = key_no_mark _ _ (one_then _ _ _ _ (one_then _ _ _ _ e).1).0
    no_else (inr e) = next_not_done _ _ e.0

-- The annotations of a loop precede `while`: a text that has one after `while` is not the loop with
-- this annotation.
rule_behind_while : (r : Expression) (s t : Span) →
    IsStmt (Statement.loop (LoopRule.invariant r s ∷ []) (name b 6) Block.done t)
    (text (key keys.While ∷ sign marks.AtSign ∷ word (codes "invariant") ∷ sign marks.ParenLeft ∷ word a ∷ sign marks.ParenRight ∷ word b ∷ sign marks.BraceLeft ∷ sign marks.BraceRight ∷ []))
    → ⊥
rule_behind_while r s t spelled =
    key_no_mark _ _ (one_then _ _ _ _ (then_assoc _ _ _ _ (then_map _ _ _ _ _ (λ xs h. h.0) (λ xs h. h) (then_assoc _ _ _ _ spelled.0)))).0

-- An else belongs to the nearest if before it: if a { if b { } else { validate } } is not the outer
-- if with that else.
inner_if : Span → Block
inner_if s = Block.next (Statement.branch (Arms.arm (name b 4) Block.done Arms.no_arm) Block.done s) Block.done

else_of_outer_if : (s t : Span) →
    IsStmt (Statement.branch (Arms.arm (name a 1) (inner_if s) Arms.no_arm) (validate_at 9) t)
    (text (key keys.If ∷ word a ∷ sign marks.BraceLeft ∷ key keys.If ∷ word b ∷ sign marks.BraceLeft ∷ sign marks.BraceRight ∷ key keys.Else ∷ sign marks.BraceLeft ∷ key keys.Validate ∷ sign marks.BraceRight ∷ sign marks.BraceRight ∷ []))
    → ⊥
unfolding inner_if validate_at
else_of_outer_if s t spelled =
    let behind_if = (one_then _ _ _ _ (then_assoc _ _ _ _ spelled.0)).1 in
    let behind_guard = (one_then _ _ _ _ (then_map _ _ _ _ _ (λ xs h. h.0) (λ xs h. h) (then_assoc _ _ _ _ behind_if))).1 in
    let block = (one_then _ _ _ _ (then_assoc _ _ _ _ (then_assoc _ _ _ _ behind_guard))).1 in
    let statement = then_map _ _ _ _ _ (λ xs h. h.0) (λ xs h. h) (then_assoc _ _ _ _ (then_assoc _ _ _ _ block)) in
    let inner_behind_if = (one_then _ _ _ _ (then_assoc _ _ _ _ (then_assoc _ _ _ _ statement))).1 in
    let inner_behind_guard = (one_then _ _ _ _ (then_map _ _ _ _ _ (λ xs h. h.0) (λ xs h. h) (then_assoc _ _ _ _ inner_behind_if))).1 in
    let inner_block = (one_then _ _ _ _ (then_assoc _ _ _ _ (then_assoc _ _ _ _ inner_behind_guard))).1 in
    let closing = nothing_then _ _ (then_assoc _ _ _ _ inner_block) in
    no_else _ (or_then _ _ _ _ (nothing_then _ _ (one_then _ _ _ _ closing).1))
  where
    from_else : List Token
    from_else = placed 7 (key keys.Else ∷ sign marks.BraceLeft ∷ key keys.Validate ∷ sign marks.BraceRight ∷ sign marks.BraceRight ∷ [])

    no_semi : (R : List Token → Type 0) → (key keys.Else ≡ sign marks.Semi) ⊎ (IsNothing then IsMark marks.BraceRight then R) from_else → ⊥
    no_semi R (inl e) = key_no_mark _ _ e
    no_semi R (inr h) = key_no_mark _ _ (one_then _ _ _ _ (nothing_then _ _ h)).0

    no_else : (R : List Token → Type 0) →
        ((IsKey keys.Else then IsBlock Block.done) then (AreSemis then IsNothing) then IsMark marks.BraceRight then R) from_else
        ⊎ ((λ ts. (Block.done ≡ Block.done) × IsNothing ts) then (AreSemis then IsNothing) then IsMark marks.BraceRight then R) from_else
        → ⊥
    no_else R (inl h) =
        let behind_else = (one_then _ _ _ _ (then_assoc _ _ _ _ h)).1 in
        let behind_brace = (one_then _ _ _ _ (then_assoc _ _ _ _ behind_else)).1 in
        key_no_mark _ _ (one_then _ _ _ _ (nothing_then _ _ (then_assoc _ _ _ _ behind_brace))).0
    no_else R (inr h) =
        no_semi R (semis_then _ _ _ (then_assoc _ _ _ _ (nothing_then _ _ (then_map _ IsNothing _ _ _ (λ xs n. n.1) (λ xs n. n) h))))
