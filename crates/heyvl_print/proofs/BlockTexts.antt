-- The bytes of blocks and of the statements with blocks, part by part.
use Rattle.heyvl_places.specs.declared.checks.CheckKind.{CheckKind}
use Rattle.heyvl_places.specs.declared.spans.Span.{Span}
use Rattle.heyvl_print.proofs.Texts.{after, margin_after, text_append, text_margin, token_after}
use Rattle.heyvl_print.specs.Canonical.{arm_pieces, block_lines, braced, else_if_pieces, else_pieces, expression_pieces, if_pieces, rule_line, statement_lines}
use Rattle.heyvl_print.specs.Pieces.{Piece, each, feed, key, margin, mark, space, text_of, ◌then◌}
use Rattle.heyvl_syntax.proofs.exported.PlainTreesAre.{plain_statements}
use Rattle.heyvl_syntax.specs.Expressions.{Expression, expression}
use Rattle.heyvl_syntax.specs.Grammar.{check_key, pick_key, validate_key}
use Rattle.heyvl_syntax.specs.Keys.{key_text}
use Rattle.heyvl_syntax.specs.Statements.{Arms, Block, LoopRule, Statement, arms_of, block, block_of, guarded}
use Rattle.heyvl_syntax.specs.declared.keys.Key.TheVariants as keys
use Rattle.heyvl_syntax.specs.declared.marks.Mark.TheVariants as marks
use Rattle.heyvl_syntax.specs.declared.statements.Arm.{Arm}
use Rattle.heyvl_syntax.specs.declared.tokens.TokenKind.TheVariants as kinds
use Rattle.std.proofs.Common.{Bool, List, [], ap, append_assoc, arith, codes, get_or, length, map, refl, replicate, subst, suc, sym, take, ◌++◌, ◌+◌, ◌<◌, ◌≤◌, ◌∙◌, ◌∷◌, ◌≡◌, ℕ}
use Rattle.std.proofs.Math.Seq.{take-suc}
use Rattle.std.proofs.lemmas.List.{append-nil, map-append, take_all}

pub braced_text : (n : ℕ) (lines : List Piece) (t0 t1 t2 t3 t4 : List ℕ) → t1 ≡ t0 ++ codes " {\n" → t2 ≡ t1 ++ text_of lines → t3 ≡ t2 ++ replicate n 32 → t4 ≡ t3 ++ codes "}" → t4 ≡ t0 ++ text_of (braced n lines)
braced_text n lines t0 t1 t2 t3 t4 e f g h =
    after (space then mark marks.BraceLeft then feed) (lines then margin n then mark marks.BraceRight) t0 t1 t4 e
    (after lines (margin n then mark marks.BraceRight) t1 t2 t4 f
    (after (margin n) (mark marks.BraceRight) t2 t3 t4 (margin_after n t2 t3 g) h))

pub arm_text : (n : ℕ) (g : Expression) (lines : List Piece) (t0 t1 t2 t3 : List ℕ) → t1 ≡ t0 ++ codes "if " → t2 ≡ t1 ++ text_of (expression_pieces g) → t3 ≡ t2 ++ text_of (braced n lines) → t3 ≡ t0 ++ text_of (arm_pieces n g lines)
arm_text n a lines t0 t1 t2 t3 e f g = rw (g, f, e, text_append (expression_pieces a) (braced n lines)) (simp append_assoc)

pub check_text : (n : ℕ) (kind : CheckKind) (a : Expression) (s : Span) (t0 t1 : List ℕ) → t1 ≡ t0 ++ (replicate n 32 ++ (key_text (check_key kind) ++ 32 ∷ (text_of (expression_pieces a) ++ 10 ∷ []))) → t1 ≡ t0 ++ text_of (statement_lines n (Statement.check kind a s))
check_text n kind a s t0 t1 e = rw e (simp (text_append, text_margin, append_assoc))

pub reward_text : (n : ℕ) (a : Expression) (s : Span) (t0 t1 : List ℕ) → t1 ≡ t0 ++ (replicate n 32 ++ (codes "reward" ++ 32 ∷ (text_of (expression_pieces a) ++ 10 ∷ []))) → t1 ≡ t0 ++ text_of (statement_lines n (Statement.reward a s))
reward_text n a s t0 t1 e = rw e (simp (text_append, text_margin, append_assoc))

pub validate_text : (n : ℕ) (co : Bool) (s : Span) (t0 t1 : List ℕ) → t1 ≡ t0 ++ (replicate n 32 ++ (key_text (validate_key co) ++ 10 ∷ [])) → t1 ≡ t0 ++ text_of (statement_lines n (Statement.validate co s))
validate_text n co s t0 t1 e = rw e (simp (text_append, text_margin, append_assoc))

pub branch_text : (n : ℕ) (arms : Arms) (other : Block) (s : Span) (t0 t1 t2 t3 t4 : List ℕ) → t1 ≡ t0 ++ replicate n 32 → t2 ≡ t1 ++ text_of (if_pieces n arms) → t3 ≡ t2 ++ text_of (else_pieces n (block_lines (n + 2) other)) → t4 ≡ t3 ++ codes "\n" → t4 ≡ t0 ++ text_of (statement_lines n (Statement.branch arms other s))
branch_text n arms other s t0 t1 t2 t3 t4 e f g h =
    let others = else_pieces n (block_lines (n + 2) other) in
    after (margin n) (if_pieces n arms then others then feed) t0 t1 t4 (margin_after n t0 t1 e)
    (after (if_pieces n arms) (others then feed) t1 t2 t4 f
    (after others feed t2 t3 t4 g h))

pub pick_text : (n : ℕ) (up : Bool) (a b : Block) (s : Span) (t0 t1 t2 t3 t4 t5 t6 : List ℕ) → t1 ≡ t0 ++ replicate n 32 → t2 ≡ t1 ++ codes "if " → t3 ≡ t2 ++ key_text (pick_key up) → t4 ≡ t3 ++ text_of (braced n (block_lines (n + 2) a)) → t5 ≡ t4 ++ text_of (else_pieces n (block_lines (n + 2) b)) → t6 ≡ t5 ++ codes "\n" → t6 ≡ t0 ++ text_of (statement_lines n (Statement.pick up a b s))
pick_text n up a b s t0 t1 t2 t3 t4 t5 t6 e f g h i j =
    let left = braced n (block_lines (n + 2) a) in
    let right = else_pieces n (block_lines (n + 2) b) in
    after (margin n) (key keys.If then space then key (pick_key up) then left then right then feed) t0 t1 t6 (margin_after n t0 t1 e)
    (after (key keys.If then space) (key (pick_key up) then left then right then feed) t1 t2 t6 f
    (after (key (pick_key up)) (left then right then feed) t2 t3 t6 (token_after (kinds.Key (pick_key up)) t2 t3 g)
    (after left (right then feed) t3 t4 t6 h
    (after right feed t4 t5 t6 i j))))

pub loop_text : (n : ℕ) (rules : List LoopRule) (g : Expression) (b : Block) (s : Span) (t0 t1 t2 t3 t4 t5 t6 : List ℕ) → t1 ≡ t0 ++ text_of (each (rule_line n) rules) → t2 ≡ t1 ++ replicate n 32 → t3 ≡ t2 ++ codes "while " → t4 ≡ t3 ++ text_of (expression_pieces g) → t5 ≡ t4 ++ text_of (braced n (block_lines (n + 2) b)) → t6 ≡ t5 ++ codes "\n" → t6 ≡ t0 ++ text_of (statement_lines n (Statement.loop rules g b s))
loop_text n rules a b s t0 t1 t2 t3 t4 t5 t6 e f g h i j =
    let lines = braced n (block_lines (n + 2) b) in
    after (each (rule_line n) rules) (margin n then key keys.While then space then expression_pieces a then lines then feed) t0 t1 t6 e
    (after (margin n) (key keys.While then space then expression_pieces a then lines then feed) t1 t2 t6 (margin_after n t1 t2 f)
    (after (key keys.While then space) (expression_pieces a then lines then feed) t2 t3 t6 g
    (after (expression_pieces a) (lines then feed) t3 t4 t6 h
    (after lines feed t4 t5 t6 i j))))

block_append : (n : ℕ) (xs ys : List Statement) → text_of (block_lines n (block_of (xs ++ ys))) ≡ text_of (block_lines n (block_of xs)) ++ text_of (block_lines n (block_of ys))
block_append n [] ys = refl
block_append n (x ∷ xs) ys =
    rw (text_append (statement_lines n x) (block_lines n (block_of (xs ++ ys))), block_append n xs ys, text_append (statement_lines n x) (block_lines n (block_of xs))) (sym (append_assoc (text_of (statement_lines n x)) (text_of (block_lines n (block_of xs))) (text_of (block_lines n (block_of ys)))))

-- One more statement, at the index `k` of a mapped list.
pub statement_next : {B : Type 0} (g : B → Statement) (n : ℕ) (xs : List B) (k : ℕ) (x : B) (t0 t1 t2 : List ℕ) → k < length xs → x ≡ get_or xs k x →
    t1 ≡ t0 ++ text_of (block_lines n (block_of (map g (take k xs)))) → t2 ≡ t1 ++ text_of (statement_lines n (g x)) → t2 ≡ t0 ++ text_of (block_lines n (block_of (map g (take (k + 1) xs))))
statement_next {B} g n xs k x t0 t1 t2 less is e h =
    let one : k + 1 ≡ suc k = omega arith in
    let more : take (suc k) xs ≡ take k xs ++ (x ∷ []) = subst (λ (y : B). take (suc k) xs ≡ take k xs ++ (y ∷ [])) (sym is) (take-suc xs k x less) in
    rw (one, more, map-append g (take k xs) (x ∷ []), block_append n (map g (take k xs)) (g x ∷ []), append-nil (statement_lines n (g x)), h, e) (append_assoc t0 (text_of (block_lines n (block_of (map g (take k xs))))) (text_of (statement_lines n (g x))))

pub block_done : {B : Type 0} (g : B → Statement) (n : ℕ) (xs : List B) (k : ℕ) (t0 t1 : List ℕ) → length xs ≤ k → t1 ≡ t0 ++ text_of (block_lines n (block_of (map g (take k xs)))) → t1 ≡ t0 ++ text_of (block_lines n (block_of (map g xs)))
block_done g n xs k t0 t1 over h = rw (← take_all k xs over) h

abbrev pub pieces_of : ℕ → Expression × Block → List Piece
pieces_of n a = arm_pieces n a.0 (block_lines (n + 2) a.1)

arms_append : (n : ℕ) (xs ys : List (Expression × Block)) → text_of (else_if_pieces n (arms_of (xs ++ ys))) ≡ text_of (else_if_pieces n (arms_of xs)) ++ text_of (else_if_pieces n (arms_of ys))
arms_append n [] ys = refl
arms_append n (x ∷ xs) ys =
    let arm = pieces_of n x in
    let later = else_if_pieces n (arms_of xs) in
    let last = else_if_pieces n (arms_of ys) in
    ap (λ (z : List ℕ). codes " else " ++ z) (text_append arm (else_if_pieces n (arms_of (xs ++ ys))) ∙ ap (λ (z : List ℕ). text_of arm ++ z) (arms_append n xs ys)
    ∙ sym (append_assoc (text_of arm) (text_of later) (text_of last)) ∙ ap (λ (z : List ℕ). z ++ text_of last) (sym (text_append arm later)))

pub arm_next : {B : Type 0} (g : B → Expression × Block) (n : ℕ) (xs : List B) (k : ℕ) (x : B) (t0 t1 t2 t3 : List ℕ) → k < length xs → x ≡ get_or xs k x →
    t1 ≡ t0 ++ text_of (else_if_pieces n (arms_of (map g (take k xs)))) → t2 ≡ t1 ++ codes " else " → t3 ≡ t2 ++ text_of (pieces_of n (g x)) → t3 ≡ t0 ++ text_of (else_if_pieces n (arms_of (map g (take (k + 1) xs))))
arm_next {B} g n xs k x t0 t1 t2 t3 less is e f h =
    let one : k + 1 ≡ suc k = omega arith in
    let more : take (suc k) xs ≡ take k xs ++ (x ∷ []) = subst (λ (y : B). take (suc k) xs ≡ take k xs ++ (y ∷ [])) (sym is) (take-suc xs k x less) in
    let before = text_of (else_if_pieces n (arms_of (map g (take k xs)))) in
    let behind = text_of (else_if_pieces n (arms_of (g x ∷ []))) in
    let arm : t3 ≡ t2 ++ text_of (pieces_of n (g x) ++ []) = h ∙ ap (λ (ps : List Piece). t2 ++ text_of ps) (sym (append-nil (pieces_of n (g x)))) in
    let last : t3 ≡ t1 ++ behind = after (space ++ key keys.Else ++ space) (pieces_of n (g x) ++ []) t1 t2 t3 f arm in
    let all : t3 ≡ t0 ++ (before ++ behind) = last ∙ ap (λ (z : List ℕ). z ++ behind) e ∙ append_assoc t0 before behind in
    rw (one, more, map-append g (take k xs) (x ∷ []), arms_append n (map g (take k xs)) (g x ∷ [])) all

pub arms_done : {B : Type 0} (g : B → Expression × Block) (n : ℕ) (x : B) (xs all : List B) (k : ℕ) (t0 t1 t2 : List ℕ) → all ≡ x ∷ xs → length xs ≤ k →
    t1 ≡ t0 ++ text_of (pieces_of n (g x)) → t2 ≡ t1 ++ text_of (else_if_pieces n (arms_of (map g (take k xs)))) → t2 ≡ t0 ++ text_of (if_pieces n (arms_of (map g all)))
arms_done g n x xs all k t0 t1 t2 is over e h =
    let h' : t2 ≡ t1 ++ text_of (else_if_pieces n (arms_of (map g xs))) = rw (← take_all k xs over) h in
    rw (is, h', e, text_append (pieces_of n (g x)) (else_if_pieces n (arms_of (map g xs)))) (append_assoc t0 (text_of (pieces_of n (g x))) (text_of (else_if_pieces n (arms_of (map g xs)))))

pub guarded_text : (n : ℕ) (a : Arm) (t0 t1 : List ℕ) → t1 ≡ t0 ++ text_of (arm_pieces n (expression a.guard) (block_lines (n + 2) (block a.body.items))) → t1 ≡ t0 ++ text_of (pieces_of n (guarded a))
guarded_text n a t0 t1 e = subst (λ (p : Expression × Block). t1 ≡ t0 ++ text_of (pieces_of n p)) (sym (plain_statements.guarded a)) e
