-- The bytes of procedures, part by part.
use Rattle.heyvl_print.proofs.Texts.{after, name_text, token_after}
use Rattle.heyvl_print.specs.Canonical.{block_lines, body_lines, params_pieces, head_line, note_line, param_pieces, post_line, pre_line, procedure_lines}
use Rattle.heyvl_print.specs.Pieces.{Piece, comma, each, feed, key, mark, separated, space, text_of, word, ◌then◌}
use Rattle.heyvl_syntax.specs.Grammar.{proc_key}
use Rattle.heyvl_syntax.specs.Keys.{key_text}
use Rattle.heyvl_syntax.specs.Procedures.{Procedure}
use Rattle.heyvl_syntax.specs.Statements.{Block}
use Rattle.heyvl_syntax.specs.declared.marks.Mark.TheVariants as marks
use Rattle.heyvl_syntax.specs.declared.tokens.TokenKind.TheVariants as kinds
use Rattle.std.proofs.Common.{List, Some, append_assoc, codes, subst, sym, ◌++◌, ◌≡◌, ℕ}

pub head_text : (p : Procedure) (t0 t1 t2 t3 t4 t5 t6 t7 t8 : List ℕ) → t1 ≡ t0 ++ key_text (proc_key p.co) → t2 ≡ t1 ++ codes " " → t3 ≡ t2 ++ p.name → t4 ≡ t3 ++ codes "(" → t5 ≡ t4 ++ text_of (separated comma param_pieces p.inputs) → t6 ≡ t5 ++ codes ") -> (" → t7 ≡ t6 ++ text_of (separated comma param_pieces p.outputs) → t8 ≡ t7 ++ codes ")\n" → t8 ≡ t0 ++ text_of (head_line p)
head_text p t0 t1 t2 t3 t4 t5 t6 t7 t8 e f g h i j k l =
    let inputs = separated comma param_pieces p.inputs in
    let outputs = separated comma param_pieces p.outputs in
    let ends = mark marks.ParenRight then feed in
    let between = mark marks.ParenRight then space then mark marks.Arrow then space then mark marks.ParenLeft in
    let tail : t8 ≡ t6 ++ text_of ((outputs then mark marks.ParenRight) then feed) = subst (λ (z : List Piece). t8 ≡ t6 ++ text_of z) (sym (append_assoc outputs (mark marks.ParenRight) feed)) (after outputs ends t6 t7 t8 k l) in
    let rest : t8 ≡ t4 ++ text_of ((inputs then mark marks.ParenRight) then space then mark marks.Arrow then space then params_pieces p.outputs then feed) = subst (λ (z : List Piece). t8 ≡ t4 ++ text_of z) (sym (append_assoc inputs (mark marks.ParenRight) (space then mark marks.Arrow then space then params_pieces p.outputs then feed))) (after inputs (between then ((outputs then mark marks.ParenRight) then feed)) t4 t5 t8 i (after between ((outputs then mark marks.ParenRight) then feed) t5 t6 t8 j tail)) in
    let all = space then mark marks.Arrow then space then params_pieces p.outputs then feed in
    after (key (proc_key p.co)) (space then word p.name then params_pieces p.inputs then all) t0 t1 t8 (token_after (kinds.Key (proc_key p.co)) t0 t1 e)
    (after space (word p.name then params_pieces p.inputs then all) t1 t2 t8 f
    (after (word p.name) (params_pieces p.inputs then all) t2 t3 t8 (name_text p.name t2 t3 g)
    (after (mark marks.ParenLeft) ((inputs then mark marks.ParenRight) then all) t3 t4 t8 h rest)))

pub procedure_text : (p : Procedure) (t0 t1 t2 t3 t4 t5 : List ℕ) → t1 ≡ t0 ++ text_of (note_line p.note) → t2 ≡ t1 ++ text_of (head_line p) → t3 ≡ t2 ++ text_of (each pre_line p.pres) → t4 ≡ t3 ++ text_of (each post_line p.posts) → t5 ≡ t4 ++ text_of (body_lines p.body) → t5 ≡ t0 ++ text_of (procedure_lines p)
procedure_text p t0 t1 t2 t3 t4 t5 e f g h i =
    let pres = each pre_line p.pres in
    let posts = each post_line p.posts in
    after (note_line p.note) (head_line p then pres then posts then body_lines p.body) t0 t1 t5 e
    (after (head_line p) (pres then posts then body_lines p.body) t1 t2 t5 f
    (after pres (posts then body_lines p.body) t2 t3 t5 g
    (after posts (body_lines p.body) t3 t4 t5 h i)))

pub body_text : (b : Block) (t0 t1 t2 t3 : List ℕ) → t1 ≡ t0 ++ codes "{\n" → t2 ≡ t1 ++ text_of (block_lines 2 b) → t3 ≡ t2 ++ codes "}\n" → t3 ≡ t0 ++ text_of (body_lines (Some b))
body_text b t0 t1 t2 t3 e f g =
    after (mark marks.BraceLeft then feed) (block_lines 2 b then mark marks.BraceRight then feed) t0 t1 t3 e
    (after (block_lines 2 b) (mark marks.BraceRight then feed) t1 t2 t3 f g)
