-- The bytes of each kind of expression, part by part.
use Rattle.heyvl_places.specs.declared.spans.Span.{Span}
use Rattle.heyvl_print.proofs.Texts.{text_append}
use Rattle.heyvl_print.specs.Canonical.{expression_pieces}
use Rattle.heyvl_print.specs.Pieces.{text_of, token_text}
use Rattle.heyvl_syntax.specs.Expressions.{Expression}
use Rattle.heyvl_syntax.specs.Grammar.{operator, prefix, quantifier_key, type_key}
use Rattle.heyvl_syntax.specs.Keys.{key_text}
use Rattle.heyvl_syntax.specs.Marks.{mark_text}
use Rattle.heyvl_syntax.specs.declared.operators.BinaryOp.{BinaryOp}
use Rattle.heyvl_syntax.specs.declared.operators.UnaryOp.{UnaryOp}
use Rattle.heyvl_syntax.specs.declared.types.TypeName.{TypeName}
use Rattle.std.proofs.Common.{Bool, List, append_assoc, codes, ◌++◌, ◌≡◌, ℕ}

pub group_text : (a : Expression) (s : Span) (t0 t1 t2 t3 : List ℕ) → t1 ≡ t0 ++ codes "(" → t2 ≡ t1 ++ text_of (expression_pieces a) → t3 ≡ t2 ++ codes ")" → t3 ≡ t0 ++ text_of (expression_pieces (Expression.group a s))
group_text a s t0 t1 t2 t3 e f g = rw (g, f, e) (simp (text_append, append_assoc))

pub unary_text : (op : UnaryOp) (a : Expression) (s : Span) (t0 t1 t2 : List ℕ) → t1 ≡ t0 ++ mark_text (prefix op) → t2 ≡ t1 ++ text_of (expression_pieces a) → t2 ≡ t0 ++ text_of (expression_pieces (Expression.unary op a s))
unary_text op a s t0 t1 t2 e f = rw (f, e) (simp (text_append, append_assoc))

pub binary_text : (op : BinaryOp) (a b : Expression) (s : Span) (t0 t1 t2 t3 t4 t5 : List ℕ) → t1 ≡ t0 ++ text_of (expression_pieces a) → t2 ≡ t1 ++ codes " " → t3 ≡ t2 ++ token_text (operator op) → t4 ≡ t3 ++ codes " " → t5 ≡ t4 ++ text_of (expression_pieces b) → t5 ≡ t0 ++ text_of (expression_pieces (Expression.binary op a b s))
binary_text op a b s t0 t1 t2 t3 t4 t5 e f g h i = rw (i, h, g, f, e) (simp (text_append, append_assoc))

pub bracket_text : (a : Expression) (s : Span) (t0 t1 t2 t3 : List ℕ) → t1 ≡ t0 ++ codes "[" → t2 ≡ t1 ++ text_of (expression_pieces a) → t3 ≡ t2 ++ codes "]" → t3 ≡ t0 ++ text_of (expression_pieces (Expression.bracket a s))
bracket_text a s t0 t1 t2 t3 e f g = rw (g, f, e) (simp (text_append, append_assoc))

pub embed_text : (a : Expression) (s : Span) (t0 t1 t2 t3 : List ℕ) → t1 ≡ t0 ++ codes "?(" → t2 ≡ t1 ++ text_of (expression_pieces a) → t3 ≡ t2 ++ codes ")" → t3 ≡ t0 ++ text_of (expression_pieces (Expression.embed a s))
embed_text a s t0 t1 t2 t3 e f g = rw (g, f, e) (simp (text_append, append_assoc))

pub choice_text : (a b c : Expression) (s : Span) (t0 t1 t2 t3 t4 t5 t6 t7 : List ℕ) → t1 ≡ t0 ++ codes "ite(" → t2 ≡ t1 ++ text_of (expression_pieces a) → t3 ≡ t2 ++ codes ", " → t4 ≡ t3 ++ text_of (expression_pieces b) → t5 ≡ t4 ++ codes ", " → t6 ≡ t5 ++ text_of (expression_pieces c) → t7 ≡ t6 ++ codes ")" → t7 ≡ t0 ++ text_of (expression_pieces (Expression.choice a b c s))
choice_text a b c s t0 t1 t2 t3 t4 t5 t6 t7 e f g h i j k = rw (k, j, i, h, g, f, e) (simp (text_append, append_assoc))

pub bound_text : (up : Bool) (x : List ℕ) (ty : TypeName) (a : Expression) (s : Span) (t0 t1 t2 t3 t4 t5 t6 t7 : List ℕ) → t1 ≡ t0 ++ key_text (quantifier_key up) → t2 ≡ t1 ++ codes " " → t3 ≡ t2 ++ x → t4 ≡ t3 ++ codes ": " → t5 ≡ t4 ++ key_text (type_key ty) → t6 ≡ t5 ++ codes ". " → t7 ≡ t6 ++ text_of (expression_pieces a) → t7 ≡ t0 ++ text_of (expression_pieces (Expression.bound up x ty a s))
bound_text up x ty a s t0 t1 t2 t3 t4 t5 t6 t7 e f g h i j k = rw (k, j, i, h, g, f, e) (simp (text_append, append_assoc))
