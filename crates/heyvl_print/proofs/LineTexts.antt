-- The bytes of lines, rules and right sides, part by part.
use Rattle.heyvl_print.proofs.Texts.{after, text_append, text_margin}
use Rattle.heyvl_print.specs.Canonical.{call_pieces, expression_pieces, given_pieces, post_line, pre_line, right_pieces, rule_line, rule_pieces, statement_lines, target_pieces, weighted_pieces}
use Rattle.heyvl_print.specs.Pieces.{comma, key, mark, separated, space, text_of, word, ◌then◌}
use Rattle.heyvl_syntax.specs.Expressions.{Expression}
use Rattle.heyvl_syntax.specs.Statements.{LoopRule, RightSide, Statement}
use Rattle.heyvl_syntax.specs.Grammar.{havoc_key, type_key}
use Rattle.heyvl_syntax.specs.Keys.{key_text}
use Rattle.heyvl_syntax.specs.declared.keys.Key.TheVariants as keys
use Rattle.heyvl_syntax.specs.declared.marks.Mark.TheVariants as marks
use Rattle.heyvl_places.specs.declared.spans.Span.{Span}
use Rattle.heyvl_syntax.specs.declared.types.TypeName.{TypeName}
use Rattle.std.proofs.Common.{Bool, List, Option, [], append_assoc, codes, replicate, ◌++◌, ◌∷◌, ◌≡◌, ℕ}

pub rule_text : (n : ℕ) (r : LoopRule) (t0 t1 t2 t3 : List ℕ) → t1 ≡ t0 ++ replicate n 32 → t2 ≡ t1 ++ text_of (rule_pieces r) → t3 ≡ t2 ++ codes "\n" → t3 ≡ t0 ++ text_of (rule_line n r)
rule_text n r t0 t1 t2 t3 e f g = rw (g, f, e) (simp (text_append, text_margin, append_assoc))

pub pre_text : (a : Expression) (t0 t1 : List ℕ) → t1 ≡ t0 ++ (replicate 2 32 ++ (codes "pre" ++ 32 ∷ (text_of (expression_pieces a) ++ 10 ∷ []))) → t1 ≡ t0 ++ text_of (pre_line a)
pre_text a t0 t1 e = rw e (simp (text_append, append_assoc))

pub post_text : (a : Expression) (t0 t1 : List ℕ) → t1 ≡ t0 ++ (replicate 2 32 ++ (codes "post" ++ 32 ∷ (text_of (expression_pieces a) ++ 10 ∷ []))) → t1 ≡ t0 ++ text_of (post_line a)
post_text a t0 t1 e = rw e (simp (text_append, append_assoc))

pub weighted_text : (p a : Expression) (t0 t1 t2 t3 : List ℕ) → t1 ≡ t0 ++ text_of (expression_pieces p) → t2 ≡ t1 ++ codes ": " → t3 ≡ t2 ++ text_of (expression_pieces a) → t3 ≡ t0 ++ text_of (weighted_pieces (p, a))
weighted_text p a t0 t1 t2 t3 e f g = rw (g, f, e) (simp (text_append, append_assoc))

pub invariant_text : (a : Expression) (s : Span) (t0 t1 t2 t3 : List ℕ) → t1 ≡ t0 ++ codes "@invariant(" → t2 ≡ t1 ++ text_of (expression_pieces a) → t3 ≡ t2 ++ codes ")" → t3 ≡ t0 ++ text_of (rule_pieces (LoopRule.invariant a s))
invariant_text a s t0 t1 t2 t3 e f g = rw (g, f, e) (simp (text_append, append_assoc))

pub k_induction_text : (a b : Expression) (s : Span) (t0 t1 t2 t3 t4 t5 : List ℕ) → t1 ≡ t0 ++ codes "@k_induction(" → t2 ≡ t1 ++ text_of (expression_pieces a) → t3 ≡ t2 ++ codes ", " → t4 ≡ t3 ++ text_of (expression_pieces b) → t5 ≡ t4 ++ codes ")" → t5 ≡ t0 ++ text_of (rule_pieces (LoopRule.k_induction a b s))
k_induction_text a b s t0 t1 t2 t3 t4 t5 e f g h i = rw (i, h, g, f, e) (simp (text_append, append_assoc))

pub ranking_text : (a b : Expression) (s : Span) (t0 t1 t2 t3 t4 t5 : List ℕ) → t1 ≡ t0 ++ codes "@ranking(" → t2 ≡ t1 ++ text_of (expression_pieces a) → t3 ≡ t2 ++ codes ", " → t4 ≡ t3 ++ text_of (expression_pieces b) → t5 ≡ t4 ++ codes ")" → t5 ≡ t0 ++ text_of (rule_pieces (LoopRule.ranking a b s))
ranking_text a b s t0 t1 t2 t3 t4 t5 e f g h i = rw (i, h, g, f, e) (simp (text_append, append_assoc))

pub flip_text : (a : Expression) (t0 t1 t2 t3 : List ℕ) → t1 ≡ t0 ++ codes "flip(" → t2 ≡ t1 ++ text_of (expression_pieces a) → t3 ≡ t2 ++ codes ")" → t3 ≡ t0 ++ text_of (right_pieces (RightSide.flip a))
flip_text a t0 t1 t2 t3 e f g = rw (g, f, e) (simp (text_append, append_assoc))

pub unif_text : (a b : Expression) (t0 t1 t2 t3 t4 t5 : List ℕ) → t1 ≡ t0 ++ codes "unif(" → t2 ≡ t1 ++ text_of (expression_pieces a) → t3 ≡ t2 ++ codes ", " → t4 ≡ t3 ++ text_of (expression_pieces b) → t5 ≡ t4 ++ codes ")" → t5 ≡ t0 ++ text_of (right_pieces (RightSide.unif a b))
unif_text a b t0 t1 t2 t3 t4 t5 e f g h i = rw (i, h, g, f, e) (simp (text_append, append_assoc))

pub choose_text : (parts : List (Expression × Expression)) (t0 t1 t2 t3 : List ℕ) → t1 ≡ t0 ++ codes "choose { " → t2 ≡ t1 ++ text_of (separated comma weighted_pieces parts) → t3 ≡ t2 ++ codes " }" → t3 ≡ t0 ++ text_of (right_pieces (RightSide.choose parts))
choose_text parts t0 t1 t2 t3 e f g =
    let weighted = separated comma weighted_pieces parts in
    after (key keys.Choose then space then mark marks.BraceLeft then space) (weighted then space then mark marks.BraceRight) t0 t1 t3 e
    (after weighted (space then mark marks.BraceRight) t1 t2 t3 f g)

pub call_text : (x : List ℕ) (arguments : List Expression) (t0 t1 t2 t3 t4 : List ℕ) → t1 ≡ t0 ++ x → t2 ≡ t1 ++ codes "(" → t3 ≡ t2 ++ text_of (separated comma expression_pieces arguments) → t4 ≡ t3 ++ codes ")" → t4 ≡ t0 ++ text_of (call_pieces x arguments)
call_text x arguments t0 t1 t2 t3 t4 e f g h = rw (h, g, f, e) (simp (text_append, append_assoc))

pub havoc_text : (n : ℕ) (co : Bool) (xs : List (List ℕ)) (s : Span) (t0 t1 t2 t3 t4 t5 : List ℕ) → t1 ≡ t0 ++ replicate n 32 → t2 ≡ t1 ++ key_text (havoc_key co) → t3 ≡ t2 ++ codes " " → t4 ≡ t3 ++ text_of (separated comma word xs) → t5 ≡ t4 ++ codes "\n" → t5 ≡ t0 ++ text_of (statement_lines n (Statement.havoc co xs s))
havoc_text n co xs s t0 t1 t2 t3 t4 t5 e f g h i = rw (i, h, g, f, e) (simp (text_append, text_margin, append_assoc))

pub targets_text : (x : List ℕ) (xs : List (List ℕ)) (t0 t1 t2 : List ℕ) → t1 ≡ t0 ++ text_of (separated comma word (x ∷ xs)) → t2 ≡ t1 ++ codes " = " → t2 ≡ t0 ++ text_of (target_pieces (x ∷ xs))
targets_text x xs t0 t1 t2 e f = after (separated comma word (x ∷ xs)) (space then mark marks.Assign then space) t0 t1 t2 e f

pub assign_text : (n : ℕ) (xs : List (List ℕ)) (r : RightSide) (s : Span) (t0 t1 t2 t3 t4 : List ℕ) → t1 ≡ t0 ++ replicate n 32 → t2 ≡ t1 ++ text_of (target_pieces xs) → t3 ≡ t2 ++ text_of (right_pieces r) → t4 ≡ t3 ++ codes "\n" → t4 ≡ t0 ++ text_of (statement_lines n (Statement.assign xs r s))
assign_text n xs r s t0 t1 t2 t3 t4 e f g h = rw (h, g, f, e) (simp (text_append, text_margin, append_assoc))

pub var_text : (n : ℕ) (x : List ℕ) (ty : TypeName) (r : Option RightSide) (s : Span) (t0 t1 t2 t3 t4 t5 t6 t7 : List ℕ) → t1 ≡ t0 ++ replicate n 32 → t2 ≡ t1 ++ codes "var " → t3 ≡ t2 ++ x → t4 ≡ t3 ++ codes ": " → t5 ≡ t4 ++ key_text (type_key ty) → t6 ≡ t5 ++ text_of (given_pieces r) → t7 ≡ t6 ++ codes "\n" → t7 ≡ t0 ++ text_of (statement_lines n (Statement.var x ty r s))
var_text n x ty r s t0 t1 t2 t3 t4 t5 t6 t7 e f g h i j k = rw (k, j, i, h, g, f, e) (simp (text_append, text_margin, append_assoc))
