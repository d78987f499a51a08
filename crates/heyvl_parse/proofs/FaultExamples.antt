-- The first error of small lists of tokens that have to spell a file or an expression, computed by
-- the readers, and lists of tokens beside them that spell one.
use Rattle.heyvl_parse.proofs.BlockLaws.{block_laws}
use Rattle.heyvl_parse.proofs.FileLaws.{file_laws}
use Rattle.heyvl_parse.proofs.RightLaws.{expr_laws}
use Rattle.heyvl_parse.proofs.SpellingLaws.{no_spelling_fault}
use Rattle.heyvl_parse.proofs.WholeLaws.{ended_laws, fault_clause, found_all}
use Rattle.heyvl_parse.specs.Files.{IsParseStop}
use Rattle.heyvl_parse.specs.Spellings.{IsExpressionFault, IsExpressionStop}
use Rattle.heyvl_parse.specs.declared.parser.ParseStop.TheVariants as stops
use Rattle.heyvl_parse.specs.declared.stops.PartStop.TheVariants.{Fault}
use Rattle.heyvl_parse.specs.internal.ExpressionReaders.{only_expr}
use Rattle.heyvl_parse.specs.internal.FileReaders.{file}
use Rattle.heyvl_parse.specs.internal.Statements.{braced, stmts}
use Rattle.heyvl_parse.specs.readers.PartStops.{IsPartStop}
use Rattle.heyvl_parse.specs.readers.ReadParts.{Bad, Got, Out, Read}
use Rattle.heyvl_syntax.proofs.exported.OneFault.{no_token_fault}
use Rattle.heyvl_syntax.specs.Expressions.{Expression, expression}
use Rattle.heyvl_syntax.specs.Grammar.{IsFile, IsFull}
use Rattle.heyvl_syntax.specs.Procedures.{Procedure, procedures}
use Rattle.heyvl_syntax.specs.SourceFaults.{IsTokenFault, IsWithinLimits}
use Rattle.heyvl_syntax.specs.declared.keys.Key.TheVariants as keys
use Rattle.heyvl_syntax.specs.declared.marks.Mark.TheVariants as marks
use Rattle.heyvl_syntax.specs.declared.operators.BinaryOp.{BinaryOp}
use Rattle.heyvl_syntax.specs.declared.tokens.Token.{Token}
use Rattle.heyvl_syntax.specs.declared.tokens.TokenKind.TheVariants as kinds
use Rattle.heyvl_syntax.specs.declared.tokens.TokenKind.{TokenKind}
use Rattle.std.proofs.Common.{Err, List, [], arith, codes, inl, inr, length, lit<, refl, replicate}
use Rattle.std.proofs.Common.{suc, zero, ◌<◌, ◌∷◌, ◌≡◌, ℕ}
use Rattle.std.specs.Prelude.{pos}

abbrev at : TokenKind → Token
at kind = record { kind = kind; span = record { from = 0; to = 0 } }

abbrev a : Token
a = at (kinds.Word (codes "a"))

abbrev zero_token : Token
zero_token = at (kinds.Number (record { digits = pos 0; places = 0 }))

abbrev left : Token
left = at (kinds.Mark marks.ParenLeft)

abbrev right : Token
right = at (kinds.Mark marks.ParenRight)

-- ---- Tokens of files

abbrev reads_file : ℕ → List Token → Read (List Procedure)
reads_file n = file (braced (stmts n)) n

-- `IsRefused f ts k`: with fuel for all of `ts`, the reader `f` refuses `ts` with `k` tokens left.
abbrev IsRefused : {A : Type 0} → (ℕ → List Token → Read A) → List Token → ℕ → Type 0
IsRefused f ts k =
    (n : ℕ) → length ts < n → (rest : List Token) × (f n ts ≡ Bad rest) × (length rest ≡ k)

file_stop :
    (ts : List Token) (k : ℕ) → IsRefused reads_file ts k → IsPartStop IsFile ts (Fault k)
file_stop ts k bad =
    fault_clause IsFile reads_file (λ n. file_laws (block_laws n)) procedures ts (Err (Fault k)) bad

-- A file does not begin with an identifier: error 4 at the first token.
word_is_refused : IsRefused reads_file (a ∷ []) 1
word_is_refused zero h = absurd (omega (arith, h))
word_is_refused (suc zero) h = absurd (omega (arith, h))
word_is_refused (suc (suc n)) h = (a ∷ [], refl, refl)

word_is_no_file : IsTokenFault (a ∷ []) 4 0
word_is_no_file =
    inr (inr (refl, within, (file_stop (a ∷ []) 1 word_is_refused).1))
  where
    within : IsWithinLimits (a ∷ [])
    within = record { light = refl; uncrowded = omega arith }

word_is_a_cause : IsParseStop (a ∷ []) (stops.Fault 4 0)
word_is_a_cause = word_is_no_file

-- `proc` ends too early: error 4 at the number of tokens.
abbrev lone_proc : List Token
lone_proc = at (kinds.Key keys.Proc) ∷ []

proc_is_refused : IsRefused reads_file lone_proc 0
proc_is_refused zero h = absurd (omega (arith, h))
proc_is_refused (suc zero) h = absurd (omega (arith, h))
proc_is_refused (suc (suc n)) h = ([], refl, refl)

proc_is_no_file : IsTokenFault lone_proc 4 1
proc_is_no_file =
    inr (inr (refl, within, (file_stop lone_proc 0 proc_is_refused).1))
  where
    within : IsWithinLimits lone_proc
    within = record { light = refl; uncrowded = omega arith }

-- proc a() -> () pre 0 post 0
abbrev whole : List Token
whole =
    at (kinds.Key keys.Proc) ∷ a ∷ left ∷ right ∷ at (kinds.Mark marks.Arrow) ∷ left ∷ right
    ∷ at (kinds.Key keys.Pre) ∷ zero_token ∷ at (kinds.Key keys.Post) ∷ zero_token ∷ []

abbrev value : {A : Type 0} → A → Read A → A
value x (Got y rest) = y
value x (Bad rest) = x
value x Out = x

whole_is_file : IsFile (value [] (reads_file 20 whole)) whole
whole_is_file =
    found_all IsFile reads_file (λ n. file_laws (block_laws n)) 20 whole
    (value [] (reads_file 20 whole)) refl

-- So it has no error.
whole_has_no_error : (number i : ℕ) → IsTokenFault whole number i → ⊥
whole_has_no_error number i =
    no_token_fault whole (value [] (reads_file 20 whole)) number i within whole_is_file
  where
    within : IsWithinLimits whole
    within = record { light = refl; uncrowded = omega arith }

-- ---- Tokens of expressions

expression_stop :
    (ts : List Token) (k : ℕ) → IsRefused only_expr ts k → IsPartStop IsFull ts (Fault k)
expression_stop ts k bad =
    fault_clause IsFull only_expr (λ n. ended_laws (expr_laws n)) expression ts (Err (Fault k)) bad

-- `0 +` ends too early.
abbrev half_sum : List Token
half_sum = zero_token ∷ at (kinds.Mark marks.Plus) ∷ []

half_sum_is_refused : IsRefused only_expr half_sum 0
half_sum_is_refused zero h = absurd (omega (arith, h))
half_sum_is_refused (suc zero) h = absurd (omega (arith, h))
half_sum_is_refused (suc (suc zero)) h = absurd (omega (arith, h))
half_sum_is_refused (suc (suc (suc n))) h = ([], refl, refl)

half_sum_is_no_expression : IsExpressionFault half_sum 4 2
half_sum_is_no_expression = inr (refl, refl, (expression_stop half_sum 0 half_sum_is_refused).1)

half_sum_is_a_cause : IsExpressionStop half_sum (stops.Fault 4 2)
half_sum_is_a_cause = half_sum_is_no_expression

-- 201 open parentheses are error 5.
too_deep : IsExpressionFault (replicate 201 left) 5 200
too_deep = inl (refl, record { inside = lit< tt; is_first = refl })

-- `0 + 0` is an expression, and has no error.
abbrev sum : List Token
sum = zero_token ∷ at (kinds.Mark marks.Plus) ∷ zero_token ∷ []

abbrev zero_expression : Expression
zero_expression =
    Expression.number (record { digits = pos 0; places = 0 }) (record { from = 0; to = 0 })

abbrev sum_expression : Expression
sum_expression =
    Expression.binary BinaryOp.Plus zero_expression zero_expression (record { from = 0; to = 0 })

sum_is_expression : IsFull sum_expression sum
sum_is_expression =
    found_all IsFull only_expr (λ n. ended_laws (expr_laws n)) 20 sum sum_expression refl

sum_has_no_error : (number i : ℕ) → IsExpressionFault sum number i → ⊥
sum_has_no_error number i =
    no_spelling_fault IsFull 4 sum sum_expression number i refl sum_is_expression
