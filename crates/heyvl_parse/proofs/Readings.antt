-- Reading gives what is spelled, if the next token does not continue it; so tokens spell at most
-- one expression.
use Rattle.heyvl_parse.proofs.Complete.{Quiet, complete}
use Rattle.heyvl_parse.specs.Laws.{ExpressionIsUnique}
use Rattle.heyvl_parse.specs.readers.ReadParts.{Got, Whole, reading}
use Rattle.heyvl_syntax.specs.Expressions.{Expression}
use Rattle.heyvl_syntax.specs.Grammar.{IsExpr}
use Rattle.heyvl_syntax.specs.declared.tokens.Token.{Token}
use Rattle.std.proofs.Common.{List, [], arith, length, refl, suc, zero, ◌++◌, ◌<◌, ◌≡◌, ℕ}
use Rattle.std.proofs.lemmas.List.{append-nil}

pub reads : (n : ℕ) (text rest : List Token) (t : Expression) → length (text ++ rest) < n → IsExpr t 9 text → Quiet 9 rest → reading n Whole (text ++ rest) ≡ Got t rest
reads zero text rest t len h q = absurd (omega arith)
reads (suc n) text rest t len h q = complete t text rest n h (omega arith) q

pub unique : ExpressionIsUnique
unique text t u ht hu =
    let same : text ++ [] ≡ text = append-nil text in
    let n : ℕ = suc (length (text ++ [])) in
    let one : reading n Whole (text ++ []) ≡ Got t [] = reads n text [] t (omega arith) ht (λ j lt. refl) in
    let two : reading n Whole (text ++ []) ≡ Got u [] = reads n text [] u (omega arith) hu (λ j lt. refl) in
    cc
