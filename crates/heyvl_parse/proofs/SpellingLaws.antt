-- Tokens that have to spell one thing have at most one first error, and none if they spell it.
use Rattle.heyvl_parse.specs.Files.{IsParseMemory, IsThisParseStop}
use Rattle.heyvl_parse.specs.Laws.{ExpressionIsUnique}
use Rattle.heyvl_parse.specs.Spellings.{IsExpressionFault, IsExpressionStop, IsSpellingFault}
use Rattle.heyvl_parse.specs.declared.parser.ParseStop.TheVariants.{Fault, Memory}
use Rattle.heyvl_parse.specs.declared.parser.ParseStop.{ParseStop}
use Rattle.heyvl_syntax.proofs.exported.Beginnings.{unexpected_unique}
use Rattle.heyvl_syntax.proofs.exported.OneFault.{light_or_over}
use Rattle.heyvl_syntax.specs.Expressions.{Expression, expression}
use Rattle.heyvl_syntax.specs.Grammar.{IsFull}
use Rattle.heyvl_syntax.specs.SourceFaults.{IsLight}
use Rattle.heyvl_syntax.specs.declared.expressions.Expr.{Expr}
use Rattle.heyvl_syntax.specs.declared.tokens.Token.{Token}
use Rattle.std.proofs.Common.{Err, IfErr, IfOk, List, MatchResult, Ok, Result, inl, inr, sym, ◌∙◌, ◌≡◌, ℕ}

module _ {A : Type 0} (spells : A → List Token → Type 0) (told : ℕ) (ts : List Token) where
  pub spelling_fault_unique : (number other i j : ℕ) → IsSpellingFault spells told ts number i → IsSpellingFault spells told ts other j → (number ≡ other) × (i ≡ j)
  spelling_fault_unique number other i j (inl (n, s)) (inl (m, t)) = (n ∙ sym m, sym s.is_first ∙ t.is_first)
  spelling_fault_unique number other i j (inl (n, s)) (inr (m, light, t)) = absurd (light_or_over ts i light s)
  spelling_fault_unique number other i j (inr (n, light, s)) (inl (m, t)) = absurd (light_or_over ts j light t)
  spelling_fault_unique number other i j (inr (n, light, s)) (inr (m, lit, t)) = (n ∙ sym m, unexpected_unique spells ts i j s t)

  pub no_spelling_fault : (x : A) (number i : ℕ) → IsLight ts → spells x ts → IsSpellingFault spells told ts number i → ⊥
  no_spelling_fault x number i light h (inl (n, s)) = light_or_over ts i light s
  no_spelling_fault x number i light h (inr (n, lit, s)) = s.none x h

module _ (ts : List Token) where
  abbrev Found : Result Expr ParseStop → Type 0
  Found result = IfOk result (λ x. IsLight ts × IsFull (expression x) ts)

  pub only_expression : ExpressionIsUnique → (result : Result Expr ParseStop) → Found result → IfErr result (λ stop. IsExpressionStop ts stop) → (x : Expression) → IsLight ts → IsFull x ts → MatchResult result (λ found. expression found ≡ x) (λ stop. IsParseMemory stop)
  only_expression unique (Ok y) found fault x light h = unique ts (expression y) x found.1 h
  only_expression unique (Err (Fault number i)) found fault x light h = no_spelling_fault IsFull 4 ts x number i light h fault
  only_expression unique (Err (Memory error)) found fault x light h = tt

  pub only_expression_fault : (result : Result Expr ParseStop) → Found result → IfErr result (λ stop. IsExpressionStop ts stop) → (number i : ℕ) → IsExpressionFault ts number i → MatchResult result (λ _. ⊥) (λ stop. IsThisParseStop number i stop)
  only_expression_fault (Ok y) found fault number i h = no_spelling_fault IsFull 4 ts (expression y) number i found.0 found.1 h
  only_expression_fault (Err (Fault other j)) found fault number i h = spelling_fault_unique IsFull 4 ts other number j i fault h
  only_expression_fault (Err (Memory error)) found fault number i h = tt
