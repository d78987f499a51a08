-- Reading the rules of loops.
use Rattle.heyvl_parse.specs.readers.Combinators.{each, is_word, lead, refuse, spanned}
use Rattle.heyvl_parse.specs.readers.ReadParts.{Read, is_mark, mapped}
use Rattle.heyvl_parse.specs.internal.Rights.{enclosed_expr, two}
use Rattle.heyvl_parse.specs.declared.loops.RuleStart.TheVariants as starts_as
use Rattle.heyvl_parse.specs.declared.loops.RuleStart.{RuleStart}
use Rattle.heyvl_syntax.specs.Expressions.{Expression}
use Rattle.heyvl_syntax.specs.Statements.{LoopRule}
use Rattle.heyvl_syntax.specs.declared.marks.Mark.TheVariants as marks
use Rattle.heyvl_places.specs.declared.spans.Span.{Span}
use Rattle.heyvl_syntax.specs.declared.tokens.Token.{Token}
use Rattle.heyvl_syntax.specs.declared.tokens.TokenKind.TheVariants as kinds
use Rattle.heyvl_syntax.specs.declared.tokens.TokenKind.{TokenKind}
use Rattle.std.specs.Cmp.Lexicographic.{pointwise}
use Rattle.std.specs.Prelude.{List, [], codes, cond, nat_eq, ◌∷◌, ℕ}

-- A rule without its place.
pub data RuleParts : Type 0 where
  invariant : Expression → RuleParts
  k_induction : Expression × Expression → RuleParts
  ranking : Expression × Expression → RuleParts

abbrev pub rule_tree : RuleParts → Span → LoopRule
rule_tree (RuleParts.invariant i) s = LoopRule.invariant i s
rule_tree (RuleParts.k_induction p) s = LoopRule.k_induction p.0 p.1 s
rule_tree (RuleParts.ranking p) s = LoopRule.ranking p.0 p.1 s

abbrev pub word_rule : List ℕ → RuleStart
word_rule w =
    cond (pointwise nat_eq w (codes "invariant")) starts_as.Invariant
    (cond (pointwise nat_eq w (codes "k_induction")) starts_as.KInduction
    (cond (pointwise nat_eq w (codes "ranking")) starts_as.Ranking starts_as.Other))

abbrev pub kind_rule : TokenKind → RuleStart
kind_rule (kinds.Word w) = word_rule w
kind_rule (kinds.Key k) = starts_as.Other
kind_rule (kinds.Number n) = starts_as.Other
kind_rule (kinds.Mark m) = starts_as.Other

-- The rule whose identifier is the first token.
abbrev pub rule_start : List Token → RuleStart
rule_start [] = starts_as.Other
rule_start (t ∷ ts) = kind_rule t.kind

abbrev pub rule_by : ℕ → RuleStart → List Token → Read RuleParts
rule_by n starts_as.Invariant ts =
    mapped RuleParts.invariant (lead (is_word (codes "invariant")) (enclosed_expr n)) ts
rule_by n starts_as.KInduction ts =
    mapped RuleParts.k_induction (lead (is_word (codes "k_induction")) (two n)) ts
rule_by n starts_as.Ranking ts =
    mapped RuleParts.ranking (lead (is_word (codes "ranking")) (two n)) ts
rule_by n starts_as.Other ts = refuse ts

abbrev pub rule_parts : ℕ → List Token → Read RuleParts
rule_parts n ts = rule_by n (rule_start ts) ts

-- `rule`
abbrev pub rule : ℕ → List Token → Read LoopRule
rule n ts = spanned rule_tree (lead (is_mark marks.AtSign) (rule_parts n)) ts

-- `rule*`
abbrev pub rules : ℕ → List Token → Read (List LoopRule)
rules n ts = each (is_mark marks.AtSign) (rule n) n ts
