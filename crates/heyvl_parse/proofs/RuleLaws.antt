-- The laws of the readers of the rules of loops.
use Rattle.heyvl_parse.proofs.KeyLaws.{led_starts}
use Rattle.heyvl_parse.proofs.Lawful.{Laws, chosen_local, each_laws, lead_laws, local_refuse}
use Rattle.heyvl_parse.proofs.Local.{Local, local_mapped}
use Rattle.heyvl_parse.proofs.PlacedLaws.{Made, laws_alike, made_laws}
use Rattle.heyvl_parse.proofs.Right.{RightAt, Some_text, right_map}
use Rattle.heyvl_parse.proofs.RightLaws.{IsTwo, enclosed_laws, led, mark_test, some_enclosed, some_lead, some_two, two_laws}
use Rattle.heyvl_parse.specs.declared.loops.RuleStart.TheVariants as rule_starts
use Rattle.heyvl_parse.specs.declared.loops.RuleStart.{RuleStart}
use Rattle.heyvl_parse.specs.readers.Combinators.{either, is_word, lead, no_kind, starts}
use Rattle.heyvl_parse.specs.internal.Loops.{RuleParts, rule, rule_by, rule_parts, rule_start, rule_tree, rules}
use Rattle.heyvl_parse.specs.readers.ReadParts.{Got, is_mark}
use Rattle.heyvl_parse.specs.internal.Rights.{enclosed_expr, two}
use Rattle.heyvl_syntax.specs.Grammar.{IsFull, IsRule}
use Rattle.heyvl_syntax.specs.Productions.{IsEach, IsMark, IsName, ◌then◌}
use Rattle.heyvl_syntax.specs.Statements.{LoopRule}
use Rattle.heyvl_syntax.specs.declared.marks.Mark.TheVariants as marks
use Rattle.heyvl_syntax.specs.declared.tokens.Token.{Token}
use Rattle.heyvl_syntax.specs.declared.tokens.TokenKind.TheVariants as kinds
use Rattle.heyvl_syntax.specs.declared.tokens.TokenKind.{TokenKind}
use Rattle.std.proofs.Common.{List, [], ap, arith, codes, false, length, refl, sym, true, ◌++◌, ◌<◌, ◌∙◌, ◌≡◌, ℕ}
use Rattle.std.specs.Cmp.Lexicographic.{same_text}

is_word_true : (name : List ℕ) (k : TokenKind) → is_word name k ≡ true → k ≡ kinds.Word name
is_word_true name (kinds.Word w) e = ap kinds.Word (same_text w name (sym e))
is_word_true name (kinds.Key k) e = cc
is_word_true name (kinds.Number n) e = cc
is_word_true name (kinds.Mark m) e = cc

abbrev IsParts : RuleParts → List Token → Type 0
IsParts (RuleParts.invariant i) = IsName (codes "invariant") then IsMark marks.ParenLeft then IsFull i then IsMark marks.ParenRight
IsParts (RuleParts.k_induction p) = IsName (codes "k_induction") then IsTwo p
IsParts (RuleParts.ranking p) = IsName (codes "ranking") then IsTwo p

invariant_laws : (n : ℕ) → Laws n (λ i. IsParts (RuleParts.invariant i)) no_kind (lead (is_word (codes "invariant")) (enclosed_expr n))
invariant_laws n = lead_laws (record { only = is_word_true (codes "invariant"); holds = refl }) (enclosed_laws n) some_enclosed

induction_laws : (n : ℕ) → Laws n (λ p. IsParts (RuleParts.k_induction p)) no_kind (lead (is_word (codes "k_induction")) (two n))
induction_laws n = lead_laws (record { only = is_word_true (codes "k_induction"); holds = refl }) (two_laws n) some_two

ranking_laws : (n : ℕ) → Laws n (λ p. IsParts (RuleParts.ranking p)) no_kind (lead (is_word (codes "ranking")) (two n))
ranking_laws n = lead_laws (record { only = is_word_true (codes "ranking"); holds = refl }) (two_laws n) some_two

some_parts : Some_text IsParts
some_parts = let (i, text, h) = some_lead (kinds.Word (codes "invariant")) some_enclosed in (RuleParts.invariant i, text, h)

parts_laws : (n : ℕ) → Laws n IsParts no_kind (rule_parts n)
parts_laws n = record {
  right = λ ts. rights (rule_start ts) ts;
  local = chosen_local rule_start (rule_by n) (rule_parts n) (λ ts. refl) (λ t r r'. refl) locals;
  complete = done;
}
  where
    rights : (start : RuleStart) → RightAt IsParts (rule_by n start)
    rights rule_starts.Invariant ts = right_map _ IsParts RuleParts.invariant ts _ (λ x text h. h) ((invariant_laws n).right ts)
    rights rule_starts.KInduction ts = right_map _ IsParts RuleParts.k_induction ts _ (λ x text h. h) ((induction_laws n).right ts)
    rights rule_starts.Ranking ts = right_map _ IsParts RuleParts.ranking ts _ (λ x text h. h) ((ranking_laws n).right ts)
    rights rule_starts.Other ts = let (x, text, h) = some_parts in ([], text, x, refl, h)

    locals : (start : RuleStart) → Local (rule_by n start)
    locals rule_starts.Invariant = local_mapped _ _ (invariant_laws n).local
    locals rule_starts.KInduction = local_mapped _ _ (induction_laws n).local
    locals rule_starts.Ranking = local_mapped _ _ (ranking_laws n).local
    locals rule_starts.Other = local_refuse

    at_start : (ts : List Token) (start : RuleStart) → rule_start ts ≡ start → rule_parts n ts ≡ rule_by n start ts
    at_start ts start e = ap (λ z. rule_by n z ts) e

    done : (p : RuleParts) (text rest : List Token) → IsParts p text → length (text ++ rest) < n → starts no_kind rest ≡ false → rule_parts n (text ++ rest) ≡ Got p rest
    done (RuleParts.invariant i) text rest h len quiet =
        let (s, back, inner, e) = led _ (kinds.Word (codes "invariant")) text rest h in
        at_start (text ++ rest) rule_starts.Invariant (rw e refl) ∙ rw ((invariant_laws n).complete i text rest h len quiet) refl
    done (RuleParts.k_induction p) text rest h len quiet =
        let (s, back, inner, e) = led _ (kinds.Word (codes "k_induction")) text rest h in
        at_start (text ++ rest) rule_starts.KInduction (rw e refl) ∙ rw ((induction_laws n).complete p text rest h len quiet) refl
    done (RuleParts.ranking p) text rest h len quiet =
        let (s, back, inner, e) = led _ (kinds.Word (codes "ranking")) text rest h in
        at_start (text ++ rest) rule_starts.Ranking (rw e refl) ∙ rw ((ranking_laws n).complete p text rest h len quiet) refl

abbrev Ruled : RuleParts → List Token → Type 0
Ruled p = IsMark marks.AtSign then IsParts p

into_rule : (r : LoopRule) (text : List Token) → Made rule_tree Ruled r text → IsRule r text
into_rule r text (RuleParts.invariant i, same, h) = rw same (h, refl)
into_rule r text (RuleParts.k_induction p, same, h) = rw same (h, refl)
into_rule r text (RuleParts.ranking p, same, h) = rw same (h, refl)

from_rule : (r : LoopRule) (text : List Token) → IsRule r text → Made rule_tree Ruled r text
from_rule (LoopRule.invariant i s) text (h, e) = (RuleParts.invariant i, rw e refl, h)
from_rule (LoopRule.k_induction k i s) text (h, e) = (RuleParts.k_induction (k, i), rw e refl, h)
from_rule (LoopRule.ranking k i s) text (h, e) = (RuleParts.ranking (k, i), rw e refl, h)

rule_laws : (n : ℕ) → Laws n IsRule no_kind (rule n)
rule_laws n = laws_alike IsRule (made_laws rule_tree (lead_laws (mark_test marks.AtSign) (parts_laws n) some_parts)) into_rule from_rule

pub rule_begins : (r : LoopRule) (text : List Token) → IsRule r text → starts (is_mark marks.AtSign) text ≡ true
rule_begins (LoopRule.invariant i s) text (h, e) = led_starts _ (mark_test marks.AtSign) text h
rule_begins (LoopRule.k_induction k i s) text (h, e) = led_starts _ (mark_test marks.AtSign) text h
rule_begins (LoopRule.ranking k i s) text (h, e) = led_starts _ (mark_test marks.AtSign) text h

pub rules_laws : (n : ℕ) → Laws n (IsEach IsRule) (either no_kind (is_mark marks.AtSign)) (rules n)
rules_laws n = each_laws (is_mark marks.AtSign) (rule_laws n) rule_begins (λ k e. refl) n (omega arith)
