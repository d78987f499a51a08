-- The rules of a statement with a right side and without findings.
use Rattle.heyvl_syntax.specs.Statements.{RightSide}
use Rattle.heyvl_places.specs.declared.spans.Span.{Span}
use Rattle.heyvl_syntax.specs.declared.types.TypeName.{TypeName}
use Rattle.static_rules.proofs.exported.Findings.{all_kept, back_none}
use Rattle.static_rules.specs.RightSides.{calls_unknown, counts_wrong, has_over_zero, literal_wrong, right_findings, right_mismatches}
use Rattle.typed_expressions.specs.Scopes.{Scope, any_unknown, types_of_names}
use Rattle.typed_expressions.specs.Signatures.{Called}
use Rattle.static_rules.specs.StatementRules.{assign_rules, statement_findings, var_rules}
use Rattle.typed_expressions.specs.Table.{declarable}
use Rattle.heyvl_syntax.specs.Statements.Statement.{assign, var}
use Rattle.static_rules.specs.declared.settings.Setting.{Setting}
use Rattle.std.proofs.Common.{Bool, List, Option, Some, [], false, ◌∷◌, ◌≡◌, ℕ}
use Rattle.std.proofs.lemmas.Bool.{or_parts}
use Rattle.std.specs.Option.{is_none}

-- For targets of these declared types, the value of the right side fits, and so do its numbers and
-- its literals.
pub record RightKept (c : Called) (n : ℕ) (sc : Scope) (ts : List (Option TypeName)) (r : RightSide) : Type 0 where
  pub known : calls_unknown c r ≡ false
  pub matches : right_mismatches c n sc r ts ≡ false
  pub counts : counts_wrong c r ts ≡ false
  pub literals : literal_wrong n sc r ≡ false
  pub divisors : has_over_zero r ≡ false

module _ (h : Setting) (c : Called) (n : ℕ) (sc : Scope) where
  pub var_kept : (bound : Bool) (x : List ℕ) (t : TypeName) (r : RightSide) (s : Span) → statement_findings h c bound n sc (var x t (Some r) s) ≡ [] → RightKept c n sc (Some t ∷ []) r
  var_kept bound x t r s e =
      let k = all_kept s (var_rules h c n sc x t (Some r)) (back_none (right_findings n sc r) _ e) in
      record {
        known = (or_parts false (calls_unknown c r) k.0).1;
        matches = (or_parts (is_none (declarable t)) (right_mismatches c n sc r (Some t ∷ [])) k.1.1.0).1;
        counts = k.1.1.1.1.0;
        literals = k.1.1.1.1.1.0;
        divisors = k.1.1.1.1.1.1.0;
      }

  pub assign_kept : (bound : Bool) (xs : List (List ℕ)) (r : RightSide) (s : Span) → statement_findings h c bound n sc (assign xs r s) ≡ [] → RightKept c n sc (types_of_names sc xs) r
  assign_kept bound xs r s e =
      let k = all_kept s (assign_rules h c n sc xs r) (back_none (right_findings n sc r) _ e) in
      record {
        known = (or_parts (any_unknown sc xs) (calls_unknown c r) k.0).1;
        matches = (or_parts false (right_mismatches c n sc r (types_of_names sc xs)) k.1.1.0).1;
        counts = k.1.1.1.1.0;
        literals = k.1.1.1.1.1.0;
        divisors = k.1.1.1.1.1.1.0;
      }

  -- The targets of an assignment are visible.
  pub targets_known : (bound : Bool) (xs : List (List ℕ)) (r : RightSide) (s : Span) → statement_findings h c bound n sc (assign xs r s) ≡ [] → any_unknown sc xs ≡ false
  targets_known bound xs r s e = (or_parts (any_unknown sc xs) (calls_unknown c r) (all_kept s (assign_rules h c n sc xs r) (back_none (right_findings n sc r) _ e)).0).0
