-- The invariant and the ranking that the rules before a loop give, rule by rule. This project's
-- own.
use Rattle.heylo_formula.specs.Formula.{Cond, Form}
use Rattle.heylo_formula.specs.PlainTrees.{cond_of, form_of}
use Rattle.heylo_formula.specs.declared.forms.Cond as C
use Rattle.heylo_formula.specs.declared.forms.Form as F
use Rattle.heyvl_acts.specs.PlainActs.{rank_of}
use Rattle.heyvl_num.specs.Rational.{Rational}
use Rattle.heyvl_num.specs.Value.Value.{infinite}
use Rattle.heyvl_syntax.specs.Statements.{LoopRule}
use Rattle.static_rules.specs.LoopRules.{is_no_formula}
use Rattle.static_rules.specs.StatementActs.{invariant_of, ranking_of}
use Rattle.typed_right_sides.specs.declared.loop_rules.Found as memory
use Rattle.std.specs.List.{list_any}
use Rattle.std.specs.Option.{option_or}
use Rattle.std.specs.Prelude.{Bool, List, None, Option, Some, [], ◌||◌, ℕ}
use Rattle.typed_expressions.specs.Scopes.{Scope}

-- The first invariant, the first ranking with its step, and whether one of the invariants and
-- rankings is not a formula of type `UInt`, `UReal` or `EUReal`.
pub record Found : Type 0 where
  pub invariant : Form
  pub rank : Option (Rational × Form)
  pub misses : Bool

-- The result of the rules `rs`.
abbrev pub rules_found : ℕ → Scope → List LoopRule → Found
rules_found n sc rs = record {
  invariant = invariant_of n sc rs;
  rank = ranking_of n sc rs;
  misses = list_any (is_no_formula n sc) rs;
}

-- The first invariant if there is one, otherwise the second.
abbrev pub or_invariant : Option F.Form → Form → Form
or_invariant (Some a) b = form_of a
or_invariant None b = b

-- The result of earlier rules, whose result is `f`, and the further rules `rs`.
abbrev pub found_with : memory.Found → ℕ → Scope → List LoopRule → Found
found_with f n sc rs = record {
  invariant = or_invariant f.invariant (invariant_of n sc rs);
  rank = option_or (rank_of f.rank) (ranking_of n sc rs);
  misses = f.misses || list_any (is_no_formula n sc) rs;
}

-- The result of earlier rules without further ones.
abbrev pub found_of : memory.Found → Found
found_of f = record {
  invariant = or_invariant f.invariant (Form.number infinite);
  rank = rank_of f.rank;
  misses = f.misses;
}

-- The result of the rules of a loop, and its guard.
abbrev pub head_of : memory.Found × C.Cond → Found × Cond
head_of x = (found_of x.0, cond_of x.1)
