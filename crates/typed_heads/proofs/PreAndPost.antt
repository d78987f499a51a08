-- Pre and post clauses, clause by clause.
use Rattle.heyvl_syntax.specs.Expressions.{expression, expressions}
use Rattle.typed_heads.proofs.ClauseForms.{Clauses}
use Rattle.static_rules.specs.Files.{front_of, post_forms, posts_findings, pre_forms, pres_findings}
use Rattle.std.proofs.Common.{Bool, length, refl, ◌+◌}
use Rattle.typed_expressions.specs.DeclaredVariables.{front_variables}
use Rattle.typed_expressions.specs.Scopes.{Scope}
use Rattle.typed_expressions.specs.TypedExpressions.{closed_findings, elaborate, findings}
use Rattle.typed_expressions.specs.Values.{form}
use Rattle.typed_expressions.specs.declared.demands.Demand.{Demand}

abbrev pub pres : Scope → Clauses
pres sc = record {
  found = λ n e. closed_findings Demand.Formula n sc (expression e);
  made = λ n e. form (elaborate n sc (expression e));
  after = λ n e. n;
  all_found = λ n es. pres_findings n sc (expressions es);
  all_made = λ n es. pre_forms n sc (expressions es);
  found_none = λ n. refl;
  found_more = λ n e es. refl;
  made_none = λ n. refl;
  made_more = λ n e es. refl;
}

abbrev pub posts : Bool → Scope → Clauses
posts co sc = record {
  found = λ n e. findings (front_of co) Demand.Formula n sc (expression e);
  made = λ n e. form (elaborate n sc (expression e));
  after = λ n e. n + length (front_variables (expression e));
  all_found = λ n es. posts_findings (front_of co) n sc (expressions es);
  all_made = λ n es. post_forms n sc (expressions es);
  found_none = λ n. refl;
  found_more = λ n e es. refl;
  made_none = λ n. refl;
  made_more = λ n e es. refl;
}
