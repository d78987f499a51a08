use Rattle.heylo_formula.specs.Formula.{Form}
use Rattle.heyvl_acts.specs.Acts.{Acts}
use Rattle.heyvl_acts.specs.PlainActs.{procedure_of, variable_of}
use Rattle.heyvl_syntax.specs.Expressions.{expressions}
use Rattle.heyvl_syntax.specs.Procedures.{procedure}
use Rattle.heyvl_types.proofs.ReadProcedures.{HeadIs, all_in_range, all_variables, bad_body, bad_clauses, bad_head, bad_name, in_range, many_of, setting_with, together, variables_of}
use Rattle.heyvl_types.proofs.procedures.read_procedure.Goals as goal
use Rattle.static_rules.specs.Files.{arity, body_acts, has_quantified_post, head_scope, input_scope, pre_forms, procedure_findings, setting, typed}
use Rattle.static_rules.specs.Variables.{locals_of_body, parameters}
use Rattle.std.proofs.Common.{Err, List, ap, arith, length, map, rules, sym, ◌++◌, ◌∙◌, ◌≡◌, ℕ}
use Rattle.std.specs.List.{list_any}
use Rattle.std.specs.Prelude.{Option}
use Rattle.typed_expressions.specs.Answers.{Gives}
use Rattle.typed_expressions.specs.DeclaredVariables.{fronts_variables}
use Rattle.typed_expressions.specs.TypedExpressions.{has_quantifier}

pub read_head-requires : goal.read_head-requires
read_head-requires c = let few = c.requires.variables in omega (arith, few)

pub read_clauses-requires : goal.read_clauses-requires
read_clauses-requires c =
    let few = c.requires.variables in
    let number : c.in_ok-inputs.field-0.arity ≡ arity (procedure c.args.proc.now) = c.in_ok-inputs.ensures.gives.1 in
    omega (arith, few, number)

pub read_body-requires-clause-variables : goal.read_body-requires-clause-variables
read_body-requires-clause-variables c =
    let few = c.requires.variables in
    let declared : map variable_of c.in_ok-inputs.field-0.vars.items ≡ parameters (procedure c.args.proc.now).inputs ++ parameters (procedure c.args.proc.now).outputs = c.in_ok-inputs.ensures.vars in
    let next : length c.in_ok-inputs.field-0.vars.items ≡ arity (procedure c.args.proc.now) = many_of (procedure c.args.proc.now) c.in_ok-inputs.field-0.vars.items declared in
    omega (arith, few, next)

pub read_body-requires-clause-loops : goal.read_body-requires-clause-loops
read_body-requires-clause-loops c = let few = c.requires.loops in omega (arith, few)

pub returns-in_err-check_name-clause-gives : goal.returns-in_err-check_name-clause-gives
returns-in_err-check_name-clause-gives c =
    let stop : Gives procedure_of (Err c.in_err-check_name.field-0.0) (procedure_findings c.args.calls.now c.args.named (procedure c.args.proc.now)) (typed c.args.calls.now (procedure c.args.proc.now)) =
    bad_name procedure_of c.in_err-check_name.field-0.0 c.args.calls.now c.args.named (procedure c.args.proc.now) (typed c.args.calls.now (procedure c.args.proc.now)) c.in_err-check_name.ensures in
    search rules

pub returns-in_err-inputs-clause-gives : goal.returns-in_err-inputs-clause-gives
returns-in_err-inputs-clause-gives c =
    let stop : Gives procedure_of (Err c.in_err-inputs.field-0.0) (procedure_findings c.args.calls.now c.args.named (procedure c.args.proc.now)) (typed c.args.calls.now (procedure c.args.proc.now)) =
    bad_head (λ (n : ℕ). n) procedure_of c.in_err-inputs.field-0.0 c.args.calls.now c.args.named (procedure c.args.proc.now) (arity (procedure c.args.proc.now)) (typed c.args.calls.now (procedure c.args.proc.now)) c.in_ok-check_name.ensures c.in_err-inputs.ensures.gives in
    search rules

pub returns-in_err-clauses-clause-gives : goal.returns-in_err-clauses-clause-gives
returns-in_err-clauses-clause-gives c =
    let number : c.in_ok-inputs.field-0.arity ≡ arity (procedure c.args.proc.now) = c.in_ok-inputs.ensures.gives.1 in
    let inner : c.in_ok-inputs.field-0.inputs ≡ input_scope (procedure c.args.proc.now) = c.in_ok-inputs.ensures.inputs in
    let all : c.in_ok-inputs.field-0.all ≡ head_scope (procedure c.args.proc.now) = c.in_ok-inputs.ensures.all in
    let head : HeadIs c.args.named (procedure c.args.proc.now) c.in_ok-inputs.field-0.arity c.in_ok-inputs.field-0.inputs c.in_ok-inputs.field-0.all = record { named_well = c.in_ok-check_name.ensures; kept = c.in_ok-inputs.ensures.gives.0; number = number; inputs = inner; scope = all } in
    let stop : Gives procedure_of (Err c.in_err-clauses.field-0.0) (procedure_findings c.args.calls.now c.args.named (procedure c.args.proc.now)) (typed c.args.calls.now (procedure c.args.proc.now)) =
    bad_clauses (λ (l : List Form). l) procedure_of c.in_err-clauses.field-0.0 c.args.calls.now c.args.named (procedure c.args.proc.now) c.in_ok-inputs.field-0.arity c.in_ok-inputs.field-0.inputs c.in_ok-inputs.field-0.all (pre_forms c.in_ok-inputs.field-0.arity c.in_ok-inputs.field-0.inputs (procedure c.args.proc.now).pres) (typed c.args.calls.now (procedure c.args.proc.now)) head c.in_err-clauses.ensures.gives in
    search rules

pub returns-in_err-body-clause-gives : goal.returns-in_err-body-clause-gives
returns-in_err-body-clause-gives c =
    let number : c.in_ok-inputs.field-0.arity ≡ arity (procedure c.args.proc.now) = c.in_ok-inputs.ensures.gives.1 in
    let inner : c.in_ok-inputs.field-0.inputs ≡ input_scope (procedure c.args.proc.now) = c.in_ok-inputs.ensures.inputs in
    let all : c.in_ok-inputs.field-0.all ≡ head_scope (procedure c.args.proc.now) = c.in_ok-inputs.ensures.all in
    let head : HeadIs c.args.named (procedure c.args.proc.now) c.in_ok-inputs.field-0.arity c.in_ok-inputs.field-0.inputs c.in_ok-inputs.field-0.all = record { named_well = c.in_ok-check_name.ensures; kept = c.in_ok-inputs.ensures.gives.0; number = number; inputs = inner; scope = all } in
    let bound : c.any_quantified-bound.result ≡ has_quantified_post (procedure c.args.proc.now) = c.any_quantified-bound.ensures ∙ ap (λ l. list_any has_quantifier (expressions l)) c.deref.ensures.value in
    let count : c.in_ok-inputs.field-0.count ≡ length (procedure c.args.proc.now).inputs = c.in_ok-inputs.ensures.count in
    let seen : c.setting_of-setting.result ≡ setting (procedure c.args.proc.now) = c.setting_of-setting.ensures ∙ ap (λ n. setting_with (procedure c.args.proc.now) n) count in
    let declared : map variable_of c.in_ok-inputs.field-0.vars.items ≡ parameters (procedure c.args.proc.now).inputs ++ parameters (procedure c.args.proc.now).outputs = c.in_ok-inputs.ensures.vars in
    let next : length c.in_ok-inputs.field-0.vars.items ≡ arity (procedure c.args.proc.now) = many_of (procedure c.args.proc.now) c.in_ok-inputs.field-0.vars.items declared in
    let found = rw c.in_ok-clauses.ensures.kept at c.in_err-body.ensures.gives in
    let stop : Gives procedure_of (Err c.in_err-body.field-0.0) (procedure_findings c.args.calls.now c.args.named (procedure c.args.proc.now)) (typed c.args.calls.now (procedure c.args.proc.now)) =
    bad_body (λ (b : Option Acts). b) procedure_of c.in_err-body.field-0.0 c.args.calls.now c.args.named (procedure c.args.proc.now) c.in_ok-inputs.field-0.arity (length c.in_ok-inputs.field-0.vars.items) c.in_ok-inputs.field-0.inputs c.in_ok-inputs.field-0.all c.setting_of-setting.result c.any_quantified-bound.result (body_acts c.setting_of-setting.result c.args.calls.now (length c.in_ok-inputs.field-0.vars.items) c.in_ok-inputs.field-0.all (procedure c.args.proc.now).body) (typed c.args.calls.now (procedure c.args.proc.now)) head c.in_ok-clauses.ensures.gives.0 seen bound next found in
    search rules

pub returns : goal.returns
returns c =
    let number : c.in_ok-inputs.field-0.arity ≡ arity (procedure c.args.proc.now) = c.in_ok-inputs.ensures.gives.1 in
    let inner : c.in_ok-inputs.field-0.inputs ≡ input_scope (procedure c.args.proc.now) = c.in_ok-inputs.ensures.inputs in
    let all : c.in_ok-inputs.field-0.all ≡ head_scope (procedure c.args.proc.now) = c.in_ok-inputs.ensures.all in
    let head : HeadIs c.args.named (procedure c.args.proc.now) c.in_ok-inputs.field-0.arity c.in_ok-inputs.field-0.inputs c.in_ok-inputs.field-0.all = record { named_well = c.in_ok-check_name.ensures; kept = c.in_ok-inputs.ensures.gives.0; number = number; inputs = inner; scope = all } in
    let bound : c.any_quantified-bound.result ≡ has_quantified_post (procedure c.args.proc.now) = c.any_quantified-bound.ensures ∙ ap (λ l. list_any has_quantifier (expressions l)) c.deref.ensures.value in
    let count : c.in_ok-inputs.field-0.count ≡ length (procedure c.args.proc.now).inputs = c.in_ok-inputs.ensures.count in
    let seen : c.setting_of-setting.result ≡ setting (procedure c.args.proc.now) = c.setting_of-setting.ensures ∙ ap (λ n. setting_with (procedure c.args.proc.now) n) count in
    let declared : map variable_of c.in_ok-inputs.field-0.vars.items ≡ parameters (procedure c.args.proc.now).inputs ++ parameters (procedure c.args.proc.now).outputs = c.in_ok-inputs.ensures.vars in
    let next : length c.in_ok-inputs.field-0.vars.items ≡ arity (procedure c.args.proc.now) = many_of (procedure c.args.proc.now) c.in_ok-inputs.field-0.vars.items declared in
    let found = rw c.in_ok-clauses.ensures.kept at c.in_ok-body.ensures.gives in
    let outputs : c.in_ok-inputs.field-0.outputs ≡ length (procedure c.args.proc.now).outputs = c.in_ok-inputs.ensures.outputs in
    let behind_body : map variable_of c.read_body.new.vars.items ≡ (parameters (procedure c.args.proc.now).inputs ++ parameters (procedure c.args.proc.now).outputs) ++ locals_of_body (procedure c.args.proc.now).body = c.in_ok-body.ensures.declared ∙ ap (λ l. l ++ locals_of_body (procedure c.args.proc.now).body) declared in
    let behind_fronts : map variable_of c.list_fronts.new.vars.items ≡ map variable_of c.read_body.new.vars.items ++ fronts_variables (procedure c.args.proc.now).posts = c.in_ok-list_fronts.ensures ∙ ap (λ l. map variable_of c.read_body.new.vars.items ++ fronts_variables (expressions l)) c.deref-2.ensures.value in
    let vars : map variable_of c.list_fronts.new.vars.items ≡ variables_of (procedure c.args.proc.now) = all_variables (procedure c.args.proc.now) (map variable_of c.read_body.new.vars.items) (map variable_of c.list_fronts.new.vars.items) behind_body behind_fronts in
    record {
      gives = together c.args.calls.now c.args.named (procedure c.args.proc.now) c.in_ok-inputs.field-0.count c.in_ok-inputs.field-0.outputs c.in_ok-inputs.field-0.arity (length c.in_ok-inputs.field-0.vars.items) c.in_ok-inputs.field-0.inputs c.in_ok-inputs.field-0.all c.setting_of-setting.result c.any_quantified-bound.result c.list_fronts.new.vars.items _ _ _ _ c.put_together.result
          (record { head = head; inputs_are = count; outputs_are = outputs; clauses_kept = c.in_ok-clauses.ensures.gives.0; pres_are = c.in_ok-clauses.ensures.gives.1; posts_are = c.in_ok-clauses.ensures.post; setting_is = seen; bound_is = bound; next_is = next; body_kept = found.0; body_is = sym found.1; loops_are = c.in_ok-body.ensures.loops; vars_are = vars })
          c.put_together.ensures.gives;
      counted = all_in_range c.put_together.result c.in_ok-inputs.field-0.count c.in_ok-inputs.field-0.outputs c.list_fronts.new.vars c.put_together.ensures.counted (in_range (procedure c.args.proc.now) c.in_ok-inputs.field-0.count c.in_ok-inputs.field-0.outputs c.list_fronts.new.vars.items count outputs vars);
    }
