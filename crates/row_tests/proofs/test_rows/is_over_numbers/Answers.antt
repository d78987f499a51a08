use Rattle.std.proofs.Common.{◌≡◌, ◌∙◌, sym, ap, true}
use Rattle.std.specs.Prelude.{pos}
use Rattle.std.proofs.lemmas.List.Elements.{All-more}
use Rattle.linear_rows.specs.VariableTypes.{is_numeric}
use Rattle.heylo_formula.specs.Typing.{types_in}
use Rattle.row_tests.proofs.TestRows.{over_all}
use Rattle.row_tests.proofs.test_rows.is_over_numbers.Goals as goal

pub loop-variable-preserved : goal.loop-variable-preserved
loop-variable-preserved c = All-more (λ t. is_numeric (types_in c.args.vars.now t.0) ≡ true) c.deref-variable-items.result.now c.loop-variable.variable-index (0, pos 0) c.loop-variable-test.true c.loop-variable.invariant (sym c.is_number_at.ensures ∙ c.if-not-is_number_at.false)

pub returns : goal.returns
returns c = λ _. over_all c.args.vars.now c.args.row.now _ _ (c.deref-variable-items.ensures.value ∙ ap (λ r. r.terms) c.row.view_is) c.loop-variable-test.false c.loop-variable.invariant
