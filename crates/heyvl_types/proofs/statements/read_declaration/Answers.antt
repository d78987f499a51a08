use Rattle.heyvl_syntax.specs.Statements.{optional_right}
use Rattle.heyvl_types.proofs.NewNames.{not_visible}
use Rattle.heyvl_types.proofs.statements.read_declaration.Goals as goal

pub returns-clause-kept : goal.returns-clause-kept
returns-clause-kept c = c.in_ok-declare.ensures.last (not_visible c.args.setting c.args.calls.now _ c.args.scope.now c.args.name.now c.args.ty (optional_right c.args.right.now) c.args.span c.in_ok-act.ensures.0)
