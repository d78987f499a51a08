use Rattle.heylo_formula.proofs.SameRenaming.{bind_under}
use Rattle.heylo_formula.proofs.forms.+renaming.Goals as goal

pub Form::rename-returns-in_ok-rename_boxed-in-Bind : goal.Form::rename-returns-in_ok-rename_boxed-in-Bind
Form::rename-returns-in_ok-rename_boxed-in-Bind t c = bind_under c.args.from c.args.to _ c.in-Bind.up c.in-Bind.y c.in-Bind.name c.in-Bind.ty c.in-Bind.a c.in_ok-rename_boxed-in-Bind.field-0 c.deref-in-Bind.result.now c.under.result c.in-Bind.is c.deref-in-Bind.ensures c.under.ensures c.in_ok-rename_boxed-in-Bind.ensures
