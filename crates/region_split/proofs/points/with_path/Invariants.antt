use Rattle.std.proofs.Common.{◌≡◌, take}
use Rattle.linear_form.specs.PlainPaths.{path_of}
use Rattle.region_split.specs.PathPoints.{with_truths}
use Rattle.region_split.proofs.points.with_path.Given as goal

abbrev pub invariant-values : goal.invariant-values
invariant-values l = l.out.items ≡ with_truths (path_of l.path) 0 (take l.i l.values)
