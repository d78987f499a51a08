use Rattle.std.proofs.Common.{◌≡◌, length, take}
use Rattle.linear_form.specs.Query.{known}
use Rattle.linear_form.specs.PlainPaths.{path_of}
use Rattle.linear_form.proofs.known_truths.known_truth.Given as goal

abbrev pub decreases-search : goal.decreases-search
decreases-search l = length l.rest

abbrev pub invariant-search : goal.invariant-search
invariant-search l = known l.fn.x (take l.fn.count (path_of l.fn.path)) ≡ known l.fn.x (take l.left (path_of l.rest))
