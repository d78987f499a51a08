use Rattle.linear_form.proofs.ShortPaths.{short_paths}
use Rattle.linear_form.proofs.path_laws.paths_are_short.Goals as goal

pub returns : goal.returns
returns c = short_paths
