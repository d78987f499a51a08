-- Results of `vp`: a form within the limits, or a limit that the form exceeds. This project's own.
use Rattle.std.specs.Prelude.{◌≡◌, Result, Ok, Err}
use Rattle.heylo_formula.specs.Formula.{Form}
use Rattle.heylo_formula.specs.PlainTrees.{form_of}
use Rattle.heylo_formula.specs.declared.forms.Form as F
use Rattle.vp_generator.specs.Limits.{IsSmall, IsTooDeep, IsTooLarge}
use Rattle.vp_generator.specs.declared.stops.VpStop.{VpStop}
use Rattle.vp_generator.specs.declared.stops.VpStop.TheVariants.{Depth, Nodes, Memory}

-- The form exceeds the limit that the error names. Memory may run out for any form.
abbrev pub IsStop : Form → VpStop → Type 0
IsStop f Depth = IsTooDeep f
IsStop f Nodes = IsTooLarge f
IsStop f (Memory e) = Unit {0}

-- The result is the form `f`, which is within the limits, or a limit that it exceeds.
abbrev pub IsAnswer : Form → Result F.Form VpStop → Type 0
IsAnswer f (Ok g) = (form_of g ≡ f) × IsSmall f
IsAnswer f (Err stop) = IsStop f stop
