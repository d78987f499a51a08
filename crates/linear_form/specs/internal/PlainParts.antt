-- The parts of the program as those of the definitions, without pointers.
use Rattle.linear_values.specs.PlainValues.{linear_of}
use Rattle.linear_form.specs.PlainPaths.{atom_of}
use Rattle.linear_form.specs.internal.Outcomes.{Result}
use Rattle.linear_form.specs.internal.Parts.{Part, Work}
use Rattle.linear_form.specs.declared.parts.Outcome as O
use Rattle.linear_form.specs.declared.parts.Part as P
use Rattle.linear_form.specs.declared.parts.Work as W
use Rattle.linear_form.specs.declared.parts.Work.TheOpen.{Part-F, Work-F}
use Rattle.linear_form.specs.declared.parts.Work.TheFolds.{fold-Part, fold-Work}

-- `outcome_of o`: the result `o` of the program, as one of the definitions.
abbrev pub outcome_of : O.Outcome → Result
outcome_of (O.TheVariants.Number x) = Result.number (linear_of x.value)
outcome_of (O.TheVariants.Truth t) = Result.truth t
outcome_of (O.TheVariants.Ends x y) = Result.ends (linear_of x.value, linear_of y.value)

-- `work_layer w`: the work `w` whose parts are converted already.
abbrev pub work_layer : Work-F Work Part → Work
work_layer (Work-F.Known o) = Work.known (outcome_of o)
work_layer Work-F.Large = Work.large
work_layer (Work-F.Asks a p u) = Work.asks (atom_of a.value) p.value u.value
work_layer (Work-F.Two o p u) = Work.two o p.value u.value
work_layer (Work-F.Choice g p u) = Work.choice g.value p.value u.value

-- `part_layer p`: the part `p` whose work is converted already.
abbrev pub part_layer : Part-F Work Part → Part
part_layer p = Part.part p.work p.asks

-- `part_of p`: the part `p` of the program, as one of the definitions.
abbrev pub part_of : P.Part → Part
part_of = fold-Part Work Part work_layer part_layer

-- `work_of w`: the work `w` of the program, as one of the definitions.
abbrev pub work_of : W.Work → Work
work_of = fold-Work Work Part work_layer part_layer
