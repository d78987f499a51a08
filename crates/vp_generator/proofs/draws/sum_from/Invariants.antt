use Rattle.std.proofs.Common.{length}
use Rattle.vp_generator.proofs.GeneratorSteps.{KeptParts}
use Rattle.vp_generator.proofs.draws.sum_from.Given as goal

abbrev pub invariant-parts : goal.invariant-parts
invariant-parts l = KeptParts l.most l.var l.fn.graph l.form l.fn.start l.parts l.graph l.rest l.total

abbrev pub decreases-parts : goal.decreases-parts
decreases-parts l = length l.rest
