use Rattle.std.proofs.Common.{◌≡◌, ◌≤◌, length}
use Rattle.heyvl_acts.specs.Rules.{AreNamed}
use Rattle.vp_generator.specs.Scopes.{named}
use Rattle.vp_generator.proofs.numbering.with_vars.Given as goal

abbrev pub invariant-found : goal.invariant-found
invariant-found l = (length l.fn.vars.items ≤ length l.all.items) × (AreNamed (length l.fn.vars.items) l.rest × (named l.fn.vars.items l.found ≡ named l.all.items l.rest))

abbrev pub decreases-found : goal.decreases-found
decreases-found l = length l.rest
