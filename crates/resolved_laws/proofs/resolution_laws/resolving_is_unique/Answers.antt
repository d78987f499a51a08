use Rattle.heyvl_acts.specs.declared.typed_trees.Typed.{Typed}
use Rattle.heyvl_syntax.specs.Procedures.{Procedure}
use Rattle.resolved_laws.proofs.resolution_laws.resolving_is_unique.Goals as goal
use Rattle.resolved_laws.specs.ResolvedLaws.{Agree, IsAnswer}
use Rattle.std.proofs.Common.{Err, List, Ok, Some, [], ap, sym, ◌∙◌, ◌≡◌}
use Rattle.std.specs.Prelude.{Result}
use Rattle.typed_expressions.specs.Findings.{Finding, first}
use Rattle.typed_expressions.specs.declared.stops.ResolveStop.{ResolveStop}

no_finding : (found : List Finding) (f : Finding) → found ≡ [] → first found ≡ Some f → ⊥
no_finding found f h i = let j = ap first h in absurd (cc)

one : (f g : Finding) (found : List Finding) → first found ≡ Some f → first found ≡ Some g → f ≡ g
one f g found h i = cc

agree : (ps : List Procedure) (a b : Result Typed ResolveStop) → IsAnswer ps a → IsAnswer ps b → Agree a b
agree ps (Ok a) (Ok b) h i = h.1 ∙ sym i.1
agree ps (Ok a) (Err (ResolveStop.Fault n s)) h i = no_finding _ _ h.0 i
agree ps (Ok a) (Err (ResolveStop.Memory e)) h i = tt
agree ps (Err (ResolveStop.Fault n s)) (Ok b) h i = no_finding _ _ i.0 h
agree ps (Err (ResolveStop.Fault n s)) (Err (ResolveStop.Fault m t)) h i = let e = one _ _ _ h i in (ap (λ f. f.0) e, ap (λ f. f.1) e)
agree ps (Err (ResolveStop.Fault n s)) (Err (ResolveStop.Memory e)) h i = tt
agree ps (Err (ResolveStop.Memory e)) b h i = tt

pub returns : goal.returns
returns c = agree
