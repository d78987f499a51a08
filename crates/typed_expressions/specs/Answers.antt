-- The meaning of the program's answers: an error is the first finding, and there is a result if and
-- only if there are no findings. This project's own.
use Rattle.std.specs.Prelude.{Err, List, Ok, Result, Some, [], ⊤, ◌≡◌}
use Rattle.typed_expressions.specs.Findings.{Finding, first}
use Rattle.typed_expressions.specs.declared.stops.ResolveStop.{ResolveStop}

-- `Gives view result found b`: `result` has the value `b`, by `view`, and there are no findings; or
-- it is the first of the findings `found`; or it says that memory ran out.
abbrev pub Gives : {A B : Type 0} → (A → B) → Result A ResolveStop → List Finding → B → Type 0
Gives view (Ok a) found b = (found ≡ []) × (view a ≡ b)
Gives view (Err (ResolveStop.Fault n s)) found b = first found ≡ Some (n, s)
Gives view (Err (ResolveStop.Memory e)) found b = ⊤

-- `TellsFirst result found`: `result` is `Ok` and there are no findings; or it is the first of the
-- findings `found`; or it says that memory ran out.
abbrev pub TellsFirst : Result (Unit {0}) ResolveStop → List Finding → Type 0
TellsFirst (Ok u) found = found ≡ []
TellsFirst (Err (ResolveStop.Fault n s)) found = first found ≡ Some (n, s)
TellsFirst (Err (ResolveStop.Memory e)) found = ⊤
