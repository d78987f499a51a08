-- The result at the end of a text.
use Rattle.std.specs.Prelude.{◌≡◌, ℕ, List, [], Result, Ok, Err, Vec}
use Rattle.std.specs.Global.{Global}
use Rattle.goal_answers.specs.declared.trees.GoalCert.{GoalCert}
use Rattle.cert_text.specs.declared.stops.CertStop.{CertStop}
use Rattle.cert_text.specs.declared.stops.CertStop.TheVariants.{Fault, Memory}
use Rattle.cert_text.specs.Certificates.{Certificate, certificates_of}
use Rattle.cert_text.specs.internal.ReadStates.{State, done}

-- The certificates, if everything is read and nothing is left; otherwise the first invalid line is
-- `number`.
abbrev pub IsWhole : State → List ℕ → ℕ → Result (Vec GoalCert Global) CertStop → Type 0
IsWhole s rest number (Ok certs) = (s ≡ done (certificates_of certs.items)) × (rest ≡ [])
IsWhole s rest number (Err (Fault line)) =
    (line ≡ number) × ((cs : List Certificate) → s ≡ done cs → rest ≡ [] → ⊥)
IsWhole s rest number (Err (Memory error)) = ⊥
