-- Errors of reading certificates. This project's own.
use Rattle.std.specs.Prelude.{◌≡◌, ℕ, List, ⊤}
use Rattle.cert_text.specs.declared.stops.CertStop.{CertStop}
use Rattle.cert_text.specs.declared.stops.CertStop.TheVariants.{Fault, Memory}
use Rattle.cert_text.specs.Texts.{IsFirstFault}

-- The error is that memory ran out.
abbrev pub IsMemory : CertStop → Type 0
IsMemory (Fault line) = ⊥
IsMemory (Memory error) = ⊤

-- `IsCertStop bytes stop`: a `Fault` is the first invalid line of `bytes`. Memory may run out for
-- any text.
abbrev pub IsCertStop : List ℕ → CertStop → Type 0
IsCertStop bytes (Fault line) = IsFirstFault bytes line
IsCertStop bytes (Memory error) = ⊤

-- The first invalid line is `line`, or memory ran out.
abbrev pub IsFaultOrMemory : ℕ → CertStop → Type 0
IsFaultOrMemory line (Fault found) = found ≡ line
IsFaultOrMemory line (Memory error) = ⊤
