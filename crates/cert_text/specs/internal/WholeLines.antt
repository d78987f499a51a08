-- Lines whose numbers are within their limits.
use Rattle.cert_text.specs.Certificates.{IsNumbered, IsWholeSplit, AreMultipliers}
use Rattle.cert_text.specs.Lines.Line.{farkas, goal, last, plain, split, title, whole}
use Rattle.cert_text.specs.Lines.{Line}

-- The numbers of the line are within their limits.
abbrev pub IsLine : Line → Type 0
IsLine (title v) = Unit {0}
IsLine (goal n) = IsNumbered n
IsLine split = Unit {0}
IsLine (whole x m) = IsWholeSplit x m
IsLine (farkas ms) = AreMultipliers ms
IsLine plain = Unit {0}
IsLine last = Unit {0}
