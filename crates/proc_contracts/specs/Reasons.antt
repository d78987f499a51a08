-- The reasons against a program, as plain values.
use Rattle.std.specs.Prelude.{Option, Some, None}
use Rattle.heyvl_acts.specs.Program.{Reason}
use Rattle.proc_contracts.specs.declared.reasons.WhyNot.{WhyNot}

-- The plain value of a reason.
abbrev pub plain : WhyNot → Reason
plain WhyNot.NoBody = Reason.no_body
plain WhyNot.NoWlp = Reason.no_wlp
plain WhyNot.Quantifier = Reason.quantifier
plain (WhyNot.Statement span) = Reason.statement span

-- The plain value of an optional reason.
abbrev pub stated : Option WhyNot → Option Reason
stated (Some why) = Some (plain why)
stated None = None
