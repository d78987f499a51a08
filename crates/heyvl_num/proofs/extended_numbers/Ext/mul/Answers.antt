use Rattle.std.proofs.Common.{◌∙◌, ap, Some}
use Rattle.heyvl_num.specs.Value.Value.{finite, infinite}
use Rattle.heyvl_num.proofs.Values.{*ᵛ_comm}
use Rattle.heyvl_num.proofs.extended_numbers.Ext.mul.Goals as goal

pub returns-in-Fin-Inf : goal.returns-in-Fin-Inf
returns-in-Fin-Inf c = rw (c.in-Fin-Inf.is-0, c.in-Fin-Inf.is-1) (ap Some (c.infinite_times.ensures ∙ *ᵛ_comm infinite (finite c.in-Fin-Inf.x)))
