use Rattle.std.proofs.Common.{◌≡◌}
use Rattle.heylo_formula.specs.PlainTrees.{cond_of, form_of}
use Rattle.heyvl_acts.specs.PlainActs.{acts_of}
use Rattle.k_induction.specs.Copies.{copies}
use Rattle.k_induction.proofs.copies.unrolled.Given as goal

-- `count` copies are made.
abbrev pub invariant-loop-count : goal.invariant-loop-count
invariant-loop-count l = acts_of l.made.items ≡ copies l.up l.span (cond_of l.guard) (form_of l.inv) (acts_of l.body) l.count
