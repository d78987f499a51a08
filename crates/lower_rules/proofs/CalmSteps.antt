-- Acts take at least one step, and the parts of a body with one loop satisfy the rules that runs
-- need.
use Rattle.std.proofs.Common.{◌≤◌, ◌+◌, ℕ, arith, List}
use Rattle.heyvl_acts.specs.Acts.{Act, TypedProcedure, acts_in}
use Rattle.heyvl_acts.specs.Length.{length_of_act}
use Rattle.heyvl_acts.specs.Places.{in_order}
use Rattle.heyvl_acts.specs.Rules.{HasOwnTargets, IsTypedAct, MeetsRules, WeighsOne}
use Rattle.heyvl_acts.proofs.exported.Each.{each_two}
use Rattle.run_laws.specs.RuledConfigurations.{IsRuled}
use Rattle.lower_goals.specs.OneLoop.{OneLoop}
use Rattle.lower_goals.proofs.exported.LoopParts.{OfParts, of_parts}

pub some_length : (a : Act) (m : ℕ) → length_of_act a + m ≤ 0 → ⊥
some_length (Act.set x t span) m h = omega (arith, h)
some_length (Act.draw x qs span) m h = omega (arith, h)
some_length (Act.toss x f span) m h = omega (arith, h)
some_length (Act.any x up ty span) m h = omega (arith, h)
some_length (Act.reward f span) m h = omega (arith, h)
some_length (Act.ifs arms e span) m h = omega (arith, h)
some_length (Act.pick up a b span) m h = omega (arith, h)
some_length (Act.check kind f span) m h = omega (arith, h)
some_length (Act.validate co span) m h = omega (arith, h)
some_length (Act.loop k b) m h = omega (arith, h)
some_length (Act.call xs q es span) m h = omega (arith, h)

pub ruled_parts : (ps : List TypedProcedure) (p : TypedProcedure) (l : OneLoop p) → MeetsRules ps p → OfParts (IsRuled ps p) p l
ruled_parts ps p l rules = of_parts (IsRuled ps p) p l (each_two (λ a. HasOwnTargets p a × IsTypedAct ps p a) WeighsOne (in_order (acts_in p.body)) (each_two (HasOwnTargets p) (IsTypedAct ps p) (in_order (acts_in p.body)) rules.targets rules.typed) rules.weights)
