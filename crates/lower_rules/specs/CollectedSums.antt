-- The expected post of runs that terminate within few iterations. This project's own.
use Rattle.std.specs.Prelude.{ℕ, true, List, [], ◌∷◌, leb, if◌then◌else◌}
use Rattle.heyvl_num.specs.Value.{Value, zeroᵛ}
use Rattle.heyvl_num.specs.WeightedSums.{weighted_sum}
use Rattle.heylo_formula.specs.Formula.{Form}
use Rattle.heylo_formula.specs.declared.values.Val.{Val}
use Rattle.heyvl_acts.specs.Acts.{Head, Acts}
use Rattle.run_machine.specs.Configurations.{Item, Config, Outcomes, push}
use Rattle.run_machine.specs.Sums.{ended}

-- The post of a run that has terminated with at most `m` iterations of the loop `number`, otherwise
-- 0.
abbrev pub settled : ℕ → ℕ → Form → Config → Value
settled m number post c = if leb (c.turns number) m then ended true post c.items c.state else zeroᵛ

-- The expected post of the runs that have terminated with at most `m` iterations: their weights
-- times their posts, added up.
abbrev pub collected : ℕ → ℕ → Form → Outcomes → Value
collected m number post cs = weighted_sum (settled m number post) cs

-- The configuration whose items are the loop's test and then the acts after the loop.
abbrev pub at_loop : ℕ → Head → Acts → Acts → List Val → Config
at_loop p h b behind s = record {
  procedure = p;
  items = Item.turn h b ∷ push behind [];
  frames = [];
  state = s;
  reward = zeroᵛ;
  turns = λ n. 0;
}
