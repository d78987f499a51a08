-- The sizes of the forms and conditions in acts and procedures.
use Rattle.heylo_formula.specs.Formula.{Form}
use Rattle.heylo_formula.specs.Sizes.{nodes, nodes_in, nodes_in_term}
use Rattle.heyvl_acts.specs.Acts.{Act, Arms, TypedProcedure, acts_in}
use Rattle.heyvl_acts.specs.Places.{in_order}
use Rattle.heyvl_acts.specs.Rules.{Each}
use Rattle.heyvl_num.specs.Rational.{Rational}
use Rattle.std.specs.Prelude.{None, Option, Some, ◌≤◌, ℕ}

-- The ranking, if there is one, has at most `most` nodes.
abbrev pub RankWithin : ℕ → Option (Rational × Form) → Type 0
RankWithin most None = Unit {0}
RankWithin most (Some r) = nodes r.1 ≤ most

-- The guard of each arm has at most `most` nodes.
abbrev pub GuardsWithin : ℕ → Arms → Type 0
GuardsWithin most Arms.no_arm = Unit {0}
GuardsWithin most (Arms.arm g b more) = (nodes_in g ≤ most) × GuardsWithin most more

-- The forms and conditions of an act have at most `most` nodes each; nested acts do not count.
abbrev pub ActWithin : ℕ → Act → Type 0
ActWithin most (Act.set x t span) = nodes_in_term t ≤ most
ActWithin most (Act.draw x ps span) = Each (λ p. nodes_in_term p.1 ≤ most) ps
ActWithin most (Act.toss x f span) = nodes f ≤ most
ActWithin most (Act.any x up ty span) = Unit {0}
ActWithin most (Act.reward f span) = nodes f ≤ most
ActWithin most (Act.ifs arms e span) = GuardsWithin most arms
ActWithin most (Act.pick up a b span) = Unit {0}
ActWithin most (Act.check kind f span) = nodes f ≤ most
ActWithin most (Act.validate co span) = Unit {0}
ActWithin most (Act.loop h b) =
    (nodes h.inv ≤ most) × ((nodes_in h.guard ≤ most) × RankWithin most h.rank)
ActWithin most (Act.call xs p es span) = Each (λ e. nodes_in_term e ≤ most) es

-- Each form and condition of a procedure has at most `most` nodes.
pub record FormsWithin (most : ℕ) (p : TypedProcedure) : Type 0 where
  pub pre : nodes p.pre ≤ most
  pub post : nodes p.post ≤ most
  pub acts : Each (ActWithin most) (in_order (acts_in p.body))
