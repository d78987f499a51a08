-- The findings in a text: the broken rules of its nodes, each by its number at the place of its
-- node, in the order in which they are reported. The findings in the parts of a node come before
-- those at the node, and at one node the lowest number comes first. The first static error is the
-- head of the list; the rest of the list is not specified further. This project's own.
use Rattle.heyvl_places.specs.declared.spans.Span.{Span}
use Rattle.std.specs.Prelude.{Bool, List, None, Option, Some, [], if◌then◌else◌, ◌∷◌, ℕ}

-- A broken rule of a node: the number of the rule and the place of the node.
abbrev pub Finding : Type 0
Finding = ℕ × Span

-- The findings at one node with the place `s`: of its rules, each with its number and whether it is
-- broken, the broken ones.
abbrev pub at : Span → List (ℕ × Bool) → List Finding
at s [] = []
at s (rule ∷ rules) = if rule.1 then (rule.0, s) ∷ at s rules else at s rules

-- The finding that is reported, if there is one.
abbrev pub first : List Finding → Option Finding
first [] = None
first (f ∷ fs) = Some f
