use Rattle.std.proofs.Common.{ap, sym, ◌∙◌, ◌||◌}
use Rattle.heylo_formula.specs.Variables.{occurs_in_term}
use Rattle.heylo_formula.specs.PlainTrees.{term_of}
use Rattle.heylo_graph.proofs.graphs.Graph.is_taken.Goals as goal

pub returns-then-inside : goal.returns-then-inside
returns-then-inside c = λ f s. c.if-inside.true ∙ ap (λ b. b || occurs_in_term c.args.number (term_of c.args.with.now)) (sym c.if-inside.true ∙ c.in_ok-inside.ensures f s)

pub returns-else-inside : goal.returns-else-inside
returns-else-inside c = λ f s. c.occurs.ensures ∙ ap (λ b. b || occurs_in_term c.args.number (term_of c.args.with.now)) (sym c.if-inside.false ∙ c.in_ok-inside.ensures f s)
