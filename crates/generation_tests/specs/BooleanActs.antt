-- Acts and formulas over Boolean variables, whose forms are made in a graph.
use Rattle.std.specs.Prelude.{◌≡◌, ℕ, false, List}
use Rattle.heylo_formula.specs.Formula.{Form}
use Rattle.heylo_formula.specs.Binders.{has_binder}
use Rattle.heylo_formula.specs.Typing.{Types, IsFormula}
use Rattle.heylo_formula.specs.declared.types.Ty.{Ty}
use Rattle.heylo_graph.specs.Trees.{Tree}
use Rattle.heylo_graph.specs.Nodes.{Stands}
use Rattle.heylo_graph.specs.declared.nodes.Node.{Node}
use Rattle.heyvl_acts.specs.Acts.{Act, Acts}
use Rattle.heyvl_acts.specs.WellTypedActs.{ActFits, ActsFit}
use Rattle.vp_generator.specs.GraphAnswers.{HasNoAny, HaveNoAny}

-- Each variable is a Bool.
abbrev pub bools : Types
bools x = Ty.Bool

-- The act is well typed and no havoc.
pub record IsCalm (a : Act) : Type 0 where
  pub fit : ActFits bools a
  pub calm : HasNoAny a

-- The acts are well typed and have no havoc.
pub record AreCalm (acts : Acts) : Type 0 where
  pub fit : ActsFit bools acts
  pub calm : HaveNoAny acts

-- The node with the number `i` is a formula without binders.
pub record StandsPlain (ns : List Node) (i : ℕ) : Type 0 where
  pub form : Form
  pub stands : Stands ns i (Tree.formula form)
  pub formula : IsFormula bools form
  pub plain : has_binder form ≡ false
