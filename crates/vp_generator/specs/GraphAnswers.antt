-- The requirements and results of `vp_in`, which generates the form of acts in a graph. This
-- project's own.
use Rattle.std.specs.Prelude.{◌≡◌, ℕ, ◌<◌, ◌≤◌, false, Result, Ok, Err, List}
use Rattle.heylo_formula.specs.Formula.{Form}
use Rattle.heylo_formula.specs.Binders.{has_binder}
use Rattle.heylo_formula.specs.Sizes.{nodes, depth}
use Rattle.heylo_graph.specs.Trees.{Tree}
use Rattle.heylo_graph.specs.Nodes.{Stands, Begins}
use Rattle.heylo_graph.specs.declared.nodes.Node.{Node}
use Rattle.heyvl_acts.specs.Acts.{Act, Acts, Arms}
use Rattle.vp_generator.specs.Fit.{AreFit}
use Rattle.vp_generator.specs.declared.stops.VpStop.{VpStop}
use Rattle.vp_generator.specs.declared.stops.VpStop.TheVariants.{Depth, Nodes, Memory}

-- The tree of the node `i` is a form that may follow the acts.
pub record Follows (acts : Acts) (ns : List Node) (i : ℕ) : Type 0 where
  pub form : Form
  pub stands : Stands ns i (Tree.formula form)
  pub fit : AreFit acts form

-- The act, with the acts in it, gives no variable any value.
abbrev mutual
  pub HasNoAny : Act → Type 0
  HasNoAny (Act.set x t span) = Unit {0}
  HasNoAny (Act.draw x ps span) = Unit {0}
  HasNoAny (Act.toss x f span) = Unit {0}
  HasNoAny (Act.any x up ty span) = ⊥
  HasNoAny (Act.reward f span) = Unit {0}
  HasNoAny (Act.ifs arms e span) = HaveNoAnyIn arms × HaveNoAny e
  HasNoAny (Act.pick up a b span) = HaveNoAny a × HaveNoAny b
  HasNoAny (Act.check kind f span) = Unit {0}
  HasNoAny (Act.validate co span) = Unit {0}
  HasNoAny (Act.loop h b) = Unit {0}
  HasNoAny (Act.call xs p es span) = Unit {0}

  -- No act of the sequence, with the acts in it, gives a variable any value.
  pub HaveNoAny : Acts → Type 0
  HaveNoAny Acts.done = Unit {0}
  HaveNoAny (Acts.next a rest) = HasNoAny a × HaveNoAny rest

  -- No act of the arms gives a variable any value.
  pub HaveNoAnyIn : Arms → Type 0
  HaveNoAnyIn Arms.no_arm = Unit {0}
  HaveNoAnyIn (Arms.arm g b more) = HaveNoAny b × HaveNoAnyIn more

-- The form of the acts over the node `i` has no binder: the acts give no variable any value, and
-- the form of the node has none.
pub record MakeNoBinder (acts : Acts) (ns : List Node) (i : ℕ) : Type 0 where
  pub calm : HaveNoAny acts
  pub post : (k : Form) → Stands ns i (Tree.formula k) → has_binder k ≡ false

-- The form has at most `most` nodes and a depth of at most 1,000.
pub record IsWithin (most : ℕ) (f : Form) : Type 0 where
  pub few : nodes f ≤ most
  pub shallow : depth f ≤ 1000

-- The form exceeds the limit that the error names. Memory may run out for any form.
abbrev pub IsStopAt : ℕ → Form → VpStop → Type 0
IsStopAt most f Depth = 1000 < depth f
IsStopAt most f Nodes = most < nodes f
IsStopAt most f (Memory e) = Unit {0}

-- The list of nodes was only extended, and the form `f`, which is within the limits, is the tree of
-- the returned node; or the list is unchanged, and `f` exceeds a limit.
abbrev pub IsAnswerIn : ℕ → List Node → Form → Result ℕ VpStop → List Node → Type 0
IsAnswerIn most old f (Ok i) new =
    Begins old new × (Stands new i (Tree.formula f) × IsWithin most f)
IsAnswerIn most old f (Err stop) new = (new ≡ old) × IsStopAt most f stop
