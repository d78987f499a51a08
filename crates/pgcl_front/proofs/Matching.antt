-- The acts that match the commands of a program: they do the same in every state in which the
-- outputs have the values of the variables. With v variables, those of probabilistic choices have
-- the numbers from 2*v on.
use Rattle.pgcl_front.proofs.Scopes.{Agrees}
use Rattle.pgcl_front.specs.Readings.{amount, chance, index_in, is_true, new_value}
use Rattle.heylo_formula.specs.Choices.{Choices}
use Rattle.heylo_formula.specs.Formula.{Cond, Form, Term}
use Rattle.heylo_formula.specs.Meaning.{holds, term_value, value}
use Rattle.heylo_formula.specs.State.{environment}
use Rattle.heylo_formula.specs.declared.values.Val.{Val}
use Rattle.heyvl_acts.specs.Acts.{Act, Acts, Arms, Head, TypedProcedure, join}
use Rattle.heyvl_acts.specs.Tosses.{flip_parts}
use Rattle.heyvl_places.specs.declared.spans.Span.{Span}
use Rattle.heyvl_syntax.specs.Expressions.{Expression}
use Rattle.typed_expressions.specs.Scopes.{Scope}
use Rattle.guarded_commands.specs.Programs.{BlockTree, CommandTree}
use Rattle.run_machine.specs.Configurations.{Config, Item}
use Rattle.run_machine.specs.Step.{Decision, branches, step_act}
use Rattle.std.proofs.Common.{List, true, ◌+◌, ◌<◌, ◌≡◌, ◌≤◌, ℕ}

module _ (own : Scope) (v : ℕ) where
  abbrev pub SameForm : Expression → Form → Type 0
  SameForm e f = (s t : List Val) → Agrees v s t → amount own e s ≡ value f (environment t) Choices.stop

  abbrev pub SameCondition : Expression → Cond → Type 0
  SameCondition g c = (s t : List Val) → Agrees v s t → is_true own g s ≡ holds c (environment t) Choices.stop

  abbrev pub SameTerm : Expression → Term → Type 0
  SameTerm e u = (s t : List Val) → Agrees v s t → new_value own e s ≡ term_value u (environment t)

  -- The act makes the variable true with the probability `p`, and false otherwise.
  abbrev pub Flips : Expression → ℕ → Act → Type 0
  Flips p x a = (ps : List TypedProcedure) (is : List Item) (c : Config) (d : Decision) (s : List Val) → Agrees v s c.state → step_act ps a is c d ≡ branches c is x (flip_parts (chance own p s))

-- The acts of each kind of command, apart from those of its blocks.
pub record SkipActs (acts : Acts) : Type 0 where
  pub span : Span
  pub are : acts ≡ Acts.next (Act.ifs (Arms.arm (Cond.constant true) Acts.done Arms.no_arm) Acts.done span) Acts.done

pub record AssignActs (own : Scope) (v : ℕ) (x : List ℕ) (e : Expression) (acts : Acts) : Type 0 where
  pub inside : index_in own x < v
  pub given : Term
  pub same : SameTerm own v e given
  pub span : Span
  pub are : acts ≡ Acts.next (Act.set (v + index_in own x) given span) Acts.done

pub record TickActs (own : Scope) (v : ℕ) (e : Expression) (acts : Acts) : Type 0 where
  pub reward : Form
  pub same : SameForm own v e reward
  pub span : Span
  pub are : acts ≡ Acts.next (Act.reward reward span) Acts.done

pub record BranchActs (own : Scope) (v : ℕ) (g : Expression) (acts : Acts) : Type 0 where
  pub guard : Cond
  pub same : SameCondition own v g guard
  pub first : Acts
  pub second : Acts
  pub span : Span
  pub are : acts ≡ Acts.next (Act.ifs (Arms.arm guard first Arms.no_arm) second span) Acts.done

pub record MixActs (own : Scope) (v size : ℕ) (p : Expression) (acts : Acts) : Type 0 where
  pub number : ℕ
  pub above : v + v ≤ number
  pub below : number < size
  pub flip : Act
  pub flips : Flips own v p number flip
  pub first : Acts
  pub second : Acts
  pub span : Span
  pub are : acts ≡ Acts.next flip (Acts.next (Act.ifs (Arms.arm (Cond.flag number) first Arms.no_arm) second span) Acts.done)

pub record ChoiceActs (acts : Acts) : Type 0 where
  pub first : Acts
  pub second : Acts
  pub span : Span
  pub are : acts ≡ Acts.next (Act.pick true first second span) Acts.done

pub record RepeatActs (own : Scope) (v : ℕ) (g : Expression) (acts : Acts) : Type 0 where
  pub head : Head
  pub same : SameCondition own v g head.guard
  pub body : Acts
  pub are : acts ≡ Acts.next (Act.loop head body) Acts.done

abbrev mutual
  pub Translates : Scope → ℕ → ℕ → CommandTree → Acts → Type 0
  Translates own v size (CommandTree.skip s) acts = SkipActs acts
  Translates own v size (CommandTree.assign x e s) acts = AssignActs own v x e acts
  Translates own v size (CommandTree.tick e s) acts = TickActs own v e acts
  Translates own v size (CommandTree.branch g a b s) acts = (r : BranchActs own v g acts) × (Matches own v size a r.first × Matches own v size b r.second)
  Translates own v size (CommandTree.mix p a b s) acts = (r : MixActs own v size p acts) × (Matches own v size a r.first × Matches own v size b r.second)
  Translates own v size (CommandTree.choice a b s) acts = (r : ChoiceActs acts) × (Matches own v size a r.first × Matches own v size b r.second)
  Translates own v size (CommandTree.repeat g i a s) acts = (r : RepeatActs own v g acts) × Matches own v size a r.body

  pub Matches : Scope → ℕ → ℕ → BlockTree → Acts → Type 0
  Matches own v size BlockTree.done acts = acts ≡ Acts.done
  Matches own v size (BlockTree.next c b) acts = (front : Acts) × ((more : Acts) × ((Translates own v size c front × Matches own v size b more) × (acts ≡ join front more)))
