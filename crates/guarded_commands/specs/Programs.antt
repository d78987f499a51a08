-- Programs of guarded commands as plain trees, and the plain trees of those in memory. Each command
-- has its place in the bytes.
use Rattle.heyvl_places.specs.declared.spans.Span.{Span}
use Rattle.heyvl_syntax.specs.Expressions.{Expression, expression}
use Rattle.guarded_commands.specs.declared.programs.Command.TheFolds.{fold-Command}
use Rattle.guarded_commands.specs.declared.programs.Command.TheOpen.{Command-F as Layer}
use Rattle.guarded_commands.specs.declared.programs.Command.{Command}
use Rattle.guarded_commands.specs.declared.programs.Declaration.{Declaration}
use Rattle.guarded_commands.specs.declared.programs.Program.{Program}
use Rattle.std.specs.Prelude.{List, [], map, ◌∷◌, ℕ}

-- A command.
mutual
  pub data CommandTree : Type 0 where
    skip : Span → CommandTree
    assign : List ℕ → Expression → Span → CommandTree
    tick : Expression → Span → CommandTree
    -- The first block if the guard holds, otherwise the second.
    branch : Expression → BlockTree → BlockTree → Span → CommandTree
    -- The first block with this probability, otherwise the second.
    mix : Expression → BlockTree → BlockTree → Span → CommandTree
    -- One of the two blocks, chosen by the scheduler.
    choice : BlockTree → BlockTree → Span → CommandTree
    -- The block as long as the guard holds. The second expression is the invariant.
    repeat : Expression → Expression → BlockTree → Span → CommandTree

  -- Commands in sequence.
  pub data BlockTree : Type 0 where
    done : BlockTree
    next : CommandTree → BlockTree → BlockTree

-- A program: its variables, its pre, its post and its commands.
pub record ProgramTree : Type 0 where
  pub declarations : List Declaration
  pub pre : Expression
  pub post : Expression
  pub body : BlockTree

-- The block of a list of commands.
abbrev pub block_of : List CommandTree → BlockTree
block_of [] = BlockTree.done
block_of (x ∷ xs) = BlockTree.next x (block_of xs)

-- The plain tree of a command whose parts are plain trees.
abbrev pub command_layer : Layer CommandTree → CommandTree
command_layer (Layer.Skip s) = CommandTree.skip s
command_layer (Layer.Assign x e s) = CommandTree.assign x (expression e) s
command_layer (Layer.Tick e s) = CommandTree.tick (expression e) s
command_layer (Layer.If g a b s) =
    CommandTree.branch (expression g) (block_of a.items) (block_of b.items) s
command_layer (Layer.Mix p a b s) =
    CommandTree.mix (expression p) (block_of a.items) (block_of b.items) s
command_layer (Layer.Choice a b s) = CommandTree.choice (block_of a.items) (block_of b.items) s
command_layer (Layer.While g i a s) =
    CommandTree.repeat (expression g) (expression i) (block_of a.items) s

-- The plain tree of a command.
abbrev pub command_tree : Command → CommandTree
command_tree = fold-Command CommandTree command_layer

-- The plain tree of a block.
abbrev pub block_tree : List Command → BlockTree
block_tree xs = block_of (map command_tree xs)

-- The plain tree of a program.
abbrev pub program_tree : Program → ProgramTree
program_tree p = record {
  declarations = p.declarations.items;
  pre = expression p.pre;
  post = expression p.post;
  body = block_tree p.body.items;
}
