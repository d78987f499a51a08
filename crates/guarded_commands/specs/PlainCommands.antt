-- The plain trees of commands, variant by variant. This project's own.
use Rattle.heyvl_places.specs.declared.spans.Span.{Span}
use Rattle.heyvl_syntax.specs.Expressions.{expression}
use Rattle.heyvl_syntax.specs.declared.expressions.Expr.{Expr}
use Rattle.guarded_commands.specs.Programs.{CommandTree, block_tree, command_tree}
use Rattle.guarded_commands.specs.declared.programs.Command.TheVariants as commands
use Rattle.guarded_commands.specs.declared.programs.Command.{Command}
use Rattle.std.specs.Prelude.{List, Vec, ◌≡◌, ℕ}
use Rattle.std.specs.declared.alloc.Global.{Global}

-- The plain tree of each variant of a command.
pub record PlainCommands : Type 0 where
  pub skip : (s : Span) → command_tree (commands.Skip s) ≡ CommandTree.skip s
  pub assign : (x : List ℕ) (e : Expr) (s : Span)
      → command_tree (commands.Assign x e s) ≡ CommandTree.assign x (expression e) s
  pub tick : (e : Expr) (s : Span)
      → command_tree (commands.Tick e s) ≡ CommandTree.tick (expression e) s
  pub branch : (g : Expr) (a b : Vec Command Global) (s : Span)
      → command_tree (commands.If g a b s)
      ≡ CommandTree.branch (expression g) (block_tree a.items) (block_tree b.items) s
  pub mix : (p : Expr) (a b : Vec Command Global) (s : Span)
      → command_tree (commands.Mix p a b s)
      ≡ CommandTree.mix (expression p) (block_tree a.items) (block_tree b.items) s
  pub choice : (a b : Vec Command Global) (s : Span)
      → command_tree (commands.Choice a b s)
      ≡ CommandTree.choice (block_tree a.items) (block_tree b.items) s
  pub repeat : (g i : Expr) (a : Vec Command Global) (s : Span)
      → command_tree (commands.While g i a s)
      ≡ CommandTree.repeat (expression g) (expression i) (block_tree a.items) s
