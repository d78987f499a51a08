-- The translation of a program of guarded commands: one coproc, whose inputs are the start values
-- of the variables and whose outputs are the variables. A node that the translation introduces has
-- the place of its declaration or command, and the coproc has that of the first token. This
-- project's own.
use Rattle.heyvl_places.specs.declared.spans.Span.{Span}
use Rattle.heyvl_syntax.specs.Expressions.{Expression}
use Rattle.heyvl_syntax.specs.Procedures.{Procedure}
use Rattle.heyvl_syntax.specs.Statements.{Arms, Block, LoopRule, RightSide, Statement}
use Rattle.heyvl_syntax.specs.Statements as heyvl
use Rattle.heyvl_syntax.specs.declared.procedures.Param.{Param}
use Rattle.heyvl_syntax.specs.declared.tokens.Token.{Token}
use Rattle.heyvl_syntax.specs.declared.types.TypeName.TheVariants as names
use Rattle.heyvl_syntax.specs.declared.types.TypeName.{TypeName}
use Rattle.guarded_commands.specs.Programs.{BlockTree, CommandTree, ProgramTree}
use Rattle.guarded_commands.specs.declared.programs.Declaration.{Declaration}
use Rattle.guarded_commands.specs.declared.programs.VariableType.TheVariants as types
use Rattle.guarded_commands.specs.declared.programs.VariableType.{VariableType}
use Rattle.std.specs.Prelude.{List, None, Some, [], codes, decimal, map, true, ◌++◌, ◌+◌, ◌∷◌, ℕ}

-- The name of the input with the start value of the variable `x`: `init_x`.
abbrev pub input_name : List ℕ → List ℕ
input_name x = codes "init_" ++ x

-- The variable of the `j`-th probabilistic choice, counted from 1: `pick_j`.
abbrev pub pick_name : ℕ → List ℕ
pick_name j = codes "pick_" ++ decimal j

-- The HeyVL type of a variable: `nat` becomes `UInt`, and `real` becomes `UReal`.
abbrev pub type_name : VariableType → TypeName
type_name types.Bool = names.Bool
type_name types.Nat = names.UInt
type_name types.Real = names.UReal

-- The number of probabilistic choices in a command, and in a block.
abbrev mutual
  pub picks : CommandTree → ℕ
  picks (CommandTree.skip s) = 0
  picks (CommandTree.assign x e s) = 0
  picks (CommandTree.tick e s) = 0
  picks (CommandTree.branch g a b s) = picks_in a + picks_in b
  picks (CommandTree.mix p a b s) = 1 + picks_in a + picks_in b
  picks (CommandTree.choice a b s) = picks_in a + picks_in b
  picks (CommandTree.repeat g i a s) = picks_in a

  -- The number of probabilistic choices in a block.
  pub picks_in : BlockTree → ℕ
  picks_in BlockTree.done = 0
  picks_in (BlockTree.next x xs) = picks x + picks_in xs

-- The arm of an `if` with one guard.
abbrev pub arm : Expression → Block → Arms
arm g a = Arms.arm g a Arms.no_arm

-- `lines j c`: the statements of the command `c`, whose first probabilistic choice is the `j`-th of
-- the program. Choices are counted by their first token, so that an outer one comes before those
-- inside it.
abbrev mutual
  pub lines : ℕ → CommandTree → List Statement
  -- `skip;` becomes `if true { } else { }`.
  lines j (CommandTree.skip s) =
      Statement.branch (arm (Expression.truth true s) Block.done) Block.done s ∷ []
  -- `x := e;` becomes `x = e`.
  lines j (CommandTree.assign x e s) = Statement.assign (x ∷ []) (RightSide.plain e) s ∷ []
  -- `tick(e);` becomes `reward e`.
  lines j (CommandTree.tick e s) = Statement.reward e s ∷ []
  -- `if (b) P else Q` remains.
  lines j (CommandTree.branch g a b s) =
      Statement.branch (arm (Expression.group g s) (heyvl.block_of (statements j a)))
      (heyvl.block_of (statements (j + picks_in a) b)) s ∷ []
  -- `P [p] Q` becomes `var pick_j: Bool = flip(p)` and `if pick_j P else Q`.
  lines j (CommandTree.mix p a b s) =
      Statement.var (pick_name j) names.Bool (Some (RightSide.flip p)) s
      ∷ Statement.branch (arm (Expression.name (pick_name j) s)
      (heyvl.block_of (statements (j + 1) a)))
      (heyvl.block_of (statements (j + 1 + picks_in a) b)) s
      ∷ []
  -- `P [] Q` becomes `if \cup P else Q`.
  lines j (CommandTree.choice a b s) =
      Statement.pick true (heyvl.block_of (statements j a))
      (heyvl.block_of (statements (j + picks_in a) b)) s ∷ []
  -- `while (b) [I] P` becomes `@invariant(I) while (b) P`.
  lines j (CommandTree.repeat g i a s) =
      Statement.loop (LoopRule.invariant i s ∷ []) (Expression.group g s)
      (heyvl.block_of (statements j a)) s ∷ []

  -- The statements of a block whose first probabilistic choice is the `j`-th of the program.
  pub statements : ℕ → BlockTree → List Statement
  statements j BlockTree.done = []
  statements j (BlockTree.next x xs) = lines j x ++ statements (j + picks x) xs

-- An expression with `init_x` for each variable `x`.
abbrev pub at_start : Expression → Expression
at_start (Expression.number n s) = Expression.number n s
at_start (Expression.truth b s) = Expression.truth b s
at_start (Expression.infinity s) = Expression.infinity s
at_start (Expression.name x s) = Expression.name (input_name x) s
at_start (Expression.group a s) = Expression.group (at_start a) s
at_start (Expression.bracket a s) = Expression.bracket (at_start a) s
at_start (Expression.embed a s) = Expression.embed (at_start a) s
at_start (Expression.unary op a s) = Expression.unary op (at_start a) s
at_start (Expression.binary op a b s) = Expression.binary op (at_start a) (at_start b) s
at_start (Expression.choice a b c s) = Expression.choice (at_start a) (at_start b) (at_start c) s
at_start (Expression.bound up x t a s) = Expression.bound up x t (at_start a) s

-- The input with the start value of a variable.
abbrev pub input : Declaration → Param
input d = record { name = input_name d.name; ty = type_name d.ty; span = d.span }

-- The output of a variable.
abbrev pub output : Declaration → Param
output d = record { name = d.name; ty = type_name d.ty; span = d.span }

-- `x = init_x`
abbrev pub start : Declaration → Statement
start d = Statement.assign (d.name ∷ [])
    (RightSide.plain (Expression.name (input_name d.name) d.span)) d.span

-- The coproc of the program `p`, at `place`.
abbrev pub translated : Span → ProgramTree → Procedure
translated place p = record {
  co = true;
  note = None;
  name = codes "main";
  inputs = map input p.declarations;
  outputs = map output p.declarations;
  pres = at_start p.pre ∷ [];
  posts = p.post ∷ [];
  body = Some (heyvl.block_of (map start p.declarations ++ statements 1 p.body));
  span = place;
}

-- The place of the first token, or 0 to 0 if there is no token.
abbrev pub first_place : List Token → Span
first_place [] = record { from = 0; to = 0 }
first_place (t ∷ ts) = t.span
