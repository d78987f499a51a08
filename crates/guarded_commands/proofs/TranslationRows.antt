-- Worked rows of the translation, computed.
use Rattle.heyvl_syntax.specs.Expressions.{Expression}
use Rattle.heyvl_syntax.specs.Procedures.{Procedure}
use Rattle.heyvl_syntax.specs.Statements.{Arms, Block, LoopRule, RightSide, Statement}
use Rattle.heyvl_syntax.specs.declared.operators.BinaryOp.TheVariants as ops
use Rattle.heyvl_syntax.specs.declared.types.TypeName.TheVariants as names
use Rattle.guarded_commands.proofs.ProgramRows.{bound_at, digit, name, span, walk, walk_tree}
use Rattle.guarded_commands.specs.Programs.{BlockTree, CommandTree}
use Rattle.guarded_commands.specs.Translation.{first_place, picks_in, statements, translated}
use Rattle.std.specs.Fmt.{digits}
use Rattle.std.proofs.Common.{List, None, Some, [], codes, false, refl, true, ◌∷◌, ◌≡◌, ℕ}

-- coproc main(init_c: UInt, init_go: Bool) -> (c: UInt, go: Bool)
--   pre ite(init_go, init_c + 1, init_c)
--   post c
-- {
--   c = init_c
--   go = init_go
--   @invariant(ite(go, c + 1, c))
--   while (go) {
--     var pick_1: Bool = flip(1 / 2)
--     if pick_1 {
--       go = false
--     } else {
--       c = c + 1
--     }
--   }
-- }
abbrev walk_file : Procedure
walk_file = record {
  co = true;
  note = None;
  name = codes "main";
  inputs = record { name = codes "init_c"; ty = names.UInt; span = span 0 3 } ∷ record { name = codes "init_go"; ty = names.Bool; span = span 3 6 } ∷ [];
  outputs = record { name = codes "c"; ty = names.UInt; span = span 0 3 } ∷ record { name = codes "go"; ty = names.Bool; span = span 3 6 } ∷ [];
  pres = Expression.choice (name (codes "init_go") 9)
      (Expression.binary ops.Plus (name (codes "init_c") 11) (Expression.number (digit 1) (span 13 14)) (span 12 13))
      (name (codes "init_c") 15) (span 7 17) ∷ [];
  posts = name (codes "c") 19 ∷ [];
  body = Some (
      Block.next (Statement.assign (codes "c" ∷ []) (RightSide.plain (Expression.name (codes "init_c") (span 0 3))) (span 0 3))
      (Block.next (Statement.assign (codes "go" ∷ []) (RightSide.plain (Expression.name (codes "init_go") (span 3 6))) (span 3 6))
      (Block.next
      (Statement.loop (LoopRule.invariant (bound_at 26) (span 21 60) ∷ []) (Expression.group (name (codes "go") 23) (span 21 60))
      (Block.next
      (Statement.var (codes "pick_1") names.Bool
      (Some (RightSide.flip (Expression.binary ops.Slash (Expression.number (digit 1) (span 46 47)) (Expression.number (digit 2) (span 48 49)) (span 47 48)))) (span 38 59))
      (Block.next
      (Statement.branch
      (Arms.arm (Expression.name (codes "pick_1") (span 38 59))
      (Block.next (Statement.assign (codes "go" ∷ []) (RightSide.plain (Expression.truth false (span 42 43))) (span 39 44)) Block.done) Arms.no_arm)
      (Block.next
      (Statement.assign (codes "c" ∷ [])
      (RightSide.plain (Expression.binary ops.Plus (name (codes "c") 54) (Expression.number (digit 1) (span 56 57)) (span 55 56))) (span 51 58)) Block.done)
      (span 38 59)) Block.done))
      (span 21 60)) Block.done))
      );
  span = span 0 1;
}

walk_is_translated : translated (first_place walk) walk_tree ≡ walk_file
unfolding digits
walk_is_translated = refl

-- The program `{ { skip; } [1] { skip; } } [1] { skip; }  { skip; } [1] { skip; }`.
abbrev one : Expression
one = Expression.number (digit 1) (span 0 1)

abbrev skips : BlockTree
skips = BlockTree.next (CommandTree.skip (span 0 1)) BlockTree.done

abbrev mixed : BlockTree → BlockTree → CommandTree
mixed a b = CommandTree.mix one a b (span 0 1)

abbrev nested : BlockTree
nested = BlockTree.next (mixed (BlockTree.next (mixed skips skips) BlockTree.done) skips) (BlockTree.next (mixed skips skips) BlockTree.done)

-- The names of the choices, in the order of their first tokens.
abbrev declared_in : Block → List (List ℕ)
declared_in Block.done = []
declared_in (Block.next (Statement.var x t r s) more) = x ∷ declared_in more
declared_in (Block.next _ more) = declared_in more

abbrev first_inside : List Statement → Block
first_inside (v ∷ Statement.branch (Arms.arm g a more) b s ∷ rest) = a
first_inside _ = Block.done

abbrev third : List Statement → List ℕ
third (a ∷ b ∷ Statement.var x t r s ∷ rest) = x
third _ = []

three_choices : picks_in nested ≡ 3
three_choices = refl

-- The outer choice is the first, the one inside it the second, and the one after both the third.
inner_is_second : declared_in (first_inside (statements 1 nested)) ≡ codes "pick_2" ∷ []
unfolding digits
inner_is_second = refl

behind_is_third : third (statements 1 nested) ≡ codes "pick_3"
unfolding digits
behind_is_third = refl
