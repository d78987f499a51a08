-- The trees of the generated lines, for given places of their tokens.
use Rattle.generated_files.proofs.Spread.{Spots, over}
use Rattle.heyvl_syntax.specs.Expressions.{Expression}
use Rattle.heyvl_syntax.specs.Procedures.{Procedure}
use Rattle.heyvl_syntax.specs.Statements.{Arms, Block, LoopRule, RightSide, Statement}
use Rattle.heyvl_syntax.specs.declared.literals.Lit.{Lit}
use Rattle.heyvl_syntax.specs.declared.operators.BinaryOp.TheVariants as ops
use Rattle.heyvl_syntax.specs.declared.procedures.Param.{Param}
use Rattle.heyvl_syntax.specs.declared.types.TypeName.TheVariants as types
use Rattle.heyvl_syntax.specs.declared.types.TypeName.{TypeName}
use Rattle.std.proofs.Common.{List, None, Some, [], codes, false, pos, true, ◌+◌, ◌∷◌, ℕ}

abbrev pub whole : ℕ → Lit
whole n = record { digits = pos n; places = 0 }

abbrev pub half : Lit
half = record { digits = pos 5; places = 1 }

-- `x + 1`
abbrev pub one_more : List ℕ → Spots → ℕ → Expression
one_more x s j = Expression.binary ops.Plus (Expression.name x (s j)) (Expression.number (whole 1) (s (j + 2))) (s (j + 1))

-- `1/n`
abbrev pub part : Lit → Spots → ℕ → Expression
part n s j = Expression.binary ops.Slash (Expression.number (whole 1) (s j)) (Expression.number n (s (j + 2))) (s (j + 1))

abbrev pub param : List ℕ → TypeName → Spots → ℕ → Param
param x t s j = record { name = x; ty = t; span = over s j (j + 2) }

-- `{ b = flip(1/2) }`
abbrev pub coin_body : Spots → Block
coin_body s = Block.next (Statement.assign (codes "b" ∷ []) (RightSide.flip (part (whole 2) s 23)) (over s 19 26)) Block.done

-- A coin with the bound `1/n`.
abbrev pub coin : List ℕ → Lit → Spots → Procedure
coin x n s = record {
  co = true;
  note = None;
  name = x;
  inputs = [];
  outputs = param (codes "b") types.Bool s 6 ∷ [];
  pres = part n s 11 ∷ [];
  posts = Expression.bracket (Expression.name (codes "b") (s 16)) (over s 15 17) ∷ [];
  body = Some (coin_body s);
  span = over s 0 27;
}

-- `coproc x(init_c: UInt) -> (c: UInt) pre init_c + 1 post c`, with a body that ends at the given
-- token.
abbrev pub counter : List ℕ → Spots → Block → ℕ → Procedure
counter x s body end = record {
  co = true;
  note = None;
  name = x;
  inputs = param (codes "init_c") types.UInt s 3 ∷ [];
  outputs = param (codes "c") types.UInt s 9 ∷ [];
  pres = one_more (codes "init_c") s 14 ∷ [];
  posts = Expression.name (codes "c") (s 18) ∷ [];
  body = Some body;
  span = over s 0 end;
}

-- `@ invariant ( ite ( cont , c + 1 , c ) )`
abbrev pub rule : Spots → LoopRule
rule s = LoopRule.invariant (Expression.choice (Expression.name (codes "cont") (s 34)) (one_more (codes "c") s 36) (Expression.name (codes "c") (s 40)) (over s 32 41)) (over s 29 42)

-- `var stop : Bool = flip ( 0.5 ) if stop { cont = false } else { c = c + 1 }`
abbrev pub round : Spots → Block
round s =
    Block.next (Statement.var (codes "stop") types.Bool (Some (RightSide.flip (Expression.number half (s 53)))) (over s 46 54))
    (Block.next (Statement.branch
    (Arms.arm (Expression.name (codes "stop") (s 56)) (Block.next (Statement.assign (codes "cont" ∷ []) (RightSide.plain (Expression.truth false (s 60))) (over s 58 60)) Block.done) Arms.no_arm)
    (Block.next (Statement.assign (codes "c" ∷ []) (RightSide.plain (one_more (codes "c") s 66)) (over s 64 68)) Block.done)
    (over s 55 69))
    Block.done)

abbrev pub loop_body : Spots → Block
loop_body s =
    Block.next (Statement.assign (codes "c" ∷ []) (RightSide.plain (Expression.name (codes "init_c") (s 22))) (over s 20 22))
    (Block.next (Statement.var (codes "cont") types.Bool (Some (RightSide.plain (Expression.truth true (s 28)))) (over s 23 28))
    (Block.next (Statement.loop (rule s ∷ []) (Expression.name (codes "cont") (s 44)) (round s) (over s 29 70))
    Block.done))

abbrev pub loop : List ℕ → Spots → Procedure
loop x s = counter x s (loop_body s) 71

-- `{ c = y(init_c) }`
abbrev pub call_body : List ℕ → Spots → Block
call_body y s = Block.next (Statement.assign (codes "c" ∷ []) (RightSide.call y (Expression.name (codes "init_c") (s 24) ∷ [])) (over s 20 25)) Block.done

abbrev pub call : List ℕ → List ℕ → Spots → Procedure
call x y s = counter x s (call_body y s) 26
