-- The tokens of the generated lines spell their trees, at any places.
use Rattle.generated_files.proofs.Lines.{call_pieces, coin_pieces, loop_pieces}
use Rattle.generated_files.proofs.Pieces.{IsPlain, IsShort, kinds_of, number}
use Rattle.generated_files.proofs.Spread.{Spots, over, spread}
use Rattle.generated_files.proofs.Trees.{call, call_body, coin, coin_body, counter, half, loop, loop_body, one_more, param, part, round, rule, whole}
use Rattle.heyvl_places.specs.declared.spans.Span.{Span}
use Rattle.heyvl_syntax.specs.Expressions.{Expression}
use Rattle.heyvl_syntax.specs.Grammar.{Clause, IsBlock, IsExpr, IsParam, IsProc, IsRule, type_key}
use Rattle.heyvl_syntax.specs.Literals.{literal}
use Rattle.heyvl_syntax.specs.Productions.{IsOne, at, extent, ◌then◌}
use Rattle.heyvl_syntax.specs.declared.keys.Key.TheVariants as keys
use Rattle.heyvl_syntax.specs.declared.literals.Lit.{Lit}
use Rattle.heyvl_syntax.specs.declared.marks.Mark.TheVariants as marks
use Rattle.heyvl_syntax.specs.declared.tokens.Token.{Token}
use Rattle.heyvl_syntax.specs.declared.tokens.TokenKind.TheVariants as kinds
use Rattle.heyvl_syntax.specs.declared.tokens.TokenKind.{TokenKind}
use Rattle.heyvl_syntax.specs.Statements.{Block}
use Rattle.heyvl_syntax.specs.declared.types.TypeName.TheVariants as types
use Rattle.heyvl_syntax.specs.declared.types.TypeName.{TypeName}
use Rattle.std.proofs.Common.{List, [], codes, inl, lit≤, refl, ◌++◌, ◌+◌, ◌∷◌, ◌≡◌, ◌≤◌, ℕ}

both : {P Q : List Token → Type 0} (xs ys : List Token) → P xs → Q ys → (P then Q) (xs ++ ys)
both xs ys p q = (xs, ys, p, q, refl)

-- A token, then the others.
infixr 30 ◌▸◌
◌▸◌ : {Q : List Token → Type 0} {kind : TokenKind} {ys : List Token} (s : Span) → Q ys → (IsOne kind then Q) (at kind s ∷ ys)
◌▸◌ {kind = kind} {ys = ys} s q = (at kind s ∷ [], ys, (s, refl), q, refl)

-- ---- Parts

-- A name, and a number.
name_is : (x : List ℕ) (s : Span) (k : ℕ) → IsExpr (Expression.name x s) k (at (kinds.Word x) s ∷ [])
name_is x s k = ((s, refl), refl)

number_is : (n : Lit) (s : Span) (k : ℕ) → IsExpr (Expression.number n s) k (at (kinds.Number n) s ∷ [])
number_is n s k = ((s, refl), refl)

part_is : (n : Lit) (s : Spots) (j k : ℕ) → 1 ≤ k → IsExpr (part n s j) k (at (kinds.Number (whole 1)) (s j) ∷ at (kinds.Mark marks.Slash) (s (j + 1)) ∷ at (kinds.Number n) (s (j + 2)) ∷ [])
part_is n s j k h = (h, both _ _ (number_is (whole 1) (s j) 1) (both _ _ refl (number_is n (s (j + 2)) 0)))

one_more_is : (x : List ℕ) (s : Spots) (j k : ℕ) → 2 ≤ k → IsExpr (one_more x s j) k (at (kinds.Word x) (s j) ∷ at (kinds.Mark marks.Plus) (s (j + 1)) ∷ at (kinds.Number (whole 1)) (s (j + 2)) ∷ [])
one_more_is x s j k h = (h, both _ _ (name_is x (s j) 2) (both _ _ refl (number_is (whole 1) (s (j + 2)) 1)))

param_is : (x : List ℕ) (t : TypeName) (s : Spots) (j : ℕ) → IsParam (param x t s j) (at (kinds.Word x) (s j) ∷ at (kinds.Mark marks.Colon) (s (j + 1)) ∷ at (kinds.Key (type_key t)) (s (j + 2)) ∷ [])
param_is x t s j = (s j ▸ s (j + 1) ▸ (s (j + 2), refl), refl)

-- ---- A coin

coin_body_is : (s : Spots) → IsBlock (coin_body s)
    (at (kinds.Mark marks.BraceLeft) (s 18) ∷ at (kinds.Word (codes "b")) (s 19) ∷ at (kinds.Mark marks.Assign) (s 20) ∷ at (kinds.Key keys.Flip) (s 21)
    ∷ at (kinds.Mark marks.ParenLeft) (s 22) ∷ at (kinds.Number (whole 1)) (s 23) ∷ at (kinds.Mark marks.Slash) (s 24) ∷ at (kinds.Number (whole 2)) (s 25)
    ∷ at (kinds.Mark marks.ParenRight) (s 26) ∷ at (kinds.Mark marks.BraceRight) (s 27) ∷ [])
coin_body_is s =
    s 18 ▸ both _ _
    (both _ _ (both _ _ (both _ _ (s 19, refl) refl) (s 20 ▸ s 21 ▸ s 22 ▸ both _ _ (part_is (whole 2) s 23 9 (lit≤ tt)) (s 26, refl)), refl) (both [] _ tt refl))
    (s 27, refl)

pub coin_spelled : (x : List ℕ) (plain : IsPlain x) (text : List ℕ) (short : IsShort text) (s : Spots) → IsProc (coin x (literal text) s) (spread s (kinds_of (coin_pieces x plain (number text short))))
coin_spelled x plain text short s = (
  both [] _ refl (s 0 ▸ s 1 ▸ s 2 ▸ both [] _ refl (s 3 ▸ s 4 ▸ s 5 ▸ both _ _ (both _ _ (param_is (codes "b") types.Bool s 6) refl) (s 9 ▸ both _ _ (
    Clause.pre (part (literal text) s 11) ∷ Clause.post (Expression.bracket (Expression.name (codes "b") (s 16)) (over s 15 17)) ∷ [],
    both _ _ (s 10 ▸ part_is (literal text) s 11 9 (lit≤ tt)) (both _ _ (s 14 ▸ (s 15 ▸ both _ _ (name_is (codes "b") (s 16) 9) (s 17, refl), refl)) refl),
    refl,
    refl,
  )
      (coin_body_is s)))),
  refl,
)

-- ---- The common parts of a loop and a call

-- `coproc x(init_c: UInt) -> (c: UInt) pre init_c + 1 post c`, and a body.
counter_is : (x : List ℕ) (s : Spots) (body : Block) (end : ℕ) (ts : List Token) → IsBlock body ts →
    let tokens =
    at (kinds.Key keys.CoProc) (s 0) ∷ at (kinds.Word x) (s 1)
    ∷ at (kinds.Mark marks.ParenLeft) (s 2) ∷ at (kinds.Word (codes "init_c")) (s 3) ∷ at (kinds.Mark marks.Colon) (s 4) ∷ at (kinds.Key keys.UIntWord) (s 5) ∷ at (kinds.Mark marks.ParenRight) (s 6)
    ∷ at (kinds.Mark marks.Arrow) (s 7)
    ∷ at (kinds.Mark marks.ParenLeft) (s 8) ∷ at (kinds.Word (codes "c")) (s 9) ∷ at (kinds.Mark marks.Colon) (s 10) ∷ at (kinds.Key keys.UIntWord) (s 11) ∷ at (kinds.Mark marks.ParenRight) (s 12)
    ∷ at (kinds.Key keys.Pre) (s 13) ∷ at (kinds.Word (codes "init_c")) (s 14) ∷ at (kinds.Mark marks.Plus) (s 15) ∷ at (kinds.Number (whole 1)) (s 16)
    ∷ at (kinds.Key keys.Post) (s 17) ∷ at (kinds.Word (codes "c")) (s 18) ∷ ts
    in over s 0 end ≡ extent tokens → IsProc (counter x s body end) tokens
counter_is x s body end ts h e = (
  both [] _ refl (s 0 ▸ s 1 ▸ s 2 ▸ both _ _ (both _ _ (param_is (codes "init_c") types.UInt s 3) refl) (s 6 ▸ s 7 ▸ s 8 ▸ both _ _ (both _ _ (param_is (codes "c") types.UInt s 9) refl) (s 12 ▸ both _ _ (
    Clause.pre (one_more (codes "init_c") s 14) ∷ Clause.post (Expression.name (codes "c") (s 18)) ∷ [],
    both _ _ (s 13 ▸ one_more_is (codes "init_c") s 14 9 (lit≤ tt)) (both _ _ (s 17 ▸ name_is (codes "c") (s 18) 9) refl),
    refl,
    refl,
  )
      h))),
  e,
)

-- ---- A call

pub call_spelled : (x : List ℕ) (plain : IsPlain x) (y : List ℕ) (other : IsPlain y) (s : Spots) → IsProc (call x y s) (spread s (kinds_of (call_pieces x plain y other)))
call_spelled x plain y other s =
    counter_is x s (call_body y s) 26 _
    (s 19 ▸ both _ _
    (both _ _ (both _ _ (both _ _ (s 20, refl) refl) (s 21 ▸ s 22 ▸ s 23 ▸ both _ _ (both _ _ (name_is (codes "init_c") (s 24) 9) refl) (s 25, refl)), refl) (both [] _ tt refl))
    (s 26, refl))
    refl

-- ---- A loop

-- `@ invariant ( ite ( cont , c + 1 , c ) )`
rule_is : (s : Spots) → IsRule (rule s)
    (at (kinds.Mark marks.AtSign) (s 29) ∷ at (kinds.Word (codes "invariant")) (s 30) ∷ at (kinds.Mark marks.ParenLeft) (s 31)
    ∷ at (kinds.Key keys.Ite) (s 32) ∷ at (kinds.Mark marks.ParenLeft) (s 33) ∷ at (kinds.Word (codes "cont")) (s 34) ∷ at (kinds.Mark marks.Comma) (s 35)
    ∷ at (kinds.Word (codes "c")) (s 36) ∷ at (kinds.Mark marks.Plus) (s 37) ∷ at (kinds.Number (whole 1)) (s 38) ∷ at (kinds.Mark marks.Comma) (s 39)
    ∷ at (kinds.Word (codes "c")) (s 40) ∷ at (kinds.Mark marks.ParenRight) (s 41) ∷ at (kinds.Mark marks.ParenRight) (s 42) ∷ [])
rule_is s = (
  s 29 ▸ s 30 ▸ s 31 ▸ both _ _
      (s 32 ▸ s 33 ▸ both _ _ (name_is (codes "cont") (s 34) 9) (s 35 ▸ both _ _ (one_more_is (codes "c") s 36 9 (lit≤ tt)) (s 39 ▸ both _ _ (name_is (codes "c") (s 40) 9) (s 41, refl))), refl)
      (s 42, refl),
  refl,
)

-- `{ var stop : Bool = flip ( 0.5 ) if stop { cont = false } else { c = c + 1 } }`
round_is : (s : Spots) → IsBlock (round s)
    (at (kinds.Mark marks.BraceLeft) (s 45) ∷ at (kinds.Key keys.Var) (s 46) ∷ at (kinds.Word (codes "stop")) (s 47) ∷ at (kinds.Mark marks.Colon) (s 48) ∷ at (kinds.Key keys.BoolWord) (s 49)
    ∷ at (kinds.Mark marks.Assign) (s 50) ∷ at (kinds.Key keys.Flip) (s 51) ∷ at (kinds.Mark marks.ParenLeft) (s 52) ∷ at (kinds.Number half) (s 53) ∷ at (kinds.Mark marks.ParenRight) (s 54)
    ∷ at (kinds.Key keys.If) (s 55) ∷ at (kinds.Word (codes "stop")) (s 56) ∷ at (kinds.Mark marks.BraceLeft) (s 57) ∷ at (kinds.Word (codes "cont")) (s 58) ∷ at (kinds.Mark marks.Assign) (s 59)
    ∷ at (kinds.Key keys.FalseWord) (s 60) ∷ at (kinds.Mark marks.BraceRight) (s 61) ∷ at (kinds.Key keys.Else) (s 62) ∷ at (kinds.Mark marks.BraceLeft) (s 63) ∷ at (kinds.Word (codes "c")) (s 64)
    ∷ at (kinds.Mark marks.Assign) (s 65) ∷ at (kinds.Word (codes "c")) (s 66) ∷ at (kinds.Mark marks.Plus) (s 67) ∷ at (kinds.Number (whole 1)) (s 68) ∷ at (kinds.Mark marks.BraceRight) (s 69)
    ∷ at (kinds.Mark marks.BraceRight) (s 70) ∷ [])
round_is s =
    s 45 ▸ both _ _
    (both _ _ (s 46 ▸ s 47 ▸ s 48 ▸ s 49 ▸ s 50 ▸ s 51 ▸ s 52 ▸ both _ _ (number_is half (s 53) 9) (s 54, refl), refl) (both [] _ tt
    (both _ _ (
      both _ _
          (s 55 ▸ both _ _ (name_is (codes "stop") (s 56) 9) (both _ _
          (s 57 ▸ both _ _ (both _ _ (both _ _ (both _ _ (s 58, refl) refl) (s 59 ▸ ((s 60, refl), refl)), refl) (both [] _ tt refl)) (s 61, refl))
          refl))
          (inl (s 62 ▸ s 63 ▸ both _ _ (both _ _ (both _ _ (both _ _ (s 64, refl) refl) (s 65 ▸ one_more_is (codes "c") s 66 9 (lit≤ tt)), refl) (both [] _ tt refl)) (s 69, refl))),
      refl,
    )
    (both [] _ tt refl))))
    (s 70, refl)

pub loop_spelled : (x : List ℕ) (plain : IsPlain x) (s : Spots) → IsProc (loop x s) (spread s (kinds_of (loop_pieces x plain)))
loop_spelled x plain s =
    counter_is x s (loop_body s) 71 _
    (s 19 ▸ both _ _
    (both _ _ (both _ _ (both _ _ (s 20, refl) refl) (s 21 ▸ name_is (codes "init_c") (s 22) 9), refl) (both [] _ tt
    (both _ _ (s 23 ▸ s 24 ▸ s 25 ▸ s 26 ▸ s 27 ▸ ((s 28, refl), refl), refl) (both [] _ tt
    (both _ _ (both _ _ (both _ _ (rule_is s) refl) (s 43 ▸ both _ _ (name_is (codes "cont") (s 44) 9) (round_is s)), refl) (both [] _ tt refl))))))
    (s 71, refl))
    refl
