-- Worked rows of the canonical text, computed.
use Rattle.heyvl_places.specs.declared.checks.CheckKind.TheVariants as checks
use Rattle.heyvl_print.specs.Canonical.{block_lines, canonical_text, expression_pieces, right_pieces, statement_lines}
use Rattle.heyvl_print.specs.Numbers.{number_text}
use Rattle.heyvl_print.specs.Pieces.{text_of}
use Rattle.heyvl_print.specs.WithoutPlaces.{no_place}
use Rattle.heyvl_syntax.specs.Expressions.{Expression}
use Rattle.heyvl_syntax.specs.Procedures.{Procedure}
use Rattle.heyvl_syntax.specs.Statements.{Arms, Block, LoopRule, RightSide, Statement}
use Rattle.heyvl_syntax.specs.declared.literals.Lit.{Lit}
use Rattle.heyvl_syntax.specs.declared.operators.BinaryOp.TheVariants as ops
use Rattle.heyvl_syntax.specs.declared.operators.UnaryOp.TheVariants as prefixes
use Rattle.heyvl_syntax.specs.declared.procedures.Note.TheVariants as notes
use Rattle.heyvl_syntax.specs.declared.types.TypeName.TheVariants as types
use Rattle.std.proofs.Common.{List, None, Some, [], codes, false, pos, refl, true, ◌∷◌, ◌≡◌, ℕ}
use Rattle.std.specs.Fmt.{digits}

-- Numbers
lit : ℕ → ℕ → Lit
lit digits places = record { digits = pos digits; places = places }

zero_is : number_text (lit 0 0) ≡ codes "0"
unfolding digits lit
zero_is = refl

half_is : number_text (lit 5 1) ≡ codes "0.5"
unfolding digits lit
half_is = refl

hundredth_is : number_text (lit 1 2) ≡ codes "0.01"
unfolding digits lit
hundredth_is = refl

inner_zeros_are : number_text (lit 100203 4) ≡ codes "10.0203"
unfolding digits lit
inner_zeros_are = refl

-- Small trees
name : List ℕ → Expression
name x = Expression.name x no_place

number : ℕ → Expression
number n = Expression.number (lit n 0) no_place

a : Expression
a = name (codes "a")

b : Expression
b = name (codes "b")

-- `coproc coin()->(b:Bool)pre 0.50 post[b]{b=flip(1/2);}`
coin : List Procedure
coin =
    record {
      co = true;
      note = None;
      name = codes "coin";
      inputs = [];
      outputs = record { name = codes "b"; ty = types.Bool; span = no_place } ∷ [];
      pres = Expression.number (lit 5 1) no_place ∷ [];
      posts = Expression.bracket b no_place ∷ [];
      body = Some (Block.next (Statement.assign (codes "b" ∷ []) (RightSide.flip (Expression.binary ops.Slash (number 1) (number 2) no_place)) no_place) Block.done);
      span = no_place;
    } ∷ []

coin_is : canonical_text coin ≡ codes "coproc coin() -> (b: Bool)\n  pre 0.5\n  post [b]\n{\n  b = flip(1 / 2)\n}\n"
unfolding digits lit name number b coin
coin_is = refl

-- An empty file has an empty text.
nothing_is : canonical_text [] ≡ []
nothing_is = refl

-- Two procedures without a body, the first with a note.
pair : List Procedure
pair =
    record { co = false; note = Some notes.Wlp; name = codes "f"; inputs = record { name = codes "x"; ty = types.UInt; span = no_place } ∷ record { name = codes "y"; ty = types.EUReal; span = no_place } ∷ []; outputs = []; pres = []; posts = a ∷ b ∷ []; body = None; span = no_place }
    ∷ record { co = true; note = None; name = codes "g"; inputs = []; outputs = []; pres = []; posts = []; body = Some Block.done; span = no_place }
    ∷ []

pair_is : canonical_text pair ≡ codes "@wlp\nproc f(x: UInt, y: EUReal) -> ()\n  post a\n  post b\n\ncoproc g() -> ()\n{\n}\n"
unfolding name a b pair
pair_is = refl

-- Expressions
quantifiers_are :
    text_of (expression_pieces (Expression.bound true (codes "x") types.Int (Expression.bound false (codes "y") types.Bool (Expression.embed a no_place) no_place) no_place))
    ≡ codes "sup x: Int. inf y: Bool. ?(a)"
unfolding name a
quantifiers_are = refl

operators_are :
    text_of (expression_pieces (Expression.binary ops.CoImply (Expression.unary prefixes.Tilde (Expression.unary prefixes.Not (Expression.group (Expression.binary ops.Minus a (Expression.unary prefixes.Minus b no_place) no_place) no_place) no_place) no_place) (Expression.binary ops.Cap (Expression.infinity no_place) (Expression.truth false no_place) no_place) no_place))
    ≡ codes "~!(a - -b) <== \\infty \\cap false"
unfolding name a b
operators_are = refl

choice_is :
    text_of (expression_pieces (Expression.choice (Expression.binary ops.Same a b no_place) (Expression.binary ops.Star a (number 2) no_place) (number 0) no_place))
    ≡ codes "ite(a == b, a * 2, 0)"
unfolding digits lit name number a b
choice_is = refl

-- Right sides
choose_is :
    text_of (right_pieces (RightSide.choose ((Expression.binary ops.Slash (number 1) (number 2) no_place, a) ∷ (Expression.binary ops.Slash (number 1) (number 2) no_place, b) ∷ [])))
    ≡ codes "choose { 1 / 2: a, 1 / 2: b }"
unfolding digits lit name number a b
choose_is = refl

unif_is : text_of (right_pieces (RightSide.unif a b)) ≡ codes "unif(a, b)"
unfolding name a b
unif_is = refl

-- Statements: further arms, and an `else` that is always printed.
one_line : Block
one_line = Block.next (Statement.reward a no_place) Block.done

arms_are :
    text_of (statement_lines 2 (Statement.branch (Arms.arm a one_line (Arms.arm b Block.done Arms.no_arm)) Block.done no_place))
    ≡ codes "  if a {\n    reward a\n  } else if b {\n  } else {\n  }\n"
unfolding name a b one_line
arms_are = refl

pick_is :
    text_of (statement_lines 2 (Statement.pick true one_line (Block.next (Statement.validate true no_place) Block.done) no_place))
    ≡ codes "  if \\cup {\n    reward a\n  } else {\n    covalidate\n  }\n"
unfolding name a one_line
pick_is = refl

loop_is :
    text_of (statement_lines 4 (Statement.loop (LoopRule.k_induction (number 2) a no_place ∷ LoopRule.ranking (number 1) b no_place ∷ []) b one_line no_place))
    ≡ codes "    @k_induction(2, a)\n    @ranking(1, b)\n    while b {\n      reward a\n    }\n"
unfolding digits lit name number a b one_line
loop_is = refl

simple_are :
    text_of (block_lines 0 (
    Block.next (Statement.var (codes "x") types.Real None no_place) (
    Block.next (Statement.var (codes "x") types.UReal (Some (RightSide.plain a)) no_place) (
    Block.next (Statement.assign (codes "x" ∷ codes "y" ∷ []) (RightSide.call (codes "f") (a ∷ b ∷ [])) no_place) (
    Block.next (Statement.assign [] (RightSide.call (codes "f") []) no_place) (
    Block.next (Statement.check checks.CoAssume a no_place) (
    Block.next (Statement.havoc true (codes "x" ∷ codes "y" ∷ []) no_place)
    Block.done)))))))
    ≡ codes "var x: Real\nvar x: UReal = a\nx, y = f(a, b)\nf()\ncoassume a\ncohavoc x, y\n"
unfolding name a b
simple_are = refl
