-- Worked errors: the line on each static error, and the replies of `verify` to two files.
use Rattle.heyvl_num.specs.Gcd.{gcd, gcd_steps}
use Rattle.heyvl_num.specs.Rational.{leqʳ, oneʳ, ratio, zeroʳ}
use Rattle.heyvl_places.specs.declared.spans.Span.{Span}
use Rattle.heyvl_syntax.specs.Expressions.{Expression}
use Rattle.heyvl_syntax.specs.Procedures.{Procedure}
use Rattle.heyvl_syntax.specs.Statements.{Block, RightSide, Statement}
use Rattle.heyvl_syntax.specs.declared.operators.BinaryOp.{BinaryOp}
use Rattle.heyvl_syntax.specs.declared.types.TypeName.{TypeName}
use Rattle.spelled_files.specs.FaultTexts.{fault_text, source_fault_line}
use Rattle.static_rules.specs.Files.{first_fault}
use Rattle.static_rules.specs.Literals.{literal_quotient}
use Rattle.typed_expressions.specs.LiteralValues.{inverse_value, literal_value}
use Rattle.std.proofs.Common.{List, None, Some, [], codes, false, pos, refl, true, ◌+◌, ◌≡◌, ◌∷◌, ℕ}
use Rattle.std.specs.Fmt.{digits}

abbrev at : ℕ → ℕ → Span
at from to = record { from = from; to = to }

abbrev whole : ℕ → ℕ → Expression
whole n from = Expression.number (record { digits = pos n; places = 0 }) (at from (from + 1))

abbrev half : ℕ → Expression
half from = Expression.binary BinaryOp.Slash (whole 1 from) (whole 2 (from + 2)) (at (from + 1) (from + 2))

abbrev b : List ℕ
b = codes "b"

-- A coproc with one output b of Bool, the post `[b]` and one statement.
abbrev over_b : List ℕ → Expression → ℕ → ℕ → Statement → ℕ → List Procedure
over_b name pre output post statement end =
    record {
      co = true;
      note = None;
      name = name;
      inputs = [];
      outputs = record { name = b; ty = TypeName.Bool; span = at output (output + 7) } ∷ [];
      pres = pre ∷ [];
      posts = Expression.bracket (Expression.name b (at (post + 1) (post + 2))) (at post (post + 3)) ∷ [];
      body = Some (Block.next statement Block.done);
      span = at 0 end;
    }
    ∷ []

abbrev pub havocking : List ℕ
havocking = codes "coproc h() -> (b: Bool) pre 1 post [b] { havoc b }"

abbrev pub h : List Procedure
h = over_b (codes "h") (whole 1 28) 15 35 (Statement.havoc false (b ∷ []) (at 41 48)) 50

pub h_is_on_the_wrong_side : first_fault h ≡ Some (17, at 41 48)
unfolding literal_value ratio gcd gcd_steps
h_is_on_the_wrong_side = refl

h_is_told : source_fault_line havocking 17 (at 41 48) ≡ codes "1:42: fault 17: statement on the wrong side\n"
unfolding digits
h_is_told = refl

-- coproc coin() -> (b: Bool) pre 1/2 post [b] { b = flip(1/2) }
abbrev coin : List Procedure
coin = over_b (codes "coin") (half 31) 18 40 (Statement.assign (b ∷ []) (RightSide.flip (half 55)) (at 46 59)) 61

coin_has_no_fault : first_fault coin ≡ None
unfolding literal_value literal_quotient inverse_value ratio gcd gcd_steps leqʳ oneʳ zeroʳ
coin_has_no_fault = refl

-- A place in a later line.
later_line : source_fault_line (codes "coproc a() -> ()\n\n  coproc a() -> ()\n") 11 (at 20 36) ≡ codes "3:3: fault 11: name given twice\n"
unfolding digits
later_line = refl

texts :
    (fault_text 10 ≡ codes "unknown name") × (fault_text 11 ≡ codes "name given twice") × (fault_text 12 ≡ codes "types do not agree")
    × (fault_text 13 ≡ codes "input assigned") × (fault_text 14 ≡ codes "wrong number of values") × (fault_text 15 ≡ codes "literal out of range")
    × (fault_text 16 ≡ codes "division") × (fault_text 17 ≡ codes "statement on the wrong side") × (fault_text 18 ≡ codes "loop without one rule")
    × (fault_text 19 ≡ codes "k out of range") × (fault_text 20 ≡ codes "reward in a weak procedure") × (fault_text 21 ≡ codes "call against the direction")
    × (fault_text 22 ≡ codes "ranking body") × (fault_text 23 ≡ codes "quantifier out of place") × (fault_text 24 ≡ codes "procedure too large")
    × (fault_text 1 ≡ codes "no token here") × (fault_text 4 ≡ codes "unexpected token or end of file") × (fault_text 6 ≡ codes "too many procedures")
    × (fault_text 2 ≡ codes "comment without end") × (fault_text 3 ≡ codes "number too large") × (fault_text 5 ≡ codes "nested too deeply")
    × (fault_text 30 ≡ codes "no pGCL program") × (fault_text 31 ≡ codes "reserved name")
    × (fault_text 0 ≡ []) × (fault_text 7 ≡ []) × (fault_text 25 ≡ []) × (fault_text 29 ≡ []) × (fault_text 32 ≡ [])
texts = (refl, refl, refl, refl, refl, refl, refl, refl, refl, refl, refl, refl, refl, refl, refl, refl, refl, refl, refl, refl, refl, refl, refl, refl, refl, refl, refl, refl)
