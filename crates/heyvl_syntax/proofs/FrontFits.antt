-- What is found has at least one byte, and is within the bytes.
use Rattle.heyvl_syntax.proofs.FrontIs.{front-inside, front-is}
use Rattle.heyvl_syntax.specs.internal.Fronts.{FitsIn, IsInside, IsWithin, found_of, front_of}
use Rattle.heyvl_syntax.specs.Literals.{is_too_large}
use Rattle.heyvl_syntax.specs.declared.fronts.Front.TheVariants as shapes
use Rattle.heyvl_syntax.specs.declared.fronts.Front.{Front}
use Rattle.heyvl_syntax.specs.declared.tokens.TokenKind.{TokenKind}
use Rattle.heyvl_syntax.specs.internal.Found as fronts
use Rattle.heyvl_syntax.specs.internal.Found.{Found}
use Rattle.std.proofs.Common.{Bool, List, arith, cond, false, length, subst, sym, take, true, ◌<◌, ◌≡◌, ◌≤◌, ℕ}
use Rattle.std.proofs.lemmas.List.{length-take-le}

some_byte : (len n : ℕ) (kind : TokenKind) (large : Bool) → IsInside len (cond large (fronts.Fault 3 n) (fronts.Token kind n)) → 0 < n
some_byte len n kind true inside = inside.0
some_byte len n kind false inside = inside.0

text_fits : (bytes : List ℕ) (n : ℕ) → 0 < length (take n bytes) → n ≤ length bytes → (0 < n) × (n ≤ length bytes)
text_fits bytes n some within =
    let len : length (take n bytes) ≡ n = length-take-le n bytes within in
    (omega (arith, len), within)

fits : (bytes : List ℕ) (front : Front) → IsInside (length bytes) (found_of bytes front) → IsWithin (length bytes) front → FitsIn (length bytes) front
fits bytes shapes.End inside within = tt
fits bytes (shapes.Blank n) inside within = inside
fits bytes (shapes.Word n) inside within = text_fits bytes n inside.0 within
fits bytes (shapes.Number n) inside within = text_fits bytes n (some_byte (length bytes) (length (take n bytes)) _ (is_too_large (take n bytes)) inside) within
fits bytes (shapes.Key key n) inside within = inside
fits bytes (shapes.Mark mark n) inside within = inside
fits bytes (shapes.Fault number n) inside within = inside

pub front-fits : (bytes : List ℕ) (front : Front) → found_of bytes front ≡ front_of bytes → IsWithin (length bytes) front → FitsIn (length bytes) front
front-fits bytes front same within =
    fits bytes front (subst (λ (f : Found). IsInside (length bytes) f) (sym same) (front-inside bytes (front_of bytes) (front-is bytes))) within
