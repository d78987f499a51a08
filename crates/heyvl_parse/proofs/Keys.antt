-- Reading one keyword, by the keyword.
use Rattle.heyvl_parse.specs.declared.stops.PartStop.TheVariants.{Fault, Memory}
use Rattle.heyvl_parse.specs.declared.stops.PartStop.{PartStop}
use Rattle.heyvl_parse.specs.readers.Combinators.{kind}
use Rattle.heyvl_parse.specs.readers.ReadParts.{Bad, Got, given}
use Rattle.heyvl_parse.specs.readers.Results.{Fails}
use Rattle.heyvl_parse.specs.internal.Statements.{by_key}
use Rattle.heyvl_syntax.specs.declared.keys.Key.{Key}
use Rattle.heyvl_syntax.specs.declared.tokens.Token.{Token}
use Rattle.heyvl_syntax.specs.declared.tokens.TokenKind.TheVariants as kinds
use Rattle.heyvl_syntax.specs.declared.tokens.TokenKind.{TokenKind}
use Rattle.std.proofs.Common.{List, Option, Some, [], ◌∷◌, ◌≡◌}

pub keyed : {A : Type 0} (of : Key → Option A) (ts r : List Token) (k : Key) → kind (by_key Some) ts ≡ Got k r → kind (by_key of) ts ≡ given (of k) ts r
keyed of [] r k e = cc
keyed {A} of (t ∷ ts) r k e = go t.kind e
  where
    go : (f : TokenKind) → given (by_key Some f) (t ∷ ts) ts ≡ Got k r → given (by_key of f) (t ∷ ts) ts ≡ given (of k) (t ∷ ts) r
    go (kinds.Key l) e = cc
    go (kinds.Word w) e = cc
    go (kinds.Number n) e = cc
    go (kinds.Mark m) e = cc

without : {A : Type 0} (of : Key → Option A) (ts r : List Token) → kind (by_key Some) ts ≡ Bad r → kind (by_key of) ts ≡ Bad r
without of [] r e = cc
without {A} of (t ∷ ts) r e = go t.kind e
  where
    go : (f : TokenKind) → given (by_key Some f) (t ∷ ts) ts ≡ Bad r → given (by_key of f) (t ∷ ts) ts ≡ Bad r
    go (kinds.Key l) e = cc
    go (kinds.Word w) e = cc
    go (kinds.Number n) e = cc
    go (kinds.Mark m) e = cc

pub keyless : {A : Type 0} (of : Key → Option A) (stop : PartStop) (ts : List Token) → Fails stop (kind (by_key Some) ts) → Fails stop (kind (by_key of) ts)
keyless of (Memory error) ts h = tt
keyless of (Fault left) ts (r, bad, len) = (r, without of ts r bad, len)
