-- Reading a symbol or a second thing after a first one.
use Rattle.heyvl_parse.specs.readers.Combinators.{lead, sign, trail}
use Rattle.heyvl_parse.specs.readers.ReadParts.{Bad, Got, Out, Read, pair, ◌>>=◌}
use Rattle.heyvl_parse.specs.readers.Results.{Gives}
use Rattle.heyvl_parse.specs.declared.stops.PartStop.TheVariants.{Fault, Memory}
use Rattle.heyvl_parse.specs.declared.stops.PartStop.{PartStop}
use Rattle.heyvl_places.specs.declared.spans.Span.{Span}
use Rattle.heyvl_syntax.specs.declared.tokens.Token.{Token}
use Rattle.heyvl_syntax.specs.declared.tokens.TokenKind.{TokenKind}
use Rattle.std.proofs.Common.{Bool, Bor, Err, IfOk, List, MatchResult, Ok, Result, arith, length, refl, ◌<◌, ◌≡◌, ◌≤◌, ℕ}

pub closed_gives : {T V : Type 0} (view : T → V) (read : T) (result : Result (T × Bor (List Token)) PartStop) (mark : Read Span) →
    Gives (λ (x : T × Bor (List Token)). x.0) (λ x. x.1.now) result (mark >>= λ s r. Got read r) →
    Gives (λ (x : T × Bor (List Token)). view x.0) (λ x. x.1.now) result (mark >>= λ s r. Got (view read) r)
closed_gives view read (Ok x) (Got s r) g = cc
closed_gives view read (Ok x) (Bad r) g = absurd (cc)
closed_gives view read (Ok x) Out g = absurd (cc)
closed_gives view read (Err (Memory e)) mark g = tt
closed_gives view read (Err (Fault left)) (Got s r) (rest, bad, len) = absurd (cc)
closed_gives view read (Err (Fault left)) (Bad r) (rest, bad, len) = (rest, cc, len)
closed_gives view read (Err (Fault left)) Out (rest, bad, len) = absurd (cc)

pub beside_gives : {A B V W : Type 0} (one : A → V) (other : B → W) (first : A) (second : Result (B × Bor (List Token)) PartStop) (result : Result ((A × B) × Bor (List Token)) PartStop) (read : Read W) →
    MatchResult second (λ x. result ≡ Ok ((first, x.0), x.1)) (λ e. result ≡ Err e) →
    Gives (λ (x : B × Bor (List Token)). other x.0) (λ x. x.1.now) second read →
    Gives {Y = V × W} (λ (x : (A × B) × Bor (List Token)). (one x.0.0, other x.0.1)) (λ x. x.1.now) result (read >>= λ y r. Got (one first, y) r)
beside_gives one other first (Ok x) result read e g = rw (e, g) refl
beside_gives one other first (Err (Memory error)) result read e g = rw e tt
beside_gives one other first (Err (Fault left)) result read e (rest, bad, len) = rw e (rest, rw bad refl, len)

pub beside_shorter : {A B : Type 0} (first : A) (second : Result (B × Bor (List Token)) PartStop) (result : Result ((A × B) × Bor (List Token)) PartStop) (all left : ℕ) →
    MatchResult second (λ x. result ≡ Ok ((first, x.0), x.1)) (λ e. result ≡ Err e) →
    left ≤ all → IfOk second (λ x. length x.1.now < left) → IfOk result (λ x. length x.1.now < all)
beside_shorter first (Ok x) result all left e h g = rw e (omega arith)
beside_shorter first (Err stop) result all left e h g = rw e tt

pub beside_short : {A B : Type 0} (first : A) (second : Result (B × Bor (List Token)) PartStop) (result : Result ((A × B) × Bor (List Token)) PartStop) (all left : ℕ) →
    MatchResult second (λ x. result ≡ Ok ((first, x.0), x.1)) (λ e. result ≡ Err e) →
    left ≤ all → IfOk second (λ x. length x.1.now ≤ left) → IfOk result (λ x. length x.1.now ≤ all)
beside_short first (Ok x) result all left e h g = rw e (omega arith)
beside_short first (Err stop) result all left e h g = rw e tt

abbrev pub both : {A B : Type 0} → A → B → List Token → Read (A × B)
both x y r = Got (x, y) r

parted : {A B : Type 0} (x : A) (sign : Read Span) (g : List Token → Read B) →
    ((sign >>= λ s r. g r) >>= λ y r. both x y r) ≡ ((sign >>= λ s r. Got x r) >>= λ a r. g r >>= λ y s. both a y s)
parted x (Got s r) g = refl
parted x (Bad r) g = refl
parted x Out g = refl

parts : {A B : Type 0} (read : Read A) (test : TokenKind → Bool) (g : List Token → Read B) →
    (read >>= λ x r. lead test g r >>= λ y s. both x y s) ≡ ((read >>= λ x r. sign test r >>= λ s q. Got x q) >>= λ a r. g r >>= λ y s. both a y s)
parts (Got x r) test g = parted x (sign test r) g
parts (Bad r) test g = refl
parts Out test g = refl

-- Two parts with a symbol between them: the first part and the symbol, then the second part.
pub parted_by : {A B : Type 0} (f : List Token → Read A) (test : TokenKind → Bool) (g : List Token → Read B) (ts : List Token) →
    pair f (lead test g) ts ≡ (trail f test ts >>= λ a r. g r >>= λ y s. both a y s)
parted_by f test g ts = parts (f ts) test g
