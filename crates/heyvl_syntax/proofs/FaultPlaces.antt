-- The possible places of the first error of a file.
use Rattle.heyvl_places.specs.declared.spans.Span.{Span}
use Rattle.heyvl_syntax.proofs.InOrder.{part_le, stand_in_order}
use Rattle.heyvl_syntax.specs.SourceFaults.{IsSourceFault, token_place}
use Rattle.heyvl_syntax.specs.TokenLaws.{StandInOrder}
use Rattle.heyvl_syntax.specs.Tokens.{Part, StopsAfter}
use Rattle.heyvl_syntax.specs.declared.tokens.Token.{Token}
use Rattle.std.proofs.Common.{List, [], ap, arith, drop, inl, inr, length, suc, zero, ◌+◌, ◌∷◌, ◌≤◌, ℕ}
use Rattle.std.proofs.lemmas.List.{length-drop}

stops_inside : (place : ℕ) (bytes : List ℕ) (parts : List Part) (number : ℕ) (span : Span) → StopsAfter place bytes parts number span → span.from ≤ place + length bytes
stops_inside place bytes [] number span (n, fault, same) = let e = ap (λ (s : Span). s.from) same in omega arith
stops_inside place bytes (part ∷ parts) number span (n, here, later) =
    let le = part_le place bytes part n here in
    let below = stops_inside (place + n) (drop n bytes) parts number span later in
    omega (arith, length-drop n bytes)

ends_inside : (place : ℕ) (bytes : List ℕ) (tokens : List Token) → StandInOrder place bytes tokens → place ≤ length bytes
ends_inside place bytes [] stand = stand
ends_inside place bytes (t ∷ ts) (before, some, is, small, rest) = let le = ends_inside t.span.to bytes ts rest in omega (arith, before, some)

token_inside : (place i : ℕ) (bytes : List ℕ) (tokens : List Token) → StandInOrder place bytes tokens → (token_place bytes tokens i).from ≤ length bytes
token_inside place zero bytes [] stand = omega arith
token_inside place (suc i) bytes [] stand = omega arith
token_inside place zero bytes (t ∷ ts) (before, some, is, small, rest) = let le = ends_inside t.span.to bytes ts rest in omega (arith, some)
token_inside place (suc i) bytes (t ∷ ts) (before, some, is, small, rest) = token_inside t.span.to i bytes ts rest

pub fault_inside : (bytes : List ℕ) (number : ℕ) (place : Span) → IsSourceFault bytes number place → place.from ≤ length bytes
fault_inside bytes number place (inl stops) = let inside = stops_inside 0 bytes stops.parts number place stops.stops in omega arith
fault_inside bytes number place (inr (tokens, i, lexes, fault, same)) =
    let inside = token_inside 0 i bytes tokens (stand_in_order bytes tokens lexes) in
    let e = ap (λ (s : Span). s.from) same in
    omega arith
