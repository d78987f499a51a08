-- One more part of the bytes, and their end.
use Rattle.heyvl_syntax.proofs.FrontIs.{IsFront, front-is}
use Rattle.heyvl_syntax.specs.internal.Fronts.{front_of}
use Rattle.heyvl_syntax.specs.Tokens.{Lexes, Stops, comment, span_of, token, white}
use Rattle.heyvl_syntax.specs.internal.Found as fronts
use Rattle.heyvl_syntax.specs.internal.Found.{Found}
use Rattle.heyvl_places.specs.declared.spans.Span.{Span}
use Rattle.heyvl_syntax.specs.declared.tokens.Token.{Token}
use Rattle.heyvl_syntax.specs.declared.tokens.TokenKind.{TokenKind}
use Rattle.std.proofs.Common.{List, [], ap, append_assoc, drop, inl, inr, refl, subst, sym, ◌++◌, ◌+◌, ◌∙◌, ◌∷◌, ◌≡◌, ℕ}

abbrev pub made : TokenKind → ℕ → ℕ → Token
made kind place n = record { kind = kind; span = span_of place n }

pub front_was : (bytes : List ℕ) (found front : Found) → found ≡ front_of bytes → found ≡ front → IsFront bytes front
front_was bytes found front value is = subst (λ (f : Found). IsFront bytes f) (sym value ∙ is) (front-is bytes)

pub lexes_end : (place : ℕ) (bytes : List ℕ) → IsFront bytes fronts.End → Lexes place bytes []
lexes_end place bytes empty = record { parts = []; splits = empty; are_tokens = refl }

pub lexes_blank : (place n : ℕ) (bytes : List ℕ) → IsFront bytes (fronts.Blank n) → (tokens : List Token) → Lexes (place + n) (drop n bytes) tokens → Lexes place bytes tokens
lexes_blank place n bytes (inl here) tokens rest = record { parts = white ∷ rest.parts; splits = (n, here, rest.splits); are_tokens = rest.are_tokens }
lexes_blank place n bytes (inr here) tokens rest = record { parts = comment ∷ rest.parts; splits = (n, here, rest.splits); are_tokens = rest.are_tokens }

pub lexes_token : (place n : ℕ) (kind : TokenKind) (bytes : List ℕ) → IsFront bytes (fronts.Token kind n) → (tokens : List Token) → Lexes (place + n) (drop n bytes) tokens → Lexes place bytes (made kind place n ∷ tokens)
lexes_token place n kind bytes (c, longest, limits) tokens rest = record {
  parts = token (made kind place n) ∷ rest.parts;
  splits = (n, (c, longest, limits, refl), rest.splits);
  are_tokens = ap (λ (ts : List Token). made kind place n ∷ ts) rest.are_tokens;
}

pub stops_here : (place n number : ℕ) (bytes : List ℕ) → IsFront bytes (fronts.Fault number n) → Stops place bytes number (span_of place n)
stops_here place n number bytes fault = record { parts = []; stops = (n, fault, refl) }

pub stops_blank : (place n : ℕ) (bytes : List ℕ) → IsFront bytes (fronts.Blank n) → (number : ℕ) (span : Span) → Stops (place + n) (drop n bytes) number span → Stops place bytes number span
stops_blank place n bytes (inl here) number span rest = record { parts = white ∷ rest.parts; stops = (n, here, rest.stops) }
stops_blank place n bytes (inr here) number span rest = record { parts = comment ∷ rest.parts; stops = (n, here, rest.stops) }

pub stops_token : (place n : ℕ) (kind : TokenKind) (bytes : List ℕ) → IsFront bytes (fronts.Token kind n) → (number : ℕ) (span : Span) → Stops (place + n) (drop n bytes) number span → Stops place bytes number span
stops_token place n kind bytes (c, longest, limits) number span rest = record { parts = token (made kind place n) ∷ rest.parts; stops = (n, (c, longest, limits, refl), rest.stops) }

-- The tokens so far, with one more.
pub lexed_more : (place n : ℕ) (kind : TokenKind) (all bytes behind : List ℕ) (front : List Token) → IsFront bytes (fronts.Token kind n) → behind ≡ drop n bytes → ((tokens : List Token) → Lexes place bytes tokens → Lexes 0 all (front ++ tokens)) → (tokens : List Token) → Lexes (place + n) behind tokens → Lexes 0 all ((front ++ made kind place n ∷ []) ++ tokens)
lexed_more place n kind all bytes behind front here same before tokens rest =
    rw append_assoc (before (made kind place n ∷ tokens) (lexes_token place n kind bytes here tokens (subst (λ (z : List ℕ). Lexes (place + n) z tokens) same rest)))
