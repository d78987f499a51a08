-- The canonical text of a file spells the same file.
use Rattle.heyvl_print.proofs.LexedPieces.{Sound, lexes_pieces, tokens_at}
use Rattle.heyvl_print.proofs.ProceduresAgain.{file_again}
use Rattle.heyvl_print.proofs.TreePieces.{kinds_of, token_kinds}
use Rattle.heyvl_print.specs.Canonical.{file_lines}
use Rattle.heyvl_print.specs.Laws.{LexedTokensArePrintable, PrintableFilesSpell, PrintedTextSpells}
use Rattle.heyvl_print.specs.Pieces.{Piece, blank, line_feed, token, token_text}
use Rattle.heyvl_print.specs.Printable.{ArePrintable, IsPrintable}
use Rattle.heyvl_syntax.proofs.exported.InOrder.{stand_in_order}
use Rattle.heyvl_syntax.specs.TokenLaws.{HasSmallLiteral, StandInOrder}
use Rattle.heyvl_syntax.specs.Tokens.{IsToken}
use Rattle.heyvl_syntax.specs.declared.keys.Key.{Key}
use Rattle.heyvl_syntax.specs.Keys.{key_text}
use Rattle.heyvl_syntax.specs.Tokens.{IsWord}
use Rattle.heyvl_syntax.specs.declared.tokens.Token.{Token}
use Rattle.heyvl_syntax.specs.declared.tokens.TokenKind.TheVariants as kinds
use Rattle.heyvl_syntax.specs.declared.tokens.TokenKind.{TokenKind}
use Rattle.std.proofs.Common.{List, [], ap, length, refl, subst, sym, ◌+◌, ◌∷◌, ◌≡◌, ℕ}
use Rattle.std.proofs.lemmas.List.{append-nil}

printable : (kind : TokenKind) (text rest : List ℕ) → IsToken kind text rest → HasSmallLiteral kind → IsPrintable kind
printable (kinds.Word x) text rest t h = subst (λ (z : List ℕ). IsWord z × ((key : Key) → key_text key ≡ z → ⊥)) (sym t.0) (t.1, t.2)
printable (kinds.Number lit) text rest t h = h
printable (kinds.Key k) text rest t h = tt
printable (kinds.Mark m) text rest t h = tt

all_printable : (place : ℕ) (bytes : List ℕ) (ts : List Token) → StandInOrder place bytes ts → ArePrintable ts
all_printable place bytes [] h = tt
all_printable place bytes (t ∷ ts) h = (printable t.kind _ _ h.2 h.3, all_printable t.span.to bytes ts h.4)

kinds_are : (place : ℕ) (ps : List Piece) → token_kinds (tokens_at place ps) ≡ kinds_of ps
kinds_are place [] = refl
kinds_are place (blank ∷ ps) = kinds_are (place + 1) ps
kinds_are place (line_feed ∷ ps) = kinds_are (place + 1) ps
kinds_are place (token kind ∷ ps) = ap (λ (z : List TokenKind). kind ∷ z) (kinds_are (place + length (token_text kind)) ps)

pub lexed : LexedTokensArePrintable
lexed bytes tokens lexes = all_printable 0 bytes tokens (stand_in_order bytes tokens lexes)

pub spells_printable : PrintableFilesSpell
spells_printable tokens file ready is_file =
    let prints = (file_again file).from tokens is_file ready in
    let pieces = file_lines file in
    let sound = subst (λ (ps : List Piece). Sound ps) (append-nil pieces) (prints.flows [] refl tt) in
    let other = prints.again (tokens_at 0 pieces) (kinds_are 0 pieces) in
    (other.0, record { tokens = tokens_at 0 pieces; lexes = lexes_pieces 0 pieces sound; is_file = other.2 }, other.1)

pub spells : PrintedTextSpells
spells bytes file spelled = spells_printable spelled.tokens file (lexed bytes spelled.tokens spelled.lexes) spelled.is_file
