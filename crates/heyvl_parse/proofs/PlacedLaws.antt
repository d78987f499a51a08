-- The laws of trees that are made of parts and their place, and of equivalent productions.
use Rattle.heyvl_parse.proofs.Lawful.{Laws, spanned_laws}
use Rattle.heyvl_parse.proofs.Right.{right_as}
use Rattle.heyvl_parse.specs.readers.Combinators.{spanned}
use Rattle.heyvl_parse.specs.readers.ReadParts.{Read}
use Rattle.heyvl_places.specs.declared.spans.Span.{Span}
use Rattle.heyvl_syntax.specs.Productions.{extent}
use Rattle.heyvl_syntax.specs.declared.tokens.Token.{Token}
use Rattle.heyvl_syntax.specs.declared.tokens.TokenKind.{TokenKind}
use Rattle.std.proofs.Common.{Bool, List, refl, ◌≡◌, ℕ}

abbrev pub Made : {A B : Type 0} → (A → Span → B) → (A → List Token → Type 0) → B → List Token → Type 0
Made {A} h P y text = (x : A) × (y ≡ h x (extent text)) × P x text

pub made_laws : {A B : Type 0} {n : ℕ} {P : A → List Token → Type 0} {s : TokenKind → Bool} {f : List Token → Read A} (h : A → Span → B) → Laws n P s f → Laws n (Made h P) s (spanned h f)
made_laws {P = P} h lf = spanned_laws h (Made h P) lf (λ x text p. (x, refl, p)) (λ y text r. r)

-- The laws carry over to an equivalent production.
pub laws_alike : {A : Type 0} {n : ℕ} {P : A → List Token → Type 0} {s : TokenKind → Bool} {f : List Token → Read A} (Q : A → List Token → Type 0) → Laws n P s f → ((x : A) (text : List Token) → P x text → Q x text) → ((x : A) (text : List Token) → Q x text → P x text) → Laws n Q s f
laws_alike {P = P} Q lf into out = record {
  right = λ ts. right_as P Q ts _ into (lf.right ts);
  local = lf.local;
  complete = λ x text rest q len quiet. lf.complete x text rest (out x text q) len quiet;
}
