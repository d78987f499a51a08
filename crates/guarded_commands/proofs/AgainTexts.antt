-- Tokens that spell an item again, up to places, production by production.
use Rattle.heyvl_print.proofs.exported.Printables.{printable_append, printable_back, printable_front}
use Rattle.heyvl_print.specs.Printable.{ArePrintable, IsPrintable}
use Rattle.heyvl_print.specs.WithoutPlaces.{no_place}
use Rattle.heyvl_syntax.specs.Grammar.{IsBraced, IsElse}
use Rattle.heyvl_syntax.specs.Productions.{IsKey, IsMark, IsName, IsNothing, IsOne, at, ◌then◌, AreSemis}
use Rattle.heyvl_syntax.specs.Statements.{Block}
use Rattle.heyvl_syntax.specs.declared.keys.Key.TheVariants as keys
use Rattle.heyvl_syntax.specs.declared.keys.Key.{Key}
use Rattle.heyvl_syntax.specs.declared.marks.Mark.TheVariants as marks
use Rattle.heyvl_syntax.specs.declared.marks.Mark.{Mark}
use Rattle.heyvl_syntax.specs.declared.tokens.Token.{Token}
use Rattle.heyvl_syntax.specs.declared.tokens.TokenKind.TheVariants as kinds
use Rattle.heyvl_syntax.specs.declared.tokens.TokenKind.{TokenKind}
use Rattle.std.proofs.Common.{List, [], inl, refl, subst, ◌++◌, ◌∷◌, ◌≡◌, ℕ}

-- Printable tokens of a production.
pub record Has (P : List Token → Type 0) : Type 0 where
  pub text : List Token
  pub is : P text
  pub printable : ArePrintable text

-- An item that differs from `x` only in what `e` drops, and its tokens.
pub record Again {A B : Type 0} (e : A → B) (P : A → List Token → Type 0) (x : A) : Type 0 where
  pub item : A
  pub same : e x ≡ e item
  pub tokens : Has (P item)

pub one : (kind : TokenKind) → IsPrintable kind → Has (IsOne kind)
one kind h = record { text = at kind no_place ∷ []; is = (no_place, refl); printable = (h, tt) }

pub key : (k : Key) → Has (IsKey k)
key k = one (kinds.Key k) tt

pub mark : (m : Mark) → Has (IsMark m)
mark m = one (kinds.Mark m) tt

pub word : (x : List ℕ) → IsPrintable (kinds.Word x) → Has (IsName x)
word x h = one (kinds.Word x) h

pub nothing : Has IsNothing
nothing = record { text = []; is = refl; printable = tt }

pub no_semis : Has AreSemis
no_semis = record { text = []; is = tt; printable = tt }

infixr 30 ◌next◌
pub ◌next◌ : {P Q : List Token → Type 0} → Has P → Has Q → Has (P then Q)
◌next◌ h k = record { text = h.text ++ k.text; is = (h.text, k.text, h.is, k.is, refl); printable = printable_append h.text k.text h.printable k.printable }

pub braced : {P : List Token → Type 0} → Has P → Has (IsBraced P)
braced h = mark marks.BraceLeft next h next mark marks.BraceRight

pub otherwise : {P : List Token → Type 0} (other : Block) → Has P → Has (IsElse other P)
otherwise other h = let t = key keys.Else next h in record { text = t.text; is = inl t.is; printable = t.printable }

-- The tokens of the two parts of a text.
pub front_of : (P Q : List Token → Type 0) (ts : List Token) → (P then Q) ts → ArePrintable ts → Has P
front_of P Q ts h p = record { text = h.0; is = h.2; printable = printable_front ts h.0 h.1 h.4 p }

pub back_of : (P Q : List Token → Type 0) (ts : List Token) → (P then Q) ts → ArePrintable ts → Has Q
back_of P Q ts h p = record { text = h.1; is = h.3; printable = printable_back ts h.0 h.1 h.4 p }

pub name_printable : (x : List ℕ) (ts : List Token) → IsName x ts → ArePrintable ts → IsPrintable (kinds.Word x)
name_printable x ts h p = (subst (λ (z : List Token). ArePrintable z) h.1 p).0
