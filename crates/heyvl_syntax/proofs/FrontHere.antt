-- What bytes begin with, for each result of the code.
use Rattle.heyvl_syntax.proofs.FrontIs.{IsFront, front-is}
use Rattle.heyvl_syntax.specs.internal.Fronts.{found_of, front_of, number_front}
use Rattle.heyvl_syntax.specs.Literals.{is_too_large, literal}
use Rattle.heyvl_syntax.specs.declared.fronts.Front.TheVariants as shapes
use Rattle.heyvl_syntax.specs.declared.fronts.Front.{Front}
use Rattle.heyvl_syntax.specs.declared.literals.Lit.{Lit}
use Rattle.heyvl_syntax.specs.declared.tokens.TokenKind.TheVariants as kinds
use Rattle.heyvl_syntax.specs.internal.Found as fronts
use Rattle.heyvl_syntax.specs.internal.Found.{Found}
use Rattle.std.proofs.Common.{Bool, List, None, Option, Some, cond, false, length, subst, sym, take, true, ◌∙◌, ◌≡◌, ◌≤◌, ℕ}
use Rattle.std.proofs.lemmas.List.{length-take-le}

pub front_here : (bytes : List ℕ) (result front : Front) → found_of bytes result ≡ front_of bytes → result ≡ front → IsFront bytes (found_of bytes front)
front_here bytes result front value is =
    subst (λ (f : Front). IsFront bytes (found_of bytes f)) is (subst (λ (f : Found). IsFront bytes f) (sym value) (front-is bytes))

pub word_here : (bytes name : List ℕ) (n : ℕ) → n ≤ length bytes → name ≡ take n bytes → IsFront bytes (found_of bytes (shapes.Word n)) → IsFront bytes (fronts.Token (kinds.Word name) n)
word_here bytes name n within same front =
    let len : length (take n bytes) ≡ n = length-take-le n bytes within in
    subst (λ (m : ℕ). IsFront bytes (fronts.Token (kinds.Word name) m)) len (subst (λ (z : List ℕ). IsFront bytes (fronts.Token (kinds.Word z) (length (take n bytes)))) (sym same) front)

literal_here : (bytes text : List ℕ) (lit : Lit) (large : Bool) → cond large None (Some (literal text)) ≡ Some lit → IsFront bytes (cond large (fronts.Fault 3 (length text)) (fronts.Token (kinds.Number (literal text)) (length text))) → IsFront bytes (fronts.Token (kinds.Number lit) (length text))
literal_here bytes text lit true e front = absurd (cc)
literal_here bytes text lit false e front =
    let same : literal text ≡ lit = cc in
    subst (λ (l : Lit). IsFront bytes (fronts.Token (kinds.Number l) (length text))) same front

large_here : (bytes text : List ℕ) (large : Bool) → cond large None (Some (literal text)) ≡ None → IsFront bytes (cond large (fronts.Fault 3 (length text)) (fronts.Token (kinds.Number (literal text)) (length text))) → IsFront bytes (fronts.Fault 3 (length text))
large_here bytes text true e front = front
large_here bytes text false e front = absurd (cc)

pub number_here : (bytes text : List ℕ) (lit : Lit) (n : ℕ) (found : Option Lit) → n ≤ length bytes → text ≡ take n bytes → found ≡ cond (is_too_large text) None (Some (literal text)) → found ≡ Some lit → IsFront bytes (found_of bytes (shapes.Number n)) → IsFront bytes (fronts.Token (kinds.Number lit) n)
number_here bytes text lit n found within is value some front =
    let at_text : IsFront bytes (number_front text) = subst (λ (z : List ℕ). IsFront bytes (number_front z)) (sym is) front in
    let len : length text ≡ n = subst (λ (z : List ℕ). length z ≡ n) (sym is) (length-take-le n bytes within) in
    subst (λ (m : ℕ). IsFront bytes (fronts.Token (kinds.Number lit) m)) len (literal_here bytes text lit (is_too_large text) (sym value ∙ some) at_text)

pub too_large_here : (bytes text : List ℕ) (n : ℕ) (found : Option Lit) → n ≤ length bytes → text ≡ take n bytes → found ≡ cond (is_too_large text) None (Some (literal text)) → found ≡ None → IsFront bytes (found_of bytes (shapes.Number n)) → IsFront bytes (fronts.Fault 3 n)
too_large_here bytes text n found within is value none front =
    let at_text : IsFront bytes (number_front text) = subst (λ (z : List ℕ). IsFront bytes (number_front z)) (sym is) front in
    let len : length text ≡ n = subst (λ (z : List ℕ). length z ≡ n) (sym is) (length-take-le n bytes within) in
    subst (λ (m : ℕ). IsFront bytes (fronts.Fault 3 m)) len (large_here bytes text (is_too_large text) (sym value ∙ none) at_text)
