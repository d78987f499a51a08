-- An `ite`, read as three expressions with the symbols that close them.
use Rattle.heyvl_parse.specs.readers.ReadParts.{Bad, Got, Out, Read, Reader, Whole, choice, choice_tree, enclosed, expect, mapped, pair, ◌>>=◌}
use Rattle.heyvl_places.specs.declared.spans.Span.{Span}
use Rattle.heyvl_syntax.specs.Expressions.{Expression}
use Rattle.heyvl_syntax.specs.declared.marks.Mark.TheVariants as marks
use Rattle.heyvl_syntax.specs.declared.tokens.Token.{Token}
use Rattle.std.proofs.Common.{List, refl, ◌∙◌, ◌≡◌}

abbrev tied : {A B : Type 0} → A → Read B → Read (A × B)
tied a m = m >>= λ y r. Got (a, y) r

behind_comma : {C D : Type 0} (self : Reader) (h : Expression × (Span × C) → D) (g : List Token → Read C) (ts : List Token) → mapped h (pair (self Whole) (pair (expect marks.Comma) g)) ts ≡ (enclosed self marks.Comma ts >>= λ a r. mapped (λ y. h (a.0, (a.1, y))) g r)
behind_comma {C} {D} self h g ts = first (self Whole ts)
  where
    last : (a : Expression) (s : Span) (m : Read C) → (tied a (tied s m) >>= λ p r. Got (h p) r) ≡ (m >>= λ y r. Got (h (a, (s, y))) r)
    last a s (Got y r) = refl
    last a s (Bad r) = refl
    last a s Out = refl

    second : (a : Expression) (m : Read Span) → (tied a (m >>= λ s r. tied s (g r)) >>= λ p r. Got (h p) r) ≡ (tied a m >>= λ b r. mapped (λ y. h (b.0, (b.1, y))) g r)
    second a (Got s r) = last a s (g r)
    second a (Bad r) = refl
    second a Out = refl

    first : (m : Read Expression) → ((m >>= λ a r. tied a (pair (expect marks.Comma) g r)) >>= λ p r. Got (h p) r) ≡ ((m >>= λ a r. tied a (expect marks.Comma r)) >>= λ b r. mapped (λ y. h (b.0, (b.1, y))) g r)
    first (Got a r) = second a (expect marks.Comma r)
    first (Bad r) = refl
    first Out = refl

abbrev pub closed_choice : Reader → Span → List Token → Read Expression
closed_choice self place ts =
    expect marks.ParenLeft ts >>= λ front r.
    enclosed self marks.Comma r >>= λ a r1.
    enclosed self marks.Comma r1 >>= λ b r2.
    enclosed self marks.ParenRight r2 >>= λ c r3. Got (choice_tree place (front, (a.0, (a.1, (b.0, (b.1, c)))))) r3

pub choice_is : (self : Reader) (place : Span) (ts : List Token) → choice self place ts ≡ closed_choice self place ts
choice_is self place ts = opened (expect marks.ParenLeft ts)
  where
    parts : List Token → Read (Expression × (Span × (Expression × (Span × (Expression × Span)))))
    parts r = pair (self Whole) (pair (expect marks.Comma) (pair (self Whole) (pair (expect marks.Comma) (enclosed self marks.ParenRight)))) r

    moved : (front : Span) (m : Read (Expression × (Span × (Expression × (Span × (Expression × Span)))))) → (tied front m >>= λ p r. Got (choice_tree place p) r) ≡ (m >>= λ y r. Got (choice_tree place (front, y)) r)
    moved front (Got y r) = refl
    moved front (Bad r) = refl
    moved front Out = refl

    behind : (front : Span) (m : Read (Expression × Span)) → (m >>= λ a r. mapped (λ y. choice_tree place (front, (a.0, (a.1, y)))) (pair (self Whole) (pair (expect marks.Comma) (enclosed self marks.ParenRight))) r) ≡ (m >>= λ a r. enclosed self marks.Comma r >>= λ b r2. enclosed self marks.ParenRight r2 >>= λ c r3. Got (choice_tree place (front, (a.0, (a.1, (b.0, (b.1, c)))))) r3)
    behind front (Got a r) = behind_comma self (λ y. choice_tree place (front, (a.0, (a.1, y)))) (enclosed self marks.ParenRight) r
    behind front (Bad r) = refl
    behind front Out = refl

    opened : (m : Read Span) → ((m >>= λ front r. tied front (parts r)) >>= λ p r. Got (choice_tree place p) r) ≡ (m >>= λ front r. enclosed self marks.Comma r >>= λ a r1. enclosed self marks.Comma r1 >>= λ b r2. enclosed self marks.ParenRight r2 >>= λ c r3. Got (choice_tree place (front, (a.0, (a.1, (b.0, (b.1, c)))))) r3)
    opened (Got front r) =
        moved front (parts r)
        ∙ behind_comma self (λ y. choice_tree place (front, y)) (pair (self Whole) (pair (expect marks.Comma) (enclosed self marks.ParenRight))) r
        ∙ behind front (enclosed self marks.Comma r)
    opened (Bad r) = refl
    opened Out = refl
