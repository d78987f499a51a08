-- Texts that are written in parts.
use Rattle.std.proofs.Common.{append_assoc, ap, List, ℕ, ◌++◌, ◌∙◌, ◌≡◌}

pub two_parts : (t t₁ t₂ a b : List ℕ) → t₁ ≡ t ++ a → t₂ ≡ t₁ ++ b → t₂ ≡ t ++ (a ++ b)
two_parts t t₁ t₂ a b h i = i ∙ (ap (λ x. x ++ b) h ∙ append_assoc t a b)

pub three_parts : (t t₁ t₂ t₃ a b d : List ℕ) → t₁ ≡ t ++ a → t₂ ≡ t₁ ++ b → t₃ ≡ t₂ ++ d → t₃ ≡ t ++ (a ++ (b ++ d))
three_parts t t₁ t₂ t₃ a b d h i j = two_parts t t₁ t₃ a (b ++ d) h (two_parts t₁ t₂ t₃ b d i j)
