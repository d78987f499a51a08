-- The result of reading the first line of a text.
use Rattle.std.specs.Prelude.{◌≡◌, ◌≢◌, ℕ, All, List, ◌∷◌, ◌++◌, Some, None}
use Rattle.cert_text.specs.Lines.{Line, line_text}
use Rattle.cert_text.specs.internal.ReadStates.{State, next}
use Rattle.cert_text.specs.internal.WholeLines.{IsLine}

-- The first line of `rest` leads from the state `s` to `s'`, and `behind` is the text after it.
pub record IsStep (s s' : State) (rest behind : List ℕ) : Type 0 where
  pub line : Line
  pub valid : IsLine line
  pub parts : rest ≡ line_text line ++ 10 ∷ behind
  pub step : next s line ≡ Some s'
  pub only : (k : Line) → IsLine k → line_text line ≡ line_text k → k ≡ line

-- No line feed ends the first line of `rest`, or this line is not allowed in the state `s`.
pub data IsStuck (s s' : State) (rest : List ℕ) : Type 0 where
  unclosed : All (λ b. b ≢ 10) rest → s' ≡ s → IsStuck s s' rest
  refused : (word behind : List ℕ) → All (λ b. b ≢ 10) word → rest ≡ word ++ 10 ∷ behind
      → ((l : Line) → IsLine l → word ≡ line_text l → next s l ≡ None) → IsStuck s s' rest
