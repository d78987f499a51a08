-- A plain reader of scripts: its result is the script that the bytes spell, or their first invalid
-- line.
use Rattle.run_script.proofs.FirstFaults.{fault_at_first, fault_behind}
use Rattle.run_script.proofs.NextLines.{begins, goes_on}
use Rattle.run_script.specs.Lines.{said, text_lines, without_last_feed}
use Rattle.run_script.specs.Scripts.{AreLinesOf, IsFirstFaultOf, Known, Script}
use Rattle.run_script.specs.internal.ReadLines.{begun, gone_on}
use Rattle.std.proofs.Common.{List, None, Option, Some, [], append_assoc, arith, length, length-append, refl, subst, sym, ◌+◌, ◌++◌, ◌<◌, ◌==◌, ◌∙◌, ◌∷◌, ◌≡◌, ℕ}
use Rattle.std.proofs.lemmas.List.{append-nil}
use Rattle.std.proofs.lemmas.List.Splits.{length-slice_split}

-- A script, or the number of the first invalid line.
pub data Reading : Type 0 where
  says : Script → Reading
  stops : ℕ → Reading

abbrev pub or_stop : ℕ → Option Script → (Script → Reading) → Reading
or_stop number None more = Reading.stops number
or_stop number (Some s) more = more s

-- The result of reading `lines` after those of the script `s`. The first of them has the number
-- `number`.
abbrev pub read_behind : Known → ℕ → Script → List (List ℕ) → Reading
read_behind known number s [] = Reading.says s
read_behind known number s (line ∷ more) = or_stop number (gone_on known s (said line)) (λ t. read_behind known (number + 1) t more)

abbrev pub read_lines : Known → List (List ℕ) → Reading
read_lines known [] = Reading.stops 1
read_lines known (line ∷ more) = or_stop 1 (begun (said line)) (λ s. read_behind known 2 s more)

abbrev pub read : Known → List ℕ → Reading
read known bytes = read_lines known (text_lines bytes)

abbrev pub IsRight : Known → List (List ℕ) → Reading → Type 0
IsRight known lines (Reading.says s) = AreLinesOf known s lines
IsRight known lines (Reading.stops n) = IsFirstFaultOf known lines n

behind_right : (known : Known) (lines before more : List (List ℕ)) (number : ℕ) (s : Script) → AreLinesOf known s before → lines ≡ before ++ more → number ≡ length before + 1 → IsRight known lines (read_behind known number s more)
behind_right known lines before [] number s h e place = subst (AreLinesOf known s) (sym (e ∙ append-nil before)) h
behind_right known lines before (line ∷ more) number s h e place = pick (gone_on known s (said line)) refl (λ t k. behind_right known lines (before ++ line ∷ []) more (number + 1) t (goes_on known s t before line h k) (e ∙ sym (append_assoc before (line ∷ []) more)) (omega (arith, place, length-append before (line ∷ []))))
  where
    pick : (o : Option Script) → gone_on known s (said line) ≡ o → ((t : Script) → gone_on known s (said line) ≡ Some t → IsRight known lines (read_behind known (number + 1) t more))
        → IsRight known lines (or_stop number o (λ t. read_behind known (number + 1) t more))
    pick None k rest = fault_behind known s lines before line more number h k e place
    pick (Some t) k rest = rest t k

lines_right : (known : Known) (lines : List (List ℕ)) → 0 < length lines → IsRight known lines (read_lines known lines)
lines_right known [] some = absurd (omega (arith, some))
lines_right known (line ∷ more) some = pick (begun (said line)) refl
  where
    pick : (o : Option Script) → begun (said line) ≡ o → IsRight known (line ∷ more) (or_stop 1 o (λ s. read_behind known 2 s more))
    pick None k = fault_at_first known line more k
    pick (Some s) k = behind_right known (line ∷ more) (line ∷ []) more 2 s (begins known s line k) refl refl

-- The plain reader is right for all bytes.
pub read_right : (known : Known) (bytes : List ℕ) → IsRight known (text_lines bytes) (read known bytes)
read_right known bytes = let some = length-slice_split (λ b. b == 10) (without_last_feed bytes) in lines_right known (text_lines bytes) (omega (arith, some))
