-- The command that `gen` and its argument ask for.
use Rattle.clap.specs.Words.{Row, Text, first_of}
use Rattle.command_words.specs.LineCounts.{is_line_count}
use Rattle.command_words.specs.Requests.{request_of}
use Rattle.command_words.specs.declared.requests.Settings.TheVariants.{Certify, Check, Gen, Omega, Pgcl, Print, Refute, Remainder, Run, Verify}
use Rattle.command_words.specs.declared.requests.Settings.{Settings}
use Rattle.command_words.specs.declared.requests.SettingsStop.TheVariants.{Memory, Usage}
use Rattle.command_words.specs.declared.requests.SettingsStop.{SettingsStop}
use Rattle.command_line.specs.internal.Met.{IsFound, IsGenRead, IsMemory}
use Rattle.std.proofs.Common.{Bool, Err, List, MatchResult, None, Ok, Option, Result, Some, [], ap, arith, codes, decimal, false, refl, sym, true, ◌<◌, ◌^◌, ◌∙◌, ◌∷◌, ◌≡◌, ℕ}
use Rattle.std.proofs.lemmas.Bool.Decides.{nat_tests}
use Rattle.std.proofs.lemmas.Fmt.{decimal_injective}
use Rattle.std.proofs.lemmas.Slice.Eq.{bytes_eq-Decides}
use Rattle.std.specs.Str.{bytes_eq}

few_lines : (n : ℕ) → is_line_count n ≡ true → n < 2 ^ 64
few_lines n h = grind (arith, nat_tests)

opposite : (b : Bool) → b ≡ true → b ≡ false → ⊥
opposite b h g = cc

differ : (word : Text) → bytes_eq (codes "gen") word ≡ false → codes "gen" ≡ word → ⊥
differ word other same = opposite (bytes_eq (codes "gen") word) ((bytes_eq-Decides (codes "gen") word).1 same) other

abbrev name_of : Option (Text × List (Option Text)) → Text
name_of None = []
name_of (Some met) = met.0

abbrev front : List (Option Text) → Option Text
front [] = None
front (o ∷ os) = o

abbrev value_of : Option (Text × List (Option Text)) → Option Text
value_of None = None
value_of (Some met) = front met.1

read_is : (n : ℕ) (word : Text) (r : Result Settings SettingsStop) → is_line_count n ≡ true → word ≡ decimal n → IsGenRead word r → MatchResult r (λ found. found ≡ Gen n) (λ stop. IsMemory stop)
read_is n word (Ok (Gen m)) fits is asks = ap Gen (decimal_injective m n (few_lines m asks.fits) (few_lines n fits) (sym asks.written ∙ is))
read_is n word (Ok (Verify f)) fits is read = absurd read
read_is n word (Ok (Print f)) fits is read = absurd read
read_is n word (Ok (Run f p s)) fits is read = absurd read
read_is n word (Ok (Certify f)) fits is read = absurd read
read_is n word (Ok (Check f c)) fits is read = absurd read
read_is n word (Ok (Pgcl f)) fits is read = absurd read
read_is n word (Ok (Omega f p q)) fits is read = absurd read
read_is n word (Ok (Remainder f p q)) fits is read = absurd read
read_is n word (Ok (Refute f p s)) fits is read = absurd read
read_is n word (Err Usage) fits is read = absurd (read n (record { fits = fits; written = is }))
read_is n word (Err (Memory error)) fits is read = tt

pub gen_met : (rows : List Row) (word : Text) (r : Result Settings SettingsStop) → ((text : Text) → first_of (codes "N") rows ≡ Some text → word ≡ text) → IsGenRead word r →
    (s : Settings) → (request_of s).fits ≡ true → IsFound s (Some (codes "gen", rows)) → MatchResult r (λ found. found ≡ s) (λ stop. IsMemory stop)
gen_met rows word r value read (Verify f) fits found = absurd (differ (codes "verify") refl (ap name_of found))
gen_met rows word r value read (Print f) fits found = absurd (differ (codes "print") refl (ap name_of found))
gen_met rows word r value read (Run f p s) fits found = absurd (differ (codes "run") refl (ap name_of found))
gen_met rows word r value read (Certify f) fits found = absurd (differ (codes "certify") refl (ap name_of found))
gen_met rows word r value read (Check f c) fits found = absurd (differ (codes "check") refl (ap name_of found))
gen_met rows word r value read (Pgcl f) fits found = absurd (differ (codes "pgcl") refl (ap name_of found))
gen_met rows word r value read (Omega f p q) fits found = absurd (differ (codes "omega") refl (ap name_of found))
gen_met rows word r value read (Remainder f p q) fits found = absurd (differ (codes "remainder") refl (ap name_of found))
gen_met rows word r value read (Refute f p s) fits found = absurd (differ (codes "refute") refl (ap name_of found))
gen_met rows word r value read (Gen n) fits found = read_is n word r fits (value (decimal n) (ap value_of found)) read
