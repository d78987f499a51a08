-- Arguments that are not valid, one for each reason, and valid ones beside them.
use Rattle.command_words.specs.LineCounts.{AsksFor, is_line_count}
use Rattle.command_words.specs.Requests.{arguments_of, request_of, words_of}
use Rattle.command_words.specs.Words.{AskFor, IsSettingsStop, IsUsage, is_argument}
use Rattle.command_words.specs.declared.requests.Settings.TheVariants as commands
use Rattle.command_words.specs.declared.requests.Settings.{Settings}
use Rattle.command_words.specs.declared.requests.SettingsStop.TheVariants.{Usage}
use Rattle.std.proofs.Common.{Bool, List, [], ap, arith, codes, decimal, false, get_or, length}
use Rattle.std.proofs.Common.{refl, subst, sym, true, ◌<◌, ◌∷◌, ◌≡◌, ◌^◌, ℕ}
use Rattle.std.proofs.lemmas.Bool.Decides.{nat_tests}
use Rattle.std.proofs.lemmas.Fmt.{first_decimal}
use Rattle.std.specs.Fmt.{digits}
use Rattle.std.specs.List.{list_all}
use Rattle.std.specs.Prelude.{nat_eq}

-- ---- Arguments of a command

-- An argument is neither empty nor begins with `-`.
plain_argument : is_argument (codes "a-b") ≡ true
plain_argument = refl

no_argument : (is_argument [] ≡ false) × (is_argument (codes "-a") ≡ false)
no_argument = (refl, refl)

-- ---- Numbers of lines

-- `1024` asks for 1,024 lines, the most that there may be.
most_lines : AsksFor 1024 (codes "1024")
unfolding digits
most_lines = record { fits = refl; written = refl }

-- `1025` does not ask for 1,025.
too_many_lines : AsksFor 1025 (codes "1025") → ⊥
too_many_lines asks = let e = asks.fits in cc

-- A leading zero is not allowed: `01` asks for no line.
leading_zero : AsksFor 1 (codes "01") → ⊥
unfolding digits
leading_zero asks = let e = asks.written in cc

positive : (n : ℕ) → is_line_count n ≡ true → 0 < n
positive n h = grind (arith, nat_tests)

narrow : (n : ℕ) → is_line_count n ≡ true → n < 2 ^ 64
narrow n h = grind (arith, nat_tests)

-- No number of lines is written `0`.
zero_lines : (n : ℕ) → AsksFor n (codes "0") → ⊥
zero_lines n asks =
    let first = first_decimal n (positive n asks.fits) (narrow n asks.fits) in
    let is : get_or (decimal n) 0 0 ≡ 48 = ap (λ w. get_or w 0 0) (sym asks.written) in
    omega (arith, first, is)

-- ---- Arguments that are not valid

-- There is no argument at all.
no_words : IsUsage []
no_words settings asks = let e = asks.words_are in cc

-- `verify` alone names no file.
abbrev lone : List (List ℕ)
lone = codes "verify" ∷ []

-- A command has at least one argument.
has_argument : (s : Settings) → length (words_of s) ≡ 1 → ⊥
has_argument (commands.Verify f) e = cc
has_argument (commands.Print f) e = cc
has_argument (commands.Run f p s) e = cc
has_argument (commands.Certify f) e = cc
has_argument (commands.Check f c) e = cc
has_argument (commands.Gen n) e = cc
has_argument (commands.Pgcl f) e = cc
has_argument (commands.Omega f p n) e = cc
has_argument (commands.Remainder f p n) e = cc
has_argument (commands.Refute f p s) e = cc

no_file : IsUsage lone
no_file settings asks = has_argument settings (ap length (sym asks.words_are))

-- `help` is no command.
abbrev unknown : List (List ℕ)
unknown = codes "help" ∷ codes "a" ∷ []

-- Whether the first text begins with `h`.
abbrev begins_with_h : List (List ℕ) → Bool
begins_with_h [] = false
begins_with_h ([] ∷ ws) = false
begins_with_h ((b ∷ bs) ∷ ws) = nat_eq b 104

-- No command begins with `h`.
no_h : (s : Settings) → begins_with_h (words_of s) ≡ true → ⊥
no_h (commands.Verify f) e = cc
no_h (commands.Print f) e = cc
no_h (commands.Run f p s) e = cc
no_h (commands.Certify f) e = cc
no_h (commands.Check f c) e = cc
no_h (commands.Gen n) e = cc
no_h (commands.Pgcl f) e = cc
no_h (commands.Omega f p n) e = cc
no_h (commands.Remainder f p n) e = cc
no_h (commands.Refute f p s) e = cc

no_command : IsUsage unknown
no_command settings asks = no_h settings (ap begins_with_h (sym asks.words_are))

-- The second text.
abbrev second : List (List ℕ) → List ℕ
second [] = []
second (w ∷ []) = []
second (w ∷ (v ∷ ws)) = v

-- `-a` is no argument, as it begins with `-`.
abbrev dashed : List (List ℕ)
dashed = codes "verify" ∷ codes "-a" ∷ []

dash_in_front : IsUsage dashed
dash_in_front settings asks = by settings asks.words_are asks.arguments
  where
    by : (s : Settings) → dashed ≡ words_of s → list_all is_argument (arguments_of s) ≡ true → ⊥
    by (commands.Verify f) e h =
        let is : codes "-a" ≡ f = ap second e in
        let no = subst (λ w. list_all is_argument (w ∷ []) ≡ true) (sym is) h in
        cc
    by (commands.Print f) e h = cc
    by (commands.Run f p s) e h = cc
    by (commands.Certify f) e h = cc
    by (commands.Check f c) e h = cc
    by (commands.Gen n) e h = cc
    by (commands.Pgcl f) e h = cc
    by (commands.Omega f p n) e h = cc
    by (commands.Remainder f p n) e h = cc
    by (commands.Refute f p s) e h = cc

-- `gen 0` asks for no lines.
abbrev nothing : List (List ℕ)
nothing = codes "gen" ∷ codes "0" ∷ []

no_lines : IsUsage nothing
no_lines settings asks = by settings asks.words_are asks.fits
  where
    by : (s : Settings) → nothing ≡ words_of s → (request_of s).fits ≡ true → ⊥
    by (commands.Verify f) e h = cc
    by (commands.Print f) e h = cc
    by (commands.Run f p s) e h = cc
    by (commands.Certify f) e h = cc
    by (commands.Check f c) e h = cc
    by (commands.Gen n) e h = zero_lines n (record { fits = h; written = ap second e })
    by (commands.Pgcl f) e h = cc
    by (commands.Omega f p n) e h = cc
    by (commands.Remainder f p n) e h = cc
    by (commands.Refute f p s) e h = cc

-- The arguments yield `Usage`.
usage_is_a_cause : IsSettingsStop nothing Usage
usage_is_a_cause = no_lines

-- ---- Valid arguments

-- `verify a` and `gen 1024` are valid.
verify_asks : AskFor (codes "verify" ∷ codes "a" ∷ []) (commands.Verify (codes "a"))
verify_asks = record { words_are = refl; arguments = refl; fits = refl }

gen_asks : AskFor (codes "gen" ∷ codes "1024" ∷ []) (commands.Gen 1024)
unfolding digits
gen_asks = record { words_are = refl; arguments = refl; fits = refl }

-- So they do not yield `Usage`.
verify_is_valid : IsSettingsStop (codes "verify" ∷ codes "a" ∷ []) Usage → ⊥
verify_is_valid usage = usage (commands.Verify (codes "a")) verify_asks

gen_is_valid : IsUsage (codes "gen" ∷ codes "1024" ∷ []) → ⊥
gen_is_valid usage = usage (commands.Gen 1024) gen_asks
