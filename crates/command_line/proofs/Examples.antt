-- What `clap` takes by the definition of the tool, and what it refuses, at small argument lists;
-- and what the argument of `gen` is read as.
use Rattle.clap.proofs.OnLiterals.{clap_on_literals}
use Rattle.clap.specs.Words.{Text, subcommand_of, takes}
use Rattle.command_line.specs.internal.CommandLine.{tool}
use Rattle.command_line.specs.internal.Met.{IsFound, IsGenFound, IsGenRead, IsMemory}
use Rattle.command_words.specs.declared.requests.Settings.TheVariants.{Gen, Verify}
use Rattle.command_words.specs.declared.requests.SettingsStop.TheVariants.{Usage}
use Rattle.std.proofs.Common.{Err, List, None, Ok, Option, Some, [], ap, codes, false, refl}
use Rattle.std.proofs.Common.{true, ◌∷◌, ◌≡◌}
use Rattle.std.specs.Fmt.{digits}

-- `verify a` is taken.
takes_file : takes tool (codes "verify" ∷ codes "a" ∷ []) ≡ true
unfolding clap_on_literals
takes_file = refl

-- No argument, a command without its file, and a command with one more file are refused.
refuses_others :
    (takes tool [] ≡ false)
    × (takes tool (codes "verify" ∷ []) ≡ false)
    × (takes tool (codes "verify" ∷ codes "a" ∷ codes "b" ∷ []) ≡ false)
    × (takes tool (codes "help" ∷ codes "a" ∷ []) ≡ false)
unfolding clap_on_literals
refuses_others = (refl, refl, refl, refl)

-- `verify a` is found to ask for the verdicts on `a`, and not on `aa`.
finds_verify : IsFound (Verify (codes "a")) (subcommand_of tool (codes "verify" ∷ codes "a" ∷ []))
unfolding clap_on_literals
finds_verify = refl

-- The first value that was found.
abbrev first_value : List (Option Text) → Text
first_value [] = []
first_value (None ∷ values) = []
first_value (Some value ∷ values) = value

abbrev value_of : Option (Text × List (Option Text)) → Text
value_of None = []
value_of (Some met) = first_value met.1

a_is_not_aa : codes "a" ≡ codes "aa" → ⊥
a_is_not_aa e = cc

finds_no_other :
    IsFound (Verify (codes "aa")) (subcommand_of tool (codes "verify" ∷ codes "a" ∷ [])) → ⊥
unfolding clap_on_literals
finds_no_other found = a_is_not_aa (ap value_of found)

-- The argument of `gen 7` is `7`.
finds_gen : IsGenFound (codes "7") (subcommand_of tool (codes "gen" ∷ codes "7" ∷ []))
unfolding clap_on_literals
finds_gen = refl

-- It is read as seven lines.
reads_seven : IsGenRead (codes "7") (Ok (Gen 7))
unfolding digits
reads_seven = record { fits = refl; written = refl }

-- It is not refused.
refuses_no_seven : IsGenRead (codes "7") (Err Usage) → ⊥
refuses_no_seven refused = refused 7 reads_seven

-- Invalid arguments are not an error of memory.
usage_is_not_memory : IsMemory Usage → ⊥
usage_is_not_memory h = h
