-- Laws of the texts of scripts. This project's own.
use Rattle.run_script.specs.Scripts.{IsFirstFault, Known, Script, Spells}
use Rattle.std.specs.Prelude.{List, ◌≡◌, ℕ}

-- Bytes spell one script at most.
abbrev pub ScriptsAreUnique : Type 0
ScriptsAreUnique = (known : Known) (s t : Script) (bytes : List ℕ) → Spells known s bytes
    → Spells known t bytes → s ≡ t

-- Bytes have one first invalid line at most.
abbrev pub FaultsAreUnique : Type 0
FaultsAreUnique = (known : Known) (bytes : List ℕ) (m n : ℕ) → IsFirstFault known bytes m
    → IsFirstFault known bytes n → m ≡ n

-- Bytes that spell a script have no invalid line.
abbrev pub ScriptsHaveNoFault : Type 0
ScriptsHaveNoFault = (known : Known) (s : Script) (bytes : List ℕ) (n : ℕ) → Spells known s bytes
    → IsFirstFault known bytes n → ⊥
