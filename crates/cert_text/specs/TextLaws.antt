-- Laws of the texts of certificates. This project's own.
use Rattle.std.specs.Prelude.{◌≡◌, ℕ, List}
use Rattle.cert_text.specs.Certificates.{Certificate}
use Rattle.cert_text.specs.Texts.{IsFirstFault, Spells}

-- Bytes spell one list of certificates at most.
abbrev pub TextsAreUnique : Type 0
TextsAreUnique = (cs ds : List Certificate) (bytes : List ℕ) → Spells cs bytes → Spells ds bytes
    → cs ≡ ds

-- Bytes have one first invalid line at most.
abbrev pub FaultsAreUnique : Type 0
FaultsAreUnique = (bytes : List ℕ) (m n : ℕ) → IsFirstFault bytes m → IsFirstFault bytes n → m ≡ n
