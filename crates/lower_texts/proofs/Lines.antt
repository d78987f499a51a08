-- Lines that are written in parts.
use Rattle.std.proofs.Common.{List, append_assoc, codes, ◌++◌, ◌≡◌, ℕ}

pub step_begun : (name what step t0 t1 t2 t3 t4 t5 : List ℕ) → t0 ≡ name → t1 ≡ t0 ++ codes ": omega: " → t2 ≡ t1 ++ what → t3 ≡ t2 ++ codes " (" → t4 ≡ t3 ++ step → t5 ≡ t4 ++ codes "): "
    → t5 ≡ name ++ codes ": omega: " ++ what ++ codes " (" ++ step ++ codes "): "
step_begun name what step t0 t1 t2 t3 t4 t5 p q r s u v = rw (v, u, s, r, q, p) (simp append_assoc)

pub step_told : (name what step why t1 t2 t3 : List ℕ) → t1 ≡ name ++ codes ": omega: " ++ what ++ codes " (" ++ step ++ codes "): " → t2 ≡ t1 ++ why → t3 ≡ t2 ++ codes "\n"
    → t3 ≡ name ++ codes ": omega: " ++ what ++ codes " (" ++ step ++ codes "): " ++ why ++ codes "\n"
step_told name what step why t1 t2 t3 p q r = rw (r, q, p) (simp append_assoc)

pub remainder_told : (name what why t1 t2 t3 : List ℕ) → t1 ≡ name ++ codes ": remainder: " ++ what → t2 ≡ t1 ++ why → t3 ≡ t2 ++ codes "\n"
    → t3 ≡ name ++ codes ": remainder: " ++ (what ++ why) ++ codes "\n"
remainder_told name what why t1 t2 t3 p q r = rw (r, q, p) (simp append_assoc)

pub bound_told : (name other step t1 t2 t3 t4 t5 : List ℕ) → t1 ≡ name ++ codes ": remainder: " ++ codes "pre of " → t2 ≡ t1 ++ other → t3 ≡ t2 ++ codes " over " → t4 ≡ t3 ++ step → t5 ≡ t4 ++ codes " * m\n"
    → t5 ≡ name ++ codes ": remainder: " ++ (codes "pre of " ++ other ++ codes " over " ++ step ++ codes " * m") ++ codes "\n"
bound_told name other step t1 t2 t3 t4 t5 p q r s u = rw (u, s, r, q, p) (simp append_assoc)
