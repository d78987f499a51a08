-- Fuel above the number of tokens.
use Rattle.heyvl_parse.specs.readers.ReadParts.{Reader, full, more, ◌>>=◌}
use Rattle.heyvl_syntax.specs.declared.tokens.Token.{Token}
use Rattle.std.proofs.Common.{List, arith, refl, suc, zero, ◌-◌, ◌<◌, ◌≡◌, ◌≤◌, ℕ}

pub by_fuel : (P : ℕ → Type 0) (len : ℕ) → ((m : ℕ) → len ≤ m → P (suc m)) → (n : ℕ) → len < n → P n
by_fuel P len f zero h = absurd (omega arith)
by_fuel P len f (suc m) h = f m (omega arith)

pub full_above : (self : Reader) (k : ℕ) (ts : List Token) → 0 < k → full self k ts ≡ (full self (k - 1) ts >>= more self k)
full_above self zero ts h = absurd (omega arith)
full_above self (suc k) ts h = rw (let e : suc k - 1 ≡ k = omega arith in e) refl
