-- Procedures by number.
use Rattle.std.proofs.Common.{◌≡◌, ℕ, ◌<◌, ◌≤◌, refl, ap, sym, arith, List, [], ◌∷◌, length, map, get_or}
use Prim.Native.Nat.{zero, suc}
use Rattle.heyvl_acts.specs.Acts.{nobody, procedure_at}
use Rattle.heyvl_acts.specs.PlainActs.{procedure_of}
use Rattle.heyvl_acts.specs.declared.typed_trees.TProc.{TProc}

pub found_at : (xs : List TProc) (p : ℕ) (x : TProc) → p < length xs → x ≡ get_or xs p x → procedure_at (map procedure_of xs) p ≡ procedure_of x
found_at [] p x lt is = absurd (omega (arith, lt))
found_at (y ∷ xs) zero x lt is = ap procedure_of (sym is)
found_at (y ∷ xs) (suc p) x lt is = found_at xs p x (omega (arith, lt)) is

pub past_all : (xs : List TProc) (p : ℕ) → length xs ≤ p → procedure_at (map procedure_of xs) p ≡ nobody
past_all [] p over = refl
past_all (y ∷ xs) zero over = absurd (omega (arith, over))
past_all (y ∷ xs) (suc p) over = past_all xs p (omega (arith, over))
