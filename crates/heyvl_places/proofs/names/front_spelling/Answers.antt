use Rattle.heyvl_places.proofs.names.front_spelling.Goals as goal
use Rattle.std.proofs.Common.{List, min, take, ◌≡◌, ◌≤◌, ℕ}
use Rattle.std.proofs.Math.Nat.{min-eq_left}
use Rattle.std.proofs.lemmas.List.{take-take}

kept : (bytes array : List ℕ) (n : ℕ) → n ≤ 22 → array ≡ take 22 bytes → take (min n 22) array ≡ take n bytes
kept bytes array n short same =
    let all : min n 22 ≡ n = min-eq_left short in
    rw (all, same) (take-take n 22 bytes short)

pub returns-in-Some : goal.returns-in-Some
returns-in-Some c = kept c.args.bytes.now c.in-Some.kept.now c.args.n c.requires.short c.in-Some.ensures.cases.same
