-- For the proofs of other crates: lengths of acts one after the other, of the block that an `if`
-- takes, and of the blocks of a pick.
use Rattle.std.proofs.Common.{◌≡◌, ◌≤◌, ◌<◌, ◌+◌, ℕ, arith, Bool, true, false, cond, leb, ◌⊎◌, inl, inr}
use Rattle.std.proofs.lemmas.Bool.Decides.{leb_tells}
use Rattle.heylo_formula.specs.State.{Env}
use Rattle.heylo_formula.specs.Choices.{Choices}
use Rattle.heylo_formula.specs.Meaning.{holds}
use Rattle.heyvl_acts.specs.Acts.{Acts, Arms, join}
use Rattle.heyvl_acts.specs.Length.{longer, length_of, longest}
use Rattle.heyvl_acts.specs.Matching.{taken}

pub length_join : (a b : Acts) → length_of (join a b) ≡ length_of a + length_of b
length_join Acts.done b = omega arith
length_join (Acts.next a rest) b = let h = length_join rest b in omega (arith, h)

pub longer_left : (m n : ℕ) → m ≤ longer m n
longer_left m n = go (leb_tells m n)
  where
    go : ((leb m n ≡ true) × (m ≤ n)) ⊎ ((leb m n ≡ false) × (n < m)) → m ≤ longer m n
    go (inl e) = rw e.0 e.1
    go (inr e) = rw e.0 (omega arith)

pub longer_right : (m n : ℕ) → n ≤ longer m n
longer_right m n = go (leb_tells m n)
  where
    go : ((leb m n ≡ true) × (m ≤ n)) ⊎ ((leb m n ≡ false) × (n < m)) → n ≤ longer m n
    go (inl e) = rw e.0 (omega arith)
    go (inr e) = rw e.0 (omega (arith, e.1))

pub taken_length : (arms : Arms) (e : Acts) (s : Env) → length_of (taken arms e s) ≤ longer (longest arms) (length_of e)
taken_length Arms.no_arm e s = longer_right 0 (length_of e)
taken_length (Arms.arm g b more) e s = go (holds g s Choices.stop) (taken_length more e s)
  where
    first : length_of b ≤ longer (longer (length_of b) (longest more)) (length_of e)
    first = let i = longer_left (length_of b) (longest more) in let j = longer_left (longer (length_of b) (longest more)) (length_of e) in omega (arith, i, j)

    second : (m n k : ℕ) → n ≤ longer m k → n ≤ longer (longer (length_of b) m) k
    second m n k h = go (leb_tells m k)
      where
        go : ((leb m k ≡ true) × (m ≤ k)) ⊎ ((leb m k ≡ false) × (k < m)) → n ≤ longer (longer (length_of b) m) k
        go (inl e) = let l = rw e.0 at h in let i = longer_right (longer (length_of b) m) k in omega (arith, l, i)
        go (inr e) = let l = rw e.0 at h in let i = longer_right (length_of b) m in let j = longer_left (longer (length_of b) m) k in omega (arith, l, i, j)

    go : (t : Bool) → length_of (taken more e s) ≤ longer (longest more) (length_of e) → length_of (cond t b (taken more e s)) ≤ longer (longer (length_of b) (longest more)) (length_of e)
    go true h = first
    go false h = second (longest more) _ (length_of e) h

pub pick_lengths : (a b : Acts) (t : Bool) → length_of (cond t a b) ≤ longer (length_of a) (length_of b)
pick_lengths a b true = longer_left (length_of a) (length_of b)
pick_lengths a b false = longer_right (length_of a) (length_of b)
