-- The history after one more read.
use Rattle.std.proofs.Common.{◌≡◌, ℕ, ◌+◌, ◌≤◌, List, [], ◌∷◌, ◌++◌, length, take, ap, ◌∙◌, arith, length-append}
use Rattle.std.proofs.lemmas.List.{append-nil, length-take}
use Rattle.heyvl_io.specs.History.{History, handed_out, since_start, with_bytes, IsTaken}
use Rattle.heyvl_io.proofs.exported.Histories.{length-since_start, more_taken}

pub none_more : (old between new : History) (name before buffer : List ℕ) → between ≡ old ++ handed_out name before ∷ [] → new ≡ with_bytes between (take 0 buffer) → new ≡ old ++ handed_out name before ∷ []
none_more old between new name before buffer e f = more_taken old between new name before [] e f ∙ ap (λ bytes. old ++ handed_out name bytes ∷ []) (append-nil before)

pub taken_more : (old between new : History) (name before buffer : List ℕ) (count most : ℕ) → between ≡ old ++ handed_out name before ∷ [] → new ≡ with_bytes between (take count buffer) → length before + count ≤ most → IsTaken old new name most
taken_more old between new name before buffer count most e f few = record {
  bytes = before ++ take count buffer;
  one = more_taken old between new name before (take count buffer) e f;
  few = omega (arith, length-append before (take count buffer), length-take count buffer);
}

pub length-more : (old between new : History) (name before buffer : List ℕ) (count : ℕ) → between ≡ old ++ handed_out name before ∷ [] → new ≡ with_bytes between (take count buffer) → count ≤ length buffer
    → length (since_start new) ≡ length before + count
length-more old between new name before buffer count e f fits =
    let all = length-since_start old new name (before ++ take count buffer) (more_taken old between new name before (take count buffer) e f) in
    omega (arith, all, fits, length-append before (take count buffer), length-take count buffer)
