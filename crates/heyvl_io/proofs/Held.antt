-- The bytes of a name, by the place of its file.
use Rattle.std.proofs.Common.{◌≡◌, ℕ, true, false, cond, nat_lt, List, [], length, Some, None, option_map, ⊎_elim, sym, ◌∙◌, ap, arith}
use Rattle.std.proofs.lemmas.Bool.Decides.{nat_tests}
use Rattle.std.proofs.lemmas.List.Folds.{find_at}
use Rattle.std.proofs.lemmas.Option.{slice_get_cases}
use Rattle.std.specs.List.{position, position_or_len}
use Rattle.std.specs.Option.{option_map_or}
use Rattle.heyvl_io.specs.Files.{File, is_named, held_bytes, started_bytes}

pub held_at : (files : List File) (name : List ℕ) → held_bytes files name ≡ option_map (λ place. started_bytes files (Some place)) (position (is_named name) files)
held_at files name =
    let at = position_or_len (is_named name) files in
    let found = find_at (is_named name) files in
    let bytes : File → List ℕ = λ file. file.1.items in
    let started : ℕ → List ℕ = λ place. started_bytes files (Some place) in
    ⊎_elim
    (λ within.
    let lt : nat_lt at (length files) ≡ true = grind (arith, nat_tests, within.1) in
    ap (option_map bytes) (found ∙ within.2) ∙ sym (ap (λ b. option_map started (cond b (Some at) None)) lt ∙ ap (λ file. Some (option_map_or bytes file [])) within.2))
    (λ past.
    let ge : nat_lt at (length files) ≡ false = grind (arith, nat_tests, past.0) in
    ap (option_map bytes) (found ∙ past.1) ∙ sym (ap (λ b. option_map started (cond b (Some at) None)) ge))
    (slice_get_cases files at).1
