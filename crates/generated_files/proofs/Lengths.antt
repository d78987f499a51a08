-- The length of generated texts.
use Rattle.generated_files.specs.Laws.{GeneratedTextsAreShort}
use Rattle.generated_files.specs.Texts.{call_line, coin_line, generated_text, line, loop_line}
use Rattle.std.proofs.Common.{Bool, List, arith, codes, false, length, refl, suc, true, zero, ◌%◌, ◌-◌, ◌<◌, ◌==◌, ◌^◌, ◌≡◌, ◌≤◌, ℕ}
use Rattle.std.proofs.lemmas.Fmt.{length-decimal-le}
use Rattle.std.proofs.lemmas.List.{length-append}
use Rattle.std.specs.Fmt.{decimal}
use Rattle.std.specs.Prelude.{if◌then◌else◌}

digits_few : (i : ℕ) → i < 10 ^ 4 → length (decimal i) ≤ 4
digits_few i h = length-decimal-le 4 i (omega arith) h (omega arith)

coin_short : (i : ℕ) (bound : List ℕ) → i < 10 ^ 4 → length bound ≡ 3 → length (coin_line i bound) ≤ 300
coin_short i bound h three = let d = digits_few i h in simp length-append (omega arith)

loop_short : (i : ℕ) → i < 10 ^ 4 → length (loop_line i) ≤ 300
loop_short i h = let d = digits_few i h in simp length-append (omega arith)

call_short : (i : ℕ) → i < 10 ^ 4 → length (call_line i) ≤ 300
call_short i h = let d = digits_few i h in let e = digits_few (i - 2) (omega arith) in simp length-append (omega arith)

choice : (b : Bool) (xs ys : List ℕ) → length xs ≤ 300 → length ys ≤ 300 → length (if b then xs else ys) ≤ 300
choice true xs ys h g = h
choice false xs ys h g = g

line_short : (i : ℕ) → i < 10 ^ 4 → length (line i) ≤ 300
line_short i h =
    choice (i % 4 == 0) _ _ (coin_short i (codes "1/2") h refl)
    (choice (i % 4 == 1) _ _ (loop_short i h) (choice (i % 4 == 2) _ _ (coin_short i (codes "1/3") h refl) (call_short i h)))

pub short : GeneratedTextsAreShort
short zero h = omega arith
short (suc n) h =
    let before = short n (omega arith) in
    let last = line_short n (omega arith) in
    let both = length-append (generated_text n) (line n) in
    omega arith
