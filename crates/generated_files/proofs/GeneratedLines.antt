-- The facts about each generated line.
use Rattle.generated_files.proofs.Findings.{call_clean, coin_half_clean, coin_third_clean, counter, loop_clean, loop_signature}
use Rattle.generated_files.proofs.Lines.{call_flows, call_pieces, call_text, coin_half, coin_half_flows, coin_pieces, coin_third, coin_third_flows, loop_flows, loop_pieces, loop_text, three, three_short, two, two_short}
use Rattle.generated_files.proofs.Loads.{counts_behind, heads, is_light}
use Rattle.generated_files.proofs.Names.{name_plain}
use Rattle.generated_files.proofs.Pieces.{Piece, Splits, bytes, flows, kinds_of, splits_pieces}
use Rattle.generated_files.proofs.SpelledFiles.{call_spelled, coin_spelled, loop_spelled}
use Rattle.generated_files.proofs.Spread.{Spots, spread}
use Rattle.generated_files.proofs.Trees.{call, coin, loop, whole}
use Rattle.generated_files.specs.Texts.{call_line, coin_line, line, loop_line, name}
use Rattle.heyvl_syntax.specs.Grammar.{IsProc}
use Rattle.heyvl_syntax.specs.Procedures.{Procedure}
use Rattle.heyvl_syntax.specs.declared.tokens.TokenKind.{TokenKind}
use Rattle.static_rules.specs.Files.{procedure_findings}
use Rattle.std.proofs.Common.{Bool, List, Some, [], arith, codes, false, refl, subst, true, ◌%◌, ◌++◌, ◌-◌, ◌<◌, ◌==◌, ◌^◌, ◌∷◌, ◌≡◌, ℕ}
use Rattle.std.proofs.lemmas.Bool.Decides.{nat_tests}
use Rattle.std.specs.Prelude.{if◌then◌else◌}
use Rattle.typed_expressions.specs.Signatures.{Called, find_call, signature}

-- A call on line `i` finds the loop two lines before.
abbrev pub Answers : Called → ℕ → Type 0
Answers called i = i % 4 ≡ 3 → find_call called (name (i - 2)) ≡ Some (counter (i - 2))

-- The lexer splits line `i` into tokens of these kinds, whose load is small and which begin one
-- procedure. At any places they spell a tree without findings.
pub record Line (i : ℕ) (text : List ℕ) : Type 0 where
  pub kinds : List TokenKind
  pub splits : (rest : List ℕ) (expected : List TokenKind) → Splits rest expected → Splits (text ++ rest) (kinds ++ expected)
  pub light : is_light (0 ∷ []) kinds ≡ true
  pub back : counts_behind (0 ∷ []) kinds ≡ 0 ∷ []
  pub head : heads kinds ≡ 1
  pub tree : Spots → Procedure
  pub spelled : (s : Spots) → IsProc (tree s) (spread s kinds)
  pub named : (s : Spots) → (tree s).name ≡ name i
  pub clean : (called : Called) (s : Spots) → Answers called i → procedure_findings called false (tree s) ≡ []
  pub signed : (n : ℕ) (s : Spots) → i % 4 ≡ 1 → signature n (tree s) ≡ counter n

splits_line : (text : List ℕ) (ps : List Piece) → ((rest : List ℕ) → bytes ps rest ≡ text ++ rest) → ((rest : List ℕ) → flows ps rest ≡ true) →
    (rest : List ℕ) (expected : List TokenKind) → Splits rest expected → Splits (text ++ rest) (kinds_of ps ++ expected)
splits_line text ps same flow rest expected more = subst (λ (z : List ℕ). Splits z (kinds_of ps ++ expected)) (same rest) (splits_pieces ps rest expected (flow rest) more)

half_line : (i : ℕ) → i < 2 ^ 64 → i % 4 ≡ 0 → Line i (coin_line i (codes "1/2"))
half_line i h form =
    let plain = name_plain i h in
    record {
      kinds = kinds_of (coin_pieces (name i) plain two);
      splits = splits_line (coin_line i (codes "1/2")) (coin_pieces (name i) plain two) (coin_half i plain) (coin_half_flows (name i) plain);
      light = refl;
      back = refl;
      head = refl;
      tree = coin (name i) (whole 2);
      spelled = coin_spelled (name i) plain (codes "2") two_short;
      named = λ s. refl;
      clean = λ called s answers. coin_half_clean called (name i) s;
      signed = λ n s e. absurd (omega arith);
    }

third_line : (i : ℕ) → i < 2 ^ 64 → i % 4 ≡ 2 → Line i (coin_line i (codes "1/3"))
third_line i h form =
    let plain = name_plain i h in
    record {
      kinds = kinds_of (coin_pieces (name i) plain three);
      splits = splits_line (coin_line i (codes "1/3")) (coin_pieces (name i) plain three) (coin_third i plain) (coin_third_flows (name i) plain);
      light = refl;
      back = refl;
      head = refl;
      tree = coin (name i) (whole 3);
      spelled = coin_spelled (name i) plain (codes "3") three_short;
      named = λ s. refl;
      clean = λ called s answers. coin_third_clean called (name i) s;
      signed = λ n s e. absurd (omega arith);
    }

looping : (i : ℕ) → i < 2 ^ 64 → Line i (loop_line i)
looping i h =
    let plain = name_plain i h in
    record {
      kinds = kinds_of (loop_pieces (name i) plain);
      splits = splits_line (loop_line i) (loop_pieces (name i) plain) (loop_text i plain) (loop_flows (name i) plain);
      light = refl;
      back = refl;
      head = refl;
      tree = loop (name i);
      spelled = loop_spelled (name i) plain;
      named = λ s. refl;
      clean = λ called s answers. loop_clean called (name i) s;
      signed = λ n s e. loop_signature n (name i) s;
    }

calling : (i : ℕ) → i < 2 ^ 64 → i % 4 ≡ 3 → Line i (call_line i)
calling i h form =
    let plain = name_plain i h in
    let other = name_plain (i - 2) (omega arith) in
    record {
      kinds = kinds_of (call_pieces (name i) plain (name (i - 2)) other);
      splits = splits_line (call_line i) (call_pieces (name i) plain (name (i - 2)) other) (call_text i plain other) (call_flows (name i) plain (name (i - 2)) other);
      light = refl;
      back = refl;
      head = refl;
      tree = call (name i) (name (i - 2));
      spelled = call_spelled (name i) plain (name (i - 2)) other;
      named = λ s. refl;
      clean = λ called s answers. call_clean called (name i) (name (i - 2)) (i - 2) s (answers form);
      signed = λ n s e. absurd (omega arith);
    }

pub line_is : (i : ℕ) → i < 2 ^ 64 → Line i (line i)
line_is i h = by_zero (i % 4 == 0) refl
  where
    by_two : (x : Bool) → i % 4 == 0 ≡ false → i % 4 == 1 ≡ false → i % 4 == 2 ≡ x → Line i (if x then coin_line i (codes "1/3") else call_line i)
    by_two true e f g = third_line i h (grind (arith, nat_tests))
    by_two false e f g = calling i h (grind (arith, nat_tests))

    by_one : (x : Bool) → i % 4 == 0 ≡ false → i % 4 == 1 ≡ x → Line i (if x then loop_line i else if i % 4 == 2 then coin_line i (codes "1/3") else call_line i)
    by_one true e f = looping i h
    by_one false e f = by_two (i % 4 == 2) e f refl

    by_zero : (x : Bool) → i % 4 == 0 ≡ x → Line i (if x then coin_line i (codes "1/2") else if i % 4 == 1 then loop_line i else if i % 4 == 2 then coin_line i (codes "1/3") else call_line i)
    by_zero true e = half_line i h (grind (arith, nat_tests))
    by_zero false e = by_one (i % 4 == 1) e refl
