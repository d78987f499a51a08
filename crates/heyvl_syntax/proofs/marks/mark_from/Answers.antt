use Rattle.heyvl_syntax.proofs.Tables.{mark_found, none_kept}
use Rattle.heyvl_syntax.proofs.marks.mark_from.Goals as goal
use Rattle.heyvl_syntax.specs.internal.Fronts.{mark_of, marks_by_length, marks_from}
use Rattle.heyvl_syntax.specs.Marks.{mark_text}
use Rattle.std.proofs.Common.{None, [], ap, arith, false, nat_eq, not, refl, sym, true, ◌∷◌, ◌∙◌, ◌≡◌, ℕ}
use Rattle.std.proofs.lemmas.Bool.Decides.{nat_tests}
use Rattle.std.specs.List.{list_all, starts_with}

pub returns-in-40 : goal.returns-in-40
returns-in-40 c = sym (ap (λ (b : ℕ). mark_of (b ∷ c.args.behind.now)) c.in-40.is)

pub returns-in-41 : goal.returns-in-41
returns-in-41 c = sym (ap (λ (b : ℕ). mark_of (b ∷ c.args.behind.now)) c.in-41.is)

pub returns-in-123 : goal.returns-in-123
returns-in-123 c = sym (ap (λ (b : ℕ). mark_of (b ∷ c.args.behind.now)) c.in-123.is)

pub returns-in-125 : goal.returns-in-125
returns-in-125 c = sym (ap (λ (b : ℕ). mark_of (b ∷ c.args.behind.now)) c.in-125.is)

pub returns-in-91 : goal.returns-in-91
returns-in-91 c = sym (ap (λ (b : ℕ). mark_of (b ∷ c.args.behind.now)) c.in-91.is)

pub returns-in-93 : goal.returns-in-93
returns-in-93 c = sym (ap (λ (b : ℕ). mark_of (b ∷ c.args.behind.now)) c.in-93.is)

pub returns-in-44 : goal.returns-in-44
returns-in-44 c = sym (ap (λ (b : ℕ). mark_of (b ∷ c.args.behind.now)) c.in-44.is)

pub returns-in-58 : goal.returns-in-58
returns-in-58 c = sym (ap (λ (b : ℕ). mark_of (b ∷ c.args.behind.now)) c.in-58.is)

pub returns-in-59 : goal.returns-in-59
returns-in-59 c = sym (ap (λ (b : ℕ). mark_of (b ∷ c.args.behind.now)) c.in-59.is)

pub returns-in-46 : goal.returns-in-46
returns-in-46 c = sym (ap (λ (b : ℕ). mark_of (b ∷ c.args.behind.now)) c.in-46.is)

pub returns-in-43 : goal.returns-in-43
returns-in-43 c = sym (ap (λ (b : ℕ). mark_of (b ∷ c.args.behind.now)) c.in-43.is)

pub returns-in-42 : goal.returns-in-42
returns-in-42 c = sym (ap (λ (b : ℕ). mark_of (b ∷ c.args.behind.now)) c.in-42.is)

pub returns-in-47 : goal.returns-in-47
returns-in-47 c = sym (ap (λ (b : ℕ). mark_of (b ∷ c.args.behind.now)) c.in-47.is)

pub returns-in-126 : goal.returns-in-126
returns-in-126 c = sym (ap (λ (b : ℕ). mark_of (b ∷ c.args.behind.now)) c.in-126.is)

pub returns-in-63 : goal.returns-in-63
returns-in-63 c = sym (ap (λ (b : ℕ). mark_of (b ∷ c.args.behind.now)) c.in-63.is)

pub returns-in-64 : goal.returns-in-64
returns-in-64 c = sym (ap (λ (b : ℕ). mark_of (b ∷ c.args.behind.now)) c.in-64.is)

pub returns-in-33 : goal.returns-in-33
returns-in-33 c = c.longer-in-33.ensures ∙ sym (ap (λ (b : ℕ). mark_of (b ∷ c.args.behind.now)) c.in-33.is)

pub returns-in-62 : goal.returns-in-62
returns-in-62 c = c.longer-in-62.ensures ∙ sym (ap (λ (b : ℕ). mark_of (b ∷ c.args.behind.now)) c.in-62.is)

pub returns-in-45 : goal.returns-in-45
returns-in-45 c = c.longer-in-45.ensures ∙ sym (ap (λ (b : ℕ). mark_of (b ∷ c.args.behind.now)) c.in-45.is)

pub returns-in-38 : goal.returns-in-38
returns-in-38 c = c.longer-in-38.ensures ∙ sym (ap (λ (b : ℕ). mark_of (b ∷ c.args.behind.now)) c.in-38.is)

pub returns-in-124 : goal.returns-in-124
returns-in-124 c = c.longer-in-124.ensures ∙ sym (ap (λ (b : ℕ). mark_of (b ∷ c.args.behind.now)) c.in-124.is)

pub returns-in-61 : goal.returns-in-61
returns-in-61 c = rw (c.longer.ensures, c.longer-shorter.ensures) (sym (ap (λ (b : ℕ). mark_of (b ∷ c.args.behind.now)) c.in-61.is))

pub returns-in-60 : goal.returns-in-60
returns-in-60 c = rw (c.longer-in-60.ensures, c.longer-shorter-in-60.ensures) (sym (ap (λ (b : ℕ). mark_of (b ∷ c.args.behind.now)) c.in-60.is))

-- No symbol begins with any other byte.
none_from : (b : ℕ) → nat_eq b 40 ≡ false → nat_eq b 41 ≡ false → nat_eq b 123 ≡ false → nat_eq b 125 ≡ false → nat_eq b 91 ≡ false → nat_eq b 93 ≡ false → nat_eq b 44 ≡ false → nat_eq b 58 ≡ false → nat_eq b 59 ≡ false → nat_eq b 46 ≡ false → nat_eq b 61 ≡ false → nat_eq b 33 ≡ false → nat_eq b 60 ≡ false → nat_eq b 62 ≡ false → nat_eq b 43 ≡ false → nat_eq b 45 ≡ false → nat_eq b 42 ≡ false → nat_eq b 47 ≡ false → nat_eq b 38 ≡ false → nat_eq b 124 ≡ false → nat_eq b 126 ≡ false → nat_eq b 63 ≡ false → nat_eq b 64 ≡ false → list_all (λ mark. not (starts_with nat_eq (mark_text mark) (b ∷ []))) marks_by_length ≡ true
none_from b n40 n41 n123 n125 n91 n93 n44 n58 n59 n46 n61 n33 n60 n62 n43 n45 n42 n47 n38 n124 n126 n63 n64 = rw (n40, n41, n123, n125, n91, n93, n44, n58, n59, n46, n61, n33, n60, n62, n43, n45, n42, n47, n38, n124, n126, n63, n64) refl

pub returns-in_default : goal.returns-in_default
returns-in_default c =
    let not_40 : nat_eq c.args.first 40 ≡ false = grind (arith, nat_tests) in
    let not_41 : nat_eq c.args.first 41 ≡ false = grind (arith, nat_tests) in
    let not_123 : nat_eq c.args.first 123 ≡ false = grind (arith, nat_tests) in
    let not_125 : nat_eq c.args.first 125 ≡ false = grind (arith, nat_tests) in
    let not_91 : nat_eq c.args.first 91 ≡ false = grind (arith, nat_tests) in
    let not_93 : nat_eq c.args.first 93 ≡ false = grind (arith, nat_tests) in
    let not_44 : nat_eq c.args.first 44 ≡ false = grind (arith, nat_tests) in
    let not_58 : nat_eq c.args.first 58 ≡ false = grind (arith, nat_tests) in
    let not_59 : nat_eq c.args.first 59 ≡ false = grind (arith, nat_tests) in
    let not_46 : nat_eq c.args.first 46 ≡ false = grind (arith, nat_tests) in
    let not_61 : nat_eq c.args.first 61 ≡ false = grind (arith, nat_tests) in
    let not_33 : nat_eq c.args.first 33 ≡ false = grind (arith, nat_tests) in
    let not_60 : nat_eq c.args.first 60 ≡ false = grind (arith, nat_tests) in
    let not_62 : nat_eq c.args.first 62 ≡ false = grind (arith, nat_tests) in
    let not_43 : nat_eq c.args.first 43 ≡ false = grind (arith, nat_tests) in
    let not_45 : nat_eq c.args.first 45 ≡ false = grind (arith, nat_tests) in
    let not_42 : nat_eq c.args.first 42 ≡ false = grind (arith, nat_tests) in
    let not_47 : nat_eq c.args.first 47 ≡ false = grind (arith, nat_tests) in
    let not_38 : nat_eq c.args.first 38 ≡ false = grind (arith, nat_tests) in
    let not_124 : nat_eq c.args.first 124 ≡ false = grind (arith, nat_tests) in
    let not_126 : nat_eq c.args.first 126 ≡ false = grind (arith, nat_tests) in
    let not_63 : nat_eq c.args.first 63 ≡ false = grind (arith, nat_tests) in
    let not_64 : nat_eq c.args.first 64 ≡ false = grind (arith, nat_tests) in
    let none : [] ≡ marks_from c.args.first = sym (none_kept (λ mark. starts_with nat_eq (mark_text mark) (c.args.first ∷ [])) marks_by_length (none_from c.args.first not_40 not_41 not_123 not_125 not_91 not_93 not_44 not_58 not_59 not_46 not_61 not_33 not_60 not_62 not_43 not_45 not_42 not_47 not_38 not_124 not_126 not_63 not_64)) in
    mark_found (c.args.first ∷ c.args.behind.now) c.args.first c.args.behind.now [] None refl none refl
