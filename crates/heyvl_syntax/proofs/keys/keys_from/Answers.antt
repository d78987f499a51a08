use Rattle.heyvl_syntax.proofs.Tables.{none_kept}
use Rattle.heyvl_syntax.proofs.keys.keys_from.Goals as goal
use Rattle.heyvl_syntax.specs.internal.Fronts.{all_keys, keys_from}
use Rattle.heyvl_syntax.specs.Keys.{key_text}
use Rattle.std.proofs.Common.{[], ap, arith, false, nat_eq, not, refl, sym, true, ◌∷◌, ◌≡◌, ℕ}
use Rattle.std.proofs.lemmas.Bool.Decides.{nat_tests}
use Rattle.std.specs.List.{list_all, starts_with}

pub returns-in-112 : goal.returns-in-112
returns-in-112 c = sym (ap keys_from c.in-112.is)

pub returns-in-99 : goal.returns-in-99
returns-in-99 c = sym (ap keys_from c.in-99.is)

pub returns-in-118 : goal.returns-in-118
returns-in-118 c = sym (ap keys_from c.in-118.is)

pub returns-in-105 : goal.returns-in-105
returns-in-105 c = sym (ap keys_from c.in-105.is)

pub returns-in-101 : goal.returns-in-101
returns-in-101 c = sym (ap keys_from c.in-101.is)

pub returns-in-119 : goal.returns-in-119
returns-in-119 c = sym (ap keys_from c.in-119.is)

pub returns-in-97 : goal.returns-in-97
returns-in-97 c = sym (ap keys_from c.in-97.is)

pub returns-in-104 : goal.returns-in-104
returns-in-104 c = sym (ap keys_from c.in-104.is)

pub returns-in-114 : goal.returns-in-114
returns-in-114 c = sym (ap keys_from c.in-114.is)

pub returns-in-116 : goal.returns-in-116
returns-in-116 c = sym (ap keys_from c.in-116.is)

pub returns-in-102 : goal.returns-in-102
returns-in-102 c = sym (ap keys_from c.in-102.is)

pub returns-in-66 : goal.returns-in-66
returns-in-66 c = sym (ap keys_from c.in-66.is)

pub returns-in-73 : goal.returns-in-73
returns-in-73 c = sym (ap keys_from c.in-73.is)

pub returns-in-85 : goal.returns-in-85
returns-in-85 c = sym (ap keys_from c.in-85.is)

pub returns-in-69 : goal.returns-in-69
returns-in-69 c = sym (ap keys_from c.in-69.is)

pub returns-in-82 : goal.returns-in-82
returns-in-82 c = sym (ap keys_from c.in-82.is)

pub returns-in-117 : goal.returns-in-117
returns-in-117 c = sym (ap keys_from c.in-117.is)

pub returns-in-115 : goal.returns-in-115
returns-in-115 c = sym (ap keys_from c.in-115.is)

pub returns-in-92 : goal.returns-in-92
returns-in-92 c = sym (ap keys_from c.in-92.is)

-- No keyword begins with any other byte.
none_from : (b : ℕ) → nat_eq b 112 ≡ false → nat_eq b 99 ≡ false → nat_eq b 118 ≡ false → nat_eq b 105 ≡ false → nat_eq b 101 ≡ false → nat_eq b 119 ≡ false → nat_eq b 97 ≡ false → nat_eq b 104 ≡ false → nat_eq b 114 ≡ false → nat_eq b 116 ≡ false → nat_eq b 102 ≡ false → nat_eq b 66 ≡ false → nat_eq b 73 ≡ false → nat_eq b 85 ≡ false → nat_eq b 69 ≡ false → nat_eq b 82 ≡ false → nat_eq b 117 ≡ false → nat_eq b 115 ≡ false → nat_eq b 92 ≡ false → list_all (λ key. not (starts_with nat_eq (key_text key) (b ∷ []))) all_keys ≡ true
none_from b n112 n99 n118 n105 n101 n119 n97 n104 n114 n116 n102 n66 n73 n85 n69 n82 n117 n115 n92 = rw (n112, n99, n118, n105, n101, n119, n97, n104, n114, n116, n102, n66, n73, n85, n69, n82, n117, n115, n92) refl

pub returns-in_default : goal.returns-in_default
returns-in_default c =
    let not_112 : nat_eq c.args.first 112 ≡ false = grind (arith, nat_tests) in
    let not_99 : nat_eq c.args.first 99 ≡ false = grind (arith, nat_tests) in
    let not_118 : nat_eq c.args.first 118 ≡ false = grind (arith, nat_tests) in
    let not_105 : nat_eq c.args.first 105 ≡ false = grind (arith, nat_tests) in
    let not_101 : nat_eq c.args.first 101 ≡ false = grind (arith, nat_tests) in
    let not_119 : nat_eq c.args.first 119 ≡ false = grind (arith, nat_tests) in
    let not_97 : nat_eq c.args.first 97 ≡ false = grind (arith, nat_tests) in
    let not_104 : nat_eq c.args.first 104 ≡ false = grind (arith, nat_tests) in
    let not_114 : nat_eq c.args.first 114 ≡ false = grind (arith, nat_tests) in
    let not_116 : nat_eq c.args.first 116 ≡ false = grind (arith, nat_tests) in
    let not_102 : nat_eq c.args.first 102 ≡ false = grind (arith, nat_tests) in
    let not_66 : nat_eq c.args.first 66 ≡ false = grind (arith, nat_tests) in
    let not_73 : nat_eq c.args.first 73 ≡ false = grind (arith, nat_tests) in
    let not_85 : nat_eq c.args.first 85 ≡ false = grind (arith, nat_tests) in
    let not_69 : nat_eq c.args.first 69 ≡ false = grind (arith, nat_tests) in
    let not_82 : nat_eq c.args.first 82 ≡ false = grind (arith, nat_tests) in
    let not_117 : nat_eq c.args.first 117 ≡ false = grind (arith, nat_tests) in
    let not_115 : nat_eq c.args.first 115 ≡ false = grind (arith, nat_tests) in
    let not_92 : nat_eq c.args.first 92 ≡ false = grind (arith, nat_tests) in
    sym (none_kept (λ key. starts_with nat_eq (key_text key) (c.args.first ∷ [])) all_keys (none_from c.args.first not_112 not_99 not_118 not_105 not_101 not_119 not_97 not_104 not_114 not_116 not_102 not_66 not_73 not_85 not_69 not_82 not_117 not_115 not_92))
