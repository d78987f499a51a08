-- A text is that of only one list.
use Rattle.std.proofs.Common.{◌≡◌, ℕ, ℤ, ◌+◌, ◌*◌, ◌<◌, ◌^◌, List, [], ◌∷◌, ◌++◌, Some, length, get_or, map, decimal, refl, sym, ap, ◌∙◌, arith, length-append}
use Rattle.std.proofs.lemmas.Fmt.{decimal_injective, signed_decimal_injective}
use Rattle.std.specs.Fmt.{signed_decimal}
use Rattle.std.specs.List.{AllByRecursion}
use Rattle.heylo_formula.specs.declared.goals.GoalId.{GoalId}
use Rattle.heylo_formula.specs.declared.goals.GoalId.TheVariants as ids
use Rattle.cert_text.specs.declared.goal_names.GoalName.{GoalName}
use Rattle.heylo_formula.specs.GoalOrder.{loop_of}
use Rattle.cert_text.specs.declared.versions.Version.TheVariants as versions
use Rattle.cert_text.specs.Certificates.{Certificate, IsNumbered, IsWholeSplit}
use Rattle.cert_text.specs.Lines.{Line, title, goal, split, whole, farkas, plain, last, line_text, id_text, multipliers_text}
use Rattle.cert_text.specs.internal.WholeLines.{IsLine}
use Rattle.cert_text.specs.Texts.{certificate_lines, closed, Spells}
use Rattle.cert_text.specs.internal.ReadStates.{start, done, run, IsMultiplier, IsRising}
use Rattle.cert_text.proofs.TextCuts.{IsFreeOf-decimal, colon_is_no_digit, space_is_no_digit, cut_once, multiplier_free, multipliers_end_or_at}
use Rattle.cert_text.proofs.Decimals.{below_half}
use Rattle.cert_text.proofs.Multipliers.{rising_from_multipliers}
use Rattle.cert_text.proofs.Progress.{line_free, certificate_lines_are}
use Rattle.cert_text.proofs.Walk.{run-certificate_lines}

-- The first two bytes of a text as one number. Lines of different kinds differ in it.
front_mark : List ℕ → ℕ
front_mark bs = get_or bs 0 0 * 1000 + get_or bs 1 0

id_mark : GoalId → ℕ
id_mark ids.Main = 109097
id_mark ids.Pre = 112114
id_mark ids.Post = 112111
id_mark (ids.Invariant n) = 105110
id_mark (ids.Ranking n) = 114097

mark_of_id : (i : GoalId) → front_mark (id_text i) ≡ id_mark i
unfolding front_mark id_mark
mark_of_id ids.Main = refl
mark_of_id ids.Pre = refl
mark_of_id ids.Post = refl
mark_of_id (ids.Invariant n) = refl
mark_of_id (ids.Ranking n) = refl

same_id_mark : (i j : GoalId) → id_text i ≡ id_text j → id_mark i ≡ id_mark j
same_id_mark i j e = sym (mark_of_id i) ∙ ap front_mark e ∙ mark_of_id j

id_once : (i j : GoalId) → loop_of i < 2 ^ 32 → loop_of j < 2 ^ 32 → id_text i ≡ id_text j → i ≡ j
unfolding id_mark
id_once ids.Main ids.Main k l e = refl
id_once ids.Pre ids.Pre k l e = refl
id_once ids.Post ids.Post k l e = refl
id_once (ids.Invariant m) (ids.Invariant n) k l e = let f : decimal m ≡ decimal n = cc in ap (λ (z : ℕ). ids.Invariant z) (decimal_injective m n (omega arith) (omega arith) f)
id_once (ids.Ranking m) (ids.Ranking n) k l e = let f : decimal m ≡ decimal n = cc in ap (λ (z : ℕ). ids.Ranking z) (decimal_injective m n (omega arith) (omega arith) f)
id_once i j k l e = let h = same_id_mark i j e in absurd (omega arith)

name_once : (m n : GoalName) → IsNumbered m → IsNumbered n → decimal m.proc ++ 32 ∷ id_text m.id ≡ decimal n.proc ++ 32 ∷ id_text n.id → m ≡ n
name_once m n j k e =
    let a : m.proc < 2 ^ 64 = omega (arith, j.proc) in
    let b : n.proc < 2 ^ 64 = omega (arith, k.proc) in
    let c = cut_once 32 (decimal m.proc) (32 ∷ id_text m.id) (decimal n.proc) (32 ∷ id_text n.id) (IsFreeOf-decimal 32 m.proc space_is_no_digit a) (IsFreeOf-decimal 32 n.proc space_is_no_digit b) refl refl e in
    let d : 32 ∷ id_text m.id ≡ 32 ∷ id_text n.id = c.1 in
    let f : id_text m.id ≡ id_text n.id = cc in
    let N : Type 0 = GoalName in
    ap (λ (z : ℕ). let x : N = record { proc = z; id = m.id } in x) (decimal_injective m.proc n.proc a b c.0)
    ∙ ap (λ (z : GoalId). let x : N = record { proc = n.proc; id = z } in x) (id_once m.id n.id j.loop k.loop f)

multiplier_once : (m n : ℕ × ℕ) → IsMultiplier m → IsMultiplier n → decimal m.0 ++ 58 ∷ decimal m.1 ≡ decimal n.0 ++ 58 ∷ decimal n.1 → m ≡ n
multiplier_once m n j k e =
    let a : m.0 < 2 ^ 64 = omega (arith, j.within) in
    let b : n.0 < 2 ^ 64 = omega (arith, k.within) in
    let a' : m.1 < 2 ^ 64 = omega (arith, j.narrow) in
    let b' : n.1 < 2 ^ 64 = omega (arith, k.narrow) in
    let c = cut_once 58 (decimal m.0) (58 ∷ decimal m.1) (decimal n.0) (58 ∷ decimal n.1) (IsFreeOf-decimal 58 m.0 colon_is_no_digit a) (IsFreeOf-decimal 58 n.0 colon_is_no_digit b) refl refl e in
    let d : 58 ∷ decimal m.1 ≡ 58 ∷ decimal n.1 = c.1 in
    let f : decimal m.1 ≡ decimal n.1 = cc in
    ap (λ (z : ℕ). let x : ℕ × ℕ = (z, m.1) in x) (decimal_injective m.0 n.0 a b c.0)
    ∙ ap (λ (z : ℕ). let x : ℕ × ℕ = (n.0, z) in x) (decimal_injective m.1 n.1 a' b' f)

multipliers_once : (ms ns : List (ℕ × ℕ)) (i j : ℕ) → IsRising i ms → IsRising j ns → multipliers_text ms ≡ multipliers_text ns → ms ≡ ns
multipliers_once [] [] i j r t e = refl
multipliers_once [] (n ∷ ns) i j r t e = absurd (cc)
multipliers_once (m ∷ ms) [] i j r t e = absurd (cc)
multipliers_once (m ∷ ms) (n ∷ ns) i j r t e =
    let a : List ℕ = decimal m.0 ++ 58 ∷ decimal m.1 in
    let b : List ℕ = decimal n.0 ++ 58 ∷ decimal n.1 in
    let f : a ++ multipliers_text ms ≡ b ++ multipliers_text ns = cc in
    let c = cut_once 32 a (multipliers_text ms) b (multipliers_text ns) (multiplier_free 32 m space_is_no_digit (λ h. omega arith) r.1) (multiplier_free 32 n space_is_no_digit (λ h. omega arith) t.1) (multipliers_end_or_at ms) (multipliers_end_or_at ns) f in
    ap (λ (z : ℕ × ℕ). z ∷ ms) (multiplier_once m n r.1 t.1 c.0) ∙ ap (λ (zs : List (ℕ × ℕ)). n ∷ zs) (multipliers_once ms ns (m.0 + 1) (n.0 + 1) r.2 t.2 c.1)

split_once : (x y : ℕ) (m n : ℤ) → IsWholeSplit x m → IsWholeSplit y n → decimal x ++ 32 ∷ signed_decimal m ≡ decimal y ++ 32 ∷ signed_decimal n → whole x m ≡ whole y n
split_once x y m n j k e =
    let a : x < 2 ^ 64 = omega (arith, j.variable) in
    let b : y < 2 ^ 64 = omega (arith, k.variable) in
    let c = cut_once 32 (decimal x) (32 ∷ signed_decimal m) (decimal y) (32 ∷ signed_decimal n) (IsFreeOf-decimal 32 x space_is_no_digit a) (IsFreeOf-decimal 32 y space_is_no_digit b) refl refl e in
    let d : 32 ∷ signed_decimal m ≡ 32 ∷ signed_decimal n = c.1 in
    let f : signed_decimal m ≡ signed_decimal n = cc in
    ap (λ (z : ℕ). whole z m) (decimal_injective x y a b c.0)
    ∙ ap (λ (z : ℤ). whole y z) (signed_decimal_injective m n (below_half m j.number) (below_half n k.number) f)

initial : Line → ℕ
initial (title v) = 99
initial (goal n) = 103
initial split = 115
initial (whole x m) = 105
initial (farkas ms) = 102
initial plain = 116
initial last = 101

initial_of : (l : Line) → get_or (line_text l) 0 0 ≡ initial l
unfolding initial
initial_of (title versions.One) = refl
initial_of (title versions.Two) = refl
initial_of (goal n) = refl
initial_of split = refl
initial_of (whole x m) = refl
initial_of (farkas ms) = refl
initial_of plain = refl
initial_of last = refl

same_initial : (k l : Line) → line_text k ≡ line_text l → initial k ≡ initial l
same_initial k l e = sym (initial_of k) ∙ ap (λ (bs : List ℕ). get_or bs 0 0) e ∙ initial_of l

pub line_once : (k l : Line) → IsLine k → IsLine l → line_text k ≡ line_text l → k ≡ l
unfolding initial
line_once (title versions.One) (title versions.One) a b e = refl
line_once (title versions.One) (title versions.Two) a b e = let f : 49 ≡ 50 = ap (λ (bs : List ℕ). get_or bs 19 0) e in absurd (omega (arith, f))
line_once (title versions.Two) (title versions.One) a b e = let f : 50 ≡ 49 = ap (λ (bs : List ℕ). get_or bs 19 0) e in absurd (omega (arith, f))
line_once (title versions.Two) (title versions.Two) a b e = refl
line_once (goal m) (goal n) a b e = let f : decimal m.proc ++ 32 ∷ id_text m.id ≡ decimal n.proc ++ 32 ∷ id_text n.id = cc in ap (λ (z : GoalName). goal z) (name_once m n a b f)
line_once split split a b e = refl
line_once (whole x m) (whole y n) a b e = let f : decimal x ++ 32 ∷ signed_decimal m ≡ decimal y ++ 32 ∷ signed_decimal n = cc in split_once x y m n a b f
line_once (farkas ms) (farkas ns) a b e = let f : multipliers_text ms ≡ multipliers_text ns = cc in ap (λ (zs : List (ℕ × ℕ)). farkas zs) (multipliers_once ms ns 0 0 (rising_from_multipliers ms a) (rising_from_multipliers ns b) f)
line_once plain plain a b e = refl
line_once last last a b e = refl
line_once k l a b e = let h = same_initial k l e in absurd (omega arith)

lines_once : (ks ls : List Line) → AllByRecursion IsLine ks → AllByRecursion IsLine ls → closed (map line_text ks) ≡ closed (map line_text ls) → ks ≡ ls
lines_once [] [] a b e = refl
lines_once [] (l ∷ ls) a b e = let f = ap (λ (bs : List ℕ). length bs) e in let g = length-append (line_text l) (10 ∷ closed (map line_text ls)) in absurd (omega arith)
lines_once (k ∷ ks) [] a b e = let f = ap (λ (bs : List ℕ). length bs) e in let g = length-append (line_text k) (10 ∷ closed (map line_text ks)) in absurd (omega arith)
lines_once (k ∷ ks) (l ∷ ls) a b e =
    let c = cut_once 10 (line_text k) (10 ∷ closed (map line_text ks)) (line_text l) (10 ∷ closed (map line_text ls)) (line_free k a.0) (line_free l b.0) refl refl e in
    let d : 10 ∷ closed (map line_text ks) ≡ 10 ∷ closed (map line_text ls) = c.1 in
    let f : closed (map line_text ks) ≡ closed (map line_text ls) = cc in
    ap (λ (z : Line). z ∷ ks) (line_once k l a.0 b.0 c.0) ∙ ap (λ (zs : List Line). l ∷ zs) (lines_once ks ls a.1 b.1 f)

pub text_once : (cs ds : List Certificate) (bytes : List ℕ) → Spells cs bytes → Spells ds bytes → cs ≡ ds
text_once cs ds bytes s t =
    let e = lines_once (certificate_lines cs) (certificate_lines ds) (certificate_lines_are cs s.writable) (certificate_lines_are ds t.writable) (sym s.text ∙ t.text) in
    let f : Some (done cs) ≡ Some (done ds) = sym (run-certificate_lines cs s.writable) ∙ ap (λ (ls : List Line). run ls (Some start)) e ∙ run-certificate_lines ds t.writable in
    cc
