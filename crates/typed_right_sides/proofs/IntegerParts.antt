-- The parts of a draw of integers, one after the other.
use Rattle.heylo_formula.specs.Formula.{Term}
use Rattle.heylo_formula.specs.PlainTrees.{term_of}
use Rattle.heylo_formula.specs.declared.terms.Term as T
use Rattle.heyvl_acts.specs.PlainActs.{part_of, parts_of}
use Rattle.heyvl_num.specs.Rational.{Rational, ratio}
use Rattle.static_rules.specs.StatementActs.{integer_parts, unif_parts, whole_term}
use Rattle.std.proofs.Common.{List, [], ap, append_assoc, arith, pos, suc, sym, ◌++◌, ◌+◌, ◌-◌, ◌<◌, ◌∙◌, ◌∷◌, ◌≡◌, ℕ, ℤ}
use Rattle.std.proofs.lemmas.Int.{ints}
use Rattle.std.proofs.lemmas.List.{map-append}
use Rattle.std.specs.Prelude.{Err, IfOk, Ok, Result, Some, Vec, unsigned_abs, ◌+ℤ◌, ◌-ℤ◌}
use Rattle.std.specs.declared.alloc.AllocError.{AllocError}
use Rattle.std.specs.declared.alloc.Global.{Global}

parts_step : (w : Rational) (a : ℤ) (k n : ℕ) → k < n → integer_parts w (a +ℤ pos k) (n - k) ≡ (w, whole_term (a +ℤ pos k)) ∷ integer_parts w (a +ℤ pos (k + 1)) (n - (k + 1))
parts_step w a k n h =
    let e : n - k ≡ suc (n - (k + 1)) = omega arith in
    let f : (a +ℤ pos k) +ℤ pos 1 ≡ a +ℤ pos (k + 1) = omega (arith, ints) in
    rw e (ap (λ b. (w, whole_term (a +ℤ pos k)) ∷ integer_parts w b (n - (k + 1))) f)

-- One more part.
pub parts_next : (ps qs : List (Rational × T.Term)) (w : Rational) (a : ℤ) (k n : ℕ) (t : T.Term) (all : List (Rational × Term)) → k < n → parts_of ps ++ integer_parts w (a +ℤ pos k) (n - k) ≡ all → term_of t ≡ whole_term (a +ℤ pos k) → qs ≡ ps ++ (w, t) ∷ [] → parts_of qs ++ integer_parts w (a +ℤ pos (k + 1)) (n - (k + 1)) ≡ all
parts_next ps qs w a k n t all lt h i e =
    let R : List (Rational × Term) = integer_parts w (a +ℤ pos (k + 1)) (n - (k + 1)) in
    let m : (w, term_of t) ∷ R ≡ integer_parts w (a +ℤ pos k) (n - k) = ap (λ u. (w, u) ∷ R) i ∙ sym (parts_step w a k n lt) in
    ap (λ x. parts_of x ++ R) e ∙ ap (λ l. l ++ R) (map-append part_of ps ((w, t) ∷ [])) ∙ append_assoc (parts_of ps) ((w, term_of t) ∷ []) R ∙ ap (λ l. parts_of ps ++ l) m ∙ h

-- The parts between two ends, as the program counts them.
pub range_parts : (r : Result (Vec (Rational × T.Term) Global) AllocError) (q : Rational) (low low' high : ℤ) (n : ℕ) → low' ≡ low → n + 1 ≡ suc (unsigned_abs (high -ℤ low)) → q ≡ ratio (pos 1) (n + 1) → IfOk r (λ parts. parts_of parts.items ≡ integer_parts q low' (n + 1)) → IfOk r (λ parts. parts_of parts.items ≡ unif_parts (Some low) (Some high))
range_parts (Ok v) q low low' high n l e k h =
    let w : q ≡ ratio (pos 1) (suc (unsigned_abs (high -ℤ low))) = k ∙ ap (λ m. ratio (pos 1) m) e in
    h ∙ ap (λ p. integer_parts p low' (n + 1)) w ∙ ap (λ a. integer_parts (ratio (pos 1) (suc (unsigned_abs (high -ℤ low)))) a (n + 1)) l ∙ ap (λ m. integer_parts (ratio (pos 1) (suc (unsigned_abs (high -ℤ low)))) low m) e
range_parts (Err x) q low low' high n l e k h = h
