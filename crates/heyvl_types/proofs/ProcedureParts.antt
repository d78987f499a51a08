-- The parts of a procedure: their findings, and the indices of their variables.
use Rattle.heyvl_acts.specs.Acts.{Variable}
use Rattle.std.proofs.Common.{List, [], ap, append_assoc, drop, length, refl, sym, take, ◌+◌, ◌++◌, ◌∙◌, ◌≡◌, ◌∷◌, ℕ}
use Rattle.std.proofs.Math.Seq.{drop-append-add, drop-append_seam, take-append_seam}
use Rattle.typed_expressions.proofs.exported.Parts.{behind, first_in, stops, stops_at, tells_stop}
use Rattle.typed_expressions.specs.Findings.{Finding}

-- The findings of the name, the head, the clauses, and the body with the size.
pub regroup : (a b c d e f g h : List Finding) → a ++ b ++ c ++ d ++ e ++ f ++ g ++ h ≡ (a ++ b) ++ ((c ++ d) ++ ((e ++ f) ++ (g ++ h)))
regroup a b c d e f g h = simp append_assoc

-- The inputs, the outputs and the other variables among all.
pub the_inputs : (n : ℕ) (xs ys zs : List Variable) → n ≡ length xs → take n ((xs ++ ys) ++ zs) ≡ xs
the_inputs n xs ys zs e = ap (λ m. take m ((xs ++ ys) ++ zs)) e ∙ ap (take (length xs)) (append_assoc xs ys zs) ∙ take-append_seam xs (ys ++ zs)

pub the_outputs : (n m : ℕ) (xs ys zs : List Variable) → n ≡ length xs → m ≡ length ys → take m (drop n ((xs ++ ys) ++ zs)) ≡ ys
the_outputs n m xs ys zs e f =
    ap (λ i. take m (drop i ((xs ++ ys) ++ zs))) e ∙ ap (λ l. take m (drop (length xs) l)) (append_assoc xs ys zs)
    ∙ ap (take m) (drop-append_seam xs (ys ++ zs)) ∙ ap (λ i. take i (ys ++ zs)) f ∙ take-append_seam ys zs

pub the_locals : (n m : ℕ) (xs ys zs : List Variable) → n ≡ length xs → m ≡ length ys → drop (n + m) ((xs ++ ys) ++ zs) ≡ zs
the_locals n m xs ys zs e f =
    ap (λ i. drop (i + m) ((xs ++ ys) ++ zs)) e ∙ ap (λ l. drop (length xs + m) l) (append_assoc xs ys zs)
    ∙ drop-append-add xs (ys ++ zs) m ∙ ap (λ i. drop i (ys ++ zs)) f ∙ drop-append_seam ys zs
