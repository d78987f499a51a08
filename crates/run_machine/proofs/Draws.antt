-- The parts of a draw, one by one.
use Rattle.std.proofs.Common.{◌≡◌, ℕ, ◌+◌, ◌<◌, ◌&&◌, get_or, append_assoc, refl, ap, sym, ◌∙◌, List, [], ◌∷◌, ◌++◌, length, drop}
use Rattle.std.proofs.lemmas.List.{at_drop_more}
use Rattle.std.specs.Prelude.{Some, is_some}
use Rattle.heyvl_num.specs.Rational.{Rational}
use Rattle.heylo_formula.specs.declared.values.Val.{Val}
use Rattle.heylo_formula.specs.declared.terms.Term as T
use Rattle.heylo_formula.specs.PlainTrees.{term_of}
use Rattle.heylo_formula.specs.Meaning.{term_value}
use Rattle.heylo_formula.specs.State.{environment}
use Rattle.heyvl_acts.specs.PlainActs.{part_of, parts_of}
use Rattle.run_machine.specs.declared.configurations.Config as C
use Rattle.run_machine.specs.BoundedStep.{exact_term, parts_fit}
use Rattle.run_machine.specs.Names.{Stored, stored}
use Rattle.run_machine.specs.Replies.{stored_outcome, stored_outcomes}
use Rattle.run_machine.specs.StoredMoves.{assigned, stored_branch, stored_branches}

append_maps : (xs ys : List (Rational × C.Config)) → stored_outcomes (xs ++ ys) ≡ stored_outcomes xs ++ stored_outcomes ys
append_maps [] ys = refl
append_maps (x ∷ xs) ys = ap (λ l. stored_outcome x ∷ l) (append_maps xs ys)

pub parts_next : (s : List Val) (parts : List (Rational × T.Term)) (k : ℕ) (part : Rational × T.Term) (v : Val) → k < length parts → part ≡ get_or parts k part → Some v ≡ exact_term (term_of part.1) s → parts_fit (parts_of (drop k parts)) s ≡ parts_fit (parts_of (drop (k + 1) parts)) s
parts_next s parts k part v lt is h = at_drop_more (λ l. parts_fit (parts_of l) s) parts k part lt ∙ ap (λ p. is_some (exact_term (term_of p.1) s) && parts_fit (parts_of (drop (k + 1) parts)) s) (sym is) ∙ ap (λ o. is_some o && parts_fit (parts_of (drop (k + 1) parts)) s) (sym h)

pub draw_more : (c : Stored) (x : ℕ) (parts : List (Rational × T.Term)) (k : ℕ) (part : Rational × T.Term) (old new : List (Rational × C.Config)) (next : C.Config) (v : Val) → k < length parts → part ≡ get_or parts k part → new ≡ old ++ ((part.0, next) ∷ []) → stored next ≡ assigned c x v → v ≡ term_value (term_of part.1) (environment c.state) → stored_outcomes old ++ stored_branches c x (parts_of (drop k parts)) ≡ stored_outcomes new ++ stored_branches c x (parts_of (drop (k + 1) parts))
draw_more c x parts k part old new next v lt at n m e =
    ap (λ l. stored_outcomes old ++ l) (at_drop_more (λ l. stored_branches c x (parts_of l)) parts k part lt ∙ ap (λ p. stored_branch c x (part_of p) ∷ stored_branches c x (parts_of (drop (k + 1) parts))) (sym at) ∙ ap (λ z. (part.0, z) ∷ stored_branches c x (parts_of (drop (k + 1) parts))) (sym (m ∙ ap (λ w. assigned c x w) e)))
    ∙ sym (append_assoc (stored_outcomes old) ((part.0, stored next) ∷ []) (stored_branches c x (parts_of (drop (k + 1) parts))))
    ∙ ap (λ l. l ++ stored_branches c x (parts_of (drop (k + 1) parts))) (sym (ap stored_outcomes n ∙ append_maps old ((part.0, next) ∷ [])))
