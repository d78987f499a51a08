-- The rows of the answers to a comparison are the same after each path.
use Rattle.std.proofs.Common.{◌≡◌, List, [], ◌∷◌, ◌++◌, refl, sym, ap, ◌∙◌, Bool}
use Rattle.std.specs.Prelude.{Option, Some, None, not, if◌then◌else◌}
use Rattle.std.proofs.lemmas.List.{append-nil}
use Rattle.heylo_formula.specs.Goals.{Goal}
use Rattle.heylo_formula.specs.Typing.{Types, types_in}
use Rattle.linear_form.specs.Query.{Atom, Taken, onto}
use Rattle.linear_rows.specs.Row.{Row}
use Rattle.linear_values.specs.Tightening.{all_tightened, with_row, tightened}
use Rattle.linear_form.specs.PathRows.{path_claims, answer_claims, claim, negated}
use Rattle.linear_form.specs.RowLists.{ArePathRows}
use Rattle.region_split.specs.internal.KnownComparisons.{IsRowOf}

grown : (types : Types) (ps : List Taken) (t : Taken) (rows : List Row) (r : Row) → all_tightened types (path_claims ps) ≡ Some rows → all_tightened types (answer_claims t.atom t.held) ≡ Some (r ∷ []) → all_tightened types (path_claims (ps ++ (t ∷ []))) ≡ Some (rows ++ (r ∷ []))
grown types [] t rows r e f = let k : [] ≡ rows = cc in ap (all_tightened types) (append-nil (answer_claims t.atom t.held)) ∙ f ∙ ap (λ xs. Some (xs ++ (r ∷ []))) k
grown types (p ∷ ps) t rows r e f = by_question p.atom p.held e (λ xs k. grown types ps t xs r k f)
  where
    by_row : (o : Option Row) (some : Option (List Row)) → with_row o some ≡ Some rows → ((xs : List Row) → some ≡ Some xs → all_tightened types (path_claims (ps ++ (t ∷ []))) ≡ Some (xs ++ (r ∷ []))) → with_row o (all_tightened types (path_claims (ps ++ (t ∷ [])))) ≡ Some (rows ++ (r ∷ []))
    by_row None some h i = absurd (cc)
    by_row (Some x) None h i = absurd (cc)
    by_row (Some x) (Some xs) h i = let k : x ∷ xs ≡ rows = cc in ap (with_row (Some x)) (i xs refl) ∙ ap (λ zs. Some (zs ++ (r ∷ []))) k

    by_question : (q : Atom) (held : Bool) → all_tightened types (answer_claims q held ++ path_claims ps) ≡ Some rows → ((xs : List Row) → all_tightened types (path_claims ps) ≡ Some xs → all_tightened types (path_claims (ps ++ (t ∷ []))) ≡ Some (xs ++ (r ∷ []))) → all_tightened types (answer_claims q held ++ path_claims (ps ++ (t ∷ []))) ≡ Some (rows ++ (r ∷ []))
    by_question (Atom.truth x) held h i = i rows h
    by_question (Atom.row a strict) held h i = by_row (tightened types (if held then claim a strict else claim (negated a) (not strict))) (all_tightened types (path_claims ps)) h i

taken_alone : (types : Types) (ps : List Taken) (t : Taken) (rows : List Row) (r : Row) → all_tightened types (path_claims ps) ≡ Some rows → all_tightened types (path_claims (ps ++ (t ∷ []))) ≡ Some (rows ++ (r ∷ [])) → all_tightened types (answer_claims t.atom t.held) ≡ Some (r ∷ [])
taken_alone types [] t rows r e f = let k : [] ≡ rows = cc in sym (ap (all_tightened types) (append-nil (answer_claims t.atom t.held))) ∙ f ∙ ap (λ xs. Some (xs ++ (r ∷ []))) (sym k)
taken_alone types (p ∷ ps) t rows r e f = by_question p.atom p.held e f (λ xs i j. taken_alone types ps t xs r i j)
  where
    by_row : (o : Option Row) (some more : Option (List Row)) → with_row o some ≡ Some rows → with_row o more ≡ Some (rows ++ (r ∷ [])) → ((xs : List Row) → some ≡ Some xs → more ≡ Some (xs ++ (r ∷ [])) → all_tightened types (answer_claims t.atom t.held) ≡ Some (r ∷ [])) → all_tightened types (answer_claims t.atom t.held) ≡ Some (r ∷ [])
    by_row None some more h k i = absurd (cc)
    by_row (Some x) None more h k i = absurd (cc)
    by_row (Some x) (Some xs) None h k i = absurd (cc)
    by_row (Some x) (Some xs) (Some ys) h k i =
        let m : x ∷ xs ≡ rows = cc in
        let n : Some (x ∷ ys) ≡ Some (x ∷ (xs ++ (r ∷ []))) = k ∙ ap (λ zs. Some (zs ++ (r ∷ []))) (sym m) in
        i xs refl (cc)

    by_question : (q : Atom) (held : Bool) → all_tightened types (answer_claims q held ++ path_claims ps) ≡ Some rows → all_tightened types (answer_claims q held ++ path_claims (ps ++ (t ∷ []))) ≡ Some (rows ++ (r ∷ [])) → ((xs : List Row) → all_tightened types (path_claims ps) ≡ Some xs → all_tightened types (path_claims (ps ++ (t ∷ []))) ≡ Some (xs ++ (r ∷ [])) → all_tightened types (answer_claims t.atom t.held) ≡ Some (r ∷ [])) → all_tightened types (answer_claims t.atom t.held) ≡ Some (r ∷ [])
    by_question (Atom.truth x) held h k i = i rows h k
    by_question (Atom.row a strict) held h k i = by_row (tightened types (if held then claim a strict else claim (negated a) (not strict))) (all_tightened types (path_claims ps)) (all_tightened types (path_claims (ps ++ (t ∷ [])))) h k i

pub row_behind : (g : Goal) (ps : List Taken) (q : Atom) (held : Bool) (rows : List Row) (r : Row) → ArePathRows g ps rows → IsRowOf g.types q held r → ArePathRows g (onto ps q held) (rows ++ (r ∷ []))
row_behind g ps q held rows r h e = record { are_rows = grown (types_in g.types) ps (record { atom = q; held = held }) rows r h.are_rows e }

pub row_alone : (g : Goal) (ps : List Taken) (q : Atom) (held : Bool) (rows : List Row) (r : Row) → ArePathRows g ps rows → ArePathRows g (onto ps q held) (rows ++ (r ∷ [])) → IsRowOf g.types q held r
row_alone g ps q held rows r h k = taken_alone (types_in g.types) ps (record { atom = q; held = held }) rows r h.are_rows k.are_rows
