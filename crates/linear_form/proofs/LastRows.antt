-- The rows of a path with one more answer, from those of the answer alone.
use Rattle.std.proofs.Common.{◌≡◌, List, [], ◌∷◌, ◌++◌, length, sym, ap, ap₂, ◌∙◌, subst, arith, Bool}
use Rattle.std.specs.Prelude.{Some, None}
use Rattle.heylo_formula.specs.Goals.{Goal}
use Rattle.heylo_formula.specs.Typing.{Types, types_in}
use Rattle.heylo_formula.specs.declared.types.Ty.{Ty}
use Rattle.linear_rows.specs.Row.{Row}
use Rattle.linear_form.specs.Query.{Atom, Taken, onto}
use Rattle.linear_values.specs.Tightening.{Claim, all_tightened}
use Rattle.linear_form.specs.PathRows.{answer_claims, path_claims, rows_of}
use Rattle.linear_form.specs.PlainPaths.{path_of, taken_of, atom_of}
use Rattle.linear_form.specs.RowLists.{Lists, ArePathRows, AreLastRows}
use Rattle.linear_form.specs.internal.FurtherRows.{rows_with}
use Rattle.linear_form.specs.declared.path_rows.RowList.{RowList}
use Rattle.linear_form.specs.declared.paths.Taken as T
use Rattle.linear_form.proofs.RowsOfClaims.{joined, none_before, tightened_append}
use Rattle.linear_form.proofs.PathRowSteps.{claims_onto}
use Rattle.linear_form.proofs.GrowingRows.{same_last, path_of_last, none_lacks}

-- ---- The rows of an answer

pub no_answer : (g : Goal) (xs : List T.Taken) (r : RowList) → length xs ≡ 0 → AreLastRows g (path_of xs) r
no_answer g [] r e before last k = absurd (none_lacks before last k)
no_answer g (x ∷ xs) r e before last k = absurd (omega (arith, e))

pub answer_rows : (g : Goal) (tys : List Ty) (xs rest : List T.Taken) (t : T.Taken) (none : List Row) (r : RowList) → tys ≡ g.types → none ≡ [] → xs ≡ rest ++ (t ∷ []) → Lists r (rows_with (types_in tys) none (answer_claims (atom_of t.atom) t.held)) → AreLastRows g (path_of xs) r
answer_rows g tys xs rest t none r i n e h before last k =
    let m = same_last before (path_of rest) last (taken_of t) (sym k ∙ ap path_of e ∙ path_of_last rest t) in
    subst (Lists r) (ap₂ (λ a b. rows_with (types_in a) b (answer_claims (atom_of t.atom) t.held)) i n ∙ none_before (all_tightened (types_in g.types) (answer_claims (atom_of t.atom) t.held)) ∙ ap (λ p. all_tightened (types_in g.types) (answer_claims p.atom p.held)) (sym m.1)) h

-- ---- The rows of the longer path

onto_claims : (g : Goal) (ps : List Taken) (q : Atom) (held : Bool) → all_tightened (types_in g.types) (path_claims (onto ps q held)) ≡ joined (all_tightened (types_in g.types) (path_claims ps)) (all_tightened (types_in g.types) (answer_claims q held))
onto_claims g ps q held = ap (all_tightened (types_in g.types)) (claims_onto ps q held) ∙ tightened_append (types_in g.types) (path_claims ps) (answer_claims q held)

pub more_rows : (g : Goal) (ps : List Taken) (q : Atom) (held : Bool) (rows more : List Row) → ArePathRows g ps rows → all_tightened (types_in g.types) (answer_claims q held) ≡ Some more → ArePathRows g (onto ps q held) (rows ++ more)
more_rows g ps q held rows more h e = record { are_rows = onto_claims g ps q held ∙ ap₂ joined h.are_rows e }

pub lost_here : (g : Goal) (ps : List Taken) (q : Atom) (held : Bool) (rows : List Row) → ArePathRows g ps rows → all_tightened (types_in g.types) (answer_claims q held) ≡ None → all_tightened (types_in g.types) (path_claims (onto ps q held)) ≡ None
lost_here g ps q held rows h e = onto_claims g ps q held ∙ ap₂ joined h.are_rows e

pub lost_before : (g : Goal) (ps : List Taken) (q : Atom) (held : Bool) → all_tightened (types_in g.types) (path_claims ps) ≡ None → all_tightened (types_in g.types) (path_claims (onto ps q held)) ≡ None
lost_before g ps q held e = onto_claims g ps q held ∙ ap (λ o. joined o (all_tightened (types_in g.types) (answer_claims q held))) e

lost_more : (types : Types) (ks ls : List Claim) → all_tightened types ks ≡ None → all_tightened types (ks ++ ls) ≡ None
lost_more types ks ls e = tightened_append types ks ls ∙ ap (λ o. joined o (all_tightened types ls)) e

pub lost_rows : (g : Goal) (ps : List Taken) (denied : Bool) → all_tightened (types_in g.types) (path_claims ps) ≡ None → rows_of g ps denied ≡ None
lost_rows g ps denied e = lost_more (types_in g.types) _ _ (lost_more (types_in g.types) (path_claims ps) _ e)
