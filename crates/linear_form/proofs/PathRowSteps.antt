-- The rows of a path's comparisons, answer by answer.
use Rattle.std.proofs.Common.{◌≡◌, ◌+◌, List, [], ◌∷◌, ◌++◌, take, length, refl, sym, ap, ◌∙◌, append_assoc, Bool}
use Rattle.std.specs.Prelude.{Option, Some, None}
use Rattle.std.proofs.lemmas.List.{append-nil, length-append}
use Rattle.std.proofs.Math.Seq.{take-append_seam}
use Prim.Native.Nat.{suc}
use Rattle.heylo_formula.specs.Goals.{Goal}
use Rattle.heylo_formula.specs.Typing.{Types, types_in}
use Rattle.linear_rows.specs.Row.{Row}
use Rattle.linear_form.specs.Query.{Atom, Taken, onto}
use Rattle.linear_values.specs.Tightening.{Claim, tightened, with_row, all_tightened}
use Rattle.linear_form.specs.PathRows.{answer_claims, path_claims}
use Rattle.linear_form.specs.RowLists.{ArePathRows}
use Rattle.linear_form.proofs.RowsOfClaims.{joined, tightened_append}

pub claims_append : (ps qs : List Taken) → path_claims (ps ++ qs) ≡ path_claims ps ++ path_claims qs
claims_append [] qs = refl
claims_append (p ∷ ps) qs = ap (λ ks. answer_claims p.atom p.held ++ ks) (claims_append ps qs) ∙ sym (append_assoc (answer_claims p.atom p.held) (path_claims ps) (path_claims qs))

pub claims_onto : (ps : List Taken) (q : Atom) (held : Bool) → path_claims (onto ps q held) ≡ path_claims ps ++ answer_claims q held
claims_onto ps q held = claims_append ps (record { atom = q; held = held } ∷ []) ∙ ap (λ ks. path_claims ps ++ ks) (append-nil (answer_claims q held))

pub counted : (types : Types) (ks : List Claim) (rows : List Row) → all_tightened types ks ≡ Some rows → length rows ≡ length ks
counted types [] rows e = let k : [] ≡ rows = cc in ap length (sym k)
counted types (k ∷ ks) rows e = go (tightened types k) (all_tightened types ks) refl e (counted types ks)
  where
    go : (o : Option Row) (p : Option (List Row)) → all_tightened types ks ≡ p → with_row o p ≡ Some rows → ((qs : List Row) → all_tightened types ks ≡ Some qs → length qs ≡ length ks) → length rows ≡ suc (length ks)
    go (Some r) (Some qs) b e ih = let i : (r ∷ qs) ≡ rows = cc in ap length (sym i) ∙ ap suc (ih qs b)
    go (Some r) None b e ih = absurd (cc)
    go None (Some qs) b e ih = absurd (cc)
    go None None b e ih = absurd (cc)

pub first_rows : (types : Types) (ks ls : List Claim) (rows : List Row) → all_tightened types (ks ++ ls) ≡ Some rows → all_tightened types ks ≡ Some (take (length ks) rows)
first_rows types ks ls rows e = go (all_tightened types ks) (all_tightened types ls) refl (sym (tightened_append types ks ls) ∙ e)
  where
    go : (o p : Option (List Row)) → all_tightened types ks ≡ o → joined o p ≡ Some rows → all_tightened types ks ≡ Some (take (length ks) rows)
    go (Some qs) (Some bs) a e = let i : (qs ++ bs) ≡ rows = cc in a ∙ ap Some (sym (take-append_seam qs bs) ∙ ap (λ n. take n (qs ++ bs)) (counted types ks qs a) ∙ ap (λ z. take (length ks) z) i)
    go (Some qs) None a e = absurd (cc)
    go None p a e = absurd (cc)

pub rows_counted : (g : Goal) (ps : List Taken) (rows : List Row) → ArePathRows g ps rows → length rows ≡ length (path_claims ps)
rows_counted g ps rows h = counted (types_in g.types) (path_claims ps) rows h.are_rows

pub path_rows_first : (g : Goal) (ps qs : List Taken) (rows : List Row) → ArePathRows g (ps ++ qs) rows → ArePathRows g ps (take (length (path_claims ps)) rows)
path_rows_first g ps qs rows h = record { are_rows = first_rows (types_in g.types) (path_claims ps) (path_claims qs) rows (ap (all_tightened (types_in g.types)) (sym (claims_append ps qs)) ∙ h.are_rows) }

pub claims_counted : (ps : List Taken) (q : Atom) (held : Bool) → length (path_claims (onto ps q held)) ≡ length (path_claims ps) + length (answer_claims q held)
claims_counted ps q held = ap length (claims_onto ps q held) ∙ length-append (path_claims ps) (answer_claims q held)
