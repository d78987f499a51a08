-- A comparison whose row the path has already: the path is kept with one answer and dropped with
-- the other.
use Rattle.std.proofs.Common.{◌≡◌, ℕ, ◌+◌, ◌≤◌, ◌<◌, List, [], ◌∷◌, ◌++◌, length, take, refl, sym, ap, ◌∙◌, subst, arith, length-append, Bool, true, false}
use Prim.Native.Nat.{suc}
use Rattle.std.specs.Prelude.{None, not}
use Rattle.std.proofs.lemmas.List.{get_or_push, get_or_append_left}
use Rattle.std.proofs.lemmas.List.Elements.{Contains-get_or}
use Rattle.std.proofs.Math.Seq.{take-append_seam}
use Rattle.heylo_formula.specs.Goals.{Goal}
use Rattle.heylo_formula.specs.Typing.{types_in}
use Rattle.linear_form.specs.Query.{Atom, Taken, onto}
use Rattle.linear_rows.specs.Row.{Row}
use Rattle.linear_rows.specs.Combination.{row_at}
use Rattle.linear_form.specs.LastingPaths.{IsNoEnd}
use Rattle.linear_form.specs.Paths.{IsPath}
use Rattle.linear_values.specs.Tightening.{all_tightened}
use Rattle.linear_form.specs.PathRows.{path_claims, answer_claims}
use Rattle.linear_form.specs.PlainPaths.{taken_of, atom_of}
use Rattle.linear_form.specs.declared.paths.Taken as T
use Rattle.linear_form.specs.RowLists.{ArePathRows}
use Rattle.linear_form.specs.RowListLaws.{HasFirstRows, RepeatedRowsStand}
use Rattle.linear_form.specs.Cells.{IsKeptPath, GoesOn}
use Rattle.linear_form.proofs.exported.PathSteps.{asked_onto}
use Rattle.linear_form.proofs.exported.Places.{rows_counted, path_rows_first, claims_counted}
use Rattle.goal_answers.specs.declared.causes.Cause.TheVariants.{Bits}
use Rattle.farkas_check.specs.AcceptedCertificates.{IsRefutedWith}
use Rattle.region_split.specs.Walk.{AreBefore}
use Rattle.region_split.specs.Decisions.{IsLarge}
use Rattle.region_split.specs.internal.Clashes.{Clash}
use Rattle.region_split.specs.internal.PathFindings.{EndsWalk}
use Rattle.region_split.specs.internal.Trails.{IsDroppedBy, StandsAt}
use Rattle.region_split.specs.internal.KnownComparisons.{IsRecalled}
use Rattle.region_split.specs.internal.Repeats.{IsAsked}
use Rattle.region_split.specs.declared.known_comparisons.Recalled.{Recalled}
use Rattle.region_split.specs.declared.trail.Trail.{Trail}
use Rattle.region_split.proofs.ClashingRows.{clash_contradicts}
use Rattle.region_split.proofs.KnownRows.{row_behind}
use Rattle.region_split.proofs.PathAnswers.{dropped_by, unended_undenied}
use Rattle.region_split.proofs.Trails.{same_path_rows, unstated_path}

dropped_other : (g : Goal) (qs : List Taken) (rows : List Row) (other : Row) (i : ℕ) → i < length rows → Clash (row_at rows i) other → IsNoEnd g qs → HasFirstRows g qs (rows ++ (other ∷ [])) → IsDroppedBy g qs ((i, 1) ∷ ((length rows, 1) ∷ []))
dropped_other g qs rows other i l h n f =
    let all = (rows ++ (other ∷ [])) ++ f.signs in
    let a = length-append (rows ++ (other ∷ [])) f.signs in
    let b = length-append rows (other ∷ []) in
    let at_row : row_at all i ≡ row_at rows i = get_or_append_left (rows ++ (other ∷ [])) f.signs _ i (omega (arith, b, l)) ∙ get_or_append_left rows (other ∷ []) _ i l in
    let at_other : row_at all (length rows) ≡ other = get_or_append_left (rows ++ (other ∷ [])) f.signs _ (length rows) (omega (arith, b)) ∙ get_or_push rows other _ (length rows) refl in
    let k : IsRefutedWith g qs false ((i, 1) ∷ ((length rows, 1) ∷ [])) = record { rows = all; are_rows = f.are_rows; contradiction = clash_contradicts all (row_at rows i) other i (length rows) l (omega (arith, a, b)) at_row at_other h } in
    dropped_by g qs false _ _ (unended_undenied g qs n) k k

-- The law on a comparison that the path has answered before.
pub record IsAnsweredBefore (g : Goal) (ps : List Taken) (q : Atom) (rows : List Row) (held : Bool) (i n : ℕ) : Type 0 where
  pub kept : IsKeptPath g (onto ps q held)
  pub are_rows : ArePathRows g (onto ps q held) (rows ++ (row_at rows i ∷ []))
  pub dropped : IsDroppedBy g (onto ps q (not held)) ((i, 1) ∷ ((n, 1) ∷ []))

pub answered : (g : Goal) (ps : List Taken) (q : Atom) (t : Trail) (r : Recalled) (n : ℕ) → RepeatedRowsStand → IsAsked g ps q → StandsAt g ps t → IsRecalled g.types t.rows.items q r → n ≡ length t.rows.items → IsAnsweredBefore g ps q t.rows.items r.held r.index n
answered g ps q t r n law a s k e =
    let rows = t.rows.items in
    let own = subst (λ qs. ArePathRows g qs rows) s.path s.stands.rows in
    let more = row_behind g ps q r.held rows (row_at rows r.index) own k.own in
    let l = law g ps q r.held rows (row_at rows r.index) k.other own more (row_behind g ps q (not r.held) rows k.other own k.others) (Contains-get_or rows r.index _ k.inside) a.goes_on.kept in
    record { kept = l.0; are_rows = more; dropped = subst (λ m. IsDroppedBy g (onto ps q (not r.held)) ((r.index, 1) ∷ ((m, 1) ∷ []))) (sym e) (dropped_other g (onto ps q (not r.held)) rows k.other r.index k.inside k.clash (a.lasts (not r.held)) l.1) }

-- ---- The rows of the answers

pub one_more : (ps : List Taken) (p : T.Taken) → length (answer_claims (atom_of p.atom) p.held) ≡ 1 → length (path_claims (ps ++ (taken_of p ∷ []))) ≡ length (path_claims ps) + 1
one_more ps p e = let c = claims_counted ps (atom_of p.atom) p.held in omega (arith, c, e)

pub last_row : (g : Goal) (ps : List Taken) (t : Taken) (rows more : List Row) → ArePathRows g ps rows → ArePathRows g (ps ++ (t ∷ [])) more → length (path_claims (ps ++ (t ∷ []))) ≡ length (path_claims ps) + 1 → (fewer : List Row) (row : Row) → more ≡ fewer ++ (row ∷ []) → fewer ≡ rows
last_row g ps t rows more h k n fewer row e =
    let f = same_path_rows g ps rows (take (length (path_claims ps)) more) h (path_rows_first g ps (t ∷ []) more k) in
    let a = rows_counted g (ps ++ (t ∷ [])) more k in
    let b = ap length e ∙ length-append fewer (row ∷ []) in
    let m : length (path_claims ps) ≡ length fewer = omega (arith, a, b, n) in
    sym (f ∙ ap (take (length (path_claims ps))) e ∙ ap (λ j. take j (fewer ++ (row ∷ []))) m ∙ take-append_seam fewer (row ∷ []))

pub no_last_row : (g : Goal) (ps : List Taken) (t : Taken) (more : List Row) → ArePathRows g (ps ++ (t ∷ [])) more → length (path_claims (ps ++ (t ∷ []))) ≡ length (path_claims ps) + 1 → length more ≡ 0 → ⊥
no_last_row g ps t more k n e = let a = rows_counted g (ps ++ (t ∷ [])) more k in absurd (omega (arith, a, n, e))

claims_few : (ps : List Taken) → length (path_claims ps) ≤ length ps
claims_few [] = omega arith
claims_few (p ∷ ps) = go p.atom p.held (claims_few ps)
  where
    go : (q : Atom) (held : Bool) → length (path_claims ps) ≤ length ps → length (answer_claims q held ++ path_claims ps) ≤ suc (length ps)
    go (Atom.truth x) held l = omega (arith, l)
    go (Atom.row a strict) held l = omega (arith, l)

pub rows_few : (g : Goal) (ps : List Taken) (rows : List Row) → ArePathRows g ps rows → length rows ≤ length ps
rows_few g ps rows h = let a = rows_counted g ps rows h in let b = claims_few ps in omega (arith, a, b)

pub unstated_yes : (g : Goal) (ps : List Taken) (q : Atom) → GoesOn g ps q → all_tightened (types_in g.types) (path_claims (onto ps q true)) ≡ None → EndsWalk g ps false Bits
unstated_yes g ps q h e cells r linear = (linear, IsLarge.in_rows (onto ps q true) cells (record { are_before = AreBefore.first ps q cells h r.are_before; few = r.few }) (unstated_path g (onto ps q true) e))

pub question_path : (g : Goal) (ps : List Taken) (q : Atom) (held : Bool) → IsPath g ps → GoesOn g ps q → IsPath g (onto ps q held)
question_path g ps q held p h = asked_onto g ps q held p h.asks
