-- A known comparison has the same rows wherever the path asks it.
use Rattle.std.proofs.Common.{◌≡◌, List, [], ◌∷◌, ◌++◌, refl, sym, ◌∙◌, subst, Bool, true, false}
use Rattle.heylo_formula.specs.Goals.{Goal}
use Rattle.linear_form.specs.Query.{Atom, Taken, onto}
use Rattle.linear_rows.specs.Row.{Row}
use Rattle.linear_form.specs.RowLists.{ArePathRows}
use Rattle.region_split.specs.internal.KnownComparisons.{AreKnown, IsRowOf}
use Rattle.region_split.specs.internal.Trails.{AreRowsSoFar, StandsAt}
use Rattle.region_split.specs.internal.Repeats.{AreAnswerRows}
use Rattle.region_split.specs.declared.answer_rows.AnswerRows.{AnswerRows}
use Rattle.region_split.specs.declared.known_comparisons.Known.{Known}
use Rattle.region_split.specs.declared.trail.Trail.{Trail}
use Rattle.region_split.proofs.WalkMoves.{snoc_first}
use Rattle.region_split.proofs.Trails.{rows_before_last, stands_still}
use Rattle.region_split.proofs.KnownRows.{row_behind, row_alone}

pub known_further : (g : Goal) (ps : List Taken) (a q : Atom) (t : Trail) (rows : AnswerRows) (known : List Known) → (a ≡ q) × AreAnswerRows g ps q t rows → (AreKnown g.types t.atoms → IsRowOf g.types a true rows.yes → IsRowOf g.types a false rows.no → AreKnown g.types known) → StandsAt g ps (record { path = t.path; places = t.places; rows = t.rows; atoms = known; occurrences = t.occurrences; search = t.search })
known_further g ps a q t rows known k h =
    let at = k.1.at in
    let own = subst (λ qs. ArePathRows g qs t.rows.items) at.path at.stands.rows in
    let yes = subst (λ x. IsRowOf g.types x true rows.yes) (sym k.0) (row_alone g ps q true t.rows.items rows.yes own k.1.yes) in
    let no = subst (λ x. IsRowOf g.types x false rows.no) (sym k.0) (row_alone g ps q false t.rows.items rows.no own k.1.no) in
    record { stands = (stands_still g t _ at.stands refl refl refl refl refl (h at.stands.known yes no)).stands; path = at.path }

pub last_row_known : (g : Goal) (ps before : List Taken) (q : Atom) (held : Bool) (rows more : List Row) (r copy : Row) → AreRowsSoFar g ps rows → ps ≡ onto before q held → IsRowOf g.types q held r → copy ≡ r → more ≡ rows ++ (copy ∷ []) → ArePathRows g ps more
last_row_known g ps before q held rows more r copy h e k c m =
    let l = rows_before_last g ps before (record { atom = q; held = held }) rows h e in
    let i = snoc_first l.before before l.last (record { atom = q; held = held }) (sym l.split ∙ e) in
    let b = row_behind g before q held rows copy (subst (λ qs. ArePathRows g qs rows) i l.are_rows) (subst (IsRowOf g.types q held) (sym c) k) in
    subst (ArePathRows g ps) (sym m) (subst (λ qs. ArePathRows g qs (rows ++ (copy ∷ []))) (sym e) b)
