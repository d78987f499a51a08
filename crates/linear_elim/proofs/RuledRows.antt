-- Properties of rows that are preserved when the rows are tidied by a rule.
use Rattle.std.proofs.Common.{◌≡◌, List, [], ◌∷◌, refl, ap, subst, sym, Bool, true, false, cond, not}
use Rattle.std.specs.Prelude.{None}
use Rattle.std.specs.List.{All, filter}
use Rattle.std.proofs.lemmas.List.Elements.{All-nil, All-filter, All-map, filter_passes}
use Rattle.linear_rows.specs.Row.{Row}
use Rattle.linear_rows.specs.Points.{Point, Meets}
use Rattle.linear_dominance.specs.DominatedRows.{is_dominated}
use Rattle.linear_dominance.specs.DominatedRows as plain
use Rattle.linear_dominance.proofs.exported.LeftRows.{undominated_tell}
use Rattle.linear_elim.specs.Joins.{Derived}
use Rattle.linear_elim.specs.Steps.{bare, undominated, has_terms, tidied, contradiction}
use Rattle.linear_elim.specs.Elimination.{Rule, tidied_by}
use Rattle.linear_elim.specs.Elimination.Rule.{keeps, drops}
use Rattle.linear_elim.proofs.Solutions.{MeetsIn, all_map-out}
use Rattle.linear_elim.proofs.TidyRows.{tidied-all, tidied-out, strongest-all}

filter-bare : (p : Row → Bool) (rows : List Derived) → filter p (bare rows) ≡ bare (filter (λ d. p d.row) rows)
filter-bare p [] = refl
filter-bare p (d ∷ ds) = go (p d.row) (filter-bare p ds)
  where
    go : (b : Bool) → filter p (bare ds) ≡ bare (filter (λ d. p d.row) ds) → cond b (d.row ∷ filter p (bare ds)) (filter p (bare ds)) ≡ bare (cond b (d ∷ filter (λ d. p d.row) ds) (filter (λ d. p d.row) ds))
    go true e = ap (λ rs. d.row ∷ rs) e
    go false e = e

undominated-is : (rows : List Derived) → plain.undominated (bare rows) ≡ bare (undominated rows)
undominated-is rows = filter-bare (λ r. not (is_dominated (bare rows) r)) rows

undominated-out : (w : Point) (rows : List Derived) → All (MeetsIn w) (undominated rows) → All (MeetsIn w) rows
undominated-out w rows h = all_map-out (Meets w) (λ d. d.row) rows (undominated_tell w (bare rows) (subst (All (Meets w)) (sym (undominated-is rows)) (All-map (Meets w) (λ d. d.row) (undominated rows) h)))

pub ruled-all : (rule : Rule) (P : Derived → Type 0) (rows : List Derived) → All P rows → All P (tidied_by rule rows)
ruled-all keeps P rows h = tidied-all P rows h
ruled-all drops P rows h = All-filter (λ d. not (is_dominated (bare (tidied rows)) d.row)) P (tidied rows) (tidied-all P rows h)

pub ruled-out : (rule : Rule) (w : Point) (rows : List Derived) → contradiction rows ≡ None → All (MeetsIn w) (tidied_by rule rows) → All (MeetsIn w) rows
ruled-out keeps w rows e h = tidied-out w rows e h
ruled-out drops w rows e h = tidied-out w rows e (undominated-out w (tidied rows) h)

tidied-terms : (rows : List Derived) → All (λ r. has_terms r.row.terms ≡ true) (tidied rows)
tidied-terms rows = strongest-all (λ r. has_terms r.row.terms ≡ true) [] _ (All-nil _) (filter_passes (λ r. has_terms r.row.terms) rows)

pub ruled-terms : (rule : Rule) (rows : List Derived) → All (λ r. has_terms r.row.terms ≡ true) (tidied_by rule rows)
ruled-terms keeps rows = tidied-terms rows
ruled-terms drops rows = All-filter (λ d. not (is_dominated (bare (tidied rows)) d.row)) (λ r. has_terms r.row.terms ≡ true) (tidied rows) (tidied-terms rows)
