-- Rows that are counted and not stored: a table has a place for each different list of terms.
use Rattle.linear_rows.specs.Terms.{coefficient}
use Rattle.linear_elim.specs.Elimination.{Step}
use Rattle.linear_elim.specs.Joins.{Derived, is_below_zero, is_above_zero, join, join_fits}
use Rattle.linear_rows.specs.SameTerms.{same_terms}
use Rattle.linear_elim.specs.Steps.{has_terms, pairs_fit, pairs}
use Rattle.linear_elim.specs.declared.join_counts.Counted.{Counted}
use Rattle.linear_elim.specs.declared.join_counts.Counted.TheVariants.{Great, Rows, Uncounted}
use Rattle.linear_elim.specs.declared.tables.Place.{Place}
use Rattle.linear_elim.specs.declared.tables.Place.TheVariants.{Taken, Free, Unknown}
use Rattle.linear_elim.specs.declared.tables.Name.{Name}
use Rattle.linear_elim.specs.declared.tables.Table.{Table}
use Rattle.linear_elim.specs.internal.DerivedRows.{IsDerived}
use Rattle.linear_elim.specs.internal.Fingerprints.{hashed, fingerprint}
use Rattle.linear_elim.specs.internal.GatheredRows.{found_all, rows_all}
use Rattle.linear_elim.specs.internal.Signless.{AreSignless}
use Rattle.std.specs.List.{All}
use Rattle.std.specs.Prelude.{◌≡◌, ℕ, ◌+◌, ◌*◌, ◌<◌, ◌≤◌, ◌/◌, ◌%◌, ◌^◌, List, [], ◌∷◌, ◌++◌}
use Rattle.std.specs.Prelude.{length, get_or, map, ℤ, pos, true, false, cond, ltb, None}

-- `put_terms t ks`: the lists `ks` with the list `t` added, unless it is there.
unfoldable pub put_terms : List (ℕ × ℤ) → List (List (ℕ × ℤ)) → List (List (ℕ × ℤ))
put_terms t [] = t ∷ []
put_terms t (k ∷ ks) = cond (same_terms k t) (k ∷ ks) (k ∷ put_terms t ks)

unfoldable pub puts : List (List (ℕ × ℤ)) → List (List (ℕ × ℤ)) → List (List (ℕ × ℤ))
puts [] ks = ks
puts (t ∷ ts) ks = puts ts (put_terms t ks)

abbrev pub all_terms : List Derived → List (List (ℕ × ℤ))
all_terms ds = map (λ d. d.row.terms) ds

-- `terms_of ds`: the terms of the rows that have some.
unfoldable pub terms_of : List Derived → List (List (ℕ × ℤ))
terms_of [] = []
terms_of (d ∷ ds) = cond (has_terms d.row.terms) (d.row.terms ∷ terms_of ds) (terms_of ds)

-- `AreDifferent ks`: no two rows have the same terms.
abbrev pub AreDifferent : List Derived → Type 0
AreDifferent ks = puts (all_terms ks) [] ≡ all_terms ks

abbrev pub no_row : Derived
no_row = record { row = record { terms = []; rest = pos 0; strict = false }; shares = []; over = 0 }

abbrev pub nth : List Derived → ℕ → Derived
nth ds i = get_or ds i no_row

-- `IsSplit s`: the rows of the step `s` bound its variable from below and from above.
pub record IsSplit (s : Step) : Type 0 where
  pub lows_derived : All IsDerived s.lows
  pub ups_derived : All IsDerived s.ups
  pub lower : All (λ l. is_below_zero (coefficient s.var l.row.terms) ≡ true) s.lows
  pub upper : All (λ u. is_above_zero (coefficient s.var u.row.terms) ≡ true) s.ups

-- `join_at s i j`: the combination of lower row number `i` and upper row number `j`.
abbrev pub join_at : Step → ℕ → ℕ → Derived
join_at s i j = join s.var (nth s.lows i) (nth s.ups j)

abbrev pub fits_at : Step → ℕ → ℕ → Type 0
fits_at s i j = join_fits s.var (nth s.lows i) (nth s.ups j) ≡ true

-- `terms_at s ks n`: the terms named `n`: those of a combination or, if `n.low` is not the number
-- of a lower row, those of a kept row.
unfoldable pub terms_at : Step → List Derived → Name → List (ℕ × ℤ)
terms_at s ks n = cond (ltb n.low (length s.lows)) (join_at s n.low n.up).row.terms
    (nth ks n.up).row.terms

-- `IsNumberOf n s i j`: `n` is 0, or the fingerprint of a combination that fits.
abbrev pub IsNumberOf : ℕ → Step → ℕ → ℕ → Type 0
IsNumberOf n s i j = (n ≡ 0 → ⊥) → (n ≡ fingerprint (join_at s i j).row.terms) × fits_at s i j

-- `AreNumbersOf numbers s i`: such numbers for the combinations of lower row number `i` with each
-- upper row.
pub record AreNumbersOf (numbers : List ℕ) (s : Step) (i : ℕ) : Type 0 where
  pub as_many : length numbers ≡ length s.ups
  pub each : (j : ℕ) → j < length s.ups → IsNumberOf (get_or numbers j 0) s i j

-- `print_of n`: the part of the fingerprint `n` that a table stores; 0 marks an empty place.
abbrev pub print_of : ℕ → ℕ
print_of n = n % 65535 + 1

-- `home places n`: the first place to try for the fingerprint `n`, among `places`.
unfoldable pub home : ℕ → ℕ → ℕ
home places n = hashed n 0 * places / 2 ^ 64

abbrev pub no_name : Name
no_name = record { low = 0; up = 0 }

abbrev pub print_at : List ℕ → ℕ → ℕ
print_at prints j = get_or prints j 0

abbrev pub name_at : List Name → ℕ → Name
name_at names j = get_or names j no_name

abbrev pub IsFull : List ℕ → ℕ → Type 0
IsFull prints j = print_at prints j ≡ 0 → ⊥

-- `IsAt f places prints names t`: the terms `t` are in the table at their first place or after it,
-- with no empty place between; `f` gives the terms of a name.
pub record IsAt (f : Name → List (ℕ × ℤ)) (places : ℕ) (prints : List ℕ) (names : List Name)
    (t : List (ℕ × ℤ)) : Type 0 where
  pub place : ℕ
  pub from : home places (fingerprint t) ≤ place
  pub filled : (j : ℕ) → home places (fingerprint t) ≤ j → j ≤ place → IsFull prints j
  pub print : print_at prints place ≡ print_of (fingerprint t)
  pub terms : f (name_at names place) ≡ t

-- `AreAt f places prints names count seen`: the table has exactly the lists `seen`, and `count` is
-- their number.
pub record AreAt (f : Name → List (ℕ × ℤ)) (places : ℕ) (prints : List ℕ) (names : List Name)
    (count : ℕ) (seen : List (List (ℕ × ℤ))) : Type 0 where
  pub sound : (j : ℕ) → IsFull prints j → put_terms (f (name_at names j)) seen ≡ seen
  pub complete : All (IsAt f places prints names) seen
  pub counted : count ≡ length seen

abbrev pub IsTable : (Name → List (ℕ × ℤ)) → Table → List (List (ℕ × ℤ)) → Type 0
IsTable f t seen = AreAt f t.places t.prints.items t.names.items t.count seen

-- `Puts f old new t`: the table `new` has the lists of `old` and the terms `t`.
abbrev pub Puts : (Name → List (ℕ × ℤ)) → Table → Table → List (ℕ × ℤ) → Type 0
Puts f old new t = (seen : List (List (ℕ × ℤ))) → IsTable f old seen
    → IsTable f new (put_terms t seen)

-- `Lacks f table t`: the table does not have the terms `t`.
abbrev pub Lacks : (Name → List (ℕ × ℤ)) → Table → List (ℕ × ℤ) → Type 0
Lacks f table t = (seen : List (List (ℕ × ℤ))) → IsTable f table seen
    → All (λ k. same_terms k t ≡ false) seen

-- `IsOther f prints names t j`: place `j` is used, by terms other than `t`.
abbrev pub IsOther : (Name → List (ℕ × ℤ)) → List ℕ → List Name → List (ℕ × ℤ) → ℕ → Type 0
IsOther f prints names t j =
    IsFull prints j × (print_at prints j ≡ print_of (fingerprint t) → f (name_at names j) ≡ t → ⊥)

-- `IsFree f table t place print`: `place` is the first empty place for the terms `t`, which are at
-- none before it.
pub record IsFree (f : Name → List (ℕ × ℤ)) (table : Table) (t : List (ℕ × ℤ)) (place print : ℕ)
    : Type 0 where
  pub within : place < length table.prints.items
  pub named : place < length table.names.items
  pub empty : print_at table.prints.items place ≡ 0
  pub from : home table.places (fingerprint t) ≤ place
  pub before : (j : ℕ) → home table.places (fingerprint t) ≤ j → j < place
      → IsOther f table.prints.items table.names.items t j
  pub is_print : print ≡ print_of (fingerprint t)

pub record IsTaken (f : Name → List (ℕ × ℤ)) (table : Table) (t : List (ℕ × ℤ)) : Type 0 where
  pub place : ℕ
  pub full : IsFull table.prints.items place
  pub terms : f (name_at table.names.items place) ≡ t

abbrev pub IsPlaceOf : (Name → List (ℕ × ℤ)) → Table → List (ℕ × ℤ) → Place → Type 0
IsPlaceOf f table t Taken = IsTaken f table t
IsPlaceOf f table t (Free place print) = IsFree f table t place print
IsPlaceOf f table t Unknown = Unit {0}

-- `IsCounting f table more all`: with the terms of the rows `more`, the table has the lists `all`.
pub record IsCounting (f : Name → List (ℕ × ℤ)) (table : Table) (more : List Derived)
    (all : List (List (ℕ × ℤ))) : Type 0 where
  pub seen : List (List (ℕ × ℤ))
  pub is_table : IsTable f table seen
  pub whole : puts (terms_of more) seen ≡ all

-- `Counts f old new ds`: the table `new` has the lists of `old` and the terms of the rows `ds`.
abbrev pub Counts : (Name → List (ℕ × ℤ)) → Table → Table → List Derived → Type 0
Counts f old new ds = (more : List Derived) (all : List (List (ℕ × ℤ)))
    → IsCounting f old (ds ++ more) all → IsCounting f new more all

-- `IsCounted x ls us ks c`: the result `c` of counting: whether the combinations fit, the first
-- contradiction, and the number of rows together with the kept ones.
abbrev pub IsCounted : ℕ → List Derived → List Derived → List Derived → Counted → Type 0
IsCounted x ls us ks Great = pairs_fit x ls us ≡ false
IsCounted x ls us ks (Rows found count signless) = (pairs_fit x ls us ≡ true)
    × (found ≡ found_all (pairs x ls us) None) × (count ≡ length (rows_all (pairs x ls us) ks))
IsCounted x ls us ks Uncounted = Unit {0}

-- `IsSignlessCount later x ls us ks c`: if `c` says so, no counted row has the terms of a sign row.
abbrev pub IsSignlessCount : List ℕ → ℕ → List Derived → List Derived → List Derived → Counted
    → Type 0
IsSignlessCount later x ls us ks Great = Unit {0}
IsSignlessCount later x ls us ks (Rows found count signless) = signless ≡ true
    → AreSignless later (rows_all (pairs x ls us) ks)
IsSignlessCount later x ls us ks Uncounted = Unit {0}
