-- The solutions of the rows of a path, and the end of a path.
use Rattle.std.proofs.Common.{◌≡◌, ℕ, List, Bool, true, false, refl, sym, ◌∙◌, ap, subst}
use Rattle.std.specs.Prelude.{Option, Some, None, is_some, is_none, not, IsTrue}
use Rattle.heylo_formula.specs.Goals.{Goal}
use Rattle.heylo_formula.specs.State.{environment, number_of}
use Rattle.heylo_formula.specs.declared.values.Val.{Val}
use Rattle.linear_form.specs.Query.{Query, Taken}
use Rattle.linear_form.specs.Query.Query.{done, bits, ask}
use Rattle.linear_form.specs.Questions.{Ends}
use Rattle.linear_form.specs.Paths.{end_at}
use Rattle.linear_form.specs.PathRows.{rows_of, denial, denial_at}
use Rattle.linear_values.specs.PlainValues.{linear_of}
use Rattle.linear_form.specs.PlainPaths.{atom_of}
use Rattle.linear_values.specs.Tightening.{Claim}
use Rattle.linear_rows.specs.Row.{Row}
use Rattle.linear_form.specs.AskAnswers.{Answers}
use Rattle.linear_form.specs.LastingPaths.{IsNoEnd}
use Rattle.linear_rows.specs.Solutions.{IsSolvable}
use Rattle.linear_rows.specs.Combination.{IsContradiction}
use Rattle.linear_rows.specs.GreedyPoint.{IsGreedyPoint}
use Rattle.linear_form.specs.Cells.{IsDropped, IsKeptPath, GoesOn}
use Rattle.linear_form.specs.declared.questions.Ask as K
use Rattle.linear_form.specs.declared.paths.Atom as A
use Rattle.linear_values.specs.declared.lin.Lin as L
use Rattle.linear_rows.proofs.exported.Combinations.{contradiction_unsolvable}
use Rattle.linear_elim.specs.Answers.{HasNarrowEnds, IsBreak, MeetsAll, IsTooGreat, IsShortLimited, eliminated}
use Rattle.linear_elim.specs.Elimination.Outcome.{too_many}
use Rattle.goal_answers.specs.declared.causes.Broken.{Broken}
use Rattle.goal_answers.specs.declared.causes.Cause.TheVariants.{Bits, Rows}
use Rattle.farkas_check.specs.AcceptedCertificates.{has_denied, IsRefutedWith}
use Rattle.region_split.specs.Decisions.{Eliminates, IsLarge}
use Rattle.region_split.specs.internal.PathFindings.{Looks, EndsWalk, IsPointAt, IsBreakAt, IsMetAt, IsEnd}
use Rattle.region_split.specs.internal.Trails.{IsDroppedBy}

-- ---- The answers of the elimination

pub has_point : (g : Goal) (ps : List Taken) (denied : Bool) (rows : List Row) (point : List Val) → rows_of g ps denied ≡ Some rows → IsGreedyPoint rows g.types point → MeetsAll point rows → IsPointAt g ps denied point
has_point g ps denied rows point e greedy meets = record { rows = rows; are_rows = e; solvable = record { at_values = λ x. number_of (environment point x); meets = meets }; greedy = greedy }

pub has_break : (g : Goal) (ps : List Taken) (denied : Bool) (rows : List Row) (b : Broken) → rows_of g ps denied ≡ Some rows → IsBreak rows g.types b × HasNarrowEnds b → IsBreakAt g ps denied b
has_break g ps denied rows b e h = record { rows = rows; are_rows = e; broken = h.0; narrow = h.1 }

looks : (g : Goal) (ps : List Taken) (denied : Bool) (rows : List Row) (cells : List (List Taken)) → rows_of g ps denied ≡ Some rows → Looks g ps denied cells → Eliminates g ps rows
looks g ps false rows cells e r = Eliminates.of_front cells r e
looks g ps true rows cells e r = Eliminates.of_piece r.0 cells r.1 e

pub great_rows : (g : Goal) (ps : List Taken) (denied : Bool) (rows : List Row) → rows_of g ps denied ≡ Some rows → IsTooGreat rows g.types × IsShortLimited rows g.types → EndsWalk g ps denied Bits
great_rows g ps denied rows e h cells r linear = (linear, IsLarge.in_elimination ps rows (looks g ps denied rows cells e r) h.0 h.1)

pub many_rows : (g : Goal) (ps : List Taken) (denied : Bool) (rows : List Row) (steps count : ℕ) → rows_of g ps denied ≡ Some rows → (eliminated rows g.types ≡ too_many steps count) × IsShortLimited rows g.types → EndsWalk g ps denied (Rows steps count)
many_rows g ps denied rows steps count e h cells r linear = (linear, record { path = ps; rows = rows; eliminates = looks g ps denied rows cells e r; too_many_rows = h.0; short = h.1 })

pub no_rows : (g : Goal) (ps : List Taken) (denied : Bool) → rows_of g ps denied ≡ None → EndsWalk g ps denied Bits
no_rows g ps false e cells r linear = (linear, IsLarge.in_rows ps cells r e)
no_rows g ps true e cells r linear = (linear, IsLarge.in_piece r.0 ps cells r.1 e)

-- ---- The proposals of the search

pub refuted_rows : (g : Goal) (ps : List Taken) (denied : Bool) (rows : List Row) (ms : List (ℕ × ℕ)) → rows_of g ps denied ≡ Some rows → IsContradiction ms rows → IsRefutedWith g ps denied ms
refuted_rows g ps denied rows ms e h = record { rows = rows; are_rows = e; contradiction = h }

pub met_rows : (g : Goal) (ps : List Taken) (denied : Bool) (rows : List Row) → rows_of g ps denied ≡ Some rows → IsSolvable rows → IsMetAt g ps denied
met_rows g ps denied rows e h = record { rows = rows; are_rows = e; solvable = h }

pub met_by_point : (g : Goal) (ps : List Taken) (denied : Bool) (point : List Val) → IsPointAt g ps denied point → IsMetAt g ps denied
met_by_point g ps denied point p = record { rows = p.rows; are_rows = p.are_rows; solvable = p.solvable }

pub met_by_break : (g : Goal) (ps : List Taken) (denied : Bool) (b : Broken) → IsBreakAt g ps denied b → IsMetAt g ps denied
met_by_break g ps denied b p = record { rows = p.rows; are_rows = p.are_rows; solvable = p.broken.solvable }

-- ---- Paths that are dropped, and paths that are not

pub same_rows : (g : Goal) (ps : List Taken) (denied : Bool) (rows others : List Row) → rows_of g ps denied ≡ Some rows → rows_of g ps denied ≡ Some others → rows ≡ others
same_rows g ps denied rows others e f = let k = sym e ∙ f in cc

pub is_dropped : (g : Goal) (ps : List Taken) (ms : List (ℕ × ℕ)) → IsRefutedWith g ps false ms → IsDropped g ps
is_dropped g ps ms r = record { rows = r.rows; are_rows = r.are_rows; unsolvable = contradiction_unsolvable ms r.rows r.contradiction }

pub kept_where_met : (g : Goal) (ps : List Taken) → IsMetAt g ps false → IsKeptPath g ps
kept_where_met g ps p = record { rows = p.rows; are_rows = p.are_rows; solvable = p.solvable }

-- ---- The kinds of paths

pub is_bits : (t : Query Ends) → Answers K.TheVariants.Bits t → t ≡ bits
is_bits (done e) h = absurd h
is_bits bits h = refl
is_bits (ask q y n) h = absurd h

pub bits_there : (g : Goal) (ps : List Taken) → IsKeptPath g ps → Answers K.TheVariants.Bits (end_at g ps) → EndsWalk g ps false Bits
bits_there g ps k a cells r linear = (linear, IsLarge.in_values ps cells r k (is_bits (end_at g ps) a))

pub question_there : (g : Goal) (ps : List Taken) (q : A.Atom) → IsKeptPath g ps → Answers (K.TheVariants.Decide q) (end_at g ps) → GoesOn g ps (atom_of q)
question_there g ps q k a = go (end_at g ps) refl a
  where
    go : (t : Query Ends) → end_at g ps ≡ t → Answers (K.TheVariants.Decide q) t → GoesOn g ps (atom_of q)
    go (done e) h b = absurd b
    go bits h b = absurd b
    go (ask r y n) h b = subst (GoesOn g ps) (sym b) (record { kept = k; asks = record { yes = y; no = n; question = h } })

none_where : (b : Bool) (o : Option Claim) → b ≡ is_none o → IsTrue b → o ≡ None
none_where b None h t = refl
none_where true (Some k) h t = absurd (cc)
none_where false (Some k) h t = absurd (cc)

true_where : (b : Bool) (o : Option Claim) → b ≡ is_none o → o ≡ None → IsTrue b
true_where true o h e = refl
true_where false None h e = absurd (cc)
true_where false (Some k) h e = absurd (cc)

ends_there : (x y : Option L.Lin) (t : Query Ends) → Answers (K.TheVariants.End x y) t → t ≡ done (linear_of x, linear_of y)
ends_there x y (done e) a = ap done (sym a)
ends_there x y bits a = absurd a
ends_there x y (ask q r n) a = absurd a

pub end_there : (g : Goal) (ps : List Taken) (x y : Option L.Lin) (plain : Bool) → IsKeptPath g ps → Answers (K.TheVariants.End x y) (end_at g ps) → plain ≡ is_none (denial g.upper (linear_of x, linear_of y)) → IsEnd g ps plain
end_there g ps x y plain k a h =
    let e = ends_there x y (end_at g ps) a in
    record {
      kept = k;
      ends = (linear_of x, linear_of y);
      at_end = e;
      holds_plainly = (
        λ t. record { ends = (linear_of x, linear_of y); at_end = e; plain = none_where plain (denial g.upper (linear_of x, linear_of y)) h t },
        λ p. true_where plain (denial g.upper (linear_of x, linear_of y)) h (ap (denial g.upper) (same_ends p.ends (linear_of x, linear_of y) (sym e ∙ p.at_end)) ∙ p.plain),
      );
    }
  where
    same_ends : (d f : Ends) → done f ≡ done d → f ≡ d
    same_ends d f q = cc

undenied_bits : (upper : Bool) (t : Query Ends) → Answers K.TheVariants.Bits t → is_some (denial_at upper t) ≡ false
undenied_bits upper t a = ap (λ s. is_some (denial_at upper s)) (is_bits t a)

pub dropped_by : (g : Goal) (ps : List Taken) (denied : Bool) (ms ns : List (ℕ × ℕ)) → has_denied g ps ≡ denied → IsRefutedWith g ps false ms → IsRefutedWith g ps denied ns → IsDroppedBy g ps ns
dropped_by g ps denied ms ns e d r = record { dropped = is_dropped g ps ms d; refuted = subst (λ b. IsRefutedWith g ps b ns) (sym e) r }

pub bits_undenied : (g : Goal) (ps : List Taken) → Answers K.TheVariants.Bits (end_at g ps) → has_denied g ps ≡ false
bits_undenied g ps a = undenied_bits g.upper (end_at g ps) a

undenied_question : (upper : Bool) (q : A.Atom) (t : Query Ends) → Answers (K.TheVariants.Decide q) t → is_some (denial_at upper t) ≡ false
undenied_question upper q (done e) h = absurd h
undenied_question upper q bits h = absurd h
undenied_question upper q (ask r y n) h = refl

pub question_undenied : (g : Goal) (ps : List Taken) (q : A.Atom) → Answers (K.TheVariants.Decide q) (end_at g ps) → has_denied g ps ≡ false
question_undenied g ps q a = undenied_question g.upper q (end_at g ps) a

pub unended_undenied : (g : Goal) (ps : List Taken) → IsNoEnd g ps → has_denied g ps ≡ false
unended_undenied g ps n = go (end_at g ps) refl
  where
    go : (t : Query Ends) → end_at g ps ≡ t → has_denied g ps ≡ false
    go (done e) h = absurd (n e h)
    go bits h = ap (λ t. is_some (denial_at g.upper t)) h
    go (ask q y m) h = ap (λ t. is_some (denial_at g.upper t)) h

at_an_end : (upper : Bool) (x y : Option L.Lin) (t : Query Ends) → Answers (K.TheVariants.End x y) t → is_some (denial_at upper t) ≡ is_some (denial upper (linear_of x, linear_of y))
at_an_end upper x y (done e) h = ap (λ d. is_some (denial upper d)) (sym h)
at_an_end upper x y bits h = absurd h
at_an_end upper x y (ask r s t) h = absurd h

some_or_none : {A : Type 0} (o : Option A) (b c : Bool) → b ≡ is_none o → b ≡ c → is_some o ≡ not c
some_or_none (Some a) b c e f = let k : c ≡ false = sym f ∙ e in sym (ap not k)
some_or_none None b c e f = let k : c ≡ true = sym f ∙ e in sym (ap not k)

pub end_undenied : (g : Goal) (ps : List Taken) (x y : Option L.Lin) (b : Bool) → Answers (K.TheVariants.End x y) (end_at g ps) → b ≡ is_none (denial g.upper (linear_of x, linear_of y)) → b ≡ true → has_denied g ps ≡ false
end_undenied g ps x y b a e f = at_an_end g.upper x y (end_at g ps) a ∙ some_or_none (denial g.upper (linear_of x, linear_of y)) b true e f

pub end_denied : (g : Goal) (ps : List Taken) (x y : Option L.Lin) (b : Bool) → Answers (K.TheVariants.End x y) (end_at g ps) → b ≡ is_none (denial g.upper (linear_of x, linear_of y)) → b ≡ false → has_denied g ps ≡ true
end_denied g ps x y b a e f = at_an_end g.upper x y (end_at g ps) a ∙ some_or_none (denial g.upper (linear_of x, linear_of y)) b false e f

-- ---- A dropped end

pub unstated : (g : Goal) (ps : List Taken) (ms : List (ℕ × ℕ)) → IsRefutedWith g ps false ms → rows_of g ps true ≡ None → EndsWalk g ps false Bits
unstated g ps ms d e cells r linear = (linear, IsLarge.in_denied_goal ps cells r (is_dropped g ps ms d) e)

pub rows_there : (g : Goal) (ps : List Taken) (ms : List (ℕ × ℕ)) → IsRefutedWith g ps false ms → rows_of g ps false ≡ None → ⊥
rows_there g ps ms d e = let k = sym e ∙ d.are_rows in absurd (cc)
