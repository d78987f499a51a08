-- The answers on procedures by their own goals, and the tables of their outcomes.
use Rattle.std.proofs.Common.{◌≡◌, ℕ, ◌+◌, ◌<◌, refl, sym, ap, ◌∙◌, subst, append-nil, append_assoc, arith, Bool, false, List, [], ◌∷◌, ◌++◌, length, map, get_or, take}
use Prim.Native.Nat.{zero, suc}
use Rattle.goal_answers.specs.declared.named_goals.NamedGoal.{NamedGoal}
use Rattle.goal_answers.specs.declared.trees.GoalCert.{GoalCert}
use Rattle.heyvl_acts.specs.Acts.{TypedProcedure, procedure_at}
use Rattle.loop_encodings.specs.BoundGoals.{bound_goals}
use Rattle.verdict_report.specs.declared.answers.Answer.{Answer}
use Rattle.verify_core.specs.NumberedLists.{AllNumbered, row_at}
use Rattle.verify_core.specs.Outcomes.{all_outcomes, all_shown, listed, loop_answer, outcomes, told, told_in_file}
use Rattle.verify_core.specs.Questions.{AreGoals, IsGoalOf}
use Rattle.verify_core.specs.Rankings.{AreRankingGoals, IsRankingGoal, ranked_loops}
use Rattle.verify_core.specs.Tables.{AreFound, GoalWith}
use Rattle.verify_core.specs.Verdicts.{AreAnswers, IsAnswer}
use Rattle.verify_core.specs.declared.outcomes.GoalOutcome.{GoalOutcome}
use Rattle.verify_core.specs.declared.settled_goals.Way.{Way}
use Rattle.verify_core.specs.declared.settled_goals.Way.TheVariants.{Decide, Check}
use Rattle.verify_core.specs.internal.Marks.{AreMarks, IsMark, is_unverified, is_verified}
use Rattle.verify_core.specs.internal.Own.{AreOwn, EachNumbered, IsAnswerBy, IsOwnAnswer, IsOwnBy, IsOwnVerdict, IsRow, IsWhole, Row, bound_outcomes, certs_in, file_certs, gathered, made_in, ranking_outcomes}
use Rattle.verify_core.specs.internal.SettledGoals.{AreSettled, Finding, Finds, certificates_by, outcome_by}
use Rattle.verify_core.proofs.ProcedureKinds.{own_mark}
use Rattle.verify_core.proofs.SettledGoals.{found_row}
use Rattle.verify_core.proofs.SideBySide.{each_more, first_number, next_number, numbered_length, numbered_map, numbered_more}

-- ---- One procedure

pub own_answer : (way : Way) (ps : List TypedProcedure) (p : ℕ) (a : Answer) (gs hs : List NamedGoal) (os rs : List GoalOutcome) (certs middle certs_after : List GoalCert) (made between made_after : List NamedGoal) → AreGoals ps p (bound_goals (procedure_at ps p)) gs → AreRankingGoals ps p (ranked_loops (procedure_at ps p)) hs → AreSettled way gs os certs middle → AreSettled way hs rs middle certs_after → a.name ≡ (procedure_at ps p).name → IsOwnVerdict (procedure_at ps p) os a.verdict → a.loops.items ≡ map loop_answer rs → between ≡ made ++ all_shown (listed (told os)) → made_after ≡ between ++ all_shown rs → IsOwnAnswer way ps p a certs certs_after made made_after
own_answer way ps p a gs hs os rs certs middle certs_after made between made_after g r h k name verdict loops m n =
    let q = procedure_at ps p in
    let first = outcomes (outcome_by way) h.row in
    record {
      row = record { bounds = h.row; rankings = k.row };
      is_row = record {
        bounds = found_row (IsGoalOf ps p) way (bound_goals q) h.row (subst (λ l. AreGoals ps p (bound_goals q) l) (sym h.goals_are) g) h.finds;
        rankings = found_row (IsRankingGoal ps p) way (ranked_loops q) k.row (subst (λ l. AreRankingGoals ps p (ranked_loops q) l) (sym k.goals_are) r) k.finds;
      };
      answer = record {
        name = name;
        verdict = subst (λ l. IsOwnVerdict q l a.verdict) h.outcomes_are verdict;
        loops = loops ∙ ap (λ l. map loop_answer l) k.outcomes_are;
      };
      certs_are = k.certs_are ∙ (ap (λ l. l ++ certificates_by way k.row) h.certs_are ∙ append_assoc certs (certificates_by way h.row) (certificates_by way k.row));
      made_are =
          n
          ∙ (ap (λ l. l ++ all_shown rs) m
          ∙ (append_assoc made (all_shown (listed (told os))) (all_shown rs)
          ∙ (ap (λ l. made ++ (all_shown (listed (told l)) ++ all_shown rs)) h.outcomes_are
          ∙ ap (λ l. made ++ (all_shown (listed (told first)) ++ all_shown l)) k.outcomes_are)));
    }

-- ---- One after the other

gathered_more : {A B : Type 0} (f : A → List B) (xs : List A) (x : A) → gathered f xs ++ f x ≡ gathered f (xs ++ x ∷ [])
gathered_more f [] x = sym (append-nil (f x))
gathered_more f (y ∷ xs) x = append_assoc (f y) (gathered f xs) (f x) ∙ ap (λ l. f y ++ l) (gathered_more f xs x)

abbrev IsAnswerOn : (way : Way) → List TypedProcedure → ℕ → Row way → Answer → Type 0
IsAnswerOn way ps k r a = IsAnswerBy (procedure_at ps k) (bound_outcomes way r) (ranking_outcomes way r) a

pub none_taken : (ps : List TypedProcedure) → take 0 ps ≡ []
none_taken [] = refl
none_taken (p ∷ ps) = refl

pub none_own : (way : Way) (ps qs : List TypedProcedure) (answers : List Answer) (certs : List GoalCert) (made : List NamedGoal) → qs ≡ [] → answers ≡ [] → certs ≡ [] → made ≡ [] → AreOwn way ps qs answers certs made
none_own way ps qs answers certs made q a c m = record {
  rows = [];
  are_rows = subst (λ l. AllNumbered (IsRow way ps) 0 l []) (sym q) tt;
  answers_are = subst (λ l. AllNumbered (IsAnswerOn way ps) 0 [] l) (sym a) tt;
  certs_are = c;
  made_are = m;
}

pub own_more : (way : Way) (ps qs : List TypedProcedure) (q : TypedProcedure) (n : ℕ) (answers us : List Answer) (a : Answer) (certs certs_after : List GoalCert) (made made_after : List NamedGoal) → AreOwn way ps qs answers certs made → n ≡ length qs → procedure_at ps n ≡ q → IsOwnAnswer way ps n a certs certs_after made made_after → us ≡ answers ++ a ∷ [] → AreOwn way ps (qs ++ q ∷ []) us certs_after made_after
own_more way ps qs q n answers us a certs certs_after made made_after h count here s e =
    let rows = numbered_length (IsRow way ps) 0 qs h.rows h.are_rows in
    record {
      rows = h.rows ++ s.row ∷ [];
      are_rows = numbered_more (IsRow way ps) 0 qs h.rows n q s.row h.are_rows (omega (arith, count)) (subst (λ x. IsRow way ps n x s.row) here s.is_row);
      answers_are = subst (λ l. AllNumbered (IsAnswerOn way ps) 0 (h.rows ++ s.row ∷ []) l) (sym e) (numbered_more (IsAnswerOn way ps) 0 h.rows answers n s.row a h.answers_are (omega (arith, count, rows)) s.answer);
      certs_are = s.certs_are ∙ (ap (λ l. l ++ certs_in way s.row) h.certs_are ∙ gathered_more (certs_in way) h.rows s.row);
      made_are = s.made_are ∙ (ap (λ l. l ++ made_in way s.row) h.made_are ∙ gathered_more (made_in way) h.rows s.row);
    }

pub own_length : (way : Way) (ps qs : List TypedProcedure) (answers : List Answer) (certs : List GoalCert) (made : List NamedGoal) → AreOwn way ps qs answers certs made → length answers ≡ length qs
own_length way ps qs answers certs made h = numbered_length (IsAnswerOn way ps) 0 h.rows answers h.answers_are ∙ numbered_length (IsRow way ps) 0 qs h.rows h.are_rows

-- ---- The tables

abbrev bounds_of : (way : Way) → List (Row way) → List (List (GoalWith (Finding way)))
bounds_of way rows = map (λ (r : Row way). r.bounds) rows

abbrev rankings_of : (way : Way) → List (Row way) → List (List (GoalWith (Finding way)))
rankings_of way rows = map (λ (r : Row way). r.rankings) rows

first_row : {A : Type 0} (table : List (List A)) (k : ℕ) (x : List A) (xs : List (List A)) → ((j : ℕ) → row_at table (k + j) ≡ row_at (x ∷ xs) j) → row_at table k ≡ x
first_row table k x xs f = subst (λ n. row_at table n ≡ x) (sym (first_number k)) (f 0)

other_rows : {A : Type 0} (table : List (List A)) (k : ℕ) (x : List A) (xs : List (List A)) → ((j : ℕ) → row_at table (k + j) ≡ row_at (x ∷ xs) j) → (j : ℕ) → row_at table (suc k + j) ≡ row_at xs j
other_rows table k x xs f j = subst (λ n. row_at table n ≡ row_at xs j) (sym (next_number k j)) (f (suc j))

by_rows : (way : Way) (ps : List TypedProcedure) (table ranks : List (List GoalOutcome)) (k : ℕ) (rows : List (Row way)) (answers : List Answer) → ((j : ℕ) → row_at table (k + j) ≡ row_at (all_outcomes (outcome_by way) (bounds_of way rows)) j) → ((j : ℕ) → row_at ranks (k + j) ≡ row_at (all_outcomes (outcome_by way) (rankings_of way rows)) j) → AllNumbered (IsAnswerOn way ps) k rows answers → EachNumbered (IsOwnBy ps table ranks) k answers
by_rows way ps table ranks k [] [] f g h = tt
by_rows way ps table ranks k [] (a ∷ answers) f g h = absurd h
by_rows way ps table ranks k (r ∷ rows) [] f g h = absurd h
by_rows way ps table ranks k (r ∷ rows) (a ∷ answers) f g h =
    let bound = first_row table k (bound_outcomes way r) (all_outcomes (outcome_by way) (bounds_of way rows)) f in
    let ranking = first_row ranks k (ranking_outcomes way r) (all_outcomes (outcome_by way) (rankings_of way rows)) g in (
      subst (λ l. IsAnswerBy (procedure_at ps k) l (row_at ranks k) a) (sym bound) (subst (λ l. IsAnswerBy (procedure_at ps k) (bound_outcomes way r) l a) (sym ranking) h.0),
      by_rows way ps table ranks (suc k) rows answers (other_rows table k (bound_outcomes way r) (all_outcomes (outcome_by way) (bounds_of way rows)) f) (other_rows ranks k (ranking_outcomes way r) (all_outcomes (outcome_by way) (rankings_of way rows)) g) h.1,
    )

made_in_file : (way : Way) (rows : List (Row way)) → gathered (made_in way) rows ≡ told_in_file (all_outcomes (outcome_by way) (bounds_of way rows)) (all_outcomes (outcome_by way) (rankings_of way rows))
made_in_file way [] = refl
made_in_file way (r ∷ rows) = ap (λ l. made_in way r ++ l) (made_in_file way rows)

certs_in_file : (way : Way) (rows : List (Row way)) → gathered (certs_in way) rows ≡ file_certs way (bounds_of way rows) (rankings_of way rows)
certs_in_file Decide [] = refl
certs_in_file Decide (r ∷ rows) = ap (λ l. certs_in Decide r ++ l) (certs_in_file Decide rows)
certs_in_file (Check certs) [] = refl
certs_in_file (Check certs) (r ∷ rows) = certs_in_file (Check certs) rows

pub whole : (way : Way) (ps : List TypedProcedure) (own answers : List Answer) (certs : List GoalCert) (made : List NamedGoal) → AreOwn way ps ps own certs made → ((table ranks : List (List GoalOutcome)) → EachNumbered (IsOwnBy ps table ranks) 0 own → AreAnswers ps table ranks 0 ps answers) → IsWhole way ps answers made certs
whole way ps own answers certs made h f = record {
  table = bounds_of way h.rows;
  ranks = rankings_of way h.rows;
  found = numbered_map (IsRow way ps) (λ k q gs. AreFound (IsGoalOf ps k) (Finds way) (bound_goals q) gs) (λ (r : Row way). r.bounds) 0 ps h.rows (λ n q r i. i.bounds) h.are_rows;
  ranks_found = numbered_map (IsRow way ps) (λ k q gs. AreFound (IsRankingGoal ps k) (Finds way) (ranked_loops q) gs) (λ (r : Row way). r.rankings) 0 ps h.rows (λ n q r i. i.rankings) h.are_rows;
  answers_of = f table ranks (by_rows way ps table ranks 0 h.rows own (λ j. same table j) (λ j. same ranks j) h.answers_are);
  made_of = h.made_are ∙ made_in_file way h.rows;
  certs_of = h.certs_are ∙ certs_in_file way h.rows;
}
  where
    table : List (List GoalOutcome)
    table = all_outcomes (outcome_by way) (bounds_of way h.rows)

    ranks : List (List GoalOutcome)
    ranks = all_outcomes (outcome_by way) (rankings_of way h.rows)

    same : (t : List (List GoalOutcome)) (j : ℕ) → row_at t (0 + j) ≡ row_at t j
    same t j = let none : 0 + j ≡ j = omega arith in ap (λ n. row_at t n) none

-- ---- Marks

marks_from : (ps : List TypedProcedure) (table ranks : List (List GoalOutcome)) (k : ℕ) (answers : List Answer) (j : ℕ) → EachNumbered (IsOwnBy ps table ranks) k answers → j < length answers → IsMark ps table (k + j) (get_or (map is_unverified answers) j false)
marks_from ps table ranks k [] j h l = absurd (omega (arith, l))
marks_from ps table ranks k (a ∷ answers) zero h l = subst (λ n. IsMark ps table n (is_unverified a)) (first_number k) (own_mark ps table k a.verdict (is_verified a.verdict) refl h.0.verdict)
marks_from ps table ranks k (a ∷ answers) (suc j) h l = subst (λ n. IsMark ps table n (get_or (map is_unverified answers) j false)) (next_number k j) (marks_from ps table ranks (suc k) answers j h.1 (omega (arith, l)))

pub are_marks : (ps : List TypedProcedure) (table ranks : List (List GoalOutcome)) (answers : List Answer) (ms : List Bool) → EachNumbered (IsOwnBy ps table ranks) 0 answers → length answers ≡ length ps → ms ≡ map is_unverified answers → AreMarks ps table ms
are_marks ps table ranks answers ms h sized e q l =
    let none : 0 + q ≡ q = omega arith in
    subst (λ m. IsMark ps table q (get_or m q false)) (sym e) (subst (λ n. IsMark ps table n (get_or (map is_unverified answers) q false)) none (marks_from ps table ranks 0 answers q h (omega (arith, l, sized))))

-- ---- Answers

-- The answers before `p` are complete, and the other ones are by the procedures' own goals.
abbrev pub AnsweredTo : List TypedProcedure → List (List GoalOutcome) → List (List GoalOutcome) → ℕ → List Answer → List Answer → Type 0
AnsweredTo ps table ranks p answers own = EachNumbered (IsAnswer ps table ranks) 0 answers × EachNumbered (IsOwnBy ps table ranks) p own

pub next_answer : (ps : List TypedProcedure) (table ranks : List (List GoalOutcome)) (p : ℕ) (all us zs ys : List Answer) (x a : Answer) → p ≡ length all → us ≡ all ++ a ∷ [] → zs ≡ x ∷ ys → AnsweredTo ps table ranks p all zs → (IsOwnBy ps table ranks p x → IsAnswer ps table ranks p a) → AnsweredTo ps table ranks (p + 1) us ys
next_answer ps table ranks p all us zs ys x a l e z h f =
    let own = subst (EachNumbered (IsOwnBy ps table ranks) p) z h.1 in
    let next : suc p ≡ p + 1 = omega arith in (
      subst (EachNumbered (IsAnswer ps table ranks) 0) (sym e) (each_more (IsAnswer ps table ranks) 0 all p a h.0 (omega (arith, l)) (f own.0)),
      subst (λ n. EachNumbered (IsOwnBy ps table ranks) n ys) next own.1,
    )
