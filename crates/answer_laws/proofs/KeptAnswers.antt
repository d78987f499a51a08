-- Checking the certificates of a file yields again what was proved of it.
use Rattle.std.proofs.Common.{List, [], ap, ap₂, arith, length, map, refl, slice_index_or, subst, sym, true, false, ◌&&◌, ◌+◌, ◌++◌, ◌<◌, ◌∙◌, ◌∷◌, ◌≡◌, ℕ}
use Rattle.std.proofs.lemmas.Bool.{false≢true}
use Rattle.std.specs.List.{AllZip, Contains}
use Rattle.std.specs.Prelude.{None, Option, Some}
use Prim.Native.Nat.{suc, zero}
use Rattle.goal_answers.specs.declared.decisions.Decision.{Decision}
use Rattle.goal_answers.specs.declared.decisions.Decision.TheVariants.{Falsified, Proved, Unknown}
use Rattle.goal_answers.specs.declared.misses.Miss.{Miss}
use Rattle.goal_answers.specs.declared.trees.GoalCert.{GoalCert}
use Rattle.goal_answers.specs.declared.trees.Tree.{Tree}
use Rattle.heylo_formula.specs.GoalOrder.{loop_of}
use Rattle.heyvl_acts.specs.Acts.{TypedProcedure, procedure_at}
use Rattle.heyvl_acts.specs.Rules.{Each}
use Rattle.verdict_report.specs.declared.answers.Answer.{Answer}
use Rattle.verdict_report.specs.declared.answers.LoopAnswer.{LoopAnswer}
use Rattle.verdict_report.specs.declared.answers.RankVerdict.TheVariants as rank
use Rattle.verdict_report.specs.declared.answers.Verdict.{Verdict}
use Rattle.verdict_report.specs.declared.answers.Verdict.TheVariants as verdict
use Rattle.verify_core.specs.CertifiedGoals as certified
use Rattle.verify_core.specs.CheckedProofs.{IsMissed, IsNotMissed, NothingIsMissedThroughout, OtherGoalsAreMissed, OthersAreMissed, ProvedGoalsAreAccepted, ProvedRankingsAreAccepted}
use Rattle.verify_core.specs.GoalDecisions as decided
use Rattle.verify_core.specs.NumberedLists.{AllNumbered, row_at}
use Rattle.verify_core.specs.Outcomes.{all_outcomes, all_proved, is_proved, loop_answer, outcomes, rank_of}
use Rattle.verify_core.specs.Rankings.{IsRankingGoal, ranked_loops}
use Rattle.verify_core.specs.Tables.{HasFound}
use Rattle.verify_core.specs.Verdicts.{IsAnswer, IsClosed, IsVerdict}
use Rattle.answer_laws.specs.KeptAnswers.{HasTreeWhereProved, RanksAreKept, VerdictsAreKept, is_certifiable}
use Rattle.answer_laws.specs.Named.{GoalOutcome}
use Rattle.answer_laws.specs.SingleAnswers.{MissesGiveOneVerdict}
use Rattle.answer_laws.proofs.Rows.{placed, row_of, row_outcomes}

-- ---- One goal

proved_alike : (d : Decision) (c : Option Miss) → ((t : Tree) → d ≡ Proved (Some t) → c ≡ None) → (((t : Tree) → d ≡ Proved (Some t) → ⊥) → c ≡ None → ⊥) → (d ≡ Proved None → ⊥) → is_proved (decided.outcome_of d) ≡ is_proved (certified.outcome_of c)
proved_alike (Proved (Some t)) c n m h = sym (ap (λ x. is_proved (certified.outcome_of x)) (n t refl))
proved_alike (Proved None) c n m h = absurd (h refl)
proved_alike (Falsified s) None n m h = absurd (m (λ t e. cc) refl)
proved_alike (Falsified s) (Some k) n m h = refl
proved_alike (Unknown b) None n m h = absurd (m (λ t e. cc) refl)
proved_alike (Unknown b) (Some k) n m h = refl

row_alike : (ds : List decided.DecidedGoal) (cs : List certified.CheckedGoal) → AllZip IsNotMissed ds cs → AllZip IsMissed ds cs → Each HasTreeWhereProved ds → all_proved (outcomes decided.outcome_of ds) ≡ all_proved (outcomes certified.outcome_of cs)
row_alike [] [] n m h = refl
row_alike [] (c ∷ cs) n m h = absurd n
row_alike (d ∷ ds) [] n m h = absurd n
row_alike (d ∷ ds) (c ∷ cs) n m h = ap₂ (λ x y. x && y) (proved_alike d.found c.found n.0 m.0 h.0) (row_alike ds cs n.1 m.1 h.1)

rows_alike : (table : List (List decided.DecidedGoal)) (checked : List (List certified.CheckedGoal)) → NothingIsMissedThroughout table checked → OthersAreMissed table checked → Each (Each HasTreeWhereProved) table → (q : ℕ) → all_proved (row_at (all_outcomes decided.outcome_of table) q) ≡ all_proved (row_at (all_outcomes certified.outcome_of checked) q)
rows_alike [] [] n m h q = refl
rows_alike [] (c ∷ cs) n m h q = absurd n
rows_alike (d ∷ ds) [] n m h q = absurd n
rows_alike (d ∷ ds) (c ∷ cs) n m h zero = row_alike d c n.0 m.0 h.0
rows_alike (d ∷ ds) (c ∷ cs) n m h (suc q) = rows_alike ds cs n.1 m.1 h.1 q

-- ---- The answer with a number

record IsAt (P : ℕ → Answer → Type 0) (answers : List Answer) (k p : ℕ) : Type 0 where
  pub before : List Answer
  pub answer : Answer
  pub behind : List Answer
  pub all : answers ≡ before ++ (answer ∷ behind)
  pub place : length before ≡ p
  pub is : P (k + p) answer

first_there : (k : ℕ) → k ≡ k + zero
first_there k = omega arith

next_there : (k p : ℕ) → suc k + p ≡ k + suc p
next_there k p = omega arith

answer_at : (P : ℕ → Answer → Type 0) (k : ℕ) (qs : List TypedProcedure) (answers : List Answer) (p : ℕ) → p < length qs → AllNumbered (λ n (q : TypedProcedure) (a : Answer). P n a) k qs answers → IsAt P answers k p
answer_at P k [] answers p l h = absurd (omega (arith, l))
answer_at P k (q ∷ qs) [] p l h = absurd h
answer_at P k (q ∷ qs) (a ∷ answers) zero l h = record { before = []; answer = a; behind = answers; all = refl; place = refl; is = subst (λ n. P n a) (first_there k) h.0 }
answer_at P k (q ∷ qs) (a ∷ answers) (suc p) l h =
    let r = answer_at P (suc k) qs answers p (omega (arith, l)) h.1 in
    record { before = a ∷ r.before; answer = r.answer; behind = r.behind; all = ap (λ l. a ∷ l) r.all; place = ap (λ n. suc n) r.place; is = subst (λ n. P n r.answer) (next_there k p) r.is }

from_zero : (p : ℕ) → 0 + p ≡ p
from_zero p = omega arith

-- ---- Verdicts

module _ (ps : List TypedProcedure) (T U : List (List GoalOutcome)) (same : (q : ℕ) → all_proved (row_at T q) ≡ all_proved (row_at U q)) where
  closed_too : (q : ℕ) → IsClosed ps T q → IsClosed ps U q
  closed_too q h = record { proved = sym (same q) ∙ h.proved; program = h.program }

  closed_back : (q : ℕ) → IsClosed ps U q → IsClosed ps T q
  closed_back q h = record { proved = same q ∙ h.proved; program = h.program }

  verdict_too : (p : ℕ) (v : Verdict) → is_certifiable v ≡ true → IsVerdict ps T p v → IsVerdict ps U p v
  verdict_too p verdict.Verified e k = (closed_too p k.0, λ q r. closed_too q (k.1 q r))
  verdict_too p (verdict.Valid why) e k = (sym (same p) ∙ k.0, k.1)
  verdict_too p (verdict.Conditional q) e k = (closed_too p k.0, record { reached = k.1.reached; is_open = λ h. k.1.is_open (closed_back q h); closed_before = λ r l m. closed_too r (k.1.closed_before r l m) })
  verdict_too p verdict.NoBody e k = k
  verdict_too p (verdict.NotVerified id s) e k = absurd (false≢true e)
  verdict_too p (verdict.Unknown id c) e k = absurd (false≢true e)
  verdict_too p (verdict.Unchecked id m) e k = absurd (false≢true e)

pub verdicts_kept : ProvedGoalsAreAccepted → OtherGoalsAreMissed → MissesGiveOneVerdict → VerdictsAreKept
verdicts_kept accepted others one ps answers checked made certs rules are file trees p v e on =
    let T = all_outcomes decided.outcome_of are.table in
    let Tr = all_outcomes decided.outcome_of are.ranks in
    let U = all_outcomes certified.outcome_of file.table in
    let Ur = all_outcomes certified.outcome_of file.ranks in
    let asked = subst (λ cs. certified.IsCheckedTable ps cs 0 ps file.table) are.certs_of file.checked in
    let ranked = subst (λ cs. certified.IsCheckedRankTable ps cs 0 ps file.ranks) are.certs_of file.ranks_checked in
    let none = accepted ps are.table are.ranks file.table rules are.decided are.ranks_decided asked in
    let some = (others ps are.table are.ranks file.table file.ranks rules are.decided are.ranks_decided asked ranked).0 in
    let a = placed (IsAnswer ps T Tr) ps answers on.before on.behind on.answer p are.answers_of on.all on.place in
    let k : IsVerdict ps U p v = verdict_too ps T U (rows_alike are.table file.table none some trees) p v e (subst (IsVerdict ps T p) on.verdict a.is.verdict) in
    let c = answer_at (IsAnswer ps U Ur) 0 ps checked p a.there file.answers_of in
    let there = subst (λ n. IsAnswer ps U Ur n c.answer) (from_zero p) c.is in
    record { before = c.before; answer = c.answer; behind = c.behind; all = c.all; place = c.place; verdict = one ps certs file.table file.checked p c.answer.verdict v there.verdict k }

-- ---- Rankings

-- Two goals of the same ranking: both are proved, or neither is.
abbrev AreAlike : decided.DecidedGoal → certified.CheckedGoal → Type 0
AreAlike d c = (loop_of d.goal.id ≡ loop_of c.goal.id) × (is_proved (decided.outcome_of d.found) ≡ is_proved (certified.outcome_of c.found))

ranks_alike : (ps : List TypedProcedure) (certs : List GoalCert) (k : ℕ) (ns : List ℕ) (ds : List decided.DecidedGoal) (cs : List certified.CheckedGoal) → AllZip (λ n (d : decided.DecidedGoal). HasFound (IsRankingGoal ps k n) decided.Decides d) ns ds → AllZip (λ n (c : certified.CheckedGoal). HasFound (IsRankingGoal ps k n) (certified.IsMissOf certs) c) ns cs
    → AllZip IsNotMissed ds cs → AllZip IsMissed ds cs → Each HasTreeWhereProved ds → AllZip AreAlike ds cs
ranks_alike ps certs k [] [] [] x y n m h = tt
ranks_alike ps certs k [] [] (c ∷ cs) x y n m h = absurd y
ranks_alike ps certs k [] (d ∷ ds) cs x y n m h = absurd x
ranks_alike ps certs k (i ∷ ns) [] cs x y n m h = absurd x
ranks_alike ps certs k (i ∷ ns) (d ∷ ds) [] x y n m h = absurd y
ranks_alike ps certs k (i ∷ ns) (d ∷ ds) (c ∷ cs) x y n m h = ((ap loop_of (x.0.goal.id_of ∙ sym y.0.goal.id_of), proved_alike d.found c.found n.0 m.0 h.0), ranks_alike ps certs k ns ds cs x.1 y.1 n.1 m.1 h.1)

ranked_found : (d : Decision) → rank_of (decided.outcome_of d) ≡ rank.Ranked → is_proved (decided.outcome_of d) ≡ true
ranked_found (Proved t) e = refl
ranked_found (Falsified s) e = cc
ranked_found (Unknown b) e = cc

ranked_checked : (c : Option Miss) → is_proved (certified.outcome_of c) ≡ true → rank_of (certified.outcome_of c) ≡ rank.Ranked
ranked_checked None e = refl
ranked_checked (Some m) e = absurd (false≢true e)

-- A line that reports the loop `n` as ranked.
record HasRanked (lines : List LoopAnswer) (n : ℕ) : Type 0 where
  pub line : LoopAnswer
  pub listed : Contains lines line
  pub number : line.number ≡ n
  pub verdict : line.rank ≡ rank.Ranked

ranked_line : (ds : List decided.DecidedGoal) (cs : List certified.CheckedGoal) (k : ℕ) (a : LoopAnswer) → AllZip AreAlike ds cs → k < length (map loop_answer (outcomes decided.outcome_of ds)) → slice_index_or (map loop_answer (outcomes decided.outcome_of ds)) k a ≡ a → a.rank ≡ rank.Ranked → HasRanked (map loop_answer (outcomes certified.outcome_of cs)) a.number
ranked_line [] cs k a h l e v = absurd (omega (arith, l))
ranked_line (d ∷ ds) [] k a h l e v = absurd h
ranked_line (d ∷ ds) (c ∷ cs) zero a h l e v =
    let number : loop_of d.goal.id ≡ a.number = ap (λ (x : LoopAnswer). x.number) e in
    let ranked : rank_of (decided.outcome_of d.found) ≡ rank.Ranked = ap (λ (x : LoopAnswer). x.rank) e ∙ v in
    record {
      line = record { number = loop_of c.goal.id; rank = rank_of (certified.outcome_of c.found) };
      listed = (0, omega arith, refl);
      number = sym h.0.0 ∙ number;
      verdict = ranked_checked c.found (sym h.0.1 ∙ ranked_found d.found ranked);
    }
ranked_line (d ∷ ds) (c ∷ cs) (suc k) a h l e v =
    let r = ranked_line ds cs k a h.1 (omega (arith, l)) e v in
    let m = r.listed.1 in
    record { line = r.line; listed = (suc r.listed.0, omega (arith, m), r.listed.2); number = r.number; verdict = r.verdict }

zip_at : {A B : Type 0} (R : List A → List B → Type 0) (xs : List (List A)) (ys : List (List B)) (p : ℕ) → R [] [] → AllZip R xs ys → R (row_at xs p) (row_at ys p)
zip_at R [] [] p n h = n
zip_at R [] (y ∷ ys) p n h = absurd h
zip_at R (x ∷ xs) [] p n h = absurd h
zip_at R (x ∷ xs) (y ∷ ys) zero n h = h.0
zip_at R (x ∷ xs) (y ∷ ys) (suc p) n h = zip_at R xs ys p n h.1

each_at : (table : List (List decided.DecidedGoal)) (p : ℕ) → Each (Each HasTreeWhereProved) table → Each HasTreeWhereProved (row_at table p)
each_at [] p h = tt
each_at (r ∷ rs) zero h = h.0
each_at (r ∷ rs) (suc p) h = each_at rs p h.1

pub ranks_kept : ProvedRankingsAreAccepted → OtherGoalsAreMissed → RanksAreKept
ranks_kept accepted others ps answers checked made certs rules are file trees p n on =
    let T = all_outcomes decided.outcome_of are.table in
    let Tr = all_outcomes decided.outcome_of are.ranks in
    let U = all_outcomes certified.outcome_of file.table in
    let Ur = all_outcomes certified.outcome_of file.ranks in
    let asked = subst (λ cs. certified.IsCheckedTable ps cs 0 ps file.table) are.certs_of file.checked in
    let ranked = subst (λ cs. certified.IsCheckedRankTable ps cs 0 ps file.ranks) are.certs_of file.ranks_checked in
    let none = accepted ps are.table are.ranks file.ranks rules are.decided are.ranks_decided ranked in
    let some = (others ps are.table are.ranks file.table file.ranks rules are.decided are.ranks_decided asked ranked).1 in
    let a = placed (IsAnswer ps T Tr) ps answers on.before on.behind on.answer p are.answers_of on.all on.place in
    let c = answer_at (IsAnswer ps U Ur) 0 ps checked p a.there file.answers_of in
    let there = subst (λ m. IsAnswer ps U Ur m c.answer) (from_zero p) c.is in
    let ds = row_of (λ k q gs. AllZip (λ m (d : decided.DecidedGoal). HasFound (IsRankingGoal ps k m) decided.Decides d) (ranked_loops q) gs) ps are.ranks p a.there are.ranks_decided in
    let cs = row_of (λ k q gs. AllZip (λ m (d : certified.CheckedGoal). HasFound (IsRankingGoal ps k m) (certified.IsMissOf certs) d) (ranked_loops q) gs) ps file.ranks p a.there file.ranks_checked in
    let alike = ranks_alike ps certs p (ranked_loops (procedure_at ps p)) (row_at are.ranks p) (row_at file.ranks p) ds cs (zip_at (λ x y. AllZip IsNotMissed x y) are.ranks file.ranks p tt none) (zip_at (λ x y. AllZip IsMissed x y) are.ranks file.ranks p tt some) (each_at are.ranks p trees) in
    let lines = subst (λ ls. Contains ls on.line) (a.is.loops ∙ ap (λ os. map loop_answer os) (row_outcomes decided.outcome_of are.ranks p)) on.listed in
    let r = ranked_line (row_at are.ranks p) (row_at file.ranks p) lines.0 on.line alike lines.1 lines.2 on.verdict in
    record {
      before = c.before;
      answer = c.answer;
      behind = c.behind;
      all = c.all;
      place = c.place;
      line = r.line;
      listed = subst (λ ls. Contains ls r.line) (sym (there.loops ∙ ap (λ os. map loop_answer os) (row_outcomes certified.outcome_of file.ranks p))) r.listed;
      number = r.number ∙ on.number;
      verdict = r.verdict;
    }
