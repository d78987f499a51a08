-- The answer on a procedure, by its index among the answers; and whether one of its answers on
-- loops is that the loop is ranked.
use Rattle.std.proofs.Common.{◌≡◌, ◌∙◌, ◌<◌, ℕ, refl, sym, ap, ap₂, subst, arith, Bool, true, false, List, [], ◌∷◌, ◌++◌, length, get_or, ◌==◌}
use Rattle.std.proofs.lemmas.List.Folds.{list_any_at}
use Rattle.std.specs.List.{Contains, list_any}
use Rattle.std.specs.Prelude.{◌&&◌, ◌||◌}
use Prim.Native.Nat.{zero, suc}
use Rattle.verdict_report.specs.declared.answers.Answer.{Answer}
use Rattle.verdict_report.specs.declared.answers.LoopAnswer.{LoopAnswer}
use Rattle.verdict_report.specs.declared.answers.RankVerdict.{RankVerdict}
use Rattle.verdict_report.specs.declared.answers.RankVerdict.TheVariants as rank
use Rattle.verdict_report.specs.declared.answers.Verdict.{Verdict}
use Rattle.verdict_report.specs.declared.answers.Verdict.TheVariants as verdict
use Rattle.verdict_report.specs.VerdictsOn.{IsVerdictOn, IsVerdictOnLoop}
use Rattle.lower_rules.specs.internal.Said.{ranks, says_ranked, says_verified}

-- ---- The answer at an index

record IsPlaced (answers : List Answer) (p : ℕ) (a : Answer) : Type 0 where
  pub before : List Answer
  pub behind : List Answer
  pub all : answers ≡ before ++ (a ∷ behind)
  pub place : length before ≡ p

placed : (answers : List Answer) (p : ℕ) (a : Answer) → p < length answers → a ≡ get_or answers p a → IsPlaced answers p a
placed [] p a lt is = absurd (omega (arith, lt))
placed (b ∷ rest) zero a lt is = record { before = []; behind = rest; all = ap (λ x. x ∷ rest) (sym is); place = refl }
placed (b ∷ rest) (suc p) a lt is =
    let k = placed rest p a (omega (arith, lt)) is in
    record { before = b ∷ k.before; behind = k.behind; all = ap (λ l. b ∷ l) k.all; place = let e = k.place in omega (arith, e) }

only_one : (before behind : List Answer) (p : ℕ) (a b : Answer) → length before ≡ p → a ≡ get_or (before ++ (b ∷ behind)) p a → a ≡ b
only_one [] behind zero a b e is = is
only_one [] behind (suc p) a b e is = absurd (omega (arith, e))
only_one (x ∷ before) behind zero a b e is = absurd (omega (arith, e))
only_one (x ∷ before) behind (suc p) a b e is = only_one before behind p a b (omega (arith, e)) is

only : (answers before behind : List Answer) (p : ℕ) (a b : Answer) → answers ≡ before ++ (b ∷ behind) → length before ≡ p → a ≡ get_or answers p a → a ≡ b
only answers before behind p a b all e is = only_one before behind p a b e (subst (λ l. a ≡ get_or l p a) all is)

-- ---- The verdict on the bound

verified_is : (v : Verdict) → says_verified v ≡ true → v ≡ verdict.Verified
verified_is verdict.Verified e = refl
verified_is (verdict.Valid why) e = absurd (cc)
verified_is (verdict.Conditional q) e = absurd (cc)
verified_is (verdict.NotVerified id s) e = absurd (cc)
verified_is (verdict.Unknown id c) e = absurd (cc)
verified_is verdict.NoBody e = absurd (cc)
verified_is (verdict.Unchecked id miss) e = absurd (cc)

module _ (answers : List Answer) (p : ℕ) (a : Answer) (there : p < length answers) (is : a ≡ get_or answers p a) where
  pub verified_on : says_verified a.verdict ≡ true → IsVerdictOn answers p verdict.Verified
  verified_on e = let k = placed answers p a there is in record { before = k.before; answer = a; behind = k.behind; all = k.all; place = k.place; verdict = verified_is a.verdict e }

  pub unverified_on : says_verified a.verdict ≡ false → IsVerdictOn answers p verdict.Verified → ⊥
  unverified_on e v = absurd (let f = sym e ∙ (ap (λ (x : Answer). says_verified x.verdict) (only answers v.before v.behind p a v.answer v.all v.place is) ∙ ap says_verified v.verdict) in cc)

-- ---- The verdict on a loop's ranking

ranked_is : (v : RankVerdict) → says_ranked v ≡ true → v ≡ rank.Ranked
ranked_is rank.Ranked e = refl
ranked_is (rank.NotRanked s) e = absurd (cc)
ranked_is (rank.Unknown c) e = absurd (cc)
ranked_is (rank.Unchecked miss) e = absurd (cc)

-- The list has an answer that the loop `n` is ranked.
pub record IsRankedBy (loops : List LoopAnswer) (n : ℕ) : Type 0 where
  pub line : LoopAnswer
  pub listed : Contains loops line
  pub number : line.number ≡ n
  pub verdict : line.rank ≡ rank.Ranked

and_both : (a b : Bool) → (a && b) ≡ true → (a ≡ true) × (b ≡ true)
and_both true b e = (refl, e)
and_both false b e = absurd (cc)

alike : (n : ℕ) → (n == n) ≡ true
alike n = grind arith

same_number : (m n : ℕ) → (m == n) ≡ true → m ≡ n
same_number m n e = grind arith

split : {P : Type 0} (a b : Bool) → (a || b) ≡ true → (a ≡ true → P) → (b ≡ true → P) → P
split true b e f g = f refl
split false b e f g = g e

one_ranks : (n : ℕ) (loops : List LoopAnswer) → list_any (ranks n) loops ≡ true → IsRankedBy loops n
one_ranks n [] e = absurd (cc)
one_ranks n (l ∷ loops) e = split (ranks n l) (list_any (ranks n) loops) e here (λ f. further (one_ranks n loops f))
  where
    here : ranks n l ≡ true → IsRankedBy (l ∷ loops) n
    here f = let h = and_both (l.number == n) (says_ranked l.rank) f in record { line = l; listed = (0, omega arith, refl); number = same_number l.number n h.0; verdict = ranked_is l.rank h.1 }

    further : IsRankedBy loops n → IsRankedBy (l ∷ loops) n
    further k = record { line = k.line; listed = (suc k.listed.0, (let m = k.listed.1 in omega (arith, m)), k.listed.2); number = k.number; verdict = k.verdict }

none_ranks : (n : ℕ) (loops : List LoopAnswer) (l : LoopAnswer) → list_any (ranks n) loops ≡ false → Contains loops l → l.number ≡ n → l.rank ≡ rank.Ranked → ⊥
none_ranks n loops l e listed number verdict = absurd (let f = list_any_at (ranks n) loops listed.0 l listed.1 (subst (λ x. ranks n x ≡ true) (sym listed.2) it) in cc)
  where
    it : ranks n l ≡ true
    it = ap₂ (λ x y. x && y) (subst (λ k. (l.number == k) ≡ true) number (alike l.number)) (ap says_ranked verdict)

module _ (answers : List Answer) (p n : ℕ) (a : Answer) (there : p < length answers) (is : a ≡ get_or answers p a) where
  pub ranked_on : list_any (ranks n) a.loops.items ≡ true → IsVerdictOnLoop answers p n rank.Ranked
  ranked_on e = let k = placed answers p a there is in let l = one_ranks n a.loops.items e in record { before = k.before; answer = a; behind = k.behind; all = k.all; place = k.place; line = l.line; listed = l.listed; number = l.number; verdict = l.verdict }

  pub unranked_on : list_any (ranks n) a.loops.items ≡ false → IsVerdictOnLoop answers p n rank.Ranked → ⊥
  unranked_on e v = none_ranks n a.loops.items v.line e (subst (λ (x : Answer). Contains x.loops.items v.line) (sym (only answers v.before v.behind p a v.answer v.all v.place is)) v.listed) v.number v.verdict
