-- The result of reading at the end of a text, and at an invalid line.
use Prim.Native.Nat.{suc, zero}
use Rattle.std.proofs.Common.{◌≡◌, ◌≢◌, ℕ, ℤ, ◌+◌, ◌≤◌, List, [], ◌∷◌, ◌++◌, Some, None, Result, Ok, Err, length, length-append, get_or, Vec, Global, IfOk, IfErr, MatchResult, refl, sym, ap, ◌∙◌, subst, arith}
use Rattle.std.proofs.lemmas.List.{append-nil}
use Rattle.std.specs.List.{All}
use Rattle.goal_answers.specs.declared.trees.GoalCert.{GoalCert}
use Rattle.cert_text.specs.declared.stops.CertStop.{CertStop}
use Rattle.cert_text.specs.declared.stops.CertStop.TheVariants.{Fault, Memory}
use Rattle.cert_text.specs.Certificates.{Certificate, IsWholeSplit, certificates_of}
use Rattle.cert_text.specs.declared.versions.Version.TheVariants as versions
use Rattle.cert_text.specs.Lines.{Line, title, goal, split, whole, farkas, plain, last, line_text}
use Rattle.cert_text.specs.internal.WholeLines.{IsLine}
use Rattle.cert_text.specs.Texts.{Spells, IsFirstFault}
use Rattle.cert_text.specs.Stops.{IsMemory, IsCertStop, IsFaultOrMemory}
use Rattle.cert_text.specs.internal.ReadStates.{State, next}
use Rattle.cert_text.specs.internal.Ends.{IsWhole}
use Rattle.cert_text.specs.internal.Steps.{IsStep, IsStuck}
use Rattle.cert_text.specs.internal.Words.{IsFreeOf, IsEndOrAt}
use Rattle.cert_text.proofs.Progress.{IsProgress, line_free, progress_more, fault_here, fault_at_end, spelled_whole, spelled_only, fault_once}
use Rattle.cert_text.proofs.Unique.{line_once}

-- The result of reading `bytes` is right.
pub record IsAnswer (bytes : List ℕ) (r : Result (Vec GoalCert Global) CertStop) : Type 0 where
  pub found : IfOk r (λ certs. Spells (certificates_of certs.items) bytes)
  pub fault : IfErr r (λ stop. IsCertStop bytes stop)
  pub only : (cs : List Certificate) → Spells cs bytes → MatchResult r (λ certs. certificates_of certs.items ≡ cs) (λ stop. IsMemory stop)
  pub only_fault : (line : ℕ) → IsFirstFault bytes line → MatchResult r (λ _. ⊥) (λ stop. IsFaultOrMemory line stop)

pub answer_fault : (bytes : List ℕ) (number : ℕ) → IsFirstFault bytes number → IsAnswer bytes (Err (Fault number))
answer_fault bytes number f = record { found = tt; fault = f; only = λ cs s. f.unfinished cs s; only_fault = λ line g. fault_once bytes number line f g }

not_empty : (word behind : List ℕ) → word ++ 10 ∷ behind ≡ [] → ⊥
not_empty [] behind e = absurd (cc)
not_empty (b ∷ word) behind e = absurd (cc)

-- No line feed follows the lines read.
answer_end : (bytes rest : List ℕ) (number : ℕ) (s : State) (r : Result (Vec GoalCert Global) CertStop) → IsProgress bytes rest number s
    → All (λ b. b ≢ 10) rest → IsWhole s rest number r → IsAnswer bytes r
answer_end bytes rest number s (Ok certs) p free w =
    let spelled = spelled_whole bytes rest number s (certificates_of certs.items) p w.0 w.1 in
    record {
      found = spelled;
      fault = tt;
      only = λ cs sp. spelled_only bytes rest number s (certificates_of certs.items) cs p w.0 w.1 sp;
      only_fault = λ line g. g.unfinished (certificates_of certs.items) spelled;
    }
answer_end bytes rest number s (Err (Fault line)) p free w =
    let f = fault_at_end bytes rest number s p free w.1 in
    let Q : ℕ → Type 0 = λ n. IsAnswer bytes (Err (Fault n)) in
    subst Q (sym w.0) (answer_fault bytes number f)
answer_end bytes rest number s (Err (Memory error)) p free w = record { found = tt; fault = tt; only = λ cs sp. tt; only_fault = λ line g. tt }

-- The rest of the text cannot be read.
pub answer_stuck : (bytes rest : List ℕ) (number : ℕ) (s s' : State) (r : Result (Vec GoalCert Global) CertStop) → IsProgress bytes rest number s
    → IsStuck s s' rest → IsWhole s' rest number r → IsAnswer bytes r
answer_stuck bytes rest number s s' r p (IsStuck.unclosed free same) w =
    let P : State → Type 0 = λ t. IsWhole t rest number r in
    answer_end bytes rest number s r p free (subst P same w)
answer_stuck bytes rest number s s' (Ok certs) p (IsStuck.refused word behind free e none) w = absurd (not_empty word behind (sym e ∙ w.1))
answer_stuck bytes rest number s s' (Err (Fault line)) p (IsStuck.refused word behind free e none) w =
    let Q : ℕ → Type 0 = λ n. IsAnswer bytes (Err (Fault n)) in
    subst Q (sym w.0) (answer_fault bytes number (fault_here bytes rest word behind number s p e free none))
answer_stuck bytes rest number s s' (Err (Memory error)) p (IsStuck.refused word behind free e none) w = absurd w

-- One more line of the text is read.
pub step_more : (bytes rest behind : List ℕ) (number : ℕ) (s s' : State) → IsProgress bytes rest number s → IsStep s s' rest behind → IsProgress bytes behind (number + 1) s'
step_more bytes rest behind number s s' p t = progress_more bytes rest (line_text t.line) behind number s s' t.line p t.parts t.valid refl t.step t.only

-- Each line has at least one byte, its line feed.
pub step_shrinks : (rest behind : List ℕ) (number total : ℕ) (s s' : State) → IsStep s s' rest behind → number + length rest ≤ total → number + 1 + length behind ≤ total
step_shrinks rest behind number total s s' t le =
    let a = ap (λ (bs : List ℕ). length bs) t.parts in
    let b = length-append (line_text t.line) (10 ∷ behind) in
    omega arith

-- The result of reading a line that `cut` found.

cut_line : (rest before from : List ℕ) (first : ℕ) (behind : List ℕ) → rest ≡ before ++ from → IsEndOrAt 10 from → from ≡ first ∷ behind → rest ≡ before ++ 10 ∷ behind
cut_line rest before from first behind e at f =
    let P : List ℕ → Type 0 = IsEndOrAt 10 in
    let g : first ≡ 10 = subst P f at in
    e ∙ ap (λ (bs : List ℕ). before ++ bs) (f ∙ ap (λ (b : ℕ). b ∷ behind) g)

pub stuck_unclosed : (rest before from : List ℕ) (s : State) → rest ≡ before ++ from → from ≡ [] → All (λ b. b ≢ 10) before → IsStuck s s rest
stuck_unclosed rest before from s e none free =
    let same : rest ≡ before = e ∙ ap (λ (bs : List ℕ). before ++ bs) none ∙ append-nil before in
    let P : List ℕ → Type 0 = λ bs. All (λ b. b ≢ 10) bs in
    IsStuck.unclosed (subst P (sym same) free) refl

pub stuck_refused : (rest before from : List ℕ) (first : ℕ) (behind : List ℕ) (s s' : State) → rest ≡ before ++ from → IsEndOrAt 10 from → from ≡ first ∷ behind
    → All (λ b. b ≢ 10) before → ((l : Line) → IsLine l → before ≡ line_text l → next s l ≡ None) → IsStuck s s' rest
stuck_refused rest before from first behind s s' e at f free none = IsStuck.refused before behind free (cut_line rest before from first behind e at f) none

pub step_cut : (rest before from : List ℕ) (first : ℕ) (behind : List ℕ) (s s' : State) (l : Line) → rest ≡ before ++ from → IsEndOrAt 10 from → from ≡ first ∷ behind
    → IsLine l → before ≡ line_text l → next s l ≡ Some s' → ((k : Line) → IsLine k → before ≡ line_text k → Some l ≡ Some k) → IsStep s s' rest behind
step_cut rest before from first behind s s' l e at f k w n same = record {
  line = l;
  valid = k;
  parts = cut_line rest before from first behind e at f ∙ ap (λ (bs : List ℕ). bs ++ 10 ∷ behind) w;
  step = n;
  only = λ j i t. let h = same j i (w ∙ t) in cc;
}

-- The result of reading a line of one letter.

abbrev first : List ℕ → ℕ
first bs = get_or bs 0 0

split_only : (k : Line) → IsLine k → line_text split ≡ line_text k → k ≡ split
split_only (title versions.One) i e = let h : 115 ≡ 99 = ap first e in absurd (omega (arith, h))
split_only (title versions.Two) i e = let h : 115 ≡ 99 = ap first e in absurd (omega (arith, h))
split_only (goal n) i e = let h : 115 ≡ 103 = ap first e in absurd (omega (arith, h))
split_only split i e = refl
split_only (whole x m) i e = let h : 115 ≡ 105 = ap first e in absurd (omega (arith, h))
split_only (farkas ms) i e = let h : 115 ≡ 102 = ap first e in absurd (omega (arith, h))
split_only plain i e = let h : 115 ≡ 116 = ap first e in absurd (omega (arith, h))
split_only last i e = let h : 115 ≡ 101 = ap first e in absurd (omega (arith, h))

plain_only : (k : Line) → IsLine k → line_text plain ≡ line_text k → k ≡ plain
plain_only (title versions.One) i e = let h : 116 ≡ 99 = ap first e in absurd (omega (arith, h))
plain_only (title versions.Two) i e = let h : 116 ≡ 99 = ap first e in absurd (omega (arith, h))
plain_only (goal n) i e = let h : 116 ≡ 103 = ap first e in absurd (omega (arith, h))
plain_only split i e = let h : 116 ≡ 115 = ap first e in absurd (omega (arith, h))
plain_only (whole x m) i e = let h : 116 ≡ 105 = ap first e in absurd (omega (arith, h))
plain_only (farkas ms) i e = let h : 116 ≡ 102 = ap first e in absurd (omega (arith, h))
plain_only plain i e = refl
plain_only last i e = let h : 116 ≡ 101 = ap first e in absurd (omega (arith, h))

pub step_split : (rest behind : List ℕ) (s s' : State) → rest ≡ 115 ∷ 10 ∷ behind → next s split ≡ Some s' → IsStep s s' rest behind
step_split rest behind s s' e n = record { line = split; valid = tt; parts = e; step = n; only = split_only }

pub step_plain : (rest behind : List ℕ) (s s' : State) → rest ≡ 116 ∷ 10 ∷ behind → next s plain ≡ Some s' → IsStep s s' rest behind
step_plain rest behind s s' e n = record { line = plain; valid = tt; parts = e; step = n; only = plain_only }

letter_free : (letter : ℕ) → letter ≢ 10 → All (λ b. b ≢ 10) (letter ∷ [])
letter_free letter other zero d l = other
letter_free letter other (suc k) d l = absurd (omega arith)

pub stuck_split : (rest behind : List ℕ) (s s' : State) → rest ≡ 115 ∷ 10 ∷ behind → next s split ≡ None → IsStuck s s' rest
stuck_split rest behind s s' e n =
    let P : Line → Type 0 = λ l. next s l ≡ None in
    IsStuck.refused (115 ∷ []) behind (letter_free 115 (λ h. omega arith)) e (λ l i t. subst P (sym (split_only l i t)) n)

pub stuck_plain : (rest behind : List ℕ) (s s' : State) → rest ≡ 116 ∷ 10 ∷ behind → next s plain ≡ None → IsStuck s s' rest
stuck_plain rest behind s s' e n =
    let P : Line → Type 0 = λ l. next s l ≡ None in
    IsStuck.refused (116 ∷ []) behind (letter_free 116 (λ h. omega arith)) e (λ l i t. subst P (sym (plain_only l i t)) n)

-- The result of reading the line of an integer split.

all_from_free : (mark : ℕ) (bs : List ℕ) → IsFreeOf mark bs → All (λ b. b ≢ mark) bs
all_from_free mark [] free i d l = absurd (omega arith)
all_from_free mark (b ∷ bs) free zero d l = free.0
all_from_free mark (b ∷ bs) free (suc k) d l = all_from_free mark bs free.1 k d (omega arith)

pub step_whole : (rest behind : List ℕ) (s s' : State) (x : ℕ) (m : ℤ) → IsWholeSplit x m → rest ≡ line_text (whole x m) ++ 10 ∷ behind → next s (whole x m) ≡ Some s' → IsStep s s' rest behind
step_whole rest behind s s' x m k e n = record { line = whole x m; valid = k; parts = e; step = n; only = λ l i t. line_once l (whole x m) i k (sym t) }

pub stuck_whole : (rest behind : List ℕ) (s s' : State) (x : ℕ) (m : ℤ) → IsWholeSplit x m → rest ≡ line_text (whole x m) ++ 10 ∷ behind → next s (whole x m) ≡ None → IsStuck s s' rest
stuck_whole rest behind s s' x m k e n =
    let P : Line → Type 0 = λ l. next s l ≡ None in
    IsStuck.refused (line_text (whole x m)) behind (all_from_free 10 (line_text (whole x m)) (line_free (whole x m) k)) e (λ l i t. subst P (line_once (whole x m) l k i t) n)
