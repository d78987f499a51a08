-- The first invalid line of a text.
use Rattle.run_script.proofs.NextLines.{at_the_end, before_all, no_more, none_begins}
use Rattle.run_script.specs.Lines.{said}
use Rattle.run_script.specs.Scripts.{AreFirstLines, AreLinesOf, IsFirstFaultOf, Known, Script}
use Rattle.run_script.specs.internal.ReadLines.{begun, gone_on}
use Rattle.std.proofs.Common.{List, None, [], ap, append_assoc, arith, drop, inl, inr, length, length-append, refl, subst, sym, take, take-append-drop, ◌+◌, ◌++◌, ◌<◌, ◌∙◌, ◌∷◌, ◌≡◌, ◌⊎◌, ℕ}
use Rattle.std.proofs.Math.Seq.{take-append_seam}
use Rattle.std.proofs.lemmas.Bool.{cases_order}
use Rattle.std.proofs.lemmas.List.{take-append-le}

-- ---- The line at which reading stops

-- The first line is invalid.
pub fault_at_first : (known : Known) (first : List ℕ) (behind : List (List ℕ)) → begun (said first) ≡ None → IsFirstFaultOf known (first ∷ behind) 1
fault_at_first known first behind e = record {
  before = [];
  next = first;
  behind = behind;
  parts = refl;
  place = refl;
  allowed = before_all known;
  refused = none_begins known first e;
}

-- A later line is invalid.
pub fault_behind : (known : Known) (s : Script) (lines before : List (List ℕ)) (next : List ℕ) (behind : List (List ℕ)) (number : ℕ)
    → AreLinesOf known s before → gone_on known s (said next) ≡ None → lines ≡ before ++ next ∷ behind → number ≡ length before + 1 → IsFirstFaultOf known lines number
fault_behind known s lines before next behind number h e parts place = record {
  before = before;
  next = next;
  behind = behind;
  parts = parts;
  place = place;
  allowed = at_the_end known s before h;
  refused = no_more known s before next h e;
}

-- ---- Laws

first_of_first : (known : Known) (lines more : List (List ℕ)) → AreFirstLines known (lines ++ more) → AreFirstLines known lines
first_of_first known lines more h = record {
  script = h.script;
  others = more ++ h.others;
  whole = subst (AreLinesOf known h.script) (append_assoc lines more h.others) h.whole;
}

pub no_fault : (known : Known) (s : Script) (lines : List (List ℕ)) (n : ℕ) → AreLinesOf known s lines → IsFirstFaultOf known lines n → ⊥
no_fault known s lines n h fault =
    fault.refused (record {
      script = s;
      others = fault.behind;
      whole = subst (AreLinesOf known s) (fault.parts ∙ sym (append_assoc fault.before (fault.next ∷ []) fault.behind)) h;
    })

-- The lines up to the earlier one of two invalid lines are first lines of those before the later
-- one.
earlier : (lines before : List (List ℕ)) (next : List ℕ) (behind others : List (List ℕ)) (other : List ℕ) (more : List (List ℕ))
    → lines ≡ before ++ next ∷ behind → lines ≡ others ++ other ∷ more → length before < length others → (before ++ next ∷ []) ++ drop (length before + 1) others ≡ others
earlier lines before next behind others other more e f less =
    let size : length (before ++ next ∷ []) ≡ length before + 1 = length-append before (next ∷ []) in
    let first : take (length before + 1) lines ≡ before ++ next ∷ [] =
    ap (take (length before + 1)) (e ∙ sym (append_assoc before (next ∷ []) behind)) ∙ front (before ++ next ∷ []) behind (length before + 1) size in
    let second : take (length before + 1) lines ≡ take (length before + 1) others = ap (take (length before + 1)) f ∙ take-append-le (length before + 1) others (other ∷ more) (omega arith) in
    ap (λ ls. ls ++ drop (length before + 1) others) (sym first ∙ second) ∙ take-append-drop (length before + 1) others
  where
    front : (xs ys : List (List ℕ)) (n : ℕ) → length xs ≡ n → take n (xs ++ ys) ≡ xs
    front xs ys n same = subst (λ m. take m (xs ++ ys) ≡ xs) same (take-append_seam xs ys)

not_before : (known : Known) (lines : List (List ℕ)) (m n : ℕ) → (f : IsFirstFaultOf known lines m) (g : IsFirstFaultOf known lines n) → length f.before < length g.before → ⊥
not_before known lines m n f g less =
    f.refused (first_of_first known (f.before ++ f.next ∷ []) (drop (length f.before + 1) g.before)
    (subst (AreFirstLines known) (sym (earlier lines f.before f.next f.behind g.before g.next g.behind f.parts g.parts less)) g.allowed))

pub same_fault : (known : Known) (lines : List (List ℕ)) (m n : ℕ) → IsFirstFaultOf known lines m → IsFirstFaultOf known lines n → m ≡ n
same_fault known lines m n f g = pick (cases_order (length f.before) (length g.before))
  where
    pick : (length f.before ≡ length g.before) ⊎ ((length f.before < length g.before) ⊎ (length g.before < length f.before)) → m ≡ n
    pick (inl same) = f.place ∙ ap (λ k. k + 1) same ∙ sym g.place
    pick (inr (inl less)) = absurd (not_before known lines m n f g less)
    pick (inr (inr less)) = absurd (not_before known lines n m g f less)
