-- Lines that the program holds, read up to one place.
use Rattle.run_script.proofs.FirstFaults.{fault_at_first, fault_behind}
use Rattle.run_script.proofs.NextLines.{begins, goes_on}
use Rattle.run_script.specs.Lines.{said}
use Rattle.run_script.specs.Scripts.{AreLinesOf, IsFirstFaultOf, Known, Script}
use Rattle.run_script.specs.internal.ReadLines.{begun, bytes_of, gone_on}
use Rattle.std.proofs.Common.{List, None, Some, [], add-one, ap, arith, drop, drop-cons, get_or, length, refl, subst, sym, take, take-append-drop, ◌+◌, ◌-◌, ◌++◌, ◌<◌, ◌∙◌, ◌∷◌, ◌≡◌, ◌≤◌, ℕ}
use Prim.Native.Nat.{suc, zero}
use Rattle.std.proofs.lemmas.List.{length-map, map-append, take_more, take_rest}
use Rattle.std.specs.Borrow.{Bor}

parted : (lines : List (Bor (List ℕ))) (k : ℕ) (line d : Bor (List ℕ)) → k < length lines → line ≡ get_or lines k d → lines ≡ take k lines ++ line ∷ drop (k + 1) lines
parted lines k line d lt is =
    let behind : drop k lines ≡ get_or lines k d ∷ drop (k + 1) lines = rw add-one (drop-cons lines k d lt) in
    sym (take-append-drop k lines) ∙ ap (λ ls. take k lines ++ ls) (behind ∙ ap (λ y. y ∷ drop (k + 1) lines) (sym is))

one_more : (lines : List (Bor (List ℕ))) (k : ℕ) (line d : Bor (List ℕ)) → k < length lines → line ≡ get_or lines k d → take (k + 1) lines ≡ take k lines ++ line ∷ []
one_more lines k line d lt is = take_more lines k d lt ∙ ap (λ y. take k lines ++ y ∷ []) (sym is)

length_front : (lines : List (Bor (List ℕ))) (k : ℕ) → k ≤ length lines → length (take k lines) ≡ k
length_front lines zero h = refl
length_front [] (suc k) h = absurd (omega (arith, h))
length_front (x ∷ lines) (suc k) h = ap suc (length_front lines k (omega (arith, h)))

pub begun_at : (known : Known) (s : Script) (lines : List (Bor (List ℕ))) (first d : Bor (List ℕ)) → 0 < length lines → first ≡ get_or lines 0 d → begun (said first.now) ≡ Some s → AreLinesOf known s (bytes_of (take 1 lines))
begun_at known s [] first d lt is e = absurd (omega (arith, lt))
begun_at known s (x ∷ lines) first d lt is e = subst (λ y. AreLinesOf known s (y.now ∷ [])) is (begins known s first.now e)

pub fault_at : (known : Known) (lines : List (Bor (List ℕ))) (first d : Bor (List ℕ)) → 0 < length lines → first ≡ get_or lines 0 d → begun (said first.now) ≡ None → IsFirstFaultOf known (bytes_of lines) 1
fault_at known [] first d lt is e = absurd (omega (arith, lt))
fault_at known (x ∷ lines) first d lt is e = subst (λ y. IsFirstFaultOf known (y.now ∷ bytes_of lines) 1) is (fault_at_first known first.now (bytes_of lines) e)

pub goes_further : (known : Known) (s t : Script) (lines : List (Bor (List ℕ))) (k : ℕ) (line d : Bor (List ℕ)) → k < length lines → line ≡ get_or lines k d
    → AreLinesOf known s (bytes_of (take k lines)) → gone_on known s (said line.now) ≡ Some t → AreLinesOf known t (bytes_of (take (k + 1) lines))
goes_further known s t lines k line d lt is h e =
    let parts : bytes_of (take (k + 1) lines) ≡ bytes_of (take k lines) ++ line.now ∷ [] = ap bytes_of (one_more lines k line d lt is) ∙ map-append (λ l. l.now) (take k lines) (line ∷ []) in
    subst (AreLinesOf known t) (sym parts) (goes_on known s t (bytes_of (take k lines)) line.now h e)

pub fault_further : (known : Known) (s : Script) (lines : List (Bor (List ℕ))) (k number : ℕ) (line d : Bor (List ℕ)) → k < length lines → line ≡ get_or lines k d
    → AreLinesOf known s (bytes_of (take k lines)) → gone_on known s (said line.now) ≡ None → number ≡ k + 1 → IsFirstFaultOf known (bytes_of lines) number
fault_further known s lines k number line d lt is h e place =
    fault_behind known s (bytes_of lines) (bytes_of (take k lines)) line.now (bytes_of (drop (k + 1) lines)) number h e
    (ap bytes_of (parted lines k line d lt is) ∙ map-append (λ l. l.now) (take k lines) (line ∷ drop (k + 1) lines))
    (place ∙ ap (λ n. n + 1) (sym (length-map (take k lines) (λ l. l.now) ∙ length_front lines k (omega (arith, lt)))))

pub line_behind_first : (lines : List (Bor (List ℕ))) (k : ℕ) (d : Bor (List ℕ)) → get_or (take (length lines - 1) (drop 1 lines)) k d ≡ get_or lines (k + 1) d
line_behind_first lines k d = ap (λ ls. get_or ls k d) (take_rest lines 1) ∙ behind lines
  where
    behind : (ls : List (Bor (List ℕ))) → get_or (drop 1 ls) k d ≡ get_or ls (k + 1) d
    behind [] = refl
    behind (x ∷ ls) = rw add-one refl
