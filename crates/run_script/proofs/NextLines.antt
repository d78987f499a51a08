-- Reading lines one by one: the lines with which a script continues, and the others.
use Rattle.run_script.proofs.LineOrder.{line_behind, line_between, same_script, script_behind}
use Rattle.run_script.proofs.FewSteps.{said_few}
use Rattle.run_script.specs.Lines.{Line, said}
use Rattle.run_script.specs.Scripts.{AreFirstLines, AreLinesOf, AreSettings, Known, Script, lines_of}
use Rattle.run_script.specs.internal.ReadLines.{begun, gone_on, may_follow, with_line}
use Rattle.std.proofs.Common.{Bool, List, None, Option, Some, [], ap, append_assoc, arith, codes, cond, false, map, refl, subst, sym, true, ◌++◌, ◌∙◌, ◌∷◌, ◌≡◌, ℕ}
use Rattle.std.proofs.lemmas.List.{append-nil, map-append}
use Rattle.std.specs.List.{IsDistinct}

-- ---- Lists of lines

pub rest_said : (os : List (Option Line)) (xs ys : List Line) → map Some xs ++ os ≡ map Some ys → (more : List Line) × ((ys ≡ xs ++ more) × (os ≡ map Some more))
rest_said os [] ys e = (ys, (refl, e))
rest_said os (x ∷ xs) [] e = cc
rest_said os (x ∷ xs) (y ∷ ys) e =
    let same : x ≡ y = cc in
    let tails : map Some xs ++ os ≡ map Some ys = cc in
    let rest = rest_said os xs ys tails in
    (rest.0, (ap (λ zs. y ∷ zs) rest.1.0 ∙ ap (λ z. z ∷ (xs ++ rest.0)) (sym same), rest.1.1))

same_said : (xs ys : List Line) → map Some xs ≡ map Some ys → xs ≡ ys
same_said [] [] e = refl
same_said [] (y ∷ ys) e = cc
same_said (x ∷ xs) [] e = cc
same_said (x ∷ xs) (y ∷ ys) e =
    let same : x ≡ y = cc in
    let tails : map Some xs ≡ map Some ys = cc in
    ap (λ zs. x ∷ zs) (same_said xs ys tails) ∙ ap (λ z. z ∷ ys) same

-- ---- One more line

pub goes_on : (known : Known) (s t : Script) (lines : List (List ℕ)) (next : List ℕ) → AreLinesOf known s lines → gone_on known s (said next) ≡ Some t → AreLinesOf known t (lines ++ next ∷ [])
goes_on known s t lines next h e = by_line (said next) refl e
  where
    one : (line : Line) → said next ≡ Some line → (b : Bool) → may_follow known s line ≡ b → cond b (Some (with_line s line)) None ≡ Some t → AreLinesOf known t (lines ++ next ∷ [])
    one line is true may e = let same : with_line s line ≡ t = cc in
        subst (λ u. AreLinesOf known u (lines ++ next ∷ [])) same
        (record {
          allowed = script_behind known s line h.allowed may;
          one_by_one =
              map-append said lines (next ∷ [])
              ∙ ap (λ os. os ++ said next ∷ []) h.one_by_one
              ∙ ap (λ o. map Some (lines_of s) ++ o ∷ []) is
              ∙ sym (map-append Some (lines_of s) (line ∷ []))
              ∙ ap (map Some) (sym (line_behind known s line may));
        })
    one line is false may e = cc

    by_line : (o : Option Line) → said next ≡ o → gone_on known s o ≡ Some t → AreLinesOf known t (lines ++ next ∷ [])
    by_line None is e = cc
    by_line (Some line) is e = one line is (may_follow known s line) refl e

-- The line with which a script continues after the lines of another script.
between : (known : Known) (s t : Script) (lines others : List (List ℕ)) (next : List ℕ) → AreLinesOf known s lines → AreLinesOf known t ((lines ++ next ∷ []) ++ others)
    → (line : Line) × ((said next ≡ Some line) × (may_follow known s line ≡ true))
between known s t lines others next h k =
    let parts : map said ((lines ++ next ∷ []) ++ others) ≡ map Some (lines_of s) ++ said next ∷ map said others =
    ap (map said) (append_assoc lines (next ∷ []) others) ∙ map-append said lines (next ∷ others) ∙ ap (λ os. os ++ said next ∷ map said others) h.one_by_one in
    let rest = rest_said (said next ∷ map said others) (lines_of s) (lines_of t) (sym parts ∙ k.one_by_one) in
    found rest.0 rest.1.0 rest.1.1
  where
    found : (more : List Line) → lines_of t ≡ lines_of s ++ more → said next ∷ map said others ≡ map Some more → (line : Line) × ((said next ≡ Some line) × (may_follow known s line ≡ true))
    found [] e f = cc
    found (line ∷ more) e f = let is : said next ≡ Some line = cc in (line, (is, line_between known t s line more k.allowed e))

pub no_more : (known : Known) (s : Script) (lines : List (List ℕ)) (next : List ℕ) → AreLinesOf known s lines → gone_on known s (said next) ≡ None → AreFirstLines known (lines ++ next ∷ []) → ⊥
no_more known s lines next h e first =
    let found = between known s first.script lines first.others next h first.whole in
    refused found.0 (may found.0 found.1.1) (ap (gone_on known s) (sym found.1.0) ∙ e)
  where
    may : (line : Line) → may_follow known s line ≡ true → gone_on known s (Some line) ≡ Some (with_line s line)
    may line e = rw e refl

    refused : (line : Line) → gone_on known s (Some line) ≡ Some (with_line s line) → gone_on known s (Some line) ≡ None → ⊥
    refused line a b = cc

-- ---- The first line

no_setting : (known : Known) → AreSettings known []
unfolding IsDistinct
no_setting None = tt
no_setting (Some variables) = (tt, tt)

pub begins : (known : Known) (s : Script) (first : List ℕ) → begun (said first) ≡ Some s → AreLinesOf known s (first ∷ [])
begins known s first e = by_line (said first) refl e
  where
    by_line : (o : Option Line) → said first ≡ o → begun o ≡ Some s → AreLinesOf known s (first ∷ [])
    by_line None is e = cc
    by_line (Some (Line.set setting)) is e = cc
    by_line (Some (Line.decide d)) is e = cc
    by_line (Some (Line.steps n)) is e =
        let script : Script = record { steps = n; settings = []; decisions = [] } in
        let same : script ≡ s = cc in
        subst (λ t. AreLinesOf known t (first ∷ [])) same
        (record {
          allowed = record { steps = said_few first n is; settings = no_setting known };
          one_by_one = ap (λ o. o ∷ []) is;
        })

pub none_begins : (known : Known) (first : List ℕ) → begun (said first) ≡ None → AreFirstLines known (first ∷ []) → ⊥
none_begins known first e h = let is : said first ≡ Some (Line.steps h.script.steps) = let said_so = h.whole.one_by_one in cc in no (ap begun is ∙ refl) e
  where
    no : begun (said first) ≡ Some (record { steps = h.script.steps; settings = []; decisions = [] }) → begun (said first) ≡ None → ⊥
    no a b = cc

pub before_all : (known : Known) → AreFirstLines known []
before_all known = record {
  script = record { steps = 0; settings = []; decisions = [] };
  others = codes "steps 0" ∷ [];
  whole = record { allowed = record { steps = omega arith; settings = no_setting known }; one_by_one = refl };
}

pub at_the_end : (known : Known) (s : Script) (lines : List (List ℕ)) → AreLinesOf known s lines → AreFirstLines known lines
at_the_end known s lines h = record { script = s; others = []; whole = subst (AreLinesOf known s) (sym (append-nil lines)) h }

pub same_lines : (known : Known) (s t : Script) (lines : List (List ℕ)) → AreLinesOf known s lines → AreLinesOf known t lines → s ≡ t
same_lines known s t lines h k = same_script s t (same_said (lines_of s) (lines_of t) (sym h.one_by_one ∙ k.one_by_one))
