-- The first line that is refused in worked texts of certificates, one text for each reason, and
-- texts that are read, in which no line is refused.
use Rattle.std.proofs.Common.{◌≡◌, ◌≢◌, ◌∙◌, ◌<◌, ◌+◌, ◌^◌, ◌++◌, ◌∷◌, ℕ, Bool, true, false, not}
use Rattle.std.proofs.Common.{◌==◌}
use Rattle.std.proofs.Common.{List, [], Some, None, codes, cond, get_or, length, refl, sym, ap}
use Rattle.std.proofs.Common.{subst, arith, lit<}
use Rattle.std.proofs.Common.{◌≤◌}
use Rattle.std.specs.Prelude.{nat_eq, nat_lt, pos, ◌||◌}
use Rattle.std.proofs.lemmas.Bool.Decides.{nat_tests}
use Rattle.std.proofs.lemmas.List.Elements.{All-cons, All-nil}
use Rattle.std.specs.Fmt.{digits}
use Rattle.std.specs.List.{All, list_all}
use Prim.Native.Nat.{suc, zero}
use Rattle.heylo_formula.specs.declared.goals.GoalId.TheVariants.{Main, Ranking}
use Rattle.goal_answers.specs.Trees.{Tree, depth}
use Rattle.cert_text.specs.Certificates.{Certificate, AreMultipliers, AreWritable, HasNumbers}
use Rattle.cert_text.specs.Certificates.{IsNumbered}
use Rattle.cert_text.specs.Lines.{Line, title, goal, split, whole, farkas, plain, last, line_text}
use Rattle.cert_text.specs.Stops.{IsCertStop}
use Rattle.cert_text.specs.Texts.{IsFirstFault, Spells, text_of}
use Rattle.cert_text.specs.declared.goal_names.GoalName.{GoalName}
use Rattle.cert_text.specs.declared.nodes.Node.TheVariants.{Question}
use Rattle.cert_text.specs.declared.states.Edition.TheVariants as editions
use Rattle.cert_text.specs.declared.stops.CertStop.TheVariants.{Fault}
use Rattle.cert_text.specs.declared.versions.Version.TheVariants.{One, Two}
use Rattle.cert_text.specs.internal.ReadStates.{Open, State, Way, next, start, between, inside}
use Rattle.cert_text.specs.internal.WholeLines.{IsLine}
use Rattle.cert_text.proofs.Progress.{IsProgress, fault_at_end, fault_here, fault_once, line_free}
use Rattle.cert_text.proofs.Progress.{progress_more, progress_start}
use Rattle.cert_text.proofs.Unique.{line_once}
use Rattle.cert_text.specs.internal.Words.{IsFreeOf}

-- ---- Reading a text line by line

-- `bytes` are `rest` after the lines that lead to the state `s`, and `rest` begins with line `n`.
abbrev Reads : List ℕ → List ℕ → ℕ → State → Type 0
Reads bytes rest n s = IsProgress bytes rest n s

all_free : (bs : List ℕ) → IsFreeOf 10 bs → All (λ b. b ≢ 10) bs
all_free [] free i d l = absurd (omega arith)
all_free (b ∷ bs) free zero d l = free.0
all_free (b ∷ bs) free (suc k) d l = all_free bs free.1 k d (omega arith)

free_by_test : (bs : List ℕ) → list_all (λ b. not (b == 10)) bs ≡ true → IsFreeOf 10 bs
free_by_test [] e = tt
free_by_test (b ∷ bs) e = (grind arith, free_by_test bs (grind arith))

-- The next line is allowed.
step : (l : Line) → IsLine l → (bytes behind : List ℕ) (n : ℕ) (s t : State)
    → Reads bytes (line_text l ++ 10 ∷ behind) n s → next s l ≡ Some t
    → Reads bytes behind (n + 1) t
step l k bytes behind n s t p e =
    progress_more bytes (line_text l ++ 10 ∷ behind) (line_text l) behind n s t l p refl k refl e
    (λ j i same. line_once j l i k (sym same))

-- The next line is not.
refused : (l : Line) → IsLine l → (bytes behind : List ℕ) (n : ℕ) (s : State)
    → Reads bytes (line_text l ++ 10 ∷ behind) n s → next s l ≡ None → IsFirstFault bytes n
refused l k bytes behind n s p e =
    fault_here bytes (line_text l ++ 10 ∷ behind) (line_text l) behind n s p refl
    (all_free (line_text l) (line_free l k))
    (λ j i same. subst (λ x. next s x ≡ None) (line_once l j k i same) e)

-- The next bytes are no line at all.
no_line : (word : List ℕ) → list_all (λ b. not (b == 10)) word ≡ true
    → ((l : Line) → IsLine l → word ≡ line_text l → ⊥) → (bytes behind : List ℕ) (n : ℕ) (s : State)
    → Reads bytes (word ++ 10 ∷ behind) n s → IsFirstFault bytes n
no_line word free none bytes behind n s p =
    fault_here bytes (word ++ 10 ∷ behind) word behind n s p refl
    (all_free word (free_by_test word free)) (λ l i same. absurd (none l i same))

-- ---- The texts begin with a title, and then with a goal

abbrev main : GoalName
main = record { proc = 0; id = Main }

main_numbers : IsNumbered main
main_numbers = record { proc = omega arith; loop = omega arith }

titled : (rest : List ℕ)
    → Reads (codes "caesar certificate 1\n" ++ rest) rest 2 (between editions.One [] None)
titled rest = step (title One) tt _ rest 1 start _ (progress_start _) refl

titled_two : (rest : List ℕ)
    → Reads (codes "caesar certificate 2\n" ++ rest) rest 2 (between editions.Lacking [] None)
titled_two rest = step (title Two) tt _ rest 1 start _ (progress_start _) refl

with_goal : (rest : List ℕ)
    → Reads (codes "caesar certificate 1\ngoal 0 main\n" ++ rest) rest 3
    (inside editions.One [] main [])
unfolding digits
with_goal rest =
    step (goal main) main_numbers _ rest 2 _ _ (titled (codes "goal 0 main\n" ++ rest)) refl

with_goal_two : (rest : List ℕ)
    → Reads (codes "caesar certificate 2\ngoal 0 main\n" ++ rest) rest 3
    (inside editions.Lacking [] main [])
unfolding digits
with_goal_two rest =
    step (goal main) main_numbers _ rest 2 _ _ (titled_two (codes "goal 0 main\n" ++ rest)) refl

-- One goal that holds plainly.
abbrev plain_main : List Certificate
plain_main = record { name = main; tree = Tree.plain } ∷ []

with_tree : (rest : List ℕ)
    → Reads (codes "caesar certificate 1\ngoal 0 main\nt\n" ++ rest) rest 4
    (between editions.One plain_main (Some main))
with_tree rest = step plain tt _ rest 3 _ _ (with_goal (codes "t\n" ++ rest)) refl

-- ---- Texts that are no line

-- A line begins with one of these bytes.
abbrev begins_line : List ℕ → Bool
begins_line [] = false
begins_line (b ∷ bs) =
    nat_eq b 99 || nat_eq b 103 || nat_eq b 115 || nat_eq b 105 || nat_eq b 102 || nat_eq b 116
    || nat_eq b 101

lines_begin : (l : Line) → begins_line (line_text l) ≡ true
lines_begin (title One) = refl
lines_begin (title Two) = refl
lines_begin (goal n) = refl
lines_begin split = refl
lines_begin (whole x m) = refl
lines_begin (farkas ms) = refl
lines_begin plain = refl
lines_begin last = refl

no_word_x : (l : Line) → IsLine l → codes "x" ≡ line_text l → ⊥
no_word_x l i e = let no = ap begins_line e ∙ lines_begin l in cc

-- The byte at a place.
abbrev is_at : ℕ → ℕ → List ℕ → Bool
is_at i b bs = nat_eq (get_or bs i 0) b

no_title_three : (l : Line) → IsLine l → codes "caesar certificate 3" ≡ line_text l → ⊥
no_title_three (title One) i e = let no = ap (is_at 19 51) e in cc
no_title_three (title Two) i e = let no = ap (is_at 19 51) e in cc
no_title_three (goal n) i e = let no = ap (is_at 0 99) e in cc
no_title_three split i e = let no = ap (is_at 0 99) e in cc
no_title_three (whole x m) i e = let no = ap (is_at 0 99) e in cc
no_title_three (farkas ms) i e = let no = ap (is_at 0 99) e in cc
no_title_three plain i e = let no = ap (is_at 0 99) e in cc
no_title_three last i e = let no = ap (is_at 0 99) e in cc

no_lone_f : (l : Line) → IsLine l → codes "f" ≡ line_text l → ⊥
no_lone_f (title One) i e = let no = ap (is_at 0 102) e in cc
no_lone_f (title Two) i e = let no = ap (is_at 0 102) e in cc
no_lone_f (goal n) i e = let no = ap (is_at 0 102) e in cc
no_lone_f split i e = let no = ap (is_at 0 102) e in cc
no_lone_f (whole x m) i e = let no = ap (is_at 0 102) e in cc
no_lone_f (farkas []) i e = omega (arith, i.some)
no_lone_f (farkas (m ∷ ms)) i e = let no = ap (is_at 1 32) e in cc
no_lone_f plain i e = let no = ap (is_at 0 102) e in cc
no_lone_f last i e = let no = ap (is_at 0 102) e in cc

-- ---- Lines that are refused

-- There is no version 3.
third_version : IsFirstFault (codes "caesar certificate 3\nend\n") 1
third_version =
    no_line (codes "caesar certificate 3") refl no_title_three _ (codes "end\n") 1 start
    (progress_start _)

-- A goal comes before the title.
no_title : IsFirstFault (codes "goal 0 main\nt\nend\n") 1
unfolding digits
no_title = refused (goal main) main_numbers _ (codes "t\nend\n") 1 start (progress_start _) refl

-- A line that begins with no known keyword.
unknown_word : IsFirstFault (codes "caesar certificate 1\nx\nend\n") 2
unknown_word = no_line (codes "x") refl no_word_x _ (codes "end\n") 2 _ (titled (codes "x\nend\n"))

-- A goal is named twice.
goal_again : IsFirstFault (codes "caesar certificate 1\ngoal 0 main\nt\ngoal 0 main\nt\nend\n") 4
unfolding digits
goal_again =
    refused (goal main) main_numbers _ (codes "t\nend\n") 4 _
    (with_tree (codes "goal 0 main\nt\nend\n")) refl

-- A node comes before any goal.
no_goal : IsFirstFault (codes "caesar certificate 1\nt\nend\n") 2
no_goal = refused plain tt _ (codes "end\n") 2 _ (titled (codes "t\nend\n")) refl

-- A node comes after the last leaf of a tree.
leaf_too_many : IsFirstFault (codes "caesar certificate 1\ngoal 0 main\nt\nt\nend\n") 4
leaf_too_many = refused plain tt _ (codes "end\n") 4 _ (with_tree (codes "t\nend\n")) refl

-- The end comes before the last leaf.
leaf_too_few : IsFirstFault (codes "caesar certificate 1\ngoal 0 main\nend\n") 3
leaf_too_few = refused last tt _ [] 3 _ (with_goal (codes "end\n")) refl

-- Version 1 splits no variable.
split_in_version_one :
    IsFirstFault (codes "caesar certificate 1\ngoal 0 main\ni 0 0\nt\nt\nend\n") 3
unfolding digits
split_in_version_one =
    refused (whole 0 (pos 0)) (record { variable = omega arith; number = omega arith }) _
    (codes "t\nt\nend\n") 3 _
    (with_goal (codes "i 0 0\nt\nt\nend\n")) refl

-- Version 2 splits a variable somewhere.
no_split_in_version_two : IsFirstFault (codes "caesar certificate 2\nend\n") 2
no_split_in_version_two = refused last tt _ [] 2 _ (titled_two (codes "end\n")) refl

-- A leaf has at least one multiplier.
no_multiplier : IsFirstFault (codes "caesar certificate 1\ngoal 0 main\nf\nend\n") 3
no_multiplier =
    no_line (codes "f") refl no_lone_f _ (codes "end\n") 3 _ (with_goal (codes "f\nend\n"))

-- The last line feed is missing.
no_line_feed : IsFirstFault (codes "caesar certificate 1\nend") 2
no_line_feed =
    fault_at_end _ (codes "end") 2 _ (titled (codes "end"))
    (all_free (codes "end") (free_by_test (codes "end") refl)) (λ cs e rest. cc)

-- A line comes after the end.
line_after_end : IsFirstFault (codes "caesar certificate 1\nend\nend\n") 3
line_after_end =
    refused last tt _ [] 3 _
    (step last tt _ (codes "end\n") 2 _ _ (titled (codes "end\nend\n")) refl) refl

-- They are reported as invalid lines, and no other line is.
fault_is_a_cause : IsCertStop (codes "caesar certificate 1\nt\nend\n") (Fault 2)
fault_is_a_cause = no_goal

only_line_two : (n : ℕ) → IsFirstFault (codes "caesar certificate 1\nt\nend\n") n → n ≡ 2
only_line_two n h = fault_once _ n 2 h no_goal

-- ---- Texts that are read

-- The multiplier 1 at the row 0.
once_at_first : AreMultipliers ((0, 1) ∷ [])
once_at_first = record {
  some = omega arith;
  growing = (All-nil (λ m. 0 < m.0), tt);
  within = All-cons (λ m. m.0 < 2 ^ 32) (0, 1) [] (lit< tt) (All-nil (λ m. m.0 < 2 ^ 32));
  positive = All-cons (λ m. 0 < m.1) (0, 1) [] (lit< tt) (All-nil (λ m. 0 < m.1));
  narrow = All-cons (λ m. m.1 < 2 ^ 62) (0, 1) [] (lit< tt) (All-nil (λ m. m.1 < 2 ^ 62));
}

-- A goal with a split, one side of which has a multiplier and the other none, and the ranking of a
-- loop.
abbrev worked : List Certificate
worked =
    record { name = main; tree = Tree.split (Tree.farkas ((0, 1) ∷ [])) Tree.plain }
    ∷ record { name = record { proc = 0; id = Ranking 1 }; tree = Tree.plain }
    ∷ []

worked_writable : AreWritable worked
worked_writable = record {
  growing = (refl, (refl, tt));
  each = (
    record { name = main_numbers; numbers = (once_at_first, tt); depth = omega arith },
    (
      record {
        name = record { proc = omega arith; loop = omega arith };
        numbers = tt;
        depth = omega arith;
      },
      tt,
    ),
  );
}

abbrev worked_text : List ℕ
worked_text = codes "caesar certificate 1\ngoal 0 main\ns\nf 0:1\nt\ngoal 0 ranking 1\nt\nend\n"

worked_spells : Spells worked worked_text
unfolding digits
worked_spells = record { writable = worked_writable; text = refl }

-- No line of it is refused.
worked_has_no_fault : (n : ℕ) → IsFirstFault worked_text n → ⊥
worked_has_no_fault n fault = fault.unfinished worked worked_spells

-- A variable that is split, and so version 2.
abbrev halves : List Certificate
halves = record { name = main; tree = Tree.whole 0 (pos 0) Tree.plain Tree.plain } ∷ []

abbrev halves_text : List ℕ
halves_text = codes "caesar certificate 2\ngoal 0 main\ni 0 0\nt\nt\nend\n"

halves_spell : Spells halves halves_text
unfolding digits
halves_spell = record {
  writable = record {
    growing = (refl, tt);
    each = (
      record {
        name = main_numbers;
        numbers = (record { variable = omega arith; number = omega arith }, tt, tt);
        depth = omega arith;
      },
      tt,
    );
  };
  text = refl;
}

halves_have_no_fault : (n : ℕ) → IsFirstFault halves_text n → ⊥
halves_have_no_fault n fault = fault.unfinished halves halves_spell

-- No certificate at all is a list with a text, too.
empty_spells : Spells [] (codes "caesar certificate 1\nend\n")
empty_spells = record { writable = record { growing = tt; each = tt }; text = refl }

-- ---- Lists without a text

-- The same goal twice.
twice_is_not_writable : AreWritable (record { name = main; tree = Tree.plain } ∷ plain_main) → ⊥
twice_is_not_writable w = let no = w.growing.1.0 in cc

-- A tree of n + 1 levels.
deep : ℕ → Tree
deep zero = Tree.plain
deep (suc n) = Tree.split (deep n) Tree.plain

depth_of_deep : (n : ℕ) → depth (deep n) ≡ 1 + n
unfolding deep
depth_of_deep zero = refl
depth_of_deep (suc n) = let e = depth_of_deep n in omega (arith, e)

deep_numbers : (n : ℕ) → HasNumbers (deep n)
unfolding deep
deep_numbers zero = tt
deep_numbers (suc n) = (deep_numbers n, tt)

-- A tree of 1,000 levels has a text, and no line of it is refused.
abbrev deepest : List Certificate
deepest = record { name = main; tree = deep 999 } ∷ []

deepest_writable : AreWritable deepest
deepest_writable = record {
  growing = (refl, tt);
  each = (
    record {
      name = main_numbers;
      numbers = deep_numbers 999;
      depth = let e = depth_of_deep 999 in omega (arith, e);
    },
    tt,
  );
}

deepest_has_no_fault : (n : ℕ) → IsFirstFault (text_of deepest) n → ⊥
deepest_has_no_fault n fault =
    fault.unfinished deepest (record { writable = deepest_writable; text = refl })

-- One of 1,001 levels has none.
too_deep : AreWritable (record { name = main; tree = deep 1000 } ∷ []) → ⊥
too_deep w = let e = depth_of_deep 1000 in let d = w.each.0.depth in omega (arith, e, d)

-- n lines `s`, and then a rest.
splits : ℕ → List ℕ → List ℕ
splits zero rest = rest
splits (suc n) rest = 115 ∷ 10 ∷ splits n rest

splits_more : (n : ℕ) (rest : List ℕ) → splits (suc n) rest ≡ splits n (115 ∷ 10 ∷ rest)
unfolding splits
splits_more zero rest = refl
splits_more (suc n) rest = ap (λ bs. 115 ∷ 10 ∷ bs) (splits_more n rest)

-- What is read after the lines `s`: a tree with an open place at a depth.
record AreOpen (bytes rest : List ℕ) (line depth : ℕ) : Type 0 where
  way : Open
  long : length way ≡ depth
  reads : Reads bytes rest line (inside editions.One [] main way)

chosen : {A : Type 0} (b : Bool) (x y : A) → b ≡ true → cond b x y ≡ x
chosen true x y e = refl
chosen false x y e = absurd (cc)

not_chosen : {A : Type 0} (b : Bool) (x y : A) → b ≡ false → cond b x y ≡ y
not_chosen true x y e = absurd (cc)
not_chosen false x y e = refl

is_less : (m n : ℕ) → m < n → nat_lt m n ≡ true
is_less m n h = grind (arith, nat_tests)

is_not_less : (m n : ℕ) → n ≤ m → nat_lt m n ≡ false
is_not_less m n h = grind (arith, nat_tests)

open_splits : (n : ℕ) (bytes rest : List ℕ) (line : ℕ) (way : Open) → length way + n ≤ 999
    → Reads bytes (splits n rest) line (inside editions.One [] main way)
    → AreOpen bytes rest (line + n) (length way + n)
unfolding splits
open_splits zero bytes rest line way few p = record {
  way = way;
  long = omega arith;
  reads = subst (λ k. Reads bytes rest k (inside editions.One [] main way)) (omega arith) p;
}
open_splits (suc n) bytes rest line way few p =
    let room = is_less (length way) 999 (omega (arith, few)) in
    let next_open = step split tt bytes (splits n rest) line _ _ p (chosen _ _ _ room) in
    let front : Open = Way.first Question ∷ way in
    let more = open_splits n bytes rest (line + 1) front (omega (arith, few)) next_open in
    let P : ℕ → Type 0 = λ k. Reads bytes rest k (inside editions.One [] main more.way) in
    record {
      way = more.way;
      long = let l = more.long in omega (arith, l);
      reads = subst P (omega arith) more.reads;
    }

-- The thousandth `s` of a tree is refused.
with_splits : List ℕ → List ℕ
with_splits bytes = codes "caesar certificate 1\ngoal 0 main\n" ++ bytes

question_too_deep : IsFirstFault (with_splits (splits 1000 (codes "t\nend\n"))) 1002
unfolding with_splits
question_too_deep =
    let before = with_goal (splits 999 (codes "s\nt\nend\n")) in
    let there = open_splits 999 _ (codes "s\nt\nend\n") 3 [] (omega arith) before in
    let long = there.long in
    let full = is_not_less (length there.way) 999 (omega (arith, long)) in
    let here = refused split tt _ (codes "t\nend\n") 1002 _ there.reads (not_chosen _ _ _ full) in
    subst (λ bs. IsFirstFault (with_splits bs) 1002) (sym (splits_more 999 (codes "t\nend\n"))) here
