-- The order of a script's lines, and the lines that may follow.
use Rattle.heyvl_acts.proofs.exported.Each.{each_second, each_append}
use Rattle.heyvl_acts.specs.Rules.{Each}
use Rattle.run_machine.specs.declared.configurations.Decide.{Decide}
use Rattle.run_script.specs.Lines.{Line}
use Rattle.run_script.specs.Scripts.{AreSettings, IsScript, Known, Script, lines_of, takes}
use Rattle.run_script.specs.declared.scripts.Setting.{Setting}
use Rattle.run_script.specs.internal.ReadLines.{is_set, may_follow, may_set, with_line}
use Rattle.std.proofs.Common.{Bool, List, None, Some, [], ap, append_assoc, arith, false, length, map, not, refl, subst, sym, true, ◌&&◌, ◌++◌, ◌==◌, ◌||◌, ◌∙◌, ◌∷◌, ◌≡◌, ◌≢◌, ℕ}
use Rattle.std.proofs.lemmas.Bool.Decides.{nat_tests}
use Rattle.std.proofs.lemmas.List.{append-nil, map-append}
use Rattle.std.specs.List.{AllByRecursion, IsDistinct, list_any}
use Rattle.std.specs.Str.{bytes_eq}

-- ---- Boolean tests

both_true : (a b : Bool) → (a && b) ≡ true → (a ≡ true) × (b ≡ true)
both_true true b e = (refl, e)
both_true false b e = cc

not_true : (a : Bool) → not a ≡ true → a ≡ false
not_true true e = cc
not_true false e = refl

either_false : (a b : Bool) → (a || b) ≡ false → (a ≡ false) × (b ≡ false)
either_false true b e = cc
either_false false b e = (refl, e)

no_length : {A : Type 0} (xs : List A) → (length xs == 0) ≡ true → xs ≡ []
no_length [] e = refl
no_length (x ∷ xs) e = let no : length (x ∷ xs) ≡ 0 = grind (arith, nat_tests) in absurd (omega (arith, no))

is_some_length : {A : Type 0} (xs : List A) → xs ≢ [] → not (length xs == 0) ≡ true
is_some_length [] other = absurd (other refl)
is_some_length (x ∷ xs) other = let some : (length (x ∷ xs) == 0) ≡ false = grind (arith, nat_tests) in rw some refl

some_length : {A : Type 0} (xs : List A) → not (length xs == 0) ≡ true → xs ≢ []
some_length [] e same = cc
some_length (x ∷ xs) e same = cc

-- ---- Settings of different names

abbrev name_of : Setting → List ℕ
name_of s = s.name

apart : (name : List ℕ) (settings : List Setting) → is_set name settings ≡ false → AllByRecursion (λ other. bytes_eq other name ≡ false) (map name_of settings)
apart name [] e = tt
apart name (s ∷ more) e = let two = either_false (bytes_eq s.name name) (is_set name more) e in (two.0, apart name more two.1)

all_behind : (P : List ℕ → Type 0) (xs : List (List ℕ)) (x : List ℕ) → AllByRecursion P xs → P x → AllByRecursion P (xs ++ x ∷ [])
all_behind P [] x h k = (k, tt)
all_behind P (y ∷ xs) x h k = (h.0, all_behind P xs x h.1 k)

distinct_behind : (names : List (List ℕ)) (name : List ℕ) → IsDistinct bytes_eq names → AllByRecursion (λ other. bytes_eq other name ≡ false) names → IsDistinct bytes_eq (names ++ name ∷ [])
unfolding IsDistinct
distinct_behind [] name h k = (tt, tt)
distinct_behind (x ∷ names) name h k = (all_behind (λ y. bytes_eq x y ≡ false) names name h.0 k.0, distinct_behind names name h.1 k.1)

middle_is : (P : List ℕ → Type 0) (xs : List (List ℕ)) (x : List ℕ) (ys : List (List ℕ)) → AllByRecursion P (xs ++ x ∷ ys) → P x
middle_is P [] x ys h = h.0
middle_is P (y ∷ xs) x ys h = middle_is P xs x ys h.1

not_set : (settings : List Setting) (s : Setting) (more : List Setting) → IsDistinct bytes_eq (map name_of (settings ++ s ∷ more)) → is_set s.name settings ≡ false
unfolding IsDistinct
not_set [] s more h = refl
not_set (x ∷ settings) s more h =
    let names : map name_of (settings ++ s ∷ more) ≡ map name_of settings ++ s.name ∷ map name_of more = map-append name_of settings (s ∷ more) in
    let other : bytes_eq x.name s.name ≡ false = middle_is (λ y. bytes_eq x.name y ≡ false) (map name_of settings) s.name (map name_of more) (subst (λ ys. AllByRecursion (λ y. bytes_eq x.name y ≡ false) ys) names h.0) in
    rw (other, not_set settings s more h.1) refl

-- ---- One more setting

setting_behind : (known : Known) (settings : List Setting) (s : Setting) → AreSettings known settings → may_set known settings s ≡ true → AreSettings known (settings ++ s ∷ [])
setting_behind None settings s h e = each_append (λ x. x.name ≢ []) settings (s ∷ []) h (some_length s.name e, tt)
setting_behind (Some variables) settings s h e =
    let two = both_true (list_any (takes s) variables) (not (is_set s.name settings)) e in
    let names : map name_of (settings ++ s ∷ []) ≡ map name_of settings ++ s.name ∷ [] = map-append name_of settings (s ∷ []) in (
      each_append (λ x. list_any (takes x) variables ≡ true) settings (s ∷ []) h.0 (two.0, tt),
      subst (IsDistinct bytes_eq) (sym names) (distinct_behind (map name_of settings) s.name h.1 (apart s.name settings (not_true (is_set s.name settings) two.1))),
    )

-- Each setting of a script may follow the settings before it.
setting_between : (known : Known) (settings : List Setting) (s : Setting) (more : List Setting) → AreSettings known (settings ++ s ∷ more) → may_set known settings s ≡ true
setting_between None settings s more h = is_some_length s.name (each_second (λ x. x.name ≢ []) settings (s ∷ more) h).0
setting_between (Some variables) settings s more h =
    let taken = (each_second (λ x. list_any (takes x) variables ≡ true) settings (s ∷ more) h.0).0 in
    rw (taken, not_set settings s more h.1) refl

-- ---- One more line

-- The lines after the first one.
abbrev later : List Setting → List Decide → List Line
later settings decisions = map Line.set settings ++ map Line.decide decisions

pub line_behind : (known : Known) (s : Script) (line : Line) → may_follow known s line ≡ true → lines_of (with_line s line) ≡ lines_of s ++ line ∷ []
line_behind known s (Line.steps n) e = cc
line_behind known s (Line.set setting) e =
    let two = both_true (length s.decisions == 0) (may_set known s.settings setting) e in
    let none : s.decisions ≡ [] = no_length s.decisions two.0 in
    ap (λ ls. Line.steps s.steps ∷ ls)
    (rw none
    (append-nil (map Line.set (s.settings ++ setting ∷ []))
    ∙ map-append Line.set s.settings (setting ∷ [])
    ∙ ap (λ ls. ls ++ Line.set setting ∷ []) (sym (append-nil (map Line.set s.settings)))))
line_behind known s (Line.decide d) e =
    ap (λ ls. Line.steps s.steps ∷ ls)
    (ap (λ ls. map Line.set s.settings ++ ls) (map-append Line.decide s.decisions (d ∷ []))
    ∙ sym (append_assoc (map Line.set s.settings) (map Line.decide s.decisions) (Line.decide d ∷ [])))

pub script_behind : (known : Known) (s : Script) (line : Line) → IsScript known s → may_follow known s line ≡ true → IsScript known (with_line s line)
script_behind known s (Line.steps n) h e = cc
script_behind known s (Line.set setting) h e =
    let two = both_true (length s.decisions == 0) (may_set known s.settings setting) e in
    record { steps = h.steps; settings = setting_behind known s.settings setting h.settings two.1 }
script_behind known s (Line.decide d) h e = record { steps = h.steps; settings = h.settings }

-- ---- Lines with which a script continues

abbrev is_steps : Line → Bool
is_steps (Line.steps n) = true
is_steps (Line.set setting) = false
is_steps (Line.decide d) = false

abbrev is_setting : Line → Bool
is_setting (Line.steps n) = false
is_setting (Line.set setting) = true
is_setting (Line.decide d) = false

no_steps : (settings : List Setting) (decisions : List Decide) → Each (λ line. is_steps line ≡ false) (later settings decisions)
no_steps [] [] = tt
no_steps [] (d ∷ decisions) = (refl, no_steps [] decisions)
no_steps (s ∷ settings) decisions = (refl, no_steps settings decisions)

no_settings : (decisions : List Decide) → Each (λ line. is_setting line ≡ false) (map Line.decide decisions)
no_settings [] = tt
no_settings (d ∷ decisions) = (refl, no_settings decisions)

no_setting_later : (decisions : List Decide) (lines : List Line) (s : Setting) (more : List Line) → map Line.decide decisions ≡ lines ++ Line.set s ∷ more → ⊥
no_setting_later decisions lines s more e =
    let all : Each (λ line. is_setting line ≡ false) (lines ++ Line.set s ∷ more) = subst (λ ls. Each (λ line. is_setting line ≡ false) ls) e (no_settings decisions) in
    let here = (each_second (λ line. is_setting line ≡ false) lines (Line.set s ∷ more) all).0 in
    cc

-- If a setting follows these settings and decisions, there are no decisions, and it is the next
-- setting.
record ComesNext (whole settings : List Setting) (decisions : List Decide) (s : Setting) : Type 0 where
  none : decisions ≡ []
  rest : List Setting
  split : whole ≡ settings ++ s ∷ rest

comes_next : (whole : List Setting) (ends : List Decide) (settings : List Setting) (decisions : List Decide) (s : Setting) (more : List Line) → later whole ends ≡ later settings decisions ++ Line.set s ∷ more → ComesNext whole settings decisions s
comes_next (y ∷ whole) ends (x ∷ settings) decisions s more e =
    let same : y ≡ x = cc in
    let tails : later whole ends ≡ later settings decisions ++ Line.set s ∷ more = cc in
    let next = comes_next whole ends settings decisions s more tails in
    record { none = next.none; rest = next.rest; split = ap (λ ys. y ∷ ys) next.split ∙ ap (λ z. z ∷ (settings ++ s ∷ next.rest)) same }
comes_next [] ends (x ∷ settings) decisions s more e = absurd (no_setting_later ends [] x (later settings decisions ++ Line.set s ∷ more) e)
comes_next (y ∷ whole) ends [] [] s more e = let same : y ≡ s = cc in record { none = refl; rest = whole; split = ap (λ z. z ∷ whole) same }
comes_next [] ends [] [] s more e = absurd (no_setting_later ends [] s more e)
comes_next (y ∷ whole) ends [] (d ∷ decisions) s more e = cc
comes_next [] ends [] (d ∷ decisions) s more e = absurd (no_setting_later ends (map Line.decide (d ∷ decisions)) s more e)

-- A line with which a script continues may follow.
pub line_between : (known : Known) (t s : Script) (line : Line) (more : List Line) → IsScript known t → lines_of t ≡ lines_of s ++ line ∷ more → may_follow known s line ≡ true
line_between known t s (Line.steps n) more h e =
    let tails : later t.settings t.decisions ≡ later s.settings s.decisions ++ Line.steps n ∷ more = cc in
    let all : Each (λ line. is_steps line ≡ false) (later s.settings s.decisions ++ Line.steps n ∷ more) = subst (λ ls. Each (λ line. is_steps line ≡ false) ls) tails (no_steps t.settings t.decisions) in
    let here = (each_second (λ line. is_steps line ≡ false) (later s.settings s.decisions) (Line.steps n ∷ more) all).0 in
    cc
line_between known t s (Line.set setting) more h e =
    let tails : later t.settings t.decisions ≡ later s.settings s.decisions ++ Line.set setting ∷ more = cc in
    let next = comes_next t.settings t.decisions s.settings s.decisions setting more tails in
    let may = setting_between known s.settings setting next.rest (subst (AreSettings known) next.split h.settings) in
    rw (next.none, may) refl
line_between known t s (Line.decide d) more h e = refl

-- ---- Scripts with the same lines

same_settings : (xs : List Setting) (ds : List Decide) (ys : List Setting) (es : List Decide) → later xs ds ≡ later ys es → (xs ≡ ys) × (map Line.decide ds ≡ map Line.decide es)
same_settings [] ds [] es e = (refl, e)
same_settings (x ∷ xs) ds (y ∷ ys) es e =
    let same : x ≡ y = cc in
    let tails : later xs ds ≡ later ys es = cc in
    let rest = same_settings xs ds ys es tails in
    (ap (λ zs. x ∷ zs) rest.0 ∙ ap (λ z. z ∷ ys) same, rest.1)
same_settings [] ds (y ∷ ys) es e = absurd (no_setting_later ds [] y (later ys es) e)
same_settings (x ∷ xs) ds [] es e = absurd (no_setting_later es [] x (later xs ds) (sym e))

same_decisions : (ds es : List Decide) → map Line.decide ds ≡ map Line.decide es → ds ≡ es
same_decisions [] [] e = refl
same_decisions (d ∷ ds) (c ∷ es) e =
    let same : d ≡ c = cc in
    let tails : map Line.decide ds ≡ map Line.decide es = cc in
    ap (λ xs. d ∷ xs) (same_decisions ds es tails) ∙ ap (λ x. x ∷ es) same
same_decisions [] (c ∷ es) e = cc
same_decisions (d ∷ ds) [] e = cc

abbrev made : ℕ → List Setting → List Decide → Script
made n xs ds = record { steps = n; settings = xs; decisions = ds }

pub same_script : (s t : Script) → lines_of s ≡ lines_of t → s ≡ t
same_script s t e =
    let steps : s.steps ≡ t.steps = cc in
    let tails : later s.settings s.decisions ≡ later t.settings t.decisions = cc in
    let two = same_settings s.settings s.decisions t.settings t.decisions tails in
    let decisions = same_decisions s.decisions t.decisions two.1 in
    together s.steps t.steps s.settings t.settings s.decisions t.decisions steps two.0 decisions
  where
    together : (m n : ℕ) (xs ys : List Setting) (ds es : List Decide) → m ≡ n → xs ≡ ys → ds ≡ es → made m xs ds ≡ made n ys es
    together m n xs ys ds es a b c = rw (a, b, c) refl
