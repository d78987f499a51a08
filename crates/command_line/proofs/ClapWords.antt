-- The arguments that `clap` accepts, and what it makes of them, by its definitions.
use Rattle.clap.proofs.OnLiterals.{clap_on_literals}
use Rattle.clap.specs.Faults.{entered_fault, level_fault, walk_fault}
use Rattle.clap.specs.Kinds.{Kinds, or_else}
use Rattle.clap.specs.Simple.{Shape, built, built_leaf, inherited, names_of}
use Rattle.clap.specs.Walk.{Held, Names, Walk, nothing_held, walk, walk_from, walked}
use Rattle.clap.specs.Words.{Row, Rule, Text, fault_of, is_simple, is_simple_and_free, subcommand_of, takes}
use Rattle.std.proofs.Common.{Bool, List, Option, Some, [], ap, append-nil, codes, decimal, eqb, false, fold, not, refl, subst, sym, true, ◌++◌, ◌&&◌, ◌∙◌, ◌∷◌, ◌≡◌, ℕ}
use Rattle.std.proofs.lemmas.List.{append_assoc}
use Rattle.std.specs.Cmp.Lexicographic.{same_text}
use Rattle.std.specs.List.{list_all}
use Rattle.std.specs.Str.{bytes_eq}
use Rattle.command_words.specs.Requests.{arguments_of, request_of, words_of}
use Rattle.command_line.specs.internal.CommandLine.{command, tool}
use Rattle.command_line.specs.internal.Met.{IsFound, IsGenFound, IsMet}
use Rattle.command_words.specs.Words.{AskFor, is_argument}
use Rattle.command_words.specs.declared.requests.Settings.TheVariants.{Certify, Check, Gen, Omega, Pgcl, Print, Refute, Remainder, Run, Verify}
use Rattle.command_words.specs.declared.requests.Settings.{Settings}

-- The names of the arguments of each command.
abbrev file_names : List Text
file_names = codes "FILE" ∷ []

abbrev run_names : List Text
run_names = codes "FILE" ∷ codes "PROC" ∷ codes "SCRIPT" ∷ []

abbrev pair_names : List Text
pair_names = codes "FILE" ∷ codes "PROC" ∷ codes "NAME" ∷ []

abbrev check_names : List Text
check_names = codes "FILE" ∷ codes "CERT" ∷ []

abbrev gen_names : List Text
gen_names = codes "N" ∷ []

pub tool_is_simple : is_simple tool ≡ true
unfolding clap_on_literals
tool_is_simple = refl

pub tool_is_free : is_simple_and_free tool ≡ true
unfolding clap_on_literals
tool_is_free = refl

-- An argument that is not empty and does not begin with `-`.
data IsPlain : Text → Type 0 where
  plain : (b : ℕ) (bs : List ℕ) → eqb b 45 ≡ false → IsPlain (b ∷ bs)

is_plain : (word : Text) → is_argument word ≡ true → IsPlain word
is_plain [] h = absurd (cc)
is_plain (b ∷ bs) h = plain b bs (by (eqb b 45) refl h)
  where
    by : (t : Bool) → eqb b 45 ≡ t → not t ≡ true → eqb b 45 ≡ false
    by true e n = absurd (cc)
    by false e n = e

both : (a b : Bool) → a && b ≡ true → (a ≡ true) × (b ≡ true)
both true b h = (refl, h)
both false b h = absurd (cc)

are_plain : (word : Text) (rest : List Text) → list_all is_argument (word ∷ rest) ≡ true → IsPlain word × (list_all is_argument rest ≡ true)
are_plain word rest h = let (one, others) = both (is_argument word) (list_all is_argument rest) h in (is_plain word one, others)

three_plain : (f p s : Text) → list_all is_argument (f ∷ p ∷ s ∷ []) ≡ true → IsPlain f × IsPlain p × IsPlain s
three_plain f p s h =
    let (first, more) = are_plain f (p ∷ s ∷ []) h in
    let (second, last) = are_plain p (s ∷ []) more in
    (first, second, (are_plain s [] last).0)

-- ---- Valid arguments are accepted

takes_file : (f : Text) → IsPlain f → (takes tool (codes "verify" ∷ f ∷ []) ≡ true) × (takes tool (codes "print" ∷ f ∷ []) ≡ true) × (takes tool (codes "certify" ∷ f ∷ []) ≡ true)
    × (takes tool (codes "pgcl" ∷ f ∷ []) ≡ true)
unfolding clap_on_literals
takes_file f (plain b bs h) = (simp h, simp h, simp h, simp h)

takes_three : (f p s : Text) → IsPlain f → IsPlain p → IsPlain s → (takes tool (codes "run" ∷ f ∷ p ∷ s ∷ []) ≡ true) × (takes tool (codes "omega" ∷ f ∷ p ∷ s ∷ []) ≡ true)
    × (takes tool (codes "remainder" ∷ f ∷ p ∷ s ∷ []) ≡ true) × (takes tool (codes "refute" ∷ f ∷ p ∷ s ∷ []) ≡ true)
unfolding clap_on_literals
takes_three f p s (plain b bs h) (plain e es k) (plain i is l) = (simp (h, k, l), simp (h, k, l), simp (h, k, l), simp (h, k, l))

takes_check : (f c : Text) → IsPlain f → IsPlain c → takes tool (codes "check" ∷ f ∷ c ∷ []) ≡ true
unfolding clap_on_literals
takes_check f c (plain b bs h) (plain e es k) = simp (h, k)

takes_gen : (w : Text) → IsPlain w → takes tool (codes "gen" ∷ w ∷ []) ≡ true
unfolding clap_on_literals
takes_gen w (plain b bs h) = simp h

pub takes_asked : (words : List Text) (settings : Settings) → AskFor words settings → takes tool words ≡ true
takes_asked words settings asked = ap (λ (ws : List Text). takes tool ws) asked.words_are ∙ taken settings asked.arguments
  where
    taken : (s : Settings) → list_all is_argument (arguments_of s) ≡ true → takes tool (words_of s) ≡ true
    taken (Verify f) h = (takes_file f (are_plain f [] h).0).0
    taken (Print f) h = (takes_file f (are_plain f [] h).0).1
    taken (Run f p s) h = let w = three_plain f p s h in (takes_three f p s w.0 w.1 w.2).0
    taken (Certify f) h = (takes_file f (are_plain f [] h).0).2
    taken (Check f c) h = let (first, last) = are_plain f (c ∷ []) h in takes_check f c first (are_plain c [] last).0
    taken (Gen n) h = takes_gen (decimal n) (are_plain (decimal n) [] h).0
    taken (Pgcl f) h = (takes_file f (are_plain f [] h).0).3
    taken (Omega f p q) h = let w = three_plain f p q h in (takes_three f p q w.0 w.1 w.2).1
    taken (Remainder f p q) h = let w = three_plain f p q h in (takes_three f p q w.0 w.1 w.2).2
    taken (Refute f p s) h = let w = three_plain f p s h in (takes_three f p s w.0 w.1 w.2).3

finds_file : (f : Text) → IsPlain f → IsFound (Verify f) (subcommand_of tool (codes "verify" ∷ f ∷ [])) × IsFound (Print f) (subcommand_of tool (codes "print" ∷ f ∷ []))
    × IsFound (Certify f) (subcommand_of tool (codes "certify" ∷ f ∷ [])) × IsFound (Pgcl f) (subcommand_of tool (codes "pgcl" ∷ f ∷ []))
unfolding clap_on_literals
finds_file f (plain b bs h) = (simp h, simp h, simp h, simp h)

finds_three : (f p s : Text) → IsPlain f → IsPlain p → IsPlain s → IsFound (Run f p s) (subcommand_of tool (codes "run" ∷ f ∷ p ∷ s ∷ [])) × IsFound (Omega f p s) (subcommand_of tool (codes "omega" ∷ f ∷ p ∷ s ∷ []))
    × IsFound (Remainder f p s) (subcommand_of tool (codes "remainder" ∷ f ∷ p ∷ s ∷ [])) × IsFound (Refute f p s) (subcommand_of tool (codes "refute" ∷ f ∷ p ∷ s ∷ []))
unfolding clap_on_literals
finds_three f p s (plain b bs h) (plain e es k) (plain i is l) = (simp (h, k, l), simp (h, k, l), simp (h, k, l), simp (h, k, l))

finds_check : (f c : Text) → IsPlain f → IsPlain c → IsFound (Check f c) (subcommand_of tool (codes "check" ∷ f ∷ c ∷ []))
unfolding clap_on_literals
finds_check f c (plain b bs h) (plain e es k) = simp (h, k)

finds_gen : (w : Text) → IsPlain w → IsGenFound w (subcommand_of tool (codes "gen" ∷ w ∷ []))
unfolding clap_on_literals
finds_gen w (plain b bs h) = simp h

finds_asked : (s : Settings) → list_all is_argument (arguments_of s) ≡ true → IsFound s (subcommand_of tool (words_of s))
finds_asked (Verify f) h = (finds_file f (are_plain f [] h).0).0
finds_asked (Print f) h = (finds_file f (are_plain f [] h).0).1
finds_asked (Run f p s) h = let w = three_plain f p s h in (finds_three f p s w.0 w.1 w.2).0
finds_asked (Certify f) h = (finds_file f (are_plain f [] h).0).2
finds_asked (Check f c) h = let (first, last) = are_plain f (c ∷ []) h in finds_check f c first (are_plain c [] last).0
finds_asked (Gen n) h = finds_gen (decimal n) (are_plain (decimal n) [] h).0
finds_asked (Pgcl f) h = (finds_file f (are_plain f [] h).0).3
finds_asked (Omega f p q) h = let w = three_plain f p q h in (finds_three f p q w.0 w.1 w.2).1
finds_asked (Remainder f p q) h = let w = three_plain f p q h in (finds_three f p q w.0 w.1 w.2).2
finds_asked (Refute f p s) h = let w = three_plain f p s h in (finds_three f p s w.0 w.1 w.2).3

-- ---- The arguments after a command belong to it

stopped_on : (rules : List Rule) (names : Names) (w : Walk) (name : Text) (seen more : List Text) → w.stopped ≡ Some (name, seen) →
    (fold (walked rules names) w more).stopped ≡ Some (name, seen ++ more)
unfolding walked
stopped_on rules names w name seen [] h = h ∙ ap (λ (ts : List Text). Some (name, ts)) (sym (append-nil seen))
stopped_on rules names w name seen (m ∷ more) h =
    stopped_on rules names (walked rules names w m) name (seen ++ m ∷ []) more (rw h refl)
    ∙ ap (λ (ts : List Text). Some (name, ts)) (append_assoc seen (m ∷ []) more)

data IsCommand : Text → List Text → Type 0 where
  verify : IsCommand (codes "verify") file_names
  print : IsCommand (codes "print") file_names
  run : IsCommand (codes "run") run_names
  certify : IsCommand (codes "certify") file_names
  check : IsCommand (codes "check") check_names
  generate : IsCommand (codes "gen") gen_names
  pgcl : IsCommand (codes "pgcl") file_names
  omega_pair : IsCommand (codes "omega") pair_names
  remainder : IsCommand (codes "remainder") pair_names
  refute : IsCommand (codes "refute") run_names

after : List Text → Walk
after words = walk (built tool).top.rules (names_of (built tool)) nothing_held words

meets : (name : Text) (names : List Text) → IsCommand name names → (more : List Text) → (after (name ∷ more)).stopped ≡ Some (name, more)
unfolding clap_on_literals after
meets name names is more = stopped_on (built tool).top.rules (names_of (built tool)) (after (name ∷ [])) name [] more (stops name names is)
  where
    stops : (name : Text) (names : List Text) → IsCommand name names → (after (name ∷ [])).stopped ≡ Some (name, [])
    stops name names verify = refl
    stops name names print = refl
    stops name names run = refl
    stops name names certify = refl
    stops name names check = refl
    stops name names generate = refl
    stops name names pgcl = refl
    stops name names omega_pair = refl
    stops name names remainder = refl
    stops name names refute = refl

left_empty : (ks js : Kinds) → or_else ks js ≡ [] → ks ≡ []
left_empty [] js h = refl
left_empty (k ∷ ks) js h = h

right_empty : (ks js : Kinds) → or_else ks js ≡ [] → js ≡ []
right_empty [] js h = h
right_empty (k ∷ ks) js h = absurd (cc)

walk_empty : (s : Shape) (names : Names) (h : Held) (words : List Text) (has : Bool) (below : Kinds) → level_fault s names h words has below ≡ [] →
    walk_fault s names (walk_from h) words ≡ []
walk_empty s names h words has below none = left_empty (walk_fault s names (walk_from h) words) _ none

below_empty : (s : Shape) (names : Names) (h : Held) (words : List Text) (has : Bool) (below : Kinds) → level_fault s names h words has below ≡ [] → below ≡ []
below_empty s names h words has below none = left_empty below _ (right_empty (walk_fault s names (walk_from h) words) _ none)

-- A command of the program, and the errors of the arguments after it.
leaf : Text → List Text → Shape
leaf name names = built_leaf (inherited (built tool).top (command name names).top)

leaf_fault : Text → List Text → List Text → Kinds
leaf_fault name names words = level_fault (leaf name names) [] nothing_held words false []

enters : (name : Text) (names : List Text) → IsCommand name names → (more : List Text) → fault_of tool (name ∷ more) ≡ [] → leaf_fault name names more ≡ []
unfolding clap_on_literals after leaf leaf_fault
enters name names is more none =
    let below : entered_fault (built tool) (after (name ∷ more)).stopped ≡ [] = below_empty (built tool).top (names_of (built tool)) nothing_held (name ∷ more) _ _ none in
    by name names is more (subst (λ (o : Option (Text × List Text)). entered_fault (built tool) o ≡ []) (meets name names is more) below)
  where
    by : (name : Text) (names : List Text) → IsCommand name names → (more : List Text) → entered_fault (built tool) (Some (name, more)) ≡ [] → leaf_fault name names more ≡ []
    by name names verify more inside = inside
    by name names print more inside = inside
    by name names run more inside = inside
    by name names certify more inside = inside
    by name names check more inside = inside
    by name names generate more inside = inside
    by name names pgcl more inside = inside
    by name names omega_pair more inside = inside
    by name names remainder more inside = inside
    by name names refute more inside = inside

-- ---- A command refuses missing and further arguments

wants_file : (name : Text) (words : List Text) → list_all is_argument words ≡ true → leaf_fault name file_names words ≡ [] → (f : Text) × (words ≡ f ∷ [])
unfolding clap_on_literals leaf leaf_fault
wants_file name [] h none = absurd (cc)
wants_file name (f ∷ []) h none = (f, refl)
wants_file name (f ∷ x ∷ more) h none =
    let (first, rest) = are_plain f (x ∷ more) h in
    absurd (extra f x more first (are_plain x more rest).0 (walk_empty (leaf name file_names) [] nothing_held (f ∷ x ∷ more) false [] none))
  where
    extra : (f x : Text) (more : List Text) → IsPlain f → IsPlain x → walk_fault (leaf name file_names) [] (walk_from nothing_held) (f ∷ x ∷ more) ≡ [] → ⊥
    extra f x more (plain b bs h) (plain e es k) none = let no = simp (h, k) at none in cc

wants_gen : (name : Text) (words : List Text) → list_all is_argument words ≡ true → leaf_fault name gen_names words ≡ [] → (w : Text) × (words ≡ w ∷ []) × (is_argument w ≡ true)
unfolding clap_on_literals leaf leaf_fault
wants_gen name [] h none = absurd (cc)
wants_gen name (w ∷ []) h none = (w, refl, (both (is_argument w) true h).0)
wants_gen name (w ∷ x ∷ more) h none =
    let (first, rest) = are_plain w (x ∷ more) h in
    absurd (extra w x more first (are_plain x more rest).0 (walk_empty (leaf name gen_names) [] nothing_held (w ∷ x ∷ more) false [] none))
  where
    extra : (f x : Text) (more : List Text) → IsPlain f → IsPlain x → walk_fault (leaf name gen_names) [] (walk_from nothing_held) (f ∷ x ∷ more) ≡ [] → ⊥
    extra f x more (plain b bs h) (plain e es k) none = let no = simp (h, k) at none in cc

wants_run : (name : Text) (words : List Text) → list_all is_argument words ≡ true → leaf_fault name run_names words ≡ [] → (f p s : Text) × (words ≡ f ∷ p ∷ s ∷ [])
unfolding clap_on_literals leaf leaf_fault
wants_run name [] h none = absurd (cc)
wants_run name (f ∷ []) h none = absurd (fewest f (are_plain f [] h).0 none)
  where
    fewest : (f : Text) → IsPlain f → leaf_fault name run_names (f ∷ []) ≡ [] → ⊥
    fewest f (plain b bs h) none = let no = simp h at none in cc
wants_run name (f ∷ p ∷ []) h none = let (first, last) = are_plain f (p ∷ []) h in absurd (few f p first (are_plain p [] last).0 none)
  where
    few : (f p : Text) → IsPlain f → IsPlain p → leaf_fault name run_names (f ∷ p ∷ []) ≡ [] → ⊥
    few f p (plain b bs h) (plain e es k) none = let no = simp (h, k) at none in cc
wants_run name (f ∷ p ∷ s ∷ []) h none = (f, p, s, refl)
wants_run name (f ∷ p ∷ s ∷ x ∷ more) h none =
    let (first, rest) = are_plain f (p ∷ s ∷ x ∷ more) h in
    let (second, last) = are_plain p (s ∷ x ∷ more) rest in
    let (third, end) = are_plain s (x ∷ more) last in
    absurd (extra f p s x more first second third (are_plain x more end).0 (walk_empty (leaf name run_names) [] nothing_held (f ∷ p ∷ s ∷ x ∷ more) false [] none))
  where
    extra : (f p s x : Text) (more : List Text) → IsPlain f → IsPlain p → IsPlain s → IsPlain x →
        walk_fault (leaf name run_names) [] (walk_from nothing_held) (f ∷ p ∷ s ∷ x ∷ more) ≡ [] → ⊥
    extra f p s x more (plain b bs h) (plain e es k) (plain i is l) (plain o os m) none = let no = simp (h, k, l, m) at none in cc

wants_pair : (name : Text) (words : List Text) → list_all is_argument words ≡ true → leaf_fault name pair_names words ≡ [] → (f p s : Text) × (words ≡ f ∷ p ∷ s ∷ [])
unfolding clap_on_literals leaf leaf_fault
wants_pair name [] h none = absurd (cc)
wants_pair name (f ∷ []) h none = absurd (fewest f (are_plain f [] h).0 none)
  where
    fewest : (f : Text) → IsPlain f → leaf_fault name pair_names (f ∷ []) ≡ [] → ⊥
    fewest f (plain b bs h) none = let no = simp h at none in cc
wants_pair name (f ∷ p ∷ []) h none = let (first, last) = are_plain f (p ∷ []) h in absurd (few f p first (are_plain p [] last).0 none)
  where
    few : (f p : Text) → IsPlain f → IsPlain p → leaf_fault name pair_names (f ∷ p ∷ []) ≡ [] → ⊥
    few f p (plain b bs h) (plain e es k) none = let no = simp (h, k) at none in cc
wants_pair name (f ∷ p ∷ s ∷ []) h none = (f, p, s, refl)
wants_pair name (f ∷ p ∷ s ∷ x ∷ more) h none =
    let (first, rest) = are_plain f (p ∷ s ∷ x ∷ more) h in
    let (second, last) = are_plain p (s ∷ x ∷ more) rest in
    let (third, end) = are_plain s (x ∷ more) last in
    absurd (extra f p s x more first second third (are_plain x more end).0 (walk_empty (leaf name pair_names) [] nothing_held (f ∷ p ∷ s ∷ x ∷ more) false [] none))
  where
    extra : (f p s x : Text) (more : List Text) → IsPlain f → IsPlain p → IsPlain s → IsPlain x →
        walk_fault (leaf name pair_names) [] (walk_from nothing_held) (f ∷ p ∷ s ∷ x ∷ more) ≡ [] → ⊥
    extra f p s x more (plain b bs h) (plain e es k) (plain i is l) (plain o os m) none = let no = simp (h, k, l, m) at none in cc

wants_check : (name : Text) (words : List Text) → list_all is_argument words ≡ true → leaf_fault name check_names words ≡ [] → (f c : Text) × (words ≡ f ∷ c ∷ [])
unfolding clap_on_literals leaf leaf_fault
wants_check name [] h none = absurd (cc)
wants_check name (f ∷ []) h none = absurd (few f (are_plain f [] h).0 none)
  where
    few : (f : Text) → IsPlain f → leaf_fault name check_names (f ∷ []) ≡ [] → ⊥
    few f (plain b bs h) none = let no = simp h at none in cc
wants_check name (f ∷ c ∷ []) h none = (f, c, refl)
wants_check name (f ∷ c ∷ x ∷ more) h none =
    let (first, rest) = are_plain f (c ∷ x ∷ more) h in
    let (second, last) = are_plain c (x ∷ more) rest in
    absurd (extra f c x more first second (are_plain x more last).0 (walk_empty (leaf name check_names) [] nothing_held (f ∷ c ∷ x ∷ more) false [] none))
  where
    extra : (f c x : Text) (more : List Text) → IsPlain f → IsPlain c → IsPlain x → walk_fault (leaf name check_names) [] (walk_from nothing_held) (f ∷ c ∷ x ∷ more) ≡ [] → ⊥
    extra f c x more (plain b bs h) (plain e es k) (plain i is l) none = let no = simp (h, k, l) at none in cc

-- ---- Accepted arguments are valid

no_words : fault_of tool [] ≡ [] → ⊥
unfolding clap_on_literals
no_words none = cc

-- A command with the names of its arguments.
record Entry : Type 0 where
  word : Text
  names : List Text
  is : IsCommand word names

abbrev entry : (word : Text) (names : List Text) → IsCommand word names → Entry
entry word names is = record { word = word; names = names; is = is }

abbrev entries : List Entry
entries =
    entry _ _ verify ∷ entry _ _ print ∷ entry _ _ run ∷ entry _ _ certify ∷ entry _ _ check ∷ entry _ _ generate ∷ entry _ _ pgcl ∷ entry _ _ omega_pair ∷ entry _ _ remainder
    ∷ entry _ _ refute ∷ []

abbrev IsOther : Text → List Entry → Type 0
IsOther word [] = Unit {0}
IsOther word (e ∷ es) = (bytes_eq e.word word ≡ false) × IsOther word es

data Chosen (word : Text) (es : List Entry) : Type 0 where
  is_one : (e : Entry) → bytes_eq e.word word ≡ true → Chosen word es
  is_other : IsOther word es → Chosen word es

chosen : (word : Text) (es : List Entry) → Chosen word es
chosen word [] = is_other tt
chosen word (e ∷ es) = by (bytes_eq e.word word) refl (chosen word es)
  where
    by : (b : Bool) → bytes_eq e.word word ≡ b → Chosen word es → Chosen word (e ∷ es)
    by true same rest = is_one e same
    by false differs (is_one other same) = is_one other same
    by false differs (is_other others) = is_other (differs, others)

other_word : (word : Text) (more : List Text) → IsPlain word → IsOther word entries → fault_of tool (word ∷ more) ≡ [] → ⊥
unfolding clap_on_literals
other_word word more (plain b bs h) (v, (p, (r, (c, (k, (g, (q, (o, (m, (f, end)))))))))) none =
    let walk_none : walk_fault (built tool).top (names_of (built tool)) (walk_from nothing_held) (word ∷ more) ≡ [] = walk_empty (built tool).top (names_of (built tool)) nothing_held (word ∷ more) _ _ none in
    let no = simp (h, v, p, r, c, k, g, q, o, m, f) at walk_none in
    cc

-- The arguments are those of a command without numbers, or `gen` and an allowed argument.
data Spell (words : List Text) : Type 0 where
  by_command : (s : Settings) → words ≡ words_of s → (request_of s).fits ≡ true → Spell words
  by_number : (w : Text) → words ≡ codes "gen" ∷ w ∷ [] → is_argument w ≡ true → Spell words

command_spells : (name : Text) (names : List Text) → IsCommand name names → (rest : List Text) → list_all is_argument rest ≡ true → leaf_fault name names rest ≡ [] → Spell (name ∷ rest)
command_spells name names verify rest h none = let (f, e) = wants_file name rest h none in Spell.by_command (Verify f) (ap (λ (ws : List Text). name ∷ ws) e) refl
command_spells name names print rest h none = let (f, e) = wants_file name rest h none in Spell.by_command (Print f) (ap (λ (ws : List Text). name ∷ ws) e) refl
command_spells name names run rest h none = let (f, p, s, e) = wants_run name rest h none in Spell.by_command (Run f p s) (ap (λ (ws : List Text). name ∷ ws) e) refl
command_spells name names certify rest h none = let (f, e) = wants_file name rest h none in Spell.by_command (Certify f) (ap (λ (ws : List Text). name ∷ ws) e) refl
command_spells name names check rest h none = let (f, c, e) = wants_check name rest h none in Spell.by_command (Check f c) (ap (λ (ws : List Text). name ∷ ws) e) refl
command_spells name names generate rest h none = let (w, e, is) = wants_gen name rest h none in Spell.by_number w (ap (λ (ws : List Text). name ∷ ws) e) is
command_spells name names pgcl rest h none = let (f, e) = wants_file name rest h none in Spell.by_command (Pgcl f) (ap (λ (ws : List Text). name ∷ ws) e) refl
command_spells name names omega_pair rest h none = let (f, p, q, e) = wants_pair name rest h none in Spell.by_command (Omega f p q) (ap (λ (ws : List Text). name ∷ ws) e) refl
command_spells name names remainder rest h none = let (f, p, q, e) = wants_pair name rest h none in Spell.by_command (Remainder f p q) (ap (λ (ws : List Text). name ∷ ws) e) refl
command_spells name names refute rest h none = let (f, p, s, e) = wants_run name rest h none in Spell.by_command (Refute f p s) (ap (λ (ws : List Text). name ∷ ws) e) refl

equal_spells : (name word : Text) (names : List Text) → IsCommand name names → bytes_eq name word ≡ true → (rest : List Text) → list_all is_argument rest ≡ true →
    fault_of tool (word ∷ rest) ≡ [] → Spell (word ∷ rest)
equal_spells name word names is e rest h none =
    let same : word ≡ name = sym (same_text name word (sym e)) in
    let inside = enters name names is rest (subst (λ (w : Text). fault_of tool (w ∷ rest) ≡ []) same none) in
    subst (λ (w : Text). Spell (w ∷ rest)) (sym same) (command_spells name names is rest h inside)

first_word : (word : Text) (rest : List Text) → IsPlain word → list_all is_argument rest ≡ true → fault_of tool (word ∷ rest) ≡ [] → Chosen word entries → Spell (word ∷ rest)
first_word word rest w h clean (is_one e same) = equal_spells e.word word e.names e.is same rest h clean
first_word word rest w h clean (is_other others) = absurd (other_word word rest w others clean)

words_spell : (words : List Text) → list_all is_argument words ≡ true → fault_of tool words ≡ [] → Spell words
words_spell [] h none = absurd (no_words none)
words_spell (word ∷ rest) h none = let (first, more) = are_plain word rest h in first_word word rest first more none (chosen word entries)

met_by : (words : List Text) (met : Option (Text × List Row)) → list_all is_argument words ≡ true → met ≡ subcommand_of tool words → Spell words → IsMet words met
met_by words met h same (Spell.by_command s words_are fits) =
    let arguments = (are_plain (request_of s).form.word (arguments_of s) (subst (λ (ws : List Text). list_all is_argument ws ≡ true) words_are h)).1 in
    let met_is : met ≡ subcommand_of tool (words_of s) = same ∙ ap (λ (ws : List Text). subcommand_of tool ws) words_are in
    IsMet.asked s (record { words_are = words_are; arguments = arguments; fits = fits }) (subst (λ (o : Option (Text × List Row)). IsFound s o) (sym met_is) (finds_asked s arguments))
met_by words met h same (Spell.by_number w words_are is) =
    let met_is : met ≡ subcommand_of tool (codes "gen" ∷ w ∷ []) = same ∙ ap (λ (ws : List Text). subcommand_of tool ws) words_are in
    IsMet.numbered w words_are is (subst (λ (o : Option (Text × List Row)). IsGenFound w o) (sym met_is) (finds_gen w (is_plain w is)))

pub met_of : (words : List Text) (met : Option (Text × List Row)) → list_all is_argument words ≡ true → fault_of tool words ≡ [] → met ≡ subcommand_of tool words → IsMet words met
met_of words met h none same = met_by words met h same (words_spell words h none)

pub plain_asked : (words : List Text) (settings : Settings) → AskFor words settings → list_all is_argument words ≡ true
plain_asked words settings asked = ap (λ (ws : List Text). list_all is_argument ws) asked.words_are ∙ plain_words settings asked.arguments
  where
    plain_words : (s : Settings) → list_all is_argument (arguments_of s) ≡ true → list_all is_argument (words_of s) ≡ true
    plain_words (Verify f) h = h
    plain_words (Print f) h = h
    plain_words (Run f p s) h = h
    plain_words (Certify f) h = h
    plain_words (Check f c) h = h
    plain_words (Gen n) h = h
    plain_words (Pgcl f) h = h
    plain_words (Omega f p q) h = h
    plain_words (Remainder f p q) h = h
    plain_words (Refute f p s) h = h
