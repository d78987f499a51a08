-- A goal that decisions do not prove has no certificate among theirs, so that its check fails.
use Rattle.std.proofs.Common.{◌≡◌, ◌∙◌, ◌<◌, ◌⊎◌, ℕ, refl, sym, ap, ap₂, subst, arith, append_assoc, true, List, [], ◌∷◌, ◌++◌, map, slice_index_or, Option, None, Some, inl, inr, ⊎_elim}
use Rattle.std.specs.List.{AllZip, Contains}
use Prim.Native.Nat.{zero, suc}
use Rattle.cert_text.specs.Certificates.{IsGrowingAfter, certificates_of, precedes}
use Rattle.cert_text.specs.declared.goal_names.GoalName.{GoalName}
use Rattle.goal_answers.specs.declared.decisions.Decision.{Decision}
use Rattle.goal_answers.specs.declared.decisions.Decision.TheVariants.{Falsified, Proved, Unknown}
use Rattle.goal_answers.specs.declared.misses.Miss.{Miss}
use Rattle.goal_answers.specs.declared.named_goals.NamedGoal.{NamedGoal}
use Rattle.goal_answers.specs.declared.trees.GoalCert.{GoalCert}
use Rattle.goal_answers.specs.declared.trees.Tree as T
use Rattle.heyvl_acts.proofs.exported.Each.{each_first, each_second}
use Rattle.heyvl_acts.specs.Acts.{TypedProcedure}
use Rattle.heyvl_acts.specs.Rules.{Each, MeetsRules}
use Rattle.loop_encodings.specs.BoundGoals.{bound_goals}
use Rattle.verify_core.specs.CertifiedGoals.{CheckedGoal, IsGoalAccepted, IsMissOf}
use Rattle.verify_core.specs.CheckedProofs.{IsMissed, OtherGoalsAreMissed, OthersAreMissed}
use Rattle.verify_core.specs.GoalDecisions.{DecidedGoal, Decides, IsRankTable, IsTable, certificate, certificates, certified_in_file}
use Rattle.verify_core.specs.NumberedLists.{AllNumbered}
use Rattle.verify_core.specs.Questions.{IsGoalOf}
use Rattle.verify_core.specs.Rankings.{IsRankingGoal, ranked_loops}
use Rattle.verify_core.specs.Tables.{AreFound, HasFound}
use Rattle.verify_core.specs.internal.CertificateAnswers.{name_of}
use Rattle.verify_core.proofs.AcceptedProofs.{AreOneGoal, bound_same, ranking_same}
use Rattle.verify_core.proofs.CertOrder.{not_before_itself, precedes_onward}
use Rattle.verify_core.proofs.ServedGoals.{contains_behind, of_file}
use Rattle.verify_core.proofs.SideBySide.{numbered_map}

-- ---- The goals of a file in one list

abbrev goals_in : List (List DecidedGoal) → List (List DecidedGoal) → List DecidedGoal
goals_in [] ranks = []
goals_in (ds ∷ table) [] = []
goals_in (ds ∷ table) (rs ∷ ranks) = (ds ++ rs) ++ goals_in table ranks

certificates_both : (xs ys : List DecidedGoal) → certificates (xs ++ ys) ≡ certificates xs ++ certificates ys
certificates_both [] ys = refl
certificates_both (x ∷ xs) ys = ap (λ l. certificate x ++ l) (certificates_both xs ys) ∙ sym (append_assoc (certificate x) (certificates xs) (certificates ys))

in_one_list : (table ranks : List (List DecidedGoal)) → certified_in_file table ranks ≡ certificates (goals_in table ranks)
in_one_list [] ranks = refl
in_one_list (ds ∷ table) [] = refl
in_one_list (ds ∷ table) (rs ∷ ranks) = ap₂ (λ a b. a ++ b) (sym (certificates_both ds rs)) (in_one_list table ranks) ∙ sym (certificates_both (ds ++ rs) (goals_in table ranks))

-- ---- With a certificate for each goal

-- The goal as if it were proved with a tree.
abbrev filled : DecidedGoal → DecidedGoal
filled d = record { goal = d.goal; found = Proved (Some T.TheVariants.Plain) }

map_both : (xs ys : List DecidedGoal) → map filled (xs ++ ys) ≡ map filled xs ++ map filled ys
map_both [] ys = refl
map_both (x ∷ xs) ys = ap (λ l. filled x ∷ l) (map_both xs ys)

filled_in : (table ranks : List (List DecidedGoal)) → goals_in (map (map filled) table) (map (map filled) ranks) ≡ map filled (goals_in table ranks)
filled_in [] ranks = refl
filled_in (ds ∷ table) [] = refl
filled_in (ds ∷ table) (rs ∷ ranks) = ap₂ (λ a b. a ++ b) (sym (map_both ds rs)) (filled_in table ranks) ∙ sym (map_both (ds ++ rs) (goals_in table ranks))

abbrev Any : NamedGoal → Decision → Type 0
Any g d = Unit {0}

filled_row : {I : Type 0} (Is : I → NamedGoal → Type 0) (is : List I) (ds : List DecidedGoal) → AreFound Is Decides is ds → AreFound Is Any is (map filled ds)
filled_row Is [] [] h = tt
filled_row Is [] (d ∷ ds) h = absurd h
filled_row Is (i ∷ is) [] h = absurd h
filled_row Is (i ∷ is) (d ∷ ds) h = (record { goal = h.0.goal; found = tt }, filled_row Is is ds h.1)

abbrev Grows : Option GoalName → List DecidedGoal → Type 0
Grows o ds = IsGrowingAfter o (certificates_of (certificates (map filled ds)))

names_grow : (ps : List TypedProcedure) (table ranks : List (List DecidedGoal)) → Each (MeetsRules ps) ps → IsTable ps 0 ps table → IsRankTable ps 0 ps ranks → Grows None (goals_in table ranks)
names_grow ps table ranks rules h t =
    let bounds = numbered_map (λ k q ds. AreFound (IsGoalOf ps k) Decides (bound_goals q) ds) (λ k q ds. AreFound (IsGoalOf ps k) Any (bound_goals q) ds) (map filled) 0 ps table (λ k q ds i. filled_row (IsGoalOf ps k) (bound_goals q) ds i) h in
    let rankings = numbered_map (λ k q ds. AreFound (IsRankingGoal ps k) Decides (ranked_loops q) ds) (λ k q ds. AreFound (IsRankingGoal ps k) Any (ranked_loops q) ds) (map filled) 0 ps ranks (λ k q ds i. filled_row (IsRankingGoal ps k) (ranked_loops q) ds i) t in
    let order = of_file Any ps 0 ps (map (map filled) table) (map (map filled) ranks) None rules bounds rankings tt in
    subst (λ cs. IsGrowingAfter None (certificates_of cs)) (in_one_list (map (map filled) table) (map (map filled) ranks) ∙ ap certificates (filled_in table ranks)) order

-- ---- The names of later goals

abbrev name : DecidedGoal → GoalName
name d = record { proc = d.goal.proc; id = d.goal.id }

abbrev AreAfter : GoalName → List DecidedGoal → Type 0
AreAfter n ds = Each (λ d. precedes n (name d) ≡ true) ds

onward : (n m : GoalName) (ds : List DecidedGoal) → precedes n m ≡ true → AreAfter m ds → AreAfter n ds
onward n m [] h a = tt
onward n m (d ∷ ds) h a = (precedes_onward n m (name d) h a.0, onward n m ds h a.1)

after : (n : GoalName) (ds : List DecidedGoal) → Grows (Some n) ds → AreAfter n ds
after n [] h = tt
after n (d ∷ ds) h = (h.0, onward n (name d) ds h.0 (after (name d) ds h.1))

-- ---- The certificates of a list of goals

nothing_listed : (c : GoalCert) → Contains [] c → ⊥
nothing_listed c h = let l = h.1 in omega (arith, l)

the_one : (x c : GoalCert) (k : ℕ) → k < 1 → slice_index_or (x ∷ []) k c ≡ c → x ≡ c
the_one x c zero l e = e
the_one x c (suc k) l e = absurd (omega (arith, l))

either : (xs ys : List GoalCert) (c : GoalCert) → Contains (xs ++ ys) c → Contains xs c ⊎ Contains ys c
either [] ys c h = inr h
either (x ∷ xs) ys c (zero, l, e) = inl (zero, omega arith, e)
either (x ∷ xs) ys c (suc k, l, e) = ⊎_elim (λ h. inl (contains_behind x xs c h)) (λ h. inr h) (either xs ys c (k, omega (arith, l), e))

abbrev IsUnproved : Decision → Type 0
IsUnproved d = (t : T.Tree) → d ≡ Proved (Some t) → ⊥

cert_named : (g : NamedGoal) (d : Decision) (c : GoalCert) → Contains (certificate (record { goal = g; found = d })) c → name_of c ≡ record { proc = g.proc; id = g.id }
cert_named g (Proved (Some t)) c h = sym (ap name_of (the_one (record { proc = g.proc; id = g.id; tree = t }) c h.0 h.1 h.2))
cert_named g (Proved None) c h = absurd (nothing_listed c h)
cert_named g (Falsified s) c h = absurd (nothing_listed c h)
cert_named g (Unknown u) c h = absurd (nothing_listed c h)

no_cert : (g : NamedGoal) (d : Decision) (c : GoalCert) → IsUnproved d → Contains (certificate (record { goal = g; found = d })) c → ⊥
no_cert g (Proved (Some t)) c u h = u t refl
no_cert g (Proved None) c u h = nothing_listed c h
no_cert g (Falsified s) c u h = nothing_listed c h
no_cert g (Unknown b) c u h = nothing_listed c h

cert_after : (n : GoalName) (ds : List DecidedGoal) (c : GoalCert) → AreAfter n ds → Contains (certificates ds) c → precedes n (name_of c) ≡ true
cert_after n [] c a h = absurd (nothing_listed c h)
cert_after n (d ∷ ds) c a h = ⊎_elim (λ i. subst (λ m. precedes n m ≡ true) (sym (cert_named d.goal d.found c i)) a.0) (λ i. cert_after n ds c a.1 i) (either (certificate d) (certificates ds) c h)

abbrev Lacks : List GoalCert → DecidedGoal → Type 0
Lacks certs d = IsUnproved d.found → (c : GoalCert) → Contains certs c → name_of c ≡ name d → ⊥

later_lack : (d : DecidedGoal) (ds es : List DecidedGoal) → AreAfter (name d) es → Each (Lacks (certificates ds)) es → Each (Lacks (certificate d ++ certificates ds)) es
later_lack d ds [] a h = tt
later_lack d ds (x ∷ es) a h = (
  λ u c k e. ⊎_elim (λ i. not_before_itself (name d) (subst (λ m. precedes (name d) m ≡ true) (sym e ∙ cert_named d.goal d.found c i) a.0)) (λ i. h.0 u c i e) (either (certificate d) (certificates ds) c k),
  later_lack d ds es a.1 h.1,
)

unproved_lack : (o : Option GoalName) (ds : List DecidedGoal) → Grows o ds → Each (Lacks (certificates ds)) ds
unproved_lack o [] h = tt
unproved_lack o (d ∷ ds) h =
    let a = after (name d) ds h.1 in (
      λ u c k e. ⊎_elim (λ i. no_cert d.goal d.found c u i) (λ i. not_before_itself (name d) (subst (λ m. precedes (name d) m ≡ true) e (cert_after (name d) ds c a i))) (either (certificate d) (certificates ds) c k),
      later_lack d ds ds a (unproved_lack (Some (name d)) ds h.1),
    )

tables_lack : (certs : List GoalCert) (ps : List TypedProcedure) (k : ℕ) (qs : List TypedProcedure) (table ranks : List (List DecidedGoal)) → IsTable ps k qs table → IsRankTable ps k qs ranks → Each (Lacks certs) (goals_in table ranks) → Each (Each (Lacks certs)) table × Each (Each (Lacks certs)) ranks
tables_lack certs ps k [] [] [] h t l = (tt, tt)
tables_lack certs ps k [] [] (rs ∷ ranks) h t l = absurd t
tables_lack certs ps k [] (ds ∷ table) ranks h t l = absurd h
tables_lack certs ps k (q ∷ qs) [] ranks h t l = absurd h
tables_lack certs ps k (q ∷ qs) (ds ∷ table) [] h t l = absurd t
tables_lack certs ps k (q ∷ qs) (ds ∷ table) (rs ∷ ranks) h t l =
    let own = each_first (Lacks certs) (ds ++ rs) (goals_in table ranks) l in
    let others = tables_lack certs ps (suc k) qs table ranks h.1 t.1 (each_second (Lacks certs) (ds ++ rs) (goals_in table ranks) l) in
    ((each_first (Lacks certs) ds rs own, others.0), (each_second (Lacks certs) ds rs own, others.1))

-- ---- The check of goals that are not proved

row_missed : {I : Type 0} (Is : I → NamedGoal → Type 0) → ((i : I) (g h : NamedGoal) → Is i g → Is i h → AreOneGoal g h) → (certs : List GoalCert) (is : List I) (ds : List DecidedGoal) (cs : List CheckedGoal) → AllZip (λ i (d : DecidedGoal). HasFound (Is i) Decides d) is ds → AllZip (λ i (c : CheckedGoal). HasFound (Is i) (IsMissOf certs) c) is cs → Each (Lacks certs) ds → AllZip IsMissed ds cs
row_missed Is same certs [] [] [] x y l = tt
row_missed Is same certs [] [] (c ∷ cs) x y l = absurd y
row_missed Is same certs [] (d ∷ ds) cs x y l = absurd x
row_missed Is same certs (i ∷ is) [] cs x y l = absurd x
row_missed Is same certs (i ∷ is) (d ∷ ds) [] x y l = absurd y
row_missed Is same certs (i ∷ is) (d ∷ ds) (c ∷ cs) x y l = (
  λ u e.
      let a : IsGoalAccepted certs c.goal = subst (λ (m : Option Miss). IsMissOf certs c.goal m) e y.0.found in
      let one = same i d.goal c.goal x.0.goal y.0.goal in
      let named : name_of a.has.cert ≡ name d = ap₂ (λ p j. record { proc = p; id = j }) (a.has.of_procedure ∙ sym one.proc) (a.has.of_goal ∙ sym one.id_of) in
      l.0 u a.has.cert a.has.listed named,
  row_missed Is same certs is ds cs x.1 y.1 l.1,
)

table_missed : {I : Type 0} (Is : ℕ → I → NamedGoal → Type 0) (goals : TypedProcedure → List I) → ((k : ℕ) (i : I) (g h : NamedGoal) → Is k i g → Is k i h → AreOneGoal g h) → (certs : List GoalCert) (k : ℕ) (qs : List TypedProcedure) (table : List (List DecidedGoal)) (checked : List (List CheckedGoal)) → AllNumbered (λ n q (ds : List DecidedGoal). AllZip (λ i (d : DecidedGoal). HasFound (Is n i) Decides d) (goals q) ds) k qs table → AllNumbered (λ n q (cs : List CheckedGoal). AllZip (λ i (c : CheckedGoal). HasFound (Is n i) (IsMissOf certs) c) (goals q) cs) k qs checked → Each (Each (Lacks certs)) table → OthersAreMissed table checked
table_missed Is goals same certs k [] [] [] x y l = tt
table_missed Is goals same certs k [] [] (cs ∷ checked) x y l = absurd y
table_missed Is goals same certs k [] (ds ∷ table) checked x y l = absurd x
table_missed Is goals same certs k (q ∷ qs) [] checked x y l = absurd x
table_missed Is goals same certs k (q ∷ qs) (ds ∷ table) [] x y l = absurd y
table_missed Is goals same certs k (q ∷ qs) (ds ∷ table) (cs ∷ checked) x y l = (row_missed (Is k) (same k) certs (goals q) ds cs x.0 y.0 l.0, table_missed Is goals same certs (suc k) qs table checked x.1 y.1 l.1)

pub other_goals_missed : OtherGoalsAreMissed
other_goals_missed ps table ranks checked checked_ranks rules h t x y =
    let certs = certified_in_file table ranks in
    let all = unproved_lack None (goals_in table ranks) (names_grow ps table ranks rules h t) in
    let lack : Each (Each (Lacks (certified_in_file table ranks))) table × Each (Each (Lacks (certified_in_file table ranks))) ranks =
    tables_lack certs ps 0 ps table ranks h t (subst (λ cs. Each (Lacks cs) (goals_in table ranks)) (sym (in_one_list table ranks)) all) in (
      table_missed (IsGoalOf ps) bound_goals (bound_same ps) certs 0 ps table checked h x lack.0,
      table_missed (IsRankingGoal ps) ranked_loops (ranking_same ps) certs 0 ps ranks checked_ranks t y lack.1,
    )
