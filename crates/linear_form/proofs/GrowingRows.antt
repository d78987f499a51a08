-- The rows of a path, built answer by answer.
use Rattle.std.proofs.Common.{◌≡◌, List, [], ◌∷◌, ◌++◌, take, length, refl, sym, ap, ap₂, ◌∙◌, subst, arith, Bool, true, false}
use Rattle.std.specs.Prelude.{Option, Some, None}
use Rattle.std.proofs.lemmas.List.{append-nil}
use Rattle.std.proofs.Math.Seq.{take-append_seam}
use Rattle.heylo_formula.specs.Goals.{Goal}
use Rattle.heylo_formula.specs.Typing.{Types, types_in}
use Rattle.heylo_formula.specs.declared.types.Ty.{Ty}
use Rattle.linear_rows.specs.Row.{Row}
use Rattle.linear_form.specs.Query.{Query, Taken}
use Rattle.linear_form.specs.Questions.{Ends}
use Rattle.linear_values.specs.Tightening.{Claim, all_tightened}
use Rattle.linear_form.specs.PathRows.{answer_claims, path_claims, below_claim, denial, denial_at, listed}
use Rattle.linear_form.specs.AskAnswers.{Answers}
use Rattle.linear_form.specs.PlainPaths.{path_of, taken_of, atom_of}
use Rattle.linear_values.specs.PlainValues.{linear_of}
use Rattle.linear_form.specs.RowLists.{Lists, ArePathRows, LackLastRow, StartsWith}
use Rattle.linear_form.specs.internal.FurtherRows.{followed_by, rows_with}
use Rattle.linear_form.specs.internal.NormalPaths.{IsNormalAtom, IsNormalPath}
use Rattle.linear_form.specs.declared.path_rows.RowList.{RowList}
use Rattle.linear_form.specs.declared.path_rows.RowList.TheVariants.{Rows, Bits}
use Rattle.linear_form.specs.declared.paths.Taken as T
use Rattle.linear_values.specs.declared.lin.Lin as L
use Rattle.linear_form.specs.declared.questions.Ask as K
use Rattle.linear_form.proofs.RowsOfClaims.{joined, tightened_append}
use Rattle.linear_form.proofs.PathRowSteps.{claims_append}

-- ---- The last answer

last_normal' : (rest : List T.Taken) (t : T.Taken) → IsNormalPath (path_of (rest ++ (t ∷ []))) → IsNormalAtom (atom_of t.atom)
last_normal' [] t h = h.0
last_normal' (x ∷ rest) t h = last_normal' rest t h.1

pub last_normal : (xs rest : List T.Taken) (t : T.Taken) → xs ≡ rest ++ (t ∷ []) → IsNormalPath (path_of xs) → IsNormalAtom (atom_of t.atom)
last_normal xs rest t e h = last_normal' rest t (subst (λ z. IsNormalPath (path_of z)) e h)

pub same_last : (cs bs : List Taken) (a b : Taken) → cs ++ (a ∷ []) ≡ bs ++ (b ∷ []) → (cs ≡ bs) × (a ≡ b)
same_last [] [] a b e = let k : a ≡ b = cc in (refl, k)
same_last [] (y ∷ []) a b e = absurd (cc)
same_last [] (y ∷ (z ∷ bs)) a b e = absurd (cc)
same_last (x ∷ []) [] a b e = absurd (cc)
same_last (x ∷ (z ∷ cs)) [] a b e = absurd (cc)
same_last (x ∷ cs) (y ∷ bs) a b e = let k : cs ++ (a ∷ []) ≡ bs ++ (b ∷ []) = cc in let l : x ≡ y = cc in let m = same_last cs bs a b k in (ap₂ (λ u v. u ∷ v) l m.0, m.1)

pub path_of_last : (ps : List T.Taken) (p : T.Taken) → path_of (ps ++ (p ∷ [])) ≡ path_of ps ++ (taken_of p ∷ [])
path_of_last [] p = refl
path_of_last (x ∷ ps) p = ap (λ qs. taken_of x ∷ qs) (path_of_last ps p)

pub none_lacks : (ps : List Taken) (p : Taken) → [] ≡ ps ++ (p ∷ []) → ⊥
none_lacks [] p e = absurd (cc)
none_lacks (x ∷ ps) p e = absurd (cc)

pub never_empty : (g : Goal) (xs : List T.Taken) (rows : List Row) → length xs ≡ 0 → LackLastRow g (path_of xs) rows → ⊥
never_empty g [] rows e h = none_lacks h.before h.last h.split
never_empty g (x ∷ xs) rows e h = absurd (omega arith)

one_more : (types : Types) (ks ls : List Claim) (rows : List Row) → all_tightened types ks ≡ Some rows → all_tightened types (ks ++ ls) ≡ rows_with types rows ls
one_more types ks ls rows e = tightened_append types ks ls ∙ ap (λ o. joined o (all_tightened types ls)) e

pub next_rows : (g : Goal) (tys : List Ty) (xs rest : List T.Taken) (t : T.Taken) (rows : List Row) (r : RowList) → tys ≡ g.types → xs ≡ rest ++ (t ∷ []) → LackLastRow g (path_of xs) rows → Lists r (rows_with (types_in tys) rows (answer_claims (atom_of t.atom) t.held)) → Lists r (all_tightened (types_in g.types) (path_claims (path_of xs)))
next_rows g tys xs rest t rows r e f h k =
    let split : path_of rest ++ (taken_of t ∷ []) ≡ h.before ++ (h.last ∷ []) = sym (ap path_of f ∙ path_of_last rest t) ∙ h.split in
    let same = same_last (path_of rest) h.before (taken_of t) h.last split in
    let are : all_tightened (types_in g.types) (path_claims (path_of rest)) ≡ Some rows = ap (λ z. all_tightened (types_in g.types) (path_claims z)) same.0 ∙ h.are_rows.are_rows in
    let whole : path_claims (path_of xs) ≡ path_claims (path_of rest) ++ answer_claims (atom_of t.atom) t.held = ap path_claims (ap path_of f ∙ path_of_last rest t) ∙ claims_append (path_of rest) (taken_of t ∷ []) ∙ ap (λ ks. path_claims (path_of rest) ++ ks) (append-nil (answer_claims (atom_of t.atom) t.held)) in
    subst (Lists r) (ap (λ z. rows_with (types_in z) rows (answer_claims (atom_of t.atom) t.held)) e ∙ sym (one_more (types_in g.types) (path_claims (path_of rest)) (answer_claims (atom_of t.atom) t.held) rows are) ∙ ap (all_tightened (types_in g.types)) (sym whole)) k

-- ---- The rows at the beginning

pub starts : (rows : List Row) (o : Option (List Row)) (r : RowList) → Lists r (followed_by rows o) → StartsWith rows r
starts rows (Some more) (Rows all) h = let k : rows ++ more ≡ all.items = cc in ap (take (length rows)) (sym k) ∙ take-append_seam rows more
starts rows None (Rows all) h = absurd (cc)
starts rows o Bits h = tt

longer_start : (rows more last : List Row) → take (length rows) ((rows ++ more) ++ last) ≡ rows
longer_start [] more last = refl
longer_start (r ∷ rows) more last = ap (λ z. r ∷ z) (longer_start rows more last)

pub starts_twice : (rows before : List Row) (p o : Option (List Row)) (r : RowList) → followed_by rows p ≡ Some before → Lists r (followed_by before o) → StartsWith rows r
starts_twice rows before (Some more) (Some last) (Rows all) e h = let k : before ++ last ≡ all.items = cc in let l : rows ++ more ≡ before = cc in ap (take (length rows)) (sym k ∙ ap (λ z. z ++ last) (sym l)) ∙ longer_start rows more last
starts_twice rows before (Some more) None (Rows all) e h = absurd (cc)
starts_twice rows before None o (Rows all) e h = absurd (cc)
starts_twice rows before p o Bits e h = tt

pub path_rows_only : (g : Goal) (ps : List Taken) (rows : List Row) → ArePathRows g ps rows → all_tightened (types_in g.types) (path_claims ps ++ []) ≡ Some rows
path_rows_only g ps rows h = ap (all_tightened (types_in g.types)) (append-nil (path_claims ps)) ∙ h.are_rows

-- ---- The denied goal

pub upper_denied : (upper : Bool) (x z : Option L.Lin) (t : Query Ends) (r : RowList) (f : List Claim → Option (List Row)) → upper ≡ true → Answers (K.TheVariants.End x z) t → Lists r (f (listed (below_claim (linear_of x) (linear_of z)))) → Lists r (f (listed (denial_at upper t)))
upper_denied upper x z (Query.done e) r f u h k = subst (λ b. Lists r (f (listed (denial b e)))) (sym u) (subst (λ (e : Ends). Lists r (f (listed (below_claim e.0 e.1)))) h k)
upper_denied upper x z Query.bits r f u h k = absurd h
upper_denied upper x z (Query.ask q y n) r f u h k = absurd h

pub lower_denied : (upper : Bool) (x z : Option L.Lin) (t : Query Ends) (r : RowList) (f : List Claim → Option (List Row)) → upper ≡ false → Answers (K.TheVariants.End x z) t → Lists r (f (listed (below_claim (linear_of z) (linear_of x)))) → Lists r (f (listed (denial_at upper t)))
lower_denied upper x z (Query.done e) r f u h k = subst (λ b. Lists r (f (listed (denial b e)))) (sym u) (subst (λ (e : Ends). Lists r (f (listed (below_claim e.1 e.0)))) h k)
lower_denied upper x z Query.bits r f u h k = absurd h
lower_denied upper x z (Query.ask q y n) r f u h k = absurd h

pub lost_twice : (g : Goal) (ps : List Taken) (rows : List Row) (ls ms : List Claim) → ArePathRows g ps rows → rows_with (types_in g.types) rows ls ≡ None → all_tightened (types_in g.types) ((path_claims ps ++ ls) ++ ms) ≡ None
lost_twice g ps rows ls ms h e = tightened_append (types_in g.types) (path_claims ps ++ ls) ms ∙ ap (λ o. joined o (all_tightened (types_in g.types) ms)) (one_more (types_in g.types) (path_claims ps) ls rows h.are_rows ∙ e)
