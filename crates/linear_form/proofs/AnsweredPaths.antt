-- A path with the answer to the next comparison.
use Rattle.std.proofs.Common.{◌≡◌, List, [], ◌∷◌, ◌++◌, ap, sym, subst, refl, ◌∙◌, Bool}
use Rattle.heylo_formula.specs.Goals.{Goal}
use Rattle.linear_form.specs.Query.{Query, Taken}
use Rattle.linear_form.specs.Query.Query.{done, bits, ask}
use Rattle.linear_form.specs.Questions.{Ends}
use Rattle.linear_form.specs.Paths.{IsPath, end_at, Asks}
use Rattle.linear_form.specs.PlainPaths.{path_of, atom_of, taken_of}
use Rattle.linear_form.specs.AskAnswers.{Answers}
use Rattle.linear_form.specs.declared.paths.Atom as A
use Rattle.linear_form.specs.declared.paths.Taken as T
use Rattle.linear_form.specs.declared.questions.Ask as K
use Rattle.linear_form.proofs.SplitPaths.{asked_onto}

decided : (g : Goal) (ps : List Taken) (w : Query Ends) (q : A.Atom) → end_at g ps ≡ w → Answers (K.TheVariants.Decide q) w → Asks g ps (atom_of q)
decided g ps (done e) q k h = absurd h
decided g ps bits q k h = absurd h
decided g ps (ask r y n) q k h = record { yes = y; no = n; question = k ∙ ap (λ a. ask a y n) (sym h) }

path_of_end : (ps : List T.Taken) (p : T.Taken) → path_of (ps ++ (p ∷ [])) ≡ path_of ps ++ (taken_of p ∷ [])
path_of_end [] p = refl
path_of_end (x ∷ ps) p = ap (λ qs. taken_of x ∷ qs) (path_of_end ps p)

answered : (g : Goal) (ps : List T.Taken) (q : A.Atom) (b : Bool) → IsPath g (path_of ps) → Answers (K.TheVariants.Decide q) (end_at g (path_of ps)) → IsPath g (path_of (ps ++ (record { atom = q; held = b } ∷ [])))
answered g ps q b p h = subst (λ qs. IsPath g qs) (sym (path_of_end ps (record { atom = q; held = b }))) (asked_onto g (path_of ps) (atom_of q) b p (decided g (path_of ps) (end_at g (path_of ps)) q refl h))

pub answered_path : (g : Goal) (now items longer : List T.Taken) (k : K.Ask) (q : A.Atom) (b : Bool) → now ≡ items → k ≡ K.TheVariants.Decide q → longer ≡ items ++ (record { atom = q; held = b } ∷ []) → IsPath g (path_of items) → Answers k (end_at g (path_of now)) → IsPath g (path_of longer)
answered_path g now items longer k q b e d l p h = subst (λ qs. IsPath g (path_of qs)) (sym l) (answered g items q b p (subst (λ qs. Answers (K.TheVariants.Decide q) (end_at g (path_of qs))) e (subst (λ (a : K.Ask). Answers a (end_at g (path_of now))) d h)))
