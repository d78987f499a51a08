-- A leaf that completes a tree.
use Rattle.std.proofs.Common.{◌≡◌, List, [], ◌∷◌, ◌++◌, Some, sym, ap, ◌∙◌, subst}
use Rattle.std.proofs.lemmas.List.{map-append}
use Rattle.goal_answers.specs.Trees.{tree_of}
use Rattle.goal_answers.specs.declared.trees.Tree as T
use Rattle.goal_answers.specs.declared.trees.GoalCert.{GoalCert}
use Rattle.cert_text.specs.declared.goal_names.GoalName.{GoalName}
use Rattle.cert_text.specs.Certificates.{Certificate, certificate_of, certificates_of}
use Rattle.cert_text.specs.declared.states.Edition.{Edition}
use Rattle.cert_text.specs.internal.ReadStates.{Filled, complete, between, filled_state}

pub made_whole : (d : Edition) (certs pushed : List GoalCert) (name : GoalName) (t : T.Tree) (f : Filled) → f ≡ complete (tree_of t)
    → pushed ≡ certs ++ (record { proc = name.proc; id = name.id; tree = t }) ∷ []
    → between d (certificates_of pushed) (Some name) ≡ filled_state d (certificates_of certs) name f
made_whole d certs pushed name t f e p =
    let last : GoalCert = record { proc = name.proc; id = name.id; tree = t } in
    let q : certificates_of pushed ≡ certificates_of certs ++ certificate_of last ∷ [] = ap (λ (xs : List GoalCert). certificates_of xs) p ∙ map-append certificate_of certs (last ∷ []) in
    let P : Filled → Type 0 = λ g. between d (certificates_of pushed) (Some name) ≡ filled_state d (certificates_of certs) name g in
    subst P (sym e) (ap (λ (xs : List Certificate). between d xs (Some name)) q)
