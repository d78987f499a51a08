-- The goal that the program makes of a formula with binders and one without is the upper goal over
-- the same variables.
use Rattle.std.proofs.Common.{◌≡◌, ℕ, refl, sym, ap, ◌∙◌, true, List, [], ◌∷◌, ◌++◌, append_assoc, map, length, get_or}
use Rattle.std.proofs.lemmas.List.{append-nil, length-map}
use Rattle.heylo_formula.specs.BinderNames.{Binder, binders}
use Rattle.heylo_formula.specs.Formula.{Form}
use Rattle.heylo_formula.specs.Goals.{Goal}
use Rattle.heylo_formula.specs.declared.types.Ty.{Ty}
use Rattle.heyvl_acts.specs.Acts.{Variable, type_list}
use Rattle.heyvl_acts.specs.PlainActs.{variable_of}
use Rattle.heyvl_acts.specs.declared.typed_trees.VarInfo.{VarInfo}
use Rattle.made_goals.specs.MadeGoals.{all_names}
use Rattle.made_goals.specs.UpperGoals.{upper_goal}
use Rattle.made_goals.proofs.MadeGoals.{all_are_named, same_names, same_types}
use Rattle.vp_generator.specs.PrenexedForms.{new_types, prenexed}
use Rattle.vp_generator.specs.PrenexedGoals.{names_of_variables, types_of_variables}
use Rattle.heyvl_acts.specs.Rules.{AreNamed}
use Rattle.vp_generator.specs.Scopes.{name_of, named}

type_behind : (vs : List VarInfo) (v : VarInfo) → types_of_variables (vs ++ v ∷ []) ≡ types_of_variables vs ++ v.ty ∷ []
type_behind [] v = refl
type_behind (u ∷ vs) v = ap (λ l. u.ty ∷ l) (type_behind vs v)

named_types : (vs : List VarInfo) (bs : List Binder) → types_of_variables (named vs bs) ≡ types_of_variables vs ++ new_types bs
named_types vs [] = sym (append-nil (types_of_variables vs))
named_types vs (b ∷ bs) =
    named_types (vs ++ new ∷ []) bs
    ∙ (ap (λ l. l ++ new_types bs) (type_behind vs new)
    ∙ append_assoc (types_of_variables vs) (b.1 ∷ []) (new_types bs))
  where
    new : VarInfo
    new = record { name = name_of vs b.0; ty = b.1 }

abbrev made : Form → Form → List Ty → List (List ℕ) → ℕ → Goal
made stated found types names own = record { upper = true; stated = stated; found = found; types = types; names = names; own = own }

pub made_upper : (vs all : List VarInfo) (stated f found : Form) (types : List Ty) (ns : List (List ℕ)) (own : ℕ) → AreNamed (length vs) (binders stated) → f ≡ prenexed (length vs) stated → all ≡ named vs (binders stated) → types ≡ types_of_variables all → ns ≡ names_of_variables all → own ≡ length vs → made f found types ns own ≡ upper_goal (map variable_of vs) stated found
made_upper vs all stated f found types ns own named_in form_is all_is types_are names_are own_is =
    ap (λ x. made x found types ns own) (form_is ∙ ap (λ n. prenexed n stated) count)
    ∙ (ap (λ x. made (prenexed (length (type_list (map variable_of vs))) stated) found x ns own) (types_are ∙ (ap types_of_variables all_is ∙ (named_types vs (binders stated) ∙ ap (λ l. l ++ new_types (binders stated)) (sym (same_types vs)))))
    ∙ (ap (λ x. made (prenexed (length (type_list (map variable_of vs))) stated) found (type_list (map variable_of vs) ++ new_types (binders stated)) x own) (names_are ∙ (ap names_of_variables all_is ∙ (all_are_named vs (binders stated) named_in ∙ ap (λ l. l ++ map (λ (b : Binder). get_or l b.0 []) (binders stated)) (sym (same_names vs)))))
    ∙ ap (λ x. made (prenexed (length (type_list (map variable_of vs))) stated) found (type_list (map variable_of vs) ++ new_types (binders stated)) (all_names (map variable_of vs) stated) x) (own_is ∙ count)))
  where
    count : length vs ≡ length (type_list (map variable_of vs))
    count = sym (length-map vs variable_of) ∙ sym (length-map (map variable_of vs) (λ (v : Variable). v.ty))
