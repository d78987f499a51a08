-- The fresh variables of an encoding occur in neither form of the procedure's main goal.
use Rattle.std.proofs.Common.{◌≡◌, ◌≤◌, ◌∙◌, ℕ, refl, arith, Bool, true, false, length}
use Rattle.std.proofs.lemmas.List.{length-append, length-map}
use Rattle.heylo_formula.specs.Formula.{Form}
use Rattle.heylo_formula.specs.Variables.{is_free, IsOver}
use Rattle.heyvl_acts.specs.Acts.{Variable, acts_in, procedure_at, type_list, variables}
use Rattle.loop_encodings.specs.Encoding.{all_variables}
use Rattle.loop_encodings.specs.Fresh.{fresh}
use Rattle.loop_encodings.specs.FreshLaws.{FreshVariablesAreNotFree, MainFormsAreOverOwnVariables, MainGoalsCountFreshVariables, MainGoalsLackFreshVariables, generated_form}
use Rattle.loop_encodings.proofs.FromRules.{each_procedure}
use Rattle.loop_encodings.proofs.GeneratedOverOwn.{generated_over, pre_over_own}
use Rattle.loop_encodings.proofs.PlainOccurrences.{occurs_free}
use Rattle.loop_encodings.proofs.PrenexedVariables.{prenexed_lacks}

pub fresh_counted : MainGoalsCountFreshVariables
fresh_counted ps p names = length-map (all_variables ps p) (λ (v : Variable). v.ty) ∙ length-append (variables p) (fresh ps (acts_in p.body))

pub forms_over_own : MainFormsAreOverOwnVariables
forms_over_own ps p each lt =
    let meets = each_procedure ps ps p each lt in
    (pre_over_own ps (procedure_at ps p) meets, generated_over ps (procedure_at ps p) (λ q l. each_procedure ps ps q each l) meets)

not_free : (n x : ℕ) (f : Form) → IsOver n f → n ≤ x → is_free x f ≡ false
not_free n x f o l = go (is_free x f) refl
  where
    go : (b : Bool) → is_free x f ≡ b → b ≡ false
    go true e = let q = o x e in absurd (omega (arith, q, l))
    go false e = refl

pub fresh_not_free : FreshVariablesAreNotFree
fresh_not_free ps p x each lt new =
    let over = forms_over_own ps p each lt in
    let n = length (variables (procedure_at ps p)) in
    (not_free n x (procedure_at ps p).pre over.0 new.after_own, not_free n x (generated_form ps (procedure_at ps p)) over.1 new.after_own)

pub fresh_lacking : MainGoalsLackFreshVariables
fresh_lacking ps p names x each lt new =
    let none = fresh_not_free ps p x each lt new in
    let meets = each_procedure ps ps p each lt in
    let counted = length-map (all_variables ps (procedure_at ps p)) (λ (v : Variable). v.ty) in
    let below = new.below_all in (
      occurs_free x (procedure_at ps p).pre meets.pre.1 ∙ none.0,
      prenexed_lacks (length (type_list (all_variables ps (procedure_at ps p)))) x (generated_form ps (procedure_at ps p)) (omega (arith, counted, below)) none.1,
    )
