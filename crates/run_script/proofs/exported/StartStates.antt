-- The first state of a run has a value of the right type for each variable.
use Rattle.heylo_formula.proofs.exported.States.{fit_has, typed_append}
use Rattle.heylo_formula.specs.State.{IsTyped, default, fit, has}
use Rattle.heylo_formula.specs.declared.types.Ty.{Ty}
use Rattle.heylo_formula.specs.declared.values.Val.{Val}
use Rattle.heyvl_acts.specs.Acts.{TypedProcedure, Variable, type_list, variables}
use Rattle.heyvl_num.specs.Gcd.{gcd, gcd_steps}
use Rattle.heyvl_num.specs.Rational.{leqʳ, ratio, zeroʳ}
use Rattle.run_machine.specs.Bound.{IsState}
use Rattle.run_script.specs.Starts.{known_of, start_state, start_state_over, start_value, start_values, value_or}
use Rattle.run_script.specs.declared.scripts.Setting.{Setting}
use Rattle.std.proofs.Common.{List, None, Option, Some, [], ap, append_assoc, map, refl, subst, sym, true, ◌++◌, ◌∙◌, ◌∷◌, ◌≡◌}
use Rattle.std.proofs.lemmas.List.{map-append}
use Rattle.std.specs.List.{find}
use Rattle.std.specs.Option.{option_map_or}
use Rattle.std.specs.Str.{bytes_eq}

default_has : (ty : Ty) → has ty (default ty) ≡ true
unfolding zeroʳ leqʳ ratio gcd gcd_steps
default_has Ty.Bool = refl
default_has Ty.Int = refl
default_has Ty.UInt = refl
default_has Ty.UReal = refl

fits_or : (ty : Ty) (found : Option Setting) → has ty (option_map_or (λ s. fit ty s.value) found (default ty)) ≡ true
fits_or ty None = default_has ty
fits_or ty (Some s) = fit_has ty s.value

values_typed : (settings : List Setting) (xs : List Variable) → IsTyped (type_list xs) (map (start_value settings) xs)
values_typed settings [] = refl
values_typed settings (x ∷ xs) = (fits_or x.ty (find (λ s. bytes_eq x.name s.name) settings), values_typed settings xs)

defaults_typed : (xs : List Variable) → IsTyped (type_list xs) (map (λ x. default x.ty) xs)
defaults_typed [] = refl
defaults_typed (x ∷ xs) = (default_has x.ty, defaults_typed xs)

pub start_typed : (p : TypedProcedure) (settings : List Setting) → IsState p (start_state p settings)
start_typed p settings =
    let types : type_list (known_of p) ++ type_list p.locals ≡ type_list (variables p) = sym (map-append (λ v. v.ty) (known_of p) p.locals) ∙ ap type_list (append_assoc p.inputs p.outputs p.locals) in
    subst (λ tys. IsTyped tys (start_state p settings)) types (typed_append (type_list (known_of p)) (type_list p.locals) _ _ (values_typed settings (known_of p)) (defaults_typed p.locals))

value_or_has : (ty : Ty) (shown : Option Val) → has ty (value_or ty shown) ≡ true
value_or_has ty (Some v) = fit_has ty v
value_or_has ty None = default_has ty

over_has : (ty : Ty) (found : Option Setting) (shown : Option Val) → has ty (option_map_or (λ s. fit ty s.value) found (value_or ty shown)) ≡ true
over_has ty (Some s) shown = fit_has ty s.value
over_has ty None shown = value_or_has ty shown

start_values_typed : (settings : List Setting) (xs : List Variable) (shown : List Val) → IsTyped (type_list xs) (start_values settings xs shown)
start_values_typed settings [] shown = refl
start_values_typed settings (x ∷ xs) [] = (over_has x.ty (find (λ s. bytes_eq x.name s.name) settings) None, start_values_typed settings xs [])
start_values_typed settings (x ∷ xs) (v ∷ vs) = (over_has x.ty (find (λ s. bytes_eq x.name s.name) settings) (Some v), start_values_typed settings xs vs)

pub start_over_typed : (p : TypedProcedure) (settings : List Setting) (shown : List Val) → IsState p (start_state_over p settings shown)
start_over_typed p settings shown = start_values_typed settings (variables p) shown
