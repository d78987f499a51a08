-- A bound by the forward meaning of a program's encoding is a bound by the meaning of its body.
use Rattle.std.proofs.Common.{◌≡◌, ◌<◌, ℕ, sym, ◌∙◌, subst, arith, List, ◌++◌, length}
use Rattle.std.proofs.lemmas.List.{length-append, length-map, map-append}
use Rattle.heylo_formula.specs.State.{Env, environment, listed, IsTyped}
use Rattle.heylo_formula.specs.Choices.{Choices}
use Rattle.heylo_formula.specs.Meaning.{value}
use Rattle.heylo_formula.specs.Typing.{HasTypes}
use Rattle.heylo_formula.specs.declared.types.Ty.{Ty}
use Rattle.heylo_formula.specs.declared.values.Val.{Val}
use Rattle.heylo_formula.proofs.exported.Agreement.{same_on, unchosen}
use Rattle.heylo_formula.proofs.exported.States.{append_first, length-typed, listed_same, listed_typed, typed_append}
use Rattle.heyvl_acts.specs.Acts.{TypedProcedure, Variable, acts_in, type_list, types_of, variables}
use Rattle.heyvl_acts.specs.Forward.{forward}
use Rattle.heyvl_acts.specs.Visible.{interface}
use Rattle.loop_encodings.specs.Encoding.{all_variables, encoding}
use Rattle.loop_encodings.specs.Fresh.{fresh}
use Rattle.bounded_runs.specs.internal.Contracts.{meaning, picks}
use Rattle.bounded_runs.specs.internal.EncodedPrograms.{EncodedBoundHolds, IsEncodedProgram}
use Rattle.bounded_runs.proofs.EncodedMeaning.{Agree, Below, below_acts}
use Rattle.loop_encodings.proofs.exported.EncodedTypes.{interface_bounded}
use Rattle.bounded_runs.proofs.ProgramStates.{picks_typed}
use Rattle.bounded_runs.proofs.RunValues.{Safe, safe_refl, safe_trans, safe_compares, compares_safe}

module _ (ps : List TypedProcedure) (R : ℕ → Type 0) (p : TypedProcedure) (program : IsEncodedProgram ps R p) (s : Env) (c : Choices) (h : HasTypes (types_of p) s) where
  abbrev owned : List Ty
  owned = type_list (variables p)

  abbrev added : List Ty
  added = type_list (fresh ps (acts_in p.body))

  abbrev own : List Val
  own = listed (length owned) s

  -- The fresh variables may have any values.
  abbrev all : List Val
  all = own ++ picks added Choices.stop

  own_typed : IsTyped owned own
  own_typed = listed_typed owned s (λ y k. h.typed y)

  own_length : length owned ≡ length (variables p)
  own_length = length-map (variables p) (λ (x : Variable). x.ty)

  all_typed : IsTyped (type_list (all_variables ps p)) all
  all_typed = subst (λ ts. IsTyped ts all) (sym (map-append (λ (x : Variable). x.ty) (variables p) (fresh ps (acts_in p.body)))) (typed_append owned added own (picks added Choices.stop) own_typed (picks_typed added Choices.stop))

  agree : Agree (length (variables p)) (environment all) s
  agree y k = append_first own (picks added Choices.stop) y (subst (λ n. y < n) (sym (length-typed owned own own_typed ∙ own_length)) k) ∙ sym (listed_same (length owned) s y (subst (λ n. y < n) (sym own_length) k))

  posts : Below p (value p.post) (λ t d. value p.post t Choices.stop)
  posts u t d g e = subst (λ v. Safe p.co (value p.post t Choices.stop) v) (sym (unchosen p.post u d program.formulas.post.1 ∙ same_on p.post u t Choices.stop (λ y k. g y (inside y (program.formulas.post_over y k))))) (safe_refl p.co _)
    where
      inside : (y : ℕ) → y < length (p.inputs ++ p.outputs) → y < length (variables p)
      inside y k = omega (arith, k, length-append p.inputs p.outputs, length-append p.inputs (p.outputs ++ p.locals), length-append p.outputs p.locals)

  bounded : Safe p.co (forward (encoding ps p) (value p.post) (environment all) c) (value p.pre s Choices.stop)
  bounded = subst (λ v. Safe p.co (forward (encoding ps p) (value p.post) (environment all) c) v) (same_on p.pre (environment all) s Choices.stop (λ y k. agree y (inside y (program.formulas.pre_over y k)))) (compares_safe p.co _ _ (program.bounded all c all_typed))
    where
      inside : (y : ℕ) → y < length p.inputs → y < length (variables p)
      inside y k = omega (arith, k, length-append p.inputs (p.outputs ++ p.locals))

  safe_body : Safe p.co (meaning p.co (types_of p) ps (acts_in p.body) (λ t d. value p.post t Choices.stop) s c) (value p.pre s Choices.stop)
  safe_body = safe_trans p.co _ _ _ (below_acts ps R program.callees p (acts_in p.body) (interface p) program.program (interface_bounded p) program.scoped (length (variables p)) (omega arith) _ _ posts (environment all) s c agree h) bounded

pub bound_is_meant : (ps : List TypedProcedure) (R : ℕ → Type 0) (p : TypedProcedure) → EncodedBoundHolds ps R p
bound_is_meant ps R p program s c h = safe_compares p.co _ _ (safe_body ps R p program s c h)
