-- The state keeps its types if a variable of the procedure takes a value of its type.
use Rattle.std.proofs.Common.{◌≡◌, ◌<◌, ◌∙◌, ℕ, sym, subst, true, List}
use Rattle.std.specs.Prelude.{set}
use Rattle.heylo_formula.specs.State.{put, has, environment}
use Rattle.heylo_formula.specs.declared.values.Val.{Val}
use Rattle.heylo_formula.proofs.exported.States.{length-typed, set_is_put}
use Rattle.heyvl_acts.specs.Acts.{TypedProcedure, type_list, types_of, variables}
use Rattle.heyvl_acts.specs.Rules.{IsOwn}
use Rattle.run_machine.specs.Bound.{IsState}
use Rattle.run_machine.proofs.exported.TypedStates as typed
use Rattle.run_machine.proofs.exported.TypedStates.{types_length}

pub own_set : (p : TypedProcedure) (x : ℕ) (v : Val) (s : List Val) → IsOwn p x → has (types_of p x) v ≡ true → IsState p s → IsState p (set s x v)
own_set p x v s o e h = typed.own_set p s x v h o e

pub own_put : (p : TypedProcedure) (x : ℕ) (v : Val) (s : List Val) → IsOwn p x → IsState p s → environment (set s x v) ≡ put x v (environment s)
own_put p x v s o h = set_is_put s x v (subst (λ n. x < n) (sym (length-typed (type_list (variables p)) s h ∙ types_length (variables p))) o.below)
