-- The meaning of acts in which a loop means its invariant and the copies of its body, and a call
-- means its contract. Nothing is encoded, so there are no fresh variables; choices are read as the
-- encodings read them. The direction of a coproc is upward. This project's own.
use Rattle.std.specs.Prelude.{ℕ, Bool, true, false, List, [], ◌∷◌, ◌++◌, if◌then◌else◌}
use Prim.Native.Nat.{zero, suc}
use Rattle.heyvl_num.specs.Value.{Value, zeroᵛ}
use Rattle.heyvl_num.specs.Value.Value.{infinite}
use Rattle.heylo_formula.specs.State.{Env, put, fit, environment}
use Rattle.heylo_formula.specs.Choices.{Choices, here, left, right}
use Rattle.heylo_formula.specs.Formula.{Form}
use Rattle.heylo_formula.specs.Meaning.{value, holds}
use Rattle.heylo_formula.specs.Typing.{Types}
use Rattle.heylo_formula.specs.declared.types.Ty.{Ty}
use Rattle.heylo_formula.specs.declared.values.Val.{Val}
use Rattle.heyvl_acts.specs.Acts.{Head, Act, Acts, TypedProcedure, type_list, procedure_at}
use Rattle.heyvl_acts.specs.Forward.{Post, OfLoops, OfCalls, checked, validated, meant, meant_act}
use Rattle.heyvl_acts.specs.ModifiedVariables.{modified}
use Rattle.k_induction.specs.Copies.{must, may, meets}
use Rattle.run_machine.specs.Configurations.{evaluate}

-- The worst value in a direction, which bounds all others: infinity upward, 0 downward.
abbrev pub worst : Bool → Value
worst true = infinite
worst false = zeroᵛ

-- `havoc`: the environment in which each variable of the list has the next chosen value. `after`:
-- the choices that remain.
abbrev pub havoc : Types → List ℕ → Env → Choices → Env
havoc types [] s c = s
havoc types (x ∷ xs) s c = havoc types xs (put x (fit (types x) (here c)) s) (left c)

abbrev pub after : List ℕ → Choices → Choices
after [] c = c
after (x ∷ xs) c = after xs (left c)

-- `picks`: the next chosen values, of these types. `past_picks`: the choices that remain.
-- `put_all`: the environment in which the variables have the values.
abbrev pub picks : List Ty → Choices → List Val
picks [] c = []
picks (t ∷ ts) c = fit t (here c) ∷ picks ts (left c)

abbrev pub past_picks : List Ty → Choices → Choices
past_picks [] c = c
past_picks (t ∷ ts) c = past_picks ts (left c)

abbrev pub put_all : List ℕ → List Val → Env → Env
put_all [] vs s = s
put_all (x ∷ xs) [] s = s
put_all (x ∷ xs) (v ∷ vs) s = put_all xs vs (put x v s)

-- The value of a formula whose variables have the values `vs`.
abbrev pub given : Form → List Val → Value
given f vs = value f (environment vs) Choices.stop

-- The number of copies of a loop's body after the first.
abbrev pub more : Head → ℕ
more h = less h.k
  where
    less : ℕ → ℕ
    less zero = zero
    less (suc n) = n

-- One copy of the body, where `x` follows the body: if the guard holds, the body and `x`, otherwise
-- `k`.
abbrev pub once : (Post → Post) → Head → Post → Post → Post
once body h k x s c = if holds h.guard s Choices.stop then body x s (right c) else k s (right c)

-- The value after the first copy of the body, with `j` copies more.
abbrev pub way : Bool → (Post → Post) → Head → Post → ℕ → Post
way up body h k zero s c = value h.inv s Choices.stop
way up body h k (suc j) s c =
    checked (meets up) (value h.inv s Choices.stop) (once body h k (way up body h k j) s (right c))

-- The meaning of a loop after its invariant is asserted: the modified variables `xs` take any
-- values, the invariant is assumed, and the copies of the body follow.
abbrev pub blame : Bool → Types → List ℕ → (Post → Post) → Head → Post → Post
blame up types xs body h k s c = validated up
    (checked (may up) (value h.inv (havoc types xs s c) Choices.stop)
    (once body h k (way up body h k (more h)) (havoc types xs s c) (right (after xs c))))

-- The meaning of a loop: the invariant is asserted, and `blame` follows.
abbrev pub loop_value : Bool → Types → OfLoops
loop_value up types h b body k s c = checked (must up) (value h.inv s Choices.stop)
    (blame up types (modified h.scope b) body h k s (right c))

-- The meaning of a call after its pre is asserted: the outputs take any values, the post is
-- assumed, and `k` follows with the outputs assigned to the targets.
abbrev pub call_blame : Bool → TypedProcedure → List ℕ → List Val → Post → Post
call_blame up p xs vs k s c = validated up
    (checked (may up) (given p.post (vs ++ picks (type_list p.outputs) c))
    (k (put_all xs (picks (type_list p.outputs) c) s) (right (past_picks (type_list p.outputs) c))))

-- The meaning of a call: the pre is asserted, and `call_blame` follows.
abbrev pub call_value : Bool → List TypedProcedure → OfCalls
call_value up ps xs p es k s c = checked (must up) (given (procedure_at ps p).pre (evaluate es s))
    (call_blame up (procedure_at ps p) xs (evaluate es s) k s (right c))

-- The meaning of acts over variables of these types.
abbrev pub meaning : Bool → Types → List TypedProcedure → Acts → Post → Post
meaning up types ps acts = meant (loop_value up types) (call_value up ps) acts

abbrev pub meaning_act : Bool → Types → List TypedProcedure → Act → Post → Post
meaning_act up types ps a = meant_act (loop_value up types) (call_value up ps) a
