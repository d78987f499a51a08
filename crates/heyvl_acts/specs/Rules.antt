-- The static rules of a typed file. Each file that is typed satisfies them, and functions on typed
-- files require them. The rules of acts apply to each act of a body, nested ones included.
use Rattle.std.specs.Prelude.{◌≡◌, ◌≤◌, ◌<◌, ◌+◌, ◌^◌, ℕ, Bool, true, false, not, ◌&&◌, ◌||◌, List}
use Rattle.std.specs.Prelude.{[], ◌∷◌, ◌++◌, Option, Some, None, length}
use Prim.Native.Nat.{zero, suc}
use Rattle.heyvl_num.specs.Rational.{Rational, zeroʳ, oneʳ, ◌<ʳ◌}
use Rattle.heyvl_num.specs.WeightedSums.{total_weight}
use Rattle.heyvl_places.specs.declared.checks.CheckKind.{CheckKind}
use Rattle.heylo_formula.specs.Formula.{Form, Term}
use Rattle.heylo_formula.specs.BinderNames.{Binder, binders}
use Rattle.heylo_formula.specs.Binders.{has_binder}
use Rattle.heylo_formula.specs.Extrema.{is_directed}
use Rattle.heylo_formula.specs.Operators.{agree}
use Rattle.heylo_formula.specs.Typing.{types_in, number_type, fits, is_bool, is_well_typed}
use Rattle.heylo_formula.specs.Typing.{IsFormula, TermFits}
use Rattle.heylo_formula.specs.Variables.{IsOver}
use Rattle.heylo_formula.specs.declared.types.Ty.{Ty}
use Rattle.heyvl_acts.specs.declared.typed_trees.TProc.{TProc}
use Rattle.heyvl_acts.specs.declared.typed_trees.Typed.{Typed}
use Rattle.heyvl_acts.specs.Acts.{Head, Act, Acts, Arms, TypedProcedure, variables, type_list}
use Rattle.heyvl_acts.specs.Acts.{types_of, acts_in, procedure_at}
use Rattle.heyvl_acts.specs.PlainActs.{procedures_of}
use Rattle.heyvl_acts.specs.Places.{in_order}
use Rattle.heyvl_acts.specs.Count.{count_of}
use Rattle.heyvl_acts.specs.Visible.{interface, Scoped}
use Rattle.heyvl_acts.specs.WellTypedActs.{IsHeld, IsProbability, DrawFits}

-- The predicate holds for each element.
abbrev pub Each : {A : Type 0} → (A → Type 0) → List A → Type 0
Each P [] = Unit {0}
Each P (x ∷ xs) = P x × Each P xs

-- ---- Targets

-- A variable that may be assigned: one of the procedure's variables, and no input.
pub record IsOwn (p : TypedProcedure) (x : ℕ) : Type 0 where
  pub no_input : length p.inputs ≤ x
  pub below : x < length (variables p)

-- The variables that the act assigns may be assigned; nested acts do not count.
abbrev pub HasOwnTargets : TypedProcedure → Act → Type 0
HasOwnTargets p (Act.set x t span) = IsOwn p x
HasOwnTargets p (Act.draw x ps span) = IsOwn p x
HasOwnTargets p (Act.toss x f span) = IsOwn p x
HasOwnTargets p (Act.any x up ty span) = IsOwn p x
HasOwnTargets p (Act.reward f span) = Unit {0}
HasOwnTargets p (Act.ifs arms e span) = Unit {0}
HasOwnTargets p (Act.pick up a b span) = Unit {0}
HasOwnTargets p (Act.check kind f span) = Unit {0}
HasOwnTargets p (Act.validate co span) = Unit {0}
HasOwnTargets p (Act.loop h b) = Unit {0}
HasOwnTargets p (Act.call xs q es span) = Each (IsOwn p) xs

-- ---- Types

-- A value of the first type may be assigned to a variable of the second: both are Bool, or the
-- first is a type of numbers that widens to the second.
abbrev pub widens_to : Ty → Ty → Bool
widens_to Ty.Bool u = is_bool u
widens_to Ty.Int u = fits (number_type Ty.Int) (number_type u) && not (is_bool u)
widens_to Ty.UInt u = fits (number_type Ty.UInt) (number_type u) && not (is_bool u)
widens_to Ty.UReal u = fits (number_type Ty.UReal) (number_type u) && not (is_bool u)

-- The arguments fit the types of the inputs, one by one.
abbrev pub ArgumentsFit : TypedProcedure → List Ty → List Term → Type 0
ArgumentsFit p [] [] = Unit {0}
ArgumentsFit p [] (e ∷ es) = ⊥
ArgumentsFit p (t ∷ ts) [] = ⊥
ArgumentsFit p (t ∷ ts) (e ∷ es) = TermFits (types_of p) t e × ArgumentsFit p ts es

-- The types of the outputs widen to those of the targets, one by one.
abbrev pub TargetsFit : TypedProcedure → List ℕ → List Ty → Type 0
TargetsFit p [] [] = Unit {0}
TargetsFit p [] (t ∷ ts) = ⊥
TargetsFit p (x ∷ xs) [] = ⊥
TargetsFit p (x ∷ xs) (t ∷ ts) = (widens_to t (types_of p x) ≡ true) × TargetsFit p xs ts

-- A call of an existing procedure with fitting arguments and targets.
pub record CallFits (ps : List TypedProcedure) (p : TypedProcedure) (xs : List ℕ) (q : ℕ)
    (es : List Term) : Type 0 where
  pub there : q < length ps
  pub arguments : ArgumentsFit p (type_list (procedure_at ps q).inputs) es
  pub targets : TargetsFit p xs (type_list (procedure_at ps q).outputs)

-- The guard of each arm is well typed.
abbrev pub GuardsFit : TypedProcedure → Arms → Type 0
GuardsFit p Arms.no_arm = Unit {0}
GuardsFit p (Arms.arm g b more) = (is_well_typed (types_of p) g ≡ true) × GuardsFit p more

-- The ranking, if there is one, has a positive step and is a formula without binders.
abbrev pub RankFits : TypedProcedure → Option (Rational × Form) → Type 0
RankFits p None = Unit {0}
RankFits p (Some r) = (zeroʳ <ʳ r.0) × IsHeld (types_of p) r.1

-- The invariant and the ranking of a loop are formulas without binders, and its guard is well
-- typed.
pub record LoopFits (p : TypedProcedure) (h : Head) : Type 0 where
  pub inv : IsHeld (types_of p) h.inv
  pub guard : is_well_typed (types_of p) h.guard ≡ true
  pub rank : RankFits p h.rank

-- The act is well typed for the types of the procedure's variables; nested acts do not count. A
-- draw has an alternative and no negative weight, and a call fits a procedure of the file.
abbrev pub IsTypedAct : List TypedProcedure → TypedProcedure → Act → Type 0
IsTypedAct ps p (Act.set x t span) = TermFits (types_of p) (types_of p x) t
IsTypedAct ps p (Act.draw x qs span) = DrawFits (types_of p) x qs
IsTypedAct ps p (Act.toss x f span) = (types_of p x ≡ Ty.Bool) × IsProbability (types_of p) f
IsTypedAct ps p (Act.any x up ty span) = types_of p x ≡ ty
IsTypedAct ps p (Act.reward f span) = IsHeld (types_of p) f
IsTypedAct ps p (Act.ifs arms e span) = GuardsFit p arms
IsTypedAct ps p (Act.pick up a b span) = Unit {0}
IsTypedAct ps p (Act.check kind f span) = IsHeld (types_of p) f
IsTypedAct ps p (Act.validate co span) = Unit {0}
IsTypedAct ps p (Act.loop h b) = LoopFits p h
IsTypedAct ps p (Act.call xs q es span) = CallFits ps p xs q es

-- ---- Weights

-- The weights of a draw have the sum 1.
abbrev pub WeighsOne : Act → Type 0
WeighsOne (Act.draw x ps span) = total_weight ps ≡ oneʳ
WeighsOne (Act.toss x f span) = Unit {0}
WeighsOne (Act.set x t span) = Unit {0}
WeighsOne (Act.any x up ty span) = Unit {0}
WeighsOne (Act.reward f span) = Unit {0}
WeighsOne (Act.ifs arms e span) = Unit {0}
WeighsOne (Act.pick up a b span) = Unit {0}
WeighsOne (Act.check kind f span) = Unit {0}
WeighsOne (Act.validate co span) = Unit {0}
WeighsOne (Act.loop h b) = Unit {0}
WeighsOne (Act.call xs q es span) = Unit {0}

-- ---- Directions

-- The procedure may be called by one with the direction `co`: it has the same direction, and no
-- quantifier in its post.
pub record IsCallable (co : Bool) (q : TypedProcedure) : Type 0 where
  pub direction : q.co ≡ co
  pub plain : has_binder q.post ≡ false

-- A havoc is upward in a coproc and downward in a proc, a proc with `@wlp` has no reward, and a
-- called procedure satisfies `IsCallable`.
abbrev pub FollowsDirection : List TypedProcedure → TypedProcedure → Act → Type 0
FollowsDirection ps p (Act.any x up ty span) = up ≡ p.co
FollowsDirection ps p (Act.reward f span) = p.weak ≡ false
FollowsDirection ps p (Act.call xs q es span) = IsCallable p.co (procedure_at ps q)
FollowsDirection ps p (Act.set x t span) = Unit {0}
FollowsDirection ps p (Act.draw x qs span) = Unit {0}
FollowsDirection ps p (Act.toss x f span) = Unit {0}
FollowsDirection ps p (Act.ifs arms e span) = Unit {0}
FollowsDirection ps p (Act.pick up a b span) = Unit {0}
FollowsDirection ps p (Act.check kind f span) = Unit {0}
FollowsDirection ps p (Act.validate co span) = Unit {0}
FollowsDirection ps p (Act.loop h b) = Unit {0}

-- A check or validation that does not preserve the best value of its post: in a coproc an assume or
-- a validate, in a proc a coassume or a covalidate.
abbrev pub is_against : Bool → Act → Bool
is_against co (Act.check CheckKind.Assume f span) = co
is_against co (Act.check CheckKind.CoAssume f span) = not co
is_against co (Act.check CheckKind.Assert f span) = false
is_against co (Act.check CheckKind.CoAssert f span) = false
is_against co (Act.validate d span) = not (agree co d)
is_against co (Act.set x t span) = false
is_against co (Act.draw x qs span) = false
is_against co (Act.toss x f span) = false
is_against co (Act.any x up ty span) = false
is_against co (Act.reward f span) = false
is_against co (Act.ifs arms e span) = false
is_against co (Act.pick up a b span) = false
is_against co (Act.loop h b) = false
is_against co (Act.call xs q es span) = false

-- The encoding of the act has a binder.
abbrev pub binds : Act → Bool
binds (Act.any x up ty span) = true
binds (Act.loop h b) = true
binds (Act.call xs q es span) = true
binds (Act.set x t span) = false
binds (Act.draw x qs span) = false
binds (Act.toss x f span) = false
binds (Act.reward f span) = false
binds (Act.ifs arms e span) = false
binds (Act.pick up a b span) = false
binds (Act.check kind f span) = false
binds (Act.validate co span) = false

-- The encoding of one of the acts has a binder.
abbrev pub any_binds : List Act → Bool
any_binds [] = false
any_binds (a ∷ rest) = binds a || any_binds rest

-- After an act that is against the direction, in the order of the text, no act has a binder in its
-- encoding, and the post has no binder. `quantified` says whether the post has one.
abbrev pub NothingBindsBehind : Bool → Bool → List Act → Type 0
NothingBindsBehind co quantified [] = Unit {0}
NothingBindsBehind co quantified (a ∷ rest) = (is_against co a ≡ true
    → (quantified || any_binds rest) ≡ false) × NothingBindsBehind co quantified rest

-- ---- Loops

-- The act may be in the body of a loop with a ranking: it is no loop, call, check or validation.
abbrev pub is_rankable : Act → Bool
is_rankable (Act.loop h b) = false
is_rankable (Act.call xs q es span) = false
is_rankable (Act.check kind f span) = false
is_rankable (Act.validate co span) = false
is_rankable (Act.set x t span) = true
is_rankable (Act.draw x qs span) = true
is_rankable (Act.toss x f span) = true
is_rankable (Act.any x up ty span) = true
is_rankable (Act.reward f span) = true
is_rankable (Act.ifs arms e span) = true
is_rankable (Act.pick up a b span) = true

-- The body of a loop with a ranking contains no loop, call, check or validation.
abbrev pub RankedBodyIsPlain : Option (Rational × Form) → Acts → Type 0
RankedBodyIsPlain None b = Unit {0}
RankedBodyIsPlain (Some r) b = Each (λ a. is_rankable a ≡ true) (in_order b)

-- The numbers increase strictly, from `from` on, and are below `below`.
abbrev pub GrowBelow : ℕ → ℕ → List ℕ → Type 0
GrowBelow from below [] = Unit {0}
GrowBelow from below (x ∷ xs) = ((from ≤ x) × (x < below)) × GrowBelow (suc x) below xs

-- The rules of a loop: its body has 1 to 16 copies; its visible variables are the procedure's, in
-- the order of their numbers; its body contains only acts that a ranking allows, if it has one, and
-- nothing against the procedure's direction.
pub record LoopMeets (p : TypedProcedure) (h : Head) (b : Acts) : Type 0 where
  pub some_copy : 1 ≤ h.k
  pub few_copies : h.k ≤ 16
  pub scope : GrowBelow 0 (length (variables p)) h.scope
  pub ranked : RankedBodyIsPlain h.rank b
  pub nothing_against : Each (λ a. is_against p.co a ≡ false) (in_order b)

-- The act, if it is a loop, satisfies the rules of loops.
abbrev pub LoopsMeet : TypedProcedure → Act → Type 0
LoopsMeet p (Act.loop h b) = LoopMeets p h b
LoopsMeet p (Act.set x t span) = Unit {0}
LoopsMeet p (Act.draw x qs span) = Unit {0}
LoopsMeet p (Act.toss x f span) = Unit {0}
LoopsMeet p (Act.any x up ty span) = Unit {0}
LoopsMeet p (Act.reward f span) = Unit {0}
LoopsMeet p (Act.ifs arms e span) = Unit {0}
LoopsMeet p (Act.pick up a b span) = Unit {0}
LoopsMeet p (Act.check kind f span) = Unit {0}
LoopsMeet p (Act.validate co span) = Unit {0}
LoopsMeet p (Act.call xs q es span) = Unit {0}

-- The numbers of the loops, in the order of the text.
abbrev pub loop_numbers : List Act → List ℕ
loop_numbers [] = []
loop_numbers (Act.loop h b ∷ rest) = h.number ∷ loop_numbers rest
loop_numbers (a ∷ rest) = loop_numbers rest

-- `counted from n`: the `n` numbers from `from` on.
abbrev pub counted : ℕ → ℕ → List ℕ
counted from zero = []
counted from (suc n) = from ∷ counted (suc from) n

-- ---- Numbers of variables and places

-- Each binder is named after one of the first `n` variables.
abbrev pub AreNamed : ℕ → List Binder → Type 0
AreNamed n [] = Unit {0}
AreNamed n (b ∷ bs) = (b.0 < n) × AreNamed n bs

-- Each binder of the post is named after a variable of the procedure; the variables of goals have
-- these names.
abbrev pub HasNamedBinders : TypedProcedure → Type 0
HasNamedBinders p = AreNamed (length (variables p)) (binders p.post)

-- Each body has fewer than 2^31 acts.
abbrev pub HasFewActs : List TypedProcedure → Type 0
HasFewActs ps = (p : ℕ) → length (in_order (acts_in (procedure_at ps p).body)) < 2 ^ 31

-- ---- Procedures and files

-- The procedure satisfies the static rules in a file with the procedures `ps`.
pub record MeetsRules (ps : List TypedProcedure) (p : TypedProcedure) : Type 0 where
  -- Limits.
  pub few_parameters : length (p.inputs ++ p.outputs) ≤ 16
  pub few_variables : length (variables p) ≤ 256
  pub few_statements : count_of (acts_in p.body) ≤ 1024
  -- A procedure with `@wlp` is a proc.
  pub weak_is_proc : p.weak ≡ true → p.co ≡ false
  -- The pre is a formula over the inputs, without binders.
  pub pre : IsHeld (types_in (type_list p.inputs)) p.pre
  pub pre_over : IsOver (length p.inputs) p.pre
  -- The post is a formula over the inputs and outputs, with binders of the procedure's direction
  -- only.
  pub post : IsFormula (types_in (type_list (p.inputs ++ p.outputs))) p.post
  pub post_over : IsOver (length (p.inputs ++ p.outputs)) p.post
  pub post_directed : is_directed p.co p.post ≡ true
  -- Acts.
  pub targets : Each (HasOwnTargets p) (in_order (acts_in p.body))
  pub typed : Each (IsTypedAct ps p) (in_order (acts_in p.body))
  pub weights : Each WeighsOne (in_order (acts_in p.body))
  pub directions : Each (FollowsDirection ps p) (in_order (acts_in p.body))
  pub binders : NothingBindsBehind p.co (has_binder p.post) (in_order (acts_in p.body))
  pub scopes : Scoped (interface p) (acts_in p.body)
  -- Loops, numbered from 1 in the order of the text.
  pub loops : Each (LoopsMeet p) (in_order (acts_in p.body))
  pub numbered : loop_numbers (in_order (acts_in p.body)) ≡ counted 1 p.loops

-- The procedure has at least as many variables as inputs and outputs.
abbrev pub IsCounted : TProc → Type 0
IsCounted p = p.inputs + p.outputs ≤ length p.vars.items

-- The typed file satisfies the static rules.
pub record MeetsAllRules (typed : Typed) : Type 0 where
  pub few : length typed.procs.items ≤ 1024
  pub counted : Each IsCounted typed.procs.items
  pub each : Each (MeetsRules (procedures_of typed)) (procedures_of typed)
  pub named : Each HasNamedBinders (procedures_of typed)
  pub few_acts : HasFewActs (procedures_of typed)
