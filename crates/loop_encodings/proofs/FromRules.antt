-- The requirements of the encoding follow from the static rules.
use Rattle.std.proofs.Common.{◌≡◌, ◌≤◌, ◌<◌, ◌+◌, ℕ, refl, sym, ap, subst, ◌∙◌, arith, List, [], ◌∷◌, ◌++◌, length, get_or, map}
use Rattle.std.proofs.lemmas.List.{length-append, length-map}
use Prim.Native.Nat.{zero, suc}
use Rattle.heylo_formula.specs.Formula.{Term}
use Rattle.heylo_formula.specs.Shifts.{extent}
use Rattle.heylo_formula.proofs.exported.Shifts.{extent_over}
use Rattle.heylo_formula.specs.declared.types.Ty.{Ty}
use Rattle.heyvl_acts.specs.Acts.{Act, Acts, Arms, TypedProcedure, Variable, acts_in, procedure_at, type_list}
use Rattle.heyvl_acts.specs.PlainActs.{procedure_of, procedures_of}
use Rattle.heyvl_acts.specs.Places.{in_order, inside, inside_arms}
use Rattle.heyvl_acts.specs.Rules.{ArgumentsFit, Each, FollowsDirection, HasOwnTargets, IsCounted, IsTypedAct, LoopsMeet, MeetsAllRules, MeetsRules, TargetsFit}
use Rattle.heyvl_acts.specs.declared.typed_trees.TProc.{TProc}
use Rattle.heyvl_acts.specs.declared.typed_trees.Typed.{Typed}
use Rattle.heyvl_acts.proofs.exported.Each.{each_first, each_second, each_two, each_at}
use Rattle.loop_encodings.specs.internal.Ready.{AreReady, AreReadyArms, IsCall, IsCallee, IsReady}
use Rattle.loop_encodings.proofs.OwnVariables.{inputs_length, outputs_length}

-- The static rules on an act.
abbrev pub IsFine : List TypedProcedure → TypedProcedure → Act → Type 0
IsFine ps p a = (HasOwnTargets p a × IsTypedAct ps p a) × (LoopsMeet p a × FollowsDirection ps p a)

pub all_fine : (ps : List TypedProcedure) (p : TypedProcedure) → MeetsRules ps p → Each (IsFine ps p) (in_order (acts_in p.body))
all_fine ps p h = each_two (λ a. HasOwnTargets p a × IsTypedAct ps p a) (λ a. LoopsMeet p a × FollowsDirection ps p a) (in_order (acts_in p.body)) (each_two (HasOwnTargets p) (IsTypedAct ps p) (in_order (acts_in p.body)) h.targets h.typed) (each_two (LoopsMeet p) (FollowsDirection ps p) (in_order (acts_in p.body)) h.loops h.directions)

-- ---- Calls

as_many_arguments : (p : TypedProcedure) (ts : List Ty) (es : List Term) → ArgumentsFit p ts es → length es ≡ length ts
as_many_arguments p [] [] h = refl
as_many_arguments p [] (e ∷ es) h = absurd h
as_many_arguments p (t ∷ ts) [] h = absurd h
as_many_arguments p (t ∷ ts) (e ∷ es) h = let i = as_many_arguments p ts es h.1 in omega (arith, i)

as_many_targets : (p : TypedProcedure) (xs : List ℕ) (ts : List Ty) → TargetsFit p xs ts → length xs ≡ length ts
as_many_targets p [] [] h = refl
as_many_targets p [] (t ∷ ts) h = absurd h
as_many_targets p (x ∷ xs) [] h = absurd h
as_many_targets p (x ∷ xs) (t ∷ ts) h = let i = as_many_targets p xs ts h.1 in omega (arith, i)

module _ (ps : List TypedProcedure) (p : TypedProcedure) (rules : (q : ℕ) → q < length ps → MeetsRules ps (procedure_at ps q)) where
  call_ready : (xs : List ℕ) (q : ℕ) (es : List Term) → IsTypedAct ps p (Act.call xs q es (record { from = 0; to = 0 })) → FollowsDirection ps p (Act.call xs q es (record { from = 0; to = 0 })) → IsCall ps xs q es
  call_ready xs q es h d =
      let r = rules q h.there in
      let f = r.few_parameters in
      let l = length-append (procedure_at ps q).inputs (procedure_at ps q).outputs in
      let a = extent_over (length (procedure_at ps q).inputs) (procedure_at ps q).pre r.pre.1 r.pre_over in
      let b = extent_over (length ((procedure_at ps q).inputs ++ (procedure_at ps q).outputs)) (procedure_at ps q).post d.plain r.post_over in
      record {
        there = h.there;
        arguments = as_many_arguments p (type_list (procedure_at ps q).inputs) es h.arguments ∙ length-map (procedure_at ps q).inputs (λ (v : Variable). v.ty);
        targets = as_many_targets p xs (type_list (procedure_at ps q).outputs) h.targets ∙ length-map (procedure_at ps q).outputs (λ (v : Variable). v.ty);
        few = omega (arith, f, l);
        pre = omega (arith, f, l, a);
        post = omega (arith, f, l, b);
      }

  mutual
    ready_act : (a : Act) → IsFine ps p a → Each (IsFine ps p) (inside a) → IsReady ps p a
    ready_act (Act.set x t span) h i = tt
    ready_act (Act.draw x qs span) h i = tt
    ready_act (Act.toss x f span) h i = tt
    ready_act (Act.any x up ty span) h i = tt
    ready_act (Act.reward f span) h i = tt
    ready_act (Act.ifs arms e span) h i = (ready_arms arms (each_first (IsFine ps p) (inside_arms arms) (in_order e) i), ready_acts e (each_second (IsFine ps p) (inside_arms arms) (in_order e) i))
    ready_act (Act.pick up a b span) h i = (ready_acts a (each_first (IsFine ps p) (in_order a) (in_order b) i), ready_acts b (each_second (IsFine ps p) (in_order a) (in_order b) i))
    ready_act (Act.check kind f span) h i = tt
    ready_act (Act.validate co span) h i = tt
    ready_act (Act.loop k b) h i = ((h.1.0.some_copy, h.1.0.scope), ready_acts b i)
    ready_act (Act.call xs q es span) h i = call_ready xs q es h.0.1 h.1.1

    pub ready_acts : (acts : Acts) → Each (IsFine ps p) (in_order acts) → AreReady ps p acts
    ready_acts Acts.done h = tt
    ready_acts (Acts.next a rest) h = (ready_act a h.0 (each_first (IsFine ps p) (inside a) (in_order rest) h.1), ready_acts rest (each_second (IsFine ps p) (inside a) (in_order rest) h.1))

    ready_arms : (arms : Arms) → Each (IsFine ps p) (inside_arms arms) → AreReadyArms ps p arms
    ready_arms Arms.no_arm h = tt
    ready_arms (Arms.arm g b more) h = (ready_acts b (each_first (IsFine ps p) (in_order b) (inside_arms more) h), ready_arms more (each_second (IsFine ps p) (in_order b) (inside_arms more) h))

-- ---- The procedures of a file

pub is_there : (typed : Typed) (q : ℕ) → q < length typed.procs.items → q < length (procedures_of typed)
is_there typed q lt = subst (λ n. q < n) (sym (length-map typed.procs.items procedure_of)) lt

pub procedure_is : (procs : List TProc) (q : ℕ) (x : TProc) → q < length procs → x ≡ get_or procs q x → procedure_at (map procedure_of procs) q ≡ procedure_of x
procedure_is [] q x lt is = absurd (omega (arith, lt))
procedure_is (y ∷ rest) zero x lt is = ap procedure_of (sym is)
procedure_is (y ∷ rest) (suc q) x lt is = procedure_is rest q x (omega (arith, lt)) is

counted_at : (procs : List TProc) (q : ℕ) (x : TProc) → Each IsCounted procs → q < length procs → x ≡ get_or procs q x → IsCounted x
counted_at [] q x h lt is = absurd (omega (arith, lt))
counted_at (y ∷ rest) zero x h lt is = subst IsCounted (sym is) h.0
counted_at (y ∷ rest) (suc q) x h lt is = counted_at rest q x h.1 (omega (arith, lt)) is

pub each_procedure : (ps rest : List TypedProcedure) (q : ℕ) → Each (MeetsRules ps) rest → q < length rest → MeetsRules ps (procedure_at rest q)
each_procedure ps rest q h lt = each_at (MeetsRules ps) rest q h lt

pub rules_at : (typed : Typed) (q : ℕ) → MeetsAllRules typed → q < length (procedures_of typed) → MeetsRules (procedures_of typed) (procedure_at (procedures_of typed) q)
rules_at typed q h lt = each_procedure (procedures_of typed) (procedures_of typed) q h.each lt

pub callee_at : (typed : Typed) (xs : List ℕ) (q : ℕ) (es : List Term) (x : TProc) → MeetsAllRules typed → IsCall (procedures_of typed) xs q es → q < length typed.procs.items → x ≡ get_or typed.procs.items q x → IsCallee x
callee_at typed xs q es x rules call lt is =
    let counted = counted_at typed.procs.items q x rules.counted lt is in
    let here : procedure_at (procedures_of typed) q ≡ procedure_of x = procedure_is typed.procs.items q x lt is in
    let i = inputs_length x counted in
    let o = outputs_length x counted in
    let f = subst (λ (y : TypedProcedure). length y.inputs + length y.outputs ≤ 16) here call.few in
    record {
      few = omega (arith, i, o, f);
      counted = counted;
      pre = subst (λ (y : TypedProcedure). extent y.pre ≤ 16) here call.pre;
      post = subst (λ (y : TypedProcedure). extent y.post ≤ 16) here call.post;
    }

pub procedure_there : (typed : Typed) (q : ℕ) → q < length (procedures_of typed) → q < length typed.procs.items
procedure_there typed q lt = subst (λ n. q < n) (length-map typed.procs.items procedure_of) lt
