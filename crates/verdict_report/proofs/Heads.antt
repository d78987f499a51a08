-- The procedures of a file that satisfies the rules, and the number of variables that their heads
-- declare.
use Rattle.std.proofs.Common.{◌≡◌, ℕ, ◌+◌, ◌-◌, ◌<◌, ◌≤◌, ap, ap₂, sym, subst, ◌∙◌, arith, map, List, [], ◌∷◌, ◌++◌, length, get_or, take, drop, min}
use Prim.Native.Nat.{zero, suc}
use Rattle.std.proofs.lemmas.List.{length-append, length-drop, length-map, length-take}
use Rattle.heyvl_acts.specs.Acts.{TypedProcedure, Variable, procedure_at}
use Rattle.heyvl_acts.specs.PlainActs.{procedure_of, procedures_of, variable_of}
use Rattle.heyvl_acts.specs.Rules.{Each, IsCounted, MeetsAllRules, MeetsRules}
use Rattle.heyvl_acts.specs.declared.typed_trees.TProc.{TProc}
use Rattle.heyvl_acts.specs.declared.typed_trees.Typed.{Typed}

pub head_length : (p : TProc) → IsCounted p → length ((procedure_of p).inputs ++ (procedure_of p).outputs) ≡ p.inputs + p.outputs
head_length p h =
    length-append (procedure_of p).inputs (procedure_of p).outputs
    ∙ ap₂ (λ a b. a + b) (inputs ∙ fits_whole p.inputs all (omega (arith, h, long))) (outputs ∙ fits_whole p.outputs (all - p.inputs) (omega (arith, h, long)))
  where
    vars : List Variable
    vars = map variable_of p.vars.items

    all : ℕ
    all = length vars

    long : all ≡ length p.vars.items
    long = length-map p.vars.items variable_of

    inputs : length (take p.inputs vars) ≡ min p.inputs all
    inputs = length-take p.inputs vars

    outputs : length (take p.outputs (drop p.inputs vars)) ≡ min p.outputs (all - p.inputs)
    outputs = length-take p.outputs (drop p.inputs vars) ∙ ap (λ n. min p.outputs n) (length-drop p.inputs vars)

    fits_whole : (n m : ℕ) → n ≤ m → min n m ≡ n
    fits_whole n m le = omega (arith, le)

pub procedure_is : (procs : List TProc) (p : ℕ) (x : TProc) → p < length procs → x ≡ get_or procs p x → procedure_at (map procedure_of procs) p ≡ procedure_of x
procedure_is [] p x lt is = absurd (omega (arith, lt))
procedure_is (y ∷ rest) zero x lt is = ap procedure_of (sym is)
procedure_is (y ∷ rest) (suc p) x lt is = procedure_is rest p x (omega (arith, lt)) is

each_counted : (procs : List TProc) (p : ℕ) (x : TProc) → Each IsCounted procs → p < length procs → x ≡ get_or procs p x → IsCounted x
each_counted [] p x h lt is = absurd (omega (arith, lt))
each_counted (y ∷ rest) zero x h lt is = subst IsCounted (sym is) h.0
each_counted (y ∷ rest) (suc p) x h lt is = each_counted rest p x h.1 (omega (arith, lt)) is

each_procedure : (ps rest : List TypedProcedure) (p : ℕ) → Each (MeetsRules ps) rest → p < length rest → MeetsRules ps (procedure_at rest p)
each_procedure ps [] p h lt = absurd (omega (arith, lt))
each_procedure ps (y ∷ rest) zero h lt = h.0
each_procedure ps (y ∷ rest) (suc p) h lt = each_procedure ps rest p h.1 (omega (arith, lt))

pub is_counted : (typed : Typed) (p : ℕ) (x : TProc) → MeetsAllRules typed → p < length typed.procs.items → x ≡ get_or typed.procs.items p x → IsCounted x
is_counted typed p x rules lt is = each_counted typed.procs.items p x rules.counted lt is

pub has_few_parameters : (typed : Typed) (p : ℕ) (x : TProc) → MeetsAllRules typed → p < length typed.procs.items → x ≡ get_or typed.procs.items p x → x.inputs + x.outputs ≤ 16
has_few_parameters typed p x rules lt is =
    subst (λ n. n ≤ 16) (head_length x (is_counted typed p x rules lt is)) (subst (λ (y : TypedProcedure). length (y.inputs ++ y.outputs) ≤ 16) (procedure_is typed.procs.items p x lt is) here.few_parameters)
  where
    here : MeetsRules (procedures_of typed) (procedure_at (procedures_of typed) p)
    here = each_procedure (procedures_of typed) (procedures_of typed) p rules.each (subst (λ n. p < n) (sym (length-map typed.procs.items procedure_of)) lt)
