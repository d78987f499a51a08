-- The procedures of a file that satisfies the static rules, as the program holds them.
use Prim.Native.Nat.{suc, zero}
use Rattle.heyvl_acts.specs.Acts.{TypedProcedure, procedure_at, variables}
use Rattle.heyvl_acts.specs.PlainActs.{procedure_of, procedures_of, variable_of}
use Rattle.heyvl_acts.specs.Rules.{Each, MeetsAllRules, MeetsRules}
use Rattle.heyvl_acts.specs.declared.typed_trees.TProc.{TProc}
use Rattle.heyvl_acts.specs.declared.typed_trees.Typed.{Typed}
use Rattle.std.proofs.Common.{List, [], ap, append_assoc, arith, drop, get_or, length, map, subst, sym, take, take-add, ◌+◌, ◌++◌, ◌<◌, ◌^◌, ◌∙◌, ◌∷◌, ◌≡◌, ◌≤◌, ℕ}
use Rattle.std.proofs.lemmas.List.{length-map, take-append-drop}

pub procedure_is : (procs : List TProc) (p : ℕ) (x : TProc) → p < length procs → x ≡ get_or procs p x → procedure_at (map procedure_of procs) p ≡ procedure_of x
procedure_is [] p x lt is = absurd (omega (arith, lt))
procedure_is (y ∷ rest) zero x lt is = ap procedure_of (sym is)
procedure_is (y ∷ rest) (suc p) x lt is = procedure_is rest p x (omega (arith, lt)) is

pub variables_held : (p : TProc) → variables (procedure_of p) ≡ map variable_of p.vars.items
variables_held p =
    let held = map variable_of p.vars.items in
    sym (append_assoc (take p.inputs held) (take p.outputs (drop p.inputs held)) (drop (p.inputs + p.outputs) held))
    ∙ (ap (λ r. r ++ drop (p.inputs + p.outputs) held) (sym (take-add p.inputs p.outputs held)) ∙ take-append-drop (p.inputs + p.outputs) held)

pub as_many : (p : TProc) → length (variables (procedure_of p)) ≡ length p.vars.items
as_many p = ap length (variables_held p) ∙ length-map p.vars.items variable_of

rules_at : (ps rest : List TypedProcedure) (p : ℕ) → Each (MeetsRules ps) rest → p < length rest → MeetsRules ps (procedure_at rest p)
rules_at ps [] p h lt = absurd (omega (arith, lt))
rules_at ps (y ∷ rest) zero h lt = h.0
rules_at ps (y ∷ rest) (suc p) h lt = rules_at ps rest p h.1 (omega (arith, lt))

pub few_variables : (typed : Typed) (p : ℕ) (x : TProc) → MeetsAllRules typed → p < length typed.procs.items → x ≡ get_or typed.procs.items p x → length x.vars.items < 2 ^ 31
few_variables typed p x rules lt is =
    let r : MeetsRules (procedures_of typed) (procedure_at (procedures_of typed) p) = rules_at (procedures_of typed) (procedures_of typed) p rules.each (subst (λ n. p < n) (sym (length-map typed.procs.items procedure_of)) lt) in
    let few : length (variables (procedure_of x)) ≤ 256 = subst (λ (y : TypedProcedure). length (variables y) ≤ 256) (procedure_is typed.procs.items p x lt is) r.few_variables in
    let same = as_many x in
    omega (arith, few, same)

pub name_is : (typed : Typed) (p : ℕ) (x : TProc) → p < length typed.procs.items → x ≡ get_or typed.procs.items p x → x.name ≡ (procedure_at (procedures_of typed) p).name
name_is typed p x lt is = ap (λ (y : TypedProcedure). y.name) (sym (procedure_is typed.procs.items p x lt is))
