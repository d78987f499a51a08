use Rattle.heyvl_acts.specs.PlainActs.{procedure_of, procedures_of}
use Rattle.heyvl_acts.specs.Rules.{Each, IsCounted}
use Rattle.heyvl_syntax.specs.Procedures.{procedure, procedures}
use Rattle.heyvl_types.proofs.ProcedureList.{At, fails, few_parts_at, goes_on, stands}
use Rattle.heyvl_types.proofs.files.read_procedures.Goals as goal
use Rattle.static_rules.specs.Files.{file_findings, resolved}
use Rattle.heyvl_types.specs.internal.Earlier.{is_before}
use Rattle.std.proofs.Common.{Err, List, [], ap, arith, map, refl, rules, subst, sym, ◌+◌, ◌++◌, ◌∙◌, ◌∷◌}
use Rattle.std.proofs.lemmas.List.{map-append}
use Rattle.typed_expressions.specs.Answers.{Gives}
use Rattle.typed_expressions.specs.Signatures.{find_call}

each_more : {A : Type 0} (P : A → Type 0) (xs : List A) (x : A) → Each P xs → P x → Each P (xs ++ x ∷ [])
each_more P [] x h p = (p, tt)
each_more P (y ∷ ys) x h p = (h.0, each_more P ys x h.1 p)

pub read_procedure-requires : goal.read_procedure-requires
read_procedure-requires c =
    few_parts_at c.args.file.now.procs.items c.loop-proc.proc-index c.proc-item.result (rw c.deref-proc-items.ensures.value at c.loop-proc-test.true) (rw c.deref-proc-items.ensures.value at c.proc-item.is) c.requires.parts

pub loop-proc-preserved : goal.loop-proc-preserved
loop-proc-preserved c =
    let all = c.args.file.now.procs.items in
    let k = c.loop-proc.proc-index in
    let here : At (procedures c.args.file.now) k (procedure c.proc-item.result) c.is_before-named.result =
    stands all k c.loop-proc.number c.proc-item.result c.is_before-named.result c.loop-proc.invariant.reads.number
    (rw c.deref-proc-items.ensures.value at c.loop-proc-test.true) (rw c.deref-proc-items.ensures.value at c.proc-item.is)
    (c.is_before-named.ensures ∙ ap (λ m. is_before c.loop-proc.number (find_call m c.proc-item.result.name)) c.in_ok-calls.ensures) in
    let found = rw c.in_ok-calls.ensures at c.in_ok-read_procedure.ensures.gives in
    record {
      number = let n = c.loop-proc.invariant.number in omega (arith, n);
      reads = goes_on (procedures c.args.file.now) k c.loop-proc.number (c.loop-proc.number + 1) (map procedure_of c.loop-proc.procs.items) _ (procedure c.proc-item.result) c.is_before-named.result c.loop-proc.invariant.reads here
          found.0 refl
          (ap (map procedure_of) c.in_ok-push.ensures.items ∙ map-append procedure_of c.loop-proc.procs.items (c.in_ok-read_procedure.field-0 ∷ []) ∙ ap (λ t. map procedure_of c.loop-proc.procs.items ++ t ∷ []) found.1);
      counted = subst (Each IsCounted) (sym c.in_ok-push.ensures.items) (each_more IsCounted c.loop-proc.procs.items c.in_ok-read_procedure.field-0 c.loop-proc.invariant.counted c.in_ok-read_procedure.ensures.counted);
    }

pub returns-in_err-read_procedure-clause-gives : goal.returns-in_err-read_procedure-clause-gives
returns-in_err-read_procedure-clause-gives c =
    let k = c.loop-proc.proc-index in
    let here : At (procedures c.args.file.now) k (procedure c.proc-item.result) c.is_before-named.result =
    stands c.args.file.now.procs.items k c.loop-proc.number c.proc-item.result c.is_before-named.result c.loop-proc.invariant.reads.number
    (rw c.deref-proc-items.ensures.value at c.loop-proc-test.true) (rw c.deref-proc-items.ensures.value at c.proc-item.is)
    (c.is_before-named.ensures ∙ ap (λ m. is_before c.loop-proc.number (find_call m c.proc-item.result.name)) c.in_ok-calls.ensures) in
    let h = rw c.in_ok-calls.ensures at c.in_err-read_procedure.ensures.gives in
    let stop : Gives procedures_of (Err c.in_err-read_procedure.field-0.0) (file_findings (procedures c.args.file.now)) (resolved (procedures c.args.file.now)) =
    fails procedure_of procedures_of _ _ (procedures c.args.file.now) k c.loop-proc.number (map procedure_of c.loop-proc.procs.items) (procedure c.proc-item.result) c.is_before-named.result _ c.loop-proc.invariant.reads here h in
    search rules
