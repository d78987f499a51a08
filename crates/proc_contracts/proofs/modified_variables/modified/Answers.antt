use Rattle.std.proofs.Common.{◌≡◌, ◌<◌, ◌+◌, ◌++◌, ◌∷◌, ◌∙◌, [], ap, drop, get_or, length, sym, subst}
use Rattle.std.proofs.lemmas.List.{get_or_default}
use Rattle.heyvl_acts.specs.ModifiedVariables.{modified}
use Rattle.heyvl_acts.specs.PlainActs.{acts_of}
use Rattle.heyvl_acts.specs.Rules.{GrowBelow}
use Rattle.proc_contracts.proofs.Targets.{all_modified, left, modified_grow, taken}
use Rattle.proc_contracts.proofs.modified_variables.modified.Goals as goal
use Rattle.proc_contracts.proofs.modified_variables.modified.Goals.{then-is_target+in_ok-push, else-is_target}

pub loop-x-preserved : goal.loop-x-preserved
loop-x-preserved c =
    let scope = c.args.one.now.scope.items in
    let body = acts_of c.args.one.now.body.items in
    let i = c.loop-x.x-index in
    let x = get_or scope i 0 in
    let there : i < length scope = rw c.deref-x-items.ensures.value at c.loop-x-test.true in
    let same = get_or_default scope i 0 x there in
    let target = rw (c.deref-x-items.ensures.value, c.deref.ensures.value) at c.is_target.ensures in
    elim c.if-is_target.branch [
      | then-is_target+in_ok-push w ↦
          let pushed : c.if-is_target.found.items ≡ c.loop-x.found.items ++ x ∷ [] = ap (λ v. v.items) w.found-is ∙ (rw c.deref-x-items.ensures.value at w.in_ok-push.ensures.items) in
          ap (λ l. l ++ modified (drop (i + 1) scope) body) pushed ∙ (taken c.loop-x.found.items scope i x body there same (sym target ∙ w.if-is_target.true) ∙ c.loop-x.invariant)
      | else-is_target w ↦ ap (λ v. v.items ++ modified (drop (i + 1) scope) body) w.found-is ∙ (left c.loop-x.found.items scope i x body there same (sym target ∙ w.if-is_target.false) ∙ c.loop-x.invariant)
    ]

pub returns-clause-growing : goal.returns-clause-growing
returns-clause-growing c = λ from below g. subst (λ l. GrowBelow from below l) (sym (all_modified _ c.args.one.now.scope.items c.loop-x.x-index (acts_of c.args.one.now.body.items) (rw c.deref-x-items.ensures.value at c.loop-x-test.false) c.loop-x.invariant)) (modified_grow from below c.args.one.now.scope.items (acts_of c.args.one.now.body.items) g)
