use Rattle.std.proofs.Common.{◌≡◌, ap, ap₂, subst, sym, ◌∙◌}
use Rattle.linear_form.specs.PlainPaths.{atom_of}
use Rattle.linear_form.specs.internal.LastingTrees.{IsComparison}
use Rattle.linear_form.specs.internal.Parts.{Work}
use Rattle.linear_form.specs.internal.PlainParts.{part_of, work_of}
use Rattle.linear_form.specs.declared.parts.Part.{Part}
use Rattle.linear_form.proofs.PlainPartsAre.{two_work}
use Rattle.linear_form.proofs.ReadyParts.{alone_ready, decided, first_ready}
use Rattle.linear_form.proofs.ready_parts.ready_part.Goals as goal

pub returns-in_ok-work-in-Err-Decide : goal.returns-in_ok-work-in-Err-Decide
returns-in_ok-work-in-Err-Decide c =
    let two : work_of c.in_ok-work.work ≡ Work.two c.in-Two.operation (part_of c.deref.result.now) (part_of c.deref-2.result.now) = ap work_of c.in-Two.is ∙ two_work _ _ _ ∙ ap₂ (λ (p u : Part). Work.two c.in-Two.operation (part_of p) (part_of u)) (sym c.deref.ensures) (sym c.deref-2.ensures) in
    let first = decided c.in-Two.operation (part_of c.deref.result.now) (part_of c.deref-2.result.now) _ c.in-Err-Decide.atom c.in-Err-Decide.field-0-is c.in-Err-Decide.ensures in
    alone_ready (work_of c.args.work) c.in_ok-work.work c.in_ok-work-in-Err-Decide.work c.in-Two.operation (part_of c.deref.result.now) (part_of c.deref-2.result.now) (atom_of c.in-Err-Decide.atom.value) c.is_comparison-asks.result two c.in_ok-work.ensures.0 (λ t. subst (λ a. IsComparison (atom_of a)) c.deref-in-Err-Decide.ensures (c.is_comparison-asks.ensures t)) first (c.compares.ensures c.if-compares.true) c.in_ok-work-in-Err-Decide.ensures

pub returns-else-compares : goal.returns-else-compares
returns-else-compares c =
    let two : work_of c.in_ok-work.work ≡ Work.two c.in-Two.operation (part_of c.deref.result.now) (part_of c.deref-2.result.now) = ap work_of c.in-Two.is ∙ two_work _ _ _ ∙ ap₂ (λ (p u : Part). Work.two c.in-Two.operation (part_of p) (part_of u)) (sym c.deref.ensures) (sym c.deref-2.ensures) in
    let first = decided c.in-Two.operation (part_of c.deref.result.now) (part_of c.deref-2.result.now) _ c.in-Err-Decide.atom c.in-Err-Decide.field-0-is c.in-Err-Decide.ensures in
    first_ready (work_of c.args.work) c.in_ok-work.work c.in-Two.operation (part_of c.deref.result.now) (part_of c.deref-2.result.now) (atom_of c.in-Err-Decide.atom.value) c.is_comparison-asks.result two c.in_ok-work.ensures.0 c.in_ok-work.ensures.1 (λ t. subst (λ a. IsComparison (atom_of a)) c.deref-in-Err-Decide.ensures (c.is_comparison-asks.ensures t)) first
