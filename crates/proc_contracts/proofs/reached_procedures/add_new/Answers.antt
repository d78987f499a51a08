use Rattle.std.proofs.Common.{◌≡◌, ◌<◌, ◌∙◌, ◌++◌, ◌∷◌, [], ap, false, get_or, length, set, subst, sym, take, true}
use Rattle.std.proofs.lemmas.List.{get_or_read, length-set}
use Rattle.proc_contracts.specs.internal.MarkedNumbers.{AreMarked, Grew}
use Rattle.proc_contracts.proofs.Marks.{grew_more, grew_next, grew_same, mark_more}
use Rattle.proc_contracts.proofs.reached_procedures.add_new.Goals as goal
use Rattle.proc_contracts.proofs.reached_procedures.add_new.Goals.{then-not-index+in_ok-push, else-not-index}

pub loop-q-preserved : goal.loop-q-preserved
loop-q-preserved c =
    let all = c.args.all.now in
    let k = c.loop-q.q-index in
    let q = get_or all k 0 in
    let below : q < length c.loop-q.marks.items = subst (λ n. q < n) (sym c.loop-q.invariant.sized) (c.requires.below k 0 c.loop-q-test.true) in
    let is = get_or_read c.loop-q.marks.items q c.index.result.now below c.index.ensures false in
    elim c.if-not-index.branch [
      | then-not-index+in_ok-push w ↦
          let marks : c.if-not-index.marks.items ≡ set c.loop-q.marks.items q true = ap (λ v. v.items) w.marks-is in
          let order : c.if-not-index.order.items ≡ c.loop-q.order.items ++ q ∷ [] = ap (λ v. v.items) w.order-is ∙ w.in_ok-push.ensures.items in
          record {
            marked = subst (λ l. AreMarked c.if-not-index.marks.items l) (sym order) (subst (λ l. AreMarked l (c.loop-q.order.items ++ q ∷ [])) (sym marks) (mark_more _ _ q c.loop-q.invariant.marked below (sym is ∙ w.if-not-index.true)));
            sized = ap length marks ∙ (length-set c.loop-q.marks.items q true ∙ c.loop-q.invariant.sized);
            grew = grew_next _ _ all k c.loop-q-test.true (subst (λ l. Grew c.args.order.now.items l (take k all ++ q ∷ [])) (sym order) (grew_more _ _ _ q c.loop-q.invariant.grew));
          }
      | else-not-index w ↦
          record {
            marked = subst (λ v. AreMarked v.items c.if-not-index.order.items) (sym w.marks-is) (subst (λ v. AreMarked c.loop-q.marks.items v.items) (sym w.order-is) c.loop-q.invariant.marked);
            sized = ap (λ v. length v.items) w.marks-is ∙ c.loop-q.invariant.sized;
            grew = grew_next _ _ all k c.loop-q-test.true (subst (λ v. Grew c.args.order.now.items v.items (take k all ++ q ∷ [])) (sym w.order-is) (grew_same _ _ _ q c.loop-q.invariant.grew (sym (c.loop-q.invariant.marked.same q) ∙ (sym is ∙ w.if-not-index.false))));
          }
    ]
