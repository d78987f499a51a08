use Rattle.std.proofs.lemmas.Result.{IfOk-weaker}
use Rattle.form_folding.proofs.FoldedForms.{cond_has, form_has, le_is, lt_is, number_is, has_longer, test_longer, fits_for, folded_longer, iverson_is, le_fits, lt_fits, scale_is, select_is}
use Rattle.form_folding.proofs.folding.+folding.Goals as goal

pub fold-join_for-requires : goal.fold-join_for-requires
fold-join_for-requires t c = fits_for _ _ _ (scale_is _ c.args.form.now c.deref-in-Scale.result.now c.in-Scale.w c.in-Scale.a _ c.in-Scale.is c.deref-in-Scale.ensures c.in_ok-part-in-Scale.ensures.folded)

pub fold-join_for-requires-in-Iverson : goal.fold-join_for-requires-in-Iverson
fold-join_for-requires-in-Iverson t c = fits_for _ _ _ (iverson_is _ c.args.form.now c.deref-in-Iverson.result.now c.in-Iverson.g _ c.in-Iverson.is c.deref-in-Iverson.ensures c.in_ok-part-in-Iverson.ensures.folded)

pub fold-join_for-requires-in-Select : goal.fold-join_for-requires-in-Select
fold-join_for-requires-in-Select t c = fits_for _ _ _ (select_is _ c.args.form.now c.deref-in-Select.result.now c.deref-in-Select-2.result.now c.deref-in-Select-3.result.now c.in-Select.g c.in-Select.a c.in-Select.b _ _ _ c.in-Select.is c.deref-in-Select.ensures c.deref-in-Select-2.ensures c.deref-in-Select-3.ensures (test_longer _ _ _ _ c.in_ok-yes-in-Select.ensures.begins c.in_ok-test-in-Select.ensures.folded) c.in_ok-yes-in-Select.ensures.first c.in_ok-yes-in-Select.ensures.second)

pub fold-returns-in_ok-part-in-Scale-clause-folded : goal.fold-returns-in_ok-part-in-Scale-clause-folded
fold-returns-in_ok-part-in-Scale-clause-folded t c = c.join_for.ensures.folded _ (scale_is _ c.args.form.now c.deref-in-Scale.result.now c.in-Scale.w c.in-Scale.a _ c.in-Scale.is c.deref-in-Scale.ensures c.in_ok-part-in-Scale.ensures.folded)

pub fold-returns-in_ok-part-in-Iverson-clause-folded : goal.fold-returns-in_ok-part-in-Iverson-clause-folded
fold-returns-in_ok-part-in-Iverson-clause-folded t c = c.join_for-in-Iverson.ensures.folded _ (iverson_is _ c.args.form.now c.deref-in-Iverson.result.now c.in-Iverson.g _ c.in-Iverson.is c.deref-in-Iverson.ensures c.in_ok-part-in-Iverson.ensures.folded)

pub fold-returns-in_ok-yes-in-Select-clause-folded : goal.fold-returns-in_ok-yes-in-Select-clause-folded
fold-returns-in_ok-yes-in-Select-clause-folded t c = c.join_for-in-Select.ensures.folded _ (select_is _ c.args.form.now c.deref-in-Select.result.now c.deref-in-Select-2.result.now c.deref-in-Select-3.result.now c.in-Select.g c.in-Select.a c.in-Select.b _ _ _ c.in-Select.is c.deref-in-Select.ensures c.deref-in-Select-2.ensures c.deref-in-Select-3.ensures (test_longer _ _ _ _ c.in_ok-yes-in-Select.ensures.begins c.in_ok-test-in-Select.ensures.folded) c.in_ok-yes-in-Select.ensures.first c.in_ok-yes-in-Select.ensures.second)

pub folded_sum-returns-clause-folded : goal.folded_sum-returns-clause-folded
folded_sum-returns-clause-folded t c = c.join_sum.ensures.folded _ _ (folded_longer _ _ _ _ c.in_ok-right.ensures.begins c.in_ok-left.ensures.folded) c.in_ok-right.ensures.folded

pub folded_sum-join_sum-requires-clause-left : goal.folded_sum-join_sum-requires-clause-left
folded_sum-join_sum-requires-clause-left t c = record { form = _; folded = folded_longer _ _ _ _ c.in_ok-right.ensures.begins c.in_ok-left.ensures.folded }

pub folded_sum-join_sum-requires-clause-right : goal.folded_sum-join_sum-requires-clause-right
folded_sum-join_sum-requires-clause-right t c = record { form = _; folded = c.in_ok-right.ensures.folded }

pub put_both-returns-clause-first : goal.put_both-returns-clause-first
put_both-returns-clause-first t c = has_longer _ _ _ _ c.in_ok-second.ensures.begins c.in_ok-first.ensures.folded

pub put_test-join-requires : goal.put_test-join-requires
put_test-join-requires t c = le_fits _ _ _ _ _ c.in_ok-left-in-Le.ensures.first c.in_ok-left-in-Le.ensures.second

pub put_test-join-requires-in-Lt : goal.put_test-join-requires-in-Lt
put_test-join-requires-in-Lt t c = lt_fits _ _ _ _ _ c.in_ok-left-in-Lt.ensures.first c.in_ok-left-in-Lt.ensures.second

pub fold-returns-in_ok-put-in_default-clause-folded : goal.fold-returns-in_ok-put-in_default-clause-folded
fold-returns-in_ok-put-in_default-clause-folded t c = form_has _ _ _ c.in_ok-put-in_default.ensures.tree

pub put_test-returns-in_ok-left-in-Le-clause-folded : goal.put_test-returns-in_ok-left-in-Le-clause-folded
put_test-returns-in_ok-left-in-Le-clause-folded t c = IfOk-weaker c.join.result _ _ (λ id k. le_is _ c.join.new.self c.args.cond.now c.deref.result.now c.deref-in-Le.result.now c.in-Le.a c.in-Le.b _ _ id c.in-Le.is c.deref.ensures c.deref-in-Le.ensures c.in_ok-left-in-Le.ensures.first c.in_ok-left-in-Le.ensures.second k) c.join.ensures.tree

pub put_test-returns-in_ok-left-in-Lt-clause-folded : goal.put_test-returns-in_ok-left-in-Lt-clause-folded
put_test-returns-in_ok-left-in-Lt-clause-folded t c = IfOk-weaker c.join-in-Lt.result _ _ (λ id k. lt_is _ c.join-in-Lt.new.self c.args.cond.now c.deref-in-Lt.result.now c.deref-in-Lt-2.result.now c.in-Lt.a c.in-Lt.b _ _ id c.in-Lt.is c.deref-in-Lt.ensures c.deref-in-Lt-2.ensures c.in_ok-left-in-Lt.ensures.first c.in_ok-left-in-Lt.ensures.second k) c.join-in-Lt.ensures.tree

pub put_test-returns-in_default : goal.put_test-returns-in_default
put_test-returns-in_default t c = record { begins = c.put_cond.ensures.begins; folded = IfOk-weaker c.put_cond.result _ _ (λ id s. cond_has _ id _ s) c.put_cond.ensures.tree }

pub fold-returns-in-Fin-clause-folded : goal.fold-returns-in-Fin-clause-folded
fold-returns-in-Fin-clause-folded t c = number_is c.args.form.now c.in-Const.v c.in-Fin.x c.in-Const.is c.in-Fin.is

pub fold-returns-in_ok-put-in-Inf-clause-folded : goal.fold-returns-in_ok-put-in-Inf-clause-folded
fold-returns-in_ok-put-in-Inf-clause-folded t c = form_has _ _ _ c.in_ok-put-in-Inf.ensures.tree
