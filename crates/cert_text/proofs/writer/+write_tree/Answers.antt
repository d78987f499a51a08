use Rattle.std.proofs.Common.{◌≡◌, ◌++◌, ◌∷◌, [], ℤ, FitsSigned, subst, rules}
use Rattle.std.proofs.lemmas.Int.{to_z-of_z}
use Rattle.std.specs.Int.{w64}
use Rattle.cert_text.specs.Lines.{whole}
use Rattle.cert_text.proofs.WrittenLines.{lines_text, split_written, farkas_written, whole_written}
use Rattle.cert_text.proofs.writer.+write_tree.Goals as goal

pub returns-in_ok-write_tree-in-Split-2 : goal.returns-in_ok-write_tree-in-Split-2
returns-in_ok-write_tree-in-Split-2 t c =
    split_written c.args.tree.now c.in-Split.holds c.in-Split.fails c.deref.result.now c.deref-in-Split.result.now _ _ _ _ c.in-Split.is c.deref.ensures c.deref-in-Split.ensures
    c.in_ok-extend_from_slice-in-Split.ensures.items c.in_ok-write_tree-in-Split.ensures c.in_ok-write_tree-in-Split-2.ensures

pub returns-in_ok-push-in-Farkas-2 : goal.returns-in_ok-push-in-Farkas-2
returns-in_ok-push-in-Farkas-2 t c =
    farkas_written c.args.tree.now c.in-Farkas.multipliers c.deref-in-Farkas.result.now _ _ _ _ c.in-Farkas.is c.deref-in-Farkas.ensures.value
    c.in_ok-push-in-Farkas.ensures.items c.in_ok-write_multipliers-in-Farkas.ensures c.in_ok-push-in-Farkas-2.ensures.items

pub returns-in_ok-write_tree-in-Whole-2 : goal.returns-in_ok-write_tree-in-Whole-2
returns-in_ok-write_tree-in-Whole-2 t c =
    let fits : FitsSigned w64 c.in-Whole.bound = search rules in
    let P : ℤ → Type 0 = λ z. c.write_whole.new.text.items ≡ c.args.text.now.items ++ lines_text (whole c.in-Whole.variable z ∷ []) in
    whole_written c.args.tree.now c.in-Whole.variable c.in-Whole.bound c.in-Whole.most c.in-Whole.more c.deref-in-Whole.result.now c.deref-in-Whole-2.result.now _ _ _ _ c.in-Whole.is c.deref-in-Whole.ensures c.deref-in-Whole-2.ensures
    (subst P (to_z-of_z w64 c.in-Whole.bound fits) c.in_ok-write_whole-in-Whole.ensures) c.in_ok-write_tree-in-Whole.ensures c.in_ok-write_tree-in-Whole-2.ensures
