use mir.Syntax.{w64}
use Rattle.std.proofs.lemmas.Int.{to_z-of_z}
use Rattle.std.proofs.Common.{rules, FitsSigned, sym, ap, ◌∙◌, ◌++◌, ◌∷◌, []}
use Rattle.std.specs.Prelude.{None}
use Rattle.linear_elim.specs.internal.GatheredRows.{found_all, rows_all}
use Rattle.linear_elim.proofs.RowSplits.{signs_low, signs_up, signs_none, low_yes, low_no, up_yes, up_no, kept_no, kept_found, kept_rows}
use Rattle.linear_elim.proofs.steps.split_by.Goals as goal

pub loop-r-init : goal.loop-r-init
unfolding found_all rows_all
loop-r-init c = record { lows = c.new-lows.ensures.items; ups = c.new-ups.ensures.items; found = c.new-rest.ensures.found; rest = c.new-rest.ensures.rows; places = c.new-rest.ensures.places }

pub loop-r-preserved-in-Continue-1 : goal.loop-r-preserved-in-Continue-1
loop-r-preserved-in-Continue-1 c =
    let x : FitsSigned w64 c.coefficient_in-c.result = search rules in
    let h = simp to_z-of_z at c.if-c-lt0.true in
    let s = signs_low c.args.x c.in-Some.r _ c.coefficient_in-c.ensures h in
    record { lows = c.in_ok-push.ensures.items ∙ ap (λ ys. ys ++ c.in-Some.r ∷ []) c.loop-r.invariant.lows ∙ sym (low_yes c.args.x c.loop-r.yielded c.in-Some.r s); ups = c.loop-r.invariant.ups ∙ sym (up_no c.args.x c.loop-r.yielded c.in-Some.r s); found = c.loop-r.invariant.found ∙ ap (λ ds. found_all ds None) (sym (kept_no c.args.x c.loop-r.yielded c.in-Some.r s)); rest = c.loop-r.invariant.rest ∙ ap (λ ds. rows_all ds []) (sym (kept_no c.args.x c.loop-r.yielded c.in-Some.r s)); places = c.loop-r.invariant.places }

pub loop-r-preserved-in-Continue-branch-2 : goal.loop-r-preserved-in-Continue-branch-2
loop-r-preserved-in-Continue-branch-2 c =
    let x : FitsSigned w64 c.coefficient_in-c.result = search rules in
    let h = simp to_z-of_z at c.if-c-gt0.true in
    let s = signs_up c.args.x c.in-Some.r _ c.coefficient_in-c.ensures h in
    record { lows = c.loop-r.invariant.lows ∙ sym (low_no c.args.x c.loop-r.yielded c.in-Some.r s); ups = c.in_ok-push-2.ensures.items ∙ ap (λ ys. ys ++ c.in-Some.r ∷ []) c.loop-r.invariant.ups ∙ sym (up_yes c.args.x c.loop-r.yielded c.in-Some.r s); found = c.loop-r.invariant.found ∙ ap (λ ds. found_all ds None) (sym (kept_no c.args.x c.loop-r.yielded c.in-Some.r s)); rest = c.loop-r.invariant.rest ∙ ap (λ ds. rows_all ds []) (sym (kept_no c.args.x c.loop-r.yielded c.in-Some.r s)); places = c.loop-r.invariant.places }

pub loop-r-preserved : goal.loop-r-preserved
loop-r-preserved c =
    let x : FitsSigned w64 c.coefficient_in-c.result = search rules in
    let h = simp to_z-of_z at c.if-c-lt0.false in
    let k = simp to_z-of_z at c.if-c-gt0.false in
    let s = signs_none c.args.x c.in-Some.r _ c.coefficient_in-c.ensures h k in
    record { lows = c.loop-r.invariant.lows ∙ sym (low_no c.args.x c.loop-r.yielded c.in-Some.r s); ups = c.loop-r.invariant.ups ∙ sym (up_no c.args.x c.loop-r.yielded c.in-Some.r s); found = kept_found c.args.x c.loop-r.yielded c.in-Some.r _ _ s c.loop-r.invariant.found c.in_ok-put.ensures.found; rest = kept_rows c.args.x c.loop-r.yielded c.in-Some.r _ _ s c.loop-r.invariant.rest c.in_ok-put.ensures.rows; places = c.in_ok-put.ensures.places }
