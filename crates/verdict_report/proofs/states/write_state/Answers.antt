use Rattle.heylo_formula.specs.declared.values.Val.{Val}
use Rattle.std.proofs.Common.{List, ap, drop, length, rules, vec_len, ◌++◌, ◌∙◌, ◌≡◌, ℕ}
use Rattle.std.specs.Prelude.{not, ◌==◌, ◌||◌}
use Rattle.verdict_report.specs.Settings.{named_by, settings_text}
use Rattle.verdict_report.specs.States.{telling, valued}
use Rattle.verdict_report.specs.internal.Listings.{behind_text, is_some_setting}
use Rattle.verdict_report.proofs.StateTexts.{some_by_length, told_settings, untold_settings}
use Rattle.verdict_report.proofs.states.write_state.Goals as goal
use Rattle.verdict_report.proofs.states.write_state.Goals.{then-not-branch+in_ok-extend_from_slice, else-not-branch}

pub returns : goal.returns
returns c =
    let ps = valued c.args.state.now c.args.shown.now in
    let qs = telling c.args.own (drop c.args.own c.args.state.now) in
    let n = named_by c.args.names.now c.args.own in
    let len : vec_len c.in_ok-settings.settings ≡ length c.in_ok-settings.settings.items = search rules in
    let begun : not c.is_empty-begun.result ≡ is_some_setting ps = ap not c.is_empty-begun.ensures ∙ ap (λ (k : ℕ). not (k == 0)) len ∙ some_by_length c.in_ok-settings.settings.items ∙ ap is_some_setting c.in_ok-settings.ensures in
    let first = c.in_ok-write_settings.ensures ∙ ap (λ (xs : List (ℕ × Val)). c.args.text.now.items ++ settings_text n xs) (c.deref.ensures.value ∙ c.in_ok-settings.ensures) in
    let second = c.in_ok-write_telling.ensures.text ∙ ap (λ (vs : List Val). c.write_settings.new.text.items ++ behind_text (not c.is_empty-begun.result) n (telling c.args.own vs)) c.binders_of.ensures in
    let stands = c.in_ok-write_telling.ensures.begun ∙ ap (λ (vs : List Val). not c.is_empty-begun.result || is_some_setting (telling c.args.own vs)) c.binders_of.ensures in
    elim c.if-not-branch.branch [
      | then-not-branch+in_ok-extend_from_slice w ↦ ap (λ t. t.items) w.text-is ∙ untold_settings n ps qs _ _ _ _ _ _ begun first second w.in_ok-extend_from_slice.ensures.items stands w.if-not-branch.true
      | else-not-branch w ↦ ap (λ t. t.items) w.text-is ∙ told_settings n ps qs _ _ _ _ _ begun first second stands w.if-not-branch.false
    ]
