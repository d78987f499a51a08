use Rattle.heyvl_acts.specs.PlainActs.{variable_of}
use Rattle.run_script.proofs.Feeds.{any_map}
use Rattle.run_script.proofs.scripts.Script.may_set.Goals as goal
use Rattle.run_script.specs.Scripts.{takes}
use Rattle.std.proofs.Common.{false, map, refl, sym, true, ◌∙◌, ◌≡◌}
use Rattle.std.specs.List.{list_any}

pub returns-then-some_takes : goal.returns-then-some_takes
returns-then-some_takes c =
    let taken : list_any (takes (record { name = c.args.name.now; value = c.args.value.now })) (map variable_of c.in-Some.variables.now) ≡ true = sym (any_map (takes (record { name = c.args.name.now; value = c.args.value.now })) variable_of c.in-Some.variables.now) ∙ sym c.some_takes.ensures ∙ c.if-some_takes.true in
    rw (c.in-Some.is, taken, c.is_set.ensures, c.deref.ensures.value) refl

pub returns-else-some_takes : goal.returns-else-some_takes
returns-else-some_takes c =
    let taken : list_any (takes (record { name = c.args.name.now; value = c.args.value.now })) (map variable_of c.in-Some.variables.now) ≡ false = sym (any_map (takes (record { name = c.args.name.now; value = c.args.value.now })) variable_of c.in-Some.variables.now) ∙ sym c.some_takes.ensures ∙ c.if-some_takes.false in
    rw (c.in-Some.is, taken, c.if-some_takes.false) refl
