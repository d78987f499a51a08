use Rattle.std.proofs.Common.{ℕ, ◌∙◌, sym, ap}
use Rattle.std.specs.Option.{option_map}
use Rattle.linear_rows.proofs.FirstRows.{found_first}
use Rattle.linear_rows.proofs.occurrences.Occurrences.variable.Goals as goal

pub returns-in-Some-Some : goal.returns-in-Some-Some
returns-in-Some-Some c count rows h l =
    let e = c.in-Some-Some.ensures.lookup.1 in
    sym (ap (option_map (λ (f : ℕ × ℕ). f.0)) c.in-Some-Some.field-0-is) ∙ found_first count c.args.x rows c.args.self.now c.deref.result.now _ _ h l c.deref.ensures.value e

pub returns-in-Some-None : goal.returns-in-Some-None
returns-in-Some-None c count rows h l =
    let e = c.in-Some-None.ensures.lookup.1 in
    sym (ap (option_map (λ (f : ℕ × ℕ). f.0)) c.in-Some-None.field-0-is) ∙ found_first count c.args.x rows c.args.self.now c.deref.result.now _ _ h l c.deref.ensures.value e
