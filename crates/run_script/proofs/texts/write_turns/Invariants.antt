use Rattle.run_script.proofs.texts.write_turns.Given as goal
use Rattle.run_script.specs.Texts.{turns_text}
use Rattle.std.proofs.Common.{drop, ◌+◌, ◌++◌, ◌≡◌}

abbrev pub invariant-loop-expected : goal.invariant-loop-expected
invariant-loop-expected l = record {
  number : l.number ≡ l.expected-index + 1;
  same : l.text.items ++ turns_text l.number (drop l.expected-index l.turns) ≡ l.fn.text.items ++ turns_text 1 l.turns;
}
