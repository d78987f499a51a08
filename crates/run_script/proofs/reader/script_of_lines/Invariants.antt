use Rattle.run_script.proofs.reader.script_of_lines.Given as goal
use Rattle.run_script.specs.PlainScripts.{known_in, script_of}
use Rattle.run_script.specs.Scripts.{AreLinesOf}
use Rattle.run_script.specs.internal.ReadLines.{bytes_of}
use Rattle.std.proofs.Common.{take, ◌+◌, ◌≡◌}

abbrev pub invariant-loop-line : goal.invariant-loop-line
invariant-loop-line l = record {
  number : l.number ≡ l.line-index + 2;
  so_far : AreLinesOf (known_in l.known) (script_of l.script) (bytes_of (take (l.line-index + 1) l.lines));
}
