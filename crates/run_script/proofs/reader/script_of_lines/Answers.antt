use Rattle.run_script.proofs.ReadSoFar.{begun_at, fault_at, fault_further, goes_further, line_behind_first}
use Rattle.run_script.proofs.reader.script_of_lines.Goals as goal
use Rattle.run_script.specs.Lines.{said}
use Rattle.run_script.specs.PlainScripts.{known_in, script_of}
use Rattle.run_script.specs.internal.ReadLines.{begun, gone_on}
use Rattle.std.proofs.Common.{List, None, Some, [], ap, arith, cond, drop, get_or, length, length-drop, option_map, refl, sym, take, ◌+◌, ◌-◌, ◌<◌, ◌∙◌, ◌≡◌, ℕ}
use Rattle.std.proofs.lemmas.List.{take_rest}
use Rattle.std.specs.Borrow.{Bor}

abbrev none : Bor (List ℕ)
none = record { ref_ptr = (0, 0); now = [] }

-- -
few : (lines : List (Bor (List ℕ))) (k : ℕ) → k < length (take (length lines - 1) (drop 1 lines)) → k + 1 < length lines
few lines k lt = let same = ap length (take_rest lines 1) in let size = length-drop 1 lines in omega (arith, lt, same, size)

pub returns-in_default-clause-fault : goal.returns-in_default-clause-fault
returns-in_default-clause-fault c =
    let lines = c.args.lines.now in
    let said_so : begun (said (get_or lines 0 none).now) ≡ None = sym c.in_ok-script.ensures ∙ ap (option_map script_of) c.in_default.is in
    fault_at (known_in c.args.known) lines (get_or lines 0 none) none c.requires.some refl said_so

pub loop-line-init : goal.loop-line-init
loop-line-init c =
    let lines = c.args.lines.now in
    let said_so : begun (said (get_or lines 0 none).now) ≡ Some (script_of c.in-Some.script) = sym c.in_ok-script.ensures ∙ ap (option_map script_of) c.in-Some.is in
    record { number = refl; so_far = begun_at (known_in c.args.known) (script_of c.in-Some.script) lines (get_or lines 0 none) none c.requires.some refl said_so }

pub returns-then-not-branch-clause-fault : goal.returns-then-not-branch-clause-fault
returns-then-not-branch-clause-fault c =
    let lines = c.args.lines.now in
    let k = c.loop-line.line-index in
    let line = get_or (take (length lines - 1) (drop 1 lines)) k none in
    let refused : gone_on (known_in c.args.known) (script_of c.loop-line.script) (said line.now) ≡ None = c.in_ok-read.ensures ∙ ap (λ b. cond b (Some (script_of c.read.new.self)) None) c.if-not-branch.true in
    let number : c.loop-line.number ≡ k + 1 + 1 = omega (arith, c.loop-line.invariant.number) in
    fault_further (known_in c.args.known) (script_of c.loop-line.script) lines (k + 1) c.loop-line.number line none (few lines k c.loop-line-test.true) (line_behind_first lines k none) c.loop-line.invariant.so_far refused number

pub loop-line-preserved : goal.loop-line-preserved
loop-line-preserved c =
    let lines = c.args.lines.now in
    let k = c.loop-line.line-index in
    let line = get_or (take (length lines - 1) (drop 1 lines)) k none in
    let kept : gone_on (known_in c.args.known) (script_of c.loop-line.script) (said line.now) ≡ Some (script_of c.read.new.self) = c.in_ok-read.ensures ∙ ap (λ b. cond b (Some (script_of c.read.new.self)) None) c.if-not-branch.false in
    record {
      number = omega (arith, c.loop-line.invariant.number);
      so_far = goes_further (known_in c.args.known) (script_of c.loop-line.script) (script_of c.read.new.self) lines (k + 1) line none (few lines k c.loop-line-test.true) (line_behind_first lines k none) c.loop-line.invariant.so_far kept;
    }
