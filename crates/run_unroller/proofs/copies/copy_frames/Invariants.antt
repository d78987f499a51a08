use Rattle.std.proofs.Common.{◌≡◌, ◌++◌, drop, map}
use Rattle.run_machine.specs.Names.{lists_of}
use Rattle.run_unroller.proofs.copies.copy_frames.Given as goal

abbrev pub invariant-loop-frame : goal.invariant-loop-frame
invariant-loop-frame l = map lists_of l.copied.items ++ map lists_of (drop l.frame-index l.frames) ≡ map lists_of l.frames
