-- The result of reading a text that spells a script or has a first invalid line.
use Rattle.run_script.proofs.FirstFaults.{no_fault, same_fault}
use Rattle.run_script.proofs.NextLines.{same_lines}
use Rattle.run_script.specs.PlainScripts.{script_of}
use Rattle.run_script.specs.Scripts as scripts
use Rattle.run_script.specs.Scripts.{AreLinesOf, IsFirstFaultOf, Known}
use Rattle.run_script.specs.Stops.{IsFaultOrMemory, IsMemory}
use Rattle.run_script.specs.declared.scripts.Script.{Script}
use Rattle.run_script.specs.declared.stops.ScriptStop.TheVariants.{Fault, Memory}
use Rattle.run_script.specs.declared.stops.ScriptStop.{ScriptStop}
use Rattle.run_script.specs.internal.ReadLines.{IsStopOf}
use Rattle.std.proofs.Common.{List, ◌≡◌, ℕ}
use Rattle.std.specs.Prelude.{IfErr, IfOk, MatchResult, Result}

pub is_script : (known : Known) (lines : List (List ℕ)) (r : Result Script ScriptStop) → IfOk r (λ script. AreLinesOf known (script_of script) lines) → IfErr r (λ stop. IsStopOf known lines stop)
    → (s : scripts.Script) → AreLinesOf known s lines → MatchResult r (λ script. script_of script ≡ s) (λ stop. IsMemory stop)
is_script known lines (Result.Ok script) found fault s h = same_lines known (script_of script) s lines found h
is_script known lines (Result.Err (Fault line)) found fault s h = no_fault known s lines line h fault
is_script known lines (Result.Err (Memory error)) found fault s h = tt

pub is_fault : (known : Known) (lines : List (List ℕ)) (r : Result Script ScriptStop) → IfOk r (λ script. AreLinesOf known (script_of script) lines) → IfErr r (λ stop. IsStopOf known lines stop)
    → (line : ℕ) → IsFirstFaultOf known lines line → MatchResult r (λ script. ⊥) (λ stop. IsFaultOrMemory line stop)
is_fault known lines (Result.Ok script) found fault line h = no_fault known (script_of script) lines line found h
is_fault known lines (Result.Err (Fault other)) found fault line h = same_fault known lines other line fault h
is_fault known lines (Result.Err (Memory error)) found fault line h = tt
