-- Every command may use the typed tree of a file that bytes spell.
use Rattle.heyvl_syntax.proofs.exported.InOrder.{tokens_few}
use Rattle.heyvl_syntax.specs.Procedures.{Procedure}
use Rattle.heyvl_syntax.specs.SourceFaults.{IsSource}
use Rattle.spelled_files.proofs.exported.FewProcedures.{few_typed}
use Rattle.spelled_files.specs.FileLaws.{FilesHaveSmallForms, FilesStandWithin}
use Rattle.spelled_files.specs.Sources.{IsReady, file_limit}
use Rattle.heyvl_acts.specs.Acts.{TypedProcedure}
use Rattle.resolved_laws.specs.ResolvedLaws.{IsAnswer}
use Rattle.heyvl_acts.specs.FormSizes.{FormsWithin}
use Rattle.heyvl_acts.specs.Rules.{Each, MeetsAllRules}
use Rattle.typed_expressions.specs.declared.stops.ResolveStop.{ResolveStop}
use Rattle.heyvl_acts.specs.declared.typed_trees.Typed.{Typed}
use Rattle.std.proofs.Common.{Err, List, Ok, arith, length, subst, sym, ◌≤◌, ℕ}
use Rattle.std.specs.Prelude.{IfOk, Result, ◌^◌}
use Rattle.heyvl_acts.specs.StandingParts.{StandsWithin}

pub is_ready : FilesHaveSmallForms → FilesStandWithin → (file : List Procedure) (result : Result Typed ResolveStop) → IsAnswer file result
    → IfOk result (λ t. length t.procs.items ≤ 1024 → MeetsAllRules t) → (bytes : List ℕ) → length bytes ≤ file_limit → IsSource bytes file → IfOk result (λ t. IsReady bytes t)
is_ready small stand file (Ok t) gives rules bytes short source = record {
  rules = rules (few_typed bytes file t source gives.1);
  small = subst (λ (ps : List TypedProcedure). Each (FormsWithin (2 ^ 27)) ps) (sym gives.1) (small file source.tokens source.is_file gives.0 (let l = tokens_few bytes source.tokens source.lexes in omega (arith, l, short)));
  stand = subst (λ (ps : List TypedProcedure). Each (StandsWithin (length bytes)) ps) (sym gives.1) (stand bytes source.tokens file source.lexes source.is_file);
}
is_ready small stand file (Err e) gives rules bytes short source = tt
