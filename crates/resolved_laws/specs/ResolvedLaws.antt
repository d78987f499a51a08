-- The laws of resolved trees: they satisfy the static rules, and the answer on a file is unique.
-- This project's own.
use Rattle.heyvl_acts.specs.PlainActs.{procedures_of}
use Rattle.heyvl_acts.specs.Rules.{Each, IsCounted, MeetsAllRules, MeetsRules}
use Rattle.heyvl_acts.specs.declared.typed_trees.Typed.{Typed}
use Rattle.heyvl_syntax.specs.Procedures.{Procedure}
use Rattle.static_rules.specs.ArmedFiles.{HasArms}
use Rattle.static_rules.specs.Files.{file_findings, resolved}
use Rattle.std.specs.Prelude.{Err, IfOk, List, Ok, Result, [], length, ⊤, ◌≡◌, ◌≤◌}
use Rattle.typed_expressions.specs.Answers.{Gives}
use Rattle.typed_expressions.specs.declared.stops.ResolveStop.{ResolveStop}

-- In a file without findings, each typed procedure satisfies the static rules.
abbrev pub ResolvedProceduresMeetRules : Type 0
ResolvedProceduresMeetRules = (ps : List Procedure) → file_findings ps ≡ []
    → Each (MeetsRules (resolved ps)) (resolved ps)

-- A typed file satisfies all static rules if it holds the typed procedures of a file without
-- findings, with at most 1,024 procedures and an arm in each `if`, and if its numbers are in range.
abbrev pub ResolvedFilesMeetRules : Type 0
ResolvedFilesMeetRules = (ps : List Procedure) (typed : Typed) → HasArms ps → file_findings ps ≡ []
    → length ps ≤ 1024 → procedures_of typed ≡ resolved ps → Each IsCounted typed.procs.items
    → MeetsAllRules typed

-- `IsAnswer ps result`: the clause `gives` of `resolve` holds for its result on the file `ps`.
abbrev pub IsAnswer : List Procedure → Result Typed ResolveStop → Type 0
IsAnswer ps result = Gives procedures_of result (file_findings ps) (resolved ps)

-- A typed file that `resolve` returns satisfies all static rules if it has at most 1,024 procedures
-- and numbers in range, and if each `if` of its file has an arm.
abbrev pub ResolvedTreesMeetRules : Type 0
ResolvedTreesMeetRules = (ps : List Procedure) (result : Result Typed ResolveStop) → HasArms ps
    → IsAnswer ps result → IfOk result (λ typed. Each IsCounted typed.procs.items)
    → IfOk result (λ typed. length typed.procs.items ≤ 1024 → MeetsAllRules typed)

-- `Agree a b`: both are typed files with equal plain trees, both are the same error, or one of them
-- says that memory ran out.
abbrev pub Agree : Result Typed ResolveStop → Result Typed ResolveStop → Type 0
Agree (Ok a) (Ok b) = procedures_of a ≡ procedures_of b
Agree (Ok a) (Err (ResolveStop.Fault n s)) = ⊥
Agree (Ok a) (Err (ResolveStop.Memory e)) = ⊤
Agree (Err (ResolveStop.Fault n s)) (Ok b) = ⊥
Agree (Err (ResolveStop.Fault n s)) (Err (ResolveStop.Fault m t)) = (n ≡ m) × (s ≡ t)
Agree (Err (ResolveStop.Fault n s)) (Err (ResolveStop.Memory e)) = ⊤
Agree (Err (ResolveStop.Memory e)) b = ⊤

-- Two results of `resolve` on one file agree.
abbrev pub ResolvingIsUnique : Type 0
ResolvingIsUnique = (ps : List Procedure) (a b : Result Typed ResolveStop) → IsAnswer ps a
    → IsAnswer ps b → Agree a b
