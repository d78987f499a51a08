use Rattle.heyvl_syntax.specs.Procedures.{Procedure}
use Rattle.resolved_laws.proofs.laws.resolved_files_meet_the_rules.Goals as goal
use Rattle.heyvl_acts.proofs.exported.ArmedActs.{IsFew, few_armed, few_each}
use Rattle.resolved_laws.proofs.ArmedTrees.{procedure_armed}
use Rattle.resolved_laws.proofs.NamedPosts.{post_named}
use Rattle.static_rules.specs.ArmedFiles.{HasArms}
use Rattle.resolved_laws.proofs.Bodies.{binders_kept, directions_kept, each_act, loops_kept, numbers_kept, scopes_kept}
use Rattle.resolved_laws.proofs.Calls.{AreCallees, callees}
use Rattle.resolved_laws.proofs.Clauses.{post_directed, post_formula, post_over, pre_held, pre_over}
use Rattle.resolved_laws.proofs.Heads.{IsClean, all_clean, few_parameters, few_statements, few_variables, length_parameters}
use Rattle.resolved_laws.proofs.Targets.{own}
use Rattle.resolved_laws.proofs.TypedActs.{typed_locally}
use Rattle.resolved_laws.proofs.Weights.{weighs}
use Rattle.heyvl_acts.specs.Acts.{variables}
use Rattle.static_rules.specs.Files.{file_findings, is_wlp, resolved, setting, typed}
use Rattle.heyvl_acts.specs.PlainActs.{procedure_of}
use Rattle.heyvl_acts.specs.Rules.{Each, HasFewActs, HasNamedBinders, HasOwnTargets, IsTypedAct, MeetsRules, WeighsOne}
use Rattle.typed_expressions.specs.Signatures.{called}
use Rattle.std.proofs.Common.{List, [], ap, arith, length, map, subst, sym, ◌∷◌, ◌≡◌}
use Rattle.std.proofs.lemmas.List.{length-map}
use Rattle.std.proofs.lemmas.Bool.{and_parts, not-true}
use Rattle.std.specs.Prelude.{not}

meets : (ps : List Procedure) (p : Procedure) → AreCallees (called ps) (resolved ps) → IsClean (called ps) p → MeetsRules (resolved ps) (typed (called ps) p)
meets ps p callees k = record {
  few_parameters = few_parameters (called ps) p k;
  few_variables = few_variables (called ps) p k;
  few_statements = few_statements (called ps) p k;
  weak_is_proc = λ e. not-true p.co (and_parts (is_wlp p.note) (not p.co) e).1;
  pre = pre_held (called ps) p k;
  pre_over = pre_over (called ps) p k;
  post = post_formula (called ps) p k;
  post_over = post_over (called ps) p k;
  post_directed = post_directed (called ps) p k;
  targets = each_act ps p k (HasOwnTargets (typed (called ps) p)) (own (typed (called ps) p) (setting p) (called ps) (sym (length_parameters p.inputs)));
  typed = each_act ps p k (IsTypedAct (resolved ps) (typed (called ps) p)) (typed_locally (resolved ps) (typed (called ps) p) (setting p) (called ps) callees);
  weights = each_act ps p k WeighsOne (weighs (variables (typed (called ps) p)) (setting p) (called ps));
  directions = directions_kept ps p k callees;
  binders = binders_kept ps p k;
  scopes = scopes_kept ps p k;
  loops = loops_kept ps p k;
  numbered = numbers_kept ps p k;
}

each_meets : (ps qs : List Procedure) → AreCallees (called ps) (resolved ps) → Each (IsClean (called ps)) qs → Each (MeetsRules (resolved ps)) (map (typed (called ps)) qs)
each_meets ps [] c k = tt
each_meets ps (q ∷ qs) c k = (meets ps q c k.0, each_meets ps qs c k.1)

procedures_meet : (ps : List Procedure) → file_findings ps ≡ [] → Each (MeetsRules (resolved ps)) (resolved ps)
procedures_meet ps e = let k = all_clean (called ps) [] ps e in each_meets ps ps (callees ps k) k

named : (ps qs : List Procedure) → Each (IsClean (called ps)) qs → Each HasNamedBinders (map (typed (called ps)) qs)
named ps [] k = tt
named ps (q ∷ qs) k = (post_named (called ps) q k.0, named ps qs k.1)

few : (ps qs : List Procedure) → HasArms qs → Each (MeetsRules (resolved ps)) (map (typed (called ps)) qs) → Each IsFew (map (typed (called ps)) qs)
few ps [] a k = tt
few ps (q ∷ qs) a k = (few_armed (typed (called ps) q) (procedure_armed (called ps) q a.0) k.0.loops k.0.few_statements, few ps qs a.1 k.1)

pub returns-clause-procedures : goal.returns-clause-procedures
returns-clause-procedures c = procedures_meet

pub returns-clause-files : goal.returns-clause-files
returns-clause-files c = λ ps t armed e few_procs is counted. record {
  few = let l = ap length is in omega (arith, few_procs, l, length-map ps (typed (called ps)), length-map t.procs.items procedure_of);
  counted = counted;
  each = subst (λ rs. Each (MeetsRules rs) rs) (sym is) (procedures_meet ps e);
  named = subst (Each HasNamedBinders) (sym is) (named ps ps (all_clean (called ps) [] ps e));
  few_acts = subst HasFewActs (sym is) (few_each (resolved ps) (few ps ps armed (procedures_meet ps e)));
}
