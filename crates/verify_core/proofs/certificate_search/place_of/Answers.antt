use Rattle.std.proofs.Common.{rules, arith}
use Rattle.std.proofs.lemmas.List.Sorted.{IsPartitionPoint-from_clause}
use Rattle.cert_text.specs.Certificates.{precedes}
use Rattle.cert_text.specs.declared.goal_names.GoalName.{GoalName}
use Rattle.verify_core.specs.internal.CertificateAnswers.{name_of}
use Rattle.verify_core.proofs.CertOrder.{earlier_first}
use Rattle.verify_core.proofs.certificate_search.place_of.Goals as goal

pub returns : goal.returns
returns c =
    let n : GoalName = record { proc = c.args.proc; id = c.args.id } in
    let point = IsPartitionPoint-from_clause (λ x. precedes (name_of x) n) _ _ c.partition_point.ensures.partitioned (earlier_first c.args.certs.now n c.requires.order) (λ a r q k. search rules) in
    record { within = c.partition_point.ensures.bound; before = λ k d l. point.0 k d (omega arith) l; behind = λ k d l m. point.1 k d l m }
