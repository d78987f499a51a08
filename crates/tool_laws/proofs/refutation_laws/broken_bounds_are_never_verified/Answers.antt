use Rattle.heyvl_acts.specs.Rules.{Each, MeetsRules}
use Rattle.static_rules.specs.Files.{file_findings, resolved}
use Rattle.tool_laws.proofs.exported.RunHeadline.{nothing_found}
use Rattle.tool_laws.proofs.refutation_laws.broken_bounds_are_never_verified.Goals as goal

pub returns : goal.returns
returns c file number none broken =
    let rules : Each (MeetsRules (resolved file)) (resolved file) = c.resolved_files_meet_the_rules.ensures.procedures file (nothing_found (file_findings file) none) in
    record {
      decided = λ answers made certs h verified. broken ((c.answers_keep_promises.ensures.decided (resolved file) answers made certs rules h).verified number verified);
      checked = λ certs answers h verified. broken ((c.answers_keep_promises.ensures.checked (resolved file) certs answers rules h).verified number verified);
    }
