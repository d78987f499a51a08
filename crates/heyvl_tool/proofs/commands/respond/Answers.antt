use Rattle.heyvl_tool.proofs.commands.respond.Goals as goal
use Rattle.command_rules.specs.Responses.{reply_of}
use Rattle.command_rules.specs.commands.{IsReplyTo}
use Rattle.command_rules.specs.commands.Omega.{IsOmegaReply}
use Rattle.command_rules.specs.commands.Refute.{IsRefuteReply}
use Rattle.command_rules.specs.commands.Remainder.{IsRemainderReply}
use Rattle.command_rules.specs.commands.Run.{IsRunReply}
use Rattle.command_words.specs.declared.requests.Settings.{Settings}
use Rattle.std.proofs.Common.{IfOk, List, subst, sym, ◌∙◌, ◌≡◌, ℕ}

pub returns-in-Verify : goal.returns-in-Verify
returns-in-Verify c = subst (λ (s : Settings). IfOk c.respond.result (λ r. IsReplyTo s c.args.bytes.now c.args.second.now (reply_of r))) (sym c.in-Verify.is) c.respond.ensures

pub returns-in-Print : goal.returns-in-Print
returns-in-Print c = subst (λ (s : Settings). IfOk c.respond-in-Print.result (λ r. IsReplyTo s c.args.bytes.now c.args.second.now (reply_of r))) (sym c.in-Print.is) c.respond-in-Print.ensures

pub returns-in-Run : goal.returns-in-Run
returns-in-Run c =
    let named : c.as_bytes-name.result.now ≡ c.in-Run.procedure = c.as_bytes-name.ensures.value ∙ c.as_str.ensures in
    subst (λ (s : Settings). IfOk c.respond-in-Run.result (λ r. IsReplyTo s c.args.bytes.now c.args.second.now (reply_of r))) (sym c.in-Run.is)
    (subst (λ (n : List ℕ). IfOk c.respond-in-Run.result (λ r. IsRunReply n c.args.bytes.now c.args.second.now (reply_of r))) named c.respond-in-Run.ensures)

pub returns-in-Certify : goal.returns-in-Certify
returns-in-Certify c = subst (λ (s : Settings). IfOk c.respond-in-Certify.result (λ r. IsReplyTo s c.args.bytes.now c.args.second.now (reply_of r))) (sym c.in-Certify.is) c.respond-in-Certify.ensures

pub returns-in-Check : goal.returns-in-Check
returns-in-Check c = subst (λ (s : Settings). IfOk c.respond-in-Check.result (λ r. IsReplyTo s c.args.bytes.now c.args.second.now (reply_of r))) (sym c.in-Check.is) c.respond-in-Check.ensures

pub returns-in-Gen : goal.returns-in-Gen
returns-in-Gen c = subst (λ (s : Settings). IfOk c.respond-in-Gen.result (λ r. IsReplyTo s c.args.bytes.now c.args.second.now (reply_of r))) (sym c.in-Gen.is) c.respond-in-Gen.ensures

pub returns-in-Pgcl : goal.returns-in-Pgcl
returns-in-Pgcl c = subst (λ (s : Settings). IfOk c.respond-in-Pgcl.result (λ r. IsReplyTo s c.args.bytes.now c.args.second.now (reply_of r))) (sym c.in-Pgcl.is) c.respond-in-Pgcl.ensures

pub returns-in-Omega : goal.returns-in-Omega
returns-in-Omega c =
    let first : c.as_bytes-first.result.now ≡ c.in-Omega.procedure = c.as_bytes-first.ensures.value ∙ c.as_str-in-Omega.ensures in
    let second : c.as_bytes.result.now ≡ c.in-Omega.name = c.as_bytes.ensures.value ∙ c.as_str-in-Omega-2.ensures in
    subst (λ (s : Settings). IfOk c.respond-in-Omega.result (λ r. IsReplyTo s c.args.bytes.now c.args.second.now (reply_of r))) (sym c.in-Omega.is)
    (subst (λ (n : List ℕ). IfOk c.respond-in-Omega.result (λ r. IsOmegaReply n c.in-Omega.name c.args.bytes.now (reply_of r))) first
    (subst (λ (n : List ℕ). IfOk c.respond-in-Omega.result (λ r. IsOmegaReply c.as_bytes-first.result.now n c.args.bytes.now (reply_of r))) second c.respond-in-Omega.ensures))

pub returns-in-Remainder : goal.returns-in-Remainder
returns-in-Remainder c =
    let first : c.as_bytes-first-in-Remainder.result.now ≡ c.in-Remainder.procedure = c.as_bytes-first-in-Remainder.ensures.value ∙ c.as_str-in-Remainder.ensures in
    let second : c.as_bytes-in-Remainder.result.now ≡ c.in-Remainder.name = c.as_bytes-in-Remainder.ensures.value ∙ c.as_str-in-Remainder-2.ensures in
    subst (λ (s : Settings). IfOk c.respond-in-Remainder.result (λ r. IsReplyTo s c.args.bytes.now c.args.second.now (reply_of r))) (sym c.in-Remainder.is)
    (subst (λ (n : List ℕ). IfOk c.respond-in-Remainder.result (λ r. IsRemainderReply n c.in-Remainder.name c.args.bytes.now (reply_of r))) first
    (subst (λ (n : List ℕ). IfOk c.respond-in-Remainder.result (λ r. IsRemainderReply c.as_bytes-first-in-Remainder.result.now n c.args.bytes.now (reply_of r))) second c.respond-in-Remainder.ensures))

pub returns-in-Refute : goal.returns-in-Refute
returns-in-Refute c =
    let named : c.as_bytes-name-in-Refute.result.now ≡ c.in-Refute.procedure = c.as_bytes-name-in-Refute.ensures.value ∙ c.as_str-in-Refute.ensures in
    subst (λ (s : Settings). IfOk c.respond-in-Refute.result (λ r. IsReplyTo s c.args.bytes.now c.args.second.now (reply_of r))) (sym c.in-Refute.is)
    (subst (λ (n : List ℕ). IfOk c.respond-in-Refute.result (λ r. IsRefuteReply n c.args.bytes.now c.args.second.now (reply_of r))) named c.respond-in-Refute.ensures)
