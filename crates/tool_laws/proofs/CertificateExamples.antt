-- Worked replies of `certify` and `check`, for a file with one procedure, which has no body, and
-- for an empty text.
use Rattle.cert_text.specs.Certificates.{certificates_of}
use Rattle.cert_text.specs.Lines.{last, line_text, title}
use Rattle.cert_text.specs.Texts.AreFirstLines.{of_text}
use Rattle.cert_text.specs.Texts.{IsFirstFault, closed, goals_lines, version}
use Rattle.heyvl_num.specs.Value.{zeroᵛ}
use Rattle.heylo_formula.specs.Formula.{Form}
use Rattle.heylo_formula.specs.declared.goals.GoalId.{GoalId}
use Rattle.heylo_formula.specs.declared.goals.GoalId.TheVariants.{Main}
use Rattle.heylo_formula.specs.declared.values.Val.{Val}
use Rattle.heyvl_places.specs.declared.spans.Span.{Span}
use Rattle.heyvl_syntax.specs.Procedures.{Procedure}
use Rattle.heyvl_syntax.specs.SourceFaults.{IsSource, SourcesHaveNoFault}
use Rattle.tool_laws.proofs.ToldFaults.{static_told}
use Rattle.command_rules.specs.Messages.{Reply, answered, message}
use Rattle.spelled_files.specs.PrintLaws.{SpellingIsUnique}
use Rattle.command_rules.specs.commands.Certify.{IsCertification}
use Rattle.command_rules.specs.commands.Check.IsCheckedReply.{by_certificates, by_line}
use Rattle.command_rules.specs.commands.Check.{IsCheckReply, IsCheckReport, IsCheckedReply, certificate_fault}
use Rattle.command_rules.specs.declared.faults.Fault.TheVariants as faults
use Rattle.command_words.specs.declared.requests.Settings.TheVariants.{Check}
use Rattle.heyvl_acts.specs.Acts.{TypedProcedure, procedure_at}
use Rattle.heyvl_acts.specs.Program.{IsProgram}
use Rattle.static_rules.specs.Files.{first_fault}
use Rattle.std.proofs.lemmas.Bool.{false≢true}
use Rattle.std.proofs.Common.{List, None, Some, [], ap, arith, codes, length, map, refl, sym, true, false, ◌++◌, ◌∙◌, ◌∷◌, ◌≡◌, ℕ}
use Rattle.std.specs.Fmt.{digits}
use Rattle.std.specs.List.{Contains}
use Rattle.std.specs.Prelude.{Vec}
use Rattle.std.specs.declared.alloc.Global.{Global}
use Rattle.verdict_report.specs.Reports.{report_text}
use Rattle.verdict_report.specs.declared.answers.Answer.{Answer}
use Rattle.verdict_report.specs.declared.answers.LoopAnswer.{LoopAnswer}
use Rattle.verdict_report.specs.declared.answers.Verdict.TheVariants.{NoBody, NotVerified, Verified}
use Rattle.verdict_report.specs.declared.answers.Verdict.{Verdict}
use Rattle.verify_core.specs.Headline.{IsHeadline, says_proved}
use Rattle.verdict_report.specs.VerdictsOn.{IsVerdictOn}

-- ---- A file: `coproc f() -> ()`

abbrev file_bytes : List ℕ
file_bytes = codes "coproc f() -> ()\n"

abbrev f : TypedProcedure
f = record { name = codes "f"; co = true; weak = false; inputs = []; outputs = []; locals = []; pre = Form.number zeroᵛ; post = Form.number zeroᵛ; body = None; loops = 0; span = record { from = 0; to = 16 } }

abbrev file : List TypedProcedure
file = f ∷ []

-- ---- An invalid text of certificates

no_text_has_no_line : (next behind : List ℕ) → [] ≡ next ++ 10 ∷ behind → ⊥
no_text_has_no_line [] behind e = cc
no_text_has_no_line (b ∷ bs) behind e = cc

-- The empty text lacks the title.
empty_fault : IsFirstFault [] 1
empty_fault = record {
  before = [];
  rest = [];
  parts = refl;
  place = refl;
  allowed = of_text [] (codes "caesar certificate 1" ∷ codes "end" ∷ []) (record { growing = tt; each = tt }) refl;
  refused = λ next behind e lines. no_text_has_no_line next behind e;
  unfinished = λ cs spells. no_text_has_no_line (line_text (title (version cs))) (closed (map line_text (goals_lines cs ++ last ∷ []))) spells.text;
}

abbrev empty_reply : Reply
empty_reply = message (faults.Cert 1) (codes "certificate line 1: fault\n")

empty_is_told : IsCheckedReply file_bytes [] file empty_reply
unfolding digits
empty_is_told = by_line 1 empty_fault refl

empty_status : empty_reply.status ≡ 3
empty_status = refl

no_report_of_empty : (reply : Reply) → IsCheckReport file_bytes file [] reply → ⊥
no_report_of_empty reply report = empty_fault.unfinished (certificates_of report.certs) report.spelled

-- ---- A static error of FILE comes before an error of the certificates

-- If the bytes spell a file with a static error, it is reported, whatever the text of certificates
-- is.
static_only : SourcesHaveNoFault → SpellingIsUnique → (bytes text : List ℕ) (h : List Procedure) (number : ℕ) (place : Span) (reply : Reply) → IsSource bytes h → first_fault h ≡ Some (number, place) → IsCheckReply bytes text reply
    → reply.fault ≡ faults.Source number place
static_only clean unique bytes text h number place reply is first told =
    ap (λ (r : Reply). r.fault) (static_told clean unique (Check (codes "a") (codes "s")) bytes text h number place reply refl is first told)

not_a_certificate_fault : (number : ℕ) (place : Span) → faults.Cert 1 ≡ faults.Source number place → ⊥
not_a_certificate_fault number place e = cc

no_certificate_fault : SourcesHaveNoFault → SpellingIsUnique → (bytes text : List ℕ) (h : List Procedure) (number : ℕ) (place : Span) → IsSource bytes h → first_fault h ≡ Some (number, place) → IsCheckReply bytes text (certificate_fault 1) → ⊥
no_certificate_fault clean unique bytes text h number place is first told = not_a_certificate_fault number place (static_only clean unique bytes text h number place (certificate_fault 1) is first told)

-- ---- Reports and certificates of the file

-- The answers have no loops.
module _ (none : Vec LoopAnswer Global) (no_loops : none.items ≡ []) where
  answer : Verdict → Answer
  answer v = record { name = codes "f"; verdict = v; loops = none }

  abbrev one : Verdict → List Answer
  one v = answer v ∷ []

  only : (x y : Answer) (before behind : List Answer) → x ∷ [] ≡ before ++ (y ∷ behind) → y ≡ x
  only x y [] behind e = cc
  only x y (b ∷ []) behind e = cc
  only x y (b ∷ (c ∷ more)) behind e = cc

  verdict_is : (v w : Verdict) (p : ℕ) → IsVerdictOn (one v) p w → v ≡ w
  unfolding answer
  verdict_is v w p on = sym (ap (λ (x : Answer). x.verdict) (only (answer v) on.answer on.before on.behind on.all)) ∙ on.verdict

  none_listed : (line : LoopAnswer) (items : List LoopAnswer) → items ≡ [] → Contains items line → ⊥
  none_listed line items e (k, inside, is) = let few = ap length e in omega (arith, few, inside)

  not_verified : NoBody ≡ Verified → ⊥
  not_verified e = cc

  not_falsified : (id : GoalId) (state : Vec Val Global) → NoBody ≡ NotVerified id state → ⊥
  not_falsified id state e = cc

  -- The verdict that there is no body promises nothing.
  promises_nothing : IsHeadline file (one NoBody)
  unfolding answer
  promises_nothing = record {
    verified = λ p on. absurd (not_verified (verdict_is NoBody Verified p on));
    ranked = λ p n on. absurd (none_listed on.line on.answer.loops.items (ap (λ (x : Answer). x.loops.items) (only (answer NoBody) on.answer on.before on.behind on.all) ∙ no_loops) on.listed);
    falsified = λ p state on program straight. absurd (not_falsified Main state (verdict_is NoBody (NotVerified Main state) p on));
    proved = λ p v on e. absurd (false≢true (ap says_proved (verdict_is NoBody v p on) ∙ e));
    shown = λ p id state on. absurd (not_falsified id state (verdict_is NoBody (NotVerified id state) p on));
    unranked = λ p n state on. absurd (none_listed on.line on.answer.loops.items (ap (λ (x : Answer). x.loops.items) (only (answer NoBody) on.answer on.before on.behind on.all) ∙ no_loops) on.listed);
    as_shown = λ p id state on. absurd (not_falsified id state (verdict_is NoBody (NotVerified id state) p on));
    unranked_as_shown = λ p n state on. absurd (none_listed on.line on.answer.loops.items (ap (λ (x : Answer). x.loops.items) (only (answer NoBody) on.answer on.before on.behind on.all) ∙ no_loops) on.listed);
  }

  -- `certify` writes the title and the end.
  certified : IsCertification file (answered (one NoBody) (codes "caesar certificate 1\nend\n"))
  unfolding answer
  certified = record {
    made = [];
    certs = [];
    are_answers =
        record {
          table = [] ∷ [];
          ranks = [] ∷ [];
          decided = (tt, tt);
          ranks_decided = (tt, tt);
          answers_of = (record { name = refl; verdict = refl; loops = no_loops }, tt);
          made_of = refl;
          certs_of = refl;
        };
    headline = promises_nothing;
    is_reply = refl;
  }

  -- `certify` does not report the procedure as verified.
  has_no_program : IsProgram (procedure_at file 0) → ⊥
  has_no_program e = cc

  not_certified : (output : List ℕ) → IsCertification file (answered (one Verified) output) → ⊥
  unfolding answer
  not_certified output made = has_no_program made.are_answers.answers_of.0.verdict.0.program

  -- `check` writes the report of the same answers.
  abbrev reported : Reply
  reported = answered (one NoBody) (codes "f: no body\n1 procedures\n")

  report_is : report_text file_bytes file (one NoBody) [] ≡ codes "f: no body\n1 procedures\n"
  unfolding answer digits
  report_is = rw no_loops refl

  checked : IsCheckedReply file_bytes (codes "caesar certificate 1\nend\n") file reported
  unfolding answer
  checked = by_certificates (record {
    certs = [];
    spelled = record { writable = record { growing = tt; each = tt }; text = refl };
    checked =
        record {
          table = [] ∷ [];
          ranks = [] ∷ [];
          checked = (tt, tt);
          ranks_checked = (tt, tt);
          answers_of = (record { name = refl; verdict = refl; loops = no_loops }, tt);
        };
    headline = promises_nothing;
    is_reply = ap (answered (one NoBody)) (sym report_is);
  })

  checked_status : reported.status ≡ 0
  unfolding answer
  checked_status = rw no_loops refl
