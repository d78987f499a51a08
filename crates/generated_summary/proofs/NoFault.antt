-- A text without an error spells one file, and has no error.
use Rattle.generated_files.specs.Laws.{IsFaultless}
use Rattle.generated_files.specs.Texts.{generated_text}
use Rattle.command_rules.specs.Reports.{IsSummary}
use Rattle.command_rules.specs.Summaries.{summary}
use Rattle.goal_answers.specs.declared.named_goals.NamedGoal.{NamedGoal}
use Rattle.goal_answers.specs.declared.trees.GoalCert.{GoalCert}
use Rattle.heyvl_acts.specs.Acts.{TypedProcedure}
use Rattle.heyvl_acts.specs.PlainActs.{procedures_of}
use Rattle.heyvl_acts.specs.declared.typed_trees.Typed.{Typed}
use Rattle.spelled_files.specs.PrintLaws.{SpellingIsUnique}
use Rattle.spelled_files.specs.Sources.IsFileFault.{spelling, static}
use Rattle.spelled_files.specs.Sources.{IsFileFault, IsTypedSource}
use Rattle.heyvl_places.specs.declared.spans.Span.{Span}
use Rattle.heyvl_syntax.specs.Grammar.{Spells}
use Rattle.heyvl_syntax.specs.Procedures.{Procedure}
use Rattle.heyvl_syntax.specs.SourceFaults.{IsSource, SourcesHaveNoFault}
use Rattle.static_rules.specs.Files.{first_fault}
use Rattle.std.proofs.Common.{List, None, Option, Some, ap, length, subst, sym, ◌∙◌, ◌≡◌, ℕ}
use Rattle.typed_expressions.specs.Findings.{Finding}
use Rattle.verdict_report.specs.declared.answers.Answer.{Answer}
use Rattle.verify_core.specs.AnsweredProcedures.{AreAnswered}
use Rattle.verify_core.specs.Headline.{IsHeadline}

spelled : (bytes : List ℕ) (file : List Procedure) → IsSource bytes file → Spells bytes file
spelled bytes file is = record { tokens = is.tokens; lexes = is.lexes; is_file = is.is_file }

same_file : SpellingIsUnique → (bytes : List ℕ) (file other : List Procedure) → IsSource bytes file → IsSource bytes other → file ≡ other
same_file unique bytes file other is also = unique bytes file other (spelled bytes file is) (spelled bytes other also)

none_is_no_fault : (f : Finding) → ◌≡◌ {A = Option Finding} None (Some f) → ⊥
none_is_no_fault f e = cc

pub no_fault : SourcesHaveNoFault → SpellingIsUnique → (n : ℕ) (bytes : List ℕ) → IsFaultless n bytes → (number : ℕ) (place : Span) → IsFileFault bytes number place → ⊥
no_fault clean unique n bytes is number place (spelling fault) = clean bytes is.file number place is.source fault
no_fault clean unique n bytes is number place (static other also found) =
    none_is_no_fault (number, place) (sym is.none ∙ (ap first_fault (same_file unique bytes is.file other is.source also) ∙ found))

pub counted : SpellingIsUnique → (n : ℕ) (bytes : List ℕ) → IsFaultless n bytes → (other : List Procedure) → IsSource bytes other → length other ≡ n
counted unique n bytes is other also = ap length (same_file unique bytes other is.file also is.source) ∙ is.count

pub reported : SpellingIsUnique → (n : ℕ) (bytes lent : List ℕ) (typed : Typed) (answers lent_answers : List Answer) (made : List NamedGoal) (certs : List GoalCert) (text : List ℕ) →
    IsFaultless n (generated_text n) → lent ≡ bytes → bytes ≡ generated_text n → IsTypedSource lent typed →
    AreAnswered (procedures_of typed) answers made certs → IsHeadline (procedures_of typed) answers → lent_answers ≡ answers → text ≡ summary n lent_answers → IsSummary n answers text
reported unique n bytes lent typed answers lent_answers made certs text none is_lent is_text source answered headline same text_is =
    let all : lent ≡ generated_text n = is_lent ∙ is_text in
    let spells : IsSource (generated_text n) source.file = subst (λ (z : List ℕ). IsSource z source.file) all source.spelled in
    record {
      file = source.file;
      count = counted unique n (generated_text n) none source.file spells;
      spelled = spells;
      faultless = source.faultless;
      made = made;
      certs = certs;
      answered = subst (λ (ps : List TypedProcedure). AreAnswered ps answers made certs) source.same answered;
      headline = subst (λ (ps : List TypedProcedure). IsHeadline ps answers) source.same headline;
      text_is = text_is ∙ ap (summary n) same;
    }
