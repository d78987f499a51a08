-- What the answers on a file promise about its runs. This project's own.
use Rattle.std.specs.Prelude.{◌≡◌, ◌≤◌, ℕ, Bool, true, false, List, length, take, Vec}
use Rattle.std.specs.declared.alloc.Global.{Global}
use Rattle.heylo_formula.specs.declared.goals.GoalId.{GoalId}
use Rattle.heylo_formula.specs.declared.goals.GoalId.TheVariants.{Main}
use Rattle.heylo_formula.specs.declared.values.Val.{Val}
use Rattle.heyvl_acts.specs.Acts.{TypedProcedure, variables, acts_in, procedure_at}
use Rattle.heyvl_acts.specs.Length.{length_of}
use Rattle.heyvl_acts.specs.Places.{in_order}
use Rattle.heyvl_acts.specs.Program.{IsProgram}
use Rattle.heyvl_acts.specs.Rules.{Each}
use Rattle.loop_encodings.specs.BoundGoals.{BoundGoal, BoundGoalsHold, GoalFails, goal_id}
use Rattle.loop_encodings.specs.BoundGoals.{goal_variables}
use Rattle.bounded_runs.specs.Law.{IsBroken}
use Rattle.heyvl_acts.specs.Straight.{IsStraight}
use Rattle.ranking_rule.specs.RankingGoals as ranking
use Rattle.ranking_rule.specs.Rankings.{IsNoRanking, IsRanking, RankedLoop}
use Rattle.region_split.specs.Meanings.{Fails}
use Rattle.run_machine.specs.Bound.{Bound, IsState, RankedBy}
use Rattle.verdict_report.specs.declared.answers.Answer.{Answer}
use Rattle.verdict_report.specs.declared.answers.RankVerdict.TheVariants.{NotRanked, Ranked}
use Rattle.verdict_report.specs.declared.answers.Verdict.{Verdict}
use Rattle.verdict_report.specs.declared.answers.Verdict.TheVariants.{Verified, Valid, NotVerified}
use Rattle.verdict_report.specs.declared.answers.Verdict.TheVariants.{Unknown, Unchecked}
use Rattle.verdict_report.specs.declared.answers.Verdict.TheVariants.{Conditional, NoBody}
use Rattle.verdict_report.specs.VerdictsOn.{IsVerdictOn, IsVerdictOnLoop}
use Rattle.verify_core.specs.Questions as questions

-- Each procedure that is verified has its bound over all runs, from every initial state, under
-- every scheduler and for every n. For a coproc, reward and post over runs of at most n steps,
-- weighted exactly, are at most its pre. For a proc with `@wlp`, post over these runs, plus the
-- mass not yet terminated, is at least its pre.
abbrev pub VerifiedBoundsHold : List TypedProcedure → List Answer → Type 0
VerifiedBoundsHold ps answers = (p : ℕ) → IsVerdictOn answers p Verified → Bound ps p

-- Whether the verdict implies that all goals of the bound are proved. These goals depend on neither
-- the procedure's kind nor the procedures that it reaches.
abbrev pub says_proved : Verdict → Bool
says_proved Verified = true
says_proved (Valid why) = true
says_proved (Conditional q) = true
says_proved (NotVerified id s) = false
says_proved (Unknown id cause) = false
says_proved (Unchecked id miss) = false
says_proved NoBody = false

-- If the verdict on a procedure implies that its goals are proved, the goals of its bound hold, for
-- every state and all choices.
abbrev pub ProvedGoalsHold : List TypedProcedure → List Answer → Type 0
ProvedGoalsHold ps answers = (p : ℕ) (v : Verdict) → IsVerdictOn answers p v → says_proved v ≡ true
    → BoundGoalsHold ps (procedure_at ps p)

-- `IsFalsifiedIn ps p id s`: `id` names a goal of the bound of the procedure with the number `p`.
-- The first values of `s` are a state of the procedure, and the goal fails in it by the meaning of
-- formulas. If it is the main goal, the values that follow in `s` are those of its fresh variables.
pub record IsFalsifiedIn (ps : List TypedProcedure) (p : ℕ) (id : GoalId) (s : List Val)
    : Type 0 where
  pub goal : BoundGoal
  pub id_of : goal_id goal ≡ id
  pub state : IsState (procedure_at ps p) (take (length (variables (procedure_at ps p))) s)
  pub fails : GoalFails ps (procedure_at ps p) goal
      (take (length (goal_variables ps (procedure_at ps p) goal)) s)

-- Each goal that is reported as not verified fails in the state that is shown.
abbrev pub ShownStatesFalsify : List TypedProcedure → List Answer → Type 0
ShownStatesFalsify ps answers = (p : ℕ) (id : GoalId) (s : Vec Val Global)
    → IsVerdictOn answers p (NotVerified id s) → IsFalsifiedIn ps p id s.items

-- `IsFalseAsShown ps p id s`: `id` names a goal of the bound of the procedure with the number `p`.
-- With a variable in place of each binder, the goal is false for the values `s`: those of the
-- goal's variables, then one for each binder, in the order of the text.
pub record IsFalseAsShown (ps : List TypedProcedure) (p : ℕ) (id : GoalId) (s : List Val)
    : Type 0 where
  pub goal : BoundGoal
  pub id_of : goal_id goal ≡ id
  pub fails : Fails (questions.goal (questions.question ps (procedure_at ps p) goal)) s

-- Each goal that is reported as not verified is false with the values that are shown, also those of
-- binders.
abbrev pub ShownValuesFalsify : List TypedProcedure → List Answer → Type 0
ShownValuesFalsify ps answers = (p : ℕ) (id : GoalId) (s : Vec Val Global)
    → IsVerdictOn answers p (NotVerified id s) → IsFalseAsShown ps p id s.items

-- `IsBrokenFrom ps p s`: `s` is an initial state of the procedure with the number `p`. From `s`,
-- for each number of steps that is at least the length of the body, some scheduler violates the
-- procedure's bound.
pub record IsBrokenFrom (ps : List TypedProcedure) (p : ℕ) (s : List Val) : Type 0 where
  pub state : IsState (procedure_at ps p) s
  pub broken : (n : ℕ) → length_of (acts_in (procedure_at ps p).body) ≤ n → IsBroken ps p s n

-- If the procedure is a program without loops and calls and its bound is reported as not verified,
-- the bound is violated from the state that is shown.
abbrev pub FalsifiedBoundsBreak : List TypedProcedure → List Answer → Type 0
FalsifiedBoundsBreak ps answers = (p : ℕ) (s : Vec Val Global)
    → IsVerdictOn answers p (NotVerified Main s) → IsProgram (procedure_at ps p)
    → Each IsStraight (in_order (acts_in (procedure_at ps p).body))
    → IsBrokenFrom ps p (take (length (variables (procedure_at ps p))) s.items)

-- `IsRankedLoop ps p n`: the loop with the number `n` of the procedure with the number `p` has a
-- ranking whose goal holds for every state and all choices. The ranking bounds the loop's
-- iterations: from every state of the procedure, under every scheduler and for every number of
-- steps, the expected iterations of the loop alone within these steps, times the ranking's step,
-- are at most the ranking. The procedure may be no program, and it may be not verified.
pub record IsRankedLoop (ps : List TypedProcedure) (p n : ℕ) : Type 0 where
  pub loop : RankedLoop (procedure_at ps p) n
  pub ranking : IsRanking (procedure_at ps p) loop.head loop.body loop.rank
  pub turns : RankedBy ps p loop.head loop.body loop.rank

-- Each loop that is reported as ranked has a ranking that bounds its iterations.
abbrev pub RankedLoopsAreBounded : List TypedProcedure → List Answer → Type 0
RankedLoopsAreBounded ps answers = (p n : ℕ) → IsVerdictOnLoop answers p n Ranked
    → IsRankedLoop ps p n

-- `IsUnrankedIn ps p n s`: the loop with the number `n` of the procedure with the number `p` has a
-- ranking, and the goal of the ranking fails in the state that the first values of `s` are.
pub record IsUnrankedIn (ps : List TypedProcedure) (p n : ℕ) (s : List Val) : Type 0 where
  pub loop : RankedLoop (procedure_at ps p) n
  pub fails : IsNoRanking (procedure_at ps p) loop.head loop.body loop.rank
      (take (length (variables (procedure_at ps p))) s)

-- Each ranking that is reported as failing fails in the state that is shown.
abbrev pub ShownStatesUnrank : List TypedProcedure → List Answer → Type 0
ShownStatesUnrank ps answers = (p n : ℕ) (s : Vec Val Global)
    → IsVerdictOnLoop answers p n (NotRanked s) → IsUnrankedIn ps p n s.items

-- `IsUnrankedAsShown ps p n s`: the loop with the number `n` of the procedure with the number `p`
-- has a ranking. With a variable in place of each binder, the goal of the ranking is false for the
-- values `s`: those of the procedure's variables, then one for each binder.
--
-- For example, the loop `while 0 < x { x = x }` over a UInt `x` has the ranking `x` with the step
-- 1. Its goal is false for the value 1, since 1 is less than 1 + 1.
pub record IsUnrankedAsShown (ps : List TypedProcedure) (p n : ℕ) (s : List Val) : Type 0 where
  pub loop : RankedLoop (procedure_at ps p) n
  pub fails : Fails (ranking.goal (procedure_at ps p) loop.head loop.body loop.rank) s

-- Each ranking that is reported as failing has a goal that is false for the values that are shown,
-- also those of binders.
abbrev pub ShownValuesUnrank : List TypedProcedure → List Answer → Type 0
ShownValuesUnrank ps answers = (p n : ℕ) (s : Vec Val Global)
    → IsVerdictOnLoop answers p n (NotRanked s) → IsUnrankedAsShown ps p n s.items

-- All promises together: verified bounds, ranked loops, violated bounds, proved goals, and states
-- that are shown.
pub record IsHeadline (ps : List TypedProcedure) (answers : List Answer) : Type 0 where
  pub verified : VerifiedBoundsHold ps answers
  pub ranked : RankedLoopsAreBounded ps answers
  pub falsified : FalsifiedBoundsBreak ps answers
  pub proved : ProvedGoalsHold ps answers
  pub shown : ShownStatesFalsify ps answers
  pub unranked : ShownStatesUnrank ps answers
  pub as_shown : ShownValuesFalsify ps answers
  pub unranked_as_shown : ShownValuesUnrank ps answers
