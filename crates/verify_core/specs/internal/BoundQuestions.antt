-- The formulas of a proc with `@wlp` that have to be at most 1, and their goals.
use Rattle.std.specs.List.{AllZip}
use Rattle.std.specs.Prelude.{◌≡◌, ℕ, List, [], ◌∷◌, length}
use Rattle.heylo_formula.specs.BinderNames.{binders}
use Rattle.heylo_formula.specs.Formula.{Form}
use Rattle.heylo_formula.specs.PlainTrees.{form_of}
use Rattle.heylo_formula.specs.declared.goals.GoalId.{GoalId}
use Rattle.heylo_formula.specs.declared.goals.GoalId.TheVariants.{Pre, Post, Invariant}
use Rattle.heyvl_acts.specs.Acts.{Act, TypedProcedure, acts_in, variables}
use Rattle.heyvl_acts.specs.Places.{in_order}
use Rattle.goal_answers.specs.declared.named_goals.NamedGoal.{NamedGoal}
use Rattle.loop_encodings.specs.BoundGoals.{BoundGoal, goal_id}
use Rattle.verify_core.specs.Questions.{IsMadeOf, Question, one_bound, question}
use Rattle.verify_core.specs.declared.bound_questions.Asked as declared
use Rattle.heyvl_acts.specs.Rules.{AreNamed}

-- The name of a goal, and the formula that has to be at most 1.
abbrev pub Asked : Type 0
Asked = GoalId × Form

abbrev pub plain : declared.Asked → Asked
plain a = (a.id, form_of a.form)

-- The invariants of those of the acts that are loops, in their order.
abbrev pub asked_invariants : List Act → List Asked
asked_invariants [] = []
asked_invariants (Act.loop h b ∷ rest) = (Invariant h.number, h.inv) ∷ asked_invariants rest
asked_invariants (a ∷ rest) = asked_invariants rest

-- The pre, the post and the invariants, in this order.
abbrev pub asked : TypedProcedure → List Asked
asked p = (Pre, p.pre) ∷ ((Post, p.post) ∷ asked_invariants (in_order (acts_in p.body)))

-- The question of the goal that `a` names is whether its formula is at most 1. The binders of the
-- formula are named after the procedure's variables.
pub record IsAsked (ps : List TypedProcedure) (p : TypedProcedure) (a : Asked) : Type 0 where
  pub asks : (g : BoundGoal) → goal_id g ≡ a.0 → question ps p g ≡ one_bound p a.1
  pub named : AreNamed (length (variables p)) (binders a.1)

-- The name of a goal, and its question.
abbrev pub NamedQuestion : Type 0
NamedQuestion = GoalId × Question

-- The question whether the formula of `a` is at most 1, with the goal's name.
abbrev pub asked_question : TypedProcedure → Asked → NamedQuestion
asked_question p a = (a.0, one_bound p a.1)

-- The question of the goal `g` of the procedure's bound, with the goal's name.
abbrev pub own_question : List TypedProcedure → TypedProcedure → BoundGoal → NamedQuestion
own_question ps p g = (goal_id g, question ps p g)

-- `g` is the goal of the procedure with the number `p` that `q` names, made of the question of `q`.
pub record IsMadeFor (p : ℕ) (q : NamedQuestion) (g : NamedGoal) : Type 0 where
  pub proc : g.proc ≡ p
  pub id_of : g.id ≡ q.0
  pub made : IsMadeOf q.1 g.made

abbrev pub AreMadeFor : ℕ → List NamedQuestion → List NamedGoal → Type 0
AreMadeFor p qs gs = AllZip (IsMadeFor p) qs gs
