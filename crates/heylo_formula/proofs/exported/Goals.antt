-- For the proofs of other crates: what goals depend on, and the states that they quantify over.
use Rattle.std.proofs.Common.{◌≡◌, ◌<◌, ℕ, sym, subst, true}
use Rattle.std.specs.Prelude.{length}
use Rattle.heylo_formula.specs.State.{Env, has, environment, listed}
use Rattle.heylo_formula.specs.Choices.{Choices}
use Rattle.heylo_formula.specs.Meaning.{value}
use Rattle.heylo_formula.specs.Typing.{types_in}
use Rattle.heylo_formula.specs.Goals.{Goal, Compares, Holds, HoldsIn}
use Rattle.heylo_formula.specs.TypedGoals.{HasItsVariables}
use Rattle.heylo_formula.proofs.exported.Agreement.{same_on}
use Rattle.heylo_formula.proofs.exported.States.{env_typed, listed_same, listed_typed}

pub goal_reads : (g : Goal) (s t : Env) → HasItsVariables g → ((x : ℕ) → x < length g.types → s x ≡ t x) → HoldsIn g s → HoldsIn g t
goal_reads g s t v e h = subst (λ f. Compares g.upper (value g.stated t Choices.stop) f) found (subst (λ f. Compares g.upper f (value g.found s Choices.stop)) stated h)
  where
    stated : value g.stated s Choices.stop ≡ value g.stated t Choices.stop
    stated = same_on g.stated s t Choices.stop (λ x k. e x (v.stated x k))

    found : value g.found s Choices.stop ≡ value g.found t Choices.stop
    found = same_on g.found s t Choices.stop (λ x k. e x (v.found x k))

pub goal_everywhere : (g : Goal) → HasItsVariables g → Holds g → (s : Env) → ((x : ℕ) → x < length g.types → has (types_in g.types x) (s x) ≡ true) → HoldsIn g s
goal_everywhere g v h s t = goal_reads g (environment (listed (length g.types) s)) s v (λ x l. sym (listed_same (length g.types) s x l)) (h (listed (length g.types) s) (listed_typed g.types s t))

pub goal_on_lists : (g : Goal) → ((s : Env) → ((x : ℕ) → x < length g.types → has (types_in g.types x) (s x) ≡ true) → HoldsIn g s) → Holds g
goal_on_lists g h s t = h (environment s) (λ x l. (env_typed g.types s t).typed x)
