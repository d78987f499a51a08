-- The promised bounds on the runs of a procedure and of a loop with a ranking: they hold in every
-- initial state, under every scheduler and for every number of steps. This project's own.
use Rattle.std.specs.Prelude.{ℕ, Bool, List, [], ◌∷◌}
use Rattle.heyvl_num.specs.Rational.{Rational}
use Rattle.heyvl_num.specs.Value.{zeroᵛ, ◌*ᵛ◌, ◌≤ᵛ◌}
use Rattle.heyvl_num.specs.Value.Value.{finite}
use Rattle.heylo_formula.specs.State.{environment, IsTyped}
use Rattle.heylo_formula.specs.Choices.{Choices}
use Rattle.heylo_formula.specs.Formula.{Form}
use Rattle.heylo_formula.specs.Goals.{Compares}
use Rattle.heylo_formula.specs.Meaning.{value}
use Rattle.heylo_formula.specs.declared.values.Val.{Val}
use Rattle.heyvl_acts.specs.Acts.{Head, Acts, TypedProcedure, variables, type_list, procedure_at}
use Rattle.run_machine.specs.Configurations.{Item, Config, begin}
use Rattle.run_machine.specs.Scheduler.{Tree}
use Rattle.run_machine.specs.Runs.{runs}
use Rattle.run_machine.specs.Sums.{sum_of, turns_sum}

-- `IsState p s`: `s` has one value for each variable of the procedure `p`, of the variable's type.
abbrev pub IsState : TypedProcedure → List Val → Type 0
IsState p s = IsTyped (type_list (variables p)) s

-- `BoundBy up ps p`: in each initial state `s`, the pre of the procedure `p` bounds its runs of at
-- most `n` steps under each scheduler `t`. If `up` is true, their upper sum is at most the pre;
-- otherwise their weak sum is at least the pre. The pre is evaluated in `s`.
abbrev pub BoundBy : Bool → List TypedProcedure → ℕ → Type 0
BoundBy up ps p = (s : List Val) → IsState (procedure_at ps p) s → (n : ℕ) (t : Tree)
    → Compares up (value (procedure_at ps p).pre (environment s) Choices.stop)
    (sum_of up (procedure_at ps p).post (runs ps n (begin ps p s) t))

-- The bound of the procedure `p`: on the upper sums of a coproc, on the weak sums of a proc with
-- `@wlp`.
abbrev pub Bound : List TypedProcedure → ℕ → Type 0
Bound ps p = BoundBy (procedure_at ps p).co ps p

-- `at_test p h b s`: the configuration in the state `s` whose only item is the test of the loop
-- with the head `h` and the body `b`.
abbrev pub at_test : ℕ → Head → Acts → List Val → Config
at_test p h b s = record {
  procedure = p;
  items = Item.turn h b ∷ [];
  frames = [];
  state = s;
  reward = zeroᵛ;
  turns = λ n. 0;
}

-- `RankedBy ps p h b r`: from the loop's test on, in each state, the expected iterations of the
-- loop within `n` steps, times the step `r.0`, are at most the ranking `r.1` in the first state.
abbrev pub RankedBy : List TypedProcedure → ℕ → Head → Acts → Rational × Form → Type 0
RankedBy ps p h b r = (s : List Val) → IsState (procedure_at ps p) s → (n : ℕ) (t : Tree)
    → finite r.0 *ᵛ turns_sum h.number (runs ps n (at_test p h b s) t)
    ≤ᵛ value r.1 (environment s) Choices.stop
