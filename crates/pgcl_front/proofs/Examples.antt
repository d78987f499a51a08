-- Worked sums of programs and of their coprocs, computed by the definitions.
use Rattle.pgcl_front.specs.GuardedRuns.{guarded_runs, program_sum}
use Rattle.heylo_formula.specs.declared.values.Val.TheVariants.{Num, Truth}
use Rattle.heylo_formula.specs.declared.values.Val.{Val}
use Rattle.heyvl_acts.specs.Acts.{procedure_at}
use Rattle.heyvl_num.specs.Gcd.{gcd, gcd_steps}
use Rattle.heyvl_num.specs.Rational.{leqʳ, negʳ, oneʳ, ratio, zeroʳ, ◌*ʳ◌, ◌+ʳ◌, ◌-ʳ◌}
use Rattle.heyvl_num.specs.Value.Value.{finite, infinite}
use Rattle.heyvl_num.specs.Value.{Value, infinite_times, is_zeroʳ, leqᵛ, oneᵛ, zeroᵛ, ◌*ᵛ◌, ◌+ᵛ◌}
use Rattle.heyvl_num.specs.ValueOperators.{minᵛ}
use Rattle.heyvl_num.specs.WeightedSums.{scaled, weighted_sum}
use Rattle.heyvl_places.specs.declared.spans.Span.{Span}
use Rattle.heyvl_syntax.specs.Expressions.{Expression}
use Rattle.heyvl_syntax.specs.Procedures.{Procedure}
use Rattle.heyvl_syntax.specs.declared.operators.BinaryOp.TheVariants as ops
use Rattle.static_rules.specs.Files.{first_fault, resolved}
use Rattle.static_rules.specs.Literals.{literal_quotient}
use Rattle.typed_expressions.specs.LiteralValues.{inverse_value, literal_value}
use Rattle.guarded_commands.specs.Programs.{BlockTree, CommandTree, ProgramTree}
use Rattle.guarded_commands.specs.Translation.{translated}
use Rattle.guarded_commands.specs.declared.programs.VariableType.TheVariants as types
use Rattle.run_machine.specs.Configurations.{begin}
use Rattle.run_machine.specs.Runs.{runs}
use Rattle.run_machine.specs.Scheduler.{Forest, Tree}
use Rattle.run_machine.specs.Step.{Decision}
use Rattle.run_machine.specs.Sums.{sum_of}
use Rattle.std.proofs.Common.{List, None, [], codes, false, pos, refl, true, ◌+◌, ◌∷◌, ◌≡◌, ℕ, ℤ}
use Rattle.std.specs.Fmt.{digits}

abbrev nowhere : Span
nowhere = record { from = 0; to = 0 }

-- The numerator and the denominator of a value. Infinity is 1 and 0.
abbrev parts : Value → ℤ × ℕ
parts (finite x) = (x.num, x.den)
parts infinite = (pos 1, 0)

abbrev whole : ℕ → Val
whole n = Num (ratio (pos n) 1)

abbrev name : List ℕ → Expression
name x = Expression.name x nowhere

abbrev number : ℕ → Expression
number n = Expression.number (record { digits = pos n; places = 0 }) nowhere

abbrev one : CommandTree → BlockTree
one c = BlockTree.next c BlockTree.done

-- The sum of a program from a state, and that of its coproc.
abbrev program_after : ProgramTree → ℕ → List Val → Tree → ℤ × ℕ
program_after p n s t = parts (program_sum p n s t)

abbrev coproc_after : Procedure → ℕ → List Val → Tree → ℤ × ℕ
coproc_after q n s t = parts (sum_of true (procedure_at (resolved (q ∷ [])) 0).post (runs (resolved (q ∷ [])) n (begin (resolved (q ∷ [])) 0 s) t))

-- ---- A walk

-- nat c; bool go;
-- pre ite(go, c + 1, c); post c;
-- while (go) [ite(go, c + 1, c)] { { go := false; } [1/2] { c := c + 1; } }
abbrev c_more : Expression
c_more = Expression.binary ops.Plus (name (codes "c")) (number 1) nowhere

abbrev walk_bound : Expression
walk_bound = Expression.choice (name (codes "go")) c_more (name (codes "c")) nowhere

abbrev walk_step : CommandTree
walk_step = CommandTree.mix (Expression.binary ops.Slash (number 1) (number 2) nowhere) (one (CommandTree.assign (codes "go") (Expression.truth false nowhere) nowhere)) (one (CommandTree.assign (codes "c") c_more nowhere)) nowhere

abbrev walk : ProgramTree
walk = record {
  declarations = record { ty = types.Nat; name = codes "c"; span = nowhere } ∷ record { ty = types.Bool; name = codes "go"; span = nowhere } ∷ [];
  pre = walk_bound;
  post = name (codes "c");
  body = one (CommandTree.repeat (name (codes "go")) walk_bound (one walk_step) nowhere);
}

-- From c = 2 and go = true, the loop's test is the first step; the second chooses a block, the
-- third enters it, the fourth assigns, and after the fifth, the next test, half of the runs have
-- terminated with c = 2.
abbrev walk_after : ℕ → ℤ × ℕ
walk_after n = program_after walk n (whole 2 ∷ Truth true ∷ []) Tree.leaf

-- The coproc takes a step for each of its two first assignments.
abbrev walk_main_after : ℕ → ℤ × ℕ
walk_main_after n = coproc_after (translated nowhere walk) (n + 2) (whole 2 ∷ Truth true ∷ whole 0 ∷ Truth false ∷ Truth false ∷ []) Tree.leaf

walk_is_clean : first_fault (translated nowhere walk ∷ []) ≡ None
unfolding literal_value inverse_value literal_quotient zeroʳ ratio gcd gcd_steps leqʳ oneʳ digits
walk_is_clean = refl

walk_sums : (walk_after 0 ≡ (pos 0, 1)) × (walk_after 1 ≡ (pos 0, 1)) × (walk_after 2 ≡ (pos 0, 1)) × (walk_after 3 ≡ (pos 0, 1)) × (walk_after 4 ≡ (pos 0, 1)) × (walk_after 5 ≡ (pos 1, 1)) × (walk_after 6 ≡ (pos 1, 1))
unfolding guarded_runs weighted_sum scaled literal_value inverse_value literal_quotient ratio gcd gcd_steps zeroʳ oneʳ zeroᵛ oneᵛ ◌+ʳ◌ ◌*ʳ◌ ◌-ʳ◌ negʳ ◌+ᵛ◌ ◌*ᵛ◌ infinite_times is_zeroʳ leqʳ leqᵛ minᵛ
walk_sums = (refl, refl, refl, refl, refl, refl, refl)

walk_main_sums : (walk_main_after 0 ≡ (pos 0, 1)) × (walk_main_after 1 ≡ (pos 0, 1)) × (walk_main_after 2 ≡ (pos 0, 1)) × (walk_main_after 3 ≡ (pos 0, 1)) × (walk_main_after 4 ≡ (pos 0, 1)) × (walk_main_after 5 ≡ (pos 1, 1)) × (walk_main_after 6 ≡ (pos 1, 1))
unfolding runs weighted_sum scaled literal_value inverse_value literal_quotient ratio gcd gcd_steps zeroʳ oneʳ zeroᵛ oneᵛ ◌+ʳ◌ ◌*ʳ◌ ◌-ʳ◌ negʳ ◌+ᵛ◌ ◌*ᵛ◌ infinite_times is_zeroʳ leqʳ leqᵛ minᵛ digits
walk_main_sums = (refl, refl, refl, refl, refl, refl, refl)

-- ---- A bet

-- nat x; pre 3; post x; tick(1); { { x := 2; } [1/3] { x := 1; } } [] { skip; }
abbrev bet : ProgramTree
bet = record {
  declarations = record { ty = types.Nat; name = codes "x"; span = nowhere } ∷ [];
  pre = number 3;
  post = name (codes "x");
  body = BlockTree.next (CommandTree.tick (number 1) nowhere) (one (CommandTree.choice
      (one (CommandTree.mix (Expression.binary ops.Slash (number 1) (number 3) nowhere) (one (CommandTree.assign (codes "x") (number 2) nowhere)) (one (CommandTree.assign (codes "x") (number 1) nowhere)) nowhere))
      (one (CommandTree.skip nowhere)) nowhere));
}

-- A scheduler that takes the second block at the second step.
abbrev right_second : Tree
right_second = Tree.node Decision.none (Forest.trees (Tree.node (Decision.side false) Forest.no_trees) Forest.no_trees)

abbrev bet_after : ℕ → Tree → ℤ × ℕ
bet_after n t = program_after bet n (whole 0 ∷ []) t

-- The tick counts from its own step on. The left block takes a step to choose, one to enter and one
-- to assign; a third of the runs terminates with 2, the others with 1.
bet_left : (bet_after 0 Tree.leaf ≡ (pos 0, 1)) × (bet_after 1 Tree.leaf ≡ (pos 1, 1)) × (bet_after 4 Tree.leaf ≡ (pos 1, 1)) × (bet_after 5 Tree.leaf ≡ (pos 7, 3)) × (bet_after 6 Tree.leaf ≡ (pos 7, 3))
unfolding guarded_runs weighted_sum scaled literal_value inverse_value literal_quotient ratio gcd gcd_steps zeroʳ oneʳ zeroᵛ oneᵛ ◌+ʳ◌ ◌*ʳ◌ ◌-ʳ◌ negʳ ◌+ᵛ◌ ◌*ᵛ◌ infinite_times is_zeroʳ leqʳ leqᵛ minᵛ
bet_left = (refl, refl, refl, refl, refl)

-- The right block terminates with 0.
bet_right : (bet_after 1 right_second ≡ (pos 1, 1)) × (bet_after 3 right_second ≡ (pos 1, 1)) × (bet_after 5 right_second ≡ (pos 1, 1))
unfolding guarded_runs weighted_sum scaled literal_value inverse_value literal_quotient ratio gcd gcd_steps zeroʳ oneʳ zeroᵛ oneᵛ ◌+ʳ◌ ◌*ʳ◌ ◌-ʳ◌ negʳ ◌+ᵛ◌ ◌*ᵛ◌ infinite_times is_zeroʳ leqʳ leqᵛ minᵛ
bet_right = (refl, refl, refl)

-- The coproc first takes a step for its variable.
bet_main : (coproc_after (translated nowhere bet) 6 (whole 0 ∷ whole 9 ∷ Truth true ∷ []) Tree.leaf ≡ (pos 7, 3)) × (coproc_after (translated nowhere bet) 4 (whole 0 ∷ whole 9 ∷ Truth true ∷ []) (Tree.node Decision.none (Forest.trees right_second Forest.no_trees)) ≡ (pos 1, 1))
unfolding runs weighted_sum scaled literal_value inverse_value literal_quotient ratio gcd gcd_steps zeroʳ oneʳ zeroᵛ oneᵛ ◌+ʳ◌ ◌*ʳ◌ ◌-ʳ◌ negʳ ◌+ᵛ◌ ◌*ᵛ◌ infinite_times is_zeroʳ leqʳ leqᵛ minᵛ digits
bet_main = (refl, refl)
