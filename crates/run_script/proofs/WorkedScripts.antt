-- Worked texts: the script that each spells, or its first invalid line.
use Rattle.heylo_formula.specs.declared.types.Ty.{Ty}
use Rattle.heylo_formula.specs.declared.values.Val.TheVariants.{Num, Truth}
use Rattle.heylo_formula.specs.declared.values.Val.{Val}
use Rattle.heyvl_num.specs.Gcd.{gcd, gcd_steps}
use Rattle.heyvl_num.specs.Rational.{leqʳ, ratio, zeroʳ}
use Rattle.run_script.proofs.exported.PlainReader.{read_right}
use Rattle.run_script.specs.Lines.{Line}
use Rattle.run_script.specs.Scripts.{AreSettings, IsFirstFault, Known, Script, Spells}
use Rattle.run_script.specs.declared.scripts.Setting.{Setting}
use Rattle.run_machine.specs.declared.configurations.Decide.TheVariants.{Give, Left}
use Rattle.run_machine.specs.declared.configurations.Decide.{Decide}
use Rattle.std.specs.List.{IsDistinct}
use Rattle.std.proofs.Common.{List, None, Some, [], arith, codes, false, map, neg_ℤ, pos, refl, true, ◌++◌, ◌∷◌, ◌≡◌, ℕ}

-- The inputs and the output of `coproc a(n: UInt, b: Bool, t: UReal, i: Int) -> (x: UInt)`, whose
-- body may have a local variable u.
abbrev known : Known
known = Some (record { name = codes "n"; ty = Ty.UInt } ∷ record { name = codes "b"; ty = Ty.Bool } ∷ record { name = codes "t"; ty = Ty.UReal } ∷ record { name = codes "i"; ty = Ty.Int } ∷ record { name = codes "x"; ty = Ty.UInt } ∷ [])

abbrev set : List ℕ → Val → Setting
set name value = record { name = name; value = value }

abbrev Breaks : List ℕ → ℕ → Type 0
Breaks text line = IsFirstFault known text line

-- The script without settings and decisions.
abbrev OnlySteps : List ℕ → ℕ → Type 0
OnlySteps text n = Spells known (record { steps = n; settings = []; decisions = [] }) text

-- Forms of lines.
whole_script : Spells known (record { steps = 7; settings = set (codes "n") (Num (ratio (pos 3) 1)) ∷ set (codes "t") (Num (ratio (pos 6) 4)) ∷ []; decisions = Left ∷ Give (Num (ratio (neg_ℤ (pos 2)) 1)) ∷ [] }) (codes "steps 7\nset n 3\nset t 6/4\ndecide left\ndecide -2\n")
unfolding ratio gcd gcd_steps leqʳ zeroʳ
whole_script = read_right known (codes "steps 7\nset n 3\nset t 6/4\ndecide left\ndecide -2\n")

no_last_line_feed : OnlySteps (codes "steps 1") 1
no_last_line_feed = read_right known (codes "steps 1")

pub empty : Breaks [] 1
empty = read_right known []

line_feed_alone : Breaks (codes "\n") 1
line_feed_alone = read_right known (codes "\n")

empty_last_line : Breaks (codes "steps 1\n\n") 2
empty_last_line = read_right known (codes "steps 1\n\n")

carriage_return : Breaks (codes "steps 1" ++ 13 ∷ 10 ∷ []) 1
carriage_return = read_right known (codes "steps 1" ++ 13 ∷ 10 ∷ [])

trailing_space : Breaks (codes "steps 1\ndecide left \n") 2
trailing_space = read_right known (codes "steps 1\ndecide left \n")

two_spaces : Breaks (codes "steps  1\n") 1
two_spaces = read_right known (codes "steps  1\n")

-- Numbers of steps.
most_steps : OnlySteps (codes "steps 10000\n") 10000
most_steps = read_right known (codes "steps 10000\n")

too_many_steps : Breaks (codes "steps 10001\n") 1
too_many_steps = read_right known (codes "steps 10001\n")

leading_zeros : OnlySteps (codes "steps 00012\n") 12
leading_zeros = read_right known (codes "steps 00012\n")

steps_twice : Breaks (codes "steps 1\nsteps 1\n") 2
steps_twice = read_right known (codes "steps 1\nsteps 1\n")

-- Values.
minus_zero : Spells known (record { steps = 0; settings = set (codes "n") (Num (ratio (pos 0) 1)) ∷ []; decisions = [] }) (codes "steps 0\nset n -0\n")
unfolding ratio gcd gcd_steps leqʳ zeroʳ
minus_zero = read_right known (codes "steps 0\nset n -0\n")

over_zero : Breaks (codes "steps 1\nset t 1/0\n") 2
over_zero = read_right known (codes "steps 1\nset t 1/0\n")

negative_fraction : Breaks (codes "steps 1\nset i -4/2\n") 2
negative_fraction = read_right known (codes "steps 1\nset i -4/2\n")

whole_fraction : Spells known (record { steps = 1; settings = set (codes "n") (Num (ratio (pos 4) 2)) ∷ []; decisions = [] }) (codes "steps 1\nset n 4/2")
unfolding ratio gcd gcd_steps leqʳ zeroʳ
whole_fraction = read_right known (codes "steps 1\nset n 4/2")

too_large : Breaks (codes "steps 1\nset n 85070591730234615865843651857942052864\n") 2
too_large = read_right known (codes "steps 1\nset n 85070591730234615865843651857942052864\n")

largest : Spells known (record { steps = 1; settings = set (codes "i") (Num (ratio (neg_ℤ (pos 85070591730234615865843651857942052863)) 1)) ∷ []; decisions = [] }) (codes "steps 1\nset i -85070591730234615865843651857942052863\n")
unfolding ratio gcd gcd_steps leqʳ zeroʳ
largest = read_right known (codes "steps 1\nset i -85070591730234615865843651857942052863\n")

-- Settings.
local : Breaks (codes "steps 1\nset u 1\n") 2
local = read_right known (codes "steps 1\nset u 1\n")

set_twice : Breaks (codes "steps 1\nset n 1\nset b true\nset n 1\n") 4
unfolding ratio gcd gcd_steps leqʳ zeroʳ
set_twice = read_right known (codes "steps 1\nset n 1\nset b true\nset n 1\n")

negative_natural : Breaks (codes "steps 1\nset n -1\n") 2
unfolding ratio gcd gcd_steps leqʳ zeroʳ
negative_natural = read_right known (codes "steps 1\nset n -1\n")

other_type : Breaks (codes "steps 1\nset b 1\n") 2
unfolding ratio gcd gcd_steps leqʳ zeroʳ
other_type = read_right known (codes "steps 1\nset b 1\n")

decide_before_set : Breaks (codes "steps 1\ndecide true\nset n 1\n") 3
unfolding ratio gcd gcd_steps leqʳ zeroʳ
decide_before_set = read_right known (codes "steps 1\ndecide true\nset n 1\n")

-- Scripts if there is no procedure to run.
any_name : Spells None (record { steps = 1; settings = set (codes "q") (Truth true) ∷ set (codes "q") (Truth false) ∷ []; decisions = [] }) (codes "steps 1\nset q true\nset q false\n")
any_name = read_right None (codes "steps 1\nset q true\nset q false\n")

empty_name : IsFirstFault None (codes "steps 1\nset  true\n") 2
empty_name = read_right None (codes "steps 1\nset  true\n")

-- ---- The definitions, without the plain reader

by_hand : Spells known (record { steps = 7; settings = set (codes "b") (Truth true) ∷ []; decisions = Left ∷ [] }) (codes "steps 07\nset b true\ndecide left\n")
unfolding IsDistinct
by_hand = record { allowed = record { steps = omega arith; settings = ((refl, tt), ((tt, tt))) }; one_by_one = refl }

no_second_steps : (s : Script) → Spells known s (codes "steps 1\nsteps 2\n") → ⊥
no_second_steps s h = second s.settings s.decisions h.one_by_one
  where
    second : (settings : List Setting) (decisions : List Decide) → Some (Line.steps 1) ∷ (Some (Line.steps 2) ∷ []) ≡ Some (Line.steps s.steps) ∷ map Some (map Line.set settings ++ map Line.decide decisions) → ⊥
    second [] [] e = cc
    second [] (d ∷ decisions) e = cc
    second (x ∷ settings) decisions e = cc

no_setting_twice : AreSettings known (set (codes "b") (Truth true) ∷ (set (codes "b") (Truth false) ∷ [])) → ⊥
unfolding IsDistinct
no_setting_twice h = let first = h.1.0.0 in cc

no_unknown_setting : AreSettings known (set (codes "u") (Truth true) ∷ []) → ⊥
no_unknown_setting h = let first = h.0.0 in cc
