-- The first error of worked texts, computed. H and G denote the two heads below.
use Rattle.heyvl_num.specs.Gcd.{gcd, gcd_steps}
use Rattle.heyvl_num.specs.Rational.{leqʳ, oneʳ, ratio, zeroʳ}
use Rattle.heyvl_places.specs.declared.checks.CheckKind.{CheckKind}
use Rattle.heyvl_syntax.specs.Expressions.{Expression}
use Rattle.heyvl_syntax.specs.Procedures.{Procedure}
use Rattle.heyvl_syntax.specs.Statements.{Block, LoopRule, RightSide, Statement}
use Rattle.heyvl_syntax.specs.declared.operators.BinaryOp.{BinaryOp}
use Rattle.heyvl_syntax.specs.declared.procedures.Note.{Note}
use Rattle.heyvl_syntax.specs.declared.procedures.Param.{Param}
use Rattle.heyvl_syntax.specs.declared.types.TypeName.{TypeName}
use Rattle.static_rules.proofs.ExampleTexts.{block, fault, num, over, param, procedure, sp, var}
use Rattle.static_rules.specs.Files.{first_fault}
use Rattle.static_rules.specs.Literals.{literal_quotient}
use Rattle.std.proofs.Common.{refl, replicate}
use Rattle.std.specs.Prelude.{List, None, Some, [], codes, false, true, ◌∷◌, ◌≡◌, ℕ}
use Rattle.typed_expressions.specs.LiteralValues.{inverse_value, literal_value}

abbrev a : List ℕ
a = codes "a"

abbrev x : List ℕ
x = codes "x"

abbrev y : List ℕ
y = codes "y"

-- H: `coproc a() -> (x: UInt) pre 1 post x { .. }`
abbrev h : List Statement → List Procedure
h ss = procedure true None a [] (param x TypeName.UInt 15 ∷ []) (num 1 28 ∷ []) (var x 35 ∷ []) (Some (block ss)) 0 ∷ []

-- G: `coproc a() -> () pre 1 post 0 { .. }`
abbrev g : List Statement → List Procedure
g ss = procedure true None a [] [] (num 1 21 ∷ []) (num 0 28 ∷ []) (Some (block ss)) 0 ∷ []

-- H `{ x = y }`
unknown_name : first_fault (h (Statement.assign (x ∷ []) (RightSide.plain (var y 43)) (sp 39) ∷ [])) ≡ fault 10 43
unfolding literal_value ratio gcd gcd_steps
unknown_name = refl

-- `coproc a(x: Bool) -> (x: Bool) pre 1 post 0`
name_given_twice : first_fault (procedure true None a (param x TypeName.Bool 9 ∷ []) (param x TypeName.Bool 22 ∷ []) (num 1 35 ∷ []) (num 0 42 ∷ []) None 0 ∷ []) ≡ fault 11 22
unfolding literal_value ratio gcd gcd_steps
name_given_twice = refl

-- H `{ x = 1/2 }`
types_do_not_agree : first_fault (h (Statement.assign (x ∷ []) (RightSide.plain (over 44 (num 1 43) (num 2 45))) (sp 39) ∷ [])) ≡ fault 12 39
unfolding literal_value inverse_value zeroʳ ratio gcd gcd_steps
types_do_not_agree = refl

-- `coproc a(x: UInt) -> () pre x post 0 { x = 1 }`
input_assigned : first_fault (procedure true None a (param x TypeName.UInt 9 ∷ []) [] (var x 28 ∷ []) (num 0 35 ∷ []) (Some (block (Statement.assign (x ∷ []) (RightSide.plain (num 1 43)) (sp 39) ∷ []))) 0 ∷ []) ≡ fault 13 39
unfolding literal_value ratio gcd gcd_steps
input_assigned = refl

-- G `{ a(1) }`
wrong_number : first_fault (g (Statement.assign [] (RightSide.call a (num 1 34 ∷ [])) (sp 32) ∷ [])) ≡ fault 14 32
unfolding literal_value ratio gcd gcd_steps
wrong_number = refl

-- H `{ x = unif(2, 1) }`
ends_exchanged : first_fault (h (Statement.assign (x ∷ []) (RightSide.unif (num 2 48) (num 1 51)) (sp 39) ∷ [])) ≡ fault 15 39
unfolding literal_value ratio gcd gcd_steps
ends_exchanged = refl

-- `coproc a() -> (x: Bool) pre 1 post 0 { x = flip(1/4611686018427387904) }`
too_wide : first_fault (procedure true None a [] (param x TypeName.Bool 15 ∷ []) (num 1 28 ∷ []) (num 0 35 ∷ []) (Some (block (Statement.assign (x ∷ []) (RightSide.flip (over 49 (num 1 48) (num 4611686018427387904 50))) (sp 39) ∷ []))) 0 ∷ []) ≡ fault 15 39
unfolding literal_value literal_quotient ratio gcd gcd_steps
too_wide = refl

-- `coproc a(n: UInt) -> (x: Bool) pre 1 post 0 { x = flip(..) }`
abbrev flipped : Expression → List Procedure
flipped p = procedure true None a (param y TypeName.UInt 9 ∷ []) (param x TypeName.Bool 15 ∷ []) (num 1 28 ∷ []) (num 0 35 ∷ []) (Some (block (Statement.assign (x ∷ []) (RightSide.flip p) (sp 39) ∷ []))) 0 ∷ []

-- `true` and `\infty`, `3/2`, `n`, `0*n`, and `ite(n < 3, n, 1)`
abbrev below_three : Expression
below_three = Expression.binary BinaryOp.Less (var y 52) (num 3 56) (sp 54)

no_probability : (first_fault (flipped (Expression.truth true (sp 48))) ≡ fault 12 39) × (first_fault (flipped (Expression.infinity (sp 48))) ≡ fault 12 39)
unfolding literal_value ratio gcd gcd_steps
no_probability = (refl, refl)

above_one : first_fault (flipped (over 49 (num 3 48) (num 2 50))) ≡ fault 15 39
unfolding literal_value literal_quotient ratio gcd gcd_steps leqʳ oneʳ
above_one = refl

varying : (first_fault (flipped (var y 48)) ≡ fault 15 39) × (first_fault (flipped (Expression.binary BinaryOp.Star (num 0 48) (var y 50) (sp 49))) ≡ fault 15 39) × (first_fault (flipped (Expression.choice below_three (var y 59) (num 1 62) (sp 48))) ≡ fault 15 39)
unfolding literal_value ratio gcd gcd_steps
varying = (refl, refl, refl)

-- `1/n`, `1/0` and `[n < 3]`
its_own_division : (first_fault (flipped (over 49 (num 1 48) (var y 50))) ≡ fault 16 49) × (first_fault (flipped (over 49 (num 1 48) (num 0 50))) ≡ fault 16 39)
unfolding literal_value inverse_value zeroʳ ratio gcd gcd_steps
its_own_division = (refl, refl)

allowed : (first_fault (flipped (Expression.bracket below_three (sp 48))) ≡ None) × (first_fault (flipped (Expression.choice below_three (over 60 (num 1 59) (num 2 61)) (num 1 64) (sp 48))) ≡ None)
unfolding literal_value inverse_value zeroʳ ratio gcd gcd_steps
allowed = (refl, refl)

-- H `{ x = 1/x }`
division : first_fault (h (Statement.assign (x ∷ []) (RightSide.plain (over 44 (num 1 43) (var x 45))) (sp 39) ∷ [])) ≡ fault 16 44
unfolding literal_value inverse_value zeroʳ ratio gcd gcd_steps
division = refl

-- `coproc a() -> (x: UInt) post 0 { havoc x }`
wrong_side : first_fault (procedure true None a [] (param x TypeName.UInt 15 ∷ []) [] (num 0 29 ∷ []) (Some (block (Statement.havoc false (x ∷ []) (sp 33) ∷ []))) 0 ∷ []) ≡ fault 17 33
unfolding literal_value ratio gcd gcd_steps
wrong_side = refl

-- G `{ while true { } }`
no_rule : first_fault (g (Statement.loop [] (Expression.truth true (sp 38)) Block.done (sp 32) ∷ [])) ≡ fault 18 32
unfolding literal_value ratio gcd gcd_steps
no_rule = refl

-- G `{ @k_induction(17, 1) while true { } }`
copies_out_of_range : first_fault (g (Statement.loop (LoopRule.k_induction (num 17 45) (num 1 49) (sp 32) ∷ []) (Expression.truth true (sp 58)) Block.done (sp 32) ∷ [])) ≡ fault 19 32
unfolding literal_value ratio gcd gcd_steps
copies_out_of_range = refl

-- `@wlp proc a() -> () pre 1 post 1 { reward 1 }`
reward_in_a_weak_procedure : first_fault (procedure false (Some Note.Wlp) a [] [] (num 1 24 ∷ []) (num 1 31 ∷ []) (Some (block (Statement.reward (num 1 42) (sp 35) ∷ []))) 0 ∷ []) ≡ fault 20 35
unfolding literal_value ratio gcd gcd_steps
reward_in_a_weak_procedure = refl

-- `proc p() -> () pre 1 post 1 { q() }`, and on another line `coproc q() -> () pre 1 post 1`
against_the_direction : first_fault (procedure false None (codes "p") [] [] (num 1 19 ∷ []) (num 1 26 ∷ []) (Some (block (Statement.assign [] (RightSide.call (codes "q") []) (sp 30) ∷ []))) 0 ∷ procedure true None (codes "q") [] [] (num 1 57 ∷ []) (num 1 64 ∷ []) None 36 ∷ []) ≡ fault 21 30
unfolding literal_value ratio gcd gcd_steps
against_the_direction = refl

-- G `{ @invariant(1) @ranking(1, 1) while true { assert 1 } }`
ranking_body : first_fault (g (Statement.loop (LoopRule.invariant (num 1 43) (sp 32) ∷ LoopRule.ranking (num 1 55) (num 1 58) (sp 46) ∷ []) (Expression.truth true (sp 67)) (block (Statement.check CheckKind.Assert (num 1 81) (sp 74) ∷ [])) (sp 32) ∷ [])) ≡ fault 22 32
unfolding literal_value leqʳ oneʳ zeroʳ ratio gcd gcd_steps
ranking_body = refl

-- `coproc a() -> () pre sup x: UInt. x post 0 { }`
quantifier_in_a_pre : first_fault (procedure true None a [] [] (Expression.bound true x TypeName.UInt (var x 34) (sp 21) ∷ []) (num 0 41 ∷ []) (Some Block.done) 0 ∷ []) ≡ fault 23 21
unfolding literal_value ratio gcd gcd_steps
quantifier_in_a_pre = refl

-- Seventeen inputs with different names, and 65 pre clauses.
abbrev inputs : List Param
inputs = param (codes "a0") TypeName.Bool 9 ∷ param (codes "a1") TypeName.Bool 19 ∷ param (codes "a2") TypeName.Bool 29 ∷ param (codes "a3") TypeName.Bool 39 ∷ param (codes "a4") TypeName.Bool 49 ∷ param (codes "a5") TypeName.Bool 59 ∷ param (codes "a6") TypeName.Bool 69 ∷ param (codes "a7") TypeName.Bool 79 ∷ param (codes "a8") TypeName.Bool 89 ∷ param (codes "a9") TypeName.Bool 99 ∷ param (codes "b0") TypeName.Bool 109 ∷ param (codes "b1") TypeName.Bool 119 ∷ param (codes "b2") TypeName.Bool 129 ∷ param (codes "b3") TypeName.Bool 139 ∷ param (codes "b4") TypeName.Bool 149 ∷ param (codes "b5") TypeName.Bool 159 ∷ []

sixteen_inputs : first_fault (procedure true None a inputs [] [] [] None 0 ∷ []) ≡ None
sixteen_inputs = refl

seventeen_inputs : first_fault (procedure true None a inputs (param (codes "b6") TypeName.Bool 169 ∷ []) [] [] None 0 ∷ []) ≡ fault 24 0
seventeen_inputs = refl

pre_clauses : (first_fault (procedure true None a [] [] (replicate 64 (num 1 21)) [] None 0 ∷ []) ≡ None) × (first_fault (procedure true None a [] [] (replicate 65 (num 1 21)) [] None 0 ∷ []) ≡ fault 24 0)
unfolding literal_value ratio gcd gcd_steps
pre_clauses = (refl, refl)
