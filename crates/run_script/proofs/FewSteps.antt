-- The steps of a `steps` line are at most 10,000.
use Rattle.heylo_formula.specs.declared.values.Val.{Val}
use Rattle.heyvl_syntax.specs.Literals.{number}
use Rattle.run_machine.specs.declared.configurations.Decide.{Decide}
use Rattle.run_script.specs.Lines.{Line, are_digits, below, decision, line_of_parts, line_parts, natural, said, script_value}
use Rattle.std.proofs.Common.{Bool, List, None, Option, Some, [], arith, codes, cond, false, if◌then◌else◌, nat_lt, option_map, refl, true, ◌<◌, ◌∷◌, ◌≡◌, ◌≤◌, ℕ}
use Rattle.std.proofs.lemmas.Bool.Decides.{nat_tests}
use Rattle.std.specs.Str.{bytes_eq}

natural_few : (limit : ℕ) (text : List ℕ) (n : ℕ) → natural limit text ≡ Some n → n < limit
natural_few limit text n e = pick (are_digits text) e
  where
    small : (b : Bool) → nat_lt (number text) limit ≡ b → cond b (Some (number text)) None ≡ Some n → n < limit
    small true k h = let same : number text ≡ n = cc in let less : number text < limit = grind (arith, nat_tests) in omega arith
    small false k h = cc

    pick : (b : Bool) → cond b (below limit (number text)) None ≡ Some n → n < limit
    pick true h = small (nat_lt (number text) limit) refl h
    pick false h = cc

steps_few : (text : List ℕ) (n : ℕ) → option_map Line.steps (natural 10001 text) ≡ Some (Line.steps n) → n ≤ 10000
steps_few text n e = pick (natural 10001 text) refl e
  where
    pick : (o : Option ℕ) → natural 10001 text ≡ o → option_map Line.steps o ≡ Some (Line.steps n) → n ≤ 10000
    pick (Some m) k h = let less = natural_few 10001 text m k in let same : m ≡ n = cc in omega arith
    pick None k h = cc

decide_none : (o : Option Decide) (n : ℕ) → option_map Line.decide o ≡ Some (Line.steps n) → ⊥
decide_none (Some d) n e = cc
decide_none None n e = cc

set_none : (name : List ℕ) (o : Option Val) (n : ℕ) → option_map (λ value. Line.set (record { name = name; value = value })) o ≡ Some (Line.steps n) → ⊥
set_none name (Some d) n e = cc
set_none name None n e = cc

parts_few : (parts : List (List ℕ)) (n : ℕ) → line_of_parts parts ≡ Some (Line.steps n) → n ≤ 10000
parts_few [] n e = cc
parts_few (word ∷ []) n e = cc
parts_few (word ∷ (text ∷ [])) n e = pick (bytes_eq word (codes "steps")) e
  where
    other : (b : Bool) → cond b (option_map Line.decide (decision text)) None ≡ Some (Line.steps n) → n ≤ 10000
    other true h = absurd (decide_none (decision text) n h)
    other false h = cc

    pick : (b : Bool) → cond b (option_map Line.steps (natural 10001 text)) (if bytes_eq word (codes "decide") then option_map Line.decide (decision text) else None) ≡ Some (Line.steps n) → n ≤ 10000
    pick true h = steps_few text n h
    pick false h = other (bytes_eq word (codes "decide")) h
parts_few (word ∷ (name ∷ (text ∷ []))) n e = pick (bytes_eq word (codes "set")) e
  where
    pick : (b : Bool) → cond b (option_map (λ value. Line.set (record { name = name; value = value })) (script_value text)) None ≡ Some (Line.steps n) → n ≤ 10000
    pick true h = absurd (set_none name (script_value text) n h)
    pick false h = cc
parts_few (word ∷ (name ∷ (text ∷ (other ∷ more)))) n e = cc

pub said_few : (line : List ℕ) (n : ℕ) → said line ≡ Some (Line.steps n) → n ≤ 10000
said_few line n e = parts_few (line_parts line) n e
