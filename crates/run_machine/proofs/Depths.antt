-- The number of values of a configuration of the program.
use Rattle.std.proofs.Common.{◌≡◌, ℕ, Bool, true, false, nat_lt, ◌||◌, ◌+◌, ◌≤◌, ◌<◌, refl, ap, sym, ◌∙◌, arith, List, [], ◌∷◌, ◌++◌, length, map, reverse, drop, get_or}
use Rattle.std.proofs.lemmas.List.{at_drop_more, drop_all, reverse-append}
use Rattle.heyvl_acts.specs.Acts.{TypedProcedure}
use Rattle.heyvl_num.specs.Rational.{Rational}
use Rattle.run_machine.specs.declared.configurations.Config as C
use Rattle.run_machine.specs.declared.configurations.Frame as F
use Rattle.run_machine.specs.Names.{Numbered, Lists, lists_of, callers, stored, config_of, Stored}
use Rattle.run_machine.specs.BoundedStep.{frame_values, values_in}
use Rattle.run_machine.specs.Replies.{any_large, list_values, stored_outcomes, stored_values}

callers_values : (ps : List TypedProcedure) (above : List Numbered) (fs : List Lists) → frame_values (callers ps above fs) ≡ list_values fs
callers_values ps above [] = refl
callers_values ps above (f ∷ fs) = ap (λ n. length f.1 + n) (callers_values ps f.0 fs)

append_values : (fs gs : List Lists) → list_values (fs ++ gs) ≡ list_values fs + list_values gs
append_values [] gs = omega arith
append_values (f ∷ fs) gs = let h = append_values fs gs in omega (arith, h)

reverse_values : (fs : List Lists) → list_values (reverse fs) ≡ list_values fs
reverse_values [] = refl
reverse_values (f ∷ fs) = ap list_values (reverse-append (f ∷ []) fs) ∙ (append_values (reverse fs) (f ∷ []) ∙ (let h = reverse_values fs in omega (arith, h)))

pub all_values : (ps : List TypedProcedure) (c : Stored) → values_in (config_of ps c) ≡ stored_values c
all_values ps c = ap (λ n. length c.state + n) (callers_values ps c.items (reverse c.frames) ∙ reverse_values c.frames)

-- The number of values of the frames from index `k` on.
abbrev pub values_from : List F.Frame → ℕ → ℕ
values_from fs k = list_values (map lists_of (drop k fs))

pub values_next : (fs : List F.Frame) (k : ℕ) (x : F.Frame) → k < length fs → x ≡ get_or fs k x → values_from fs k ≡ length x.state.items + values_from fs (k + 1)
values_next fs k x lt is = at_drop_more (λ l. list_values (map lists_of l)) fs k x lt ∙ ap (λ y. length y.state.items + values_from fs (k + 1)) (sym is)

pub values_none : (fs : List F.Frame) (k : ℕ) → length fs ≤ k → values_from fs k ≡ 0
values_none fs k over = ap (λ l. list_values (map lists_of l)) (drop_all k fs over)

pub more_than : (v : ℕ) → 512 < v → true ≡ nat_lt 512 v
more_than v h = grind arith

pub at_most : (v : ℕ) → v ≤ 512 → false ≡ nat_lt 512 v
at_most v h = grind arith

pub large_next : (xs : List (Rational × C.Config)) (k : ℕ) (x : Rational × C.Config) → k < length xs → x ≡ get_or xs k x → any_large (stored_outcomes (drop k xs)) ≡ (nat_lt 512 (stored_values (stored x.1)) || any_large (stored_outcomes (drop (k + 1) xs)))
large_next xs k x lt is = at_drop_more (λ l. any_large (stored_outcomes l)) xs k x lt ∙ ap (λ y. nat_lt 512 (stored_values (stored y.1)) || any_large (stored_outcomes (drop (k + 1) xs))) (sym is)

pub large_none : (xs : List (Rational × C.Config)) (k : ℕ) → length xs ≤ k → any_large (stored_outcomes (drop k xs)) ≡ false
large_none xs k over = ap (λ l. any_large (stored_outcomes l)) (drop_all k xs over)

pub either_true : (a b : Bool) → true ≡ a → (a || b) ≡ true
either_true true b h = refl
either_true false b h = cc

pub neither_first : (a b : Bool) → false ≡ a → (a || b) ≡ b
neither_first true b h = cc
neither_first false b h = refl
