-- Targets among the remaining acts, and the modified variables of a scope.
use Rattle.std.proofs.Common.{◌≡◌, ℕ, true, false, ◌+◌, ◌<◌, ◌≤◌, ap, sym, ◌∙◌, arith, List, [], ◌∷◌, ◌++◌, append-nil, append_assoc, drop, get_or, length}
use Rattle.std.proofs.lemmas.List.{at_drop_more, drop_all}
use Rattle.std.specs.Prelude.{if◌then◌else◌}
use Prim.Native.Nat.{suc}
use Rattle.heyvl_acts.specs.Acts.{Acts}
use Rattle.heyvl_acts.specs.ModifiedVariables.{is_target_of, modified}
use Rattle.heyvl_acts.specs.Rules.{GrowBelow}

pub grow_earlier : (m n below : ℕ) (xs : List ℕ) → m ≤ n → GrowBelow n below xs → GrowBelow m below xs
grow_earlier m n below [] le g = tt
grow_earlier m n below (x ∷ xs) le g = ((let a = g.0.0 in omega (arith, le, a), g.0.1), g.1)

pub modified_grow : (from below : ℕ) (xs : List ℕ) (b : Acts) → GrowBelow from below xs → GrowBelow from below (modified xs b)
modified_grow from below [] b g = tt
modified_grow from below (x ∷ xs) b g = elim (is_target_of x b) as (λ t. GrowBelow from below (if t then x ∷ modified xs b else modified xs b)) [ true ↦ (g.0, modified_grow (suc x) below xs b g.1) | false ↦ let a = g.0.0 in grow_earlier from (suc x) below (modified xs b) (omega (arith, a)) (modified_grow (suc x) below xs b g.1) ]

-- The next variable of a scope is modified, or is not.
pub taken : (found scope : List ℕ) (i x : ℕ) (b : Acts) → i < length scope → x ≡ get_or scope i x → is_target_of x b ≡ true → (found ++ x ∷ []) ++ modified (drop (i + 1) scope) b ≡ found ++ modified (drop i scope) b
taken found scope i x b lt is t = append_assoc found (x ∷ []) (modified (drop (i + 1) scope) b) ∙ ap (λ l. found ++ l) (sym (at_drop_more (λ l. modified l b) scope i x lt ∙ (ap (λ y. modified (y ∷ drop (i + 1) scope) b) (sym is) ∙ ap (λ v. if v then x ∷ modified (drop (i + 1) scope) b else modified (drop (i + 1) scope) b) t)))

pub left : (found scope : List ℕ) (i x : ℕ) (b : Acts) → i < length scope → x ≡ get_or scope i x → is_target_of x b ≡ false → found ++ modified (drop (i + 1) scope) b ≡ found ++ modified (drop i scope) b
left found scope i x b lt is t = ap (λ l. found ++ l) (sym (at_drop_more (λ l. modified l b) scope i x lt ∙ (ap (λ y. modified (y ∷ drop (i + 1) scope) b) (sym is) ∙ ap (λ v. if v then x ∷ modified (drop (i + 1) scope) b else modified (drop (i + 1) scope) b) t)))

-- The variables found in the whole scope.
pub all_modified : (found scope : List ℕ) (i : ℕ) (b : Acts) → length scope ≤ i → found ++ modified (drop i scope) b ≡ modified scope b → found ≡ modified scope b
all_modified found scope i b over h = sym (ap (λ l. found ++ modified l b) (drop_all i scope over) ∙ append-nil found) ∙ h
