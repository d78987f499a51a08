-- Facts about the rest of a list, one step further.
use Rattle.heyvl_syntax.specs.Statements.{arms, block, guarded, statement}
use Rattle.heyvl_syntax.specs.Statements as text
use Rattle.heyvl_syntax.specs.declared.statements.Arm.{Arm}
use Rattle.heyvl_syntax.specs.declared.statements.Stmt.{Stmt}
use Rattle.std.proofs.Common.{List, ap, drop, get_or, length, sym, ◌+◌, ◌<◌, ◌∙◌, ◌≡◌, ◌∷◌, ◌≤◌, ℕ}
use Rattle.std.proofs.lemmas.List.{at_drop_more, drop_all}

pub rest_next : {X Y : Type 0} (f : List X → Y) (xs : List X) (i : ℕ) (x : X) → i < length xs → x ≡ get_or xs i x → f (drop i xs) ≡ f (x ∷ drop (i + 1) xs)
rest_next f xs i x lt is = at_drop_more f xs i x lt ∙ ap (λ y. f (y ∷ drop (i + 1) xs)) (sym is)

pub block_next : (xs : List Stmt) (i : ℕ) (x : Stmt) → i < length xs → x ≡ get_or xs i x → block (drop i xs) ≡ text.Block.next (statement x) (block (drop (i + 1) xs))
block_next xs i x lt is = rest_next block xs i x lt is

pub block_end : (xs : List Stmt) (i : ℕ) → length xs ≤ i → block (drop i xs) ≡ text.Block.done
block_end xs i over = ap block (drop_all i xs over)

pub arms_next : (xs : List Arm) (i : ℕ) (x : Arm) → i < length xs → x ≡ get_or xs i x → arms (drop i xs) ≡ text.Arms.arm (guarded x).0 (guarded x).1 (arms (drop (i + 1) xs))
arms_next xs i x lt is = rest_next arms xs i x lt is

pub arms_end : (xs : List Arm) (i : ℕ) → length xs ≤ i → arms (drop i xs) ≡ text.Arms.no_arm
arms_end xs i over = ap arms (drop_all i xs over)
