use Rattle.heyvl_print.proofs.LineTexts.{targets_text}
use Rattle.heyvl_print.proofs.lines.print_targets.Goals as goal
use Rattle.heyvl_print.specs.Canonical.{target_pieces}
use Rattle.heyvl_print.specs.Pieces.{comma, separated, text_of, word}
use Rattle.std.proofs.Common.{List, [], arith, codes, false, length, sym, ◌++◌, ◌<◌, ◌==◌, ◌∙◌, ◌∷◌, ◌≡◌, ℕ}
use Rattle.std.proofs.lemmas.Bool.Decides.{nat_tests}

some : (xs : List (List ℕ)) (t0 t1 t2 : List ℕ) → 0 < length xs → t1 ≡ t0 ++ text_of (separated comma word xs) → t2 ≡ t1 ++ codes " = " → t2 ≡ t0 ++ text_of (target_pieces xs)
some [] t0 t1 t2 h e f = absurd (omega arith)
some (x ∷ xs) t0 t1 t2 h e f = targets_text x xs t0 t1 t2 e f

more : (xs : List (List ℕ)) → length xs == 0 ≡ false → 0 < length xs
more xs h = grind (arith, nat_tests)

pub returns : goal.returns
returns c = some c.args.targets.now _ _ _ (more c.args.targets.now (sym c.is_empty.ensures ∙ c.if-is_empty.false)) c.in_ok-print_names.ensures c.in_ok-write.ensures
