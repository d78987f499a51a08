-- Worked rows of reserved names, computed.
use Rattle.heyvl_syntax.specs.declared.keys.Key.TheVariants as keys
use Rattle.heyvl_syntax.specs.declared.marks.Mark.TheVariants as marks
use Rattle.heyvl_syntax.specs.declared.tokens.TokenKind.TheVariants as kinds
use Rattle.heyvl_syntax.specs.declared.tokens.TokenKind.{TokenKind}
use Rattle.guarded_commands.specs.ReservedNames.{declares, is_made, is_reserved, is_skip_word}
use Rattle.std.proofs.Common.{Bool, List, [], codes, false, map, refl, true, ◌+◌, ◌∷◌, ◌≡◌, ℕ}

abbrev word : List ℕ → TokenKind
word w = kinds.Word w

-- Names that the translation introduces, and similar names.
abbrev words : List (List ℕ)
words =
    codes "init_" ∷ codes "init_x" ∷ codes "init_init_" ∷ codes "pick_" ∷ codes "pick_1" ∷ codes "pick_x"
    ∷ codes "init" ∷ codes "pick" ∷ codes "xinit_" ∷ codes "Init_x" ∷ codes "_init_x" ∷ codes "pick1" ∷ codes "main" ∷ codes "skip" ∷ []

made_words : map (λ w. is_made (word w)) words ≡ true ∷ true ∷ true ∷ true ∷ true ∷ true ∷ false ∷ false ∷ false ∷ false ∷ false ∷ false ∷ false ∷ false ∷ []
made_words = refl

skip_words : map (λ w. is_skip_word (word w)) (codes "skip" ∷ codes "skips" ∷ codes "ski" ∷ codes "Skip" ∷ []) ≡ true ∷ false ∷ false ∷ false ∷ []
skip_words = refl

-- Of nine tokens, those that are the names of two declarations.
declared_places : map (declares 2) (0 ∷ 1 ∷ 2 ∷ 3 ∷ 4 ∷ 5 ∷ 6 ∷ 7 ∷ 8 ∷ []) ≡ false ∷ true ∷ false ∷ false ∷ true ∷ false ∷ false ∷ false ∷ false ∷ []
declared_places = refl

abbrev reserved_from : ℕ → ℕ → List TokenKind → List Bool
reserved_from n i [] = []
reserved_from n i (k ∷ ks) = is_reserved n i k ∷ reserved_from n (i + 1) ks

-- `nat x; bool skip; pre init_; post skip; skip;`: the name of the second declaration is reserved,
-- and so is the identifier of the pre. `skip` as a command and in an expression is not.
text_marks :
    reserved_from 2 0 (
    word (codes "nat") ∷ word (codes "x") ∷ kinds.Mark marks.Semi ∷ word (codes "bool") ∷ word (codes "skip") ∷ kinds.Mark marks.Semi
    ∷ kinds.Key keys.Pre ∷ word (codes "init_") ∷ kinds.Mark marks.Semi ∷ kinds.Key keys.Post ∷ word (codes "skip") ∷ kinds.Mark marks.Semi
    ∷ word (codes "skip") ∷ kinds.Mark marks.Semi ∷ [])
    ≡ false ∷ false ∷ false ∷ false ∷ true ∷ false ∷ false ∷ true ∷ false ∷ false ∷ false ∷ false ∷ false ∷ false ∷ []
text_marks = refl
