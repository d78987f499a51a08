-- Names that a program may not use, since the translation introduces them or `skip` names a
-- command. This project's own.
use Rattle.heyvl_syntax.specs.SourceFaults.{IsLight}
use Rattle.heyvl_syntax.specs.declared.tokens.Token.{Token}
use Rattle.heyvl_syntax.specs.declared.tokens.TokenKind.TheVariants as kinds
use Rattle.heyvl_syntax.specs.declared.tokens.TokenKind.{TokenKind}
use Rattle.guarded_commands.specs.Grammar.{IsProgram}
use Rattle.guarded_commands.specs.Programs.{ProgramTree}
use Rattle.std.specs.Cmp.Lexicographic.{pointwise}
use Rattle.std.specs.List.{starts_with}
use Rattle.std.specs.Prelude.{Bool, List, codes, drop, false, length, nat_eq, nat_lt, true, ◌%◌}
use Rattle.std.specs.Prelude.{◌&&◌, ◌/◌, ◌<◌, ◌||◌, ◌∷◌, ◌≡◌, ℕ}

-- An identifier that begins with `init_` or `pick_`.
abbrev pub is_made : TokenKind → Bool
is_made (kinds.Word w) = starts_with nat_eq w (codes "init_")
    || starts_with nat_eq w (codes "pick_")
is_made (kinds.Key k) = false
is_made (kinds.Number n) = false
is_made (kinds.Mark m) = false

-- The identifier `skip`.
abbrev pub is_skip_word : TokenKind → Bool
is_skip_word (kinds.Word w) = pointwise nat_eq w (codes "skip")
is_skip_word (kinds.Key k) = false
is_skip_word (kinds.Number n) = false
is_skip_word (kinds.Mark m) = false

-- `declares n i`: the token with the index `i` is a declared name, in a program of `n`
-- declarations. They come first, each has three tokens, and the second of these is the name.
abbrev pub declares : ℕ → ℕ → Bool
declares n i = nat_lt (i / 3) n && nat_eq (i % 3) 1

-- An identifier anywhere that begins with `init_` or `pick_`, or a declared name that is `skip`.
abbrev pub is_reserved : ℕ → ℕ → TokenKind → Bool
is_reserved n i kind = is_made kind || (is_skip_word kind && declares n i)

-- The token with the index `i` is reserved, in a program of `n` declarations.
pub record IsReservedAt (n : ℕ) (tokens : List Token) (i : ℕ) : Type 0 where
  pub token : Token
  pub more : List Token
  pub stands : drop i tokens ≡ token ∷ more
  pub reserved : is_reserved n i token.kind ≡ true

-- The first reserved token has the index `i`.
pub record IsFirstReserved (n : ℕ) (tokens : List Token) (i : ℕ) : Type 0 where
  pub here : IsReservedAt n tokens i
  pub before : (j : ℕ) → j < i → IsReservedAt n tokens j → ⊥

-- `IsTranslatable program tokens`: the load of `tokens` is within its limit, and they spell
-- `program` without a reserved name.
pub record IsTranslatable (program : ProgramTree) (tokens : List Token) : Type 0 where
  pub light : IsLight tokens
  pub spelled : IsProgram program tokens
  pub unreserved : (i : ℕ) → IsReservedAt (length program.declarations) tokens i → ⊥
