-- Worked examples of the errors 4 to 6, computed.
use Rattle.heyvl_places.specs.declared.spans.Span.{Span}
use Rattle.heyvl_syntax.specs.SourceFaults.{IsCrowd, IsLight, IsOverload, IsUncrowded, procedure_count, token_place}
use Rattle.heyvl_syntax.specs.declared.keys.Key.TheVariants as keys
use Rattle.heyvl_syntax.specs.declared.keys.Key.{Key}
use Rattle.heyvl_syntax.specs.declared.marks.Mark.TheVariants as marks
use Rattle.heyvl_syntax.specs.declared.tokens.Token.{Token}
use Rattle.heyvl_syntax.specs.declared.tokens.TokenKind.TheVariants as kinds
use Rattle.std.proofs.Common.{List, [], codes, lit<, lit≤, refl, replicate, ◌++◌, ◌∷◌, ◌≡◌, ℕ}

abbrev pub span : ℕ → ℕ → Span
span from to = record { from = from; to = to }

abbrev pub key : Key → Span → Token
key k s = record { kind = kinds.Key k; span = s }

abbrev pub paren : Token
paren = record { kind = kinds.Mark marks.ParenLeft; span = span 11 12 }

-- The 12 bytes coproc coin( have three tokens.
abbrev coin : List Token
coin = key keys.CoProc (span 0 6) ∷ record { kind = kinds.Word (codes "coin"); span = span 7 11 } ∷ paren ∷ []

coin_has_one_procedure : procedure_count coin ≡ 1
coin_has_one_procedure = refl

coin_is_light : IsLight coin
coin_is_light = refl

-- Of an error at the fourth token, which does not exist, the place is the end of the bytes; of one
-- at the third token, it is that of the token.
coin_ends : token_place (codes "coproc coin(") coin 3 ≡ span 12 12
coin_ends = refl

coin_opens : token_place (codes "coproc coin(") coin 2 ≡ span 11 12
coin_opens = refl

-- The end of the empty file.
nothing_ends : token_place [] [] 0 ≡ span 0 0
nothing_ends = refl

-- The 201st open parenthesis is error 5.
pub overload_201 : IsOverload (replicate 201 paren) 200
overload_201 = record { inside = lit< tt; is_first = refl }

pub light_200 : IsLight (replicate 200 paren)
light_200 = refl

-- 1,024 procedures are within the limit. The 1,025th is error 6, whether proc or coproc.
abbrev pub procs : ℕ → List Token
procs n = replicate n (key keys.Proc (span 0 4))

pub uncrowded_1024 : IsUncrowded (procs 1024)
uncrowded_1024 = lit≤ tt

pub crowd_1025 : IsCrowd (procs 1024 ++ key keys.CoProc (span 4 10) ∷ []) 1024
crowd_1025 = record { inside = lit< tt; before = refl; with_it = refl }

-- Other keywords do not count.
other_keys : procedure_count (key keys.Pre (span 0 3) ∷ key keys.While (span 4 9) ∷ paren ∷ []) ≡ 0
other_keys = refl
