-- The first error of small programs of guarded commands, for each number, and programs beside them
-- that are translated.
use Rattle.heyvl_parse.proofs.exported.Spellings.{no_spelling_fault}
use Rattle.heyvl_parse.proofs.exported.Wholes.{fault_clause, found_all}
use Rattle.heyvl_parse.specs.declared.stops.PartStop.TheVariants as parts
use Rattle.heyvl_parse.specs.readers.PartStops.{IsPartStop}
use Rattle.heyvl_parse.specs.readers.ReadParts.{Bad, Got, Out, Read}
use Rattle.heyvl_places.specs.declared.spans.Span.{Span}
use Rattle.heyvl_syntax.proofs.exported.TokenReads.{lexes_read}
use Rattle.heyvl_syntax.specs.Expressions.{Expression}
use Rattle.heyvl_syntax.specs.Procedures.{Procedure}
use Rattle.heyvl_syntax.specs.TokenLaws.{TokensAreUnique, TokensExcludeFaults}
use Rattle.heyvl_syntax.specs.Tokens.Part.{white}
use Rattle.heyvl_syntax.specs.Tokens.{Lexes}
use Rattle.heyvl_syntax.specs.declared.keys.Key.TheVariants as keys
use Rattle.heyvl_syntax.specs.declared.marks.Mark.TheVariants as marks
use Rattle.heyvl_syntax.specs.declared.tokens.Token.{Token}
use Rattle.heyvl_syntax.specs.declared.tokens.TokenKind.TheVariants as kinds
use Rattle.heyvl_syntax.specs.declared.tokens.TokenKind.{TokenKind}
use Rattle.guarded_commands.proofs.ProgramLaws.{program_laws}
use Rattle.guarded_commands.proofs.Quantifiers.{IsFirst, stop_before, stop_there}
use Rattle.guarded_commands.proofs.ReservedPlaces.{unreserved_all}
use Rattle.guarded_commands.proofs.SourceClauses.{no_fault}
use Rattle.guarded_commands.proofs.TranslationClauses.{no_translation_fault}
use Rattle.guarded_commands.proofs.TranslationClauses.{translation_fault_unique}
use Rattle.guarded_commands.specs.Grammar.{IsProg, IsProgram}
use Rattle.guarded_commands.specs.ProgramFaults.{IsPgclStop, IsProgramFault}
use Rattle.guarded_commands.specs.Programs.{BlockTree, ProgramTree, program_tree}
use Rattle.guarded_commands.specs.ReservedNames.{IsFirstReserved, IsReservedAt, IsTranslatable}
use Rattle.guarded_commands.specs.ReservedNames.{is_reserved}
use Rattle.guarded_commands.specs.Sources.{IsPgclFault, IsPgclSource}
use Rattle.guarded_commands.specs.Sources.IsPgclFault.{untranslated}
use Rattle.guarded_commands.specs.Translation.{translated}
use Rattle.guarded_commands.specs.TranslationFaults.IsTranslationFault.{reserved, unspelled}
use Rattle.guarded_commands.specs.TranslationFaults.{IsReservedFault, IsTranslationFault}
use Rattle.guarded_commands.specs.TranslationFaults.{IsTranslationStop}
use Rattle.guarded_commands.specs.Translations.{IsTranslation}
use Rattle.guarded_commands.specs.declared.stops.PgclStop.TheVariants as stops
use Rattle.guarded_commands.specs.internal.Programs.{program}
use Rattle.std.proofs.Common.{Err, List, [], arith, codes, drop, false, inl, inr, length, lit<}
use Rattle.std.proofs.Common.{◌+◌, refl, replicate, suc, true, zero, ◌++◌, ◌<◌, ◌∷◌, ◌≡◌, ℕ}
use Rattle.std.specs.Prelude.{pos}

-- ---- Tokens

abbrev place : Span
place = record { from = 0; to = 0 }

abbrev at : TokenKind → Token
at kind = record { kind = kind; span = place }

abbrev word : List ℕ → Token
word w = at (kinds.Word w)

abbrev null : Token
null = at (kinds.Number (record { digits = pos 0; places = 0 }))

abbrev semi : Token
semi = at (kinds.Mark marks.Semi)

-- `pre TOKEN; post 0;`
abbrev with_pre : Token → List Token
with_pre t = at (kinds.Key keys.Pre) ∷ t ∷ semi ∷ at (kinds.Key keys.Post) ∷ null ∷ semi ∷ []

-- ---- Reading

-- With fuel for all of `ts`, the reader of programs refuses `ts` with `k` tokens left.
abbrev IsRefused : List Token → ℕ → Type 0
IsRefused ts k =
    (n : ℕ) → length ts < n → (rest : List Token) × (program n ts ≡ Bad rest) × (length rest ≡ k)

part_stop : (ts : List Token) (k : ℕ) → IsRefused ts k → IsPartStop IsProg ts (parts.Fault k)
part_stop ts k bad =
    fault_clause IsProg program program_laws program_tree ts (Err (parts.Fault k)) bad

abbrev value : {A : Type 0} → A → Read A → A
value x (Got y rest) = y
value x (Bad rest) = x
value x Out = x

abbrev no_tree : ProgramTree
no_tree = record {
  declarations = [];
  pre = Expression.truth true place;
  post = Expression.truth true place;
  body = BlockTree.done;
}

-- The program that these tokens spell, as it is read.
abbrev tree_of : List Token → ProgramTree
tree_of ts = value no_tree (program 20 ts)

-- ---- Error 30 at a token, and at the end

-- A program does not begin with `post`.
abbrev starts_with_post : List Token
starts_with_post = at (kinds.Key keys.Post) ∷ []

post_refused : IsRefused starts_with_post 1
post_refused zero h = absurd (omega (arith, h))
post_refused (suc zero) h = absurd (omega (arith, h))
post_refused (suc (suc n)) h = (starts_with_post, refl, refl)

post_is_no_program : IsProgramFault starts_with_post 30 0
post_is_no_program =
    let stop = part_stop starts_with_post 1 post_refused in
    inr (refl, refl, (stop_before starts_with_post starts_with_post 1 1 0 first refl refl stop).1)
  where
    first : IsFirst starts_with_post 1
    first = record {
      inside = omega arith;
      before = refl;
      here = λ less. absurd (omega (arith, less));
    }

-- It is the error that is reported, also by the translation.
post_is_a_cause :
    IsPgclStop starts_with_post (stops.Fault 30 0)
    × IsTranslationStop starts_with_post (stops.Fault 30 0)
post_is_a_cause = (post_is_no_program, unspelled post_is_no_program)

-- No token at all ends too early.
nothing_refused : IsRefused [] 0
nothing_refused zero h = absurd (omega (arith, h))
nothing_refused (suc n) h = ([], refl, refl)

nothing_is_no_program : IsProgramFault [] 30 0
nothing_is_no_program =
    inr (refl, refl, (stop_before [] [] 0 0 0 first refl refl (part_stop [] 0 nothing_refused)).1)
  where
    first : IsFirst [] 0
    first = record {
      inside = omega arith;
      before = refl;
      here = λ less. absurd (omega (arith, less));
    }

-- So the empty text has error 30 at its end.
empty_text_fails : IsPgclFault [] 30 place
empty_text_fails =
    untranslated [] 0 (record { parts = []; splits = refl; are_tokens = refl })
    (unspelled nothing_is_no_program) refl

-- ---- Error 30 at a quantifier

-- `pre 0; post 0; sup` stops at `sup`, the token with index 6.
abbrev with_sup : List Token
with_sup = with_pre null ++ at (kinds.Key keys.Sup) ∷ []

plain_is_prog : IsProg (tree_of (with_pre null)) (with_pre null)
plain_is_prog =
    found_all IsProg program program_laws 20 (with_pre null) (tree_of (with_pre null)) refl

sup_is_no_program : IsProgramFault with_sup 30 6
sup_is_no_program =
    let there = stop_there with_sup (with_pre null) 6 1 (tree_of (with_pre null)) first refl refl in
    inr (refl, refl, (there (omega arith) plain_is_prog).1)
  where
    first : IsFirst with_sup 6
    first = record { inside = omega arith; before = refl; here = λ less. refl }

-- ---- Error 5: the limit of the nesting depth

too_deep : IsProgramFault (replicate 201 (at (kinds.Mark marks.ParenLeft))) 5 200
too_deep = inl (refl, record { inside = lit< tt; is_first = refl })

-- ---- Error 31: reserved names

-- `pre pick_1; post 0;` uses a name of the translation, the token with index 1.
abbrev with_pick : List Token
with_pick = with_pre (word (codes "pick_1"))

pick_is_prog : IsProg (tree_of with_pick) with_pick
pick_is_prog = found_all IsProg program program_laws 20 with_pick (tree_of with_pick) refl

first_key : IsReservedAt 0 with_pick 0 → ⊥
first_key r = by r.token r.more r.stands r.reserved
  where
    by : (t : Token) (ts : List Token) → with_pick ≡ t ∷ ts → is_reserved 0 0 t.kind ≡ true → ⊥
    by t ts e r = let same : at (kinds.Key keys.Pre) ≡ t = cc in let no = rw (← same) at r in cc

pick_is_first : IsFirstReserved 0 with_pick 1
pick_is_first = record {
  here = record {
    token = word (codes "pick_1");
    more = drop 2 with_pick;
    stands = refl;
    reserved = refl;
  };
  before = before;
}
  where
    before : (j : ℕ) → j < 1 → IsReservedAt 0 with_pick j → ⊥
    before zero less r = first_key r
    before (suc j) less r = absurd (omega (arith, less))

pick_is_reserved : IsReservedFault with_pick 1
pick_is_reserved = record {
  program = tree_of with_pick;
  light = refl;
  spelled = record { grammar = pick_is_prog; unquantified = refl };
  first = pick_is_first;
}

pick_fails : IsTranslationFault with_pick 31 1
pick_fails = reserved refl pick_is_reserved

-- ---- Programs without an error

-- The tokens of `pre 0; post 0;` at any places.
abbrev plain_at : (ℕ → Span) → List Token
plain_at s =
    record { kind = kinds.Key keys.Pre; span = s 0 } ∷ record { kind = null.kind; span = s 1 }
    ∷ record { kind = semi.kind; span = s 2 } ∷ record { kind = kinds.Key keys.Post; span = s 3 }
    ∷ record { kind = null.kind; span = s 4 } ∷ record { kind = semi.kind; span = s 5 } ∷ []

plain_is_program : (s : ℕ → Span) → IsProgram (tree_of (plain_at s)) (plain_at s)
plain_is_program s = record {
  grammar = found_all IsProg program program_laws 20 (plain_at s) (tree_of (plain_at s)) refl;
  unquantified = refl;
}

plain_is_translatable : (s : ℕ → Span) → IsTranslatable (tree_of (plain_at s)) (plain_at s)
plain_is_translatable s = record {
  light = refl;
  spelled = plain_is_program s;
  unreserved = unreserved_all 0 6 (plain_at s) (omega arith) before;
}
  where
    not_here : (j : ℕ) (t u : Token) (ts us : List Token) → t ∷ ts ≡ u ∷ us
        → is_reserved 0 j t.kind ≡ false → is_reserved 0 j u.kind ≡ true → ⊥
    not_here j t u ts us e free taken =
        let same : t ≡ u = cc in let both = rw (← same) at taken in cc

    before : (j : ℕ) → j < 6 → IsReservedAt 0 (plain_at s) j → ⊥
    before zero less r = not_here 0 _ r.token _ r.more r.stands refl r.reserved
    before (suc zero) less r = not_here 1 _ r.token _ r.more r.stands refl r.reserved
    before (suc (suc zero)) less r = not_here 2 _ r.token _ r.more r.stands refl r.reserved
    before (suc (suc (suc zero))) less r = not_here 3 _ r.token _ r.more r.stands refl r.reserved
    before (suc (suc (suc (suc zero)))) less r =
        not_here 4 _ r.token _ r.more r.stands refl r.reserved
    before (suc (suc (suc (suc (suc zero))))) less r =
        not_here 5 _ r.token _ r.more r.stands refl r.reserved
    before (suc (suc (suc (suc (suc (suc j)))))) less r = absurd (omega (arith, less))

-- The file of the tokens.
abbrev plain_file : (ℕ → Span) → List Procedure
plain_file s = translated (s 0) (tree_of (plain_at s)) ∷ []

plain_is_translated : (s : ℕ → Span) → IsTranslation (plain_at s) (plain_file s)
plain_is_translated s =
    let ready = plain_is_translatable s in
    record { program = tree_of (plain_at s); translatable = ready; is_file = refl }

plain_has_no_error :
    (s : ℕ → Span) (number i : ℕ) → IsTranslationFault (plain_at s) number i → ⊥
plain_has_no_error s number i =
    no_translation_fault (plain_at s) (plain_file s) number i (plain_is_translated s)

plain_is_spelled : (s : ℕ → Span) (number i : ℕ) → IsProgramFault (plain_at s) number i → ⊥
plain_is_spelled s number i fault = plain_has_no_error s number i (unspelled fault)

-- The places of the tokens in the text `pre 0;post 0;`.
abbrev places : ℕ → Span
places zero = record { from = 0; to = 3 }
places (suc zero) = record { from = 4; to = 5 }
places (suc (suc zero)) = record { from = 5; to = 6 }
places (suc (suc (suc zero))) = record { from = 6; to = 10 }
places (suc (suc (suc (suc zero)))) = record { from = 11; to = 12 }
places (suc (suc (suc (suc (suc n))))) = record { from = 12; to = 13 }

after_space :
    (n : ℕ) (rest : List ℕ) (ts : List Token) → Lexes (n + 1) rest ts → Lexes n (32 ∷ rest) ts
after_space n rest ts l = record {
  parts = white ∷ l.parts;
  splits = (1, (refl, refl), l.splits);
  are_tokens = l.are_tokens;
}

plain_lexes : Lexes 0 (codes "pre 0;post 0;") (plain_at places)
plain_lexes =
    lexes_read 0 (kinds.Key keys.Pre) (codes "pre") (codes " 0;post 0;") refl _
    (after_space 3 (codes "0;post 0;") _
    (lexes_read 4 null.kind (codes "0") (codes ";post 0;") refl _
    (lexes_read 5 semi.kind (codes ";") (codes "post 0;") refl _
    (lexes_read 6 (kinds.Key keys.Post) (codes "post") (codes " 0;") refl _
    (after_space 10 (codes "0;") _
    (lexes_read 11 null.kind (codes "0") (codes ";") refl _
    (lexes_read 12 semi.kind (codes ";") [] refl []
    (record { parts = []; splits = refl; are_tokens = refl }))))))))

-- The text is translated to the file.
plain_is_source : IsPgclSource (codes "pre 0;post 0;") (plain_file places)
plain_is_source = record {
  tokens = plain_at places;
  lexes = plain_lexes;
  translation = plain_is_translated places;
}

-- So it has no error, by two laws of tokens.
plain_text_has_none :
    TokensAreUnique → TokensExcludeFaults → (number : ℕ) (span : Span)
    → IsPgclFault (codes "pre 0;post 0;") number span → ⊥
plain_text_has_none unique excluded number span =
    no_fault unique excluded (codes "pre 0;post 0;") (plain_file places) number span plain_is_source

-- A program with a reserved name has no error of the grammar, and error 31 alone.
pick_is_spelled : (number i : ℕ) → IsProgramFault with_pick number i → ⊥
pick_is_spelled number i =
    no_spelling_fault IsProgram 30 with_pick (tree_of with_pick) number i refl
    (record { grammar = pick_is_prog; unquantified = refl })

pick_fails_once : (number i : ℕ) → IsTranslationFault with_pick number i → (number ≡ 31) × (i ≡ 1)
pick_fails_once number i fault = translation_fault_unique with_pick number 31 i 1 fault pick_fails
