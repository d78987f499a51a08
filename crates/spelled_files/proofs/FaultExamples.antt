-- Small files and programs with a first error, of the text and static, and a file without one.
use Rattle.heyvl_parse.specs.Laws.{FileIsUnique}
use Rattle.heyvl_places.specs.declared.spans.Span.{Span}
use Rattle.heyvl_syntax.proofs.exported.Steps.{made}
use Rattle.heyvl_syntax.proofs.exported.TokenReads.{lexes_read}
use Rattle.heyvl_syntax.proofs.exported.Unique.{lexes_unique}
use Rattle.heyvl_syntax.specs.Comments.{closes_at}
use Rattle.heyvl_syntax.specs.Expressions.{Expression}
use Rattle.heyvl_syntax.specs.Grammar.{Clause, IsClauses, IsFile, IsFull}
use Rattle.heyvl_syntax.specs.Procedures.{Procedure}
use Rattle.heyvl_syntax.specs.Productions.{IsOne, at}
use Rattle.heyvl_syntax.specs.SourceFaults.{IsSource, SourcesHaveNoFault}
use Rattle.heyvl_syntax.specs.Tokens.Part.{white}
use Rattle.heyvl_syntax.specs.Tokens.{Lexes, Stops}
use Rattle.heyvl_syntax.specs.declared.keys.Key.TheVariants as keys
use Rattle.heyvl_syntax.specs.declared.marks.Mark.TheVariants as marks
use Rattle.heyvl_syntax.specs.declared.tokens.Token.{Token}
use Rattle.heyvl_syntax.specs.declared.tokens.TokenKind.TheVariants as kinds
use Rattle.heyvl_syntax.specs.declared.tokens.TokenKind.{TokenKind}
use Rattle.heyvl_num.specs.Gcd.{gcd, gcd_steps}
use Rattle.heyvl_num.specs.Rational.{ratio}
use Rattle.pgcl_front.specs.Sources.IsPgclFault.{unlexed}
use Rattle.spelled_files.specs.Programs.{IsProgramFault, ProgramFaultIsUnique}
use Rattle.spelled_files.specs.Sources.IsFileFault.{spelling, static}
use Rattle.spelled_files.specs.Sources.{IsFileFault, IsSourceStop}
use Rattle.spelled_files.specs.declared.stops.SourceStop.TheVariants.{Fault}
use Rattle.static_rules.specs.Files.{first_fault}
use Rattle.typed_expressions.specs.LiteralValues.{literal_value}
use Rattle.std.proofs.Common.{List, None, [], ap, arith, codes, drop, false, inl, inr, pos, refl}
use Rattle.std.proofs.Common.{subst, suc, sym, true, zero, ◌+◌, ◌++◌, ◌∙◌, ◌∷◌, ◌≡◌, ℕ}

abbrev span : ℕ → ℕ → Span
span from to = record { from = from; to = to }

-- ---- An error of the text

-- No bytes close a comment.
never_closed : (k : ℕ) → closes_at (drop 2 (codes "/*")) k ≡ false
never_closed zero = refl
never_closed (suc k) = refl

open_comment : Stops 0 (codes "/*") 2 (span 0 2)
open_comment = record {
  parts = [];
  stops = (2, inr (inl (refl, refl, record { opens = refl; never = never_closed })), refl);
}

comment_fails : IsFileFault (codes "/*") 2 (span 0 2)
comment_fails = spelling (inl open_comment)

-- It is also the error of a program.
comment_fails_as_program : IsProgramFault (codes "/*") 2 (span 0 2)
comment_fails_as_program = IsProgramFault.spelling (unlexed open_comment)

-- Programs have one first error, and so this one has not the error 30.
comment_has_no_other :
    ProgramFaultIsUnique → (place : Span) → IsProgramFault (codes "/*") 30 place → ⊥
comment_has_no_other one place fault =
    let same = one (codes "/*") 30 2 place (span 0 2) fault comment_fails_as_program in
    let no : 30 ≡ 2 = same.0 in
    absurd (omega (arith, no))

-- ---- A static error

after_space :
    (n : ℕ) (rest : List ℕ) (ts : List Token) → Lexes (n + 1) rest ts → Lexes n (32 ∷ rest) ts
after_space n rest ts l = record {
  parts = white ∷ l.parts;
  splits = (1, (refl, refl), l.splits);
  are_tokens = l.are_tokens;
}

-- The tokens of `coproc a()->()pre `, and then others.
abbrev headed : List Token → List Token
headed ts =
    made (kinds.Key keys.CoProc) 0 6 ∷ made (kinds.Word (codes "a")) 7 1
    ∷ made (kinds.Mark marks.ParenLeft) 8 1 ∷ made (kinds.Mark marks.ParenRight) 9 1
    ∷ made (kinds.Mark marks.Arrow) 10 2 ∷ made (kinds.Mark marks.ParenLeft) 12 1
    ∷ made (kinds.Mark marks.ParenRight) 13 1 ∷ made (kinds.Key keys.Pre) 14 3 ∷ ts

head_lexes : (rest : List ℕ) (ts : List Token)
    → Lexes 18 rest ts → Lexes 0 (codes "coproc a()->()pre " ++ rest) (headed ts)
head_lexes rest ts l =
    lexes_read 0 (kinds.Key keys.CoProc) (codes "coproc") (codes " a()->()pre " ++ rest) refl _
    (after_space 6 (codes "a()->()pre " ++ rest) _
    (lexes_read 7 (kinds.Word (codes "a")) (codes "a") (codes "()->()pre " ++ rest) refl _
    (lexes_read 8 (kinds.Mark marks.ParenLeft) (codes "(") (codes ")->()pre " ++ rest) refl _
    (lexes_read 9 (kinds.Mark marks.ParenRight) (codes ")") (codes "->()pre " ++ rest) refl _
    (lexes_read 10 (kinds.Mark marks.Arrow) (codes "->") (codes "()pre " ++ rest) refl _
    (lexes_read 12 (kinds.Mark marks.ParenLeft) (codes "(") (codes ")pre " ++ rest) refl _
    (lexes_read 13 (kinds.Mark marks.ParenRight) (codes ")") (codes "pre " ++ rest) refl _
    (lexes_read 14 (kinds.Key keys.Pre) (codes "pre") (32 ∷ rest) refl _
    (after_space 17 rest ts l)))))))))

abbrev null : TokenKind
null = kinds.Number (record { digits = pos 0; places = 0 })

-- The tokens of the pre, and those of ` post 0`.
abbrev tail : TokenKind → List Token
tail kind = made kind 18 1 ∷ made (kinds.Key keys.Post) 20 4 ∷ made null 25 1 ∷ []

end_lexes : Lexes 19 (codes " post 0") (made (kinds.Key keys.Post) 20 4 ∷ made null 25 1 ∷ [])
end_lexes =
    after_space 19 (codes "post 0") _
    (lexes_read 20 (kinds.Key keys.Post) (codes "post") (codes " 0") refl _
    (after_space 24 (codes "0") _
    (lexes_read 25 null (codes "0") [] refl []
    (record { parts = []; splits = refl; are_tokens = refl }))))

abbrev zero_post : Expression
zero_post = Expression.number (record { digits = pos 0; places = 0 }) (span 25 26)

-- The coproc with this pre.
abbrev with_pre : Expression → Procedure
with_pre e = record {
  co = true;
  note = None;
  name = codes "a";
  inputs = [];
  outputs = [];
  pres = e ∷ [];
  posts = zero_post ∷ [];
  body = None;
  span = span 0 26;
}

one_token : {kind : TokenKind} {s : Span} → IsOne kind (at kind s ∷ [])
one_token {s = s} = (s, refl)

clauses : (e : Expression) (kind : TokenKind) → IsFull e (made kind 18 1 ∷ [])
    → IsClauses (e ∷ []) (zero_post ∷ []) (made (kinds.Key keys.Pre) 14 3 ∷ tail kind)
clauses e kind full = (
  Clause.pre e ∷ Clause.post zero_post ∷ [],
  (
    _,
    _,
    (_, _, one_token, full, refl),
    (_, _, (_, _, one_token, (one_token, refl), refl), refl, refl),
    refl,
  ),
  refl,
  refl,
)

is_file : (e : Expression) (kind : TokenKind)
    → IsFull e (made kind 18 1 ∷ []) → IsFile (with_pre e ∷ []) (headed (tail kind))
is_file e kind full = (
  _,
  _,
  (
    (
      _,
      _,
      refl,
      (
        _,
        _,
        one_token,
        (
          _,
          _,
          one_token,
          (
            _,
            _,
            one_token,
            (
              _,
              _,
              refl,
              (
                _,
                _,
                one_token,
                (
                  _,
                  _,
                  one_token,
                  (
                    _,
                    _,
                    one_token,
                    (
                      _,
                      _,
                      refl,
                      (
                        _,
                        _,
                        one_token,
                        (_, _, clauses e kind full, refl, refl),
                        refl,
                      ),
                      refl,
                    ),
                    refl,
                  ),
                  refl,
                ),
                refl,
              ),
              refl,
            ),
            refl,
          ),
          refl,
        ),
        refl,
      ),
      refl,
    ),
    refl,
  ),
  refl,
  refl,
)

-- `coproc a()->()pre x post 0` uses the unknown name `x`.
abbrev unknown : List ℕ
unknown = codes "coproc a()->()pre x post 0"

abbrev x : Expression
x = Expression.name (codes "x") (span 18 19)

unknown_source : IsSource unknown (with_pre x ∷ [])
unknown_source = record {
  tokens = headed (tail (kinds.Word (codes "x")));
  lexes =
      head_lexes (codes "x post 0") (tail (kinds.Word (codes "x")))
      (lexes_read 18 (kinds.Word (codes "x")) (codes "x") (codes " post 0") refl _ end_lexes);
  within = record { light = refl; uncrowded = omega arith };
  is_file = is_file x (kinds.Word (codes "x")) (one_token, refl);
}

unknown_name : IsFileFault unknown 10 (span 18 19)
unfolding literal_value ratio gcd gcd_steps
unknown_name = static (with_pre x ∷ []) unknown_source refl

unknown_is_a_cause : IsSourceStop unknown (Fault 10 (span 18 19))
unknown_is_a_cause = unknown_name

-- ---- A file without an error

-- `coproc a()->()pre 0 post 0`
abbrev clean : List ℕ
clean = codes "coproc a()->()pre 0 post 0"

abbrev zero_pre : Expression
zero_pre = Expression.number (record { digits = pos 0; places = 0 }) (span 18 19)

clean_source : IsSource clean (with_pre zero_pre ∷ [])
clean_source = record {
  tokens = headed (tail null);
  lexes =
      head_lexes (codes "0 post 0") (tail null)
      (lexes_read 18 null (codes "0") (codes " post 0") refl _ end_lexes);
  within = record { light = refl; uncrowded = omega arith };
  is_file = is_file zero_pre null (one_token, refl);
}

faultless : first_fault (with_pre zero_pre ∷ []) ≡ None
unfolding literal_value ratio gcd gcd_steps
faultless = refl

-- The tokens of a text spell one file.
same_source : FileIsUnique → (bytes : List ℕ) (file other : List Procedure)
    → IsSource bytes file → IsSource bytes other → file ≡ other
same_source one bytes file other s t =
    let same = lexes_unique 0 bytes s.tokens t.tokens s.lexes t.lexes in
    one t.tokens file other (subst (IsFile file) same s.is_file) t.is_file

-- By the laws of texts it has no first error.
clean_has_no_fault : SourcesHaveNoFault → FileIsUnique → (number : ℕ) (place : Span)
    → IsFileFault clean number place → ⊥
clean_has_no_fault none one number place (spelling fault) =
    none clean (with_pre zero_pre ∷ []) number place clean_source fault
clean_has_no_fault none one number place (static file source e) =
    let same = same_source one clean (with_pre zero_pre ∷ []) file clean_source source in
    let both = sym faultless ∙ ap first_fault same ∙ e in
    absurd (cc)
