-- A program that satisfies the premises of the laws: `pre 0; post 0;`.
use Rattle.pgcl_front.proofs.MainBounds.{bounds_carry_over}
use Rattle.pgcl_front.proofs.MainSums.{sums_are_equal}
use Rattle.pgcl_front.specs.EqualSums.{GuardedSumsAreEqual, IsGuardedBound}
use Rattle.heyvl_num.specs.Gcd.{gcd, gcd_steps}
use Rattle.heyvl_num.specs.Rational.{leqʳ, oneʳ, ratio, zeroʳ, ◌*ʳ◌, ◌+ʳ◌}
use Rattle.heyvl_num.specs.Value.{infinite_times, is_zeroʳ, leqᵛ, zeroᵛ, ◌*ᵛ◌, ◌+ᵛ◌}
use Rattle.heyvl_num.specs.WeightedSums.{scaled, weighted_sum}
use Rattle.heyvl_places.specs.declared.spans.Span.{Span}
use Rattle.heyvl_syntax.specs.Expressions.{Expression}
use Rattle.heyvl_syntax.specs.Procedures.{Procedure}
use Rattle.heyvl_syntax.specs.declared.keys.Key.TheVariants as keys
use Rattle.heyvl_syntax.specs.declared.marks.Mark.TheVariants as marks
use Rattle.heyvl_syntax.specs.declared.tokens.Token.{Token}
use Rattle.heyvl_syntax.specs.declared.tokens.TokenKind.TheVariants as kinds
use Rattle.heyvl_syntax.specs.declared.tokens.TokenKind.{TokenKind}
use Rattle.static_rules.specs.Files.{first_fault, resolved}
use Rattle.static_rules.specs.Literals.{literal_quotient}
use Rattle.typed_expressions.specs.LiteralValues.{inverse_value, literal_value}
use Rattle.guarded_commands.specs.Grammar.{IsProgram}
use Rattle.guarded_commands.specs.Programs.{BlockTree, ProgramTree}
use Rattle.guarded_commands.specs.ReservedNames.{IsReservedAt, is_reserved}
use Rattle.guarded_commands.specs.Translation.{translated}
use Rattle.guarded_commands.specs.Translations.{IsTranslation}
use Rattle.run_machine.specs.Bound.{Bound}
use Rattle.run_machine.specs.Runs.{runs}
use Rattle.std.proofs.Common.{List, None, [], drop, false, pos, refl, suc, sym, true, zero, ◌∙◌}
use Rattle.std.proofs.Common.{◌∷◌, ◌≡◌, ℕ}
use Rattle.std.specs.Fmt.{digits}

abbrev place : Span
place = record { from = 0; to = 0 }

abbrev at : TokenKind → Token
at kind = record { kind = kind; span = place }

abbrev null : Expression
null = Expression.number (record { digits = pos 0; places = 0 }) place

abbrev empty : ProgramTree
empty = record { declarations = []; pre = null; post = null; body = BlockTree.done }

abbrev semi : Token
semi = at (kinds.Mark marks.Semi)

abbrev null_token : Token
null_token = at (kinds.Number (record { digits = pos 0; places = 0 }))

abbrev tokens : List Token
tokens =
    at (kinds.Key keys.Pre) ∷ null_token ∷ semi ∷ at (kinds.Key keys.Post) ∷ null_token ∷ semi ∷ []

abbrev file : List Procedure
file = translated place empty ∷ []

abbrev no_tokens : List Token
no_tokens = []

spelled : IsProgram empty tokens
spelled = record {
  grammar = (
    [],
    tokens,
    refl,
    (
      at (kinds.Key keys.Pre) ∷ [],
      _,
      (place, refl),
      (
        null_token ∷ [],
        _,
        ((place, refl), refl),
        (
          semi ∷ [],
          _,
          (place, refl),
          (
            at (kinds.Key keys.Post) ∷ [],
            _,
            (place, refl),
            (
              null_token ∷ [],
              _,
              ((place, refl), refl),
              (semi ∷ [], [], (place, refl), refl, refl),
              refl,
            ),
            refl,
          ),
          refl,
        ),
        refl,
      ),
      refl,
    ),
    refl,
  );
  unquantified = refl;
}

drop_none : (i : ℕ) → drop i no_tokens ≡ no_tokens
drop_none zero = refl
drop_none (suc i) = refl

-- No identifier occurs, and so no reserved name.
unreserved : (i : ℕ) → IsReservedAt 0 tokens i → ⊥
unreserved i r = by i r.token r.more r.stands r.reserved
  where
    differ : (i : ℕ) (t u : Token) (ts us : List Token) → t ∷ ts ≡ u ∷ us
        → is_reserved 0 i t.kind ≡ false → is_reserved 0 i u.kind ≡ true → ⊥
    differ i t u ts us e free taken =
        let same : t ≡ u = cc in let both = rw (← same) at taken in cc

    by : (i : ℕ) (u : Token) (us : List Token)
        → drop i tokens ≡ u ∷ us → is_reserved 0 i u.kind ≡ true → ⊥
    by zero u us e r = differ 0 _ u _ us e refl r
    by (suc zero) u us e r = differ 1 _ u _ us e refl r
    by (suc (suc zero)) u us e r = differ 2 _ u _ us e refl r
    by (suc (suc (suc zero))) u us e r = differ 3 _ u _ us e refl r
    by (suc (suc (suc (suc zero)))) u us e r = differ 4 _ u _ us e refl r
    by (suc (suc (suc (suc (suc zero))))) u us e r = differ 5 _ u _ us e refl r
    by (suc (suc (suc (suc (suc (suc i)))))) u us e r = let none = sym (drop_none i) ∙ e in cc

abbrev translation : IsTranslation tokens file
translation = record {
  program = empty;
  translatable = record { light = refl; spelled = spelled; unreserved = unreserved };
  is_file = refl;
}

clean : first_fault file ≡ None
unfolding literal_value inverse_value literal_quotient zeroʳ ratio gcd gcd_steps leqʳ oneʳ digits
clean = refl

-- All sums of its coproc are 0.
bound : Bound (resolved file) 0
unfolding runs weighted_sum scaled literal_value inverse_value literal_quotient ratio gcd gcd_steps zeroʳ oneʳ zeroᵛ ◌+ʳ◌ ◌*ʳ◌ ◌+ᵛ◌ ◌*ᵛ◌ infinite_times is_zeroʳ leqʳ leqᵛ digits
bound s typed zero t = record { holds = refl }
bound s typed (suc zero) t = record { holds = refl }
bound s typed (suc (suc n)) t = record { holds = refl }

-- So its sums are those of the program, and 0 bounds the program.
sums : GuardedSumsAreEqual empty file
sums = sums_are_equal tokens file translation clean

bounded : IsGuardedBound empty
bounded = bounds_carry_over tokens file translation clean bound
