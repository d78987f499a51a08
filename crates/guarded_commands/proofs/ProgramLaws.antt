-- The laws of the readers of declarations and of whole programs.
use Rattle.heyvl_parse.proofs.exported.Readers.{Both, Laws, OfKind, Some_text, each_laws, key_test, kind_laws, laws_alike, lead_laws, made_laws, mapped_laws, mark_test, pair_free, pair_laws, some_both, some_lead, some_trail, some_word, trail_laws, word_laws}
use Rattle.heyvl_parse.proofs.exported.Wholes.{ended_laws, every_kind}
use Rattle.heyvl_parse.specs.readers.Combinators.{each, either, is_there, no_kind, starts}
use Rattle.heyvl_syntax.proofs.exported.Sequences.{then_map}
use Rattle.heyvl_syntax.specs.Expressions.{Expression}
use Rattle.heyvl_syntax.specs.Grammar.{IsFull}
use Rattle.heyvl_syntax.specs.Productions.{IsEach, IsKey, IsMark, IsName, ◌then◌}
use Rattle.heyvl_syntax.specs.declared.keys.Key.TheVariants as keys
use Rattle.heyvl_syntax.specs.declared.marks.Mark.TheVariants as marks
use Rattle.heyvl_syntax.specs.declared.tokens.Token.{Token}
use Rattle.heyvl_syntax.specs.declared.tokens.TokenKind.TheVariants as kinds
use Rattle.heyvl_syntax.specs.declared.tokens.TokenKind.{TokenKind}
use Rattle.guarded_commands.proofs.CommandLaws.{IsEnded, commands_laws, ended_expr_laws, on_commands, some_commands, some_ended}
use Rattle.guarded_commands.specs.Grammar.{IsCommands, IsDeclaration, IsProg, type_word}
use Rattle.guarded_commands.specs.Programs.{ProgramTree}
use Rattle.guarded_commands.specs.declared.programs.Declaration.{Declaration}
use Rattle.guarded_commands.specs.declared.programs.VariableType.TheVariants as types
use Rattle.guarded_commands.specs.declared.programs.VariableType.{VariableType}
use Rattle.guarded_commands.specs.internal.Programs.{Parts, after, before, declaration, declaration_tree, declared, is_type, kind_type, parts, parts_tree, program, variable_type}
use Rattle.std.proofs.Common.{Bool, List, None, Some, ap, append_assoc, arith, cond, eqb, false, refl, sym, true, ◌++◌, ◌∙◌, ◌≡◌, ℕ}
use Rattle.std.specs.Cmp.Lexicographic.{pointwise, same_text}

type_sound : (k : TokenKind) → OfKind (λ t. kinds.Word (type_word t)) k (kind_type k)
type_sound (kinds.Word w) = first (pointwise eqb w (type_word types.Bool)) refl
  where
    third : (b : Bool) → pointwise eqb w (type_word types.Real) ≡ b → OfKind (λ t. kinds.Word (type_word t)) (kinds.Word w) (cond b (Some types.Real) None)
    third true e = ap kinds.Word (same_text w (type_word types.Real) (sym e))
    third false e = tt

    second : (b : Bool) → pointwise eqb w (type_word types.Nat) ≡ b → OfKind (λ t. kinds.Word (type_word t)) (kinds.Word w) (cond b (Some types.Nat) (cond (pointwise eqb w (type_word types.Real)) (Some types.Real) None))
    second true e = ap kinds.Word (same_text w (type_word types.Nat) (sym e))
    second false e = third (pointwise eqb w (type_word types.Real)) refl

    first : (b : Bool) → pointwise eqb w (type_word types.Bool) ≡ b → OfKind (λ t. kinds.Word (type_word t)) (kinds.Word w) (cond b (Some types.Bool) (cond (pointwise eqb w (type_word types.Nat)) (Some types.Nat) (cond (pointwise eqb w (type_word types.Real)) (Some types.Real) None)))
    first true e = ap kinds.Word (same_text w (type_word types.Bool) (sym e))
    first false e = second (pointwise eqb w (type_word types.Nat)) refl
type_sound (kinds.Key k) = tt
type_sound (kinds.Number n) = tt
type_sound (kinds.Mark m) = tt

type_found : (t : VariableType) → kind_type (kinds.Word (type_word t)) ≡ Some t
type_found types.Bool = refl
type_found types.Nat = refl
type_found types.Real = refl

variable_type_laws : (n : ℕ) → Laws n (λ t. IsName (type_word t)) no_kind variable_type
variable_type_laws n = kind_laws n kind_type (λ t. kinds.Word (type_word t)) type_sound type_found types.Bool

abbrev IsDeclared : VariableType × List ℕ → List Token → Type 0
IsDeclared p = IsName (type_word p.0) then IsName p.1 then IsMark marks.Semi

declared_laws : (n : ℕ) → Laws n IsDeclared no_kind declared
declared_laws n = pair_free (variable_type_laws n) (trail_laws (mark_test marks.Semi) (word_laws n) refl) (some_trail (kinds.Mark marks.Semi) some_word)

declaration_laws : (n : ℕ) → Laws n IsDeclaration no_kind declaration
declaration_laws n =
    laws_alike IsDeclaration (made_laws declaration_tree (declared_laws n))
    (λ d text (p, same, h). rw same (h, refl))
    (λ d text (h, place). ((d.ty, d.name), ap (λ s. declaration_tree (d.ty, d.name) s) place, h))

declaration_begins : (d : Declaration) (text : List Token) → IsDeclaration d text → starts is_type text ≡ true
declaration_begins d text ((one, two, (s, h), q, e), place) = rw (e, h) (ap is_there (type_found d.ty))

declarations_laws : (n : ℕ) → Laws n (IsEach IsDeclaration) (either no_kind is_type) (each is_type declaration n)
declarations_laws n = each_laws is_type (declaration_laws n) declaration_begins (λ k e. refl) n (omega arith)

before_laws : (n : ℕ) → Laws n (λ a. IsKey keys.Pre then IsEnded a) no_kind (before n)
before_laws n = lead_laws (key_test keys.Pre) (ended_expr_laws n) some_ended

after_laws : (n : ℕ) → Laws n (λ a. IsKey keys.Post then IsEnded a) no_kind (after n)
after_laws n = lead_laws (key_test keys.Post) (ended_expr_laws n) some_ended

-- Three parts and what follows them, with the grouping removed.
opened : (P Q R S : List Token → Type 0) (ts : List Token) → ((P then Q then R) then S) ts → (P then Q then R then S) ts
opened P Q R S ts (front, back, (one, two, p, (three, four, q, r, e3), e2), s, e1) = (
  one,
  two ++ back,
  p,
  (three, four ++ back, q, (four, back, r, s, refl), ap (λ z. z ++ back) e3 ∙ append_assoc three four back),
  e1 ∙ ap (λ z. z ++ back) e2 ∙ append_assoc one two back,
)

closed : (P Q R S : List Token → Type 0) (ts : List Token) → (P then Q then R then S) ts → ((P then Q then R) then S) ts
closed P Q R S ts (one, two, p, (three, four, q, (five, back, r, s, e3), e2), e1) = (
  one ++ (three ++ five),
  back,
  (one, three ++ five, p, (three, five, q, r, refl), refl),
  s,
  e1 ∙ ap (λ z. one ++ z) (e2 ∙ ap (λ z. three ++ z) e3 ∙ sym (append_assoc three five back)) ∙ sym (append_assoc one (three ++ five) back),
)

abbrev IsPre : Expression → List Token → Type 0
IsPre a = IsKey keys.Pre then IsEnded a

abbrev IsPost : Expression → List Token → Type 0
IsPost a = IsKey keys.Post then IsEnded a

abbrev IsParts : Parts → List Token → Type 0
IsParts p = IsEach IsDeclaration p.0 then IsPre p.1.0 then IsPost p.1.1.0 then IsCommands p.1.1.1

some_behind : Some_text (Both IsPost IsCommands)
some_behind = some_both (some_lead (kinds.Key keys.Post) some_ended) some_commands

parts_laws : (n : ℕ) → Laws n IsParts on_commands (parts n)
parts_laws n =
    pair_laws (declarations_laws n) (pair_free (before_laws n) (pair_free (after_laws n) (commands_laws n) some_commands) some_behind)
    (some_both (some_lead (kinds.Key keys.Pre) some_ended) some_behind)
    (λ y text rest h quiet. first y.0 text rest h)
  where
    first : (a : Expression) {Q : List Token → Type 0} (text rest : List Token) → (IsPre a then Q) text → starts (either no_kind is_type) (text ++ rest) ≡ false
    first a text rest (one, two, (o, w, (s, h), q, e2), r, e) = rw (e, e2, h) refl

into_prog : (p : Parts) (text : List Token) → IsParts p text → IsProg (parts_tree p) text
into_prog p text (one, two, ds, h, e) = (
  one,
  two,
  ds,
  opened (IsKey keys.Pre) (IsFull p.1.0) (IsMark marks.Semi) _ two
      (then_map (IsPre p.1.0) (IsPre p.1.0) (IsPost p.1.1.0 then IsCommands p.1.1.1) (IsKey keys.Post then IsFull p.1.1.0 then IsMark marks.Semi then IsCommands p.1.1.1) two (λ xs k. k)
      (λ xs k. opened (IsKey keys.Post) (IsFull p.1.1.0) (IsMark marks.Semi) (IsCommands p.1.1.1) xs k) h),
  e,
)

from_prog : (p : ProgramTree) (text : List Token) → IsProg p text → IsParts (p.declarations, (p.pre, (p.post, p.body))) text
from_prog p text (one, two, ds, h, e) = (
  one,
  two,
  ds,
  then_map (IsPre p.pre) (IsPre p.pre) (IsKey keys.Post then IsFull p.post then IsMark marks.Semi then IsCommands p.body) (IsPost p.post then IsCommands p.body) two (λ xs k. k)
      (λ xs k. closed (IsKey keys.Post) (IsFull p.post) (IsMark marks.Semi) (IsCommands p.body) xs k)
      (closed (IsKey keys.Pre) (IsFull p.pre) (IsMark marks.Semi) _ two h),
  e,
)

pub program_laws : (n : ℕ) → Laws n IsProg every_kind (program n)
program_laws n = ended_laws (mapped_laws parts_tree IsProg (parts_laws n) into_prog (λ p text h. ((p.declarations, (p.pre, (p.post, p.body))), refl, from_prog p text h)))
