-- The laws of the readers of one keyword.
use Rattle.heyvl_parse.proofs.Lawful.{IsTest, Laws}
use Rattle.heyvl_parse.proofs.Local.{local_one}
use Rattle.heyvl_parse.proofs.Right.{Holds, nowhere, right_one, right_type}
use Rattle.heyvl_parse.proofs.RightLaws.{key_test}
use Rattle.heyvl_parse.specs.readers.Combinators.{is_key, kind, no_kind, sign, starts}
use Rattle.heyvl_parse.specs.readers.ReadParts.{Got, type_name}
use Rattle.heyvl_parse.specs.internal.Rights.{two}
use Rattle.heyvl_parse.specs.internal.Statements.{by_key, is_reward, key_check, key_havoc, key_pick, key_validate}
use Rattle.heyvl_places.specs.declared.checks.CheckKind.TheVariants as checks
use Rattle.heyvl_places.specs.declared.checks.CheckKind.{CheckKind}
use Rattle.heyvl_places.specs.declared.spans.Span.{Span}
use Rattle.heyvl_syntax.specs.Grammar.{IsType, check_key, havoc_key, pick_key, validate_key}
use Rattle.heyvl_syntax.specs.Productions.{IsAt, IsKey, IsOne, at, ◌or◌, ◌then◌}
use Rattle.heyvl_syntax.specs.declared.keys.Key.TheVariants as keys
use Rattle.heyvl_syntax.specs.declared.keys.Key.{Key}
use Rattle.heyvl_syntax.specs.declared.tokens.Token.{Token}
use Rattle.heyvl_syntax.specs.declared.tokens.TokenKind.TheVariants as kinds
use Rattle.heyvl_syntax.specs.declared.tokens.TokenKind.{TokenKind}
use Rattle.heyvl_syntax.specs.declared.types.TypeName.TheVariants as types
use Rattle.heyvl_syntax.specs.declared.types.TypeName.{TypeName}
use Rattle.std.proofs.Common.{Bool, List, None, Option, Some, [], ap, cond, false, inl, inr, refl, true, ◌++◌, ◌∷◌, ◌≡◌, ℕ}

abbrev pub OfKind : {A : Type 0} → (A → TokenKind) → TokenKind → Option A → Type 0
OfKind back k None = Unit {0}
OfKind back k (Some x) = k ≡ back x

pub kind_laws : {A : Type 0} (n : ℕ) (of : TokenKind → Option A) (back : A → TokenKind) → ((k : TokenKind) → OfKind back k (of k)) → ((x : A) → of (back x) ≡ Some x) → A → Laws n (λ x. IsOne (back x)) no_kind (kind of)
kind_laws {A} n of back sound same x0 = record {
  right = right_one (λ x. IsOne (back x)) (λ t. of t.kind) (λ t. holds t (of t.kind) (sound t.kind)) (x0, at (back x0) nowhere ∷ [], (nowhere, refl));
  local = local_one (λ t. of t.kind);
  complete = λ x text rest (s, e) len quiet. rw (e, same x) refl;
}
  where
    holds : (t : Token) (o : Option A) → OfKind back t.kind o → Holds (λ x. IsOne (back x)) t o
    holds t None h = tt
    holds t (Some x) h = (t.span, ap (λ k. at k t.span ∷ []) h)

by_key_sound : {A : Type 0} (of : Key → Option A) (back : A → TokenKind) → ((key : Key) → OfKind back (kinds.Key key) (of key)) → (k : TokenKind) → OfKind back k (by_key of k)
by_key_sound of back sound (kinds.Key k) = sound k
by_key_sound of back sound (kinds.Word w) = tt
by_key_sound of back sound (kinds.Number n) = tt
by_key_sound of back sound (kinds.Mark m) = tt

check_sound : (key : Key) → OfKind (λ kind. kinds.Key (check_key kind)) (kinds.Key key) (key_check key)
check_sound keys.Assert = refl
check_sound keys.Assume = refl
check_sound keys.CoAssert = refl
check_sound keys.CoAssume = refl
check_sound _ = tt

pub check_laws : (n : ℕ) → Laws n (λ k. IsKey (check_key k)) no_kind (kind (by_key key_check))
check_laws n = kind_laws n (by_key key_check) (λ k. kinds.Key (check_key k)) (by_key_sound key_check (λ k. kinds.Key (check_key k)) check_sound) same checks.Assert
  where
    same : (k : CheckKind) → by_key key_check (kinds.Key (check_key k)) ≡ Some k
    same checks.Assert = refl
    same checks.Assume = refl
    same checks.CoAssert = refl
    same checks.CoAssume = refl

two_keys : (n : ℕ) (of : Key → Option Bool) (back : Bool → Key) → ((key : Key) → OfKind (λ b. kinds.Key (back b)) (kinds.Key key) (of key)) → of (back true) ≡ Some true → of (back false) ≡ Some false → Laws n (λ b. IsKey (back b)) no_kind (kind (by_key of))
two_keys n of back sound top other = kind_laws n (by_key of) (λ b. kinds.Key (back b)) (by_key_sound of (λ b. kinds.Key (back b)) sound) same true
  where
    same : (b : Bool) → by_key of (kinds.Key (back b)) ≡ Some b
    same true = top
    same false = other

pub validate_laws : (n : ℕ) → Laws n (λ b. IsKey (validate_key b)) no_kind (kind (by_key key_validate))
validate_laws n = two_keys n key_validate validate_key sound refl refl
  where
    sound : (key : Key) → OfKind (λ b. kinds.Key (validate_key b)) (kinds.Key key) (key_validate key)
    sound keys.Validate = refl
    sound keys.CoValidate = refl
    sound _ = tt

pub havoc_laws : (n : ℕ) → Laws n (λ b. IsKey (havoc_key b)) no_kind (kind (by_key key_havoc))
havoc_laws n = two_keys n key_havoc havoc_key sound refl refl
  where
    sound : (key : Key) → OfKind (λ b. kinds.Key (havoc_key b)) (kinds.Key key) (key_havoc key)
    sound keys.Havoc = refl
    sound keys.CoHavoc = refl
    sound _ = tt

-- `'reward'|'tick'`
abbrev pub IsRewardWord : Span → List Token → Type 0
IsRewardWord s = IsAt (kinds.Key keys.Reward) s or IsAt (kinds.Key keys.Tick) s

pub reward_laws : (n : ℕ) → Laws n IsRewardWord no_kind (sign is_reward)
reward_laws n = record {
  right = right_one IsRewardWord (λ t. cond (is_reward t.kind) (Some t.span) None) holds (nowhere, at (kinds.Key keys.Tick) nowhere ∷ [], inr refl);
  local = local_one (λ t. cond (is_reward t.kind) (Some t.span) None);
  complete = λ s text rest h len quiet. got s text rest h;
}
  where
    got : (s : Span) (text rest : List Token) → IsRewardWord s text → sign is_reward (text ++ rest) ≡ Got s rest
    got s text rest (inl e) = rw e refl
    got s text rest (inr e) = rw e refl

    holds : (t : Token) → Holds IsRewardWord t (cond (is_reward t.kind) (Some t.span) None)
    holds t = pick (is_key keys.Reward t.kind) (is_key keys.Tick t.kind) refl refl
      where
        pick : (one two : Bool) → is_key keys.Reward t.kind ≡ one → is_key keys.Tick t.kind ≡ two → Holds IsRewardWord t (cond (cond one true two) (Some t.span) None)
        pick true two e f = inl (ap (λ k. at k t.span ∷ []) ((key_test keys.Reward).only t.kind e))
        pick false true e f = inr (ap (λ k. at k t.span ∷ []) ((key_test keys.Tick).only t.kind f))
        pick false false e f = tt

pub pick_laws : (n : ℕ) → Laws n (λ b. IsKey (pick_key b)) no_kind (kind (by_key key_pick))
pick_laws n = two_keys n key_pick pick_key sound refl refl
  where
    sound : (key : Key) → OfKind (λ b. kinds.Key (pick_key b)) (kinds.Key key) (key_pick key)
    sound keys.Cap = refl
    sound keys.Cup = refl
    sound _ = tt

pub type_laws : (n : ℕ) → Laws n IsType no_kind type_name
type_laws n = record { right = right_type; local = local_one _; complete = λ t text rest h len quiet. done t text rest h }
  where
    done : (t : TypeName) (text rest : List Token) → IsType t text → type_name (text ++ rest) ≡ Got t rest
    done types.Bool text rest (s, e) = rw e refl
    done types.Int text rest (s, e) = rw e refl
    done types.UInt text rest (s, e) = rw e refl
    done types.UReal text rest (s, e) = rw e refl
    done types.EUReal text rest (s, e) = rw e refl
    done types.Real text rest (s, e) = rw e refl

pub led_starts : (P : List Token → Type 0) {kind : TokenKind} {test : TokenKind → Bool} → IsTest kind test → (text : List Token) → (IsOne kind then P) text → starts test text ≡ true
led_starts P is text (one, two, (s, h), p, e) = rw (e, h) is.holds
