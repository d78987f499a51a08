-- The laws of the readers of the parts of statements without blocks.
use Rattle.heyvl_parse.proofs.KeyLaws.{IsRewardWord, check_laws, havoc_laws, led_starts, reward_laws, type_laws}
use Rattle.heyvl_parse.proofs.Lawful.{Both, Laws, each_laws, laws_same, lead_is, lead_laws, list_laws, local_front, mapped_laws, optional_laws, pair_free, pair_laws, some_both, some_list}
use Rattle.heyvl_parse.proofs.Local.{Local, local_bind, local_mapped}
use Rattle.heyvl_parse.proofs.Right.{Right, Some_text, right_as, right_map, some_type, some_word}
use Rattle.heyvl_parse.proofs.RightLaws.{Takes, anything, call_laws, call_local, ended_by, expr_laws, key_test, led, mark_test, on_right, picked_by, right_laws, some_full, some_lead, some_right, takes_call, takes_mapped, within_local, word_laws}
use Rattle.heyvl_parse.specs.readers.Combinators.{each, either, is_operator, lead, list, no_kind, starts, with_front}
use Rattle.heyvl_parse.specs.readers.ReadParts.{Got, expr, is_mark, mapped, pair, word, ◌>>=◌}
use Rattle.heyvl_parse.specs.internal.Rights.{call, is_call, two}
use Rattle.heyvl_parse.specs.internal.Statements.{alone, assigned, assigned_if, checked, declared, given, havocked, is_reward, rewarded}
use Rattle.heyvl_places.specs.declared.spans.Span.{Span}
use Rattle.heyvl_syntax.specs.Expressions.{Expression}
use Rattle.heyvl_syntax.specs.Grammar.{IsAssign, IsFull, IsGiven, IsRight, IsType, check_key, havoc_key}
use Rattle.heyvl_syntax.specs.Productions.{IsKey, IsList, IsMark, IsName, IsOptional, ◌or◌, ◌then◌}
use Rattle.heyvl_syntax.specs.Statements.{RightSide}
use Rattle.heyvl_syntax.specs.declared.keys.Key.TheVariants as keys
use Rattle.heyvl_syntax.specs.declared.marks.Mark.TheVariants as marks
use Rattle.heyvl_syntax.specs.declared.tokens.Token.{Token}
use Rattle.heyvl_syntax.specs.declared.tokens.TokenKind.TheVariants as kinds
use Rattle.heyvl_syntax.specs.declared.types.TypeName.{TypeName}
use Rattle.std.proofs.Common.{Bool, List, None, Option, [], ap, arith, false, inl, inr, length, refl, true, ◌++◌, ◌<◌, ◌∙◌, ◌∷◌, ◌≡◌, ℕ}

given_laws : (n : ℕ) → Laws n IsGiven on_right (given n)
given_laws n = lead_laws (mark_test marks.Assign) (right_laws n) some_right

some_given : Some_text IsGiven
some_given = some_lead (kinds.Mark marks.Assign) some_right

-- `'var' W ':' type ('=' right)?`
abbrev pub Declared : List ℕ × (TypeName × Option RightSide) → List Token → Type 0
Declared p = IsKey keys.Var then IsName p.0 then IsMark marks.Colon then IsType p.1.0 then IsOptional IsGiven p.1.1

some_missing : Some_text (IsOptional IsGiven)
some_missing = (None, [], refl)

pub declared_laws : (n : ℕ) → Laws n Declared (either on_right (is_mark marks.Assign)) (declared n)
declared_laws n =
    lead_laws (key_test keys.Var)
    (pair_free (word_laws n)
    (lead_laws (mark_test marks.Colon)
    (pair_free (type_laws n) (optional_laws (is_mark marks.Assign) (given_laws n) (λ r text h. led_starts (IsRight r) (mark_test marks.Assign) text h)) some_missing)
    (some_both some_type some_missing))
    (some_lead (kinds.Mark marks.Colon) (some_both some_type some_missing)))
    (some_both some_word (some_lead (kinds.Mark marks.Colon) (some_both some_type some_missing)))

-- `list(W) '=' right  |  W '(' list0(expr) ')'`
abbrev pub Assigned : List (List ℕ) × RightSide → List Token → Type 0
Assigned p = IsAssign p.0 p.1

names_laws : (n : ℕ) → Laws n (IsList IsName) (either no_kind (is_mark marks.Comma)) (list word n)
names_laws n = list_laws (word_laws n) some_word refl

targets_laws : (n : ℕ) → Laws n (Both (IsList IsName) IsGiven) on_right (pair (list word n) (given n))
targets_laws n = pair_laws (names_laws n) (given_laws n) some_given (λ y text rest h quiet. ended_by _ (either no_kind (is_mark marks.Comma)) (kinds.Mark marks.Assign) refl text rest h)

into_assigned : (p : List (List ℕ) × RightSide) (text : List Token) → Both (IsList IsName) IsGiven p text → Assigned p text
into_assigned ([], r) text (one, two, h, g, e) = absurd h
into_assigned (x ∷ xs, r) text h = h

pub assigned_laws : (n : ℕ) → Laws n Assigned on_right (assigned n)
assigned_laws n = record {
  right = λ ts. rights ts (is_call ts);
  local = call_local (mapped alone (call n)) (pair (list word n) (given n)) (assigned n) (λ ts. same ts (is_call ts)) (local_mapped alone (call n) (call_laws n).local) (targets_laws n).local (takes_mapped alone (call n) (takes_call n)) takes;
  complete = done;
}
  where
    rights : (ts : List Token) (b : Bool) → Right Assigned ts (assigned_if n b ts)
    rights ts true = right_map _ Assigned alone ts _ (λ p text h. h) ((call_laws n).right ts)
    rights ts false = right_as (Both (IsList IsName) IsGiven) Assigned ts _ into_assigned ((targets_laws n).right ts)

    same : (ts : List Token) (b : Bool) → assigned_if n b ts ≡ picked_by (mapped alone (call n)) (pair (list word n) (given n)) b ts
    same ts true = refl
    same ts false = refl

    further_names : Local (each (is_mark marks.Comma) (lead (is_mark marks.Comma) word) n)
    further_names = (each_laws (is_mark marks.Comma) (lead_laws (mark_test marks.Comma) (word_laws n) some_word) (λ x text h. led_starts (IsName x) (mark_test marks.Comma) text h) (λ k e. refl) n (omega arith)).local

    takes : Takes (pair (list word n) (given n))
    takes w s us =
        within_local (λ ts. with_front (w ∷ []) (each (is_mark marks.Comma) (lead (is_mark marks.Comma) word) n ts) >>= λ x r. given n r >>= λ y r'. Got (x, y) r') us _
        (local_bind (λ ts. with_front (w ∷ []) (each (is_mark marks.Comma) (lead (is_mark marks.Comma) word) n ts)) _ (local_front (w ∷ []) _ further_names) (λ x. local_mapped (λ y. (x, y)) (given n) (given_laws n).local) us)

    done : (p : List (List ℕ) × RightSide) (text rest : List Token) → Assigned p text → length (text ++ rest) < n → starts on_right rest ≡ false → assigned n (text ++ rest) ≡ Got p rest
    done ([], RightSide.call f xs) text rest h len quiet =
        let (s, back, inner, e) = led _ (kinds.Word f) text rest h in
        let (s2, back2, inner2, e2) = led _ (kinds.Mark marks.ParenLeft) back rest inner in
        let class : is_call (text ++ rest) ≡ true = rw (e, e2) refl in
        ap (λ b. assigned_if n b (text ++ rest)) class ∙ rw ((call_laws n).complete (f, xs) text rest h len (anything rest)) refl
    done ([], RightSide.plain a) text rest h len quiet = absurd h
    done ([], RightSide.flip a) text rest h len quiet = absurd h
    done ([], RightSide.unif a b) text rest h len quiet = absurd h
    done ([], RightSide.choose a) text rest h len quiet = absurd h
    done (x ∷ xs, r) text rest h len quiet = ap (λ b. assigned_if n b (text ++ rest)) (class x xs r text rest h) ∙ (targets_laws n).complete (x ∷ xs, r) text rest h len quiet
      where
        class : (x : List ℕ) (xs : List (List ℕ)) (r : RightSide) (text rest : List Token) → (IsList IsName (x ∷ xs) then IsGiven r) text → is_call (text ++ rest) ≡ false
        class x [] r text rest (one, two, (n1, n2, (s, hn), hm, e1), g, e) =
            let (s2, back, inner, e2) = led (IsRight r) (kinds.Mark marks.Assign) two rest g in
            rw (e, e1, hn, hm, e2) refl
        class x (y ∷ ys) r text rest (one, two, (n1, n2, (s, hn), (m1, m2, (s2, hc), hm, em), e1), g, e) = rw (e, e1, hn, em, hc) refl

pub checked_laws : (n : ℕ) → Laws n (Both (λ k. IsKey (check_key k)) IsFull) is_operator (checked n)
checked_laws n = pair_free (check_laws n) (expr_laws n) some_full

pub havocked_laws : (n : ℕ) → Laws n (Both (λ b. IsKey (havoc_key b)) (IsList IsName)) (either no_kind (is_mark marks.Comma)) (havocked n)
havocked_laws n = pair_free (havoc_laws n) (names_laws n) (some_list some_word)

abbrev pub IsRewarded : Expression → List Token → Type 0
IsRewarded a = (IsKey keys.Reward or IsKey keys.Tick) then IsFull a

pub rewarded_laws : (n : ℕ) → Laws n IsRewarded is_operator (rewarded n)
rewarded_laws n = laws_same (rewarded n) (lead_is is_reward (expr n)) (mapped_laws (λ p. p.1) IsRewarded (pair_free (reward_laws n) (expr_laws n) some_full) into out)
  where
    into : (p : Span × Expression) (text : List Token) → Both IsRewardWord IsFull p text → IsRewarded p.1 text
    into (s, a) text (one, two, inl h, q, e) = (one, two, inl (s, h), q, e)
    into (s, a) text (one, two, inr h, q, e) = (one, two, inr (s, h), q, e)

    out : (a : Expression) (text : List Token) → IsRewarded a text → (p : Span × Expression) × (a ≡ p.1) × Both IsRewardWord IsFull p text
    out a text (one, two, inl (s, h), q, e) = ((s, a), refl, (one, two, inl h, q, e))
    out a text (one, two, inr (s, h), q, e) = ((s, a), refl, (one, two, inr h, q, e))
