-- Acts that are appended one by one, and the rest of a list.
use Rattle.std.proofs.Common.{◌≡◌, ◌<◌, ◌+◌, ℕ, refl, sym, ap, ◌∙◌, List, [], ◌∷◌, ◌++◌, length, get_or, drop}
use Rattle.std.proofs.lemmas.List.{at_drop_more}
use Rattle.heyvl_acts.specs.declared.acts.Act as A
use Rattle.heyvl_acts.specs.Acts.{Act, Acts, join}
use Rattle.heyvl_acts.specs.PlainActs.{act_of, acts_of}

pub join_nothing : (acts : Acts) → join acts Acts.done ≡ acts
join_nothing Acts.done = refl
join_nothing (Acts.next a rest) = ap (λ r. Acts.next a r) (join_nothing rest)

pub join_twice : (a b c : Acts) → join (join a b) c ≡ join a (join b c)
join_twice Acts.done b c = refl
join_twice (Acts.next a rest) b c = ap (λ r. Acts.next a r) (join_twice rest b c)

pub one_more : (xs ys : List A.Act) (a : A.Act) (p : Act) (rest : Acts) → ys ≡ xs ++ a ∷ [] → act_of a ≡ p → join (acts_of ys) rest ≡ join (acts_of xs) (Acts.next p rest)
one_more xs ys a p rest e f = ap (λ l. join (acts_of l) rest) e ∙ (shown xs ∙ ap (λ q. join (acts_of xs) (Acts.next q rest)) f)
  where
    shown : (xs : List A.Act) → join (acts_of (xs ++ a ∷ [])) rest ≡ join (acts_of xs) (Acts.next (act_of a) rest)
    shown [] = refl
    shown (x ∷ xs) = ap (λ r. Acts.next (act_of x) r) (shown xs)

pub last_one : (xs ys : List A.Act) (a : A.Act) (p : Act) → ys ≡ xs ++ a ∷ [] → act_of a ≡ p → acts_of ys ≡ join (acts_of xs) (Acts.next p Acts.done)
last_one xs ys a p e f = sym (join_nothing (acts_of ys)) ∙ one_more xs ys a p Acts.done e f

pub left_over : {X : Type 0} → (xs : List X) (i : ℕ) (x : X) → i < length xs → x ≡ get_or xs i x → drop i xs ≡ x ∷ drop (i + 1) xs
left_over xs i x lt is = at_drop_more (λ l. l) xs i x lt ∙ ap (λ y. y ∷ drop (i + 1) xs) (sym is)

pub number_left : (xs : List ℕ) (i x : ℕ) → i < length xs → x ≡ get_or xs i 0 → drop i xs ≡ x ∷ drop (i + 1) xs
number_left xs i x lt is = at_drop_more (λ l. l) xs i 0 lt ∙ ap (λ y. y ∷ drop (i + 1) xs) (sym is)
