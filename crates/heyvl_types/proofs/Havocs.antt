-- Lists of acts, and the acts of a havoc built so far.
use Rattle.heyvl_types.proofs.Rests.{rest_next}
use Rattle.heyvl_acts.specs.Acts.{Act, Acts, join}
use Rattle.heyvl_acts.specs.PlainActs.{act_of, acts_of}
use Rattle.typed_expressions.specs.Scopes.{Scope, find}
use Rattle.static_rules.specs.StatementActs.{havocs, number_or_zero, type_of_local}
use Rattle.heyvl_acts.specs.declared.acts.Act as A
use Rattle.heyvl_places.specs.declared.spans.Span.{Span}
use Rattle.std.proofs.Common.{Bool, List, [], ap, drop, get_or, length, refl, sym, ◌++◌, ◌+◌, ◌<◌, ◌∙◌, ◌≡◌, ◌∷◌, ◌≤◌, ℕ}
use Rattle.std.proofs.lemmas.List.{drop_all}

pub join_done : (a : Acts) → join a Acts.done ≡ a
join_done Acts.done = refl
join_done (Acts.next a more) = ap (λ r. Acts.next a r) (join_done more)

pub join_assoc : (a b c : Acts) → join (join a b) c ≡ join a (join b c)
join_assoc Acts.done b c = refl
join_assoc (Acts.next a more) b c = ap (λ r. Acts.next a r) (join_assoc more b c)

pub acts_append : (xs ys : List A.Act) → acts_of (xs ++ ys) ≡ join (acts_of xs) (acts_of ys)
acts_append [] ys = refl
acts_append (x ∷ xs) ys = ap (λ r. Acts.next (act_of x) r) (acts_append xs ys)

pub havoc_more : (sc : Scope) (co : Bool) (s : Span) (xs : List (List ℕ)) (i : ℕ) (x : List ℕ) (made : List A.Act) (one : A.Act) → havocs sc co xs s ≡ join (acts_of made) (havocs sc co (drop i xs) s) → i < length xs → x ≡ get_or xs i x → act_of one ≡ Act.any (number_or_zero (find sc x)) co (type_of_local (find sc x)) s → havocs sc co xs s ≡ join (acts_of (made ++ one ∷ [])) (havocs sc co (drop (i + 1) xs) s)
havoc_more sc co s xs i x made one inv lt is a = inv ∙ (ap (λ r. join (acts_of made) r) (rest_next (λ r. havocs sc co r s) xs i x lt is) ∙ (ap (λ r. join (acts_of made) (Acts.next r (havocs sc co (drop (i + 1) xs) s))) (sym a) ∙ (sym (join_assoc (acts_of made) (Acts.next (act_of one) Acts.done) (havocs sc co (drop (i + 1) xs) s)) ∙ ap (λ r. join r (havocs sc co (drop (i + 1) xs) s)) (sym (acts_append made (one ∷ []))))))

pub havoc_all : (sc : Scope) (co : Bool) (s : Span) (xs : List (List ℕ)) (i : ℕ) (made : List A.Act) → havocs sc co xs s ≡ join (acts_of made) (havocs sc co (drop i xs) s) → length xs ≤ i → acts_of made ≡ havocs sc co xs s
havoc_all sc co s xs i made inv over = sym (inv ∙ (ap (λ r. join (acts_of made) (havocs sc co r s)) (drop_all i xs over) ∙ join_done (acts_of made)))
