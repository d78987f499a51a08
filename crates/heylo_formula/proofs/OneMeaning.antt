-- A form means at most one value.
use Rattle.std.proofs.Common.{◌≡◌, sym, ap, ap₂, ◌∙◌, subst, Bool, true, false}
use Rattle.heyvl_num.specs.Value.{Value, ◌+ᵛ◌, ◌*ᵛ◌}
use Rattle.heyvl_num.specs.Value.Value.{finite}
use Rattle.heyvl_num.specs.ValueOperators.{minᵛ, maxᵛ, impliesᵛ, coimpliesᵛ, monusᵛ}
use Rattle.heyvl_num.proofs.exported.Values.{≤ᵛ_refl, ≤ᵛ_antisym}
use Rattle.heylo_formula.specs.Operators.{differenceᵛ, validateᵛ, covalidateᵛ}
use Rattle.heylo_formula.specs.State.{Env, put, has}
use Rattle.heylo_formula.specs.Choices.{Choices}
use Rattle.heylo_formula.specs.Formula.{Form}
use Rattle.heylo_formula.specs.Meaning.{holds}
use Rattle.heylo_formula.specs.Goals.{Compares}
use Rattle.heylo_formula.specs.Extrema.{IsBest, Chosen, Means}
use Rattle.heylo_formula.specs.declared.types.Ty.{Ty}
use Rattle.heylo_formula.specs.declared.values.Val.{Val}

compares_self : (up : Bool) (x : Value) → Compares up x x
compares_self true x = ≤ᵛ_refl x
compares_self false x = ≤ᵛ_refl x

compares_both : (up : Bool) (x y : Value) → Compares up x y → Compares up y x → x ≡ y
compares_both true x y h k = ≤ᵛ_antisym x y k h
compares_both false x y h k = ≤ᵛ_antisym x y h k

-- The best of a family bounds the best of an equal one.
bounds : (up : Bool) (ty : Ty) (u u' : Val → Value) (m n : Value) → IsBest up ty u m → IsBest up ty u' n → ((v : Val) → has ty v ≡ true → u v ≡ u' v) → Compares up n m
bounds up ty u u' m n h k e = (h n).1 (λ v p. subst (λ w. Compares up n w) (sym (e v p)) ((k n).0 (compares_self up n) v p))

one_best : (up : Bool) (ty : Ty) (u u' : Val → Value) (m n : Value) → IsBest up ty u m → IsBest up ty u' n → ((v : Val) → has ty v ≡ true → u v ≡ u' v) → m ≡ n
one_best up ty u u' m n h k e = compares_both up m n (bounds up ty u' u n m k h (λ v p. sym (e v p))) (bounds up ty u u' m n h k e)

one_chosen : (t : Bool) (A B A' B' C : Type 0) → (A → A' → C) → (B → B' → C) → Chosen t A B → Chosen t A' B' → C
one_chosen true A B A' B' C f g h k = f h k
one_chosen false A B A' B' C f g h k = g h k

pub one_meaning : (f : Form) (s : Env) (m n : Value) → Means f s m → Means f s n → m ≡ n
one_meaning (Form.number v) s m n h k = h ∙ sym k
one_meaning (Form.variable x) s m n h k = h ∙ sym k
one_meaning (Form.sum a b) s m n h k = h.result ∙ ap₂ (λ x y. x +ᵛ y) (one_meaning a s h.first k.first h.first_meant k.first_meant) (one_meaning b s h.second k.second h.second_meant k.second_meant) ∙ sym k.result
one_meaning (Form.difference a b) s m n h k = h.result ∙ ap₂ (λ x y. differenceᵛ x y) (one_meaning a s h.first k.first h.first_meant k.first_meant) (one_meaning b s h.second k.second h.second_meant k.second_meant) ∙ sym k.result
one_meaning (Form.cut a b) s m n h k = h.result ∙ ap₂ (λ x y. monusᵛ x y) (one_meaning a s h.first k.first h.first_meant k.first_meant) (one_meaning b s h.second k.second h.second_meant k.second_meant) ∙ sym k.result
one_meaning (Form.product a b span) s m n h k = h.result ∙ ap₂ (λ x y. x *ᵛ y) (one_meaning a s h.first k.first h.first_meant k.first_meant) (one_meaning b s h.second k.second h.second_meant k.second_meant) ∙ sym k.result
one_meaning (Form.min a b) s m n h k = h.result ∙ ap₂ (λ x y. minᵛ x y) (one_meaning a s h.first k.first h.first_meant k.first_meant) (one_meaning b s h.second k.second h.second_meant k.second_meant) ∙ sym k.result
one_meaning (Form.max a b) s m n h k = h.result ∙ ap₂ (λ x y. maxᵛ x y) (one_meaning a s h.first k.first h.first_meant k.first_meant) (one_meaning b s h.second k.second h.second_meant k.second_meant) ∙ sym k.result
one_meaning (Form.imply a b) s m n h k = h.result ∙ ap₂ (λ x y. impliesᵛ x y) (one_meaning a s h.first k.first h.first_meant k.first_meant) (one_meaning b s h.second k.second h.second_meant k.second_meant) ∙ sym k.result
one_meaning (Form.co_imply a b) s m n h k = h.result ∙ ap₂ (λ x y. coimpliesᵛ x y) (one_meaning a s h.first k.first h.first_meant k.first_meant) (one_meaning b s h.second k.second h.second_meant k.second_meant) ∙ sym k.result
one_meaning (Form.scale w a) s m n h k = h.result ∙ ap (λ x. finite w *ᵛ x) (one_meaning a s h.part k.part h.meant k.meant) ∙ sym k.result
one_meaning (Form.validate a) s m n h k = h.result ∙ ap (λ x. validateᵛ x) (one_meaning a s h.part k.part h.meant k.meant) ∙ sym k.result
one_meaning (Form.co_validate a) s m n h k = h.result ∙ ap (λ x. covalidateᵛ x) (one_meaning a s h.part k.part h.meant k.meant) ∙ sym k.result
one_meaning (Form.embed g) s m n h k = h ∙ sym k
one_meaning (Form.iverson g) s m n h k = h ∙ sym k
one_meaning (Form.select g a b) s m n h k = one_chosen (holds g s Choices.stop) (Means a s m) (Means b s m) (Means a s n) (Means b s n) (m ≡ n) (one_meaning a s m n) (one_meaning b s m n) h k
one_meaning (Form.bind up x name ty a) s m n h k = one_best up ty h.family k.family m n h.best k.best (λ v p. one_meaning a (put x v s) (h.family v) (k.family v) (h.meant v p) (k.meant v p))
