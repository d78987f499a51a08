-- A form whose binders are over Bool has a meaning: the larger or the smaller of two values.
use Rattle.std.proofs.Common.{◌≡◌, ℕ, refl, Bool, true, false, cond}
use Rattle.std.specs.Prelude.{◌↔◌}
use Rattle.heyvl_num.specs.Value.{Value, ◌+ᵛ◌, ◌*ᵛ◌}
use Rattle.heyvl_num.specs.Value.Value.{finite}
use Rattle.heyvl_num.specs.ValueOperators.{minᵛ, maxᵛ, impliesᵛ, coimpliesᵛ, monusᵛ}
use Rattle.heyvl_num.proofs.exported.Operators.{min_adjoint, max_adjoint}
use Rattle.heylo_formula.specs.Operators.{differenceᵛ, validateᵛ, covalidateᵛ}
use Rattle.heylo_formula.specs.State.{Env, put, has}
use Rattle.heylo_formula.specs.Choices.{Choices}
use Rattle.heylo_formula.specs.Formula.{Form}
use Rattle.heylo_formula.specs.Meaning.{holds}
use Rattle.heylo_formula.specs.Goals.{Compares}
use Rattle.heylo_formula.specs.Extrema.{Means, Mapped, Joined, Chosen, IsBest}
use Rattle.heylo_formula.specs.Typing.{is_bool}
use Rattle.heylo_formula.specs.MeaningLaws.{chooses_finitely, HasMeaning}
use Rattle.heylo_formula.specs.declared.types.Ty.{Ty}
use Rattle.heylo_formula.specs.declared.values.Val.{Val}
use Rattle.heylo_formula.specs.declared.values.Val.TheVariants.{Truth, Num}
use Rattle.heylo_formula.proofs.exported.Plain.{and_both}

better : Bool → Value → Value → Value
better true x y = maxᵛ x y
better false x y = minᵛ x y

better_is : (up : Bool) (x y z : Value) → Compares up z (better up x y) ↔ (Compares up z x × Compares up z y)
unfolding better
better_is true x y z = max_adjoint x y z
better_is false x y z = min_adjoint x y z

best_of : (up : Bool) (family : Val → Value) → IsBest up Ty.Bool family (better up (family (Truth true)) (family (Truth false)))
best_of up family z = (λ h. each ((better_is up (family (Truth true)) (family (Truth false)) z).0 h), λ h. (better_is up (family (Truth true)) (family (Truth false)) z).1 (h (Truth true) refl, h (Truth false) refl))
  where
    each : Compares up z (family (Truth true)) × Compares up z (family (Truth false)) → (v : Val) → has Ty.Bool v ≡ true → Compares up z (family v)
    each p (Truth true) e = p.0
    each p (Truth false) e = p.1
    each p (Num x) e = absurd (cc)

mapped : (op : Value → Value) (a : Form) (s : Env) (h : HasMeaning a s) → Mapped op (Means a s) (op h.meaning)
mapped op a s h = record { part = h.meaning; meant = h.meant; result = refl }

joined : (op : Value → Value → Value) (a b : Form) (s : Env) (h : HasMeaning a s) (k : HasMeaning b s) → Joined op (Means a s) (Means b s) (op h.meaning k.meaning)
joined op a b s h k = record { first = h.meaning; second = k.meaning; first_meant = h.meant; second_meant = k.meant; result = refl }

chosen : (t : Bool) (a b : Form) (s : Env) (h : HasMeaning a s) (k : HasMeaning b s) → Chosen t (Means a s (cond t h.meaning k.meaning)) (Means b s (cond t h.meaning k.meaning))
chosen true a b s h k = h.meant
chosen false a b s h k = k.meant

bound : (up : Bool) (ty : Ty) (w name : ℕ) (a : Form) (s : Env) → is_bool ty ≡ true → ((v : Val) → HasMeaning a (put w v s)) → HasMeaning (Form.bind up w name ty a) s
bound up Ty.Bool w name a s e h = record { meaning = better up ((h (Truth true)).meaning) ((h (Truth false)).meaning); meant = record { family = λ v. (h v).meaning; meant = λ v k. (h v).meant; best = best_of up (λ v. (h v).meaning) } }
bound up Ty.Int w name a s e h = absurd (cc)
bound up Ty.UInt w name a s e h = absurd (cc)
bound up Ty.UReal w name a s e h = absurd (cc)

pub has_meaning : (f : Form) (s : Env) → chooses_finitely f ≡ true → HasMeaning f s
has_meaning (Form.number v) s h0 = record { meaning = _; meant = refl }
has_meaning (Form.variable w) s h0 = record { meaning = _; meant = refl }
has_meaning (Form.sum a b) s h0 = let e = and_both (chooses_finitely a) (chooses_finitely b) h0 in let p = has_meaning a s e.0 in let q = has_meaning b s e.1 in record { meaning = _; meant = joined (λ x y. x +ᵛ y) a b s p q }
has_meaning (Form.difference a b) s h0 = let e = and_both (chooses_finitely a) (chooses_finitely b) h0 in let p = has_meaning a s e.0 in let q = has_meaning b s e.1 in record { meaning = _; meant = joined differenceᵛ a b s p q }
has_meaning (Form.cut a b) s h0 = let e = and_both (chooses_finitely a) (chooses_finitely b) h0 in let p = has_meaning a s e.0 in let q = has_meaning b s e.1 in record { meaning = _; meant = joined monusᵛ a b s p q }
has_meaning (Form.scale w a) s h0 = let p = has_meaning a s h0 in record { meaning = _; meant = mapped (λ x. finite w *ᵛ x) a s p }
has_meaning (Form.product a b span) s h0 = let e = and_both (chooses_finitely a) (chooses_finitely b) h0 in let p = has_meaning a s e.0 in let q = has_meaning b s e.1 in record { meaning = _; meant = joined (λ x y. x *ᵛ y) a b s p q }
has_meaning (Form.min a b) s h0 = let e = and_both (chooses_finitely a) (chooses_finitely b) h0 in let p = has_meaning a s e.0 in let q = has_meaning b s e.1 in record { meaning = _; meant = joined minᵛ a b s p q }
has_meaning (Form.max a b) s h0 = let e = and_both (chooses_finitely a) (chooses_finitely b) h0 in let p = has_meaning a s e.0 in let q = has_meaning b s e.1 in record { meaning = _; meant = joined maxᵛ a b s p q }
has_meaning (Form.imply a b) s h0 = let e = and_both (chooses_finitely a) (chooses_finitely b) h0 in let p = has_meaning a s e.0 in let q = has_meaning b s e.1 in record { meaning = _; meant = joined impliesᵛ a b s p q }
has_meaning (Form.co_imply a b) s h0 = let e = and_both (chooses_finitely a) (chooses_finitely b) h0 in let p = has_meaning a s e.0 in let q = has_meaning b s e.1 in record { meaning = _; meant = joined coimpliesᵛ a b s p q }
has_meaning (Form.validate a) s h0 = let p = has_meaning a s h0 in record { meaning = _; meant = mapped validateᵛ a s p }
has_meaning (Form.co_validate a) s h0 = let p = has_meaning a s h0 in record { meaning = _; meant = mapped covalidateᵛ a s p }
has_meaning (Form.embed g) s h0 = record { meaning = _; meant = refl }
has_meaning (Form.iverson g) s h0 = record { meaning = _; meant = refl }
has_meaning (Form.select g a b) s h0 = let e = and_both (chooses_finitely a) (chooses_finitely b) h0 in let p = has_meaning a s e.0 in let q = has_meaning b s e.1 in record { meaning = cond (holds g s Choices.stop) p.meaning q.meaning; meant = chosen (holds g s Choices.stop) a b s p q }
has_meaning (Form.bind up w name ty a) s h0 = let e = and_both (is_bool ty) (chooses_finitely a) h0 in bound up ty w name a s e.0 (λ v. has_meaning a (put w v s) e.1)
