-- The prenexed form has no binder, and the numbers of the parts' binders follow each other.
use Rattle.std.proofs.Common.{◌≡◌, ℕ, ◌+◌, refl, false}
use Rattle.std.proofs.Math.ListN.{length}
use Prim.Native.Nat.{suc}
use Rattle.heylo_formula.specs.Formula.{Form, Cond}
use Rattle.heylo_formula.specs.Binders.{has_binder, has_binder_in}
use Rattle.heylo_formula.proofs.exported.Agreement.{neither}
use Rattle.heylo_formula.specs.BinderNames.{binders, binders_in}
use Rattle.vp_generator.specs.PrenexedForms.{Numbering, renumbered, unbound, unbound_in}

mutual
  pub unbound_plain : (f : Form) (m : Numbering) (n : ℕ) → has_binder (unbound m n f) ≡ false
  unbound_plain (Form.number v) m n = refl
  unbound_plain (Form.variable x) m n = refl
  unbound_plain (Form.sum a b) m n = neither (unbound_plain a m n) (unbound_plain b m (n + length (binders a)))
  unbound_plain (Form.difference a b) m n = neither (unbound_plain a m n) (unbound_plain b m (n + length (binders a)))
  unbound_plain (Form.cut a b) m n = neither (unbound_plain a m n) (unbound_plain b m (n + length (binders a)))
  unbound_plain (Form.product a b span) m n = neither (unbound_plain a m n) (unbound_plain b m (n + length (binders a)))
  unbound_plain (Form.min a b) m n = neither (unbound_plain a m n) (unbound_plain b m (n + length (binders a)))
  unbound_plain (Form.max a b) m n = neither (unbound_plain a m n) (unbound_plain b m (n + length (binders a)))
  unbound_plain (Form.imply a b) m n = neither (unbound_plain a m n) (unbound_plain b m (n + length (binders a)))
  unbound_plain (Form.co_imply a b) m n = neither (unbound_plain a m n) (unbound_plain b m (n + length (binders a)))
  unbound_plain (Form.scale w a) m n = unbound_plain a m n
  unbound_plain (Form.validate a) m n = unbound_plain a m n
  unbound_plain (Form.co_validate a) m n = unbound_plain a m n
  unbound_plain (Form.embed g) m n = unbound_plain_in g m n
  unbound_plain (Form.iverson g) m n = unbound_plain_in g m n
  unbound_plain (Form.select g a b) m n = neither (unbound_plain_in g m n) (neither (unbound_plain a m (n + length (binders_in g))) (unbound_plain b m (n + length (binders_in g) + length (binders a))))
  unbound_plain (Form.bind up x name ty a) m n = unbound_plain a (renumbered x n m) (suc n)

  pub unbound_plain_in : (g : Cond) (m : Numbering) (n : ℕ) → has_binder_in (unbound_in m n g) ≡ false
  unbound_plain_in (Cond.constant b) m n = refl
  unbound_plain_in (Cond.flag x) m n = refl
  unbound_plain_in (Cond.not g) m n = unbound_plain_in g m n
  unbound_plain_in (Cond.and g h) m n = neither (unbound_plain_in g m n) (unbound_plain_in h m (n + length (binders_in g)))
  unbound_plain_in (Cond.or g h) m n = neither (unbound_plain_in g m n) (unbound_plain_in h m (n + length (binders_in g)))
  unbound_plain_in (Cond.same g h) m n = neither (unbound_plain_in g m n) (unbound_plain_in h m (n + length (binders_in g)))
  unbound_plain_in (Cond.le a b) m n = neither (unbound_plain a m n) (unbound_plain b m (n + length (binders a)))
  unbound_plain_in (Cond.lt a b) m n = neither (unbound_plain a m n) (unbound_plain b m (n + length (binders a)))
  unbound_plain_in (Cond.equal a b) m n = neither (unbound_plain a m n) (unbound_plain b m (n + length (binders a)))
  unbound_plain_in (Cond.ite g h k) m n = neither (unbound_plain_in g m n) (neither (unbound_plain_in h m (n + length (binders_in g))) (unbound_plain_in k m (n + length (binders_in g) + length (binders_in h))))
