-- Injective encodings of trees of comparisons and of `Standing` as trees of numbers, by which
-- proofs distinguish them.
use Rattle.std.specs.Prelude.{◌≡◌, ◌⊎◌, ℕ, ℤ, Bool}
use Rattle.std.specs.Coded.{Coded, code_by, coded×, coded⊎, coded_ℕ, coded_ℤ, coded_bool}
use Rattle.std.specs.Coded.{coded_list, coded_option}
use Rattle.std.proofs.Common.{refl, ap, inl, inr}
use base.Stored.{Gv, gnil, gnum, gcons}
use Rattle.heyvl_num.specs.Rational.{Rational, ratio}
use Rattle.heyvl_num.proofs.exported.Rationals.{ratio_parts}
use Rattle.linear_values.specs.Lin.{Lin, Terms}
use Rattle.linear_form.specs.Query.{Query, Atom}
use Rattle.linear_form.specs.Query.Query.{done, bits, ask}
use Rattle.linear_form.specs.Questions.{Ends}
use Rattle.linear_form.specs.Standings.{Standing}

abbrev rational_code : Coded Rational
rational_code = code_by (ℤ × ℕ) (coded× coded_ℤ coded_ℕ) (λ x. (x.num, x.den))
    (λ p. ratio p.0 p.1) ratio_parts

abbrev lin_code : Coded Lin
lin_code = code_by (Terms × Rational)
    (coded× (coded_list (coded× coded_ℕ rational_code)) rational_code) (λ a. (a.terms, a.rest))
    (λ p. record { terms = p.0; rest = p.1 }) (λ _. refl)

abbrev ends_code : Coded Ends
ends_code = coded× (coded_option lin_code) (coded_option lin_code)

abbrev parts : Atom → ℕ ⊎ (Lin × Bool)
parts (Atom.truth x) = inl x
parts (Atom.row a strict) = inr (a, strict)

abbrev together : ℕ ⊎ (Lin × Bool) → Atom
together (inl x) = Atom.truth x
together (inr p) = Atom.row p.0 p.1

pub together_parts : (q : Atom) → together (parts q) ≡ q
together_parts (Atom.truth x) = refl
together_parts (Atom.row a strict) = refl

abbrev atom_code : Coded Atom
atom_code = code_by (ℕ ⊎ (Lin × Bool))
    (coded⊎ coded_ℕ (coded× lin_code coded_bool)) parts together together_parts

abbrev first : Gv → Gv
first gnil = gnil
first (gnum n) = gnil
first (gcons a b) = a

abbrev second : Gv → Gv
second gnil = gnil
second (gnum n) = gnil
second (gcons a b) = b

module _ {A : Type 0} (c : Coded A) where
  -- `tree t`: the tree of comparisons `t` as a tree of numbers.
  pub tree : Query A → Gv
  tree (done a) = gcons (gnum 0) (c.code a)
  tree bits = gnil
  tree (ask q y n) = gcons (gcons gnil (atom_code.code q)) (gcons (tree y) (tree n))

  pub tree_one : (t u : Query A) → tree t ≡ tree u → t ≡ u
  unfolding tree
  tree_one (done a) (done b) e = ap done (c.inj a b (ap second e))
  tree_one (done a) bits e = absurd (cc)
  tree_one (done a) (ask r z m) e = absurd (cc)
  tree_one bits (done b) e = absurd (cc)
  tree_one bits bits e = refl
  tree_one bits (ask r z m) e = absurd (cc)
  tree_one (ask q y n) (done b) e = absurd (cc)
  tree_one (ask q y n) bits e = absurd (cc)
  tree_one (ask q y n) (ask r z m) e = λ i.
      ask (atom_code.inj q r (ap (λ g. second (first g)) e) i)
      (tree_one y z (ap (λ g. first (second g)) e) i)
      (tree_one n m (ap (λ g. second (second g)) e) i)

  abbrev query_code : Coded (Query A)
  query_code = record { code = tree; inj = tree_one }

-- The encoding of a `Standing`, as the pair of its fields.
abbrev pub standing_code : Coded Standing
standing_code = code_by (Query Ends × ℕ) (coded× (query_code ends_code) coded_ℕ)
    (λ s. (s.left, s.at)) (λ p. record { left = p.0; at = p.1 }) (λ _. refl)
