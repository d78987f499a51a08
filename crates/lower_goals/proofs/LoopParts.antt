-- A property of each act of a body holds of its loop, and of each act before it, in it and after
-- it.
use Rattle.std.proofs.Common.{◌≡◌, ◌∙◌, refl, sym, ap, subst, List, ◌∷◌, ◌++◌, append_assoc}
use Rattle.heyvl_acts.specs.Acts.{Act, Acts, TypedProcedure, acts_in, join}
use Rattle.heyvl_acts.specs.Places.{in_order, inside}
use Rattle.heyvl_acts.specs.Rules.{Each}
use Rattle.heyvl_acts.proofs.exported.Each.{each_first, each_second}
use Rattle.lower_goals.specs.OneLoop.{OneLoop}

pub in_order-join : (a b : Acts) → in_order (join a b) ≡ in_order a ++ in_order b
in_order-join Acts.done b = refl
in_order-join (Acts.next a rest) b = ap (λ l. a ∷ l) (ap (λ l. inside a ++ l) (in_order-join rest b) ∙ sym (append_assoc (inside a) (in_order rest) (in_order b)))

-- ---- The four parts

-- A property of all acts, part by part.
pub record OfParts (P : Act → Type 0) (p : TypedProcedure) (l : OneLoop p) : Type 0 where
  pub front : Each P (in_order l.front)
  pub loop : P (Act.loop l.head l.body)
  pub body : Each P (in_order l.body)
  pub behind : Each P (in_order l.behind)

abbrev pub tail : (p : TypedProcedure) → OneLoop p → List Act
tail p l = Act.loop l.head l.body ∷ (in_order l.body ++ in_order l.behind)

pub body_in_order : (p : TypedProcedure) (l : OneLoop p) → in_order (acts_in p.body) ≡ in_order l.front ++ (Act.loop l.head l.body ∷ (in_order l.body ++ in_order l.behind))
body_in_order p l = ap in_order l.is.whole ∙ in_order-join l.front (Acts.next (Act.loop l.head l.body) l.behind)

pub of_parts : (P : Act → Type 0) (p : TypedProcedure) (l : OneLoop p) → Each P (in_order (acts_in p.body)) → OfParts P p l
of_parts P p l h = record {
  front = each_first P (in_order l.front) (tail p l) all;
  loop = (each_second P (in_order l.front) (tail p l) all).0;
  body = each_first P (in_order l.body) (in_order l.behind) (each_second P (in_order l.front) (tail p l) all).1;
  behind = each_second P (in_order l.body) (in_order l.behind) (each_second P (in_order l.front) (tail p l) all).1;
}
  where
    all : Each P (in_order l.front ++ (Act.loop l.head l.body ∷ (in_order l.body ++ in_order l.behind)))
    all = subst (λ acts. Each P acts) (body_in_order p l) h
