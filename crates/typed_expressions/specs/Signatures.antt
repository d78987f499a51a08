-- The procedures of a file as calls see them. This project's own.
use Rattle.heyvl_syntax.specs.Procedures.{Procedure}
use Rattle.heyvl_syntax.specs.declared.types.TypeName.{TypeName}
use Rattle.std.specs.List.{list_any}
use Rattle.std.specs.Prelude.{Bool, List, None, Option, Some, [], if◌then◌else◌, map, suc, ◌∷◌, ℕ}
use Rattle.std.specs.Str.{bytes_eq}
use Rattle.typed_expressions.specs.TypedExpressions.{has_quantifier}

-- A procedure as a call sees it: its number, whether it is a coproc, the types of its inputs and
-- outputs, and whether one of its post clauses has a quantifier.
pub record Signature : Type 0 where
  pub number : ℕ
  pub co : Bool
  pub inputs : List TypeName
  pub outputs : List TypeName
  pub quantified : Bool

-- The signature of the procedure `p`, whose number is `n`.
abbrev pub signature : ℕ → Procedure → Signature
signature n p = record {
  number = n;
  co = p.co;
  inputs = map (λ x. x.ty) p.inputs;
  outputs = map (λ x. x.ty) p.outputs;
  quantified = list_any has_quantifier p.posts;
}

-- The callable procedures by their names, in the order of the text.
abbrev pub Called : Type 0
Called = List (List ℕ × Signature)

-- The procedure with the name `x`.
abbrev pub find_call : Called → List ℕ → Option Signature
find_call [] x = None
find_call (e ∷ es) x = if bytes_eq x e.0 then Some e.1 else find_call es x

-- `with_signature x p c`: the callable procedures `c` and at the end `p` under the name `x`, unless
-- there is one with this name.
abbrev pub with_signature : List ℕ → Signature → Called → Called
with_signature x p [] = (x, p) ∷ []
with_signature x p (e ∷ es) = if bytes_eq x e.0 then e ∷ es else e ∷ with_signature x p es

-- `with_signatures n c ps`: the callable procedures `c` and at the end those of `ps`, of which the
-- first has the number `n`.
abbrev pub with_signatures : ℕ → Called → List Procedure → Called
with_signatures n c [] = c
with_signatures n c (p ∷ ps) = with_signatures (suc n) (with_signature p.name (signature n p) c) ps

-- The callable procedures of a file: the first of those with one name.
abbrev pub called : List Procedure → Called
called ps = with_signatures 0 [] ps
