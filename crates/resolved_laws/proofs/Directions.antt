-- Typed acts follow the direction of their procedure.
use Rattle.heylo_formula.specs.Binders.{has_binder}
use Rattle.heylo_formula.specs.Operators.{agree}
use Rattle.heyvl_acts.specs.Acts.{TypedProcedure, Variable, procedure_at}
use Rattle.heyvl_acts.specs.Rules.{FollowsDirection, IsCallable}
use Rattle.heyvl_places.specs.declared.spans.Span.{Span}
use Rattle.heyvl_syntax.specs.Statements.{RightSide, Statement}
use Rattle.heyvl_syntax.specs.declared.types.TypeName.{TypeName}
use Rattle.resolved_laws.proofs.Calls.{AreCallees}
use Rattle.static_rules.proofs.exported.Findings.{all_kept, back_none}
use Rattle.resolved_laws.proofs.Flips.{of_flip}
use Rattle.resolved_laws.proofs.Posts.{plain_post}
use Rattle.resolved_laws.proofs.Walk.{Alone, Locally}
use Rattle.static_rules.specs.Files.{first_quantified, head_scope}
use Rattle.static_rules.specs.RightSides.{is_of_other_direction, is_quantified, right_rules}
use Rattle.static_rules.specs.StatementActs.{assigned, callee, declared_act, first_or_zero, havocs, targets}
use Rattle.static_rules.specs.StatementRules.{assign_rules, havoc_rules, reward_rules, value_findings, var_rules}
use Rattle.static_rules.specs.declared.settings.Setting.{Setting}
use Rattle.std.proofs.Common.{Bool, List, None, Option, Some, [], ap, false, refl, sym, true, ◌∙◌, ◌≡◌, ◌∷◌, ℕ}
use Rattle.std.proofs.lemmas.Bool.{not-false, or_parts}
use Rattle.std.specs.Option.{is_none}
use Rattle.typed_expressions.specs.Findings.{at}
use Rattle.typed_expressions.specs.Names.{any_twice}
use Rattle.typed_expressions.specs.Scopes.{Scope, any_input, any_unknown, is_visible, types_of_names}
use Rattle.typed_expressions.specs.Signatures.{Called, Signature, find_call}
use Rattle.typed_expressions.specs.Table.{declarable}

agreed : (a b : Bool) → agree a b ≡ true → b ≡ a
agreed true b e = e
agreed false true e = absurd (cc)
agreed false false e = refl

-- A procedure of the file and its setting.
module _ (ps : List TypedProcedure) (p : TypedProcedure) (h : Setting) (called : Called) (co : p.co ≡ h.co) (weak : p.weak ≡ h.weak) (callees : AreCallees called ps) where
  callable : (f : List ℕ) (o : Option Signature) → find_call called f ≡ o → is_none o ≡ false → is_of_other_direction h.co o ≡ false → is_quantified o ≡ false → IsCallable p.co (procedure_at ps (callee o))
  callable f None e a b c = absurd (cc)
  callable f (Some q) e a b c =
      let d = callees f q e in
      record {
        direction = ap (λ r. r.co) d.typed_is ∙ (ap (λ t. t.co) d.is ∙ (agreed h.co q.co (not-false _ b) ∙ sym co));
        plain = ap (λ r. has_binder r.post) d.typed_is ∙ plain_post d.procedure.co (first_quantified d.procedure) (head_scope d.procedure) d.procedure.posts (ap (λ t. t.quantified) d.is ∙ c);
      }

  follows_assigned : (n : ℕ) (sc : Scope) (unknown twice undeclarable input : Bool) (types : List (Option TypeName)) (xs : List ℕ) (r : RightSide) (s : Span) → at s (right_rules h.co called n sc unknown twice undeclarable input types r) ≡ [] → FollowsDirection ps p (assigned called n sc xs r s)
  follows_assigned n sc unknown twice undeclarable input types xs (RightSide.plain e) s f = tt
  follows_assigned n sc unknown twice undeclarable input types xs (RightSide.flip e) s f = of_flip (FollowsDirection ps p) n sc (first_or_zero xs) e s tt tt
  follows_assigned n sc unknown twice undeclarable input types xs (RightSide.unif a b) s f = tt
  follows_assigned n sc unknown twice undeclarable input types xs (RightSide.choose parts) s f = tt
  follows_assigned n sc unknown twice undeclarable input types xs (RightSide.call q arguments) s f =
      let k = all_kept s (right_rules h.co called n sc unknown twice undeclarable input types (RightSide.call q arguments)) f in
      callable q (find_call called q) refl (or_parts unknown _ k.0).1 k.1.1.1.1.1.1.1.0 k.1.1.1.1.1.1.1.1.0

  follows_declared : (n : ℕ) (sc : Scope) (x : List ℕ) (t : TypeName) (r : Option RightSide) (s : Span) → at s (var_rules h called n sc x t r) ≡ [] → FollowsDirection ps p (declared_act h called n sc t r s)
  follows_declared n sc x t None s f = sym co
  follows_declared n sc x t (Some r) s f = follows_assigned n sc false (is_visible sc x) (is_none (declarable t)) false (Some t ∷ []) (n ∷ []) r s f

  follows_havocs : (sc : Scope) (up : Bool) (xs : List (List ℕ)) (s : Span) → up ≡ p.co → Alone (FollowsDirection ps p) (havocs sc up xs s)
  follows_havocs sc up [] s e = tt
  follows_havocs sc up (x ∷ xs) s e = (e, follows_havocs sc up xs s e)

  pub follows : (vs : List Variable) → Locally vs h called (FollowsDirection ps p)
  follows vs bound n m sc (Statement.var x t r s) k l f = (follows_declared n sc x t r s (back_none (value_findings n sc r) _ f), tt)
  follows vs bound n m sc (Statement.assign xs r s) k l f =
      (follows_assigned n sc (any_unknown sc xs) (any_twice xs) false (any_input h.inputs sc xs) (types_of_names sc xs) (targets sc xs) r s (back_none _ (at s (assign_rules h called n sc xs r)) f), tt)
  follows vs bound n m sc (Statement.check kind a s) k l f = (tt, tt)
  follows vs bound n m sc (Statement.validate up s) k l f = (tt, tt)
  follows vs bound n m sc (Statement.havoc up xs s) k l f = follows_havocs sc up xs s (agreed h.co up (not-false _ (all_kept s (havoc_rules h sc up xs) f).1.1.1.0) ∙ sym co)
  follows vs bound n m sc (Statement.reward a s) k l f = (weak ∙ (all_kept s (reward_rules h) (back_none _ _ f)).0, tt)
  follows vs bound n m sc (Statement.branch arms other s) k l f = (tt, tt)
  follows vs bound n m sc (Statement.pick up a b s) k l f = (tt, tt)
  follows vs bound n m sc (Statement.loop rules g b s) k l f = (tt, tt)
