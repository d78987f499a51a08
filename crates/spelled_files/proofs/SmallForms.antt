-- The forms of a file of at most 2^20 tokens have at most 2^27 nodes.
use Rattle.spelled_files.proofs.EachOf.{each_weaker}
use Rattle.heylo_formula.specs.Formula.{Form}
use Rattle.heylo_formula.specs.Sizes.{nodes_in_term}
use Rattle.heyvl_num.specs.Rational.{Rational}
use Rattle.heyvl_syntax.proofs.exported.FewNodes.{few_nodes}
use Rattle.heyvl_syntax.specs.Grammar.{IsFile}
use Rattle.heyvl_syntax.specs.Procedures.{Procedure}
use Rattle.heyvl_syntax.specs.Sizes.{expression_nodes, nodes_of_procedure}
use Rattle.heyvl_syntax.specs.declared.tokens.Token.{Token}
use Rattle.heyvl_acts.specs.Acts.{Act, Arms, TypedProcedure, acts_in}
use Rattle.static_rules.specs.Files.{file_findings, resolved, typed}
use Rattle.heyvl_acts.specs.Places.{in_order}
use Rattle.resolved_laws.specs.ResolvedSizes.{ResolvedFormsAreSmall}
use Rattle.heyvl_acts.specs.FormSizes.{ActWithin, FormsWithin, GuardsWithin, RankWithin}
use Rattle.heyvl_acts.specs.Rules.{Each}
use Rattle.typed_expressions.specs.Signatures.{Called, called}
use Rattle.std.proofs.Common.{List, None, Option, Some, [], arith, length, map, ◌*◌, ◌+◌, ◌^◌, ◌∷◌, ◌≡◌, ◌≤◌, ℕ}
use Rattle.std.proofs.lemmas.List.Sums.{sum_by-cons}
use Rattle.std.specs.List.{sum_by}

-- ---- Larger limits of nodes

module _ (n m : ℕ) (le : n ≤ m) where
  guards_more : (arms : Arms) → GuardsWithin n arms → GuardsWithin m arms
  guards_more Arms.no_arm h = tt
  guards_more (Arms.arm g b more) h = (omega (arith, le, h.0), guards_more more h.1)

  rank_more : (r : Option (Rational × Form)) → RankWithin n r → RankWithin m r
  rank_more None h = tt
  rank_more (Some r) h = omega (arith, le, h)

  act_more : (a : Act) → ActWithin n a → ActWithin m a
  act_more (Act.set x t span) h = omega (arith, le, h)
  act_more (Act.draw x ps span) h = each_weaker (λ p. nodes_in_term p.1 ≤ n) (λ p. nodes_in_term p.1 ≤ m) (λ p k. omega (arith, le, k)) ps h
  act_more (Act.toss x f span) h = omega (arith, le, h)
  act_more (Act.any x up ty span) h = tt
  act_more (Act.reward f span) h = omega (arith, le, h)
  act_more (Act.ifs arms e span) h = guards_more arms h
  act_more (Act.pick up a b span) h = tt
  act_more (Act.check kind f span) h = omega (arith, le, h)
  act_more (Act.validate co span) h = tt
  act_more (Act.loop h b) k = (omega (arith, le, k.0), (omega (arith, le, k.1.0), rank_more h.rank k.1.1))
  act_more (Act.call xs p es span) h = each_weaker (λ e. nodes_in_term e ≤ n) (λ e. nodes_in_term e ≤ m) (λ e k. omega (arith, le, k)) es h

  forms_more : (p : TypedProcedure) → FormsWithin n p → FormsWithin m p
  forms_more p h = record { pre = omega (arith, le, h.pre); post = omega (arith, le, h.post); acts = each_weaker (ActWithin n) (ActWithin m) act_more (in_order (acts_in p.body)) h.acts }

-- ---- Files

procedures_small : (c : Called) (most : ℕ) (ps : List Procedure) → 2 * sum_by nodes_of_procedure ps + 64 ≤ most → Each (λ p. FormsWithin (2 * nodes_of_procedure p + 64) (typed c p)) ps → Each (FormsWithin most) (map (typed c) ps)
procedures_small c most [] le h = tt
procedures_small c most (p ∷ ps) le h =
    let sum = sum_by-cons nodes_of_procedure p ps in
    (forms_more (2 * nodes_of_procedure p + 64) most (omega (arith, le, sum)) (typed c p) h.0, procedures_small c most ps (omega (arith, le, sum)) h.1)

pub small_forms : ResolvedFormsAreSmall → (file : List Procedure) (tokens : List Token) → IsFile file tokens → file_findings file ≡ [] → length tokens ≤ 2 ^ 20 → Each (FormsWithin (2 ^ 27)) (resolved file)
small_forms law file tokens is_file clean few =
    let n = few_nodes file tokens is_file in
    let wide : 2 * expression_nodes file + 64 ≤ 2 ^ 27 = omega (arith, n, few) in
    procedures_small (called file) (2 ^ 27) file wide (law file clean)
