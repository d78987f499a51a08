use Rattle.std.proofs.Common.{◌≡◌, ℕ, ◌+◌, ◌<◌, List, [], ◌∷◌, ◌++◌, length, take, get_or, sym, ap, ◌∙◌, arith, length-take}
use Rattle.std.proofs.lemmas.List.{take_more}
use Prim.Native.Nat.{suc}
use Rattle.heylo_formula.specs.declared.values.Val.{Val}
use Rattle.linear_form.specs.Query.{Taken, known}
use Rattle.linear_form.specs.PlainPaths.{path_of}
use Rattle.region_split.specs.PathPoints.{value_on, with_truths}
use Rattle.region_split.proofs.points.with_path.Goals as goal

push_truth : (ps : List Taken) (x : ℕ) (vs : List Val) (v : Val) → with_truths ps x (vs ++ (v ∷ [])) ≡ with_truths ps x vs ++ (value_on (known (x + length vs) ps) v ∷ [])
push_truth ps x [] v = ap (λ y. value_on (known y ps) v ∷ []) (omega arith)
push_truth ps x (w ∷ ws) v = ap (λ us. value_on (known x ps) w ∷ us) (push_truth ps (suc x) ws v ∙ ap (λ y. with_truths ps (suc x) ws ++ (value_on (known y ps) v ∷ [])) (omega arith))

truth_step : (ps : List Taken) (vs out new : List Val) (i : ℕ) (x v : Val) → i < length vs → x ≡ get_or vs i x → out ≡ with_truths ps 0 (take i vs) → v ≡ value_on (known i ps) x → new ≡ out ++ (v ∷ []) → new ≡ with_truths ps 0 (take (i + 1) vs)
truth_step ps vs out new i x v l e h f n =
    let a : v ≡ value_on (known (0 + length (take i vs)) ps) x = f ∙ ap (λ j. value_on (known j ps) x) (place i vs l) in
    n ∙ ap (λ u. out ++ (u ∷ [])) a ∙ ap (λ us. us ++ (value_on (known (0 + length (take i vs)) ps) x ∷ [])) h ∙ sym (push_truth ps 0 (take i vs) x) ∙ ap (λ y. with_truths ps 0 (take i vs ++ (y ∷ []))) e ∙ ap (with_truths ps 0) (sym (take_more vs i x l))
  where
    place : (i : ℕ) (vs : List Val) → i < length vs → i ≡ 0 + length (take i vs)
    place i vs l = omega (arith, length-take i vs)

pub values-preserved : goal.values-preserved
values-preserved c = truth_step (path_of c.args.path.now) c.args.values.now c.values.out.items _ c.values.i c.index-values-i.result c.value_at.result c.values-test.true c.index-values-i.is c.values.invariant c.value_at.ensures c.in_ok-push.ensures.items
