-- A file within the limits has at most 1,024 procedures, and the file of a program has one.
use Rattle.heyvl_acts.specs.PlainActs.{procedure_of, procedures_of}
use Rattle.heyvl_acts.specs.declared.typed_trees.Typed.{Typed}
use Rattle.heyvl_syntax.specs.Grammar.{IsFile, IsProc, proc_key}
use Rattle.heyvl_syntax.specs.Procedures.{Procedure, procedure, procedures}
use Rattle.heyvl_syntax.specs.Productions.{IsEach, IsKey}
use Rattle.heyvl_syntax.specs.SourceFaults.{IsSource, IsWithinLimits, is_procedure_key, procedure_count}
use Rattle.heyvl_syntax.specs.declared.procedures.File.{File}
use Rattle.heyvl_syntax.specs.declared.tokens.Token.{Token}
use Rattle.static_rules.specs.Files.{resolved, typed}
use Rattle.typed_expressions.specs.Signatures.{called}
use Rattle.pgcl_front.specs.Sources.{IsPgclSource}
use Rattle.std.proofs.Common.{Bool, List, [], ap, arith, cond, false, length, refl, true, ◌++◌, ◌+◌, ◌<◌, ◌^◌, ◌∷◌, ◌∙◌, ◌≡◌, ◌≤◌, ℕ}
use Rattle.std.proofs.lemmas.List.{length-map}
use Rattle.std.proofs.lemmas.List.Recursion.{is_count_by}

keys : List Token → ℕ
keys [] = 0
keys (t ∷ ts) = cond (is_procedure_key t.kind) (1 + keys ts) (keys ts)

keys_counted : (ts : List Token) → keys ts ≡ procedure_count ts
unfolding keys
keys_counted ts = is_count_by keys (λ t. is_procedure_key t.kind) refl (λ t more. refl) ts

keys_both : (xs ys : List Token) → keys (xs ++ ys) ≡ keys xs + keys ys
unfolding keys
keys_both [] ys = omega arith
keys_both (t ∷ xs) ys = rw (keys_both xs ys) (added (is_procedure_key t.kind) (keys xs) (keys ys))
  where
    added : (b : Bool) (n m : ℕ) → cond b (1 + (n + m)) (n + m) ≡ cond b (1 + n) n + m
    added true n m = omega arith
    added false n m = refl

one_key : (co : Bool) (ts : List Token) → IsKey (proc_key co) ts → keys ts ≡ 1
unfolding keys
one_key true ts h = rw h.1 refl
one_key false ts h = rw h.1 refl

some_key : (p : Procedure) (ts : List Token) → IsProc p ts → 1 ≤ keys ts
some_key p ts ((note, behind, n, (key, rest, k, more, e2), e1), s) =
    let front : keys ts ≡ keys note + keys behind = ap keys e1 ∙ keys_both note behind in
    let back : keys behind ≡ keys key + keys rest = ap keys e2 ∙ keys_both key rest in
    let one = one_key p.co key k in
    omega (arith, front, back, one)

each_has_key : (file : List Procedure) (ts : List Token) → IsEach IsProc file ts → length file ≤ keys ts
each_has_key [] ts h = omega arith
each_has_key (p ∷ ps) ts (front, back, is, rest, e) =
    let both : keys ts ≡ keys front + keys back = ap keys e ∙ keys_both front back in
    let one = some_key p front is in
    let more = each_has_key ps back rest in
    omega (arith, both, one, more)

pub few_procedures : (file : List Procedure) (tokens : List Token) → IsWithinLimits tokens → IsFile file tokens → length file ≤ 1024
few_procedures file tokens within is =
    let some = each_has_key file tokens is in
    let same = keys_counted tokens in
    let few = within.uncrowded in
    omega (arith, some, same, few)

pub few_in_file : (file : File) (tokens : List Token) → IsWithinLimits tokens → IsFile (procedures file) tokens → length file.procs.items < 2 ^ 31
few_in_file file tokens within is =
    let few = few_procedures (procedures file) tokens within is in
    let same : length (procedures file) ≡ length file.procs.items = length-map file.procs.items procedure in
    omega (arith, few, same)

pub one_in_program : (bytes : List ℕ) (file : File) → IsPgclSource bytes (procedures file) → length file.procs.items < 2 ^ 31
one_in_program bytes file source =
    let one : length (procedures file) ≡ 1 = ap length source.translation.is_file in
    let same : length (procedures file) ≡ length file.procs.items = length-map file.procs.items procedure in
    omega (arith, one, same)

pub few_typed : (bytes : List ℕ) (file : List Procedure) (tree : Typed) → IsSource bytes file → procedures_of tree ≡ resolved file → length tree.procs.items ≤ 1024
few_typed bytes file tree spelled same =
    let few = few_procedures file spelled.tokens spelled.within spelled.is_file in
    let one : length (procedures_of tree) ≡ length tree.procs.items = length-map tree.procs.items procedure_of in
    let two : length (resolved file) ≡ length file = length-map file (typed (called file)) in
    let three : length (procedures_of tree) ≡ length (resolved file) = ap length same in
    omega (arith, few, one, two, three)
