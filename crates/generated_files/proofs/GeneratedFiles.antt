-- The facts about generated texts, line by line.
use Rattle.generated_files.proofs.Calls.{found_stays, new_found, none_stays, signatures_append}
use Rattle.generated_files.proofs.Findings.{counter}
use Rattle.generated_files.proofs.GeneratedLines.{Answers, Line, line_is}
use Rattle.generated_files.proofs.Loads.{count_heads, counts_append, counts_behind, heads, heads_append, is_light, light_append, light_tokens}
use Rattle.generated_files.proofs.Names.{other_name, same_name}
use Rattle.generated_files.proofs.Pieces.{Split, Splits, splits_none}
use Rattle.generated_files.proofs.Spread.{Spots, behind, spots_of, spread, spread_all, spread_append}
use Rattle.generated_files.specs.Laws.{GeneratedTextsAreFaultless, IsFaultless}
use Rattle.generated_files.specs.Texts.{generated_text, line, name}
use Rattle.heyvl_syntax.specs.Grammar.{IsFile}
use Rattle.heyvl_syntax.specs.Procedures.{Procedure}
use Rattle.heyvl_syntax.specs.SourceFaults.{IsSource, procedure_limit}
use Rattle.heyvl_syntax.specs.Tokens.{Lexes}
use Rattle.heyvl_syntax.specs.declared.tokens.Token.{Token}
use Rattle.heyvl_syntax.specs.declared.tokens.TokenKind.{TokenKind}
use Rattle.static_rules.specs.Files.{procedure_findings, procedures_findings}
use Rattle.std.proofs.Common.{Bool, List, None, Some, [], ap, append_assoc, arith, false, inl, inr, length, map, nat_lt, refl, subst, suc, sym, true, zero, ◌%◌, ◌++◌, ◌+◌, ◌-◌, ◌<◌, ◌^◌, ◌∙◌, ◌∷◌, ◌≡◌, ◌≤◌, ◌⊎◌, ℕ}
use Rattle.std.proofs.lemmas.Bool.Decides.{nat_tests}
use Rattle.std.proofs.lemmas.List.Folds.{list_any-append}
use Rattle.std.proofs.lemmas.List.{append-nil, length-append, map-append}
use Rattle.std.specs.List.{list_any}
use Rattle.std.specs.Str.{bytes_eq}
use Rattle.typed_expressions.specs.Findings.{Finding, first}
use Rattle.typed_expressions.specs.Signatures.{Called, Signature, called, find_call, signature, with_signature}

abbrev names : List Procedure → List (List ℕ)
names ps = map (λ p. p.name) ps

-- The facts about the first `n` lines, as `Line` gives them for one line.
pub record Text (n : ℕ) (text : List ℕ) : Type 0 where
  pub kinds : List TokenKind
  pub splits : (rest : List ℕ) (expected : List TokenKind) → Splits rest expected → Splits (text ++ rest) (kinds ++ expected)
  pub light : is_light (0 ∷ []) kinds ≡ true
  pub back : counts_behind (0 ∷ []) kinds ≡ 0 ∷ []
  pub head : heads kinds ≡ n
  pub trees : Spots → List Procedure
  pub count : (s : Spots) → length (trees s) ≡ n
  pub spelled : (s : Spots) (ps : List Procedure) (ts : List Token) → IsFile ps ts → IsFile (trees s ++ ps) (spread s kinds ++ ts)
  pub clean : (c : Called) (s : Spots) → ((i : ℕ) → i < n → Answers c i) → procedures_findings c [] (trees s) ≡ []
  pub unnamed : (s : Spots) (k : ℕ) → n ≤ k → k < 2 ^ 64 → list_any (bytes_eq (name k)) (names (trees s)) ≡ false
  pub uncalled : (s : Spots) (k : ℕ) → n ≤ k → k < 2 ^ 64 → find_call (called (trees s)) (name k) ≡ None
  pub calls : (s : Spots) (j : ℕ) → j < n → j % 4 ≡ 1 → find_call (called (trees s)) (name j) ≡ Some (counter j)

no_text : Text 0 []
no_text = record {
  kinds = [];
  splits = λ rest expected more. more;
  light = refl;
  back = refl;
  head = refl;
  trees = λ s. [];
  count = λ s. refl;
  spelled = λ s ps ts h. h;
  clean = λ c s answers. refl;
  unnamed = λ s k h g. refl;
  uncalled = λ s k h g. refl;
  calls = λ s j h e. absurd (omega arith);
}

-- The findings of one more procedure come last.
findings_append : (c : Called) (ns : List (List ℕ)) (ps : List Procedure) (p : Procedure) →
    procedures_findings c ns (ps ++ p ∷ []) ≡ procedures_findings c ns ps ++ procedure_findings c (list_any (bytes_eq p.name) (ns ++ names ps)) p
findings_append c ns [] p = rw (append-nil ns) (append-nil (procedure_findings c (list_any (bytes_eq p.name) ns) p))
findings_append c ns (q ∷ qs) p =
    let here = procedure_findings c (list_any (bytes_eq q.name) ns) q in
    let last = λ (all : List (List ℕ)). procedure_findings c (list_any (bytes_eq p.name) all) p in
    ap (λ (z : List Finding). here ++ z) (findings_append c (ns ++ q.name ∷ []) qs p)
    ∙ sym (append_assoc here (procedures_findings c (ns ++ q.name ∷ []) qs) (last ((ns ++ q.name ∷ []) ++ names qs)))
    ∙ ap (λ (all : List (List ℕ)). (here ++ procedures_findings c (ns ++ q.name ∷ []) qs) ++ last all) (append_assoc ns (q.name ∷ []) (names qs))

-- ---- One more line

-- The tree of the new line, after the tokens of the others.
abbrev last_tree : (n : ℕ) (text more : List ℕ) → Text n text → Line n more → Spots → Procedure
last_tree n text more t l s = l.tree (behind (length t.kinds) s)

abbrev all_trees : (n : ℕ) (text more : List ℕ) → Text n text → Line n more → Spots → List Procedure
all_trees n text more t l s = t.trees s ++ last_tree n text more t l s ∷ []

splits_more : (n : ℕ) (text more : List ℕ) (t : Text n text) (l : Line n more) (rest : List ℕ) (expected : List TokenKind) → Splits rest expected →
    Splits ((text ++ more) ++ rest) ((t.kinds ++ l.kinds) ++ expected)
splits_more n text more t l rest expected h =
    subst (λ (z : List ℕ). Splits z ((t.kinds ++ l.kinds) ++ expected)) (sym (append_assoc text more rest))
    (subst (λ (z : List TokenKind). Splits (text ++ (more ++ rest)) z) (sym (append_assoc t.kinds l.kinds expected))
    (t.splits (more ++ rest) (l.kinds ++ expected) (l.splits rest expected h)))

spelled_more : (n : ℕ) (text more : List ℕ) (t : Text n text) (l : Line n more) (s : Spots) (ps : List Procedure) (ts : List Token) → IsFile ps ts →
    IsFile (all_trees n text more t l s ++ ps) (spread s (t.kinds ++ l.kinds) ++ ts)
spelled_more n text more t l s ps ts h =
    let after = behind (length t.kinds) s in
    let tree = last_tree n text more t l s in
    let tokens : spread s (t.kinds ++ l.kinds) ++ ts ≡ spread s t.kinds ++ (spread after l.kinds ++ ts) =
    ap (λ (z : List Token). z ++ ts) (spread_append s t.kinds l.kinds) ∙ append_assoc (spread s t.kinds) (spread after l.kinds) ts in
    subst (λ (z : List Procedure). IsFile z (spread s (t.kinds ++ l.kinds) ++ ts)) (sym (append_assoc (t.trees s) (tree ∷ []) ps))
    (subst (λ (z : List Token). IsFile (t.trees s ++ (tree ∷ ps)) z) (sym tokens)
    (t.spelled s (tree ∷ ps) (spread after l.kinds ++ ts) (spread after l.kinds, ts, l.spelled after, h, refl)))

clean_more : (n : ℕ) (text more : List ℕ) (t : Text n text) (l : Line n more) → n < 2 ^ 63 → (c : Called) (s : Spots) → ((i : ℕ) → i < suc n → Answers c i) →
    procedures_findings c [] (all_trees n text more t l s) ≡ []
clean_more n text more t l small c s answers =
    let after = behind (length t.kinds) s in
    let tree = last_tree n text more t l s in
    let new : list_any (bytes_eq tree.name) (names (t.trees s)) ≡ false = ap (λ (x : List ℕ). list_any (bytes_eq x) (names (t.trees s))) (l.named after) ∙ t.unnamed s n (omega arith) (omega arith) in
    findings_append c [] (t.trees s) tree
    ∙ ap (λ (z : List Finding). z ++ procedure_findings c (list_any (bytes_eq tree.name) (names (t.trees s))) tree) (t.clean c s (λ i h. answers i (omega arith)))
    ∙ ap (λ (z : Bool). procedure_findings c z tree) new
    ∙ l.clean c after (answers n (omega arith))

-- A name other than that of the new line.
other_last : (n : ℕ) (text more : List ℕ) (t : Text n text) (l : Line n more) (s : Spots) (k : ℕ) → n < k → k < 2 ^ 64 → bytes_eq (name k) (last_tree n text more t l s).name ≡ false
other_last n text more t l s k h g = ap (λ (x : List ℕ). bytes_eq (name k) x) (l.named (behind (length t.kinds) s)) ∙ other_name k n g h

unnamed_more : (n : ℕ) (text more : List ℕ) (t : Text n text) (l : Line n more) (s : Spots) (k : ℕ) → suc n ≤ k → k < 2 ^ 64 →
    list_any (bytes_eq (name k)) (names (all_trees n text more t l s)) ≡ false
unnamed_more n text more t l s k h g =
    let tree = last_tree n text more t l s in
    let no = other_last n text more t l s k h g in
    let before = t.unnamed s k (omega arith) g in
    ap (λ (z : List (List ℕ)). list_any (bytes_eq (name k)) z) (map-append (λ (p : Procedure). p.name) (t.trees s) (tree ∷ []))
    ∙ list_any-append (bytes_eq (name k)) (names (t.trees s)) (tree.name ∷ [])
    ∙ (rw (before, no) refl)

called_more : (n : ℕ) (text more : List ℕ) (t : Text n text) (l : Line n more) (s : Spots) →
    called (all_trees n text more t l s) ≡ with_signature (last_tree n text more t l s).name (signature n (last_tree n text more t l s)) (called (t.trees s))
called_more n text more t l s =
    let tree = last_tree n text more t l s in
    let here : 0 + length (t.trees s) ≡ n = let e = t.count s in omega arith in
    signatures_append 0 [] (t.trees s) tree ∙ ap (λ (k : ℕ). with_signature tree.name (signature k tree) (called (t.trees s))) here

uncalled_more : (n : ℕ) (text more : List ℕ) (t : Text n text) (l : Line n more) (s : Spots) (k : ℕ) → suc n ≤ k → k < 2 ^ 64 → find_call (called (all_trees n text more t l s)) (name k) ≡ None
uncalled_more n text more t l s k h g =
    let tree = last_tree n text more t l s in
    ap (λ (c : Called). find_call c (name k)) (called_more n text more t l s)
    ∙ none_stays tree.name (signature n tree) (called (t.trees s)) (name k) (other_last n text more t l s k h g) (t.uncalled s k (omega arith) g)

-- The name of the new line calls its procedure.
last_called : (n : ℕ) (text more : List ℕ) (t : Text n text) (l : Line n more) → n < 2 ^ 63 → (s : Spots) → n % 4 ≡ 1 → find_call (called (all_trees n text more t l s)) (name n) ≡ Some (counter n)
last_called n text more t l small s form =
    let tree = last_tree n text more t l s in
    let after = behind (length t.kinds) s in
    let before = called (t.trees s) in
    let new : find_call before tree.name ≡ None = ap (λ (x : List ℕ). find_call before x) (l.named after) ∙ t.uncalled s n (omega arith) (omega arith) in
    ap (λ (c : Called). find_call c (name n)) (called_more n text more t l s)
    ∙ ap (λ (x : List ℕ). find_call (with_signature tree.name (signature n tree) before) x) (sym (l.named after))
    ∙ new_found tree.name (signature n tree) before (same_name tree.name) new
    ∙ ap (λ (p : Signature). Some p) (l.signed n after form)

calls_more : (n : ℕ) (text more : List ℕ) (t : Text n text) (l : Line n more) → n < 2 ^ 63 → (s : Spots) (j : ℕ) → j < suc n → j % 4 ≡ 1 → find_call (called (all_trees n text more t l s)) (name j) ≡ Some (counter j)
calls_more n text more t l small s j less form = pick (older j n less)
  where
    older : (j n : ℕ) → j < suc n → (j < n) ⊎ (j ≡ n)
    older j n h = elim (nat_lt j n) as (λ b. nat_lt j n ≡ b → (j < n) ⊎ (j ≡ n)) [ true ↦ λ e. inl (grind (arith, nat_tests)) | false ↦ λ e. inr (grind (arith, nat_tests)) ] refl

    pick : (j < n) ⊎ (j ≡ n) → find_call (called (all_trees n text more t l s)) (name j) ≡ Some (counter j)
    pick (inl before) =
        ap (λ (c : Called). find_call c (name j)) (called_more n text more t l s)
        ∙ found_stays (last_tree n text more t l s).name (signature n (last_tree n text more t l s)) (called (t.trees s)) (name j) (counter j) (t.calls s j before form)
    pick (inr same) =
        subst (λ (k : ℕ). find_call (called (all_trees n text more t l s)) (name k) ≡ Some (counter k)) (sym same)
        (last_called n text more t l small s (subst (λ (k : ℕ). k % 4 ≡ 1) same form))

one_more : (n : ℕ) (text more : List ℕ) → n < 2 ^ 63 → Text n text → Line n more → Text (suc n) (text ++ more)
one_more n text more small t l = record {
  kinds = t.kinds ++ l.kinds;
  splits = splits_more n text more t l;
  light = light_append (0 ∷ []) t.kinds l.kinds t.light (subst (λ (c : List ℕ). is_light c l.kinds ≡ true) (sym t.back) l.light);
  back = counts_append (0 ∷ []) t.kinds l.kinds ∙ ap (λ (c : List ℕ). counts_behind c l.kinds) t.back ∙ l.back;
  head = let e = heads_append t.kinds l.kinds in let a = t.head in let b = l.head in omega arith;
  trees = all_trees n text more t l;
  count = λ s. let e = length-append (t.trees s) (last_tree n text more t l s ∷ []) in let a = t.count s in omega arith;
  spelled = spelled_more n text more t l;
  clean = clean_more n text more t l small;
  unnamed = unnamed_more n text more t l;
  uncalled = uncalled_more n text more t l;
  calls = calls_more n text more t l small;
}

text_is : (n : ℕ) → n < 2 ^ 63 → Text n (generated_text n)
text_is zero h = no_text
text_is (suc n) h = one_more n (generated_text n) (line n) (omega arith) (text_is n (omega arith)) (line_is n (omega arith))

-- ---- The whole text

answers_all : (n : ℕ) (text : List ℕ) (t : Text n text) (s : Spots) (i : ℕ) → i < n → Answers (called (t.trees s)) i
answers_all n text t s i h form = t.calls s (i - 2) (omega arith) (omega arith)

whole_split : (n : ℕ) (text : List ℕ) (t : Text n text) → Split 0 text t.kinds
whole_split n text t =
    let h = t.splits [] [] splits_none 0 in
    subst (λ (z : List ℕ). Split 0 z t.kinds) (append-nil text) (subst (λ (z : List TokenKind). Split 0 (text ++ []) z) (append-nil t.kinds) h)

source_is : (n : ℕ) (text : List ℕ) (t : Text n text) → n ≤ procedure_limit → (s : Spots) → Lexes 0 text (spread s t.kinds) → IsSource text (t.trees s)
source_is n text t h s lexes = record {
  tokens = spread s t.kinds;
  lexes = lexes;
  within = record {
    light = light_tokens (0 ∷ []) s t.kinds t.light;
    uncrowded = let e = count_heads s t.kinds in let a = t.head in omega arith;
  };
  is_file = subst (λ (z : List Procedure). IsFile z (spread s t.kinds)) (append-nil (t.trees s)) (subst (λ (z : List Token). IsFile (t.trees s ++ []) z) (append-nil (spread s t.kinds)) (t.spelled s [] [] refl));
}

faultless_text : (n : ℕ) (text : List ℕ) → n ≤ procedure_limit → Text n text → IsFaultless n text
faultless_text n text h t =
    let split = whole_split n text t in
    let s = spots_of split.tokens in
    let same : spread s t.kinds ≡ split.tokens = ap (spread s) (sym split.are) ∙ spread_all split.tokens in
    record {
      file = t.trees s;
      count = t.count s;
      source = source_is n text t h s (subst (λ (ts : List Token). Lexes 0 text ts) (sym same) split.lexes);
      none = ap first (t.clean (called (t.trees s)) s (answers_all n text t s));
    }

pub faultless : GeneratedTextsAreFaultless
faultless n h = faultless_text n (generated_text n) h (text_is n (omega arith))
