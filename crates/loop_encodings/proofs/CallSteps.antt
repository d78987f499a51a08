-- One more act of a call's or a loop's encoding.
use Rattle.std.proofs.Common.{◌≡◌, ◌<◌, ◌≤◌, ◌+◌, ℕ, refl, sym, ap, ◌∙◌, add-one, Bool, List, [], ◌∷◌, ◌++◌, length, get_or, drop}
use Rattle.std.proofs.lemmas.List.{drop_all}
use Rattle.heyvl_places.specs.declared.spans.Span.{Span}
use Rattle.heyvl_places.specs.declared.checks.CheckKind.{CheckKind}
use Rattle.heylo_formula.specs.Formula.{Form}
use Rattle.heylo_formula.specs.PlainTrees.{form_of, term_of}
use Rattle.heylo_formula.specs.Typing.{Types}
use Rattle.heylo_formula.specs.declared.forms.Form as F
use Rattle.heylo_formula.specs.declared.terms.Term as T
use Rattle.heylo_formula.specs.declared.types.Ty.{Ty}
use Rattle.heyvl_acts.specs.Acts.{Act, Acts, join, type_list}
use Rattle.heylo_formula.specs.Shifts.{shifted}
use Rattle.heyvl_acts.proofs.exported.PlainActsAre.{set_act, any_act, check_act}
use Rattle.heyvl_acts.specs.PlainActs.{act_of, acts_of, procedure_of, terms_of}
use Rattle.heyvl_acts.specs.declared.acts.Act as A
use Rattle.heyvl_acts.specs.declared.typed_trees.TProc.{TProc}
use Rattle.k_induction.specs.Copies.{may}
use Rattle.heyvl_acts.specs.declared.typed_trees.VarInfo.{VarInfo}
use Rattle.loop_encodings.specs.Encoding.{sets, any_block, read, gets, havocs}
use Rattle.loop_encodings.specs.internal.Ready.{IsCallee, plain_variables, returned}
use Rattle.loop_encodings.proofs.OwnVariables.{inputs_length}
use Rattle.loop_encodings.proofs.AppendedActs.{left_over, number_left, join_nothing, one_more, last_one}

pub sets_more : (span : Span) (m n : ℕ) (es : List T.Term) (i : ℕ) (e : T.Term) (rest : Acts) → n ≡ m + 1 → i < length es → e ≡ get_or es i e → Acts.next (Act.set m (term_of e) span) (sets span n (terms_of (drop (i + 1) es)) rest) ≡ sets span m (terms_of (drop i es)) rest
sets_more span m n es i e rest up lt is = ap (λ k. Acts.next (Act.set m (term_of e) span) (sets span k (terms_of (drop (i + 1) es)) rest)) (up ∙ add-one m) ∙ ap (λ l. sets span m (terms_of l) rest) (sym (left_over es i e lt is))

pub sets_all : (span : Span) (m : ℕ) (es : List T.Term) (i : ℕ) (rest : Acts) → length es ≤ i → sets span m (terms_of (drop i es)) rest ≡ rest
sets_all span m es i rest le = ap (λ l. sets span m (terms_of l) rest) (drop_all i es le)

pub any_more : (up : Bool) (span : Span) (m n : ℕ) (vs : List VarInfo) (i : ℕ) (v : VarInfo) (rest : Acts) → n ≡ m + 1 → i < length vs → v ≡ get_or vs i v → Acts.next (Act.any m up v.ty span) (any_block up span n (type_list (plain_variables (drop (i + 1) vs))) rest) ≡ any_block up span m (type_list (plain_variables (drop i vs))) rest
any_more up span m n vs i v rest more lt is = ap (λ k. Acts.next (Act.any m up v.ty span) (any_block up span k (type_list (plain_variables (drop (i + 1) vs))) rest)) (more ∙ add-one m) ∙ ap (λ l. any_block up span m (type_list (plain_variables l)) rest) (sym (left_over vs i v lt is))

pub any_all : (up : Bool) (span : Span) (m : ℕ) (vs : List VarInfo) (i : ℕ) (rest : Acts) → length vs ≤ i → any_block up span m (type_list (plain_variables (drop i vs))) rest ≡ rest
any_all up span m vs i rest le = ap (λ l. any_block up span m (type_list (plain_variables l)) rest) (drop_all i vs le)

pub gets_more : (span : Span) (m n : ℕ) (xs : List ℕ) (vs : List VarInfo) (i x : ℕ) (v : VarInfo) → n ≡ m + 1 → i < length xs → i < length vs → x ≡ get_or xs i 0 → v ≡ get_or vs i v → Acts.next (Act.set x (read m v.ty) span) (gets span (drop (i + 1) xs) (type_list (plain_variables (drop (i + 1) vs))) n) ≡ gets span (drop i xs) (type_list (plain_variables (drop i vs))) m
gets_more span m n xs vs i x v more lt lt' is is' =
    ap (λ k. Acts.next (Act.set x (read m v.ty) span) (gets span (drop (i + 1) xs) (type_list (plain_variables (drop (i + 1) vs))) k)) (more ∙ add-one m)
    ∙ (ap (λ l. gets span (x ∷ drop (i + 1) xs) (type_list (plain_variables l)) m) (sym (left_over vs i v lt' is'))
    ∙ ap (λ l. gets span l (type_list (plain_variables (drop i vs))) m) (sym (number_left xs i x lt is)))

pub gets_all : (span : Span) (m : ℕ) (xs : List ℕ) (ts : List Ty) (i : ℕ) → length xs ≤ i → gets span (drop i xs) ts m ≡ Acts.done
gets_all span m xs ts i le = ap (λ l. gets span l ts m) (drop_all i xs le)

pub havocs_more : (up : Bool) (span : Span) (types : Types) (xs : List ℕ) (i x : ℕ) (ty : Ty) (rest : Acts) → types x ≡ ty → i < length xs → x ≡ get_or xs i 0 → Acts.next (Act.any x up ty span) (havocs up span types (drop (i + 1) xs) rest) ≡ havocs up span types (drop i xs) rest
havocs_more up span types xs i x ty rest here lt is = ap (λ t. Acts.next (Act.any x up t span) (havocs up span types (drop (i + 1) xs) rest)) (sym here) ∙ ap (λ l. havocs up span types l rest) (sym (number_left xs i x lt is))

pub havocs_all : (up : Bool) (span : Span) (types : Types) (xs : List ℕ) (i : ℕ) (rest : Acts) → length xs ≤ i → havocs up span types (drop i xs) rest ≡ rest
havocs_all up span types xs i rest le = ap (λ l. havocs up span types l rest) (drop_all i xs le)

-- ---- One more iteration of a loop of the program

pub sets_step : (span : Span) (first : ℕ) (es : List T.Term) (i m : ℕ) (e t : T.Term) (start xs ys : List A.Act) → ((rest : Acts) → join (acts_of xs) (sets span m (terms_of (drop i es)) rest) ≡ join (acts_of start) (sets span first (terms_of es) rest)) → ys ≡ xs ++ A.Set m t span ∷ [] → term_of t ≡ term_of e → i < length es → e ≡ get_or es i e → (rest : Acts) → join (acts_of ys) (sets span (m + 1) (terms_of (drop (i + 1) es)) rest) ≡ join (acts_of start) (sets span first (terms_of es) rest)
sets_step span first es i m e t start xs ys inv items same lt is rest =
    one_more xs ys (A.Set m t span) (Act.set m (term_of e) span) (sets span (m + 1) (terms_of (drop (i + 1) es)) rest) items (set_act m t span ∙ ap (λ u. Act.set m u span) same)
    ∙ (ap (λ r. join (acts_of xs) r) (sets_more span m (m + 1) es i e rest refl lt is)
    ∙ inv rest)

pub any_step : (up : Bool) (span : Span) (first : ℕ) (vs : List VarInfo) (i m : ℕ) (v : VarInfo) (start xs ys : List A.Act) → ((rest : Acts) → join (acts_of xs) (any_block up span m (type_list (plain_variables (drop i vs))) rest) ≡ join (acts_of start) (any_block up span first (type_list (plain_variables vs)) rest)) → ys ≡ xs ++ A.Any m up v.ty span ∷ [] → i < length vs → v ≡ get_or vs i v → (rest : Acts) → join (acts_of ys) (any_block up span (m + 1) (type_list (plain_variables (drop (i + 1) vs))) rest) ≡ join (acts_of start) (any_block up span first (type_list (plain_variables vs)) rest)
any_step up span first vs i m v start xs ys inv items lt is rest =
    one_more xs ys (A.Any m up v.ty span) (Act.any m up v.ty span) (any_block up span (m + 1) (type_list (plain_variables (drop (i + 1) vs))) rest) items (any_act m up v.ty span)
    ∙ (ap (λ r. join (acts_of xs) r) (any_more up span m (m + 1) vs i v rest refl lt is)
    ∙ inv rest)

pub gets_step : (span : Span) (first : ℕ) (ts : List ℕ) (vs : List VarInfo) (i m x : ℕ) (v : VarInfo) (t : T.Term) (start xs ys : List A.Act) → join (acts_of xs) (gets span (drop i ts) (type_list (plain_variables (drop i vs))) m) ≡ join (acts_of start) (gets span ts (type_list (plain_variables vs)) first) → ys ≡ xs ++ A.Set x t span ∷ [] → term_of t ≡ read m v.ty → i < length ts → i < length vs → x ≡ get_or ts i 0 → v ≡ get_or vs i v → join (acts_of ys) (gets span (drop (i + 1) ts) (type_list (plain_variables (drop (i + 1) vs))) (m + 1)) ≡ join (acts_of start) (gets span ts (type_list (plain_variables vs)) first)
gets_step span first ts vs i m x v t start xs ys inv items same lt lt' is is' =
    one_more xs ys (A.Set x t span) (Act.set x (read m v.ty) span) (gets span (drop (i + 1) ts) (type_list (plain_variables (drop (i + 1) vs))) (m + 1)) items (set_act x t span ∙ ap (λ u. Act.set x u span) same)
    ∙ (ap (λ r. join (acts_of xs) r) (gets_more span m (m + 1) ts vs i x v refl lt lt' is is')
    ∙ inv)

pub gets_end : (span : Span) (first : ℕ) (ts : List ℕ) (vs : List VarInfo) (i m : ℕ) (start xs : List A.Act) → join (acts_of xs) (gets span (drop i ts) (type_list (plain_variables (drop i vs))) m) ≡ join (acts_of start) (gets span ts (type_list (plain_variables vs)) first) → length ts ≤ i → acts_of xs ≡ join (acts_of start) (gets span ts (type_list (plain_variables vs)) first)
gets_end span first ts vs i m start xs inv le = sym (ap (λ r. join (acts_of xs) r) (gets_all span m ts (type_list (plain_variables (drop i vs))) i le) ∙ join_nothing (acts_of xs)) ∙ inv

pub havocs_step : (up : Bool) (span : Span) (types : Types) (all : List ℕ) (i x : ℕ) (ty : Ty) (start xs ys : List A.Act) → ((rest : Acts) → join (acts_of xs) (havocs up span types (drop i all) rest) ≡ join (acts_of start) (havocs up span types all rest)) → ys ≡ xs ++ A.Any x up ty span ∷ [] → types x ≡ ty → i < length all → x ≡ get_or all i 0 → (rest : Acts) → join (acts_of ys) (havocs up span types (drop (i + 1) all) rest) ≡ join (acts_of start) (havocs up span types all rest)
havocs_step up span types all i x ty start xs ys inv items here lt is rest =
    one_more xs ys (A.Any x up ty span) (Act.any x up ty span) (havocs up span types (drop (i + 1) all) rest) items (any_act x up ty span)
    ∙ (ap (λ r. join (acts_of xs) r) (havocs_more up span types all i x ty rest here lt is)
    ∙ inv rest)

pub havocs_end : (up : Bool) (span : Span) (types : Types) (all : List ℕ) (i : ℕ) (start xs : List A.Act) → ((rest : Acts) → join (acts_of xs) (havocs up span types (drop i all) rest) ≡ join (acts_of start) (havocs up span types all rest)) → length all ≤ i → (rest : Acts) → join (acts_of xs) rest ≡ join (acts_of start) (havocs up span types all rest)
havocs_end up span types all i start xs inv le rest = ap (λ r. join (acts_of xs) r) (sym (havocs_all up span types all i rest le)) ∙ inv rest

-- ---- Checks, and acts in a row

pub check_made : (kind kind' : CheckKind) (f : F.Form) (g : Form) (span : Span) → kind ≡ kind' → form_of f ≡ g → act_of (A.Check kind f span) ≡ Act.check kind' g span
check_made kind kind' f g span same here = check_act kind f span ∙ (ap (λ k. Act.check k (form_of f) span) same ∙ ap (λ x. Act.check kind' x span) here)

pub three_made : (s0 s1 s2 s3 : List A.Act) (a b c : A.Act) (p q r : Act) → s1 ≡ s0 ++ a ∷ [] → s2 ≡ s1 ++ b ∷ [] → s3 ≡ s2 ++ c ∷ [] → act_of a ≡ p → act_of b ≡ q → act_of c ≡ r → acts_of s3 ≡ join (acts_of s0) (Acts.next p (Acts.next q (Acts.next r Acts.done)))
three_made s0 s1 s2 s3 a b c p q r e1 e2 e3 ea eb ec = last_one s2 s3 c r e3 ec ∙ (one_more s1 s2 b q (Acts.next r Acts.done) e2 eb ∙ one_more s0 s1 a p (Acts.next q (Acts.next r Acts.done)) e1 ea)

abbrev post_of : Bool → Span → ℕ → TProc → Act
post_of up span first q = Act.check (may up) (shifted first (form_of q.post)) span

abbrev return_from : Bool → Span → List ℕ → Act → ℕ → List Ty → Acts
return_from up span xs post n ts = any_block up span n ts (Acts.next (Act.validate up span) (Acts.next post (gets span xs ts n)))

pub return_made : (up : Bool) (span : Span) (first : ℕ) (q : TProc) (vs : List VarInfo) (xs : List ℕ) (s0 s1 s2 s3 s4 : List A.Act) (a b : A.Act) → IsCallee q → plain_variables vs ≡ (procedure_of q).outputs → ((rest : Acts) → join (acts_of s1) rest ≡ join (acts_of s0) (any_block up span (first + q.inputs) (type_list (plain_variables vs)) rest)) → s2 ≡ s1 ++ a ∷ [] → act_of a ≡ Act.validate up span → s3 ≡ s2 ++ b ∷ [] → act_of b ≡ Act.check (may up) (shifted first (form_of q.post)) span → acts_of s4 ≡ join (acts_of s3) (gets span xs (type_list (plain_variables vs)) (first + q.inputs)) → acts_of s4 ≡ join (acts_of s0) (returned up span first xs (procedure_of q))
return_made up span first q vs xs s0 s1 s2 s3 s4 a b callee outputs anys e2 ea e3 eb e4 =
    e4
    ∙ (one_more s2 s3 b (post_of up span first q) (gets span xs (type_list (plain_variables vs)) (first + q.inputs)) e3 eb
    ∙ (one_more s1 s2 a (Act.validate up span) (Acts.next (post_of up span first q) (gets span xs (type_list (plain_variables vs)) (first + q.inputs))) e2 ea
    ∙ (anys (Acts.next (Act.validate up span) (Acts.next (post_of up span first q) (gets span xs (type_list (plain_variables vs)) (first + q.inputs))))
    ∙ (ap (λ n. join (acts_of s0) (return_from up span xs (post_of up span first q) n (type_list (plain_variables vs)))) (ap (λ n. first + n) (sym (inputs_length q callee.counted)))
    ∙ ap (λ l. join (acts_of s0) (return_from up span xs (post_of up span first q) (first + length (procedure_of q).inputs) (type_list l))) outputs))))
