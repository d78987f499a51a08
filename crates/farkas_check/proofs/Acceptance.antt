-- A tree is accepted or refused at one place, and not both.
use Rattle.std.proofs.Common.{◌≡◌, List, [], refl, sym, ◌∙◌, subst, Bool, true, false}
use Rattle.std.specs.Prelude.{Some, None}
use Rattle.heyvl_places.specs.declared.spans.Span.{Span}
use Rattle.heylo_formula.specs.Goals.{Goal}
use Rattle.linear_form.specs.Query.{Query, Atom, Taken, onto}
use Rattle.linear_form.specs.Query.Query.{ask}
use Rattle.linear_form.specs.Questions.{Ends}
use Rattle.linear_form.specs.Splits.{split_at}
use Rattle.linear_form.specs.Nonlinear.{nonlinear_product}
use Rattle.goal_answers.specs.Trees.{Tree}
use Rattle.linear_form.specs.Paths.{Asks}
use Rattle.farkas_check.specs.AcceptedCertificates.{IsAccepted, IsRefused, IsCertificate, IsNoCertificate}

pub one_question : (g : Goal) (ps : List Taken) (q r : Atom) → Asks g ps q → Asks g ps r → q ≡ r
one_question g ps q r a b = go q r a.yes a.no b.yes b.no (sym a.question ∙ b.question)
  where
    go : (q r : Atom) (y n y' n' : Query Ends) → ask q y n ≡ ask r y' n' → q ≡ r
    go q r y n y' n' e = cc

pub never_both : (g : Goal) (t : Tree) (ps : List Taken) (place : List Bool) → IsAccepted g ps t → IsRefused g ps t place → ⊥
never_both g (Tree.split t u) _ _ (IsAccepted.split ps q _ _ a x y) (IsRefused.no_question _ _ _ n) = n q a
never_both g (Tree.split t u) _ _ (IsAccepted.split ps q _ _ a x y) (IsRefused.first _ r _ _ place b f) = never_both g t (onto ps q true) place x (subst (λ k. IsRefused g (onto ps k true) t place) (one_question g ps r q b a) f)
never_both g (Tree.split t u) _ _ (IsAccepted.split ps q _ _ a x y) (IsRefused.second _ r _ _ place b z f) = never_both g u (onto ps q false) place y (subst (λ k. IsRefused g (onto ps k false) u place) (one_question g ps r q b a) f)
never_both g (Tree.farkas ms) _ _ (IsAccepted.farkas ps _ h) (IsRefused.no_contradiction _ _ n) = n h
never_both g Tree.plain _ _ (IsAccepted.plain ps h) (IsRefused.not_plain _ n) = n h
never_both g (Tree.whole x m t u) _ _ (IsAccepted.whole ps _ _ _ _ a y z) (IsRefused.no_split _ _ _ _ _ n) = n a
never_both g (Tree.whole x m t u) _ _ (IsAccepted.whole ps _ _ _ _ a y z) (IsRefused.first_half _ _ _ _ _ place b f) = never_both g t (onto ps (split_at x m) true) place y f
never_both g (Tree.whole x m t u) _ _ (IsAccepted.whole ps _ _ _ _ a y z) (IsRefused.second_half _ _ _ _ _ place b w f) = never_both g u (onto ps (split_at x m) false) place z f

pub one_place : (g : Goal) (t : Tree) (ps : List Taken) (p r : List Bool) → IsRefused g ps t p → IsRefused g ps t r → p ≡ r
one_place g (Tree.split t u) _ _ _ (IsRefused.no_question ps _ _ n) (IsRefused.no_question _ _ _ m) = refl
one_place g (Tree.split t u) _ _ _ (IsRefused.no_question ps _ _ n) (IsRefused.first _ q _ _ place b f) = absurd (n q b)
one_place g (Tree.split t u) _ _ _ (IsRefused.no_question ps _ _ n) (IsRefused.second _ q _ _ place b z f) = absurd (n q b)
one_place g (Tree.split t u) _ _ _ (IsRefused.first ps q _ _ place b f) (IsRefused.no_question _ _ _ n) = absurd (n q b)
one_place g (Tree.split t u) _ _ _ (IsRefused.first ps q _ _ place b f) (IsRefused.first _ r _ _ other c h) = one_place g t (onto ps q true) place other f (subst (λ k. IsRefused g (onto ps k true) t other) (one_question g ps r q c b) h)
one_place g (Tree.split t u) _ _ _ (IsRefused.first ps q _ _ place b f) (IsRefused.second _ r _ _ other c z h) = absurd (never_both g t (onto ps q true) place (subst (λ k. IsAccepted g (onto ps k true) t) (one_question g ps r q c b) z) f)
one_place g (Tree.split t u) _ _ _ (IsRefused.second ps q _ _ place b x f) (IsRefused.no_question _ _ _ n) = absurd (n q b)
one_place g (Tree.split t u) _ _ _ (IsRefused.second ps q _ _ place b x f) (IsRefused.first _ r _ _ other c h) = absurd (never_both g t (onto ps q true) other x (subst (λ k. IsRefused g (onto ps k true) t other) (one_question g ps r q c b) h))
one_place g (Tree.split t u) _ _ _ (IsRefused.second ps q _ _ place b x f) (IsRefused.second _ r _ _ other c z h) = one_place g u (onto ps q false) place other f (subst (λ k. IsRefused g (onto ps k false) u other) (one_question g ps r q c b) h)
one_place g (Tree.farkas ms) _ _ _ (IsRefused.no_contradiction ps _ n) (IsRefused.no_contradiction _ _ m) = refl
one_place g Tree.plain _ _ _ (IsRefused.not_plain ps n) (IsRefused.not_plain _ m) = refl
one_place g (Tree.whole x m t u) _ _ _ (IsRefused.no_split ps _ _ _ _ n) (IsRefused.no_split _ _ _ _ _ o) = refl
one_place g (Tree.whole x m t u) _ _ _ (IsRefused.no_split ps _ _ _ _ n) (IsRefused.first_half _ _ _ _ _ place b f) = absurd (n b)
one_place g (Tree.whole x m t u) _ _ _ (IsRefused.no_split ps _ _ _ _ n) (IsRefused.second_half _ _ _ _ _ place b z f) = absurd (n b)
one_place g (Tree.whole x m t u) _ _ _ (IsRefused.first_half ps _ _ _ _ place b f) (IsRefused.no_split _ _ _ _ _ n) = absurd (n b)
one_place g (Tree.whole x m t u) _ _ _ (IsRefused.first_half ps _ _ _ _ place b f) (IsRefused.first_half _ _ _ _ _ other c h) = one_place g t (onto ps (split_at x m) true) place other f h
one_place g (Tree.whole x m t u) _ _ _ (IsRefused.first_half ps _ _ _ _ place b f) (IsRefused.second_half _ _ _ _ _ other c z h) = absurd (never_both g t (onto ps (split_at x m) true) place z f)
one_place g (Tree.whole x m t u) _ _ _ (IsRefused.second_half ps _ _ _ _ place b z f) (IsRefused.no_split _ _ _ _ _ n) = absurd (n b)
one_place g (Tree.whole x m t u) _ _ _ (IsRefused.second_half ps _ _ _ _ place b z f) (IsRefused.first_half _ _ _ _ _ other c h) = absurd (never_both g t (onto ps (split_at x m) true) other z h)
one_place g (Tree.whole x m t u) _ _ _ (IsRefused.second_half ps _ _ _ _ place b z f) (IsRefused.second_half _ _ _ _ _ other c w h) = one_place g u (onto ps (split_at x m) false) place other f h

pub certificate_or_not : (g : Goal) (t : Tree) (place : List Bool) → IsCertificate g t → IsNoCertificate g t place → ⊥
certificate_or_not g t place h (IsNoCertificate.product span e) = let k = sym h.linear ∙ e in absurd (cc)
certificate_or_not g t place h (IsNoCertificate.at_node _ e r) = never_both g t [] place h.accepted r

pub one_refusal : (g : Goal) (t : Tree) (p r : List Bool) → IsNoCertificate g t p → IsNoCertificate g t r → p ≡ r
one_refusal g t _ _ (IsNoCertificate.product span e) (IsNoCertificate.product other f) = refl
one_refusal g t _ _ (IsNoCertificate.product span e) (IsNoCertificate.at_node place f h) = let k = sym f ∙ e in absurd (cc)
one_refusal g t _ _ (IsNoCertificate.at_node place f h) (IsNoCertificate.product span e) = let k = sym f ∙ e in absurd (cc)
one_refusal g t _ _ (IsNoCertificate.at_node place f h) (IsNoCertificate.at_node other e k) = one_place g t [] place other h k

-- ---- The answers of the check

pub root_refused : (g : Goal) (t : Tree) (items : List Bool) (span : Span) → nonlinear_product g ≡ Some span → items ≡ [] → IsNoCertificate g t items
root_refused g t items span e h = subst (IsNoCertificate g t) (sym h) (IsNoCertificate.product span e)

pub refused_only : (g : Goal) (t : Tree) (items : List Bool) → IsNoCertificate g t items → (place : List Bool) → ((items ≡ place → IsNoCertificate g t place) × (IsNoCertificate g t place → items ≡ place))
refused_only g t items h place = (λ e. subst (IsNoCertificate g t) e h, λ k. one_refusal g t items place h k)

pub tree_refused : (g : Goal) (t : Tree) (items : List Bool) → nonlinear_product g ≡ None → IsRefused g [] t items → IsNoCertificate g t items
tree_refused g t items e h = IsNoCertificate.at_node items e h

pub tree_accepted : (g : Goal) (t : Tree) → nonlinear_product g ≡ None → IsAccepted g [] t → IsCertificate g t
tree_accepted g t e h = record { linear = e; accepted = h }
