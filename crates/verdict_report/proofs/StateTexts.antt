-- The text of a state: the settings of the variables that are always shown, then those of binders.
use Rattle.heylo_formula.specs.declared.values.Val.{Val}
use Rattle.std.proofs.Common.{Bool, List, [], append_assoc, ap, arith, false, length, refl, sym, true, ◌++◌, ◌∙◌, ◌∷◌, ◌≡◌, ℕ}
use Rattle.std.proofs.lemmas.Bool.Decides.{nat_tests}
use Rattle.std.specs.Prelude.{codes, not, ◌==◌, ◌||◌}
use Rattle.verdict_report.specs.Settings.{Names, more_settings_text, setting_text, settings_text}
use Rattle.verdict_report.specs.States.{listed_text}
use Rattle.verdict_report.specs.internal.Listings.{behind_text, is_some_setting}

pub some_by_length : (ps : List (ℕ × Val)) → not (length ps == 0) ≡ is_some_setting ps
some_by_length [] = refl
some_by_length (p ∷ ps) = let some : (length (p ∷ ps) == 0) ≡ false = grind (arith, nat_tests) in rw some refl

more_append : (n : Names) (ps qs : List (ℕ × Val)) → more_settings_text n (ps ++ qs) ≡ more_settings_text n ps ++ more_settings_text n qs
more_append n [] qs = refl
more_append n (p ∷ ps) qs = ap (λ (t : List ℕ). codes ", " ++ setting_text n p ++ t) (more_append n ps qs) ∙ sym (append_assoc (codes ", " ++ setting_text n p) (more_settings_text n ps) (more_settings_text n qs))

settings_append : (n : Names) (ps qs : List (ℕ × Val)) → settings_text n ps ++ behind_text (is_some_setting ps) n qs ≡ settings_text n (ps ++ qs)
settings_append n [] qs = refl
settings_append n (p ∷ ps) qs = append_assoc (setting_text n p) (more_settings_text n ps) (more_settings_text n qs) ∙ ap (λ (t : List ℕ). setting_text n p ++ t) (sym (more_append n ps qs))

-- Two parts, of which at least one has a setting.
pub listed_settings : (n : Names) (ps qs : List (ℕ × Val)) (t0 t1 t2 : List ℕ) → t1 ≡ t0 ++ settings_text n ps → t2 ≡ t1 ++ behind_text (is_some_setting ps) n qs → (is_some_setting ps || is_some_setting qs) ≡ true → t2 ≡ t0 ++ listed_text n (ps ++ qs)
listed_settings n [] [] t0 t1 t2 e f h = absurd (cc)
listed_settings n [] (q ∷ qs) t0 t1 t2 e f h = f ∙ ap (λ (t : List ℕ). t ++ settings_text n (q ∷ qs)) e ∙ append_assoc t0 [] (settings_text n (q ∷ qs))
listed_settings n (p ∷ ps) qs t0 t1 t2 e f h = f ∙ ap (λ (t : List ℕ). t ++ more_settings_text n qs) e ∙ append_assoc t0 (settings_text n (p ∷ ps)) (more_settings_text n qs) ∙ ap (λ (t : List ℕ). t0 ++ t) (settings_append n (p ∷ ps) qs)

-- Two parts without a setting.
pub any_state : (n : Names) (ps qs : List (ℕ × Val)) (t0 t1 t2 t3 : List ℕ) → t1 ≡ t0 ++ settings_text n ps → t2 ≡ t1 ++ behind_text (is_some_setting ps) n qs → t3 ≡ t2 ++ codes "any state" → (is_some_setting ps || is_some_setting qs) ≡ false → t3 ≡ t0 ++ listed_text n (ps ++ qs)
any_state n [] [] t0 t1 t2 t3 e f g h = g ∙ ap (λ (t : List ℕ). t ++ codes "any state") (f ∙ ap (λ (t : List ℕ). t ++ []) e) ∙ simp append_assoc
any_state n [] (q ∷ qs) t0 t1 t2 t3 e f g h = absurd (cc)
any_state n (p ∷ ps) qs t0 t1 t2 t3 e f g h = absurd (cc)

pub comma_next : (n : Names) (p : ℕ × Val) (ps : List (ℕ × Val)) (t0 t1 t2 : List ℕ) → t1 ≡ t0 ++ codes ", " → t2 ≡ t1 ++ setting_text n p → t2 ++ more_settings_text n ps ≡ t0 ++ more_settings_text n (p ∷ ps)
comma_next n p ps t0 t1 t2 e f = rw (f, e) (simp append_assoc)

pub first_next : (n : Names) (p : ℕ × Val) (ps : List (ℕ × Val)) (t0 t1 : List ℕ) → t1 ≡ t0 ++ setting_text n p → t1 ++ more_settings_text n ps ≡ t0 ++ settings_text n (p ∷ ps)
first_next n p ps t0 t1 e = rw e (append_assoc t0 (setting_text n p) (more_settings_text n ps))

pub told_settings : (n : Names) (ps qs : List (ℕ × Val)) (begun stands : Bool) (t0 t1 t2 : List ℕ) → begun ≡ is_some_setting ps → t1 ≡ t0 ++ settings_text n ps → t2 ≡ t1 ++ behind_text begun n qs → stands ≡ (begun || is_some_setting qs) → stands ≡ true → t2 ≡ t0 ++ listed_text n (ps ++ qs)
told_settings n ps qs begun stands t0 t1 t2 b e f h k = listed_settings n ps qs t0 t1 t2 e (f ∙ ap (λ (s : Bool). t1 ++ behind_text s n qs) b) (sym (h ∙ ap (λ (s : Bool). s || is_some_setting qs) b) ∙ k)

pub untold_settings : (n : Names) (ps qs : List (ℕ × Val)) (begun stands : Bool) (t0 t1 t2 t3 : List ℕ) → begun ≡ is_some_setting ps → t1 ≡ t0 ++ settings_text n ps → t2 ≡ t1 ++ behind_text begun n qs → t3 ≡ t2 ++ codes "any state" → stands ≡ (begun || is_some_setting qs) → stands ≡ false → t3 ≡ t0 ++ listed_text n (ps ++ qs)
untold_settings n ps qs begun stands t0 t1 t2 t3 b e f g h k = any_state n ps qs t0 t1 t2 t3 e (f ∙ ap (λ (s : Bool). t1 ++ behind_text s n qs) b) g (sym (h ∙ ap (λ (s : Bool). s || is_some_setting qs) b) ∙ k)
