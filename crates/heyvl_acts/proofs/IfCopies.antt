-- Copies of an `if`.
use Rattle.std.proofs.Common.{◌≡◌, ℕ, ◌≤◌, ap, sym, ◌∙◌, List, map, length, take}
use Rattle.std.specs.Prelude.{Vec}
use Rattle.std.specs.declared.alloc.Global.{Global}
use Rattle.std.proofs.lemmas.List.{take_all}
use Rattle.heyvl_places.specs.declared.spans.Span.{Span}
use Rattle.heylo_formula.specs.declared.forms.Cond as C
use Rattle.heyvl_acts.specs.declared.acts.Act as A
use Rattle.heyvl_acts.specs.Acts.{Act}
use Rattle.heyvl_acts.specs.PlainActs.{act_of, acts_of, arm_of, arms_of, armed}
use Rattle.heyvl_acts.proofs.exported.PlainActsAre.{if_act}

pub all_arms : (xs ys : List (C.Cond × Vec A.Act Global)) (n : ℕ) → map arm_of xs ≡ map arm_of (take n ys) → length ys ≤ n → arms_of xs ≡ arms_of ys
all_arms xs ys n same all = ap armed (same ∙ ap (λ zs. map arm_of zs) (take_all n ys all))

pub branched : (xs : Vec (C.Cond × Vec A.Act Global) Global) (e : Vec A.Act Global) (span : Span) (a : A.Act) (ys : List (C.Cond × Vec A.Act Global)) (b : List A.Act) → arms_of xs.items ≡ arms_of ys → acts_of e.items ≡ acts_of b → act_of a ≡ Act.ifs (arms_of ys) (acts_of b) span → act_of (A.If xs e span) ≡ act_of a
branched xs e span a ys b arms other was = if_act xs e span ∙ (ap (λ r. Act.ifs r (acts_of e.items) span) arms ∙ (ap (λ r. Act.ifs (arms_of ys) r span) other ∙ sym was))
