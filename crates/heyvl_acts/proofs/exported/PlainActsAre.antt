-- For the proofs of other crates: the plain tree of each kind of act is the plain act of the plain
-- trees of its parts.
use Rattle.std.proofs.Common.{◌≡◌, ℕ, Bool, sym, ap, ◌∙◌, refl, List, [], ◌∷◌, map}
use Rattle.std.specs.Prelude.{Vec}
use Rattle.std.specs.declared.alloc.Global.{Global}
use Rattle.std.specs.declared.boxed.Box.{Box}
use Rattle.heyvl_num.specs.Rational.{Rational}
use Rattle.heyvl_places.specs.declared.spans.Span.{Span}
use Rattle.heyvl_places.specs.declared.checks.CheckKind.{CheckKind}
use Rattle.heylo_formula.specs.declared.forms.Cond as C
use Rattle.heylo_formula.specs.declared.forms.Form as F
use Rattle.heylo_formula.specs.declared.terms.Term as T
use Rattle.heylo_formula.specs.declared.types.Ty.{Ty}
use Rattle.heylo_formula.specs.PlainTrees.{form_of, cond_of, term_of}
use Rattle.heyvl_acts.specs.declared.acts.Act as A
use Rattle.heyvl_acts.specs.declared.acts.LoopAct as L
use Rattle.heyvl_acts.specs.declared.acts.Act.TheFolds.{fold-roll-Act, fold-roll-LoopAct}
use Rattle.heyvl_acts.specs.Acts.{Head, Act, Arms}
use Rattle.heyvl_acts.specs.PlainActs.{armed, layered_arm, parts_of, terms_of, rank_of, act_of, acts_of, arms_of}

pub set_act : (x : ℕ) (t : T.Term) (span : Span) → act_of (A.Set x t span) ≡ Act.set x (term_of t) span
set_act x t span = ap act_of (sym (A.TheVariants.rolls-Set x t span)) ∙ fold-roll-Act _ _ _ _ _

pub draw_act : (x : ℕ) (ps : Vec (Rational × T.Term) Global) (span : Span) → act_of (A.Draw x ps span) ≡ Act.draw x (parts_of ps.items) span
draw_act x ps span = ap act_of (sym (A.TheVariants.rolls-Draw x ps span)) ∙ fold-roll-Act _ _ _ _ _

pub toss_act : (x : ℕ) (f : F.Form) (span : Span) → act_of (A.Toss x f span) ≡ Act.toss x (form_of f) span
toss_act x f span = ap act_of (sym (A.TheVariants.rolls-Toss x f span)) ∙ fold-roll-Act _ _ _ _ _

pub any_act : (x : ℕ) (up : Bool) (ty : Ty) (span : Span) → act_of (A.Any x up ty span) ≡ Act.any x up ty span
any_act x up ty span = ap act_of (sym (A.TheVariants.rolls-Any x up ty span)) ∙ fold-roll-Act _ _ _ _ _

pub reward_act : (f : F.Form) (span : Span) → act_of (A.Reward f span) ≡ Act.reward (form_of f) span
reward_act f span = ap act_of (sym (A.TheVariants.rolls-Reward f span)) ∙ fold-roll-Act _ _ _ _ _

pub check_act : (kind : CheckKind) (f : F.Form) (span : Span) → act_of (A.Check kind f span) ≡ Act.check kind (form_of f) span
check_act kind f span = ap act_of (sym (A.TheVariants.rolls-Check kind f span)) ∙ fold-roll-Act _ _ _ _ _

pub validate_act : (co : Bool) (span : Span) → act_of (A.Validate co span) ≡ Act.validate co span
validate_act co span = ap act_of (sym (A.TheVariants.rolls-Validate co span)) ∙ fold-roll-Act _ _ _ _ _

pub pick_act : (up : Bool) (a b : Vec A.Act Global) (span : Span) → act_of (A.Pick up a b span) ≡ Act.pick up (acts_of a.items) (acts_of b.items) span
pick_act up a b span = ap act_of (sym (A.TheVariants.rolls-Pick up a b span)) ∙ fold-roll-Act _ _ _ _ _

pub call_act : (xs : Vec ℕ Global) (p : ℕ) (es : Vec T.Term Global) (span : Span) → act_of (A.Call xs p es span) ≡ Act.call xs.items p (terms_of es.items) span
call_act xs p es span = ap act_of (sym (A.TheVariants.rolls-Call xs p es span)) ∙ fold-roll-Act _ _ _ _ _

arms_are : (l : List (C.Cond × Vec A.Act Global)) → armed (map layered_arm (map ((A.TheShapes.former-Act-If-0-at-3).map A.Act Act act_of) l)) ≡ arms_of l
arms_are [] = refl
arms_are (x ∷ l) = ap (λ r. Arms.arm (cond_of x.0) (acts_of x.1.items) r) (arms_are l)

pub if_act : (arms : Vec (C.Cond × Vec A.Act Global) Global) (e : Vec A.Act Global) (span : Span) → act_of (A.If arms e span) ≡ Act.ifs (arms_of arms.items) (acts_of e.items) span
if_act arms e span = ap act_of (sym (A.TheVariants.rolls-If arms e span)) ∙ fold-roll-Act _ _ _ _ _ ∙ ap (λ x. Act.ifs x (acts_of e.items) span) (arms_are arms.items)

-- The head of a loop, which is the loop without its body.
abbrev pub head_of : L.LoopAct → Head
head_of l = record { number = l.number; k = l.k; inv = form_of l.inv; guard = cond_of l.guard; rank = rank_of l.rank; scope = l.scope.items; span = l.span }

pub loop_act : (l : Box L.LoopAct Global) → act_of (A.Loop l) ≡ Act.loop (head_of l.value) (acts_of l.value.body.items)
loop_act l = ap act_of (sym (A.TheVariants.rolls-Loop l)) ∙ fold-roll-Act _ _ _ _ _ ∙ fold-roll-LoopAct _ _ _ _ _
