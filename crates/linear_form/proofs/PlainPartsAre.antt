-- The conversion of a part of each kind converts its parts.
use Rattle.std.proofs.Common.{◌≡◌, sym, ap, ◌∙◌, subst}
use Rattle.std.specs.declared.alloc.Global.{Global}
use Rattle.std.specs.declared.rc.Rc.{Rc}
use Rattle.linear_form.specs.PlainPaths.{atom_of}
use Rattle.linear_form.specs.internal.Parts.{Part, Work, asked, asked_by_work, part_weight, work_weight, IsReady, IsReadyWork, IsSure}
use Rattle.linear_form.specs.internal.PlainParts.{outcome_of, part_of, work_of}
use Rattle.linear_form.specs.declared.parts.Operation.{Operation}
use Rattle.linear_form.specs.declared.parts.Outcome.{Outcome}
use Rattle.linear_form.specs.declared.parts.Part as P
use Rattle.linear_form.specs.declared.parts.Work as W
use Rattle.linear_form.specs.declared.parts.Work.TheFolds.{fold-roll-Part, fold-roll-Work}
use Rattle.linear_form.specs.declared.paths.Atom.{Atom}

pub known_work : (o : Outcome) → work_of (W.TheVariants.Known o) ≡ Work.known (outcome_of o)
known_work o = ap work_of (sym (W.TheVariants.rolls-Known o)) ∙ fold-roll-Work _ _ _ _ _

pub large_work : work_of W.TheVariants.Large ≡ Work.large
large_work = ap work_of (sym W.TheVariants.rolls-Large) ∙ fold-roll-Work _ _ _ _ _

pub asks_work : (a : Rc Atom Global) (p u : Rc P.Part Global) → work_of (W.TheVariants.Asks a p u) ≡ Work.asks (atom_of a.value) (part_of p.value) (part_of u.value)
asks_work a p u = ap work_of (sym (W.TheVariants.rolls-Asks a p u)) ∙ fold-roll-Work _ _ _ _ _

pub two_work : (o : Operation) (p u : Rc P.Part Global) → work_of (W.TheVariants.Two o p u) ≡ Work.two o (part_of p.value) (part_of u.value)
two_work o p u = ap work_of (sym (W.TheVariants.rolls-Two o p u)) ∙ fold-roll-Work _ _ _ _ _

pub choice_work : (g p u : Rc P.Part Global) → work_of (W.TheVariants.Choice g p u) ≡ Work.choice (part_of g.value) (part_of p.value) (part_of u.value)
choice_work g p u = ap work_of (sym (W.TheVariants.rolls-Choice g p u)) ∙ fold-roll-Work _ _ _ _ _

pub part_is : (p : P.Part) → part_of p ≡ Part.part (work_of p.work) p.asks
part_is p = fold-roll-Part _ _ _ _ _

pub asked_part : (p : P.Part) → asked (part_of p) ≡ asked_by_work (work_of p.work)
asked_part p = ap asked (part_is p)

pub noted : (p : P.Part) → IsReady (part_of p) → IsSure p.asks (asked_by_work (work_of p.work)) × IsReadyWork (work_of p.work)
noted p h = subst IsReady (part_is p) h

pub ready_of : (p : P.Part) → IsSure p.asks (asked_by_work (work_of p.work)) → IsReadyWork (work_of p.work) → IsReady (part_of p)
ready_of p h k = subst IsReady (sym (part_is p)) (h, k)

pub does : (p q : P.Part) (w : W.Work) → q ≡ p → q.work ≡ w → work_of p.work ≡ work_of w
does p q w e h = ap (λ (p : P.Part). work_of p.work) (sym e) ∙ ap work_of h

pub asks_by : (p : P.Part) (w : Work) → work_of p.work ≡ w → asked (part_of p) ≡ asked_by_work w
asks_by p w e = ap asked (part_is p) ∙ ap asked_by_work e

pub weighs_by : (p : P.Part) (w : Work) → work_of p.work ≡ w → part_weight (part_of p) ≡ work_weight w
weighs_by p w e = ap part_weight (part_is p) ∙ ap work_weight e

pub ready_by : (p : P.Part) (w : Work) → work_of p.work ≡ w → IsReady (part_of p) → IsReadyWork w
ready_by p w e h = subst IsReadyWork e (subst IsReady (part_is p) h).1
