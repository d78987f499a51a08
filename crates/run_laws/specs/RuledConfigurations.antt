-- Configurations that satisfy the static rules: states have the right types, and the items are acts
-- that satisfy the rules of the procedure that runs. This project's own.
use Rattle.std.specs.Prelude.{◌≡◌, ◌<◌, ℕ, List, [], ◌∷◌, length}
use Rattle.heyvl_num.specs.Value.{Value, ◌≤ᵛ◌}
use Rattle.heyvl_acts.specs.Acts.{Act, Acts, TypedProcedure, type_list, types_of, procedure_at}
use Rattle.heyvl_acts.specs.Places.{in_order, inside}
use Rattle.heyvl_acts.specs.Rules.{Each, IsOwn, HasOwnTargets, IsTypedAct, WeighsOne, TargetsFit}
use Rattle.run_machine.specs.Bound.{IsState}
use Rattle.run_machine.specs.Configurations.{Item, Frame, Config, running}

-- The act satisfies the static rules in the procedure `q`: its targets are variables of `q`, its
-- parts are typed, and the weights of a draw have the sum 1.
abbrev pub IsRuled : List TypedProcedure → TypedProcedure → Act → Type 0
IsRuled ps q a = (HasOwnTargets q a × IsTypedAct ps q a) × WeighsOne a

-- Each act of a block, with the acts in it, satisfies the static rules.
abbrev pub AreRuled : List TypedProcedure → TypedProcedure → Acts → Type 0
AreRuled ps q acts = Each (IsRuled ps q) (in_order acts)

-- The procedure that runs, if the procedure `start` was started and `fs` are the callers.
abbrev pub owner : List TypedProcedure → ℕ → List Frame → TypedProcedure
owner ps start fs = procedure_at ps (running start fs)

-- The items of a procedure may end without a return only if it has no caller.
abbrev pub Ends : List Frame → Type 0
Ends [] = Unit {0}
Ends (f ∷ fs) = ⊥

-- There is a caller.
abbrev pub Waits : List Frame → Type 0
Waits [] = ⊥
Waits (f ∷ fs) = Unit {0}

-- The items satisfy the rules of the procedure that runs with the callers `fs`: acts are ruled,
-- outputs have their types, and a return has a caller.
abbrev pub ItemsFit : List TypedProcedure → ℕ → List Frame → List Item → Type 0
ItemsFit ps start fs [] = Ends fs
ItemsFit ps start fs (Item.act a ∷ is) = Each (IsRuled ps (owner ps start fs)) (a ∷ inside a)
    × ItemsFit ps start fs is
ItemsFit ps start fs (Item.turn h b ∷ is) =
    AreRuled ps (owner ps start fs) b × ItemsFit ps start fs is
ItemsFit ps start fs (Item.out x ty ∷ is) =
    (IsOwn (owner ps start fs) x × (types_of (owner ps start fs) x ≡ ty)) × ItemsFit ps start fs is
ItemsFit ps start fs (Item.back ∷ is) = Waits fs

-- The waiting caller `f`, whose callers are `fs`, has a state and items of its procedure, and its
-- call has targets of the right types in this procedure and an existing callee.
pub record FrameFits (ps : List TypedProcedure) (start : ℕ) (f : Frame) (fs : List Frame)
    : Type 0 where
  pub state : IsState (owner ps start fs) f.state
  pub items : ItemsFit ps start fs f.items
  pub own : Each (IsOwn (owner ps start fs)) f.targets
  pub targets : TargetsFit (owner ps start fs) f.targets
      (type_list (procedure_at ps f.callee).outputs)
  pub there : f.callee < length ps

-- Each caller satisfies `FrameFits`, the last one first.
abbrev pub FramesFit : List TypedProcedure → ℕ → List Frame → Type 0
FramesFit ps start [] = Unit {0}
FramesFit ps start (f ∷ fs) = FrameFits ps start f fs × FramesFit ps start fs

-- The configuration `c` of a run of the procedure `start` satisfies the static rules.
pub record ConfigFits (ps : List TypedProcedure) (start : ℕ) (c : Config) : Type 0 where
  pub here : c.procedure ≡ start
  pub frames : FramesFit ps start c.frames
  pub items : ItemsFit ps start c.frames c.items
  pub state : IsState (owner ps start c.frames) c.state

-- The configuration satisfies the static rules, and its reward is at least `r`.
abbrev pub Follows : List TypedProcedure → ℕ → Value → Config → Type 0
Follows ps start r c = ConfigFits ps start c × (r ≤ᵛ c.reward)
