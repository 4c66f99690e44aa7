-- An address has one way down, and its chain one end.
use Rattle.std.proofs.Common.{◌≡◌, ℕ, ◌+◌, ◌<◌, ◌≤◌, Bool, true, false, ◌&&◌, if◌then◌else◌, List, ◌∷◌, Some, None, refl, sym, ap, ◌∙◌, subst}
use Rattle.std.specs.Prelude.{slice_get, nat_lt, nat_le}
use Rattle.std.proofs.lemmas.Bool.{and_parts, leb-true, ltb-true}
use Rattle.std.proofs.lemmas.Option.{none-some}
use Rattle.cxl_enc.proofs.Options.{some_and}
use Rattle.cxl_enc.proofs.Lists.{contains_at}
use Rattle.cxl_topo.specs.Tree.{bridge_with}
use Rattle.cxl_window.specs.declared.window.Verdict.TheVariants.{Usable}
use Rattle.cxl_window.specs.Fields.{WindowFields}
use Rattle.cxl_window.specs.Position.{is_usable, holds, position_at, position_of}
use Rattle.cxl_window.specs.Windows.{AreMadeWith}
use Rattle.cxl_window.proofs.Usable.{usable_is}
use Rattle.cxl_model.specs.declared.chain.Step.{Step}
use Rattle.cxl_model.specs.System.{System, bridge_uids}
use Rattle.cxl_model.specs.Chain.{End, Move, Forwards, Steps, Ends, Walk, on_forwarding, on_step, at_end, ChainEnd, chain_end_by, Targets, Chain, unheld, held}
use Rattle.cxl_model.proofs.Outcomes.{RisingLaw, one_value, one_move}

-- ---- the way down

-- where a move leads, and by which step
abbrev child_after : ℕ → Move → ℕ
child_after n (Forwards child) = child
child_after n (Steps step child) = child
child_after n (Ends end) = n

abbrev step_of : Step → Move → Step
step_of step (Forwards child) = step
step_of step (Steps own child) = own
step_of step (Ends end) = step

abbrev end_of : End → Move → End
end_of end (Forwards child) = end
end_of end (Steps step child) = end
end_of end (Ends own) = own

pub record SameWay (one two : List Step) (a b : End) : Type 0 where
  pub steps : one ≡ two
  pub end : a ≡ b

from_child : (s : System) (h child other : ℕ) (steps : List Step) (end : End) → child ≡ other → Walk s h other steps end → Walk s h child steps end
from_child s h child other steps end same walk = subst (λ (n : ℕ). Walk s h n steps end) (sym same) walk

with_step : (steps others : List Step) (end other : End) (one two : Step) → one ≡ two → SameWay steps others end other
    → SameWay (one ∷ steps) (two ∷ others) end other
with_step steps others end other one two same way =
    let rest = way.steps in
    record { steps = λ i. same i ∷ rest i; end = way.end }

one_way : RisingLaw → (s : System) (h n : ℕ) (steps others : List Step) (end other : End) → Walk s h n steps end → Walk s h n others other → SameWay steps others end other
one_way rise s h n steps others end other (on_forwarding _ child _ _ move walk) (on_forwarding _ second _ _ moves walks) =
    let same : child ≡ second = ap (child_after n) (one_move rise s h n (Forwards child) (Forwards second) move moves) in
    one_way rise s h child steps others end other walk (from_child s h child second others other same walks)
one_way rise s h n steps others end other (on_forwarding _ child _ _ move walk) (on_step _ second step rest _ moves walks) =
    let same : Forwards child ≡ Steps step second = one_move rise s h n (Forwards child) (Steps step second) move moves in absurd cc
one_way rise s h n steps others end other (on_forwarding _ child _ _ move walk) (at_end _ _ moves) =
    let same : Forwards child ≡ Ends other = one_move rise s h n (Forwards child) (Ends other) move moves in absurd cc
one_way rise s h n steps others end other (on_step _ child step rest _ move walk) (on_forwarding _ second _ _ moves walks) =
    let same : Steps step child ≡ Forwards second = one_move rise s h n (Steps step child) (Forwards second) move moves in absurd cc
one_way rise s h n steps others end other (on_step _ child step rest _ move walk) (on_step _ second own more _ moves walks) =
    let same : Steps step child ≡ Steps own second = one_move rise s h n (Steps step child) (Steps own second) move moves in
    with_step rest more end other step own (ap (step_of step) same)
    (one_way rise s h child rest more end other walk (from_child s h child second more other (ap (child_after n) same) walks))
one_way rise s h n steps others end other (on_step _ child step rest _ move walk) (at_end _ _ moves) =
    let same : Steps step child ≡ Ends other = one_move rise s h n (Steps step child) (Ends other) move moves in absurd cc
one_way rise s h n steps others end other (at_end _ _ move) (on_forwarding _ second _ _ moves walks) =
    let same : Ends end ≡ Forwards second = one_move rise s h n (Ends end) (Forwards second) move moves in absurd cc
one_way rise s h n steps others end other (at_end _ _ move) (on_step _ second step rest _ moves walks) =
    let same : Ends end ≡ Steps step second = one_move rise s h n (Ends end) (Steps step second) move moves in absurd cc
one_way rise s h n steps others end other (at_end _ _ move) (at_end _ _ moves) =
    record { steps = refl; end = ap (end_of end) (one_move rise s h n (Ends end) (Ends other) move moves) }

-- ---- the window

record Slotted (w : WindowFields) (h own : ℕ) : Type 0 where
  usable : w.verdict ≡ Usable
  from : w.base ≤ h
  below : h < w.base + w.size
  position : position_of w h ≡ own

if_some : (test : Bool) (own position : ℕ) → (if test then Some own else None) ≡ Some position → (test ≡ true) × (own ≡ position)
if_some true own position is = (refl, cc)
if_some false own position is = absurd (none-some position is)

slotted : (w : WindowFields) (h position : ℕ) → position_at w h ≡ Some position → Slotted w h position
slotted w h position is =
    let parts = if_some (is_usable w.verdict && holds w h) (position_of w h) position is in
    let tests = and_parts (is_usable w.verdict) (holds w h) parts.0 in
    let ends = and_parts (nat_le w.base h) (nat_lt h (w.base + w.size)) tests.1 in
    record { usable = usable_is w.verdict tests.0; from = leb-true w.base h ends.0; below = ltb-true h (w.base + w.size) ends.1; position = parts.1 }

one_held : (s : System) (h : ℕ) (w v : WindowFields) (position other bridge way : ℕ) → AreMadeWith s.windows (bridge_uids s.nodes) → Targets s h w position bridge
    → Targets s h v other way → w ≡ v
one_held s h w v position other bridge way is one two =
    let a = slotted w h position one.holds in
    let b = slotted v h other two.holds in
    let index : w.index ≡ v.index =
    is.apart w v (contains_at s.windows w.index w one.there) (contains_at s.windows v.index v two.there) h a.usable b.usable a.from a.below b.from b.below in
    one_value (slice_get s.windows v.index) w v (ap (slice_get s.windows) (sym index) ∙ one.there) two.there

-- the bridge at a position of a window
one_bridge : (s : System) (h : ℕ) (w : WindowFields) (position bridge way : ℕ) → Targets s h w position bridge → Targets s h w position way → bridge ≡ way
one_bridge s h w position bridge way one two =
    let a = some_and (slice_get w.targets position) (λ (uid : ℕ). bridge_with s.nodes uid ≡ Some bridge) one.target in
    let b = some_and (slice_get w.targets position) (λ (uid : ℕ). bridge_with s.nodes uid ≡ Some way) two.target in
    let uid : a.0 ≡ b.0 = one_value (slice_get w.targets position) a.0 b.0 a.1 b.1 in
    one_value (bridge_with s.nodes b.0) bridge way (ap (bridge_with s.nodes) (sym uid) ∙ a.2) b.2

one_position : (s : System) (h : ℕ) (w : WindowFields) (position other bridge way : ℕ) → Targets s h w position bridge → Targets s h w other way
    → position ≡ other
one_position s h w position other bridge way one two = one_value (position_at w h) position other one.holds two.holds

-- ---- the end

same_outcomes : (index position : ℕ) (steps others : List Step) (end other : End) → SameWay steps others end other
    → chain_end_by index position steps end ≡ chain_end_by index position others other
same_outcomes index position steps others end other way =
    let a = way.steps in
    let b = way.end in
    λ i. chain_end_by index position (a i) (b i)

one_of_window : RisingLaw → (s : System) (h : ℕ) (w : WindowFields) (position other bridge way : ℕ) (steps others : List Step) (end ending : End)
    → Targets s h w position bridge → Targets s h w other way → Walk s h bridge steps end → Walk s h way others ending
    → chain_end_by w.index position steps end ≡ chain_end_by w.index other others ending
one_of_window rise s h w position other bridge way steps others end ending one two walk walks =
    let place : position ≡ other = one_position s h w position other bridge way one two in
    let moved : Targets s h w other bridge = subst (λ (p : ℕ). Targets s h w p bridge) place one in
    let same : bridge ≡ way = one_bridge s h w other bridge way moved two in
    ap (λ (p : ℕ). chain_end_by w.index p steps end) place
    ∙ same_outcomes w.index other steps others end ending (one_way rise s h bridge steps others end ending walk (from_child s h bridge way others ending same walks))

not_held : (s : System) (h : ℕ) (w : WindowFields) (position bridge : ℕ)
    → ((i : ℕ) (v : WindowFields) → slice_get s.windows i ≡ Some v → position_at v h ≡ None) → Targets s h w position bridge → ⊥
not_held s h w position bridge none targets = none-some position (sym (none w.index w targets.there) ∙ targets.holds)

pub one_chain : RisingLaw → (s : System) (h : ℕ) (one other : ChainEnd) → AreMadeWith s.windows (bridge_uids s.nodes) → Chain s h one → Chain s h other → one ≡ other
one_chain rise s h one other is (unheld none a) (unheld _ b) = a ∙ sym b
one_chain rise s h one other is (unheld none a) (held w position bridge steps end targets walk b) = absurd (not_held s h w position bridge none targets)
one_chain rise s h one other is (held w position bridge steps end targets walk a) (unheld none b) = absurd (not_held s h w position bridge none targets)
one_chain rise s h one other is (held w position bridge steps end targets walk a) (held v place way others ending goals walks b) =
    let window : w ≡ v = one_held s h w v position place bridge way is targets goals in
    let moved : Targets s h v position bridge = subst (λ (x : WindowFields). Targets s h x position bridge) window targets in
    a
    ∙ ap (λ (x : WindowFields). chain_end_by x.index position steps end) window
    ∙ one_of_window rise s h v position place bridge way steps others end ending moved goals walk walks
    ∙ sym b
