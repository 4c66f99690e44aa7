-- An address has one trace, whose end is that of its chain.
use Rattle.std.proofs.Common.{◌≡◌, ℕ, ◌+◌, ◌<◌, ◌≤◌, ◌&&◌, List, ◌∷◌, Option, Some, refl, sym, ap, ◌∙◌, subst}
use Rattle.std.specs.Prelude.{slice_get, nat_lt, nat_le}
use Rattle.std.proofs.lemmas.Bool.{and_parts, leb-true, ltb-true}
use Rattle.std.proofs.lemmas.Option.{none-some, cond_some}
use Rattle.cxl_enc.proofs.Options.{some_and}
use Rattle.cxl_enc.proofs.Lists.{contains_at}
use Rattle.cxl_topo.specs.Tree.{bridge_with}
use Rattle.cxl_window.specs.declared.window.Verdict.TheVariants.{Usable}
use Rattle.cxl_window.specs.Fields.{WindowFields}
use Rattle.cxl_window.specs.Position.{is_usable, holds, position_of, position_at}
use Rattle.cxl_window.specs.Windows.{AreMadeWith}
use Rattle.cxl_window.proofs.Usable.{usable_is}
use Rattle.cxl_model.specs.declared.chain.Step.{Step}
use Rattle.cxl_model.specs.System.{System, bridge_uids}
use Rattle.cxl_model.specs.Chain.{End, Forwards, Steps, Ends, Walk, on_forwarding, on_step, at_end, Chain, unheld, held, chain_end_by}
use Rattle.cxl_model.proofs.Outcomes.{RisingLaw, one_value, one_move}
use Rattle.cxl_trace.specs.declared.trace.WalkEnd.{WalkEnd}
use Rattle.cxl_trace.specs.declared.trace.WalkEnd.TheVariants.{Comes, Lost}
use Rattle.cxl_trace.specs.declared.trace.Outset.{Outset}
use Rattle.cxl_trace.specs.declared.trace.Trace.{Trace}
use Rattle.cxl_trace.specs.Traces.{IsTraceOf, outside, inside, SetsOut, IsUnheld, TellSame, traced_end, trace_steps, traced_arrival, walk_end, chain_end_from}

-- ---- the chain

pub chain_of_trace : (s : System) (h : ℕ) (trace : Trace) → IsTraceOf s h trace → Chain s h (traced_end trace)
chain_of_trace s h trace (outside none at steps end) =
    unheld none (ap (λ (o : Option Outset). chain_end_from o (trace_steps trace) (walk_end trace.end)) at)
chain_of_trace s h trace (inside outset at sets walk) =
    held sets.window outset.position outset.bridge (trace_steps trace) (walk_end trace.end) sets.targets walk
    (ap (λ (o : Option Outset). chain_end_from o (trace_steps trace) (walk_end trace.end)) at
    ∙ ap (λ (i : ℕ). chain_end_by i outset.position (trace_steps trace) (walk_end trace.end)) sets.index)

-- ---- one trace

record SameSteps (one other : List Step) (a b : End) : Type 0 where
  steps : one ≡ other
  end : a ≡ b

one_walk : RisingLaw → (s : System) (h n : ℕ) (steps others : List Step) (end other : End) → Walk s h n steps end → Walk s h n others other → SameSteps steps others end other
one_walk rise s h n steps others end other (on_forwarding _ a _ _ move walk) (on_forwarding _ b _ _ moves walks) =
    let same : Forwards a ≡ Forwards b = one_move rise s h n (Forwards a) (Forwards b) move moves in
    let child : b ≡ a = cc in
    one_walk rise s h a steps others end other walk (subst (λ (m : ℕ). Walk s h m others other) child walks)
one_walk rise s h n steps others end other (on_step _ a step rest _ move walk) (on_step _ b own more _ moves walks) =
    let same : Steps step a ≡ Steps own b = one_move rise s h n (Steps step a) (Steps own b) move moves in
    let child : b ≡ a = cc in
    let first : step ≡ own = cc in
    let behind = one_walk rise s h a rest more end other walk (subst (λ (m : ℕ). Walk s h m more other) child walks) in
    let later = behind.steps in
    record { steps = λ k. first k ∷ later k; end = behind.end }
one_walk rise s h n steps others end other (at_end _ _ move) (at_end _ _ moves) =
    let same : Ends end ≡ Ends other = one_move rise s h n (Ends end) (Ends other) move moves in
    record { steps = refl; end = cc }
one_walk rise s h n steps others end other (on_forwarding _ a _ _ move walk) (on_step _ b own more _ moves walks) =
    let same : Forwards a ≡ Steps own b = one_move rise s h n (Forwards a) (Steps own b) move moves in absurd cc
one_walk rise s h n steps others end other (on_forwarding _ a _ _ move walk) (at_end _ _ moves) =
    let same : Forwards a ≡ Ends other = one_move rise s h n (Forwards a) (Ends other) move moves in absurd cc
one_walk rise s h n steps others end other (on_step _ a step rest _ move walk) (on_forwarding _ b _ _ moves walks) =
    let same : Steps step a ≡ Forwards b = one_move rise s h n (Steps step a) (Forwards b) move moves in absurd cc
one_walk rise s h n steps others end other (on_step _ a step rest _ move walk) (at_end _ _ moves) =
    let same : Steps step a ≡ Ends other = one_move rise s h n (Steps step a) (Ends other) move moves in absurd cc
one_walk rise s h n steps others end other (at_end _ _ move) (on_forwarding _ b _ _ moves walks) =
    let same : Ends end ≡ Forwards b = one_move rise s h n (Ends end) (Forwards b) move moves in absurd cc
one_walk rise s h n steps others end other (at_end _ _ move) (on_step _ b own more _ moves walks) =
    let same : Ends end ≡ Steps own b = one_move rise s h n (Ends end) (Steps own b) move moves in absurd cc

-- equal ends are of equal endings
same_ending : (one other : WalkEnd) → walk_end one ≡ walk_end other → one ≡ other
same_ending (Comes a) (Comes b) is =
    let same : traced_arrival a ≡ traced_arrival b = cc in
    λ k. Comes (record { endpoint = (same k).endpoint; decoder = (same k).decoder; base = (same k).base; dpa = (same k).dpa })
same_ending (Lost a) (Lost b) is = let same : a ≡ b = cc in ap Lost same
same_ending (Comes a) (Lost b) is = absurd cc
same_ending (Lost a) (Comes b) is = absurd cc

-- ---- one outset

-- an address that no window holds does not set out
not_unheld : (s : System) (h : ℕ) (outset : Outset) → IsUnheld s h → SetsOut s h outset → ⊥
not_unheld s h outset none sets =
    none-some outset.position (sym (none sets.window.index sets.window sets.targets.there) ∙ sets.targets.holds)

-- the window can be used, and the address lies in it
record LiesIn (w : WindowFields) (h : ℕ) : Type 0 where
  usable : w.verdict ≡ Usable
  from : w.base ≤ h
  below : h < w.base + w.size

lies_in : (w : WindowFields) (h position : ℕ) → position_at w h ≡ Some position → LiesIn w h
lies_in w h position is =
    let test = (cond_some (is_usable w.verdict && holds w h) (position_of w h) position is).0 in
    let parts = and_parts (is_usable w.verdict) (holds w h) test in
    let ends = and_parts (nat_le w.base h) (nat_lt h (w.base + w.size)) parts.1 in
    record { usable = usable_is w.verdict parts.0; from = leb-true w.base h ends.0; below = ltb-true h (w.base + w.size) ends.1 }

one_window_of : (s : System) (h : ℕ) (one other : Outset) → AreMadeWith s.windows (bridge_uids s.nodes) → (a : SetsOut s h one) (b : SetsOut s h other) → a.window ≡ b.window
one_window_of s h one other made a b =
    let w : WindowFields = a.window in
    let v : WindowFields = b.window in
    let x = lies_in w h one.position a.targets.holds in
    let y = lies_in v h other.position b.targets.holds in
    let index : w.index ≡ v.index = made.apart w v (contains_at s.windows w.index w a.targets.there) (contains_at s.windows v.index v b.targets.there) h x.usable y.usable x.from x.below y.from y.below in
    one_value (slice_get s.windows v.index) w v (ap (slice_get s.windows) (sym index) ∙ a.targets.there) b.targets.there

one_outset : (s : System) (h : ℕ) (one other : Outset) → AreMadeWith s.windows (bridge_uids s.nodes) → SetsOut s h one → SetsOut s h other → one ≡ other
one_outset s h one other made a b =
    let w : WindowFields = a.window in
    let v : WindowFields = b.window in
    let window : w ≡ v = one_window_of s h one other made a b in
    let index : one.window ≡ other.window = a.index ∙ ap (λ (x : WindowFields). x.index) window ∙ sym b.index in
    let position : one.position ≡ other.position = one_value (position_at v h) one.position other.position (ap (λ (x : WindowFields). position_at x h) (sym window) ∙ a.targets.holds) b.targets.holds in
    let goal = some_and (slice_get w.targets one.position) (λ (uid : ℕ). bridge_with s.nodes uid ≡ Some one.bridge) a.targets.target in
    let also = some_and (slice_get v.targets other.position) (λ (uid : ℕ). bridge_with s.nodes uid ≡ Some other.bridge) b.targets.target in
    let moved : slice_get v.targets other.position ≡ Some goal.0 = ap (λ (x : WindowFields). slice_get x.targets other.position) (sym window) ∙ ap (slice_get w.targets) (sym position) ∙ goal.1 in
    let uid : goal.0 ≡ also.0 = one_value (slice_get v.targets other.position) goal.0 also.0 moved also.1 in
    let bridge : one.bridge ≡ other.bridge = one_value (bridge_with s.nodes also.0) one.bridge other.bridge (ap (bridge_with s.nodes) (sym uid) ∙ goal.2) also.2 in
    λ k. record { window = index k; position = position k; bridge = bridge k }

-- ---- one trace

pub one_trace : RisingLaw → (s : System) (h : ℕ) (trace other : Trace) → AreMadeWith s.windows (bridge_uids s.nodes) → IsTraceOf s h trace → IsTraceOf s h other → TellSame trace other
one_trace rise s h trace other made (outside none at steps end) (outside _ there others ending) =
    record { outset = at ∙ sym there; steps = steps ∙ sym others; end = end ∙ sym ending }
one_trace rise s h trace other made (outside none at steps end) (inside outset there sets walk) = absurd (not_unheld s h outset none sets)
one_trace rise s h trace other made (inside outset there sets walk) (outside none at steps end) = absurd (not_unheld s h outset none sets)
one_trace rise s h trace other made (inside one at a walk) (inside two there b walks) =
    let same : one ≡ two = one_outset s h one two made a b in
    let moved = subst (λ (o : Outset). Walk s h o.bridge (trace_steps other) (walk_end other.end)) (sym same) walks in
    let way = one_walk rise s h one.bridge (trace_steps trace) (trace_steps other) (walk_end trace.end) (walk_end other.end) walk moved in
    record { outset = at ∙ ap Some same ∙ sym there; steps = way.steps; end = same_ending trace.end other.end way.end }
