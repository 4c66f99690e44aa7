-- The way of an address, one node further at a time.
use Rattle.std.proofs.Common.{◌≡◌, ℕ, ◌+◌, ◌-◌, ◌<◌, ◌≤◌, List, [], ◌∷◌, ◌++◌, length, take, drop, replicate, append_assoc, Some, refl, sym, ap, subst, ◌∙◌, arith}
use Rattle.std.proofs.Math.ListN.{set}
use Rattle.std.proofs.lemmas.List.{append-nil, length-set, take_more_set, drop-set-lt, drop-drop, drop-replicate}
use Rattle.cxl_enc.proofs.Options.{some_and}
use Rattle.cxl_topo.specs.Tree.{Tree, ports_above}
use Rattle.cxl_topo.specs.Faults.{IsTree}
use Rattle.cxl_topo.specs.Laws.{AreTreeLaws}
use Rattle.cxl_regs.specs.Registers.{Registers}
use Rattle.cxl_regs.specs.Reading.{entry_at}
use Rattle.cxl_model.specs.declared.chain.Step.{Step}
use Rattle.cxl_model.specs.declared.chain.Miss.{Miss}
use Rattle.cxl_model.specs.System.{decoder_at, system_of}
use Rattle.cxl_model.specs.Chain.{End, Forwards, Steps, Ends, Misses, on_forwarding, on_step, at_end, Chooses}
use Rattle.cxl_walk.specs.Routes.{no_step}
use Rattle.cxl_walk.specs.inner.Calls.{Makes, MissesAt, Leads, Fails}
use Rattle.cxl_walk.proofs.Children.{IsChild, child_at_port, only_child}

-- the steps made from node top down to node at
pub record IsOnWay (blocks : List Registers) (tree : Tree) (h top at len : ℕ) (steps : List Step) : Type 0 where
  pub below : at < length tree.nodes
  pub few : len ≤ length (ports_above tree.nodes at)
  pub room : length steps ≡ 5
  pub rest : drop len steps ≡ replicate (5 - len) no_step
  pub leads : (more : List Step) (end : End) → Leads blocks tree h at more end → Leads blocks tree h top (take len steps ++ more) end

module _ (blocks : List Registers) (tree : Tree) (legal : IsTree tree.nodes) (laws : AreTreeLaws tree.nodes) (h top : ℕ) where
  pub starts : top < length tree.nodes → IsOnWay blocks tree h top top 0 (replicate 5 no_step)
  starts below = record { below = below; few = omega arith; room = refl; rest = refl; leads = λ more end way. way }

  pub few_steps : (at len : ℕ) (steps : List Step) → IsOnWay blocks tree h top at len steps → len ≤ 5
  few_steps at len steps on =
      let few = on.few in
      omega (arith, laws.few_ports at)

  -- ---- over a node that forwards

  pub forward_child : (at child : ℕ) → Makes blocks tree h at (Forwards child) → IsChild tree.nodes at child
  forward_child at child makes =
      let move = makes [] in
      only_child tree.nodes legal laws at child move.0 move.1

  pub forwards_on : (at child len : ℕ) (steps : List Step) → IsOnWay blocks tree h top at len steps → Makes blocks tree h at (Forwards child) → IsOnWay blocks tree h top child len steps
  forwards_on at child len steps on makes =
      let next = forward_child at child makes in
      let deeper = next.deeper in
      let few = on.few in
      record {
        below = next.below;
        few = omega arith;
        room = on.room;
        rest = on.rest;
        leads = λ more end way. on.leads more end (λ windows. on_forwarding at child more end (makes windows) (way windows));
      }

  -- ---- over a port with decoders

  pub step_child : (at child : ℕ) (step : Step) → Makes blocks tree h at (Steps step child) → IsChild tree.nodes at child
  step_child at child step makes =
      let move = makes [] in
      let chosen = some_and (decoder_at (system_of blocks tree []) at step.decoder) (λ d. Chooses (system_of blocks tree []) h at d step.entry (Some child)) move.choice in
      child_at_port tree.nodes legal laws at (entry_at chosen.0 step.entry) child chosen.2.listed

  pub room_left : (at child len : ℕ) (step : Step) (steps : List Step) → IsOnWay blocks tree h top at len steps → Makes blocks tree h at (Steps step child) → len < 5
  room_left at child len step steps on makes =
      let deeper = (step_child at child step makes).deeper in
      let few = on.few in
      omega (arith, laws.few_ports child)

  pub steps_on : (at child len : ℕ) (step : Step) (steps : List Step) → IsOnWay blocks tree h top at len steps → Makes blocks tree h at (Steps step child)
      → IsOnWay blocks tree h top child (len + 1) (set steps len step)
  steps_on at child len step steps on makes =
      let next = step_child at child step makes in
      let deeper = next.deeper in
      let few = on.few in
      let room = on.room in
      let left : len < length steps = omega (arith, room_left at child len step steps on makes) in
      let taken : take (len + 1) (set steps len step) ≡ take len steps ++ step ∷ [] = take_more_set steps len step left in
      let fewer : 5 - len - 1 ≡ 5 - (len + 1) = omega arith in
      record {
        below = next.below;
        few = omega arith;
        room = length-set steps len step ∙ on.room;
        rest = drop-set-lt (len + 1) steps len step (omega arith) ∙ sym (drop-drop 1 len steps) ∙ ap (drop 1) on.rest ∙ drop-replicate 1 (5 - len) no_step ∙ ap (λ (n : ℕ). replicate n no_step) fewer;
        leads = λ more end way.
            let whole = on.leads (step ∷ more) end (λ windows. on_step at child step more end (makes windows) (way windows)) in
            let same : take len steps ++ step ∷ more ≡ take (len + 1) (set steps len step) ++ more = sym (append_assoc (take len steps) (step ∷ []) more) ∙ ap (λ (made : List Step). made ++ more) (sym taken) in
            subst (λ (made : List Step). Leads blocks tree h top made end) same whole;
      }

  -- ---- at the end

  pub ends : (at len : ℕ) (steps : List Step) (end : End) → IsOnWay blocks tree h top at len steps → Makes blocks tree h at (Ends end) → Leads blocks tree h top (take len steps) end
  ends at len steps end on makes =
      subst (λ (made : List Step). Leads blocks tree h top made end) (append-nil (take len steps)) (on.leads [] end (λ windows. at_end at end (makes windows)))

  pub fails : (at len : ℕ) (steps : List Step) (miss : Miss) → IsOnWay blocks tree h top at len steps → MissesAt blocks tree h at miss → Fails blocks tree h top miss
  fails at len steps miss on stops = (take len steps, ends at len steps (Misses miss) on stops)
