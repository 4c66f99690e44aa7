-- The chain of a zone's home is gone through, and blocks that pass are taken out on the way.
use Rattle.std.proofs.Common.{◌≡◌, ◌≢◌, ℕ, suc, ◌/◌, ◌%◌, ◌^◌, true, false, cond, not, List, get_or, Option, None, Some, refl, sym, ap, ◌∙◌, inl, inr, arith}
use Rattle.std.specs.Option.{option_map}
use Rattle.std.proofs.lemmas.Bool.{cases_Bool, cond-false, false≢true}
use Rattle.std.specs.Ordering.{eq_by_cmp}
use Rattle.std.specs.FinMap as fin
use Rattle.std.specs.FinMap.{FinMap}
use Rattle.cxl_media.specs.Blocks.{Key, key_cmp, Blocks, is_between, scrubbed}
use Rattle.cxl_media.specs.Hash.{home_of}
use Rattle.cxl_media.specs.Sim.{Sim, blocks_of}
use Rattle.cxl_media.specs.declared.zones.Node.{Node}
use Rattle.cxl_media.specs.Zones.{steps, node_at, key_of_node, zone_home, nexts, IsAhead, HasItsBlock, AreZoned}
use Rattle.cxl_media.proofs.Keys.{key_total, key_exact, key_is_not, not_none, same_some}
use Rattle.cxl_media.proofs.Sims.{held_by, get_block, remove_cases}
use Rattle.cxl_media.proofs.Scrubs.{between_numbers}
use Rattle.cxl_media.proofs.Linked.{all_ahead, ahead_next, none_ahead}

-- the blocks of a zone that pass are met from a place on, which is 0 or that of a block's frame
pub record IsOnWay (ep from to zone : ℕ) (frames : FinMap key_cmp ℕ) (nodes : List Node) (at : ℕ) : Type 0 where
  pub standing : (a : ℕ) → at ≡ suc a → HasItsBlock frames nodes a
  pub ahead : (q : Key) (n : ℕ) → fin.get frames q ≡ Some n → is_between ep from to q ≡ true → q.1 / 2 ^ 20 ≡ zone → IsAhead (nexts nodes) at n

module _ (ep from to zone : ℕ) (frames : FinMap key_cmp ℕ) (homes : ℕ) (firsts : List ℕ) (nodes : List Node) (zoned : AreZoned frames homes firsts nodes) where
  tells : (q : Key) (n : ℕ) → fin.get frames q ≡ Some n → HasItsBlock frames nodes n
  tells q n is = ap (fin.get frames) (zoned.key q n is) ∙ is

  pub way_begins : (at : ℕ) → to % 256 ≡ 0 → at ≡ get_or firsts (home_of homes (ep, zone)) 0 → IsOnWay ep from to zone frames nodes at
  way_begins at whole first = record {
    standing = λ a is. (zoned.links.head (home_of homes (ep, zone)) a (sym first ∙ is)).0;
    ahead = λ q n is passed here.
        let its = between_numbers ep from to q whole passed in
        let home : zone_home homes (key_of_node (node_at nodes n)) ≡ home_of homes (ep, zone) =
        ap (zone_home homes) (zoned.key q n is) ∙ ap (λ (e : ℕ). home_of homes (e, q.1 / 2 ^ 20)) (ap (λ (k : Key). k.0) its.its) ∙ ap (λ (z : ℕ). home_of homes (ep, z)) here in
        let met = all_ahead (HasItsBlock frames nodes) (λ m. zone_home homes (key_of_node (node_at nodes m))) (nexts nodes) (λ m. (node_at nodes m).before) (λ k. get_or firsts k 0) zoned.links n (home_of homes (ep, zone)) (tells q n is) home in
        (met.0, ap (λ (k : ℕ). steps (nexts nodes) met.0 k) first ∙ met.1);
  }

  module _ (a : ℕ) (way : IsOnWay ep from to zone frames nodes (suc a)) where
    -- the next place is that of a block's frame, too
    next_has : (g : ℕ) → nexts nodes a ≡ suc g → HasItsBlock frames nodes g
    next_has g is = (zoned.links.later a g (way.standing a refl) is).0

    -- a block that does not pass is left
    pub way_passes : is_between ep from to (key_of_node (node_at nodes a)) ≡ false → IsOnWay ep from to zone frames nodes (nexts nodes a)
    way_passes outside = record {
      standing = next_has;
      ahead = λ q n is passed here.
          let other : n ≢ a = λ e. false≢true (sym outside ∙ ap (λ (m : ℕ). is_between ep from to (key_of_node (node_at nodes m))) (sym e) ∙ ap (is_between ep from to) (zoned.key q n is) ∙ passed) in
          ahead_next (nexts nodes) a n (way.ahead q n is passed here) other;
    }

    -- one that passes is taken out
    module _ (less : FinMap key_cmp ℕ) (removed : less ≡ fin.remove frames (key_of_node (node_at nodes a))) (firsts' : List ℕ) (homes' : ℕ) (nodes' : List Node) (rezoned : AreZoned less homes' firsts' nodes') (met : (n : ℕ) → IsAhead (nexts nodes) (nexts nodes a) n → IsAhead (nexts nodes') (nexts nodes a) n) where
      kept_cases : (q : Key) (n : ℕ) → fin.get less q ≡ Some n → (q ≢ key_of_node (node_at nodes a)) × (fin.get frames q ≡ Some n)
      kept_cases q n is = remove_cases frames (key_of_node (node_at nodes a)) q n (ap (λ (m : FinMap key_cmp ℕ). fin.get m q) (sym removed) ∙ is)

      still : (q : Key) (n : ℕ) → fin.get frames q ≡ Some n → n ≢ a → fin.get less q ≡ Some n
      still q n is other =
          let apart : q ≢ key_of_node (node_at nodes a) = λ e. other (same_some n a (sym is ∙ ap (fin.get frames) e ∙ way.standing a refl)) in
          ap (λ (m : FinMap key_cmp ℕ). fin.get m q) removed ∙ fin.get-remove key_total frames (key_of_node (node_at nodes a)) q
          ∙ cond_of (fin.get frames q) apart ∙ is
        where
          cond_of : (o : Option ℕ) → q ≢ key_of_node (node_at nodes a) → cond (eq_by_cmp key_cmp q (key_of_node (node_at nodes a))) None o ≡ o
          cond_of o apart = cond-false _ None o (key_is_not q (key_of_node (node_at nodes a)) apart)

      pub way_drops : IsOnWay ep from to zone less nodes' (nexts nodes a)
      way_drops = record {
        standing = λ g is.
            let has = next_has g is in
            let l = zoned.links.later a g (way.standing a refl) is in
            let other : g ≢ a = λ e. let deeper = (zoned.links.after g a l.0 l.2).3 in let same : zoned.links.depth g ≡ zoned.links.depth a = ap zoned.links.depth e in omega (arith, deeper, same) in
            let kept = still (key_of_node (node_at nodes g)) g has other in
            ap (fin.get less) (rezoned.key (key_of_node (node_at nodes g)) g kept) ∙ kept;
        ahead = λ q n is passed here.
            let old = kept_cases q n is in
            let other : n ≢ a = λ e. old.0 (sym (zoned.key q n old.1) ∙ ap (λ (m : ℕ). key_of_node (node_at nodes m)) e) in
            met n (ahead_next (nexts nodes) a n (way.ahead q n old.1 passed here) other);
      }

  -- at the end none is left
  pub way_ends : IsOnWay ep from to zone frames nodes 0 → (q : Key) → is_between ep from to q ≡ true → q.1 / 2 ^ 20 ≡ zone → fin.get frames q ≡ None
  way_ends way q passed here = by_case (fin.get frames q) refl
    where
      by_case : (o : Option ℕ) → fin.get frames q ≡ o → fin.get frames q ≡ None
      by_case None is = is
      by_case (Some n) is = absurd (none_ahead (nexts nodes) n (way.ahead q n is passed here))

-- a block is in the map exactly where it has a frame
pub block_none : (s : Sim) (q : Key) → fin.get s.frames q ≡ None → fin.get (blocks_of s) q ≡ None
block_none s q none = get_block s q ∙ ap (option_map (held_by s.pool)) none

pub frame_none : (s : Sim) (q : Key) → fin.get (blocks_of s) q ≡ None → fin.get s.frames q ≡ None
frame_none s q none = by_case (fin.get s.frames q) (sym (get_block s q) ∙ none)
  where
    by_case : (o : Option ℕ) → option_map (held_by s.pool) o ≡ None → o ≡ None
    by_case None is = refl
    by_case (Some n) is = absurd (not_none (held_by s.pool n) is)

-- what a scrub leaves of a block
get_scrubbed : (blocks : Blocks) (ep from to : ℕ) (q : Key) → fin.get (scrubbed blocks ep from to) q ≡ cond (not (is_between ep from to q)) (fin.get blocks q) None
get_scrubbed blocks ep from to q = fin.get-retain_keys blocks (λ k. not (is_between ep from to k)) q (λ x tied. ap (λ k. not (is_between ep from to k)) (sym (key_exact q x tied)))

pub scrubbed_kept : (blocks : Blocks) (ep from to : ℕ) (q : Key) → is_between ep from to q ≡ false → fin.get (scrubbed blocks ep from to) q ≡ fin.get blocks q
scrubbed_kept blocks ep from to q outside = get_scrubbed blocks ep from to q ∙ ap (λ b. cond (not b) (fin.get blocks q) None) outside

pub scrubbed_gone : (blocks : Blocks) (ep from to : ℕ) (q : Key) → is_between ep from to q ≡ true → fin.get (scrubbed blocks ep from to) q ≡ None
scrubbed_gone blocks ep from to q passed = get_scrubbed blocks ep from to q ∙ ap (λ b. cond (not b) (fin.get blocks q) None) passed

pub scrubbed_fewer : (blocks : Blocks) (ep from to : ℕ) (q : Key) → fin.get blocks q ≡ None → fin.get (scrubbed blocks ep from to) q ≡ None
scrubbed_fewer blocks ep from to q none =
    elim (cases_Bool (is_between ep from to q)) [
      | inl passed ↦ scrubbed_gone blocks ep from to q passed
      | inr outside ↦ scrubbed_kept blocks ep from to q outside ∙ none
    ]

-- what is left where no block that passes is, and each other is as it was
pub scrubbed_is : (old new : Blocks) (ep from to : ℕ) → ((q : Key) → is_between ep from to q ≡ false → fin.get new q ≡ fin.get old q) → ((q : Key) → is_between ep from to q ≡ true → fin.get new q ≡ None) → new ≡ scrubbed old ep from to
scrubbed_is old new ep from to kept gone =
    fin.same_map key_total key_exact new (scrubbed old ep from to) (λ q.
    elim (cases_Bool (is_between ep from to q)) [
      | inl passed ↦ gone q passed ∙ sym (scrubbed_gone old ep from to q passed)
      | inr outside ↦ kept q outside ∙ sym (scrubbed_kept old ep from to q outside)
    ])
