-- What nodes give does not depend on windows, nor on a start from which the same nodes are open.
use Rattle.std.proofs.Common.{◌≡◌, ℕ, zero, suc, ◌/◌, ◌%◌, Bool, false, ◌&&◌, ◌||◌, if◌then◌else◌, List, [], ◌∷◌, length, map, Option, Some, None, refl, sym, ◌∙◌}
use Rattle.std.specs.Prelude.{◌==◌, nat_le, find, take, option_map, option_and_then}
use Rattle.std.specs.Option.{option_map_or}
use Rattle.std.specs.List.{filter_map, flat_map}
use Rattle.cxl_enc.specs.Codes.{bits_of, code_in_table}
use Rattle.cxl_enc.specs.Caps.{targets_of}
use Rattle.cxl_regs.specs.Rules.{endpoint_ways_ok, select_ok}
use Rattle.cxl_topo.specs.Tree.{is_endpoint_at, bridge_with}
use Rattle.cxl_window.specs.Fields.{WindowFields}
use Rattle.cxl_model.specs.System.{System}
use Rattle.cxl_legal.specs.Endpoints.{cap_at}
use Rattle.cxl_pick.specs.declared.want.Want.{Want}
use Rattle.cxl_pick.specs.Picking.{is_open, has_room, wanted_code, port_code, can_serve_itself, children_of, port_gives, gives_within}
use Rattle.cxl_reason.specs.inner.Gifts.{at_target}

gives_none : (s : System) (want : Want) (w : WindowFields) (start n m : ℕ) → gives_within zero s want w start n m ≡ None
unfolding gives_within
gives_none s want w start n m = refl

gives_step : (k : ℕ) (s : System) (want : Want) (w : WindowFields) (start n m : ℕ)
    → gives_within (suc k) s want w start n m
    ≡ (if is_endpoint_at s.nodes n then (if (m == 1) && can_serve_itself s want w start n then Some (n ∷ []) else None)
    else port_gives s want w start n m (λ u. filter_map (λ child. gives_within k s want w start child (m / u)) (children_of s n)))
unfolding gives_within
gives_step k s want w start n m = refl

-- the same nodes and blocks under other windows
abbrev pub under : System → List WindowFields → System
under s windows = record s { windows = windows }

-- a window of the same ways, granularity and restrictions elsewhere
abbrev pub moved : WindowFields → ℕ → ℕ → ℕ → WindowFields
moved w index base size = record w { index = index; base = base; size = size; xor = false }

module _ (s : System) (want : Want) (w : WindowFields) where
  -- whether an endpoint gives itself, and what a port gives, by whether it is open
  abbrev itself : ℕ → ℕ → Bool → Option (List ℕ)
  itself n m b =
      if (m == 1)
      && (b
      && option_map_or (endpoint_ways_ok (cap_at s n)) (code_in_table want.ways) false
      && select_ok (cap_at s n) (wanted_code want w) (bits_of want.ways)
      && has_room s want n)
      then Some (n ∷ []) else None

  abbrev by_ports : ℕ → ℕ → Bool → (ℕ → List (List ℕ)) → Option (List ℕ)
  by_ports n m b offers =
      option_map (λ u. flat_map (λ ns. ns) (take u (offers u)))
      (find (λ u. b && (m % u == 0) && nat_le u (targets_of (cap_at s n)) && nat_le u (length (offers u)) && ((u == 1) || (nat_le (port_code want w m) 6 && select_ok (cap_at s n) (port_code want w m) (bits_of u)))) (8 ∷ 4 ∷ 2 ∷ 1 ∷ []))

  module _ (windows : List WindowFields) (index base size a b : ℕ) (same : (n : ℕ) → is_open s a n ≡ is_open s b n) where
    pub same_within : (k n m : ℕ) → gives_within k s want w a n m ≡ gives_within k (under s windows) want (moved w index base size) b n m
    same_within zero n m = gives_none s want w a n m ∙ sym (gives_none (under s windows) want (moved w index base size) b n m)
    same_within (suc k) n m =
        let each : (u : ℕ) → filter_map (λ child. gives_within k s want w a child (m / u)) (children_of s n) ≡ filter_map (λ child. gives_within k (under s windows) want (moved w index base size) b child (m / u)) (children_of s n) =
        λ u. λ i. filter_map (λ child. same_within k child (m / u) i) (children_of s n) in
        gives_step k s want w a n m
        ∙ (λ i. if is_endpoint_at s.nodes n then itself n m (same n i) else by_ports n m (same n i) (λ u. each u i))
        ∙ sym (gives_step k (under s windows) want (moved w index base size) b n m)

    pub same_targets : (uids : List ℕ) → map (at_target s want w a) uids ≡ map (at_target (under s windows) want (moved w index base size) b) uids
    same_targets uids = λ i. map (λ uid. option_and_then (λ n. same_within (length s.nodes) n (want.ways / w.ways) i) (bridge_with s.nodes uid)) uids
