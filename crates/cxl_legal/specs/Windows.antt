-- What a window has to keep to take a request (this project's rules).
use Rattle.std.specs.Prelude.{◌≡◌, ℕ, ◌==◌, nat_lt, nat_le, ◌&&◌, ◌||◌, not, Bool, true, false, length, slice_get, Option, Some}
use Rattle.std.specs.Option.{option_map_or}
use Rattle.std.specs.List.{list_any, list_all, range_with_len}
use Rattle.cxl_enc.specs.Bits.{window_fixed}
use Rattle.cxl_enc.specs.Codes.{bits_of, code_in_table}
use Rattle.cxl_topo.specs.Tree.{is_bridge_at, is_endpoint_at, uid_at, bridge_with}
use Rattle.cxl_regs.specs.Words.{has_bit}
use Rattle.cxl_regs.specs.Rules.{endpoint_ways_ok, select_ok}
use Rattle.cxl_window.specs.Fields.{WindowFields}
use Rattle.cxl_window.specs.Position.{is_usable}
use Rattle.cxl_model.specs.declared.request.Request.{Request}
use Rattle.cxl_model.specs.System.{System}
use Rattle.cxl_model.specs.Rules.{permits}
use Rattle.cxl_legal.specs.Used.{request_ways, is_used, planned_ways, planned_code}
use Rattle.cxl_legal.specs.Endpoints.{cap_at}

-- the UID is that of a used bridge
abbrev pub is_used_bridge : System → Request → ℕ → Bool
is_used_bridge s request uid = option_map_or (is_used s request) (bridge_with s.nodes uid) false

-- the window targets bridge n
abbrev pub is_target : System → WindowFields → ℕ → Bool
is_target s w n = option_map_or (λ uid. list_any (λ target. target == uid) w.targets) (uid_at s.nodes n) false

-- the window's targets are exactly the used bridges
abbrev pub has_used_bridges : System → Request → WindowFields → Bool
has_used_bridges s request w =
    list_all (is_used_bridge s request) w.targets
    && list_all (λ n. not (is_bridge_at s.nodes n && is_used s request n) || is_target s w n) (range_with_len 0 (length s.nodes))

-- a stated granularity code is that of a window of more than one way
abbrev pub agrees_on_gran : Option ℕ → WindowFields → Bool
agrees_on_gran gran w = not (nat_lt 1 w.ways) || option_map_or (λ code. code == w.gran) gran true

-- node n could not select with the code and ways that it would have, or is not used
abbrev pub can_select : System → Request → WindowFields → ℕ → Bool
can_select s request w n =
    not (is_used s request n)
    || (nat_le (planned_code s request w n) 6
    && select_ok (cap_at s n) (planned_code s request w n) (bits_of (planned_ways s request n)))

-- endpoint n can have the ways of the request, or is not requested
abbrev pub can_have_ways : System → Request → ℕ → Bool
can_have_ways s request n =
    not (is_endpoint_at s.nodes n && is_used s request n)
    || option_map_or (endpoint_ways_ok (cap_at s n)) (code_in_table (request_ways request)) false

-- The window can be used, permits the kind, has no fixed configuration, targets exactly the used bridges, and agrees with a
-- stated granularity where it has several ways; and in its code each used node can select and each endpoint have the ways.
pub record FitsWindow (s : System) (request : Request) (w : WindowFields) : Type 0 where
  pub there : slice_get s.windows w.index ≡ Some w
  pub usable : is_usable w.verdict ≡ true
  pub kind : permits w request.kind ≡ true
  -- fixed configuration
  pub open_to_plans : has_bit w.restrict window_fixed ≡ false
  pub bridges : has_used_bridges s request w ≡ true
  pub gran : agrees_on_gran request.gran w ≡ true
  pub selects : (n : ℕ) → can_select s request w n ≡ true
  pub ways : (n : ℕ) → can_have_ways s request n ≡ true
