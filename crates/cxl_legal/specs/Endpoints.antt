-- What a request has to keep whatever the window: its endpoints, their number, its size, and room in its nodes (this
-- project's rules).
use Rattle.std.specs.Prelude.{◌≡◌, ◌≢◌, ℕ, ◌/◌, ◌==◌, nat_le, ◌&&◌, ◌||◌, not, Bool, true, false, length, find, slice_get, AllPairs, Contains, Option}
use Rattle.std.specs.Option.{option_map_or}
use Rattle.std.specs.List.{list_all, range_with_len}
use Rattle.cxl_enc.specs.Codes.{is_ways}
use Rattle.cxl_enc.specs.Caps.{targets_of, is_target_count}
use Rattle.cxl_topo.specs.Tree.{is_bridge_at, is_port_at}
use Rattle.cxl_span.specs.declared.allotting.Span.{Span}
use Rattle.cxl_span.specs.Allotting.{all_committed, IsLeastSpan}
use Rattle.cxl_model.specs.declared.request.Request.{Request}
use Rattle.cxl_model.specs.System.{System, decoders_at, ram_at, pmem_at}
use Rattle.cxl_legal.specs.Sizes.{IsSizeFor}
use Rattle.cxl_legal.specs.Used.{request_ways, is_used, count_under, used_ports, count_at_port}

-- ---- size

-- the size of a request is one for its ways
abbrev pub IsSize : Request → Type 0
IsSize request = IsSizeFor request.size (request_ways request)

-- the bytes of each endpoint
abbrev pub share_of : Request → ℕ
share_of request = request.size / request_ways request

-- ---- evenness

-- the capability word of node n
abbrev pub cap_at : System → ℕ → ℕ
cap_at s n = option_map_or (λ node. node.cap) (slice_get s.nodes n) 0

-- the used ports of node n are 1, 2, 4 or 8, and no more than its targets
abbrev pub has_even_ports : System → Request → ℕ → Bool
has_even_ports s request n =
    is_target_count (length (used_ports s request n)) && nat_le (length (used_ports s request n)) (targets_of (cap_at s n))

-- each used port of node n leads to as many requested endpoints as any other
abbrev pub has_even_children : System → Request → ℕ → Bool
has_even_children s request n =
    list_all (λ port. list_all (λ other. count_at_port s request n port == count_at_port s request n other) (used_ports s request n)) (used_ports s request n)

-- the used bridge that has the least number
abbrev pub first_bridge : System → Request → Option ℕ
first_bridge s request = find (λ n. is_bridge_at s.nodes n && is_used s request n) (range_with_len 0 (length s.nodes))

-- where node n is a bridge, as many requested endpoints lie under it as under the first used bridge
abbrev pub has_bridge_share : System → Request → ℕ → Bool
has_bridge_share s request n =
    not (is_bridge_at s.nodes n)
    || option_map_or (λ first. count_under s request n == count_under s request first) (first_bridge s request) true

-- a used bridge or switch that lacks one of these
abbrev pub is_uneven : System → Request → ℕ → Bool
is_uneven s request n =
    is_port_at s.nodes n && is_used s request n
    && not (has_even_ports s request n && has_even_children s request n && has_bridge_share s request n)

-- ---- room

-- a used node with every decoder committed
abbrev pub lacks_decoder : System → Request → ℕ → Bool
lacks_decoder s request n = is_used s request n && all_committed (decoders_at s n)

-- endpoint m has room for its share of the request
abbrev pub HasRoom : System → Request → ℕ → Type 0
HasRoom s request m = (span : Span) × IsLeastSpan (decoders_at s m) (ram_at s m) (pmem_at s m) request.kind (share_of request) span

-- ---- all of it

-- The endpoints differ and are as many as some region has ways, and the size can be shared out. Used ports are 1, 2, 4 or 8
-- and no more than the targets, each with as many requested endpoints as any other, and as many under each used bridge. Each
-- used node has a decoder left, and each endpoint room.
pub record FitsEndpoints (s : System) (request : Request) : Type 0 where
  pub distinct : AllPairs (λ a b. a ≢ b) request.endpoints
  pub ways : is_ways (request_ways request) ≡ true
  pub size : IsSize request
  pub even : (n : ℕ) → is_uneven s request n ≡ false
  pub left : (n : ℕ) → lacks_decoder s request n ≡ false
  pub room : (m : ℕ) → Contains request.endpoints m → HasRoom s request m
