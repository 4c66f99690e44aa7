-- What is known of what nodes give for 1, 2, 4, 8 and 16 endpoints, from one window to the next.
use Rattle.std.specs.Prelude.{◌≡◌, ℕ, ◌/◌, ◌%◌, ◌<◌, ◌≤◌, ◌==◌, nat_le, ◌&&◌, ◌||◌, not, Bool, true, false, if◌then◌else◌, List, [], ◌∷◌, length, get_or, filter, find, Contains, Option, Some, None, unwrap_or, is_some}
use Rattle.std.specs.Option.{option_map_or}
use Rattle.std.specs.List.{filter_map, range_with_len}
use Rattle.cxl_enc.specs.Codes.{third_of, bits_of}
use Rattle.cxl_enc.specs.Caps.{is_target_count, targets_of}
use Rattle.cxl_topo.specs.declared.node.Node.{Node}
use Rattle.cxl_topo.specs.declared.node.Parent.{Parent}
use Rattle.cxl_topo.specs.Tree.{is_endpoint_at, parent_of, child_of}
use Rattle.cxl_regs.specs.Rules.{select_ok}
use Rattle.cxl_window.specs.Fields.{WindowFields}
use Rattle.cxl_model.specs.System.{System}
use Rattle.cxl_legal.specs.Endpoints.{cap_at}
use Rattle.cxl_pick.specs.declared.want.Want.{Want}
use Rattle.cxl_pick.specs.declared.gifts.Gift.{Gift}
use Rattle.cxl_pick.specs.declared.gifts.Gifts.{Gifts}
use Rattle.cxl_pick.specs.Picking.{wanted_code, port_code, can_serve_itself, can_serve_by, children_of, gives}

-- ---- children

-- no child of a node stands at a port above the node's number
abbrev pub AreHighest : List Node → List ℕ → Type 0
AreHighest nodes highest = (c : ℕ) (parent : Parent) → parent_of nodes c ≡ Some parent → parent.port ≤ get_or highest parent.node 0

-- the children of node n, by rising port
pub record AreChildrenOf (nodes : List Node) (n : ℕ) (children : List ℕ) : Type 0 where
  pub is : children ≡ filter_map (child_of nodes n) (range_with_len 0 256)

-- ---- what a node gives

-- a port that is open could lead to m endpoints by u of its children, where so many of them have something to give
abbrev pub can_lead : System → Want → WindowFields → ℕ → ℕ → ℕ → ℕ → Bool
can_lead s want w n m willing u =
    (m % u == 0)
    && nat_le u (targets_of (cap_at s n))
    && nat_le u willing
    && ((u == 1) || (nat_le (port_code want w m) 6 && select_ok (cap_at s n) (port_code want w m) (bits_of u)))

-- the children of node n that give something for v endpoints, as lists of what they give
abbrev pub offers_of : System → Want → WindowFields → ℕ → ℕ → ℕ → List (List ℕ)
offers_of s want w start n v = filter_map (λ child. gives s want w start child v) (children_of s n)

-- by how many of its ports node n gives something for m endpoints: an endpoint by one, and none where it gives nothing
unfoldable pub used : System → Want → WindowFields → ℕ → ℕ → ℕ → ℕ
used s want w start n m =
    if is_endpoint_at s.nodes n then (if (m == 1) && can_serve_itself s want w start n then 1 else 0)
    else unwrap_or (find (λ u. can_serve_by s want w start n m (length (offers_of s want w start n (m / u))) u) (8 ∷ 4 ∷ 2 ∷ 1 ∷ [])) 0

-- a number for which a gift tells something; for no other does a node give anything
abbrev pub has_gift : ℕ → Bool
has_gift v = is_target_count v || (v == 16)

-- the gift has these numbers for 1, 2, 4, 8 and 16
pub record IsGift (gift : Gift) (f : ℕ → ℕ) : Type 0 where
  pub one : gift.one ≡ f 1
  pub two : gift.two ≡ f 2
  pub four : gift.four ≡ f 4
  pub eight : gift.eight ≡ f 8
  pub sixteen : gift.sixteen ≡ f 16

-- what a gift has for a number
abbrev pub told_by : Gift → ℕ → ℕ
told_by gift v =
    if v == 1 then gift.one
    else (if v == 2 then gift.two else (if v == 4 then gift.four else (if v == 8 then gift.eight else (if v == 16 then gift.sixteen else 0))))

-- ---- tables

-- what is known of node n for v endpoints, or 0
abbrev pub known_at : List (Option Gift) → ℕ → ℕ → ℕ
known_at known n v = option_map_or (λ gift. told_by gift v) (get_or known n None) 0

-- what node n gives is known
abbrev pub is_known : List (Option Gift) → ℕ → Bool
is_known known n = is_some (get_or known n None)

-- what each child of node n gives is known
pub record AreChildrenKnown (s : System) (known : List (Option Gift)) (n : ℕ) : Type 0 where
  pub each : (c : ℕ) → Contains (children_of s n) c → is_known known c ≡ true

-- how many of these children are known to give something
abbrev pub willing_of : List (Option Gift) → List ℕ → ℕ → ℕ
willing_of known children v = length (filter (λ c. not (known_at known c v == 0)) children)

-- by how many of its ports a port would give something for m endpoints, were that all that its children give
abbrev pub used_with : System → Want → WindowFields → ℕ → List (Option Gift) → List ℕ → ℕ → ℕ → ℕ
used_with s want w start known children n m =
    unwrap_or (find (λ u. can_serve_by s want w start n m (willing_of known children (m / u)) u) (8 ∷ 4 ∷ 2 ∷ 1 ∷ [])) 0

-- the window has the table's code and third, and the start is one of its starts
pub record IsAsked (want : Want) (gifts : Gifts) (w : WindowFields) (start : ℕ) : Type 0 where
  pub code : wanted_code want w ≡ gifts.code
  pub third : third_of w.ways ≡ gifts.third
  pub least : gifts.starts.from ≤ start
  pub most : start < gifts.starts.until

-- what is known is what nodes give, in each window of the table's code and third and from each of its starts; and where a port is known, its children are
pub record AreGifts (s : System) (want : Want) (gifts : Gifts) : Type 0 where
  pub count : length gifts.known.items ≡ length s.nodes
  pub each : (n : ℕ) (gift : Gift) (w : WindowFields) (start : ℕ) → get_or gifts.known.items n None ≡ Some gift → IsAsked want gifts w start → IsGift gift (used s want w start n)
  pub closed : (n : ℕ) → is_known gifts.known.items n ≡ true → is_endpoint_at s.nodes n ≡ false → AreChildrenKnown s gifts.known.items n
