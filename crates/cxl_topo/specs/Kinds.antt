-- What a node is.
use Rattle.std.specs.Prelude.{ℕ, Bool, true, false, Option, Some, None}
use Rattle.cxl_topo.specs.declared.node.NodeKind.{NodeKind}
use Rattle.cxl_topo.specs.declared.node.NodeKind.TheVariants.{Bridge, Switch, Endpoint}
use Rattle.cxl_topo.specs.declared.node.Capacity.{Capacity}

-- it is a host bridge
abbrev pub is_bridge : NodeKind → Bool
is_bridge (Bridge uid) = true
is_bridge Switch = false
is_bridge (Endpoint capacity) = false

-- it is a switch
abbrev pub is_switch : NodeKind → Bool
is_switch (Bridge uid) = false
is_switch Switch = true
is_switch (Endpoint capacity) = false

-- it is an endpoint
abbrev pub is_endpoint : NodeKind → Bool
is_endpoint (Bridge uid) = false
is_endpoint Switch = false
is_endpoint (Endpoint capacity) = true

-- the UID of a bridge
abbrev pub uid_of : NodeKind → Option ℕ
uid_of (Bridge uid) = Some uid
uid_of Switch = None
uid_of (Endpoint capacity) = None

-- the capacity of an endpoint
abbrev pub capacity_of : NodeKind → Option Capacity
capacity_of (Bridge uid) = None
capacity_of Switch = None
capacity_of (Endpoint capacity) = Some capacity
