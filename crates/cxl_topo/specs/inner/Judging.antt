-- The first fault of a node, where nothing is wrong with the earlier ones.
use Rattle.std.specs.Prelude.{ℕ, Bool, List, [], ◌∷◌, take, Option, Some, None, if◌then◌else◌}
use Rattle.cxl_topo.specs.declared.node.Node.{Node}
use Rattle.cxl_topo.specs.declared.fault.TreeFault.{TreeFault}
use Rattle.cxl_topo.specs.declared.fault.TreeFault.TheVariants as faults
use Rattle.cxl_topo.specs.Faults.{lacks_parent, has_taken_port, forks, has_taken_name, has_taken_uid, is_too_deep, has_wrong_caps, has_wrong_capacity}

-- the first fault whose test holds
abbrev pub first_of : List (Bool × TreeFault) → Option TreeFault
first_of [] = None
first_of (t ∷ ts) = if t.0 then Some t.1 else first_of ts

-- the tests of node i, in their order
abbrev pub tests_of : List Node → ℕ → Node → List (Bool × TreeFault)
tests_of nodes i node =
    (lacks_parent (take i nodes) node, faults.NoParent i)
    ∷ (has_taken_port (take i nodes) node, faults.PortTaken i)
    ∷ (forks (take i nodes) node, faults.Forks i)
    ∷ (has_taken_name (take i nodes) node, faults.NameTaken i)
    ∷ (has_taken_uid (take i nodes) node, faults.UidTaken i)
    ∷ (is_too_deep nodes i node, faults.Depth i)
    ∷ (has_wrong_caps node, faults.Caps i)
    ∷ (has_wrong_capacity node, faults.Capacity i)
    ∷ []
