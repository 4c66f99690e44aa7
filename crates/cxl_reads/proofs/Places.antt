-- The places of an image that break its first broken rule.
use Rattle.std.proofs.Common.{◌≡◌, ◌<◌, ℕ, true, List, [], ◌∷◌, length, Some, refl, subst}
use Rattle.std.specs.Prelude.{All}
use Rattle.std.proofs.lemmas.List.Elements.{All-nil, All-weaker}
use Rattle.cxl_table.specs.CedtFields.{CedtFields}
use Rattle.cxl_check.specs.Breaches.{IsBreachOf, AreFirstBreaches}
use Rattle.cxl_check.specs.declared.fault.Breach.{Breach}
use Rattle.cxl_inputs.specs.Host.{host_of}
use Rattle.cxl_inputs.specs.Outcome.{Outcome}
use Rattle.cxl_model.specs.Accepted.{breaks}
use Rattle.cxl_model.specs.System.{System, system_of, bridge_uids}
use Rattle.cxl_regs.specs.Registers.{Registers}
use Rattle.cxl_topo.specs.Tree.{Tree}
use Rattle.cxl_window.specs.Fields.{WindowFields}
use Rattle.cxl_window.specs.Windows.{windows_of}
use Rattle.cxl_reads.specs.Breaches.{TellsBreaches}

-- each of them is at a node of the tree
pub places_within : (s : System) → ((rule n i : ℕ) → breaks s rule n i ≡ true → n < length s.nodes) → (found : List Breach) → AreFirstBreaches s found → All (λ b. b.node < length s.nodes) found
places_within s within [] are = All-nil (λ b. b.node < length s.nodes)
places_within s within (b ∷ others) are =
    All-weaker (IsBreachOf s b.rule) (λ x. x.node < length s.nodes) (λ x is. within b.rule x.node x.decoder is.broken) (b ∷ others) are.1.each

-- what is told of a host is told of what its files are read as
pub told_of_files : (table : CedtFields) (tree : Tree) (blocks : List Registers) (topo : Tree) (image : List Registers) (windows : List WindowFields)
    → topo ≡ tree → image ≡ blocks → windows ≡ windows_of table.records (Some (bridge_uids tree.nodes))
    → (o : Outcome) → TellsBreaches (system_of image topo windows) o → TellsBreaches (host_of table tree blocks) o
told_of_files table tree blocks topo image windows of_tree of_image of_table o told =
    let same : system_of image topo windows ≡ host_of table tree blocks = rw (of_tree, of_image, of_table) refl in
    subst (λ (s : System). TellsBreaches s o) same told
