-- Outcomes of one piece: they are written whole, or cut short by the sink, and never begun where memory ran out.
use Rattle.std.proofs.Common.{◌≡◌, ℕ, zero, suc, ◌<◌, List, [], ◌∷◌, take, sym, ap, subst, ◌∙◌, arith}
use Rattle.std.specs.List.{concat}
use Rattle.std.proofs.lemmas.List.{append-nil}
use Rattle.cxl_inputs.specs.File.{HasNoBytes, not_read, not_small}
use Rattle.cxl_inputs.specs.Host as hosts
use Rattle.cxl_inputs.specs.Image as images
use Rattle.cxl_inputs.specs.Outcome.{Outcome, whole_text, one_piece}
use Rattle.cxl_inputs.specs.ResetHost as resets
use Rattle.cxl_inputs.specs.Table as tables
use Rattle.cxl_inputs.specs.Topology as trees
use Rattle.cxl_inputs.specs.declared.status.Status.{Status}
use Rattle.cxl_io.specs.Fetch.{FetchState}
use Rattle.cxl_io.specs.Sink.{SinkState, Takes}
use Rattle.cxl_topo.specs.declared.node.Node.{Node}
use Rattle.cxl_commands.specs.Stopped.{IsBehind}
use Rattle.cxl_commands.proofs.Stops.{told-nothing_more}

pub record IsOnePiece (outcome : Outcome) : Type 0 where
  pub status : Status
  pub text : List ℕ
  pub is : outcome ≡ one_piece status text

pub one_text : (outcome : Outcome) (status : Status) (text : List ℕ) → outcome ≡ one_piece status text → whole_text outcome ≡ text
one_text outcome status text is = ap whole_text is ∙ append-nil text

module _ (old new : SinkState) where
  none_of_one : (text : List ℕ) (count : ℕ) → count < 1 → Takes old new (concat (take count (text ∷ []))) → Takes old new []
  none_of_one text zero short taken = taken
  none_of_one text (suc k) short taken = absurd (omega arith)

  -- no whole piece of one is behind, when it is not all
  behind_one : (outcome : Outcome) → IsOnePiece outcome → IsBehind outcome old new → Takes old new []
  behind_one outcome one lines =
      let at = subst (λ o. IsBehind o old new) one.is lines in none_of_one one.text at.count at.short at.taken

  pub nothing_taken : Takes old new [] → new.taken ≡ old.taken
  nothing_taken taken = taken ∙ sym (told-nothing_more old.taken)

  -- an outcome of one piece is not begun where memory ran out
  pub nothing_of : (outcome : Outcome) → IsOnePiece outcome → IsBehind outcome old new → new.taken ≡ old.taken
  nothing_of outcome one lines = nothing_taken (behind_one outcome one lines)

-- ---- a file without a reading is told in one piece

module _ (old new : FetchState) where
  no_bytes_is_one : (before : List (List ℕ)) (file : List ℕ) (outcome : Outcome) → HasNoBytes before file old new outcome → IsOnePiece outcome
  no_bytes_is_one front file outcome (not_read rose asks e) = record { status = _; text = _; is = e }
  no_bytes_is_one front file outcome (not_small many asks e) = record { status = _; text = _; is = e }

  pub no_table_is_one : (file : List ℕ) (outcome : Outcome) → tables.HasNoTable file old new outcome → IsOnePiece outcome
  no_table_is_one file outcome (tables.no_bytes none) = no_bytes_is_one [] file outcome none
  no_table_is_one file outcome (tables.not_sound fault is asks e) = record { status = _; text = _; is = e }

  no_tree_is_one : (before : List (List ℕ)) (file : List ℕ) (outcome : Outcome) → trees.HasNoTree before file old new outcome → IsOnePiece outcome
  no_tree_is_one front file outcome (trees.no_bytes none) = no_bytes_is_one front file outcome none
  no_tree_is_one front file outcome (trees.not_sound fault is asks e) = record { status = _; text = _; is = e }

  no_image_is_one : (before : List (List ℕ)) (file : List ℕ) (nodes : List Node) (outcome : Outcome) → images.HasNoImage before file nodes old new outcome → IsOnePiece outcome
  no_image_is_one front file nodes outcome (images.no_bytes none) = no_bytes_is_one front file outcome none
  no_image_is_one front file nodes outcome (images.not_sound fault is asks e) = record { status = _; text = _; is = e }

  pub no_reset_host_is_one : (cedt topo : List ℕ) (outcome : Outcome) → resets.HasNoResetHost cedt topo old new outcome → IsOnePiece outcome
  no_reset_host_is_one cedt topo outcome (resets.no_table none) = no_table_is_one cedt outcome none
  no_reset_host_is_one cedt topo outcome (resets.no_tree table of none) = no_tree_is_one (cedt ∷ []) topo outcome none

  pub no_host_is_one : (cedt topo image : List ℕ) (outcome : Outcome) → hosts.HasNoHost cedt topo image old new outcome → IsOnePiece outcome
  no_host_is_one cedt topo image outcome (hosts.no_table none) = no_table_is_one cedt outcome none
  no_host_is_one cedt topo image outcome (hosts.no_tree table of none) = no_tree_is_one (cedt ∷ []) topo outcome none
  no_host_is_one cedt topo image outcome (hosts.no_image table tree of of_tree none) = no_image_is_one (cedt ∷ topo ∷ []) image tree.nodes outcome none
