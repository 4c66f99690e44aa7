-- What a caller is told where no session opens, and that its status is neither 0 nor, but for a full room, 6.
use Rattle.std.proofs.Common.{◌≡◌, ℕ, ◌<◌, List, [], ◌∷◌, length, take, Option, None, Some, inl, inr, refl, sym, ap, subst, arith, lit<}
use Rattle.cxl_commands.specs.commands.RefusedStart.{too_many_regions}
use Rattle.cxl_held.specs.Sessions.{IsHostOf, HasNoFiles, IsRefused, OpensNone}
use Rattle.cxl_held.specs.Sessions as sessions
use Rattle.cxl_inputs.specs.Ends.{Ends}
use Rattle.cxl_inputs.specs.Exit.{exit_code}
use Rattle.cxl_inputs.specs.File as files
use Rattle.cxl_inputs.specs.Host as hosts
use Rattle.cxl_inputs.specs.Image as images
use Rattle.cxl_inputs.specs.Outcome.{Outcome}
use Rattle.cxl_inputs.specs.ResetHost as resets
use Rattle.cxl_inputs.specs.Table as tables
use Rattle.cxl_inputs.specs.Topology as trees
use Rattle.cxl_inputs.specs.declared.status.Status.{Status}
use Rattle.cxl_inputs.specs.declared.status.Status.TheVariants.{WriteFault, Memory}
use Rattle.cxl_io.specs.Fetch.{FetchState}
use Rattle.cxl_io.specs.Sink.{SinkState}
use Rattle.cxl_library.specs.Reads.{IsReadOver}
use Rattle.cxl_library.specs.Rooms.{sink_of, room_state}
use Rattle.cxl_library.specs.Slices.{Slices, files_of, told_in}
use Rattle.cxl_library.specs.declared.room.TextRoom.{TextRoom}
use Rattle.cxl_library.proofs.Marks.{reads_same_room, read_over}
use Rattle.cxl_model.specs.System.{System}
use Rattle.cxl_reads.specs.Answers.{IsAnswered, table_name, topology_name}
use Rattle.cxl_reads.proofs.Statuses.{AreNoWriteFaults, write_fault_rose}
use Rattle.cxl_topo.specs.declared.node.Node.{Node}
use Rattle.cxl_handle.specs.Told.{OpensNoneOver, no_files, breach, full}

-- ---- what it comes to

module _ (given : Slices) (image : Option (List ℕ)) (status : Status) (old new : SinkState) where
  told_refused : (s : System) (frames : ℕ) → IsHostOf (told_in given) table_name topology_name image s frames → IsRefused s status old new
      → IsAnswered (OpensNoneOver given image) status old new
  told_refused s frames host (sessions.breach outcome tells ends) = inl (record { outcome = outcome; is = breach s frames host tells; ends = ends })
  told_refused s frames host (sessions.full n regions many ends) =
      inl (record { outcome = too_many_regions; is = full s frames n host regions many refl; ends = ends })
  told_refused s frames host (sessions.unmade is nothing) = inr (record { status_is = is; nothing = nothing })

  pub told_unopened : (after : Slices) → OpensNone table_name topology_name image (files_of given) (files_of after) status old new
      → IsAnswered (OpensNoneOver given image) status old new
  told_unopened after (sessions.no_host outcome none ends) = inl (record { outcome = outcome; is = no_files after none; ends = ends })
  told_unopened after (sessions.refused s frames host is) = told_refused s frames host is
  told_unopened after (sessions.unread is unfailed nothing) = inr (record { status_is = is; nothing = nothing })

-- ---- its status

-- an outcome that is a failure's, and not that of a sink
pub record IsFailure (outcome : Outcome) : Type 0 where
  pub some : 0 < exit_code outcome.status
  pub other : outcome.status ≡ WriteFault → ⊥

-- as is one that is told to be this one
failure_of : (outcome other : Outcome) → outcome ≡ other → 0 < exit_code other.status → (exit_code other.status ≡ 6 → ⊥) → IsFailure outcome
failure_of outcome other told some unlike = subst IsFailure (sym told) (record { some = some; other = λ is. unlike (ap exit_code is) })

module _ (old new : FetchState) where
  no_bytes_fails : (before : List (List ℕ)) (file : List ℕ) (outcome : Outcome) → files.HasNoBytes before file old new outcome → IsFailure outcome
  no_bytes_fails before file outcome (files.not_read rose asks told) = failure_of outcome _ told (lit< tt) (λ (e : 2 ≡ 6). omega (arith, e))
  no_bytes_fails before file outcome (files.not_small many asks told) = failure_of outcome _ told (lit< tt) (λ (e : 12 ≡ 6). omega (arith, e))

  no_table_fails : (file : List ℕ) (outcome : Outcome) → tables.HasNoTable file old new outcome → IsFailure outcome
  no_table_fails file outcome (tables.no_bytes none) = no_bytes_fails [] file outcome none
  no_table_fails file outcome (tables.not_sound fault first asks told) = failure_of outcome _ told (lit< tt) (λ (e : 3 ≡ 6). omega (arith, e))

  no_tree_fails : (before : List (List ℕ)) (file : List ℕ) (outcome : Outcome) → trees.HasNoTree before file old new outcome → IsFailure outcome
  no_tree_fails before file outcome (trees.no_bytes none) = no_bytes_fails before file outcome none
  no_tree_fails before file outcome (trees.not_sound fault first asks told) = failure_of outcome _ told (lit< tt) (λ (e : 4 ≡ 6). omega (arith, e))

  no_image_fails : (before : List (List ℕ)) (file : List ℕ) (nodes : List Node) (outcome : Outcome) → images.HasNoImage before file nodes old new outcome → IsFailure outcome
  no_image_fails before file nodes outcome (images.no_bytes none) = no_bytes_fails before file outcome none
  no_image_fails before file nodes outcome (images.not_sound fault first asks told) = failure_of outcome _ told (lit< tt) (λ (e : 10 ≡ 6). omega (arith, e))

  no_files_fails : (cedt topo : List ℕ) (image : Option (List ℕ)) (outcome : Outcome) → HasNoFiles cedt topo image old new outcome → IsFailure outcome
  no_files_fails cedt topo None outcome (resets.no_table none) = no_table_fails cedt outcome none
  no_files_fails cedt topo None outcome (resets.no_tree table read none) = no_tree_fails _ topo outcome none
  no_files_fails cedt topo (Some image) outcome (hosts.no_table none) = no_table_fails cedt outcome none
  no_files_fails cedt topo (Some image) outcome (hosts.no_tree table read none) = no_tree_fails _ topo outcome none
  no_files_fails cedt topo (Some image) outcome (hosts.no_image table tree read of_tree none) = no_image_fails _ image tree.nodes outcome none

unopened_fails : (given : Slices) (image : Option (List ℕ)) (outcome : Outcome) → OpensNoneOver given image outcome → IsFailure outcome
unopened_fails given image outcome (no_files after none) = no_files_fails _ _ table_name topology_name image outcome none
unopened_fails given image outcome (breach s frames host tells) = failure_of outcome _ tells.told (lit< tt) (λ (e : 8 ≡ 6). omega (arith, e))
unopened_fails given image outcome (full s frames n host regions many told) = failure_of outcome _ told (lit< tt) (λ (e : 8 ≡ 6). omega (arith, e))

pub unopened_faults : (given : Slices) (image : Option (List ℕ)) → AreNoWriteFaults (OpensNoneOver given image)
unopened_faults given image outcome is = (unopened_fails given image outcome is).other

ends_failing : (outcome : Outcome) (status : Status) (old new : SinkState) → IsFailure outcome → Ends outcome status old new → 0 < exit_code status
ends_failing outcome status old new failure (inl whole) = subst (λ (s : Status). 0 < exit_code s) (sym whole.status_is) failure.some
ends_failing outcome status old new failure (inr short) = subst (λ (s : Status). 0 < exit_code s) (sym short.status_is) (lit< tt)

pub told_failing : (given : Slices) (image : Option (List ℕ)) (status : Status) (old new : SinkState) → IsAnswered (OpensNoneOver given image) status old new
    → 0 < exit_code status
told_failing given image status old new (inl told) = ends_failing told.outcome status old new (unopened_fails given image told.outcome told.is) told.ends
told_failing given image status old new (inr out) = subst (λ (s : Status). 0 < exit_code s) (sym out.status_is) (lit< tt)

-- ---- into a room that had taken nothing

module _ (given : Slices) (image : Option (List ℕ)) (status : Status) (mark : ℕ) (room : TextRoom) where
  abbrev pub IsAnsweredInRoom : Type 0
  IsAnsweredInRoom = IsAnswered (OpensNoneOver given image) status (sink_of (mark ∷ [])) (room_state room)

  pub told_in_room : IsAnsweredInRoom → (0 < exit_code status) × IsReadOver (OpensNoneOver given image) status (take room.taken room.bytes.now)
  told_in_room answer = (told_failing given image status _ _ answer, read_over (OpensNoneOver given image) status mark room answer)

  pub full_in_room : IsAnsweredInRoom → status ≡ WriteFault → room.taken ≡ length room.bytes.now
  full_in_room answer is = let rose = write_fault_rose (OpensNoneOver given image) (unopened_faults given image) status _ _ answer is in room.full (omega (arith, rose))

  pub same_room_told : IsAnsweredInRoom → room.bytes.ghost_name ≡ mark
  same_room_told answer = reads_same_room (OpensNoneOver given image) status mark room answer

  -- memory ran out behind the opening, and the room is as it was
  pub out_in_room : status ≡ Memory → room_state room ≡ sink_of (mark ∷ []) → IsAnsweredInRoom
  out_in_room is same =
      subst (λ (sink : SinkState). IsAnswered (OpensNoneOver given image) status (sink_of (mark ∷ [])) sink) (sym same)
      (inr (record { status_is = is; nothing = record { taken = refl; unswallowed = λ _. refl } }))
