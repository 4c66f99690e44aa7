-- What telling a text of a session comes to, from what its calls ensure.
use Rattle.std.proofs.Common.{◌≡◌, ◌∙◌, ℕ, ◌+◌, List, [], ◌++◌, length, take, replicate, Option, Some, None, Result, Ok, Err, inl, inr, refl, sym, ap, subst, arith}
use Rattle.std.proofs.lemmas.List.{append-nil, nil_from_length, length-map, length-replicate, length-take}
use Rattle.cxl_bus.specs.Failed.{place_limit, places_with}
use Rattle.cxl_bus.specs.Failed as failures
use Rattle.cxl_commands.specs.commands.RefusedStart.{too_many_regions}
use Rattle.cxl_held.specs.Sessions.{IsHostOf, HasNoFiles, IsRefused, OpensNone}
use Rattle.cxl_held.specs.Sessions as sessions
use Rattle.cxl_held.specs.Trails.{room}
use Rattle.cxl_inputs.specs.Ends.{Finishes}
use Rattle.cxl_inputs.specs.File as files
use Rattle.cxl_inputs.specs.Host as hosts
use Rattle.cxl_inputs.specs.Image as images
use Rattle.cxl_inputs.specs.Outcome.{Outcome}
use Rattle.cxl_inputs.specs.ResetHost as resets
use Rattle.cxl_inputs.specs.Table as tables
use Rattle.cxl_inputs.specs.Topology as trees
use Rattle.cxl_inputs.specs.declared.status.Status.{Status}
use Rattle.cxl_inputs.specs.declared.status.Status.TheVariants.{Done, WriteFault}
use Rattle.cxl_inputs.specs.declared.stop.Stop.{Stop}
use Rattle.cxl_inputs.specs.declared.stop.Stop.TheVariants as stop
use Rattle.cxl_io.specs.Fetch.{FetchState}
use Rattle.cxl_io.specs.Lines.{lines_of}
use Rattle.cxl_io.specs.Sink.{SinkState}
use Rattle.cxl_machine.specs.Machine.{Machine}
use Rattle.cxl_machine.specs.Scripts.{Asked, Turn, lines_asked}
use Rattle.cxl_machine.specs.Sound.{Opens}
use Rattle.cxl_model.specs.System.{System}
use Rattle.cxl_reads.proofs.Statuses.{AreNoWriteFaults}
use Rattle.cxl_reads.specs.Answers.{ComesTo, IsAnswered, table_name, topology_name}
use Rattle.cxl_shell.specs.Endings.{EndsScript, read_out, ending_cut, reply_cut, runs_out}
use Rattle.cxl_topo.specs.declared.node.Node.{Node}
use Rattle.cxl_turns.specs.declared.endings.Ending.TheVariants as endings
use Rattle.cxl_library.specs.Behind.{IsToldOver, too_long, behind, IsToldBehind, no_files, breach, full, opened}
use Rattle.cxl_library.specs.Slices.{Slices, files_of, told_in, source_of}
use Rattle.cxl_library.specs.declared.behind.HeldText.{HeldText}

-- ---- lines carried out

pub some_same : {X : Type 0} {x y : X} → ◌≡◌ {A = Option X} (Some x) (Some y) → x ≡ y
some_same is = cc

-- with status 0 all lines are asked
pub all_asked : (nodes : List Node) (asked : List Asked) (turns : List Turn) (lines left : List ℕ) (old new : SinkState) (status : Status)
    → status ≡ Done → EndsScript nodes asked turns (source_of lines) (source_of left) old new status → asked ≡ lines_asked (lines_of lines)
all_asked nodes asked turns lines left old new status done (read_out endings.Done these is stops e text source sink) =
    let given : lines ≡ stops.0 ++ left = some_same stops.1 in
    let all : lines ≡ stops.0 = given ∙ ap (λ (rest : List ℕ). stops.0 ++ rest) stops.3 ∙ append-nil stops.0 in
    e ∙ ap lines_asked (sym stops.4 ∙ ap lines_of (sym all))
all_asked nodes asked turns lines left old new status done (read_out endings.ReadFault these is stops e text source sink) = absurd (cc)
all_asked nodes asked turns lines left old new status done (read_out endings.TooMuch these is stops e text source sink) = absurd (cc)
all_asked nodes asked turns lines left old new status done (read_out endings.WriteFault these is stops e text source sink) = absurd (cc)
all_asked nodes asked turns lines left old new status done (read_out endings.Memory these is stops e text source sink) = absurd (cc)
all_asked nodes asked turns lines left old new status done (ending_cut end these is stops e short) = absurd (cc)
all_asked nodes asked turns lines left old new status done (reply_cut these earlier last is front e turns_are short source) = absurd (cc)
all_asked nodes asked turns lines left old new status done (runs_out these is front e text source sink) = absurd (cc)

-- no call failed where no write found the trail full
pub none_failed : (overruns : ℕ) (places : List ℕ) → overruns ≡ 0
    → ◌≡◌ {A = Option (List ℕ)} (Some (replicate overruns room)) (places_with (Some []) (failures.behind 0 places)) → places ≡ []
none_failed overruns places none told =
    let same : replicate overruns room ≡ take place_limit (failures.behind 0 places) = some_same told in
    let long : length (replicate overruns room) ≡ overruns = length-replicate overruns room in
    let all : length (replicate overruns room) ≡ length (take place_limit (failures.behind 0 places)) = ap (λ (xs : List ℕ). length xs) same in
    let some = length-take place_limit (failures.behind 0 places) in
    let each : length (failures.behind 0 places) ≡ length places = length-map places (λ (place : ℕ). 0 + place) in
    nil_from_length places (omega (arith, none, long, all, some, each))

-- ---- what it comes to

module _ (of : HeldText) (given : Slices) (image : Option (List ℕ)) (script : List ℕ) (status : Status) (old new : SinkState) where
  -- with a session that opened
  pub told_opened : (s : System) (frames : ℕ) (first : Machine) → IsHostOf (told_in given) table_name topology_name image s frames → Opens s frames first
      → (answer : Result Outcome Stop) → ComesTo (IsToldOver of first script) answer → Finishes answer status old new
      → IsAnswered (IsToldBehind of given image script) status old new
  told_opened s frames first host opens (Ok outcome) comes ends =
      inl (record { outcome = outcome; is = opened s frames first host opens comes; ends = ends })
  told_opened s frames first host opens (Err (stop.Outcome outcome)) comes ends =
      inl (record { outcome = outcome; is = opened s frames first host opens comes; ends = ends })
  told_opened s frames first host opens (Err stop.Memory) comes ends = inr (record { status_is = ends.0; nothing = ends.1 })

  told_refused : (s : System) (frames : ℕ) → IsHostOf (told_in given) table_name topology_name image s frames → IsRefused s status old new
      → IsAnswered (IsToldBehind of given image script) status old new
  told_refused s frames host (sessions.breach outcome tells ends) =
      inl (record { outcome = outcome; is = breach s frames host tells; ends = ends })
  told_refused s frames host (sessions.full n regions many ends) =
      inl (record { outcome = too_many_regions; is = full s frames host n regions many refl; ends = ends })
  told_refused s frames host (sessions.unmade is nothing) = inr (record { status_is = is; nothing = nothing })

  -- where none opened
  pub told_unopened : (after : FetchState) → after.faults ≡ 0 → OpensNone table_name topology_name image (files_of given) after status old new
      → IsAnswered (IsToldBehind of given image script) status old new
  told_unopened after calm (sessions.no_host outcome none ends) = inl (record { outcome = outcome; is = no_files after calm none; ends = ends })
  told_unopened after calm (sessions.refused s frames host is) = told_refused s frames host is
  told_unopened after calm (sessions.unread is unfailed nothing) = inr (record { status_is = is; nothing = nothing })

-- ---- its status

-- an outcome has the status of the one that it is
own_status : (outcome other : Outcome) → outcome ≡ other → outcome.status ≡ WriteFault → other.status ≡ WriteFault
own_status outcome other e is = subst (λ (o : Outcome). o.status ≡ WriteFault) e is

module _ (old new : FetchState) where
  no_bytes_faults : (before : List (List ℕ)) (file : List ℕ) → AreNoWriteFaults (files.HasNoBytes before file old new)
  no_bytes_faults before file outcome (files.not_read rose asks told) is = let own = own_status outcome _ told is in cc
  no_bytes_faults before file outcome (files.not_small many asks told) is = let own = own_status outcome _ told is in cc

  no_table_faults : (file : List ℕ) → AreNoWriteFaults (tables.HasNoTable file old new)
  no_table_faults file outcome (tables.no_bytes none) is = no_bytes_faults [] file outcome none is
  no_table_faults file outcome (tables.not_sound fault first asks told) is = let own = own_status outcome _ told is in cc

  no_tree_faults : (before : List (List ℕ)) (file : List ℕ) → AreNoWriteFaults (trees.HasNoTree before file old new)
  no_tree_faults before file outcome (trees.no_bytes none) is = no_bytes_faults before file outcome none is
  no_tree_faults before file outcome (trees.not_sound fault first asks told) is = let own = own_status outcome _ told is in cc

  no_image_faults : (before : List (List ℕ)) (file : List ℕ) (nodes : List Node) → AreNoWriteFaults (images.HasNoImage before file nodes old new)
  no_image_faults before file nodes outcome (images.no_bytes none) is = no_bytes_faults before file outcome none is
  no_image_faults before file nodes outcome (images.not_sound fault first asks told) is = let own = own_status outcome _ told is in cc

  no_files_faults : (cedt topo : List ℕ) (image : Option (List ℕ)) → AreNoWriteFaults (HasNoFiles cedt topo image old new)
  no_files_faults cedt topo None outcome (resets.no_table none) is = no_table_faults cedt outcome none is
  no_files_faults cedt topo None outcome (resets.no_tree table read none) is = no_tree_faults _ topo outcome none is
  no_files_faults cedt topo (Some image) outcome (hosts.no_table none) is = no_table_faults cedt outcome none is
  no_files_faults cedt topo (Some image) outcome (hosts.no_tree table read none) is = no_tree_faults _ topo outcome none is
  no_files_faults cedt topo (Some image) outcome (hosts.no_image table tree read of_tree none) is = no_image_faults _ image tree.nodes outcome none is

over_faults : (of : HeldText) (first : Machine) (script : List ℕ) → AreNoWriteFaults (IsToldOver of first script)
over_faults of first script outcome (too_long many told) is = let own = own_status outcome _ told is in cc
over_faults of first script outcome (behind last turns text within carried is_text told) is = let own = own_status outcome _ told is in cc

pub behind_faults : (of : HeldText) (given : Slices) (image : Option (List ℕ)) (script : List ℕ) → AreNoWriteFaults (IsToldBehind of given image script)
behind_faults of given image script outcome (no_files after calm none) is = no_files_faults _ after _ _ image outcome none is
behind_faults of given image script outcome (breach s frames host tells) is = let own = own_status outcome _ tells.told is in cc
behind_faults of given image script outcome (full s frames host n regions many told) is = let own = own_status outcome _ told is in cc
behind_faults of given image script outcome (opened s frames first host opens over) is = over_faults of first script outcome over is
