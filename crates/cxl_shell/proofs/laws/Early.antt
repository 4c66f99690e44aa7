-- Statuses with which no script was carried out: by files, or while the devices were made ready.
use Rattle.std.proofs.Common.{◌≡◌, ℕ, Bool, true, false, List, refl, ap, inl, inr}
use Rattle.cxl_inputs.specs.Ends.{Ends}
use Rattle.cxl_inputs.specs.declared.status.Status.{Status}
use Rattle.cxl_inputs.specs.declared.status.Status.TheVariants.{Done, Usage, FetchFault, BadTable, BadTopo, ReadFault, WriteFault, BusFault, Refused, Memory, BadImage, TooMuch, TooLarge}
use Rattle.cxl_io.specs.Sink.{SinkState}
use Rattle.cxl_model.specs.System.{System}
use Rattle.cxl_shell.specs.Devices.{Devices}
use Rattle.cxl_commands.specs.Form.{Form, OfTable, OfResetHost, OfHost, OfWords, table_file, runs_session}
use Rattle.cxl_shell.specs.Headline.{EndsBeforeScript}
use Rattle.cxl_commands.specs.Outside.{Outside}
use Rattle.cxl_commands.specs.RunByFiles.{IsRunByFiles, writes, is_cut, runs_out}
use Rattle.cxl_shell.specs.commands.Script.{FailsToOpen, bus_failed, bus, memory}
use Rattle.cxl_commands.specs.declared.form.HostAsk.TheVariants as host_asks
use Rattle.cxl_commands.specs.declared.form.ResetAsk.TheVariants as reset_asks
use Rattle.cxl_commands.specs.declared.form.WordsAsk.TheVariants as plain_asks
use Rattle.cxl_commands.proofs.Runs.{Came, misused, helped, unread, large, faulty, faulty_tree, faulty_image, done, refuses, cut, out, came_to, reset_done, host_done, start_status}

-- reading the script came to no end, and all was not done
abbrev pub comes_early : Status → Bool
comes_early Done = false
comes_early Usage = true
comes_early FetchFault = true
comes_early (BadTable fault) = true
comes_early (BadTopo fault) = true
comes_early ReadFault = false
comes_early WriteFault = true
comes_early BusFault = true
comes_early Refused = true
comes_early Memory = true
comes_early (BadImage fault) = true
comes_early TooMuch = false
comes_early TooLarge = true

-- it takes a device: a script's source failed or had too much, or the bus failed
abbrev pub is_of_devices : Status → Bool
is_of_devices Done = false
is_of_devices Usage = false
is_of_devices FetchFault = false
is_of_devices (BadTable fault) = false
is_of_devices (BadTopo fault) = false
is_of_devices ReadFault = true
is_of_devices WriteFault = false
is_of_devices BusFault = true
is_of_devices Refused = false
is_of_devices Memory = false
is_of_devices (BadImage fault) = false
is_of_devices TooMuch = true
is_of_devices TooLarge = false

pub early : (status : Status) → comes_early status ≡ true → EndsBeforeScript status
early status is = record {
  not_done = λ other. let own = ap comes_early other in cc;
  not_read = λ other. let own = ap comes_early other in cc;
  not_long = λ other. let own = ap comes_early other in cc;
}

-- ---- by files

module _ (old new : Outside) where
  -- a form's script is not carried out
  reset_early : (cedt topo : List ℕ) (status : Status) → Came old new (OfResetHost cedt topo reset_asks.Script) status → comes_early status ≡ true
  reset_early cedt topo status (misused is) = refl
  reset_early cedt topo status (helped ask is asks) = let none = ap table_file is in absurd (cc)
  reset_early cedt topo status (unread failed) = refl
  reset_early cedt topo status (large file there many) = refl
  reset_early cedt topo status (faulty file fault asked is) = refl
  reset_early cedt topo status (faulty_tree file fault asked is) = refl
  reset_early cedt topo status (faulty_image place file tree fault asked of asked_image is) = refl
  reset_early cedt topo status (done answered) = absurd ((reset_done old new cedt topo reset_asks.Script (done answered)).answer)
  reset_early cedt topo status (refuses answered) = refl
  reset_early cedt topo status (cut outcome answers is) = refl
  reset_early cedt topo status (out takes left) = refl

  host_early : (cedt topo image : List ℕ) (status : Status) → Came old new (OfHost cedt topo image host_asks.Script) status → comes_early status ≡ true
  host_early cedt topo image status (misused is) = refl
  host_early cedt topo image status (helped ask is asks) = let none = ap table_file is in absurd (cc)
  host_early cedt topo image status (unread failed) = refl
  host_early cedt topo image status (large file there many) = refl
  host_early cedt topo image status (faulty file fault asked is) = refl
  host_early cedt topo image status (faulty_tree file fault asked is) = refl
  host_early cedt topo image status (faulty_image place file tree fault asked of asked_image is) = refl
  host_early cedt topo image status (done answered) =
      let at = host_done old new cedt topo image host_asks.Script (done answered) in
      let own = at.written.status_is in
      let refused = start_status _ at.outcome at.answer in
      absurd (cc)
  host_early cedt topo image status (refuses answered) = refl
  host_early cedt topo image status (cut outcome answers is) = refl
  host_early cedt topo image status (out takes left) = refl

  pub early_by_files : (form : Form) (status : Status) → runs_session form ≡ true → IsRunByFiles form old new status → comes_early status ≡ true
  early_by_files (OfTable cedt ask) status runs run = absurd (cc)
  early_by_files (OfResetHost cedt topo (reset_asks.Plan create)) status runs run = absurd (cc)
  early_by_files (OfResetHost cedt topo reset_asks.Script) status runs run = reset_early cedt topo status (came_to old new (OfResetHost cedt topo reset_asks.Script) status status run refl)
  early_by_files (OfHost cedt topo image host_asks.Check) status runs run = absurd (cc)
  early_by_files (OfHost cedt topo image host_asks.Script) status runs run = host_early cedt topo image status (came_to old new (OfHost cedt topo image host_asks.Script) status status run refl)
  early_by_files (OfWords plain_asks.NoCreate) status runs run = absurd (cc)
  early_by_files (OfWords plain_asks.Help) status runs run = absurd (cc)
  early_by_files (OfWords plain_asks.Version) status runs run = absurd (cc)
  early_by_files (OfWords plain_asks.Unreadable) status runs run = absurd (cc)
  early_by_files (OfWords (plain_asks.Gen n)) status runs (writes outcome answers written) = absurd answers.0
  early_by_files (OfWords (plain_asks.Gen n)) status runs (is_cut outcome answers short) = absurd answers.0
  early_by_files (OfWords (plain_asks.Gen n)) status runs (runs_out takes is left) = ap comes_early is

  pub early_run : (form : Form) (status : Status) → runs_session form ≡ true → IsRunByFiles form old new status → EndsBeforeScript status
  early_run form status runs run = early status (early_by_files form status runs run)

  -- no run by files ends so
  came_without : (form : Form) (status : Status) → Came old new form status → is_of_devices status ≡ false
  came_without form status (misused is) = refl
  came_without form status (helped ask is asks) = refl
  came_without form status (unread failed) = refl
  came_without form status (large file there many) = refl
  came_without form status (faulty file fault asked is) = refl
  came_without form status (faulty_tree file fault asked is) = refl
  came_without form status (faulty_image place file tree fault asked of asked_image is) = refl
  came_without form status (done answered) = refl
  came_without form status (refuses answered) = refl
  came_without form status (cut outcome answers is) = refl
  came_without form status (out takes left) = refl

  pub without_devices : (form : Form) (status : Status) → IsRunByFiles form old new status → is_of_devices status ≡ false
  without_devices form status run = came_without form status (came_to old new form status status run refl)

-- ---- while the devices were made ready

told_early : (status : Status) (old new : SinkState) → Ends bus_failed status old new → comes_early status ≡ true
told_early status old new (inl written) = ap comes_early written.status_is
told_early status old new (inr short) = ap comes_early short.status_is

pub unready_early : (s : System) (frames : ℕ) (before after : Devices) (old new : SinkState) (status : Status) → FailsToOpen s frames before after old new status → comes_early status ≡ true
unready_early s frames before after old new status (bus starts rose half empty ends) = told_early status old new ends
unready_early s frames before after old new status (memory regs media unhidden is none) = ap comes_early is

pub fails_early : (s : System) (frames : ℕ) (before after : Devices) (old new : SinkState) (status : Status) → FailsToOpen s frames before after old new status → EndsBeforeScript status
fails_early s frames before after old new status fails = early status (unready_early s frames before after old new status fails)
