-- That runs behave as flat memory.
use Rattle.std.proofs.Common.{◌≡◌, ℕ, true, Ok, List, All, IfOk, refl, sym, subst, inl, inr}
use Rattle.std.proofs.lemmas.List.Elements.{All-map, All-take}
use Rattle.cxl_flat.specs.Flat.{AreRanged, IsFlatTurn}
use Rattle.cxl_gen.specs.Made.{made_commands}
use Rattle.cxl_inputs.specs.Host.{host_of}
use Rattle.cxl_inputs.specs.declared.status.Status.{Status}
use Rattle.cxl_inputs.specs.declared.status.Status.TheVariants.{Done}
use Rattle.cxl_io.specs.Sink.{SinkState, Takes}
use Rattle.cxl_io.specs.Source.{SourceState}
use Rattle.cxl_machine.specs.Machine.{Machine, HasSameHost, present}
use Rattle.cxl_machine.specs.Reports.{live_regions}
use Rattle.cxl_machine.specs.Scripts.{Asked, Turn, lines_asked}
use Rattle.cxl_machine.specs.Sound.{IsMachine}
use Rattle.cxl_machine.specs.Turns.{EachTurn, AreTurns, machine_after}
use Rattle.cxl_model.specs.Accepted.{IsAccepted}
use Rattle.cxl_model.specs.Listed.{AreRegionsByBase}
use Rattle.cxl_model.specs.System.{System, IsSystem}
use Rattle.cxl_model.specs.declared.found.Found.{Found}
use Rattle.cxl_script.specs.Grammar.{IsRanged}
use Rattle.cxl_script.specs.declared.command.Command.{Command}
use Rattle.cxl_topo.specs.declared.node.Node.{Node}
use Rattle.cxl_walk.specs.Carrying.{CarriesRegions}
use Rattle.cxl_shell.specs.Devices.{Devices}
use Rattle.cxl_shell.specs.Endings.{EndsScript, read_out, ending_cut, reply_cut, runs_out, EndsGen, EndsForm}
use Rattle.cxl_shell.specs.Endings as endings_of
use Rattle.cxl_commands.specs.Form.{Form, OfTable, OfResetHost, OfHost, OfWords, Check, runs_session}
use Rattle.cxl_shell.specs.Headline.{left, unready, IsFlatOrUnopened, IsFlatImage, BehavesAsFlatMemory}
use Rattle.cxl_commands.specs.Outside.{Outside}
use Rattle.cxl_shell.specs.Run.{by_files, unopened, opened, IsRun}
use Rattle.cxl_shell.specs.Run as ways
use Rattle.cxl_shell.specs.commands.Gen.{made_asked}
use Rattle.cxl_commands.specs.declared.form.HostAsk.TheVariants as host_asks
use Rattle.cxl_commands.specs.declared.form.ResetAsk.TheVariants as reset_asks
use Rattle.cxl_commands.specs.declared.form.WordsAsk.TheVariants as plain_asks
use Rattle.cxl_shell.proofs.Lifted.{no_session}
use Rattle.cxl_commands.proofs.Runs.{came_to}
use Rattle.cxl_commands.proofs.laws.Check.{check_accepted}
use Rattle.cxl_shell.proofs.laws.Early.{early_run, fails_early}

-- ---- what a session is asked for, a line can ask for

module _ (on_lines : (lines : List (List ℕ)) → AreRanged (lines_asked lines)) (made : (n : ℕ) → All IsRanged (made_commands n)) where
  lines_ranged : (lines : List (List ℕ)) (asked : List Asked) → asked ≡ lines_asked lines → AreRanged asked
  lines_ranged lines asked e = subst AreRanged (sym e) (on_lines lines)

  script_ranged : (nodes : List Node) (asked : List Asked) (turns : List Turn) (before after : SourceState) (old new : SinkState) (status : Status) → EndsScript nodes asked turns before after old new status → AreRanged asked
  script_ranged nodes asked turns before after old new status (read_out end lines is stops e text source sink) = lines_ranged lines asked e
  script_ranged nodes asked turns before after old new status (ending_cut end lines is stops e cut) = lines_ranged lines asked e
  script_ranged nodes asked turns before after old new status (reply_cut lines earlier last is first e these cut source) = lines_ranged lines asked e
  script_ranged nodes asked turns before after old new status (runs_out lines is first e text source sink) = lines_ranged lines asked e

  made_ranged : (n : ℕ) → AreRanged (made_asked n)
  made_ranged n = All-map (λ (one : Asked). IfOk one IsRanged) (λ (command : Command). Ok command) (made_commands n) (made n)

  gen_ranged : (n : ℕ) (last : Machine) (asked : List Asked) (turns : List Turn) (old new : SinkState) (status : Status) → EndsGen n last asked turns old new status → AreRanged asked
  gen_ranged n last asked turns old new status (endings_of.told checked e found ends) = subst AreRanged (sym e) (made_ranged n)
  gen_ranged n last asked turns old new status (endings_of.runs_out count e is none) =
      subst AreRanged (sym e) (All-take (λ (one : Asked). IfOk one IsRanged) count (made_asked n) (made_ranged n))

  pub form_ranged : (form : Form) (first : Machine) (asked : List Asked) (turns : List Turn) (old new : Outside) (before after : Devices) (status : Status) → EndsForm form first asked turns old new before after status → AreRanged asked
  form_ranged (OfTable cedt ask) first asked turns old new before after status none = absurd none
  form_ranged (OfResetHost cedt topo (reset_asks.Plan create)) first asked turns old new before after status none = absurd none
  form_ranged (OfResetHost cedt topo reset_asks.Script) first asked turns old new before after status ends = script_ranged first.settled.nodes asked turns before.script after.script old.out new.out status ends
  form_ranged (OfHost cedt topo image host_asks.Check) first asked turns old new before after status none = absurd none
  form_ranged (OfHost cedt topo image host_asks.Script) first asked turns old new before after status ends = script_ranged first.settled.nodes asked turns before.script after.script old.out new.out status ends
  form_ranged (OfWords plain_asks.NoCreate) first asked turns old new before after status none = absurd none
  form_ranged (OfWords plain_asks.Help) first asked turns old new before after status none = absurd none
  form_ranged (OfWords plain_asks.Version) first asked turns old new before after status none = absurd none
  form_ranged (OfWords plain_asks.Unreadable) first asked turns old new before after status none = absurd none
  form_ranged (OfWords (plain_asks.Gen n)) first asked turns old new before after status ends = gen_ranged n (machine_after first turns) asked turns old.out new.out status ends.1

-- ---- the laws that it stands on

pub record HaveFlatTurns : Type 0 where
  pub on_lines : (lines : List (List ℕ)) → AreRanged (lines_asked lines)
  pub made : (n : ℕ) → All IsRanged (made_commands n)
  pub carries : (m : Machine) → IsMachine m → CarriesRegions (present m) (live_regions m)
  pub each : (m : Machine) (asked : List Asked) (turns : List Turn) → IsMachine m → AreRanged asked → AreTurns m asked turns → EachTurn IsFlatTurn m asked turns
  pub over : (m : Machine) (asked : List Asked) (turns : List Turn) → IsMachine m → AreRanged asked → AreTurns m asked turns → HasSameHost m (machine_after m turns)
  pub image : (s : System) (regions : List Found) → IsSystem s → IsAccepted s → AreRegionsByBase s regions → CarriesRegions s regions

module _ (laws : HaveFlatTurns) (old new : Outside) (before after : Devices) (status : Status) where
  -- ---- a session

  flat_or_unopened : (form : Form) → runs_session form ≡ true → IsRun form old new before after status → IsFlatOrUnopened form old new before after status
  flat_or_unopened form runs (unopened (by_files same run)) = inr (left (early_run old new form status runs run) same)
  flat_or_unopened form runs (unopened (ways.unready s frames start asks unread fails)) =
      inr (unready s frames (fails_early s frames before after old.out new.out status fails) start unread fails)
  flat_or_unopened form runs (opened s frames first asked turns start asks opens is answered carried ends) =
      let ranged = form_ranged laws.on_lines laws.made form first asked turns old new before after status ends in
      inl (record {
        start = s;
        frames = frames;
        first = first;
        asked = asked;
        turns = turns;
        host = start;
        opens = opens;
        machine = is;
        carries = laws.carries first is;
        each = laws.each first asked turns is ranged answered;
        last = carried;
        over = laws.over first asked turns is ranged answered;
        ends = ends;
      })

  -- ---- an image

  flat_image : (cedt topo image : List ℕ) → IsRun (Check cedt topo image) old new before after status → status ≡ Done → IsFlatImage old.files.told cedt topo image old.out new.out
  flat_image cedt topo image run done =
      let by = no_session (Check cedt topo image) old new before after status run refl in
      let told = check_accepted old new cedt topo image (came_to old new (Check cedt topo image) status Done by.0 done) in
      let text = told.1 in
      let found = text.found in
      record {
        nodes = text.nodes;
        regions = text.regions;
        found = found;
        carries = laws.image (host_of found.table found.tree found.blocks) text.regions found.system found.accepted found.listed;
        text = subst (λ bytes. Takes old.out new.out bytes) text.lines told.2;
      }

  -- ---- each form

  pub behaves : (form : Form) → IsRun form old new before after status → BehavesAsFlatMemory form old new before after status
  behaves (OfTable cedt ask) run = tt
  behaves (OfResetHost cedt topo (reset_asks.Plan create)) run = tt
  behaves (OfResetHost cedt topo reset_asks.Script) run = flat_or_unopened (OfResetHost cedt topo reset_asks.Script) refl run
  behaves (OfHost cedt topo image host_asks.Check) run = flat_image cedt topo image run
  behaves (OfHost cedt topo image host_asks.Script) run = flat_or_unopened (OfHost cedt topo image host_asks.Script) refl run
  behaves (OfWords plain_asks.NoCreate) run = tt
  behaves (OfWords plain_asks.Help) run = tt
  behaves (OfWords plain_asks.Version) run = tt
  behaves (OfWords plain_asks.Unreadable) run = tt
  behaves (OfWords (plain_asks.Gen n)) run = flat_or_unopened (OfWords (plain_asks.Gen n)) refl run
