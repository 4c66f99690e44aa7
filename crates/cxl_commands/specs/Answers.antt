-- Which outcome answers a form, by what the outside holds before it and after it.
use Rattle.std.specs.Prelude.{◌≡◌, List, [], ◌∷◌, Result, Ok, Err}
use Rattle.cxl_table.specs.CedtFields.{CedtFields}
use Rattle.cxl_inputs.specs.File.{RunsOutBehind}
use Rattle.cxl_inputs.specs.Host.{host_of, IsByHost}
use Rattle.cxl_inputs.specs.Outcome.{Outcome}
use Rattle.cxl_inputs.specs.ResetHost.{reset_host_of, IsByResetHost}
use Rattle.cxl_inputs.specs.Stop.{IsStop}
use Rattle.cxl_inputs.specs.Table.{IsByTable}
use Rattle.cxl_inputs.specs.declared.stop.Stop.{Stop}
use Rattle.cxl_io.specs.Fetch.{FetchState, AsksFor}
use Rattle.cxl_regs.specs.Registers.{Registers}
use Rattle.cxl_topo.specs.Tree.{Tree}
use Rattle.cxl_commands.specs.Form.{Form, OfTable, OfResetHost, OfHost, OfWords, own_files}
use Rattle.cxl_commands.specs.Outside.{Outside}
use Rattle.cxl_commands.specs.Readings.{Readings, ByTable, ByTree, ByHost}
use Rattle.cxl_commands.specs.commands.Check.{IsChecked}
use Rattle.cxl_commands.specs.commands.Help.{helped, version_told, misused}
use Rattle.cxl_commands.specs.commands.List.{listed}
use Rattle.cxl_commands.specs.commands.Normal.{normalized}
use Rattle.cxl_commands.specs.commands.Plan.{IsPlanned}
use Rattle.cxl_commands.specs.commands.Route.{IsRouted}
use Rattle.cxl_commands.specs.commands.RefusedStart.{IsRefusedStart}
use Rattle.cxl_commands.specs.declared.form.HostAsk.{HostAsk}
use Rattle.cxl_commands.specs.declared.form.HostAsk.TheVariants as host_asks
use Rattle.cxl_commands.specs.declared.form.ResetAsk.{ResetAsk}
use Rattle.cxl_commands.specs.declared.form.ResetAsk.TheVariants as reset_asks
use Rattle.cxl_commands.specs.declared.form.TableAsk.{TableAsk}
use Rattle.cxl_commands.specs.declared.form.TableAsk.TheVariants as table_asks
use Rattle.cxl_commands.specs.declared.form.WordsAsk.{WordsAsk}
use Rattle.cxl_commands.specs.declared.form.WordsAsk.TheVariants as plain_asks

-- what is asked of a table comes to this
abbrev pub IsTableAnswer : TableAsk → CedtFields → Outcome → Type 0
IsTableAnswer (table_asks.Route h) table outcome = IsRouted table h outcome
IsTableAnswer table_asks.Listing table outcome = outcome ≡ listed table.records
IsTableAnswer table_asks.Normal table outcome = outcome ≡ normalized table

-- what is asked of a host after reset comes to this; its image is accepted and has no region, so that no session is refused
abbrev pub IsResetAnswer : ResetAsk → CedtFields → Tree → Outcome → Type 0
IsResetAnswer (reset_asks.Plan create) table tree outcome = IsPlanned (reset_host_of table tree) create outcome
IsResetAnswer reset_asks.Script table tree outcome = ⊥

-- what is asked of a host comes to this; a script where its image starts no session
abbrev pub IsHostAnswer : HostAsk → CedtFields → Tree → List Registers → Outcome → Type 0
IsHostAnswer host_asks.Check table tree blocks outcome = IsChecked (host_of table tree blocks) outcome
IsHostAnswer host_asks.Script table tree blocks outcome = IsRefusedStart (host_of table tree blocks) outcome

-- what is asked of no file comes to this; a generated system starts a session
abbrev pub IsPlainAnswer : WordsAsk → Outcome → Type 0
IsPlainAnswer plain_asks.NoCreate outcome = outcome ≡ misused
IsPlainAnswer plain_asks.Help outcome = outcome ≡ helped
IsPlainAnswer plain_asks.Version outcome = outcome ≡ version_told
IsPlainAnswer plain_asks.Unreadable outcome = outcome ≡ misused
IsPlainAnswer (plain_asks.Gen n) outcome = ⊥

-- the outcome of a form by what its files are read as, for each kind of files
abbrev pub IsAnswerBy : Form → Readings → Outcome → Type 0
IsAnswerBy (OfTable cedt ask) (ByTable table) outcome = IsTableAnswer ask table outcome
IsAnswerBy (OfResetHost cedt topo ask) (ByTree table tree) outcome = IsResetAnswer ask table tree outcome
IsAnswerBy (OfHost cedt topo image ask) (ByHost table tree blocks) outcome = IsHostAnswer ask table tree blocks outcome
IsAnswerBy form readings outcome = ⊥

-- the outcome answers the form by what the files hold
abbrev pub IsOutcomeByFiles : Form → FetchState → FetchState → Outcome → Type 0
IsOutcomeByFiles (OfTable cedt ask) old new outcome =
    IsByTable cedt old new (λ table o. AsksFor old new (cedt ∷ []) × IsTableAnswer ask table o) outcome
IsOutcomeByFiles (OfResetHost cedt topo ask) old new outcome =
    IsByResetHost cedt topo old new (λ table tree o. AsksFor old new (cedt ∷ topo ∷ []) × IsResetAnswer ask table tree o) outcome
IsOutcomeByFiles (OfHost cedt topo image ask) old new outcome =
    IsByHost cedt topo image old new (λ table tree blocks o. AsksFor old new (cedt ∷ topo ∷ image ∷ []) × IsHostAnswer ask table tree blocks o) outcome
IsOutcomeByFiles (OfWords ask) old new outcome = IsPlainAnswer ask outcome × AsksFor old new []

-- by what the outside holds, of which these forms use the files alone
abbrev pub IsOutcomeOf : Form → Outside → Outside → Outcome → Type 0
IsOutcomeOf form old new outcome = IsOutcomeByFiles form old.files new.files outcome

-- ---- commands that stop early

-- a command gives an outcome that answers the form; or memory ran out behind the first of its files, of which none failed
abbrev pub ComesTo : Form → FetchState → FetchState → Result Outcome Stop → Type 0
ComesTo form old new (Ok outcome) = IsOutcomeByFiles form old new outcome
ComesTo form old new (Err stop) = IsStop (IsOutcomeByFiles form old new) (RunsOutBehind (own_files form) old new) stop
