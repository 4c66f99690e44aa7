-- What a run of `route` comes to.
use Rattle.std.proofs.Common.{◌≡◌, ℕ, ◌⊎◌, None, List, refl, sym, subst, inl, inr}
use Rattle.cxl_table.specs.CedtFields.{CedtFields}
use Rattle.cxl_inputs.specs.Ends.{IsWritten}
use Rattle.cxl_inputs.specs.Table.{IsTableOf}
use Rattle.cxl_inputs.specs.declared.status.Status.{Status}
use Rattle.cxl_inputs.specs.declared.status.Status.TheVariants.{Done, Refused}
use Rattle.cxl_io.specs.Sink.{Takes}
use Rattle.cxl_window.specs.Windows.{windows_of}
use Rattle.cxl_commands.specs.Stopped.{IsStopped}
use Rattle.cxl_commands.specs.Form.{Route}
use Rattle.cxl_commands.specs.Outside.{Outside}
use Rattle.cxl_commands.specs.commands.Route.{IsNowhere, no_window, IsRouteLine}
use Rattle.cxl_commands.specs.declared.form.TableAsk.TheVariants as asks
use Rattle.cxl_commands.proofs.Pieces.{one_text}
use Rattle.cxl_commands.proofs.Routes.{done_selection, refused_nowhere}
use Rattle.cxl_commands.proofs.Runs.{Came, table_done, table_refused}

module _ (old new : Outside) where
  pub route_line : (file : List ℕ) (h : ℕ) → Came old new (Route file h) Done → (text : List ℕ) × IsRouteLine (old.files.told file) h text × Takes old.out new.out text
  route_line file h came =
      let at = table_done old new file (asks.Route h) came in
      let to = done_selection at.table h at.outcome (sym at.written.status_is) at.answer in
      (_, record { table = at.table; is_table = at.of; selection = to.0; selected = to.1; names = refl }, subst (Takes old.out new.out) (one_text at.outcome Done _ to.2) at.written.taken)

  pub refused_by : (file : List ℕ) (h : ℕ) → Came old new (Route file h) Refused → (table : CedtFields) × IsTableOf (old.files.told file) table × IsNowhere (windows_of table.records None) h
  refused_by file h came =
      let at = table_refused old new file (asks.Route h) came in
      (at.table, at.of, refused_nowhere at.table h at.outcome (sym at.written.status_is) at.answer)

-- a refusal that is written
pub refusal : (old new : Outside) (status : Status) → IsWritten no_window status old.out new.out ⊎ IsStopped status old new → (status ≡ Refused) ⊎ IsStopped status old new
refusal old new status (inl written) = inl written.status_is
refusal old new status (inr stopped) = inr stopped
