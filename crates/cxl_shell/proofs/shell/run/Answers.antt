use Rattle.std.proofs.Common.{refl, ap, sym, subst}
use Rattle.cxl_inputs.proofs.Stops.{writes_nothing, unfailed_unasked}
use Rattle.cxl_commands.specs.Form.{runs_session, IsRangedForm}
use Rattle.cxl_commands.specs.RunByFiles.{runs_out, before}
use Rattle.cxl_shell.specs.Run.{by_files, unopened}
use Rattle.cxl_commands.specs.Words.{bytes_of}
use Rattle.cxl_shell.proofs.Lifted.{with_status}
use Rattle.cxl_shell.proofs.RangedForms.{form_is_ranged}
use Rattle.cxl_commands.proofs.Stops.{asks_nothing}
use Rattle.cxl_shell.proofs.shell.run.Goals as goal

pub carry_out-requires : goal.carry_out-requires
carry_out-requires g c = subst IsRangedForm (sym c.in-Ok.ensures.form) (form_is_ranged c.stated_granularities_are_codes.ensures (bytes_of c.args.words.now))

-- That its status is the one given is told apart, so that another one is refused at once.
pub returns-in-Ok-clause-run : goal.returns-in-Ok-clause-run
returns-in-Ok-clause-run g c =
    with_status _ _ _ _ _ _ _ (rw c.in-Ok.ensures.form at c.carry_out.ensures.run) (cc)

pub returns-in-Ok-clause-complete : goal.returns-in-Ok-clause-complete
returns-in-Ok-clause-complete g c = λ ready files_well source_well sink_well.
    c.runs_are_complete.ensures _ _ _ _ _ _ (returns-in-Ok-clause-run g c) ready files_well source_well sink_well

pub returns-in-Ok-clause-headline : goal.returns-in-Ok-clause-headline
returns-in-Ok-clause-headline g c = c.runs_are_flat.ensures _ _ _ _ _ _ (returns-in-Ok-clause-run g c)

pub returns-in-Ok-clause-route : goal.returns-in-Ok-clause-route
returns-in-Ok-clause-route g c = λ file h asked done.
    let by = c.runs_of_files.ensures.form _ _ _ _ _ _ (returns-in-Ok-clause-run g c) (ap runs_session asked) in
    c.route_statuses.ensures.route _ _ _ _ by.0 file h asked done

pub returns-in-Err-clause-run : goal.returns-in-Err-clause-run
returns-in-Err-clause-run g c =
    let files = g.F.Fetch.state c.args.files.now in
    unopened (by_files refl (runs_out c.in-Err.ensures.memory refl
    (before (record { asked = record { count = 0; asks = asks_nothing files }; unfailed = unfailed_unasked files }) (writes_nothing (g.K.Sink.state c.args.out.now)))))

pub returns-in-Err-clause-headline : goal.returns-in-Err-clause-headline
returns-in-Err-clause-headline g c = c.runs_are_flat.ensures _ _ _ _ _ _ (returns-in-Err-clause-run g c)
