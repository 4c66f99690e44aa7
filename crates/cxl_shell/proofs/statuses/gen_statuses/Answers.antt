use Rattle.std.proofs.Common.{◌⊎◌, [], sym, subst}
use Rattle.cxl_inputs.specs.Ends.{IsCutShort}
use Rattle.cxl_io.specs.Sink.{Takes}
use Rattle.cxl_shell.specs.Completeness.{HasMadeAll}
use Rattle.cxl_shell.specs.Run.{IsRun, IsUnopened}
use Rattle.cxl_shell.specs.RunOut.{HasMadeSome}
use Rattle.cxl_shell.proofs.laws.Gen.{gen_unread, gen_done, gen_cut, gen_memory, gen_others}
use Rattle.cxl_shell.proofs.statuses.gen_statuses.Goals as goal

pub returns-clause-unread : goal.returns-clause-unread
returns-clause-unread c = λ form old new before after status run n is.
    gen_unread n old new before after status (subst (λ f. IsRun f old new before after status) is run)

pub returns-clause-done : goal.returns-clause-done
returns-clause-done c = λ form old new before after status run n is done.
    gen_done n old new before after status done (subst (λ f. IsRun f old new before after status) is run)

pub returns-clause-cut : goal.returns-clause-cut
returns-clause-cut c = λ form old new before after status run n is cut.
    subst (λ f. HasMadeAll n (λ outcome. IsCutShort outcome status old.out new.out) before after ⊎ IsUnopened f old new before after status) (sym is)
    (gen_cut n old new before after status cut (subst (λ f. IsRun f old new before after status) is run))

pub returns-clause-memory : goal.returns-clause-memory
returns-clause-memory c = λ form old new before after status run n is out.
    subst (λ f. Takes old.out new.out [] × (IsUnopened f old new before after status ⊎ HasMadeSome n before after)) (sym is)
    (gen_memory n old new before after status out (subst (λ f. IsRun f old new before after status) is run))

pub returns-clause-others : goal.returns-clause-others
returns-clause-others c = λ form old new before after status run n is.
    gen_others n old new before after status (subst (λ f. IsRun f old new before after status) is run)
