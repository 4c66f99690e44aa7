use Rattle.std.proofs.Common.{refl, subst}
use Rattle.cxl_inputs.specs.declared.status.Status.TheVariants.{Usage}
use Rattle.cxl_commands.specs.Form.{NoCreate, Help, Version, Unreadable}
use Rattle.cxl_commands.specs.RunByFiles.{IsRunByFiles}
use Rattle.cxl_commands.specs.commands.Help.{helped, version_told, misused}
use Rattle.cxl_commands.proofs.Endings.{fixed_ends, fixed_or_memory}
use Rattle.cxl_commands.proofs.Runs.{came_to, usage_asked}
use Rattle.cxl_commands.proofs.commands.help.help_statuses.Goals as goal

pub returns-clause-help : goal.returns-clause-help
returns-clause-help c = λ form old new status run is.
    fixed_ends old new Help helped status refl (λ o answers. answers.0) (subst (λ f. IsRunByFiles f old new status) is run)

pub returns-clause-version : goal.returns-clause-version
returns-clause-version c = λ form old new status run is.
    fixed_ends old new Version version_told status refl (λ o answers. answers.0) (subst (λ f. IsRunByFiles f old new status) is run)

pub returns-clause-usage : goal.returns-clause-usage
returns-clause-usage c = λ form old new status run is. usage_asked old new form (came_to old new form status Usage run is)

pub returns-clause-only_usage : goal.returns-clause-only_usage
returns-clause-only_usage c = λ form old new status run is.
    fixed_ends old new Unreadable misused status refl (λ o answers. answers.0) (subst (λ f. IsRunByFiles f old new status) is run)

pub returns-clause-only_line : goal.returns-clause-only_line
returns-clause-only_line c = λ form old new status run is.
    fixed_or_memory old new NoCreate misused status (λ o answers. answers.0) (subst (λ f. IsRunByFiles f old new status) is run)
