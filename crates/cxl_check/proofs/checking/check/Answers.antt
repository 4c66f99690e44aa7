use Rattle.std.proofs.Common.{◌≡◌, Result, Ok, Err, Vec, Global, refl}
use Rattle.std.specs.Prelude.{IsErr, OnOk}
use Rattle.cxl_model.specs.declared.found.Found.{Found}
use Rattle.cxl_model.specs.System.{System, system_of}
use Rattle.cxl_model.specs.Accepted.{IsAccepted, HasFirstBreach}
use Rattle.cxl_check.specs.declared.fault.CheckFault.{CheckFault}
use Rattle.cxl_check.specs.declared.fault.CheckFault.TheVariants.{Breach, Memory}
use Rattle.cxl_check.specs.Spots.{TellsFirstBreach}
use Rattle.std.proofs.lemmas.Result.{IfErr-weaker}
use Rattle.cxl_check.proofs.checking.check.Goals as goal

-- without a first breach nothing but want of memory is told
only_memory : (s : System) (fault : CheckFault) → (HasFirstBreach s → ⊥) → TellsFirstBreach s fault → fault ≡ Memory
only_memory s (Breach b) none told = absurd (none (b.rule, b.node, b.decoder, told))
only_memory s Memory none told = refl

-- an image that is not accepted has no regions to tell
refused : (s : System) (r : Result (Vec Found Global) CheckFault) → OnOk r (IsAccepted s) → (IsAccepted s → ⊥) → IsErr r
refused s (Ok x) accepted none = absurd (none accepted)
refused s (Err e) accepted none = refl

pub returns-in-None-clause-only_regions : goal.returns-in-None-clause-only_regions
returns-in-None-clause-only_regions c = λ accepted.
    let s : System = system_of c.args.image.now c.args.topo.now c.args.windows.now in
    IfErr-weaker c.check_ranges.result _ _ (λ fault told. only_memory s fault (c.accepted_or_breach.ensures.not_both s accepted) told) c.check_ranges.ensures.breach

pub returns-in-None-clause-only_breach : goal.returns-in-None-clause-only_breach
returns-in-None-clause-only_breach c = λ first.
    let s : System = system_of c.args.image.now c.args.topo.now c.args.windows.now in
    refused s c.check_ranges.result c.check_ranges.ensures.accepted (λ accepted. c.accepted_or_breach.ensures.not_both s accepted first)
