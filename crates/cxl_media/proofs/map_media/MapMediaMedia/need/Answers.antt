use Rattle.std.proofs.Common.{ap, sym, []}
use Rattle.cxl_media.specs.MapInside.{plain_state}
use Rattle.cxl_media.proofs.Plain.{none_needed, one_needed}
use Rattle.cxl_media.proofs.map_media.MapMediaMedia.need.Goals as goal

pub returns-in-Some : goal.returns-in-Some
returns-in-Some c = sym (none_needed _ _ _ _ _ _ (ap plain_state c.self.view_is) c.deref.ensures.value c.self.invariant _ c.in-Some.ensures.found (record { ep = 0; number = 0; bytes = [] }))

pub returns-in-None : goal.returns-in-None
returns-in-None c = sym (one_needed _ _ _ _ _ _ (ap plain_state c.self.view_is) c.deref.ensures.value c.self.invariant c.in-None.ensures.none)
