-- A device byte is told a host address, or lies in no live region's span.
use Rattle.std.proofs.Common.{ℕ, refl, sym, ◌∙◌, inl, inr}
use Rattle.std.specs.Prelude.{Contains}
use Rattle.std.specs.List.{list_any}
use Rattle.std.proofs.lemmas.Bool.{cases_Bool, false≢true}
use Rattle.cxl_enc.proofs.Lists.{some_passes, contains_at}
use Rattle.cxl_model.specs.Bytes.{LiesInSpan}
use Rattle.cxl_poison.proofs.SomeTelling.{CarriesSome}
use Rattle.cxl_reply.specs.declared.reply.Reply.{Reply}
use Rattle.cxl_reply.specs.declared.reply.Reply.TheVariants as replies
use Rattle.cxl_machine.specs.Machine.{Live, Machine, region_window}
use Rattle.cxl_machine.specs.Accesses.{TellsHost, carried, unmapped}
use Rattle.cxl_machine.specs.Sound.{IsMachine}
use Rattle.cxl_machine.proofs.Deciding.{passes_some, found_test, lies_where, passes_where, at_contains}
use Rattle.cxl_machine.proofs.LiveRegions.{live_is_region}

module _ (onto : CarriesSome) (m : Machine) (is : IsMachine m) (endpoint dpa : ℕ) where
  pub some_told : (reply : Reply) × TellsHost m endpoint dpa reply
  some_told =
      let test = λ (region : Live). found_test region.found endpoint dpa in
      elim (cases_Bool (list_any test m.live)) [
        | inl passes ↦
            let (k, region, there, lies) = some_passes test m.live passes in
            let inside : Contains m.live region = contains_at m.live k region there in
            let (h, carries) = onto m.settled (region_window m.settled region.found) region.found endpoint dpa is.settled.system (live_is_region m is region inside) (lies_where region.found endpoint dpa lies) in
            (replies.Up record { h = h; name = region.name }, carried region h inside carries refl)
        | inr fails ↦
            let none : (region : Live) → Contains m.live region → ¬ (LiesInSpan region.found endpoint dpa) =
            λ region inside lies.
            let (k, there) = at_contains m.live region inside in
            false≢true (sym fails ∙ passes_some test m.live k region there (passes_where region.found endpoint dpa lies)) in
            (replies.Unmapped, unmapped none refl)
      ]
