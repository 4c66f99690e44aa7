use Rattle.std.proofs.Common.{[], ◌∷◌, None, false, refl, arith}
use Rattle.cxl_model.specs.declared.poison.Entry.{Entry}
use Rattle.cxl_model.specs.declared.poison.Part.TheVariants as parts
use Rattle.cxl_model.specs.declared.poison.PoisonList.{PoisonList}
use Rattle.cxl_model.specs.declared.poison.Run.{Run}
use Rattle.cxl_model.specs.Regions.{Carries}
use Rattle.cxl_poison.specs.Payload.{IsPoisonPayload, LacksRecords, records_said, timestamp_said, entry_from}
use Rattle.cxl_poison.specs.Pieces.{ArePoisonedPieces}
use Rattle.cxl_worked.specs.ExampleRegions.{region_of_two}
use Rattle.cxl_worked.specs.Examples.{window_of_both}
use Rattle.cxl_machine.specs.Reports.{told, no_endpoint, listed, short, few}
use Rattle.cxl_worked_machines.specs.Examples.{poison_bytes}
use Rattle.cxl_worked_machines.proofs.ExamplePieces.{StretchLaw, one_run, first_span, first_listed}
use Rattle.cxl_worked_machines.proofs.plan_examples.poison_on_examples.Goals as goal

abbrev entry : Entry
entry = record { dpa = 0xfffffc0; units = 2; source = 2 }

abbrev list : PoisonList
list = record { more = false; overflow = None; scanning = false; records = entry ∷ [] }

abbrev run : Run
run = record { h = 0x11ffffec0; len = 64; region = 0 }

-- the record's first byte is the last 64 of the first endpoint's span
carried : Carries region_of_two window_of_both 0x11ffffec0 2 0xfffffc0
carried = record { from = omega arith; below = omega arith; place = (refl, refl) }

pieces : StretchLaw → ArePoisonedPieces entry 2 (region_of_two ∷ []) (window_of_both ∷ []) (record { parts = parts.Run run ∷ []; unmapped = 64 })
pieces law =
    one_run law entry 2 (region_of_two ∷ []) (window_of_both ∷ []) region_of_two window_of_both first_span (record { from = 0xfffffc0; len = 64 }) run first_listed refl refl
    (record { some = omega arith; whole = refl; ends = omega arith; one = refl }) (record { first = carried; len = refl; region = refl })

payload : IsPoisonPayload (poison_bytes 1) list
unfolding records_said timestamp_said entry_from
payload = record { head = omega arith; room = omega arith; more = refl; overflow = refl; scanning = refl; records = refl }

lacks : LacksRecords (poison_bytes 2) (record { said = 2; room = 1 })
unfolding records_said
lacks = record { head = omega arith; short = omega arith; counted = refl; roomy = refl }

pub returns-clause-told : goal.returns-clause-told
returns-clause-told c = (refl, told 2 _ refl (listed list (_ ∷ []) payload (pieces c.cuts_lie_in_touched_stretches.ensures, tt) refl) refl)

pub returns-clause-short : goal.returns-clause-short
returns-clause-short c = (refl, told 2 _ refl (short (omega arith) refl) refl)

pub returns-clause-few : goal.returns-clause-few
returns-clause-few c = (refl, told 2 _ refl (few (record { said = 2; room = 1 }) lacks refl) refl)

pub returns-clause-no_endpoint : goal.returns-clause-no_endpoint
returns-clause-no_endpoint c = (refl, no_endpoint refl refl)
