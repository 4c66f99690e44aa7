use Rattle.std.proofs.Common.{List, length, refl, sym, ap, ◌∙◌, arith}
use Rattle.std.specs.Prelude.{slice_get}
use Rattle.cxl_model.specs.declared.found.Place.{Place}
use Rattle.cxl_legal.specs.Used.{request_ways}
use Rattle.cxl_plan.proofs.PlannedWays.{few_ways}
use Rattle.cxl_plan.proofs.StatedRows.{rows_told}
use Rattle.cxl_plan.proofs.planning.plan_at.Goals as goal

pub returns : goal.returns
returns c = record {
  name = refl;
  starts = refl;
  size = refl;
  window = c.index.ensures.value;
  code = c.plan_code.ensures;
  ways = ap length c.items.ensures;
  kind = refl;
  slots = ap length c.new.ensures ∙ c.in_ok-spans.ensures.slots;
  places = λ slot place at. c.in_ok-spans.ensures.places slot place (ap (λ (xs : List Place). slice_get xs slot) (sym c.new.ensures) ∙ at);
  rows = rows_told c.args.host.now.topo.now.nodes c.args.host.now.image.now c.args.host.now.windows.now c.args.request.now c.args.w.now c.args.base c.args.base _ refl (c.new-2.ensures ∙ c.in_ok-rows.ensures);
}

pub places-requires : goal.places-requires
places-requires c = c.requires.settled

pub rows-requires : goal.rows-requires
rows-requires c = record { settled = c.requires.settled; stages = c.requires.stages }

pub overflow_cast-result : goal.overflow_cast-result
overflow_cast-result c =
    let few = few_ways (request_ways c.args.request.now) c.requires.settled.endpoints.ways in
    let count = ap length c.items.ensures in
    omega (arith, few, count)
