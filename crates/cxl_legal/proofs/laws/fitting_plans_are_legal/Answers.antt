use Rattle.std.proofs.Common.{ℕ}
use Rattle.cxl_window.specs.Fields.{WindowFields}
use Rattle.cxl_model.specs.declared.request.Request.{Request}
use Rattle.cxl_model.specs.System.{System}
use Rattle.cxl_model.specs.Accepted.{IsAccepted}
use Rattle.cxl_legal.specs.Stated.{Fits}
use Rattle.cxl_legal.proofs.StatedImages.{stated_image, Stated}
use Rattle.cxl_legal.proofs.StatedRules.{accepted}
use Rattle.cxl_legal.proofs.StatedRegions.{legal}
use Rattle.cxl_legal.proofs.StatedPlans.{plan_there}
use Rattle.cxl_legal.proofs.laws.fitting_plans_are_legal.Goals as goal

stated : goal.After-stated_rows_keep_blocks → (s : System) (request : Request) (w : WindowFields) (base : ℕ) → Fits s request w base → Stated s request w base
stated c s request w base fits = record {
  lower = record {
    trees = c.tree_laws.ensures.laws;
    counted = c.committed_stand_first.ensures.counted;
    apart = c.ranges_rise.ensures.apart;
    window = c.one_window.ensures;
  };
  spans = record { starts = c.spans_are_whole.ensures.start_aligned; lengths = c.spans_are_whole.ensures.length_aligned };
  rise = record { apart = c.ranges_rise.ensures.apart; some = c.ranges_rise.ensures.some };
  known = record { tree = fits.system.tree; laws = c.tree_laws.ensures.laws s.nodes fits.system.tree };
  fits = fits;
  rows = c.stated_rows_keep_blocks.ensures.rows s request w base fits;
  each = λ row there. c.stated_rows_keep_blocks.ensures.each s request w base row fits there;
  new = λ n. c.stated_rows_keep_blocks.ensures.new s request w base n fits;
  decoders = λ n. c.stated_rows_keep_blocks.ensures.decoders s request w base n fits;
  indices = λ n. c.stated_rows_keep_blocks.ensures.indices s request w base n fits;
  blocks = c.stated_rows_keep_blocks.ensures.blocks s request w base fits;
  system = c.stated_rows_keep_blocks.ensures.system s request w base fits;
  window = c.stated_rows_keep_blocks.ensures.window s request w base fits;
  starts = λ m endpoint used. c.stated_rows_keep_blocks.ensures.starts s request w base m fits endpoint used;
  kinds = λ m endpoint used. c.stated_rows_keep_blocks.ensures.kinds s request w base m fits endpoint used;
}

image_accepted : goal.After-stated_rows_keep_blocks → (s : System) (request : Request) (w : WindowFields) (base : ℕ) → Fits s request w base → IsAccepted (stated_image s request w base)
image_accepted c s request w base fits =
    accepted (stated c s request w base fits) c.accepted_where_whole.ensures c.regions_stay.ensures.whole (λ r. c.stated_rows_keep_blocks.ensures.others s request w base r fits)

pub returns-clause-accepted : goal.returns-clause-accepted
returns-clause-accepted c = image_accepted c

pub returns-clause-legal : goal.returns-clause-legal
returns-clause-legal c = λ s request w base plan fits is. legal (stated c s request w base fits) (image_accepted c s request w base fits) is

pub returns-clause-there : goal.returns-clause-there
returns-clause-there c = λ s request w base fits. plan_there (stated c s request w base fits)
