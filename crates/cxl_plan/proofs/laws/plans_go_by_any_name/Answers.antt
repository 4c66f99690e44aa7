use Rattle.std.proofs.Common.{refl}
use Rattle.cxl_plan.proofs.laws.plans_go_by_any_name.Goals as goal

pub returns : goal.returns
returns c = λ s request w plan name legal. record {
  distinct = legal.distinct;
  named = refl;
  there = legal.there;
  open_to_plans = legal.open_to_plans;
  agrees = legal.agrees;
  rows_of = record { rising = legal.rows_of.rising; used = legal.rows_of.used; all = legal.rows_of.all };
  each_row = legal.each_row;
  new = legal.new;
  accepted = legal.accepted;
  region = legal.region;
  size = legal.size;
  kind = legal.kind;
  code = legal.code;
}
