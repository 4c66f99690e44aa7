use Rattle.std.proofs.Common.{◌≡◌, false, sym, ◌∙◌, rules}
use Rattle.cxl_pipe.proofs.Ends.{none_left, ends_told, ends_untold, first_untold}
use Rattle.cxl_pipe.proofs.pipe_bus.PipeBus.ends_in_step.Goals as goal

pub returns-in_default-clause-yes : goal.returns-in_default-clause-yes
returns-in_default-clause-yes g c =
    let step : c.args.self.now.strange ≡ false = search rules in
    none_left c.first_cap.result c.args.self.now c.first_cap.ensures c.in_default.is step

pub returns-then-tells-clause-yes : goal.returns-then-tells-clause-yes
returns-then-tells-clause-yes g c =
    let step : c.args.self.now.strange ≡ false = search rules in
    ends_told c.in-Some.cap c.args.self.now c.tells.new.self c.tells-then-tells.new.self (sym c.in-Some.is ∙ c.first_cap.ensures) c.tells-then-tells.result step c.if-tells.ensures.yes c.tells-then-tells.ensures.yes

pub returns-then-tells-clause-no : goal.returns-then-tells-clause-no
returns-then-tells-clause-no g c =
    ends_untold c.in-Some.cap c.args.self.now c.tells.new.self c.tells-then-tells.new.self (sym c.in-Some.is ∙ c.first_cap.ensures) c.tells-then-tells.result c.if-tells.ensures.yes c.tells-then-tells.ensures.no

pub returns-else-tells-clause-no : goal.returns-else-tells-clause-no
returns-else-tells-clause-no g c =
    first_untold c.in-Some.cap c.args.self.now c.tells.new.self c.tells.result (sym c.in-Some.is ∙ c.first_cap.ensures) c.tells.ensures.no
