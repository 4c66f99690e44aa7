use Rattle.std.proofs.Common.{◌≡◌, sym, subst, take}
use Rattle.cxl_held.specs.Sessions.{IsKept}
use Rattle.cxl_handle.specs.Owned.{HoldsSuch}
use Rattle.cxl_handle.specs.Told.{HasActed, HasToldLines, misused}
use Rattle.cxl_library.proofs.Codes.{of_write_fault}
use Rattle.cxl_handle.proofs.Holding.{where_some, holds_such}
use Rattle.cxl_handle.proofs.handle.SessionHandle.act.Goals as goal

pub act_over-status-requires : goal.act_over-status-requires
act_over-status-requires c = record { kept = subst IsKept (sym c.deref_mut.ensures.value) c.in-Some.ensures.taken.1 }

pub returns-in-Some-clause-acted : goal.returns-in-Some-clause-acted
returns-in-Some-clause-acted c =
    let text = take c.act_over-status.new.written c.act_over-status.new.out in let new = c.act_over-status.new.held in let status = c.act_over-status.result in
    where_some c.args.self.now.held ((c.code.result ≡ misused) × (c.act_over-status.new.written ≡ 0) × (c.put.new.self.held ≡ c.args.self.now.held))
    (λ old. HoldsSuch c.put.new.self.held (λ now. HasActed old now c.args.lines.now c.code.result text)) c.in-Some.own.value c.in-Some.ensures.taken.0
    (holds_such c.put.new.self.held (λ now. HasActed c.in-Some.own.value now c.args.lines.now c.code.result text) new c.put.ensures
    (record {
      status = status;
      code_is = c.code.ensures;
      told = subst (λ old. HasToldLines old new c.args.lines.now status text) c.deref_mut.ensures.value c.act_over-status.ensures.told;
      unfailed = c.act_over-status.ensures.unfailed;
    }))

pub returns-in-Some-clause-full : goal.returns-in-Some-clause-full
returns-in-Some-clause-full c six = c.act_over-status.ensures.full (of_write_fault c.act_over-status.result c.code.result c.code.ensures six)
