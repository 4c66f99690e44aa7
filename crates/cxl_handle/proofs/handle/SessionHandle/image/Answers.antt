use Rattle.std.proofs.Common.{◌≡◌, length, take, sym, subst}
use Rattle.cxl_held.specs.Sessions.{IsKept}
use Rattle.cxl_held.specs.declared.held.Held.{Held}
use Rattle.cxl_handle.specs.Told.{IsImageTold, misused}
use Rattle.cxl_handle.proofs.Holding.{where_some}
use Rattle.cxl_handle.proofs.handle.SessionHandle.image.Goals as goal

pub put_image-code-requires : goal.put_image-code-requires
put_image-code-requires c = subst IsKept (sym c.deref.ensures) c.in-Some.ensures.taken.1

pub returns-in-Some-clause-told : goal.returns-in-Some-clause-told
returns-in-Some-clause-told c =
    let now = c.put_image-code.new in let code = c.put_image-code.result in
    let told : Held → Type 0 = λ held. IsImageTold held (length now.out) code (take now.written now.out) in
    where_some c.args.self.now.held ((code ≡ misused) × (now.written ≡ 0)) told c.in-Some.held.value c.in-Some.ensures.taken.0
    (subst told c.deref.ensures c.put_image-code.ensures.told)
