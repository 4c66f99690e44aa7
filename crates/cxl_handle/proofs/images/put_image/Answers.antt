use Rattle.std.proofs.Common.{◌∙◌, sym, subst, inl, inr, arith}
use Rattle.std.proofs.lemmas.List.{take_all}
use Rattle.cxl_handle.specs.Told.{IsFileOf, whole, cut}
use Rattle.cxl_handle.proofs.images.put_image.Goals as goal

pub returns-in-Ok-clause-told : goal.returns-in-Ok-clause-told
returns-in-Ok-clause-told c =
    let out = c.put_front.new.out in let file = subst (IsFileOf c.args.held.now) (sym c.as_slice.ensures.value) c.in-Ok.ensures.file in elim c.put_front.ensures.code [
      | inl done ↦ whole (subst (IsFileOf c.args.held.now) (sym (c.put_front.ensures.whole done)) file) done
      | inr full ↦ cut c.as_slice.result.now file (c.put_front.ensures.cut full).0
          (let count = c.put_front.ensures.full full in take_all c.put_front.new.written out (omega (arith, count)) ∙ (c.put_front.ensures.cut full).1) full
    ]
