use Rattle.std.proofs.Common.{◌≡◌, true, ◌&&◌, if◌then◌else◌, Vec, Global, Option, sym, subst, ◌∙◌, arith}
use Rattle.std.specs.Prelude.{◌==◌}
use Rattle.std.proofs.lemmas.Bool.{false≢true}
use Rattle.cxl_model.specs.Hosts.{as_system}
use Rattle.cxl_pick.specs.declared.gifts.Gift.{Gift}
use Rattle.cxl_pick.specs.Picking.{can_serve_itself}
use Rattle.cxl_pick.specs.inner.Gifts.{is_known, used}
use Rattle.cxl_pick.proofs.Known.{gift_for, endpoint_gift_is}
use Rattle.cxl_pick.proofs.asking.note_endpoint.Goals as goal

pub note-requires : goal.note-requires
note-requires c =
    let count = (c.narrow.ensures.gifts c.args.want.now c.requires.gifts).count in
    let here = c.requires.here in
    omega (arith, count, here)

pub returns : goal.returns
returns c = record {
  gifts =
      let s = as_system c.args.host.now in
      let want = c.args.want.now in
      c.note.ensures.gifts s want (c.narrow.ensures.gifts want c.requires.gifts)
      (λ v b asked.
      gift_for c.endpoint_gift-gift.result (λ m. if (m == 1) && can_serve_itself s want c.args.w.now c.args.start c.args.node then 1 else 0) (used s want v b c.args.node)
      (λ m few.
      endpoint_gift_is s want c.args.w.now v c.args.start b c.args.node m c.narrow.new.gifts (c.narrow.ensures.asked want c.args.w.now c.requires.asked) asked (c.narrow.ensures.alike want v b asked) c.requires.endpoint)
      c.endpoint_gift-gift.ensures)
      (λ port. absurd (false≢true (sym port ∙ c.requires.endpoint)));
  asked = c.note.ensures.asked c.args.want.now c.args.w.now c.args.start (c.narrow.ensures.asked c.args.want.now c.args.w.now c.requires.asked);
  kept =
      λ n there.
      c.note.ensures.kept n (subst (λ (known : Vec (Option Gift) Global). is_known known.items n ≡ true) (sym c.narrow.ensures.known) there);
  here = c.note.ensures.here;
}
