use Rattle.std.proofs.Common.{◌≡◌, true, ℕ, List, Vec, Global, Option, sym, ap, subst, ◌∙◌, arith}
use Rattle.cxl_topo.proofs.Trees.{KnownTree}
use Rattle.cxl_model.specs.Hosts.{as_system}
use Rattle.cxl_model.specs.System.{System}
use Rattle.cxl_pick.specs.declared.gifts.Gift.{Gift}
use Rattle.cxl_pick.specs.inner.Gifts.{AreChildrenKnown, is_known, used, used_with}
use Rattle.cxl_pick.proofs.Known.{gift_for, port_gift_is}
use Rattle.cxl_pick.proofs.asking.note_port.Goals as goal

pub note-requires : goal.note-requires
note-requires c =
    let count = (c.narrow.ensures.gifts c.args.want.now c.requires.gifts).count in
    let here = c.requires.here in
    omega (arith, count, here)

pub returns : goal.returns
returns c = record {
  gifts =
      let s : System = as_system c.args.host.now in
      let want = c.args.want.now in
      let known : KnownTree s.nodes = record { tree = c.requires.ready.system.tree; laws = c.tree_laws.ensures.laws s.nodes c.requires.ready.system.tree } in
      let are = c.narrow.ensures.gifts want c.requires.gifts in
      let all : AreChildrenKnown s c.narrow.new.gifts.known.items c.args.node =
      subst (λ (known : Vec (Option Gift) Global). AreChildrenKnown s known.items c.args.node) (sym c.narrow.ensures.known) c.requires.children in
      c.note.ensures.gifts s want are
      (λ v b asked.
      gift_for c.port_gift-gift.result (used_with s want c.args.w.now c.args.start c.narrow.new.gifts.known.items c.args.children.now c.args.node) (used s want v b c.args.node)
      (λ m few.
      ap (λ (cs : List ℕ). used_with s want c.args.w.now c.args.start c.narrow.new.gifts.known.items cs c.args.node m) c.requires.own.is
      ∙ port_gift_is s known want c.args.w.now v c.args.start b c.args.node m c.narrow.new.gifts are (c.narrow.ensures.asked want c.args.w.now c.requires.asked) asked few (c.narrow.ensures.alike want v b asked) c.requires.port all)
      c.port_gift-gift.ensures)
      (λ port. all);
  asked = c.note.ensures.asked c.args.want.now c.args.w.now c.args.start (c.narrow.ensures.asked c.args.want.now c.args.w.now c.requires.asked);
  kept =
      λ n there.
      c.note.ensures.kept n (subst (λ (known : Vec (Option Gift) Global). is_known known.items n ≡ true) (sym c.narrow.ensures.known) there);
  here = c.note.ensures.here;
}
