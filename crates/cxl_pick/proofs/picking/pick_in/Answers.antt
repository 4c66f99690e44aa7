use Rattle.std.proofs.Common.{◌≡◌, ℕ, ◌<◌, map, Vec, Global, sym, subst, ◌∙◌}
use Rattle.std.specs.Prelude.{option_map}
use Rattle.std.proofs.lemmas.List.Elements.{All-set}
use Rattle.cxl_enc.proofs.Options.{on_ok}
use Rattle.cxl_window.proofs.Usable.{usable_is}
use Rattle.cxl_model.specs.Hosts.{as_system}
use Rattle.cxl_model.specs.System.{System}
use Rattle.cxl_pick.specs.Picking.{all_given, given_in}
use Rattle.cxl_pick.specs.declared.gifts.Gifts.{Gifts}
use Rattle.cxl_pick.specs.inner.Gifts.{AreGifts, IsAsked}
use Rattle.cxl_pick.proofs.Parts.{at_target, take_parts}
use Rattle.cxl_pick.proofs.Settled.{given_from, if_ok, item_there, place_within}
use Rattle.cxl_pick.proofs.picking.pick_in.Goals as goal

pub latest_start-requires : goal.latest_start-requires
latest_start-requires c =
    let takes = take_parts c.args.want.now c.args.w.now (sym c.can_take.ensures ∙ c.if-not-can_take.false) in
    (c.index-index.ensures.window.usable (usable_is c.args.w.now.verdict takes.usable)).low

pub index_mut-requires : goal.index_mut-requires
index_mut-requires c =
    subst (λ (n : ℕ). c.in_ok-place.place < n) (sym c.table_for.new.tables.ok.0)
    (place_within c.table_for.new.tables.items c.in_ok-place.place (λ gifts. IsAsked c.args.want.now gifts c.args.w.now c.in-Some.start) c.in_ok-place.ensures.asked)

pub all_given-requires : goal.all_given-requires
all_given-requires c =
    let s : System = as_system c.args.host.now in
    let at = item_there c.table_for.new.tables.items c.in_ok-place.place (λ gifts. IsAsked c.args.want.now gifts c.args.w.now c.in-Some.start) c.index_mut.result.now c.in_ok-place.ensures.asked in
    record {
      ready = c.requires.ready;
      sound = c.requires.sound;
      count = c.requires.count;
      highest = c.requires.highest;
      gifts = subst (AreGifts s c.args.want.now) (sym c.index_mut.ensures.value) (c.in_ok-place.ensures.tables c.in_ok-place.place c.index_mut.result.now at.0);
      asked = subst (λ (gifts : Gifts). IsAsked c.args.want.now gifts c.args.w.now c.in-Some.start) (sym c.index_mut.ensures.value) at.1;
    }

pub returns : goal.returns
returns c = record {
  tables =
      let s : System = as_system c.args.host.now in
      on_ok c.all_given.result (AreGifts s c.args.want.now c.all_given.new.gifts) _ c.all_given.ensures.gifts
      (λ own. All-set (AreGifts s c.args.want.now) c.table_for.new.tables.items c.in_ok-place.place c.all_given.new.gifts own c.in_ok-place.ensures.tables);
  given =
      let s : System = as_system c.args.host.now in
      let want = c.args.want.now in
      let w = c.args.w.now in
      if_ok c.all_given.result (λ o. option_map (λ (given : Vec ℕ Global). given.items) o ≡ all_given (map (at_target s want w c.in-Some.start) w.targets)) (λ o. option_map (λ (given : Vec ℕ Global). given.items) o ≡ given_in s want w)
      (λ o given. given ∙ given_from s want w c.in-Some.start (sym c.can_take.ensures ∙ c.if-not-can_take.false) (sym c.in-Some.ensures.start))
      c.all_given.ensures.given;
}
