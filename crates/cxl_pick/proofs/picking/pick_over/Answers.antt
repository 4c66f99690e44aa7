use Rattle.std.proofs.Common.{◌≡◌, ℕ, ◌<◌, List, length, get_or, Some, Vec, Global, sym, ap, ◌∙◌, subst, inl, inr, arith}
use Rattle.std.specs.Prelude.{slice_get, option_map, All}
use Rattle.std.proofs.lemmas.Bool.{cases_eq}
use Rattle.std.proofs.lemmas.Option.{slice_get-get_or, slice_get_within, same_Some}
use Rattle.cxl_window.specs.Fields.{WindowFields}
use Rattle.cxl_model.specs.Hosts.{as_system}
use Rattle.cxl_model.specs.System.{System}
use Rattle.cxl_pick.specs.declared.want.Want.{Want}
use Rattle.cxl_pick.specs.Picking.{given_in, AreInOrder}
use Rattle.cxl_pick.proofs.Picks.{given_low, window_there}
use Rattle.cxl_pick.proofs.picking.pick_over.Goals as goal

-- the window at its place
window_at : (windows : List WindowFields) (i : ℕ) (w : WindowFields) → i < length windows → w ≡ get_or windows i w → slice_get windows i ≡ Some w
window_at windows i w within is = slice_get-get_or windows i w within ∙ ap (λ (x : WindowFields). Some x) (sym is)

pub in_order-requires : goal.in_order-requires
in_order-requires c =
    let s : System = as_system c.args.host.now in
    let want : Want = c.args.want.now in
    let w : WindowFields = c.w-item.result in
    let at = window_at s.windows c.loop-w.w-index w c.loop-w-test.true c.w-item.is in
    let is : given_in s want w ≡ Some c.in-Some.given.items =
    sym c.in_ok-given.ensures.given ∙ ap (option_map (λ (x : Vec ℕ Global). x.items)) c.in-Some.is in
    let low = given_low s want w c.in-Some.given.items (c.tree_laws.ensures.laws s.nodes c.requires.system.tree) c.requires.system (window_there s c.requires.system c.loop-w.w-index w at) is in
    let read = c.deref.ensures.value in
    let count = c.count.ensures.count in
    subst (λ (xs : List ℕ). All (λ n. n < c.count.result) xs) (sym read) (subst (λ (k : ℕ). All (λ n. n < k) c.in-Some.given.items) (sym count) low)

pub returns-in-Some : goal.returns-in-Some
returns-in-Some c =
    let s : System = as_system c.args.host.now in
    let want : Want = c.args.want.now in
    let w : WindowFields = c.w-item.result in (
      w,
      record {
        place = c.loop-w.w-index;
        there = window_at s.windows c.loop-w.w-index w c.loop-w-test.true c.w-item.is;
        given = c.in-Some.given.items;
        gives = sym c.in_ok-given.ensures.given ∙ ap (option_map (λ (x : Vec ℕ Global). x.items)) c.in-Some.is;
        rising = subst (λ (xs : List ℕ). AreInOrder xs c.in_ok-set-in-Some.set.items) c.deref.ensures.value c.in_ok-set-in-Some.ensures;
        first = c.loop-w.invariant.1;
      },
    )

pub loop-w-preserved : goal.loop-w-preserved
loop-w-preserved c = (
  c.in_ok-given.ensures.tables,
  λ k v less there.
      let s : System = as_system c.args.host.now in
      let want : Want = c.args.want.now in
      let w : WindowFields = c.w-item.result in
      let i : ℕ = c.loop-w.w-index in
      elim (cases_eq k i) [
        | inl here ↦
            let at = window_at s.windows i w c.loop-w-test.true c.w-item.is in
            let same : w ≡ v = same_Some w v (sym at ∙ ap (slice_get s.windows) (sym here) ∙ there) in
            ap (given_in s want) (sym same)
            ∙ sym c.in_ok-given.ensures.given ∙ ap (option_map (λ (x : Vec ℕ Global). x.items)) c.in-None.is
        | inr other ↦ c.loop-w.invariant.1 k v (omega (arith, less, other)) there
      ],
)

pub returns : goal.returns
returns c = λ place w at.
    let within = slice_get_within c.args.host.now.windows.now place w at in
    let past = c.loop-w-test.false in
    c.loop-w.invariant.1 place w (omega (arith, within, past)) at

pub pick_in-requires : goal.pick_in-requires
pick_in-requires c = record {
  ready = c.requires.ready;
  sound = c.requires.sound;
  count = c.requires.count;
  highest = c.requires.highest;
  tables = c.loop-w.invariant.0;
}
