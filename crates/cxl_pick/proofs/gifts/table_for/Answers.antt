use Rattle.std.proofs.Common.{◌≡◌, ℕ, ◌<◌, List, [], ◌∷◌, length, set, Some, sym, ap, ◌∙◌, subst, arith}
use Rattle.std.specs.Prelude.{All, slice_get, IsSomeAnd}
use Rattle.std.proofs.lemmas.List.Elements.{All-append, All-set}
use Rattle.std.proofs.lemmas.Option.{slice_get-get_or}
use Rattle.cxl_enc.proofs.Lists.{All-one}
use Rattle.cxl_enc.proofs.Options.{and_some}
use Rattle.cxl_model.specs.Hosts.{as_system}
use Rattle.cxl_pick.specs.declared.gifts.Gifts.{Gifts}
use Rattle.cxl_pick.specs.inner.Gifts.{AreGifts, IsAsked}
use Rattle.cxl_pick.proofs.Known.{pushed_there, set_there, of_there}
use Rattle.cxl_pick.proofs.gifts.table_for.Goals as goal

pub returns-then-place-len : goal.returns-then-place-len
returns-then-place-len c = record {
  tables =
      let s = as_system c.args.host.now in
      let one : All (AreGifts s c.args.want.now) (c.in_ok-made.made ∷ []) = All-one (AreGifts s c.args.want.now) c.in_ok-made.made (c.in_ok-made.ensures.gifts s c.args.want.now (sym c.count.ensures.count)) in
      subst (All (AreGifts s c.args.want.now)) (sym c.in_ok-push.ensures.items) (All-append (AreGifts s c.args.want.now) c.args.tables.now.items (c.in_ok-made.made ∷ []) c.requires.tables one);
  asked =
      and_some (slice_get c.push.new.self.items c.place_for-place.result) (λ gifts. IsAsked c.args.want.now gifts c.args.w.now c.args.start) c.in_ok-made.made
      (ap (λ (l : List Gifts). slice_get l c.place_for-place.result) c.in_ok-push.ensures.items ∙ pushed_there c.args.tables.now.items c.in_ok-made.made c.place_for-place.result (let read = c.len.ensures in let same = c.if-place-len.true in omega (arith, read, same)))
      (c.in_ok-made.ensures.asked c.args.want.now c.args.w.now c.args.start (sym c.wanted_code-code.ensures) (sym c.third_of-third.ensures) c.requires.low);
}

pub returns-in_ok-made-2 : goal.returns-in_ok-made-2
returns-in_ok-made-2 c = record {
  tables =
      let s = as_system c.args.host.now in
      All-set (AreGifts s c.args.want.now) c.args.tables.now.items c.place_for-place.result c.in_ok-made-2.made (c.in_ok-made-2.ensures.gifts s c.args.want.now (sym c.count-then-not-is_among.ensures.count)) c.requires.tables;
  asked =
      and_some (slice_get (set c.args.tables.now.items c.place_for-place.result c.in_ok-made-2.made) c.place_for-place.result) (λ gifts. IsAsked c.args.want.now gifts c.args.w.now c.args.start) c.in_ok-made-2.made
      (set_there c.args.tables.now.items c.in_ok-made-2.made c.place_for-place.result
      (let within = c.place_for-place.ensures.within in
      let other = c.if-place-len.false in
      let read = ap (λ (l : List Gifts). length l) c.deref.ensures.value in
      let long = c.len.ensures in
      omega (arith, within, other, read, long)))
      (c.in_ok-made-2.ensures.asked c.args.want.now c.args.w.now c.args.start (sym c.wanted_code-code.ensures) (sym c.third_of-third.ensures) c.requires.low);
}

pub returns-else-not-is_among : goal.returns-else-not-is_among
returns-else-not-is_among c = record {
  asked =
      let tables = c.args.tables.now.items in
      let place : ℕ = c.place_for-place.result in
      let within : place < length tables =
      (let within = c.place_for-place.ensures.within in
      let other = c.if-place-len.false in
      let read = ap (λ (l : List Gifts). length l) c.deref.ensures.value in
      let long = c.len.ensures in
      omega (arith, within, other, read, long)) in
      let read = c.deref.ensures.value in
      let long = ap (λ (l : List Gifts). length l) read in
      let found = subst (λ (l : List Gifts). IsSomeAnd (slice_get l place) (λ gifts. (gifts.code ≡ c.wanted_code-code.result) × (gifts.third ≡ c.third_of-third.result))) read (c.place_for-place.ensures.found (omega (arith, long, within))) in
      let at : slice_get tables place ≡ Some c.index.result.now = slice_get-get_or tables place c.index.result.now within ∙ ap (λ (x : Gifts). Some x) (sym c.index.ensures) in
      let own = of_there (slice_get tables place) c.index.result.now (λ gifts. (gifts.code ≡ c.wanted_code-code.result) × (gifts.third ≡ c.third_of-third.result)) at found in
      and_some (slice_get tables place) (λ gifts. IsAsked c.args.want.now gifts c.args.w.now c.args.start) c.index.result.now at
      record {
        code = sym (own.0 ∙ c.wanted_code-code.ensures);
        third = sym (own.1 ∙ c.third_of-third.ensures);
        least = c.is_among.ensures.from c.if-not-is_among.false;
        most = c.is_among.ensures.until c.if-not-is_among.false;
      };
  tables = c.requires.tables;
}
