use Rattle.std.proofs.Common.{◌≡◌, List, Some, sym, ap, ◌∙◌}
use Rattle.std.specs.Prelude.{slice_get}
use Rattle.std.proofs.lemmas.Option.{slice_get-get_or}
use Rattle.cxl_enc.proofs.Options.{and_some}
use Rattle.cxl_pick.specs.declared.gifts.Gifts.{Gifts}
use Rattle.cxl_pick.proofs.gifts.place_for.Goals as goal

pub returns-then-gifts-third : goal.returns-then-gifts-third
returns-then-gifts-third c =
    let tables : List Gifts = c.args.tables.now in
    let own : Gifts = c.index-tables-place.result in
    let at : slice_get tables c.loop-place.place ≡ Some own = slice_get-get_or tables c.loop-place.place own c.loop-place-test.true ∙ ap (λ (x : Gifts). Some x) (sym c.index-tables-place.is) in
    record {
      within = c.loop-place.auto.place-end;
      found = λ _. and_some (slice_get tables c.loop-place.place) (λ gifts. (gifts.code ≡ c.args.code) × (gifts.third ≡ c.args.third)) own at (c.if-gifts-code.true, c.if-gifts-third.true);
    }
