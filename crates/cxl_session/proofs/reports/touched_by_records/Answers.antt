use Rattle.std.proofs.Common.{ℕ, ◌+◌, sym, subst, ap, ◌∙◌, ◌++◌, ◌∷◌, [], List, length, take, get_or, arith}
use Rattle.std.specs.List.{AllZip}
use Rattle.std.proofs.lemmas.List.{take_more, take_all, length-append}
use Rattle.std.proofs.lemmas.Slice.Zip.{all_zipped_more}
use Rattle.cxl_model.specs.declared.poison.Entry.{Entry}
use Rattle.cxl_model.specs.declared.poison.Poisoned.{Poisoned}
use Rattle.cxl_poison.specs.Pieces.{ArePoisonedPieces}
use Rattle.cxl_opening.proofs.Errors.{not_ok}
use Rattle.cxl_session.proofs.reports.touched_by_records.Goals as goal

pub pieces_at-requires-clause-places : goal.pieces_at-requires-clause-places
pieces_at-requires-clause-places c = c.requires.places c.loop-record.record-index (record { dpa = 0; units = 0; source = 0 }) c.loop-record-test.true

pub loop-record-preserved : goal.loop-record-preserved
loop-record-preserved c =
    let none : Entry = record { dpa = 0; units = 0; source = 0 } in
    let R : Entry → Poisoned → Type 0 = λ entry poisoned. ArePoisonedPieces entry c.args.endpoint c.args.live.now c.args.windows.now poisoned in
    let records : List Entry = c.args.records.now in
    let k : ℕ = c.loop-record.record-index in
    let all : List Poisoned = c.loop-record.all.items in
    let on = all_zipped_more R (take k records) all (get_or records k none) c.in_ok-told.told c.loop-record.invariant.told c.in_ok-told.ensures.pieces in
    let long = length-append all (c.in_ok-told.told ∷ []) in
    let count = c.loop-record.invariant.count in
    let items = c.push_reserved.ensures.items in
    record {
      told =
          subst (λ (xs : List Poisoned). AllZip R (take (k + 1) records) xs) (sym items)
          (subst (λ (front : List Entry). AllZip R front (all ++ c.in_ok-told.told ∷ [])) (sym (take_more records k none c.loop-record-test.true)) on);
      count = ap (λ (xs : List Poisoned). length xs) items ∙ omega (arith, long, count);
      room = omega (arith, c.push_reserved.ensures.capacity, c.loop-record.invariant.room);
    }

pub pieces_at-requires-clause-live : goal.pieces_at-requires-clause-live
pieces_at-requires-clause-live c = c.requires.live

pub loop-record-init : goal.loop-record-init
loop-record-init c =
    let R : Entry → Poisoned → Type 0 = λ entry poisoned. ArePoisonedPieces entry c.args.endpoint c.args.live.now c.args.windows.now poisoned in
    let none = c.in_ok-all.ensures.items in
    record {
      told = subst (λ (xs : List Poisoned). AllZip R [] xs) (sym none) tt;
      count = ap (λ (xs : List Poisoned). length xs) none;
      room = omega (arith, c.in_ok-all.ensures.capacity);
    }

pub push_reserved-requires : goal.push_reserved-requires
push_reserved-requires c =
    let size = c.loop-record.all.ok.0 in
    omega (arith, size, c.loop-record.invariant.count, c.loop-record.invariant.room, c.loop-record-test.true)

pub returns : goal.returns
returns c =
    let R : Entry → Poisoned → Type 0 = λ entry poisoned. ArePoisonedPieces entry c.args.endpoint c.args.live.now c.args.windows.now poisoned in
    let all : List Poisoned = c.loop-record.all.items in
    subst (λ (xs : List Poisoned). AllZip R c.args.records.now xs) (sym c.new.ensures)
    (subst (λ (front : List Entry). AllZip R front all) (take_all c.loop-record.record-index c.args.records.now (omega (arith, c.loop-record-test.false))) c.loop-record.invariant.told)

pub returns-in_err-all : goal.returns-in_err-all
returns-in_err-all c = not_ok _ c.from_residual.result _ c.from_residual.ensures.1

pub returns-in_err-told : goal.returns-in_err-told
returns-in_err-told c = not_ok _ c.from_residual-in_err-told.result _ c.from_residual-in_err-told.ensures.1
