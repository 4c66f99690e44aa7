use Rattle.std.proofs.Common.{refl, sym, subst}
use Rattle.std.proofs.lemmas.List.{append-nil, take_all}
use Rattle.cxl_cedt.proofs.Spelled.{AreSpelled, spelled_more}
use Rattle.cxl_cedt.proofs.writing.spell_records.Goals as goal

pub loop-item-init : goal.loop-item-init
loop-item-init c = record { spelled = sym (append-nil c.args.out.now.items); texts = refl }

pub loop-item-preserved : goal.loop-item-preserved
loop-item-preserved c =
    let so_far = c.loop-item.invariant in
    let more = spelled_more c.args.out.now.items c.loop-item.out.items c.spell_record.new.out.items c.args.records.now c.loop-item.item-index c.item-item.result c.loop-item-test.true c.item-item.is (record { spelled = so_far.spelled; texts = so_far.texts }) c.in_ok-spell_record.ensures.spelled c.in_ok-spell_record.ensures.fits in
    record { spelled = more.spelled; texts = more.texts }

pub returns : goal.returns
returns c =
    let so_far = c.loop-item.invariant in
    let all = subst (AreSpelled c.args.out.now.items c.loop-item.out.items) (take_all c.loop-item.item-index c.args.records.now c.loop-item-test.false) (record { spelled = so_far.spelled; texts = so_far.texts }) in
    record { spelled = all.spelled; texts = all.texts }
