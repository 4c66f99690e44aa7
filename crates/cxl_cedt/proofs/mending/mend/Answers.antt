use Rattle.std.proofs.Common.{◌≡◌, ◌++◌, length, ap, ◌∙◌, arith}
use Rattle.cxl_enc.proofs.Options.{on_ok}
use Rattle.cxl_cedt.specs.Spelling.{header}
use Rattle.cxl_cedt.specs.inner.Mending.{with_part, mended}
use Rattle.cxl_cedt.proofs.Mended.{records_each, records_fit, header_fits, head_is, whole_mended}
use Rattle.cxl_cedt.proofs.mending.mend.Goals as goal

pub put_over-requires : goal.put_over-requires
put_over-requires c =
    let head = c.head_of.result in
    let spelled : c.deref.result.now ≡ header (length c.args.bytes.now) 0 head = c.deref.ensures.value ∙ c.in_ok-put_header.ensures.spelled ∙ ap (λ t. t ++ header (length c.args.bytes.now) 0 head) c.new-header.ensures.items in
    omega (arith, ap length spelled, header_fits c.args.bytes.now c.args.judged.now c.requires head c.in_ok-put_header.ensures.fits)

pub mend_records-requires-clause-each : goal.mend_records-requires-clause-each
mend_records-requires-clause-each c = rw (c.places.ensures, c.records.ensures.records) (records_each c.args.bytes.now c.args.judged.now c.requires)

pub mend_records-requires-clause-fit : goal.mend_records-requires-clause-fit
mend_records-requires-clause-fit c =
    rw (c.put_over.ensures.size, c.places.ensures, c.records.ensures.records) (records_fit c.args.bytes.now c.args.judged.now c.requires)

pub returns-clause-spelled : goal.returns-clause-spelled
returns-clause-spelled c =
    let bytes = c.args.bytes.now in
    let kept = c.args.judged.now in
    let head = c.head_of.result in
    let front = header (length bytes) 0 head in
    let spelled : c.deref.result.now ≡ front = c.deref.ensures.value ∙ c.in_ok-put_header.ensures.spelled ∙ ap (λ t. t ++ front) c.new-header.ensures.items in
    let start : c.put_over.new.bytes ≡ with_part bytes 0 front = c.put_over.ensures.value ∙ ap (with_part bytes 0) spelled in
    let of = c.head_of.ensures in
    on_ok c.mend_records.result _ _ c.mend_records.ensures.mended (λ (last : c.mend_records.new.bytes ≡ mended c.put_over.new.bytes c.places.result.now c.records.result.now).
    last ∙ ap (λ t. mended t c.places.result.now c.records.result.now) start
    ∙ ap (λ ps. mended (with_part bytes 0 front) ps c.records.result.now) c.places.ensures
    ∙ ap (mended (with_part bytes 0 front) kept.places) c.records.ensures.records
    ∙ whole_mended bytes kept c.requires head c.in_ok-put_header.ensures.fits (head_is bytes head of.revision of.oem_id of.oem_table of.oem_revision of.creator of.creator_revision) c.put_over.ensures.known)
