use Rattle.cxl_cedt.proofs.Laws.{header_from, size_from, fits_from}
use Rattle.cxl_cedt.proofs.reading.cedt_from.Goals as goal

pub head_of-requires : goal.head_of-requires
head_of-requires c = (header_from c.args.bytes.now c.in_ok-kept.ensures.header).long

pub of_size-requires-clause-few : goal.of_size-requires-clause-few
of_size-requires-clause-few c = rw c.into_records.ensures.records c.into_records.ensures.few

pub of_size-requires-clause-size : goal.of_size-requires-clause-size
of_size-requires-clause-size c =
    let kept = c.in_ok-kept.ensures.kept in
    let header = header_from c.args.bytes.now c.in_ok-kept.ensures.header in
    rw (c.into_records.ensures.records, kept.kept_are.records) (size_from c.args.bytes.now kept.all header.long kept.texts)

pub of_size-requires-clause-fits : goal.of_size-requires-clause-fits
of_size-requires-clause-fits c =
    let kept = c.in_ok-kept.ensures.kept in
    let header = header_from c.args.bytes.now c.in_ok-kept.ensures.header in
    rw (c.into_records.ensures.records, kept.kept_are.records) (fits_from c.args.bytes.now kept.all header.long c.requires kept.texts)

pub returns-clause-table : goal.returns-clause-table
returns-clause-table c =
    let kept = c.in_ok-kept.ensures.kept in
    let header = header_from c.args.bytes.now c.in_ok-kept.ensures.header in
    rw (c.of_size.ensures, c.into_records.ensures.records, kept.kept_are.records) (record {
      long = header.long;
      signature = header.signature;
      length_said = header.length_said;
      checksum = header.checksum;
      revision = c.head_of.ensures.revision;
      oem_id = c.head_of.ensures.oem_id;
      oem_table = c.head_of.ensures.oem_table;
      oem_revision = c.head_of.ensures.oem_revision;
      creator = c.head_of.ensures.creator;
      creator_revision = c.head_of.ensures.creator_revision;
      texts = kept.texts;
      few = kept.few;
    })
