-- What is kept of the records up to a place: one record further, the first fault, and the end.
use Rattle.std.proofs.Common.{◌≡◌, ℕ, ◌+◌, ◌<◌, List, [], ◌∷◌, ◌++◌, length, take, drop, Some, None, sym, ap, ◌∙◌, arith}
use Rattle.std.specs.Prelude.{sum_by}
use Rattle.cxl_table.specs.declared.cedt.Record.{Record}
use Rattle.cxl_cedt.specs.declared.counted.Others.{Others}
use Rattle.cxl_cedt.specs.declared.fault.CedtFault.{CedtFault}
use Rattle.cxl_table.specs.Judged.{judged_places}
use Rattle.cxl_table.specs.Records.{record_length}
use Rattle.cxl_cedt.specs.Table.{length_said, record_fault, IsRecordFault}
use Rattle.cxl_cedt.specs.inner.Decoding.{record_of}
use Rattle.cxl_cedt.specs.inner.Kept.{kept_of, IsKeptTo, IsKeptIn}
use Rattle.cxl_cedt.specs.inner.KeptRecords.{KeptRecords}
use Rattle.cxl_cedt.proofs.Fronts.{has_record}
use Rattle.cxl_cedt.proofs.Keeping.{fault_of_kept, kept_next}
use Rattle.cxl_cedt.proofs.Laws.{texts_length}
use Rattle.cxl_cedt.proofs.Scanning.{read_more, fault_there, all_read}

module _ (others : Others) (bytes : List ℕ) (kept : KeptRecords) (rest : List ℕ) (at : ℕ) (so_far : IsKeptTo others bytes kept rest at) where
  -- the fault by all records is that by the kept ones
  same_fault : record_fault kept.records rest at ≡ record_fault so_far.all rest at
  same_fault = ap (λ (rs : List Record). record_fault rs rest at) so_far.kept_are.records ∙ fault_of_kept others so_far.all rest at

  pub kept_more_read : (new : KeptRecords) (n : ℕ) (text : List ℕ) → record_fault kept.records rest at ≡ None → n ≡ length_said rest → text ≡ take n rest
      → new.records ≡ kept.records ++ kept_of others (record_of text ∷ []) → new.places ≡ kept.places ++ judged_places at (record_of text ∷ []) → IsKeptTo others bytes new (drop n rest) (at + n)
  kept_more_read new n text none said is records places =
      let has = has_record so_far.all rest at (sym same_fault ∙ none) in
      let there : at ≡ 36 + sum_by record_length so_far.all = omega (arith, so_far.read_to.place, texts_length so_far.read_to.front so_far.all so_far.read_to.texts) in
      record {
        all = so_far.all ++ record_of text ∷ [];
        read_to = read_more bytes so_far.all rest at n (record_of text) so_far.read_to has said (ap record_of is);
        kept_are = kept_next others so_far.all (record_of text) at kept new there so_far.kept_are records places;
      }

  pub kept_fault : (fault : CedtFault) → 0 < length rest → record_fault kept.records rest at ≡ Some fault → IsRecordFault bytes fault
  kept_fault fault more is = fault_there bytes so_far.all rest at fault so_far.read_to more (sym same_fault ∙ is)

  pub kept_whole : rest ≡ [] → IsKeptIn others bytes kept
  kept_whole end = record { all = so_far.all; texts = all_read bytes so_far.all rest at so_far.read_to end; few = so_far.read_to.few; kept_are = so_far.kept_are }
