-- What the writer spells is a text of the record or the table.
use Rattle.std.proofs.Common.{◌≡◌, ℕ, suc, ◌+◌, ◌-◌, ◌*◌, ◌%◌, ◌^◌, ◌<◌, ◌≤◌, cond, List, [], ◌∷◌, ◌++◌, length, take, set, get_or, sum, codes, refl, sym, ap, subst, ◌∙◌, append_assoc, arith, length-append}
use Rattle.std.proofs.lemmas.List.{take_at, drop_at, take_more, append-nil}
use Rattle.std.proofs.lemmas.Grind.{flat_map-append}
use Rattle.std.proofs.lemmas.List.Sums.{sum_by-set}
use Rattle.std.specs.List.{flat_map}
use Rattle.byteorder.specs.Numbers.{little_number-reads_back, length-bytes_low_first}
use Rattle.cxl_enc.specs.Limits.{file_limit}
use Rattle.cxl_table.specs.declared.chbs.Chbs as chbs
use Rattle.cxl_table.specs.declared.cedt.Head.{Head}
use Rattle.cxl_table.specs.declared.cedt.Record.{Record}
use Rattle.cxl_table.specs.declared.cedt.Record.TheVariants.{Chbs, Cfmws, Cxims, Other}
use Rattle.cxl_table.specs.CedtFields.{CedtFields}
use Rattle.cxl_table.specs.Fields.{CfmwsFields, CximsFields, OtherFields}
use Rattle.cxl_table.specs.Records.{table_length}
use Rattle.cxl_cedt.specs.Table.{field, fields, some_bytes, IsChbsText, IsCfmwsText, IsCximsText, IsOtherText, IsRecordText, AreRecordTexts, IsTableText}
use Rattle.cxl_cedt.specs.Spelling.{number_bytes, numbers_bytes, chbs_spelling, window_range, window_codes, window_front, cfmws_spelling, maps_front, cxims_spelling, other_spelling, record_spelling, header, spelling_with, checksum_for, spelling}
use Rattle.cxl_enc.proofs.Ways.{ways_few}
use Rattle.cxl_cedt.specs.inner.Widths.{AreBelow, HeadFits, ChbsFits, CfmwsFits, CximsFits, OtherFits, RecordFits, HasText}
use Rattle.cxl_cedt.proofs.Scanning.{texts_push}
use Rattle.cxl_cedt.proofs.Laws.{texts_length}

-- ---- a number that was written is read

pub field_at : (front rest : List ℕ) (at width n : ℕ) → length front ≡ at → n < 256 ^ width → field (front ++ (number_bytes width n ++ rest)) at width ≡ n
unfolding number_bytes
field_at front rest at width n len fits = rw (drop_at front (number_bytes width n ++ rest) at len) (little_number-reads_back width n rest fits)

below_rest : (limit n : ℕ) (ns : List ℕ) → AreBelow limit (n ∷ ns) → AreBelow limit ns
below_rest limit n ns h i = h (suc i)

pub fields_at : (front : List ℕ) (at width : ℕ) (ns : List ℕ) → length front ≡ at → AreBelow (256 ^ width) ns → fields (front ++ numbers_bytes width ns) at width (length ns) ≡ ns
unfolding number_bytes
fields_at front at width [] len fits = refl
fields_at front at width (n ∷ ns) len fits =
    let more : List ℕ = numbers_bytes width ns in
    let first : field (front ++ (number_bytes width n ++ more)) at width ≡ n = field_at front more at width n len (fits 0) in
    let size : length (front ++ number_bytes width n) ≡ at + width = omega (arith, length-append front (number_bytes width n), length-bytes_low_first 0 width n) in
    let others : fields (front ++ (number_bytes width n ++ more)) (at + width) width (length ns) ≡ ns =
    ap (λ (t : List ℕ). fields t (at + width) width (length ns)) (sym (append_assoc front (number_bytes width n) more)) ∙ fields_at (front ++ number_bytes width n) (at + width) width ns size (below_rest (256 ^ width) n ns fits) in
    ap (λ (x : ℕ). x ∷ fields (front ++ (number_bytes width n ++ more)) (at + width) width (length ns)) first ∙ ap (λ (l : List ℕ). n ∷ l) others

pub length-u32s : (ns : List ℕ) → length (numbers_bytes 4 ns) ≡ 4 * length ns
unfolding number_bytes
length-u32s [] = refl
length-u32s (n ∷ ns) = let more = length-u32s ns in omega arith

pub length-u64s : (ns : List ℕ) → length (numbers_bytes 8 ns) ≡ 8 * length ns
unfolding number_bytes
length-u64s [] = refl
length-u64s (n ∷ ns) = let more = length-u64s ns in omega arith

-- ---- records

-- a byte
byte_is : (n : ℕ) → n + 0 ≡ n
byte_is n = omega arith

spelled_chbs : (c : chbs.Chbs) → ChbsFits c → IsChbsText (chbs_spelling c) c
unfolding number_bytes
spelled_chbs c fits = record {
  frame = record { kind_is = refl; length_said = refl; length_is = refl };
  uid = little_number-reads_back 4 c.uid [] fits.uid;
  version = little_number-reads_back 4 c.version [] fits.version;
  base = little_number-reads_back 8 c.base [] fits.base;
  register_length = little_number-reads_back 8 c.length [] fits.register_length;
}

spelled_cfmws : (c : CfmwsFields) → CfmwsFits c → IsCfmwsText (cfmws_spelling c) c
unfolding number_bytes window_range window_codes
spelled_cfmws c fits =
    let count : length (numbers_bytes 4 c.targets) ≡ 4 * length c.targets = length-u32s c.targets in
    let few : length c.targets ≤ 16 = ways_few c.ways (length c.targets) fits.ways in
    record {
      frame = record {
        kind_is = refl;
        length_said = little_number-reads_back 2 (36 + 4 * length c.targets) [] (omega arith);
        length_is = omega (arith, count);
      };
      base = little_number-reads_back 8 c.base [] fits.base;
      size = little_number-reads_back 8 c.size [] fits.size;
      ways = byte_is c.ways;
      ways_known = fits.ways;
      arithmetic = byte_is (cond c.xor 1 0);
      gran = little_number-reads_back 4 c.gran [] (omega (arith, fits.gran));
      gran_known = fits.gran;
      restrict = little_number-reads_back 2 c.restrict [] fits.restrict;
      qtg = little_number-reads_back 2 c.qtg [] fits.qtg;
      targets = fields_at (window_front c) 36 4 c.targets refl fits.targets;
    }

spelled_cxims : (c : CximsFields) → CximsFits c → IsCximsText (cxims_spelling c) c
unfolding number_bytes
spelled_cxims c fits =
    let count : length (numbers_bytes 8 c.maps) ≡ 8 * length c.maps = length-u64s c.maps in
    let few : length c.maps ≤ 255 = fits.few in
    record {
      frame = record {
        kind_is = refl;
        length_said = little_number-reads_back 2 (8 + 8 * length c.maps) [] (omega arith);
        length_is = omega (arith, count);
      };
      gran = byte_is c.gran;
      gran_known = fits.gran;
      count = byte_is (length c.maps);
      maps = fields_at (maps_front c) 8 8 c.maps refl fits.maps;
    }

spelled_other : (c : OtherFields) → OtherFits c → IsOtherText (other_spelling c) c
unfolding number_bytes
spelled_other c fits =
    let few : length c.body ≤ 65531 = fits.few in
    record {
      frame = record {
        kind_is = byte_is c.kind;
        length_said = little_number-reads_back 2 (4 + length c.body) [] (omega arith);
        length_is = omega arith;
      };
      other = fits.kind;
      reserved = byte_is c.reserved;
      body = refl;
    }

pub spelled_record : (r : Record) → RecordFits r → IsRecordText (record_spelling r) r
spelled_record (Chbs c) fits = spelled_chbs c fits
spelled_record (Cfmws c) fits = spelled_cfmws c fits
spelled_record (Cxims c) fits = spelled_cxims c fits
spelled_record (Other c) fits = spelled_other c fits

-- ---- the table

part_at : (front part rest : List ℕ) (at n : ℕ) → length front ≡ at → length part ≡ n → some_bytes (front ++ (part ++ rest)) at n ≡ part
part_at front part rest at n before size = rw (drop_at front (part ++ rest) at before) (take_at part rest n size)

-- bytes 0 to 9
abbrev header_front : ℕ → ℕ → Head → List ℕ
header_front size checksum head = codes "CEDT" ++ number_bytes 4 size ++ head.revision ∷ checksum ∷ []

pub length-header : (size checksum : ℕ) (head : Head) → HeadFits head → length (header size checksum head) ≡ 36
unfolding number_bytes
length-header size checksum head fits = simp length-append (omega (arith, fits.oem_id, fits.oem_table, fits.creator))

-- the sum of a table with a checksum
sum_with : (checksum : ℕ) (c : CedtFields) → HeadFits c.head → sum (spelling_with checksum c) ≡ sum (spelling_with 0 c) + checksum
unfolding number_bytes
sum_with checksum c fits =
    let long : 9 < length (spelling_with 0 c) = omega (arith, length-append (header (table_length c.records) 0 c.head) (flat_map record_spelling c.records), length-header (table_length c.records) 0 c.head fits) in
    let change = sum_by-set (λ (x : ℕ). x) (spelling_with 0 c) 9 checksum 0 long in
    let alone : sum (spelling_with checksum c) + 0 ≡ sum (spelling_with 0 c) + checksum = change in
    omega arith

zero_first : (n : ℕ) → 0 + n ≡ n
zero_first n = omega arith

cancels : (total : ℕ) → (total + checksum_for total) % 256 ≡ 0
cancels total = omega arith

-- the table's text has the length that it says
pub length-spelling : (checksum : ℕ) (c : CedtFields) → HasText c → length (spelling_with checksum c) ≡ table_length c.records
length-spelling checksum c has =
    omega (arith, length-append (header (table_length c.records) checksum c.head) (flat_map record_spelling c.records), length-header (table_length c.records) checksum c.head has.head, texts_length (flat_map record_spelling c.records) c.records has.texts)

pub spelled_table : (c : CedtFields) → HasText c → IsTableText (spelling c) c
unfolding number_bytes spelling
spelled_table c has =
    let fits = has.head in
    let short = has.short in
    let head : Head = c.head in
    let size : ℕ = table_length c.records in
    let checksum : ℕ = checksum_for (sum (spelling_with 0 c)) in
    let records : List ℕ = flat_map record_spelling c.records in
    let bytes : List ℕ = spelling c in
    let front : List ℕ = header_front size checksum head in
    let long : length bytes ≡ size = length-spelling checksum c has in
    let revision_part : List ℕ = number_bytes 4 head.oem_revision in
    let last_part : List ℕ = number_bytes 4 head.creator_revision in
    let at_table : bytes ≡ (front ++ head.oem_id) ++ (head.oem_table ++ (revision_part ++ (head.creator ++ (last_part ++ records)))) = simp append_assoc in
    let at_revision : bytes ≡ ((front ++ head.oem_id) ++ head.oem_table) ++ (revision_part ++ (head.creator ++ (last_part ++ records))) = simp append_assoc in
    let at_creator : bytes ≡ (((front ++ head.oem_id) ++ head.oem_table) ++ revision_part) ++ (head.creator ++ (last_part ++ records)) = simp append_assoc in
    let at_last : bytes ≡ ((((front ++ head.oem_id) ++ head.oem_table) ++ revision_part) ++ head.creator) ++ (last_part ++ records) = simp append_assoc in
    let at_id : bytes ≡ front ++ (head.oem_id ++ (head.oem_table ++ (revision_part ++ (head.creator ++ (last_part ++ records))))) = simp append_assoc in
    record {
      long = omega (arith, length-append (header size checksum head) records, length-header size checksum head fits);
      signature = refl;
      length_said = little_number-reads_back 4 size [] (omega arith) ∙ sym long;
      checksum = ap (λ (n : ℕ). n % 256) (sum_with checksum c fits) ∙ cancels (sum (spelling_with 0 c));
      revision = byte_is head.revision;
      oem_id = ap (λ (t : List ℕ). some_bytes t 10 6) at_id ∙ part_at front head.oem_id (head.oem_table ++ (revision_part ++ (head.creator ++ (last_part ++ records)))) 10 6 refl fits.oem_id;
      oem_table = ap (λ (t : List ℕ). some_bytes t 16 8) at_table ∙ part_at (front ++ head.oem_id) head.oem_table (revision_part ++ (head.creator ++ (last_part ++ records))) 16 8 (simp length-append (omega (arith, fits.oem_id))) fits.oem_table;
      oem_revision = ap (λ (t : List ℕ). field t 24 4) at_revision ∙ field_at ((front ++ head.oem_id) ++ head.oem_table) (head.creator ++ (last_part ++ records)) 24 4 head.oem_revision (simp length-append (omega (arith, fits.oem_id, fits.oem_table))) fits.oem_revision;
      creator = ap (λ (t : List ℕ). some_bytes t 28 4) at_creator ∙ part_at (((front ++ head.oem_id) ++ head.oem_table) ++ revision_part) head.creator (last_part ++ records) 28 4 (simp length-append (omega (arith, fits.oem_id, fits.oem_table))) fits.creator;
      creator_revision = ap (λ (t : List ℕ). field t 32 4) at_last ∙ field_at ((((front ++ head.oem_id) ++ head.oem_table) ++ revision_part) ++ head.creator) records 32 4 head.creator_revision (simp length-append (omega (arith, fits.oem_id, fits.oem_table, fits.creator))) fits.creator_revision;
      texts = subst (λ (t : List ℕ). AreRecordTexts t c.records) (sym (drop_at (header size checksum head) records 36 (length-header size checksum head fits))) has.texts;
      few = has.few;
    }

pub spelled_fits : (c : CedtFields) → HasText c → length (spelling c) ≤ file_limit
unfolding spelling
spelled_fits c has = let short = has.short in omega (arith, length-spelling (checksum_for (sum (spelling_with 0 c))) c has)

-- the ninth byte makes the sum 0
pub sealed : (c : CedtFields) (bytes : List ℕ) (total : ℕ) → bytes ≡ spelling_with 0 c → total ≡ sum bytes % 256 → set bytes 9 ((0 + (256 - total)) % 256) ≡ spelling c
unfolding number_bytes spelling
sealed c bytes total is total_is =
    let checksum : (0 + (256 - total)) % 256 ≡ checksum_for (sum (spelling_with 0 c)) = ap (λ (n : ℕ). (0 + (256 - n)) % 256) (total_is ∙ ap (λ (t : List ℕ). sum t % 256) is) ∙ ap (λ (n : ℕ). n % 256) (zero_first (256 - sum (spelling_with 0 c) % 256)) in
    ap (λ (t : List ℕ). set t 9 ((0 + (256 - total)) % 256)) is ∙ ap (λ (n : ℕ). set (spelling_with 0 c) 9 n) checksum

-- one record more
texts_more : (rs : List Record) (r : Record) → AreRecordTexts (flat_map record_spelling rs) rs → RecordFits r → AreRecordTexts (flat_map record_spelling (rs ++ r ∷ [])) (rs ++ r ∷ [])
texts_more rs r h fits =
    let whole : flat_map record_spelling (rs ++ r ∷ []) ≡ flat_map record_spelling rs ++ record_spelling r = flat_map-append record_spelling rs (r ∷ []) ∙ ap (λ (t : List ℕ). flat_map record_spelling rs ++ t) (append-nil (record_spelling r)) in
    subst (λ (t : List ℕ). AreRecordTexts t (rs ++ r ∷ [])) (sym whole) (texts_push (flat_map record_spelling rs) (record_spelling r) rs r h (spelled_record r fits))

-- the first records of a list are spelled behind what was there
pub record AreSpelled (before out : List ℕ) (records : List Record) : Type 0 where
  pub spelled : out ≡ before ++ flat_map record_spelling records
  pub texts : AreRecordTexts (flat_map record_spelling records) records

pub spelled_more : (before out new : List ℕ) (rs : List Record) (i : ℕ) (r : Record) → i < length rs → r ≡ get_or rs i r → AreSpelled before out (take i rs) → new ≡ out ++ record_spelling r → RecordFits r → AreSpelled before new (take (i + 1) rs)
spelled_more before out new rs i r lt is so_far added fits =
    let more : take (i + 1) rs ≡ take i rs ++ r ∷ [] = take_more rs i r lt ∙ ap (λ (x : Record). take i rs ++ x ∷ []) (sym is) in
    let whole : flat_map record_spelling (take i rs ++ r ∷ []) ≡ flat_map record_spelling (take i rs) ++ record_spelling r = flat_map-append record_spelling (take i rs) (r ∷ []) ∙ ap (λ (t : List ℕ). flat_map record_spelling (take i rs) ++ t) (append-nil (record_spelling r)) in
    subst (AreSpelled before new) (sym more) (record {
      spelled = added ∙ ap (λ (t : List ℕ). t ++ record_spelling r) so_far.spelled ∙ append_assoc before (flat_map record_spelling (take i rs)) (record_spelling r) ∙ ap (λ (t : List ℕ). before ++ t) (sym whole);
      texts = texts_more (take i rs) r so_far.texts fits;
    })
