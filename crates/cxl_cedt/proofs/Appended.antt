-- What was appended, part behind part.
use Rattle.std.proofs.Common.{◌≡◌, ℕ, ◌+◌, ◌*◌, ◌<◌, List, [], ◌∷◌, ◌++◌, length, take, slice_index, codes, Result, Ok, Err, OnOk, ap, sym, ◌∙◌, append_assoc}
use Rattle.std.proofs.lemmas.Grind.{flat_map-append}
use Rattle.std.proofs.lemmas.List.{append-nil, take_more}
use Rattle.cxl_enc.proofs.Lists.{appended}
use Rattle.cxl_table.specs.declared.chbs.Chbs as chbs
use Rattle.cxl_table.specs.declared.cedt.Head.{Head}
use Rattle.cxl_table.specs.Fields.{CximsFields}
use Rattle.cxl_cedt.specs.Spelling.{number_bytes, numbers_bytes, frame, chbs_spelling, cxims_spelling, header}

-- and what holds anyway
pub always : {T E : Type 0} (r : Result T E) (P : Type 0) → P → OnOk r P
always (Ok done) P p = p
always (Err e) P p = tt

-- the bytes of one number more of a list
pub number_appended : (width : ℕ) (old middle new numbers : List ℕ) (i : ℕ) → i < length numbers → middle ≡ old ++ numbers_bytes width (take i numbers)
    → new ≡ middle ++ number_bytes width (slice_index numbers i) → new ≡ old ++ numbers_bytes width (take (i + 1) numbers)
number_appended width old middle new numbers i there so_far added =
    let x : ℕ = slice_index numbers i in
    let whole : numbers_bytes width (take i numbers ++ x ∷ []) ≡ numbers_bytes width (take i numbers) ++ number_bytes width x =
    flat_map-append (number_bytes width) (take i numbers) (x ∷ []) ∙ ap (λ (t : List ℕ). numbers_bytes width (take i numbers) ++ t) (append-nil (number_bytes width x)) in
    appended old middle new _ _ so_far added ∙ ap (λ (t : List ℕ). old ++ t) (sym whole ∙ ap (numbers_bytes width) (sym (take_more numbers i 0 there)))

-- the parts of a header behind its first ten bytes
pub header_appended : (head : Head) (size : ℕ) (old a b c d e new : List ℕ) → a ≡ old ++ (codes "CEDT" ++ number_bytes 4 size ++ head.revision ∷ 0 ∷ []) → b ≡ a ++ head.oem_id → c ≡ b ++ head.oem_table
    → d ≡ c ++ number_bytes 4 head.oem_revision → e ≡ d ++ head.creator → new ≡ e ++ number_bytes 4 head.creator_revision → new ≡ old ++ header size 0 head
header_appended head size old a b c d e new opening oem_id oem_table oem_revision creator last =
    let at_id = appended old a b _ _ opening oem_id in
    let at_table = appended old b c _ _ at_id oem_table in
    let at_oem = appended old c d _ _ at_table oem_revision in
    let at_creator = appended old d e _ _ at_oem creator in
    appended old e new _ _ at_creator last

-- the numbers of a bridge, in two lists
pub chbs_appended : (c : chbs.Chbs) (old middle next new : List ℕ) → middle ≡ old ++ frame 0 0 32 → next ≡ middle ++ numbers_bytes 4 (c.uid ∷ c.version ∷ 0 ∷ []) → new ≡ next ++ numbers_bytes 8 (c.base ∷ c.length ∷ [])
    → new ≡ old ++ chbs_spelling c
chbs_appended c old middle next new front words longs = rw (longs, words, front) (simp (append_assoc, append-nil))

-- the front of a record of maps, and the maps
pub cxims_appended : (c : CximsFields) (gran : ℕ) (maps old middle next new : List ℕ) → gran ≡ c.gran → maps ≡ c.maps → middle ≡ old ++ frame 2 0 (8 + 8 * length maps) → next ≡ middle ++ (0 ∷ 0 ∷ gran ∷ length maps ∷ [])
    → new ≡ next ++ numbers_bytes 8 maps → new ≡ old ++ cxims_spelling c
unfolding number_bytes
cxims_appended c gran maps old middle next new gran-is maps-are front counts numbers = rw (numbers, counts, front, gran-is, maps-are) (simp append_assoc)
