-- Stores and copies leave a machine that a session can stand for.
use Rattle.std.proofs.Common.{◌≡◌, ℕ, zero, suc, ◌+◌, ◌-◌, ◌*◌, ◌/◌, ◌^◌, ◌<◌, ◌≤◌, Bool, true, false, cond, List, length, get_or, Option, Some, None, inl, inr, refl, sym, ap, ◌∙◌, subst, arith}
use Rattle.std.specs.Prelude.{Contains, slice_get, slice_index, nat_le, nat_lt, find, fold, unwrap_or, replicate, if◌then◌else◌, ◌&&◌, ◌%◌}
use Rattle.std.specs.List.{position_or_len, range_with_len}
use Rattle.std.specs.Ordering.{nat_cmp, eq_by_cmp}
use Rattle.std.specs.Cmp.{nat_cmp_total, Equal-is}
use Rattle.std.specs.FinMap as fin
use Rattle.std.specs.FinMap.{get-insert, get-empty, nat_cmp-IsAntisymmetric}
use Rattle.std.specs.Str.{bytes_eq}
use Rattle.std.proofs.Math.Nat.{mul_assoc, mul_comm, mul-div_cancel, div-lt_iff_lt-mul}
use Rattle.std.proofs.lemmas.Bool.{and_parts, leb-true, ltb-true, cases_lt}
use Rattle.std.proofs.lemmas.List.{get_or_past, get_or-replicate, length-replicate}
use Rattle.std.proofs.lemmas.List.Elements.{All-get_or, All-map, Contains-append_left}
use Rattle.std.proofs.lemmas.List.Folds.{find_at}
use Rattle.std.proofs.lemmas.List.Sums.{passes_at_first}
use Rattle.std.proofs.lemmas.List.FromFn.{length-map-range_with_len}
use Rattle.std.proofs.lemmas.Option.{same_Some, none-some, slice_get_within, get_or_from_slice_get}
use Rattle.cxl_enc.proofs.Lists.{contains_at}
use Rattle.cxl_num.specs.Interleave.{chunk_size}
use Rattle.cxl_deal.specs.Weaves.{turns_end, weave_ways}
use Rattle.cxl_window.specs.Fields.{WindowFields}
use Rattle.cxl_model.specs.declared.found.Found.{Found}
use Rattle.cxl_model.specs.System.{System, IsSystem}
use Rattle.cxl_model.specs.Bytes.{slot_length}
use Rattle.cxl_model.specs.Contents.{Contents, AreContents, content_at}
use Rattle.cxl_model.specs.Regions.{IsRegionIn, weave_fields}
use Rattle.cxl_move.specs.Bytes.{AreBytes, written, piece_after, byte_after}
use Rattle.cxl_machine.specs.Machine.{Live, Machine, has_host, live_at, region_window, kept_regions, under_release, with_contents}
use Rattle.cxl_machine.specs.Sound.{IsMachine}
use Rattle.cxl_machine.proofs.KeepingLists.{one_named}
use Rattle.cxl_machine.proofs.KeepingBytes.{IsUncounted, uncounted, stays_uncounted, same_bytes}
use Rattle.cxl_machine.proofs.LiveRegions.{live_is_region}

-- the turns of a region's ways fill it
abbrev pub TurnsLaw : Type 0
TurnsLaw =
    (s : System) (w : WindowFields) (found : Found) → IsSystem s → IsRegionIn s w found
    → turns_end (weave_fields found w) (slot_length found / chunk_size found.gran) ≡ found.base + found.size

-- ---- bytes

small_at : (xs : List ℕ) → AreBytes xs → (i : ℕ) → slice_index xs i < 256
small_at xs small i =
    elim (cases_lt i (length xs)) [
      | inl below ↦ All-get_or (λ (byte : ℕ). byte < 256) xs i 0 below small
      | inr past ↦ subst (λ (byte : ℕ). byte < 256) (sym (get_or_past xs i 0 past)) (omega arith)
    ]

small_zeros : AreBytes (replicate 256 0)
small_zeros = λ i d below. subst (λ (byte : ℕ). byte < 256) (sym (get_or-replicate 256 i 0 d (subst (λ (n : ℕ). i < n) (length-replicate {A = ℕ} 256 0) below))) (omega arith)

small_content : (found : Found) (contents : Contents) → AreContents found contents → (i : ℕ) → content_at contents i < 256
small_content found contents are i = by_piece (fin.get contents (i / 256)) refl
  where
    by_piece : (o : Option (List ℕ)) → fin.get contents (i / 256) ≡ o → slice_index (unwrap_or o (replicate 256 0)) (i % 256) < 256
    by_piece None there = small_at (replicate 256 0) small_zeros (i % 256)
    by_piece (Some bytes) there = small_at bytes (are.bytes (i / 256) bytes there) (i % 256)

one_small : (b : Bool) (x y : ℕ) → x < 256 → y < 256 → (if b then x else y) < 256
one_small true x y first second = first
one_small false x y first second = second

small_piece : (found : Found) (contents : Contents) (offset : ℕ) (bytes : List ℕ) → AreContents found contents → AreBytes bytes → (n : ℕ) → AreBytes (piece_after contents offset bytes n)
small_piece found contents offset bytes are small n =
    All-map (λ (byte : ℕ). byte < 256) (byte_after contents offset bytes) (range_with_len (256 * n) 256)
    (λ k d below.
    let i : ℕ = get_or (range_with_len (256 * n) 256) k d in
    one_small (nat_le offset i && nat_lt i (offset + length bytes)) (slice_index bytes (i - offset)) (content_at contents i) (small_at bytes small (i - offset)) (small_content found contents are i))

-- ---- pieces

piece_kept : (found : Found) (contents : Contents) (n : ℕ) (piece : List ℕ) → AreContents found contents → n < found.size / 256 → length piece ≡ 256
    → AreBytes piece → AreContents found (fin.insert contents n piece)
piece_kept found contents n piece are below long small = record { inside = inside; whole = whole; bytes = bytes }
  where
    told : (k : ℕ) (bytes : List ℕ) → fin.get (fin.insert contents n piece) k ≡ Some bytes → cond (eq_by_cmp nat_cmp k n) (Some piece) (fin.get contents k) ≡ Some bytes
    told k bytes there = sym (get-insert {X = List ℕ} nat_cmp_total contents n piece k) ∙ there

    same_key : (k : ℕ) → eq_by_cmp nat_cmp k n ≡ true → k ≡ n
    same_key k is = nat_cmp-IsAntisymmetric k n ((Equal-is (nat_cmp k n)).0 is)

    inside_by : (b : Bool) (k : ℕ) (bytes : List ℕ) → (b ≡ true → k ≡ n) → cond b (Some piece) (fin.get contents k) ≡ Some bytes → k < found.size / 256
    inside_by true k bytes same there = subst (λ (i : ℕ). i < found.size / 256) (sym (same refl)) below
    inside_by false k bytes same there = are.inside k bytes there

    whole_by : (b : Bool) (k : ℕ) (bytes : List ℕ) → cond b (Some piece) (fin.get contents k) ≡ Some bytes → length bytes ≡ 256
    whole_by true k bytes there = sym (ap length (same_Some piece bytes there)) ∙ long
    whole_by false k bytes there = are.whole k bytes there

    bytes_by : (b : Bool) (k : ℕ) (bytes : List ℕ) → cond b (Some piece) (fin.get contents k) ≡ Some bytes → AreBytes bytes
    bytes_by true k bytes there = subst AreBytes (same_Some piece bytes there) small
    bytes_by false k bytes there = are.bytes k bytes there

    inside : (k : ℕ) (bytes : List ℕ) → fin.get (fin.insert contents n piece) k ≡ Some bytes → k < found.size / 256
    inside k bytes there = inside_by (eq_by_cmp nat_cmp k n) k bytes (same_key k) (told k bytes there)

    whole : (k : ℕ) (bytes : List ℕ) → fin.get (fin.insert contents n piece) k ≡ Some bytes → length bytes ≡ 256
    whole k bytes there = whole_by (eq_by_cmp nat_cmp k n) k bytes (told k bytes there)

    bytes : (k : ℕ) (held : List ℕ) → fin.get (fin.insert contents n piece) k ≡ Some held → AreBytes held
    bytes k held there = bytes_by (eq_by_cmp nat_cmp k n) k held (told k held there)

pieces_kept : (found : Found) (f : ℕ → List ℕ) → ((n : ℕ) → length (f n) ≡ 256) → ((n : ℕ) → AreBytes (f n)) → (from n : ℕ) (contents : Contents) → AreContents found contents
    → ((i : ℕ) → from ≤ i → i < from + n → i < found.size / 256) → AreContents found (fold (λ after i. fin.insert after i (f i)) contents (range_with_len from n))
pieces_kept found f long small from zero contents are below = are
pieces_kept found f long small from (suc n) contents are below =
    pieces_kept found f long small (from + 1) n (fin.insert contents from (f from))
    (piece_kept found contents from (f from) are (below from (omega arith) (omega arith)) (long from) (small from))
    (λ i above within. below i (omega arith) (omega arith))

-- ---- sizes

by_pieces : (a g : ℕ) → a * (256 * g) ≡ a * g * 256
by_pieces a g = ap (λ (n : ℕ). a * n) (mul_comm 256 g) ∙ sym (mul_assoc a g 256)

in_touched : (first last q i : ℕ) → first ≤ i → i < first + (last + 1 - first) → last < q → i < q
in_touched first last q i above below end = omega arith

written_kept : (laws : TurnsLaw) (s : System) (w : WindowFields) (found : Found) → IsSystem s → IsRegionIn s w found → (contents : Contents) (offset : ℕ) (bytes : List ℕ)
    → AreContents found contents → AreBytes bytes → 0 < found.size → offset + length bytes ≤ found.size → AreContents found (written contents offset bytes)
written_kept laws s w found system region contents offset bytes are small some fits =
    let turns : found.base + slot_length found / chunk_size found.gran * weave_ways (weave_fields found w) * (256 * 2 ^ found.gran) ≡ found.base + found.size = laws s w found system region in
    let n : ℕ = slot_length found / chunk_size found.gran * weave_ways (weave_fields found w) in
    let q : ℕ = n * 2 ^ found.gran in
    let size : found.size ≡ q * 256 = omega (arith, turns, by_pieces n (2 ^ found.gran)) in
    let count : found.size / 256 ≡ q = ap (λ (k : ℕ). k / 256) size ∙ mul-div_cancel q (omega arith) in
    let last : (offset + length bytes - 1) / 256 < q = (div-lt_iff_lt-mul {k = 256} {x = offset + length bytes - 1} {y = q} (omega arith)).1 (omega (arith, size, fits, some)) in
    pieces_kept found (piece_after contents offset bytes) (λ i. length-map-range_with_len (byte_after contents offset bytes) (256 * i) 256) (small_piece found contents offset bytes are small) (offset / 256)
    ((offset + length bytes - 1) / 256 + 1 - offset / 256) contents are
    (λ i above below. subst (λ (k : ℕ). i < k) (sym count) (in_touched (offset / 256) ((offset + length bytes - 1) / 256) q i above below last))

-- ---- regions

pub live_there : (m : Machine) (p : Live → Bool) (region : Live) → find p m.live ≡ Some region → Contains m.live region × (p region ≡ true)
live_there m p region is =
    let i : ℕ = position_or_len p m.live in
    let at : slice_get m.live i ≡ Some region = sym (find_at p m.live) ∙ is in
    let read : get_or m.live i region ≡ region = get_or_from_slice_get m.live i region region at in
    (contains_at m.live i region at, sym (ap p read) ∙ passes_at_first p m.live region (slice_get_within m.live i region at))

-- a live region is kept
pub kept_there : (m : Machine) (region : Live) → Contains m.live region → Contains (kept_regions m) region
kept_there m region there = Contains-append_left m.live (under_release m.job) region there

module _ (laws : TurnsLaw) (m : Machine) (is : IsMachine m) where
  -- a live region that has the name of one is that one
  alike : (region other : Live) → Contains m.live region → Contains m.live other → bytes_eq other.name region.name ≡ true → other ≡ region
  alike region other there here same =
      one_named (kept_regions m) is.regions.names other region (kept_there m other here) (kept_there m region there) (same_bytes other.name region.name same)

  own_contents : (region : Live) → Contains m.live region → AreContents region.found region.contents
  own_contents region there =
      let (k, below, read) = kept_there m region there in
      subst (λ (r : Live). AreContents r.found r.contents) read (is.regions.contents k region below)

  pub store_keeps : (h : ℕ) (bytes : List ℕ) → AreBytes bytes → (region : Live) → live_at m h ≡ Some region → h + length bytes ≤ region.found.base + region.found.size
      → IsUncounted (with_contents region.name (written region.contents (h - region.found.base) bytes) m)
  store_keeps h bytes small region at fits =
      let (there, holds) = live_there m (λ (r : Live). has_host r.found h) region at in
      let bounds = and_parts (nat_le region.found.base h) (nat_lt h (region.found.base + region.found.size)) holds in
      let from : region.found.base ≤ h = leb-true region.found.base h bounds.0 in
      let below : h < region.found.base + region.found.size = ltb-true h (region.found.base + region.found.size) bounds.1 in
      let after : AreContents region.found (written region.contents (h - region.found.base) bytes) =
      written_kept laws m.settled (region_window m.settled region.found) region.found is.settled.system (live_is_region m is region there) region.contents (h - region.found.base) bytes
      (own_contents region there) small (omega (arith, from, below)) (omega (arith, from, fits)) in
      stays_uncounted m (uncounted m is) region.name (written region.contents (h - region.found.base) bytes)
      (λ other here same. subst (λ (r : Live). AreContents r.found (written region.contents (h - region.found.base) bytes)) (sym (alike region other there here same)) after)

  -- contents of a region are contents of another of the same size
  of_same_size : (found other : Found) (contents : Contents) → found.size ≡ other.size → AreContents found contents → AreContents other contents
  of_same_size found other contents same are =
      record { inside = λ n bytes there. subst (λ (k : ℕ). n < k / 256) same (are.inside n bytes there); whole = are.whole; bytes = are.bytes }

  pub copy_keeps : (from to : Live) → Contains m.live from → Contains m.live to → from.found.size ≡ to.found.size → IsUncounted (with_contents to.name from.contents m)
  copy_keeps from to there here size =
      stays_uncounted m (uncounted m is) to.name from.contents
      (λ other inside same.
      subst (λ (r : Live). AreContents r.found from.contents) (sym (alike to other here inside same))
      (of_same_size from.found to.found from.contents size (own_contents from there)))

pub no_contents : (found : Found) → AreContents found fin.empty
no_contents found = record {
  inside = λ n bytes there. absurd (none-some bytes (sym (get-empty {X = List ℕ} nat_cmp n) ∙ there));
  whole = λ n bytes there. absurd (none-some bytes (sym (get-empty {X = List ℕ} nat_cmp n) ∙ there));
  bytes = λ n bytes there. absurd (none-some bytes (sym (get-empty {X = List ℕ} nat_cmp n) ∙ there));
}

pub clear_keeps : (m : Machine) → IsUncounted m → (name : List ℕ) → IsUncounted (with_contents name fin.empty m)
clear_keeps m is name = stays_uncounted m is name fin.empty (λ other here same. no_contents other.found)
