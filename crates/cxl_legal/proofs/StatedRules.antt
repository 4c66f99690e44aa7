-- With the stated rows of a request that fits committed, the new range is whole, and the image is accepted.
use Rattle.std.proofs.Common.{◌≡◌, ◌≢◌, ℕ, ◌-◌, ◌*◌, ◌%◌, ◌≤◌, Bool, true, false, not, ◌&&◌, ◌||◌, if◌then◌else◌, get_or, Option, Some, refl, sym, ap, ◌∙◌, subst, inl, inr, eq-eqb, arith}
use Rattle.std.specs.Prelude.{◌==◌}
use Rattle.std.specs.Option.{option_map_or}
use Rattle.std.proofs.lemmas.Bool.{cases_Bool, cases_eq, and_from, or_left, or_right, ne_eqb, le-ltb, not_from_false}
use Rattle.cxl_enc.specs.declared.caps.MemKind.{MemKind}
use Rattle.cxl_enc.specs.Limits.{unit}
use Rattle.cxl_topo.specs.Tree.{is_endpoint_at}
use Rattle.cxl_regs.specs.declared.decoder.Decoder.{Decoder}
use Rattle.cxl_regs.specs.declared.reading.Range.{Range}
use Rattle.cxl_regs.specs.Reading.{committed_count}
use Rattle.cxl_window.specs.Fields.{WindowFields}
use Rattle.cxl_model.specs.declared.request.Request.{Request}
use Rattle.cxl_model.specs.System.{System, decoders_at, decoder_at}
use Rattle.cxl_model.specs.Ranges.{IsCommittedRange, span_kind}
use Rattle.cxl_model.specs.Rules.{starts_in_thirds, permits, keeps_window, keeps_targets, keeps_reach, keeps_ways}
use Rattle.cxl_model.specs.Changes.{HaveSameDecoders}
use Rattle.cxl_model.specs.Accepted.{breaks, breaks_at, IsAccepted, IsWhole}
use Rattle.cxl_model.specs.Plans.{committed_row}
use Rattle.cxl_model.proofs.RangeRules.{rule_nine, rule_ten, rule_eleven}
use Rattle.cxl_model.proofs.SpansKinds.{rule_twelve}
use Rattle.cxl_model.proofs.ImageLaws.{AcceptedLaw}
use Rattle.cxl_model.proofs.Staying.{WholeStays}
use Rattle.cxl_legal.specs.Stated.{has_row, stated_row, planned_range}
use Rattle.cxl_legal.proofs.StatedImages.{stated_image, Stated}
use Rattle.cxl_legal.proofs.StatedLands.{stated_at, row_parts, serves_row, targets_kept, reach_kept}
use Rattle.cxl_legal.proofs.StatedWays.{some_requested, is_requested, ways_kept}

-- ---- K9

in_thirds : {s : System} {request : Request} {w : WindowFields} {base : ℕ} → Stated s request w base → starts_in_thirds w (planned_range request base) ≡ true
in_thirds {s} {request} {w} {base} c =
    elim (cases_Bool (w.ways % 3 == 0)) [
      | inl thirds ↦
          or_right (not (w.ways % 3 == 0)) ((base - w.base) % (3 * unit) == 0)
          (eq-eqb ((base - w.base) % (3 * unit)) 0 (sym (ap (λ b. (base - w.base) % (if b then 3 * unit else unit)) thirds) ∙ c.fits.starts.can.step))
      | inr whole ↦ or_left (not (w.ways % 3 == 0)) ((base - w.base) % (3 * unit) == 0) (not_from_false (w.ways % 3 == 0) whole)
    ]

window_kept : {s : System} {request : Request} {w : WindowFields} {base : ℕ} → Stated s request w base → (n : ℕ) → has_row s request n ≡ true
    → keeps_window (stated_image s request w base) n (committed_count (decoders_at s n)) (committed_row (stated_row s request w base n)) ≡ true
window_kept {s} {request} {w} {base} c n row =
    ap (λ (o : Option WindowFields). option_map_or (λ v. starts_in_thirds v (planned_range request base) && (not (is_endpoint_at s.nodes n) || permits v (span_kind (stated_image s request w base) n (committed_count (decoders_at s n))))) o false) c.window
    ∙ and_from (starts_in_thirds w (planned_range request base)) (not (is_endpoint_at s.nodes n) || permits w (span_kind (stated_image s request w base) n (committed_count (decoders_at s n)))) (in_thirds c)
    (elim (cases_Bool (is_endpoint_at s.nodes n)) [
      | inl endpoint ↦
          or_right (not (is_endpoint_at s.nodes n)) (permits w (span_kind (stated_image s request w base) n (committed_count (decoders_at s n))))
          (ap (λ (kind : MemKind). permits w kind) (c.kinds n endpoint (row_parts s request n row).0) ∙ c.fits.window.kind)
      | inr port ↦
          or_left (not (is_endpoint_at s.nodes n)) (permits w (span_kind (stated_image s request w base) n (committed_count (decoders_at s n)))) (not_from_false (is_endpoint_at s.nodes n) port)
    ])

-- ---- K9 to K12 together

no_later : (s : System) (rule n i : ℕ) → 9 ≤ rule → rule ≢ 9 → rule ≢ 10 → rule ≢ 11 → rule ≢ 12 → breaks s rule n i ≡ false
unfolding breaks
no_later s rule n i past nine ten eleven twelve =
    rw (ne_eqb rule 1 (λ e. omega (arith, e, past)), le-ltb rule 9 past, ne_eqb rule 9 nine, ne_eqb rule 10 ten, ne_eqb rule 11 eleven, ne_eqb rule 12 twelve) refl

-- a decoder that keeps a rule does not break it
unbroken : (s : System) (n i : ℕ) (d : Decoder) (keeps : Decoder → Bool) → decoder_at s n i ≡ Some d → keeps d ≡ true → breaks_at s n i keeps ≡ false
unbroken s n i d keeps there kept =
    ap (λ (o : Option Decoder). option_map_or (λ e. e.committed && not (keeps e)) o false) there ∙ ap (λ b. d.committed && not b) kept ∙ never d.committed
  where
    never : (b : Bool) → (b && false) ≡ false
    never true = refl
    never false = refl

-- the new range breaks none of them
range_kept : {s : System} {request : Request} {w : WindowFields} {base : ℕ} → Stated s request w base → (rule n : ℕ) → 9 ≤ rule
    → decoder_at (stated_image s request w base) n (committed_count (decoders_at s n)) ≡ Some (committed_row (stated_row s request w base n)) → has_row s request n ≡ true
    → breaks (stated_image s request w base) rule n (committed_count (decoders_at s n)) ≡ false
range_kept {s} {request} {w} {base} c rule n past there row =
    elim (cases_eq rule 9) [
      | inl e ↦ ap (λ (k : ℕ). breaks t k n i) e ∙ rule_nine t n i ∙ unbroken t n i d (keeps_window t n i) there (window_kept c n row)
      | inr nine ↦ elim (cases_eq rule 10) [
        | inl e ↦ ap (λ (k : ℕ). breaks t k n i) e ∙ rule_ten t n i ∙ unbroken t n i d (keeps_targets t n) there (targets_kept c n row)
        | inr ten ↦ elim (cases_eq rule 11) [
          | inl e ↦ ap (λ (k : ℕ). breaks t k n i) e ∙ rule_eleven t n i ∙ unbroken t n i d (keeps_reach t n) there (reach_kept c n row)
          | inr eleven ↦ elim (cases_eq rule 12) [
            | inl e ↦ ap (λ (k : ℕ). breaks t k n i) e ∙ rule_twelve t n i ∙ unbroken t n i d (keeps_ways t n i) there (ways_kept c n row)
            | inr twelve ↦ no_later t rule n i past nine ten eleven twelve
          ]
        ]
      ]
    ]
  where
    t : System
    t = stated_image s request w base

    i : ℕ
    i = committed_count (decoders_at s n)

    d : Decoder
    d = committed_row (stated_row s request w base n)

pub whole : {s : System} {request : Request} {w : WindowFields} {base : ℕ} → Stated s request w base → IsWhole (stated_image s request w base) (planned_range request base)
whole {s} {request} {w} {base} c = record {
  blocks = c.blocks;
  range = λ rule n i d past there has.
      let at = stated_at c n i d there has in
      ap (λ (k : ℕ). breaks (stated_image s request w base) rule n k) at.index
      ∙ range_kept c rule n past (sym (ap (decoder_at (stated_image s request w base) n) at.index) ∙ there ∙ ap Some at.decoder) at.row;
}

pub committed : {s : System} {request : Request} {w : WindowFields} {base : ℕ} → Stated s request w base → IsCommittedRange (stated_image s request w base) (planned_range request base)
committed {s} {request} c =
    let m : ℕ = get_or request.endpoints 0 0 in
    (m, serves_row c m ∙ (is_requested c m (some_requested c)).row)

-- ---- the other ranges

abbrev pub OthersLaw : System → Request → WindowFields → ℕ → Type 0
OthersLaw s request w base = (r : Range) → r ≢ planned_range request base → HaveSameDecoders s (stated_image s request w base) r

other_whole : {s : System} {request : Request} {w : WindowFields} {base : ℕ} → Stated s request w base → WholeStays → OthersLaw s request w base → (r : Range) → r ≢ planned_range request base → IsWhole (stated_image s request w base) r
other_whole {s} {request} {w} {base} c stay others r other =
    stay s (stated_image s request w base) r (others r other) c.blocks (record { blocks = λ rule n i low. c.fits.accepted.each rule n i; range = λ rule n i d past there has. c.fits.accepted.each rule n i })

pub accepted : {s : System} {request : Request} {w : WindowFields} {base : ℕ} → Stated s request w base → AcceptedLaw → WholeStays → OthersLaw s request w base → IsAccepted (stated_image s request w base)
accepted {s} {request} {w} {base} c law stay others =
    (law (stated_image s request w base)).1 (
      c.blocks,
      λ r is.
          elim (cases_eq r.base base) [
            | inl from ↦ elim (cases_eq r.size request.size) [
              | inl long ↦
                  let same : r ≡ planned_range request base = λ k. record { base = from k; size = long k } in
                  subst (IsWhole (stated_image s request w base)) (sym same) (whole c)
              | inr longer ↦ other_whole c stay others r (λ e. longer (ap (λ (x : Range). x.size) e))
            ]
            | inr apart ↦ other_whole c stay others r (λ e. apart (ap (λ (x : Range). x.base) e))
          ],
    )
