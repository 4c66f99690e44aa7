-- The base of a legal plan is one at which its region can start.
use Rattle.std.proofs.Common.{◌≡◌, ◌≢◌, ℕ, ◌+◌, ◌-◌, ◌*◌, ◌%◌, ◌≤◌, true, false, cond, if◌then◌else◌, List, [], ◌∷◌, get_or, Option, Some, refl, sym, ap, ◌∙◌, subst, inl, inr, arith}
use Rattle.std.specs.Prelude.{slice_get, ◌==◌}
use Rattle.std.specs.Option.{option_map_or}
use Rattle.std.proofs.lemmas.Bool.{cases_Bool, cases_eq, eqb-true, eq-eqb, ne_eqb, cond-true, cond-false}
use Rattle.std.proofs.lemmas.Option.{slice_get-get_or}
use Rattle.cxl_enc.specs.Limits.{unit}
use Rattle.cxl_enc.proofs.Tests.{asked_or}
use Rattle.cxl_topo.specs.Tree.{forwards_at}
use Rattle.cxl_regs.specs.declared.decoder.Decoder.{Decoder}
use Rattle.cxl_regs.specs.Registers.{reset_decoder}
use Rattle.cxl_regs.specs.Reading.{committed_count}
use Rattle.cxl_window.specs.Fields.{WindowFields}
use Rattle.cxl_regs.proofs.DecoderRanges.{has_parts}
use Rattle.cxl_model.specs.declared.plan.Plan.{Plan}
use Rattle.cxl_model.specs.declared.request.Request.{Request}
use Rattle.cxl_model.specs.System.{System, decoders_at, decoder_at}
use Rattle.cxl_model.specs.Accepted.{IsAccepted}
use Rattle.cxl_model.specs.Regions.{region_range}
use Rattle.cxl_model.specs.Plans.{committed_row, with_rows}
use Rattle.cxl_model.proofs.RangeRules.{rise_at}
use Rattle.cxl_model.proofs.RangeWindows.{HasWindow, has_window}
use Rattle.cxl_legal.specs.Used.{is_used}
use Rattle.cxl_legal.specs.Bases.{last_end, base_step, FitsBase}
use Rattle.cxl_legal.proofs.FittingBlocks.{Kept, kept_of}
use Rattle.cxl_legal.proofs.FittingUsed.{Planned}
use Rattle.cxl_legal.proofs.FittingRoom.{own_row, row_first, first_is_count, forwarding_free}
use Rattle.cxl_legal.proofs.FittingEndpoints.{Legal, Requested, planned, first_requested}
use Rattle.cxl_legal.proofs.FittingWindows.{Lies, lies_there}

-- ---- past all that is committed

abbrev end_of : Option Decoder → ℕ
end_of o = option_map_or (λ d. d.base + d.size) o 0

-- a node that forwards has no committed decoder
no_end : (s : System) (n : ℕ) → IsAccepted s → forwards_at s.nodes n ≡ true → last_end s n ≡ 0
no_end s n accepted forwards = cond-true (committed_count (decoders_at s n) == 0) 0 (end_of (decoder_at s n (committed_count (decoders_at s n) - 1))) (eq-eqb (committed_count (decoders_at s n)) 0 (none_counted (decoders_at s n) (λ d at. forwarding_free s n 0 d accepted forwards at)))
  where
    none_counted : (ds : List Decoder) → ((d : Decoder) → slice_get ds 0 ≡ Some d → d.committed ≡ false) → committed_count ds ≡ 0
    none_counted [] free = refl
    none_counted (d ∷ ds) free = ap (λ b. cond b (1 + committed_count ds) 0) (free d refl)

-- the last committed decoder of a used node ends at or below the base
own_end : {s : System} {request : Request} {w : WindowFields} {plan : Plan} → Legal s request w plan → (n : ℕ) → is_used s request n ≡ true → forwards_at s.nodes n ≡ false → last_end s n ≤ plan.found.base
own_end {s} {request} {w} {plan} legal n used own =
    elim (cases_eq (committed_count (decoders_at s n)) 0) [
      | inl none ↦
          subst (λ (k : ℕ). k ≤ plan.found.base)
          (sym (cond-true (committed_count (decoders_at s n) == 0) 0 (end_of (decoder_at s n (committed_count (decoders_at s n) - 1))) (eq-eqb (committed_count (decoders_at s n)) 0 none)))
          (omega arith)
      | inr some ↦
          subst (λ (k : ℕ). k ≤ plan.found.base)
          (sym (cond-false (committed_count (decoders_at s n) == 0) 0 (end_of (decoder_at s n (committed_count (decoders_at s n) - 1))) (ne_eqb (committed_count (decoders_at s n)) 0 some)))
          (below some)
    ]
  where
    fits : Planned s request w (region_range plan.found) plan.rows
    fits = planned legal

    below : committed_count (decoders_at s n) ≢ 0 → option_map_or (λ d. d.base + d.size) (decoder_at s n (committed_count (decoders_at s n) - 1)) 0 ≤ plan.found.base
    below some =
        let row = own_row fits n used own in
        let i : ℕ = row.row.index in
        let k : ℕ = committed_count (decoders_at s n) - 1 in
        let index : row.row.index ≡ committed_count (decoders_at s n) = first_is_count (decoders_at s n) row.row.index (row_first row) in
        let within = row.within in
        let e : Decoder = get_or (decoders_at s n) (committed_count (decoders_at s n) - 1) reset_decoder in
        let there : decoder_at s n (committed_count (decoders_at s n) - 1) ≡ Some e = slice_get-get_or (decoders_at s n) (committed_count (decoders_at s n) - 1) reset_decoder (omega (arith, index, within, some)) in
        let also : decoder_at (with_rows s plan.rows) n (committed_count (decoders_at s n) - 1) ≡ Some e = row.others (committed_count (decoders_at s n) - 1) (λ same. some (omega (arith, index, same))) ∙ there in
        let rises : e.base + e.size ≤ row.row.decoder.base =
        rise_at fits.rise (with_rows s plan.rows) fits.whole.blocks n (committed_count (decoders_at s n) - 1) row.row.index e (committed_row row.row) also row.at (omega (arith, index, some)) refl in
        let base : row.row.decoder.base ≡ plan.found.base = (has_parts (region_range plan.found) (committed_row row.row) row.has).base in
        subst (λ (o : Option Decoder). option_map_or (λ d. d.base + d.size) o 0 ≤ plan.found.base) (sym there) (omega (arith, rises, base))

ends_below : {s : System} {request : Request} {w : WindowFields} {plan : Plan} → Legal s request w plan → (n : ℕ) → is_used s request n ≡ true → last_end s n ≤ plan.found.base
ends_below {s} {request} {w} {plan} legal n used =
    elim (cases_Bool (forwards_at s.nodes n)) [
      | inl forwards ↦ subst (λ (k : ℕ). k ≤ plan.found.base) (sym (no_end s n legal.accepted forwards)) (omega arith)
      | inr own ↦ own_end legal n used own
    ]

-- ---- its step

aligned : (a b : ℕ) → b ≤ a → a % unit ≡ 0 → b % unit ≡ 0 → (a - b) % unit ≡ 0
aligned a b less one other = omega (arith, less, one, other)

steps : {s : System} {request : Request} {w : WindowFields} {plan : Plan} → Legal s request w plan → (plan.found.base - w.base) % base_step w ≡ 0
steps {s} {request} {w} {plan} legal =
    elim (cases_Bool (w.ways % 3 == 0)) [
      | inl thirds ↦
          ap (λ b. (plan.found.base - w.base) % (if b then 3 * unit else unit)) thirds
          ∙ eqb-true ((plan.found.base - w.base) % (3 * unit)) 0 (asked_or (w.ways % 3 == 0) ((plan.found.base - w.base) % (3 * unit) == 0) lies.thirds thirds)
      | inr whole ↦
          ap (λ b. (plan.found.base - w.base) % (if b then 3 * unit else unit)) whole
          ∙ aligned plan.found.base w.base window.from (ap (λ (k : ℕ). k % unit) (sym first.has.base) ∙ kept.base) window.usable.aligned
    ]
  where
    fits : Planned s request w (region_range plan.found) plan.rows
    fits = planned legal

    first : Requested s request w plan (get_or request.endpoints 0 0)
    first = first_requested legal

    kept : Kept (with_rows s plan.rows) (get_or request.endpoints 0 0) first.at.d
    kept = kept_of (with_rows s plan.rows) (get_or request.endpoints 0 0) first.at.i first.at.d fits.system fits.whole.blocks first.at.there first.has.committed

    window : HasWindow (with_rows s plan.rows) (region_range plan.found) w
    window = has_window (with_rows s plan.rows) (region_range plan.found) w fits.system fits.window

    lies : Lies (with_rows s plan.rows) w (region_range plan.found) (get_or request.endpoints 0 0) first.at.i
    lies = lies_there (with_rows s plan.rows) w (region_range plan.found) (get_or request.endpoints 0 0) first.at.i first.at.d fits.whole fits.window first.at.there first.at.has

-- ---- all of it

pub fits_base : {s : System} {request : Request} {w : WindowFields} {plan : Plan} → Legal s request w plan → FitsBase s request w plan.found.base
fits_base {s} {request} {w} {plan} legal =
    let fits = planned legal in
    let window = has_window (with_rows s plan.rows) (region_range plan.found) w fits.system fits.window in
    let to : plan.found.base + plan.found.size ≤ w.base + w.size = window.to in
    let size = legal.is.size in
    record {
      can = record { from = window.from; after = ends_below legal; step = steps legal };
      inside = omega (arith, to, size);
    }
