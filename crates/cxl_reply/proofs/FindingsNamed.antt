-- What an image's regions and breaches name is there.
use Rattle.std.proofs.Common.{◌≡◌, ℕ, ◌<◌, ◌≤◌, ◌==◌, nat_lt, ◌&&◌, not, Bool, true, false, cond, List, [], length, get_or, Option, Some, None, refl, sym, ◌∙◌, arith}
use Rattle.std.specs.List.{slice_get}
use Rattle.std.specs.Option.{option_map_or}
use Rattle.std.proofs.lemmas.Bool.{false≢true}
use Rattle.std.proofs.lemmas.List.Elements.{All-from_get_or}
use Rattle.std.proofs.lemmas.Option.{slice_get_within, slice_get-get_or}
use Rattle.cxl_regs.specs.declared.reading.Range.{Range}
use Rattle.cxl_regs.specs.Registers.{Registers}
use Rattle.cxl_regs.specs.declared.decoder.Decoder.{Decoder}
use Rattle.cxl_span.specs.Breaches.{breaks as block_breaks}
use Rattle.cxl_model.specs.declared.found.Found.{Found}
use Rattle.cxl_model.specs.declared.found.Place.{Place}
use Rattle.cxl_model.specs.System.{System, IsSystem, ram_at, pmem_at}
use Rattle.cxl_model.specs.Accepted.{breaks, breaks_caps, breaks_block, breaks_at}
use Rattle.cxl_model.specs.Counts.{is_endpoint_of}
use Rattle.cxl_model.specs.Rules.{keeps_window, keeps_targets, keeps_reach, keeps_ways}
use Rattle.cxl_model.specs.Regions.{region_range}
use Rattle.cxl_model.proofs.RangeServers.{endpoint_inside}
use Rattle.cxl_reply.specs.Conditions.{IsNode, IsToldFound}

-- a test that holds of an item of a list holds within it
within_list : {A : Type 0} (xs : List A) (n : ℕ) (test : A → Bool) (own : Option A) → own ≡ slice_get xs n → option_map_or test own false ≡ true → n < length xs
within_list xs n test None at holds = absurd (false≢true holds)
within_list xs n test (Some x) at holds = slice_get_within xs n x (sym at)

-- ---- regions

pub found_told : (s : System) (found : Found) → found.gran ≤ 6 → ((slot : ℕ) (place : Place) → slice_get found.spans slot ≡ Some place → is_endpoint_of s (region_range found) place.endpoint ≡ true) → IsToldFound s.nodes found
found_told s found gran endpoints =
    let first : Place = record { endpoint = 0; start = 0 } in
    record {
      gran = gran;
      endpoints = All-from_get_or (λ place. IsNode s.nodes place.endpoint) found.spans first (λ slot within.
          endpoint_inside s (region_range found) (get_or found.spans slot first).endpoint (endpoints slot (get_or found.spans slot first) (slice_get-get_or found.spans slot first within)));
    }

-- ---- breaches

-- of choices one after another, the one that holds
chosen : (a b c d e f u v w x y z : Bool) → cond a u (cond b v (cond c w (cond d x (cond e y (cond f z false))))) ≡ true → (P : Type 0) → (u ≡ true → P) → (v ≡ true → P) → (w ≡ true → P) → (x ≡ true → P) → (y ≡ true → P) → (z ≡ true → P) → P
chosen true b c d e f u v w x y z is P one early nine ten eleven twelve = one is
chosen false true c d e f u v w x y z is P one early nine ten eleven twelve = early is
chosen false false true d e f u v w x y z is P one early nine ten eleven twelve = nine is
chosen false false false true e f u v w x y z is P one early nine ten eleven twelve = ten is
chosen false false false false true f u v w x y z is P one early nine ten eleven twelve = eleven is
chosen false false false false false true u v w x y z is P one early nine ten eleven twelve = twelve is
chosen false false false false false false u v w x y z is P one early nine ten eleven twelve = absurd (false≢true is)

decoder_within : (s : System) (n i : ℕ) (test : Decoder → Bool) (own : Option Registers) → own ≡ slice_get s.blocks n → option_map_or test (slice_get (option_map_or (λ (block : Registers). block.decoders) own []) i) false ≡ true → n < length s.blocks
decoder_within s n i test None at holds = absurd (false≢true holds)
decoder_within s n i test (Some block) at holds = slice_get_within s.blocks n block (sym at)

at_decoder : (s : System) (n i : ℕ) (keeps : Decoder → Bool) → breaks_at s n i keeps ≡ true → n < length s.blocks
at_decoder s n i keeps broken = decoder_within s n i (λ d. d.committed && not (keeps d)) (slice_get s.blocks n) refl broken

block_within : (s : System) (rule n i : ℕ) → breaks s 1 n i ≡ false → breaks s rule n i ≡ true → n < length s.blocks
unfolding breaks
block_within s rule n i kept broken =
    chosen (rule == 1) (nat_lt rule 9) (rule == 9) (rule == 10) (rule == 11) (rule == 12)
    (breaks_caps s n i) (breaks_block s rule n i) (breaks_at s n i (keeps_window s n i)) (breaks_at s n i (keeps_targets s n)) (breaks_at s n i (keeps_reach s n)) (breaks_at s n i (keeps_ways s n i))
    broken (n < length s.blocks)
    (λ first. absurd (false≢true (sym kept ∙ first)))
    (λ of_block. within_list s.blocks n (λ block. block_breaks rule block (ram_at s n) (pmem_at s n) i) (slice_get s.blocks n) refl of_block)
    (at_decoder s n i (keeps_window s n i))
    (at_decoder s n i (keeps_targets s n))
    (at_decoder s n i (keeps_reach s n))
    (at_decoder s n i (keeps_ways s n i))

pub breach_within : (s : System) (rule n i : ℕ) → IsSystem s → breaks s 1 n i ≡ false → breaks s rule n i ≡ true → n < length s.nodes
breach_within s rule n i system kept broken = let within = block_within s rule n i kept broken in omega (arith, within, system.caps.count)
