use Rattle.std.proofs.Common.{◌≡◌, ℕ, ◌<◌, ◌^◌, sym, ap, subst, ◌∙◌}
use Rattle.std.specs.Prelude.{bit_xor}
use Rattle.cxl_enc.specs.Codes.{bits_of}
use Rattle.cxl_num.specs.Maps.{parities, with_raw_bits}
use Rattle.cxl_window.specs.Position.{parities_of}
use Rattle.cxl_window.proofs.RawBits.{on_true, raw_few, raw_gives, raw_only}
use Rattle.cxl_window.proofs.position.unxor.Goals as goal

pub returns-clause-few : goal.returns-clause-few
returns-clause-few c =
    let w = c.args.window.now in
    let k : ℕ = bits_of w.ways in
    let others : c.parities.result ≡ parities k w.maps (with_raw_bits w.gran k c.args.h 0) = cc in
    subst (λ (p : ℕ). bit_xor c.args.low p < 2 ^ k) (sym others) (raw_few c.parities_tell_raw_bits.ensures w.gran k c.args.h c.args.low w.maps c.requires.low)

pub returns-clause-parities : goal.returns-clause-parities
returns-clause-parities c =
    let w = c.args.window.now in
    let k : ℕ = bits_of w.ways in
    let others : c.parities.result ≡ parities k w.maps (with_raw_bits w.gran k c.args.h 0) = cc in
    on_true w.xor _ (λ xor.
    subst (λ (p : ℕ). parities_of w (with_raw_bits w.gran k c.args.h (bit_xor c.args.low p)) ≡ c.args.low) (sym others)
    (raw_gives c.parities_tell_raw_bits.ensures w.gran k c.args.h c.args.low w.maps (c.maps.ensures.usable c.requires.usable xor) c.requires.low))

pub returns-clause-only : goal.returns-clause-only
returns-clause-only c =
    let w = c.args.window.now in
    let k : ℕ = bits_of w.ways in
    let others : c.parities.result ≡ parities k w.maps (with_raw_bits w.gran k c.args.h 0) = cc in
    on_true w.xor _ (λ xor. λ raw few gives.
    raw_only c.parities_tell_raw_bits.ensures w.gran k c.args.h c.args.low w.maps (c.maps.ensures.usable c.requires.usable xor) raw few gives ∙ ap (bit_xor c.args.low) (sym others))
