use Rattle.std.proofs.Common.{◌≡◌, ℕ, ◌*◌, subst, arith}
use Rattle.std.specs.Prelude.{IfSome, IfNone}
use Rattle.cxl_model.specs.Bytes.{LiesInSpan}
use Rattle.cxl_move.specs.Slots.{IsByteOfSlot}
use Rattle.cxl_move.proofs.pieces.block_byte.Goals as goal

pub returns-in_err-dpa-clause-none : goal.returns-in_err-dpa-clause-none
returns-in_err-dpa-clause-none c =
    let r = c.requires in
    let large = c.in_err-dpa.ensures in
    rw c.from_residual.ensures (λ lies.
    let low = c.slots_are_endpoints.ensures.low r.0 r.2.0 c.args.found.now lies.slot lies.place r.1 r.2.1 lies.there in
    let below = lies.below in
    omega (arith, low, below, large))

pub returns-clause-some : goal.returns-clause-some
returns-clause-some c =
    let product = c.in_ok-dpa.ensures in
    let same : c.in_ok-dpa.dpa ≡ 256 * c.args.at.block = omega (arith, product) in
    subst (λ (dpa : ℕ). IfSome c.span_byte.result (λ byte. IsByteOfSlot c.args.found.now c.args.at.ep dpa byte.slot byte.offset)) same c.span_byte.ensures.some

pub returns-clause-none : goal.returns-clause-none
returns-clause-none c =
    let product = c.in_ok-dpa.ensures in
    let same : c.in_ok-dpa.dpa ≡ 256 * c.args.at.block = omega (arith, product) in
    subst (λ (dpa : ℕ). IfNone c.span_byte.result (LiesInSpan c.args.found.now c.args.at.ep dpa → ⊥)) same c.span_byte.ensures.none
