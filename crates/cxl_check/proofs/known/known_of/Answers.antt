use Rattle.std.proofs.Common.{◌≡◌, ◌/◌, ◌%◌, ◌<◌, length, sym, subst, arith}
use Rattle.std.proofs.Math.Nat.{mod-lt}
use Rattle.std.proofs.lemmas.List.Elements.{All-set}
use Rattle.cxl_enc.specs.Limits.{unit}
use Rattle.cxl_regs.specs.declared.reading.Range.{Range}
use Rattle.cxl_model.specs.Hosts.{as_system}
use Rattle.cxl_model.specs.System.{System}
use Rattle.cxl_check.specs.declared.known.Known.{Known}
use Rattle.cxl_check.specs.inner.Known.{IsKnown, IsKnownAs}
use Rattle.cxl_check.proofs.known.known_of.Goals as goal

pub returns-then-last-range-2-clause-known : goal.returns-then-last-range-2-clause-known
returns-then-last-range-2-clause-known c =
    let s : System = as_system c.args.host.now in
    let last : Known = c.index-last.result.now in
    let some : 0 < c.len-count.result = omega (arith, c.if-count-eq0.false) in
    let within : (c.args.range.now.base / unit % c.len-count.result) < length c.args.met.now.items =
    let less = mod-lt (c.args.range.now.base / unit) some in
    omega (arith, less, c.len-count.ensures) in
    let own : IsKnown s last = subst (λ (known : Known). IsKnown s known) (sym c.index-last.ensures) (c.requires.met (c.args.range.now.base / unit % c.len-count.result) last within) in
    let same : last.range ≡ c.args.range.now = λ i. record { base = c.if-last-range.true i; size = c.if-last-range-2.true i } in
    subst (λ (r : Range). IsKnownAs s r last) same own

pub returns-clause-met : goal.returns-clause-met
returns-clause-met c =
    let s : System = as_system c.args.host.now in
    let known : Known = c.learn-known.result in
    let own : IsKnown s known = subst (λ (r : Range). IsKnownAs s r known) (sym c.learn-known.ensures.range) c.learn-known.ensures in
    All-set (IsKnown s) c.args.met.now.items (c.args.range.now.base / unit % c.len-count.result) known own c.requires.met
