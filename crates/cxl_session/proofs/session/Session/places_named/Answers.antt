use Rattle.std.proofs.Common.{◌≡◌, ◌+◌, ℕ, [], false, List, take, sum_by, Some, sym, ap, subst, ◌∙◌, arith}
use Rattle.std.specs.Prelude.{slice_get}
use Rattle.cxl_regs.specs.declared.decoder.Decoder.{Decoder}
use Rattle.cxl_regs.specs.Reading.{span_length}
use Rattle.cxl_span.proofs.Sums.{taken_more}
use Rattle.cxl_span.specs.Spans.{span_step, span_start_of}
use Rattle.cxl_model.specs.declared.poison.Entry.{Entry}
use Rattle.cxl_session.specs.inner.OnDevice.{is_named, ArePlacesNamed}
use Rattle.cxl_session.proofs.Served.{HasServed, decoders_there, no_decoders, starts_there, served_none, served_more, served_past, served_all}
use Rattle.cxl_session.proofs.session.Session.places_named.Goals as goal
use Rattle.cxl_session.proofs.session.Session.places_named.Goals.{then-is_named+in_ok-put_served, else-is_named}

pub returns-then-endpoint-count : goal.returns-then-endpoint-count
returns-then-endpoint-count c =
    let (m, stands, is) = c.requires in
    subst (ArePlacesNamed c.args.self.now c.args.endpoint c.args.records.now) (sym c.new-places.ensures.items)
    (served_all c.args.self.now m stands c.live_regions_stay.ensures.system c.live_regions_stay.ensures.region c.slots_are_endpoints.ensures.start c.slots_are_endpoints.ensures.endpoint is c.args.endpoint c.args.records.now []
    (no_decoders c.args.self.now c.self.inside c.self.view_is c.args.endpoint (omega (arith, c.if-endpoint-count.true, c.count.ensures.count))) 0 [] (omega arith) (served_none c.args.self.now [] c.args.records.now))

pub loop-i-init : goal.loop-i-init
loop-i-init c = record {
  served = subst (HasServed c.args.self.now c.block-block.result.now.decoders c.args.records.now 0) (sym c.new-places.ensures.items) (served_none c.args.self.now c.block-block.result.now.decoders c.args.records.now);
  taken = search;
  small = omega arith;
}

pub loop-i-preserved : goal.loop-i-preserved
loop-i-preserved c =
    let session = c.args.self.now in
    let decoders = c.block-block.result.now.decoders in
    let records : List Entry = c.args.records.now in
    let i : ℕ = c.loop-i.i in
    let own : Decoder = c.decoder-decoder.result in
    let there : slice_get decoders i ≡ Some own = c.decoder-decoder.ensures.value in
    let start : ℕ = c.loop-i.taken + c.from.result in
    let long : c.from-in-loop-i.result ≡ span_length own = c.from-in-loop-i.ensures ∙ c.span_length.ensures in
    let starts : start ≡ span_start_of decoders i = ap (λ (n : ℕ). c.loop-i.taken + n) c.from.ensures ∙ starts_there decoders i own c.loop-i.taken there c.loop-i.invariant.taken in
    let more : sum_by span_step (take (i + 1) decoders) ≡ sum_by span_step (take i decoders) + (own.tail + span_length own) = taken_more decoders i own there in
    let so_far = c.loop-i.invariant.taken in
    let small = c.loop-i.invariant.small in
    let tail = c.from.ensures in
    record {
      served = elim c.if-is_named.branch [
        | then-is_named+in_ok-put_served w ↦
            subst (λ (places : List ℕ). HasServed session decoders records (i + 1) places) (sym (ap (λ v. v.items) w.places-is))
            (served_more session decoders records i own there c.loop-i.places.items w.put_served.new.places.items w.in_ok-put_served.ensures c.loop-i.invariant.served)
        | else-is_named w ↦
            let none : is_named records start (start + span_length own) ≡ false =
            ap (λ (n : ℕ). is_named records start (start + n)) (sym long) ∙ sym c.is_named.ensures ∙ w.if-is_named.false in
            subst (λ (places : List ℕ). HasServed session decoders records (i + 1) places) (sym (ap (λ v. v.items) w.places-is))
            (served_past session decoders records i own there c.loop-i.places.items start starts none c.loop-i.invariant.served)
      ];
      taken = omega (arith, more, so_far, tail, long);
      small = omega (arith, small, tail);
    }

pub returns : goal.returns
returns c =
    let (m, stands, is) = c.requires in
    served_all c.args.self.now m stands c.live_regions_stay.ensures.system c.live_regions_stay.ensures.region c.slots_are_endpoints.ensures.start c.slots_are_endpoints.ensures.endpoint is c.args.endpoint c.args.records.now c.block-block.result.now.decoders
    (decoders_there c.args.self.now c.self.inside c.self.view_is c.args.endpoint c.block-block.result.now c.block-block.ensures.value) c.loop-i.i c.loop-i.places.items (omega (arith, c.loop-i-test.false, c.count-i-end.ensures.value))
    c.loop-i.invariant.served
