use Rattle.std.proofs.Common.{◌∙◌, refl}
use Rattle.cxl_model.specs.System.{System, system_of}
use Rattle.cxl_reads.proofs.Places.{places_within}
use Rattle.cxl_reads.proofs.of_places.told_of.Goals as goal

pub put_breaches-requires : goal.put_breaches-requires
put_breaches-requires c =
    let host = c.args.host.now in
    let s : System = system_of host.image host.topo host.windows.items in
    rw c.deref-2.ensures.value
    (places_within s (λ rule n i broken. c.findings_are_told.ensures.breaches s rule n i c.requires broken) c.in_ok-found.found.items (rw c.deref.ensures.value at c.in_ok-found.ensures))

pub returns : goal.returns
returns c = record {
  breaches = c.in_ok-found.found.items;
  first = rw c.deref.ensures.value at c.in_ok-found.ensures;
  told = c.made.ensures ∙ rw (c.verdict.ensures, c.deref-3.ensures.value, c.in_ok-put_breaches.ensures, c.deref-2.ensures.value, c.new-text.ensures.items) refl;
}
