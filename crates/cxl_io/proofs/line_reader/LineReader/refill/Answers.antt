use Rattle.std.proofs.Common.{◌≡◌, ◌+◌, ◌-◌, ◌++◌, length, take, drop, ap, subst, ◌∙◌, arith}
use Rattle.std.proofs.lemmas.List.{length-take, take-append-le, take_all}
use Rattle.cxl_io.specs.Reader.{Reader, script_limit}
use Rattle.cxl_io.specs.ReaderSteps.{Refills}
use Rattle.cxl_io.proofs.Reading.{held_front, reader_with}
use Rattle.cxl_io.proofs.line_reader.LineReader.refill.Goals as goal

pub read_front-requires-clause-some : goal.read_front-requires-clause-some
read_front-requires-clause-some g c =
    let taken = ap (λ (r : Reader). r.taken) c.self.view_is in
    omega (arith, taken, c.requires.taken, c.self.invariant.2, c.len.ensures, c.min-room.ensures)

pub read_front-requires-clause-within : goal.read_front-requires-clause-within
read_front-requires-clause-within g c =
    omega (arith, ap length c.deref_mut.ensures.value, c.self.inside.block.ok.0, c.len.ensures, c.min-room.ensures)

pub returns-clause-ok : goal.returns-clause-ok
unfolding reader_with
returns-clause-ok g c =
    let r = c.self.inside in
    let n = c.in_ok-n.n in
    let read = c.read_front.new.block in
    let block = take r.block.len (read ++ drop (length read) r.block.items) in
    let end = c.min-self-inside.result in
    let taken = ap (λ (r : Reader). r.taken) c.self.view_is in
    let within = c.in_ok-n.ensures.within in
    let long : length read ≡ r.block.len = omega (arith, c.read_front.auto.block, ap length c.deref_mut.ensures.value, r.block.ok.0) in
    let same : block ≡ read =
    take-append-le r.block.len read (drop (length read) r.block.items) (omega (arith, long))
    ∙ take_all r.block.len read (omega (arith, long)) in
    subst
    (λ old. Refills old (reader_with (r.taken + n) (take (end - 0) block) r.line.items r.stop) (g.S.Source.state c.args.source.now) (g.S.Source.state c.read_front.new.source) n)
    c.self.view_is
    (record {
      bytes = take n read;
      given = c.in_ok-n.ensures.given;
      counted = omega (arith, within, length-take n read, long, r.block.ok.0, c.len.ensures, c.min-room.ensures);
      few = omega (arith, within, taken, c.requires.taken, c.min-room.ensures);
      after_is =
          ap (λ held. reader_with (r.taken + n) held r.line.items r.stop)
          (ap (take (end - 0)) same ∙ held_front read n (script_limit - r.taken) end c.min-self-inside.ensures);
    })

pub returns-clause-read : goal.returns-clause-read
returns-clause-read g c = c.in_ok-n.ensures.read
