use Rattle.std.proofs.Common.{◌≡◌, true, rules}
use Rattle.std.specs.Prelude.{slice_get}
use Rattle.std.proofs.lemmas.Option.{slice_get_within}
use Rattle.cxl_enc.proofs.Options.{some_and}
use Rattle.cxl_regs.specs.Reading.{holds_address}
use Rattle.cxl_walk.proofs.moves.arrive.Goals as goal

pub start_of-start-requires-clause-here : goal.start_of-start-requires-clause-here
start_of-start-requires-clause-here c =
    let own = some_and (slice_get c.args.block.now.decoders c.args.i) (λ d. holds_address d c.args.h ≡ true) c.requires.holds in
    slice_get_within c.args.block.now.decoders c.args.i own.0 own.1

pub decoder-d-requires : goal.decoder-d-requires
decoder-d-requires c =
    let own = some_and (slice_get c.args.block.now.decoders c.args.i) (λ d. holds_address d c.args.h ≡ true) c.requires.holds in
    slice_get_within c.args.block.now.decoders c.args.i own.0 own.1

pub returns : goal.returns
returns c = search rules
