use Rattle.std.proofs.Common.{◌-◌, arith}
use Rattle.cxl_move.proofs.ReadParts.{part_read}
use Rattle.cxl_move.proofs.parts.read_part.Goals as goal

pub device_byte-byte-requires-clause-region : goal.device_byte-byte-requires-clause-region
device_byte-byte-requires-clause-region g c = c.requires.region

pub device_byte-byte-requires-clause-from : goal.device_byte-byte-requires-clause-from
device_byte-byte-requires-clause-from g c = c.requires.from

pub device_byte-byte-requires-clause-below : goal.device_byte-byte-requires-clause-below
device_byte-byte-requires-clause-below g c =
    let ends = c.requires.ends in
    let some = c.requires.piece.some in
    omega (arith, ends, some)

pub get-requires : goal.get-requires
get-requires g c =
    let (s, w, woven) = c.requires.region in
    let byte = c.device_byte-byte.result in
    let along = c.bytes_lie_in_pieces.ensures.offset s w c.args.found.now c.args.h byte.ep byte.dpa woven.system woven.region (c.device_byte-byte.ensures s w woven) in
    let fits = c.requires.piece.fits in
    record { some = c.requires.piece.some; fits = omega (arith, along, fits) }

pub returns : goal.returns
returns g c = λ s w contents woven pieces.
    let carries = c.device_byte-byte.ensures s w woven in
    let ep = c.device_byte-byte.result.ep in
    let dpa = c.device_byte-byte.result.dpa in
    let at = c.bytes_lie_in_pieces.ensures.block s w c.args.found.now c.args.h ep dpa woven.system woven.region carries in
    let along = c.bytes_lie_in_pieces.ensures.offset s w c.args.found.now c.args.h ep dpa woven.system woven.region carries in
    part_read contents (g.M.Media.state c.args.media.now).blocks c.get.new.into (c.args.h - c.args.found.now.base) ep dpa _ c.get.ensures.whole c.requires.piece.fits along (pieces _ ep _ at) c.get.ensures.filled
