use Rattle.std.proofs.Common.{◌-◌, length, sym, ap, ◌∙◌, arith}
use Rattle.std.proofs.lemmas.Bool.{eqb-true}
use Rattle.std.proofs.lemmas.List.{length-append}
use Rattle.cxl_move.proofs.ReadParts.{both_parts, one_part}
use Rattle.cxl_move.proofs.parts.read.Goals as goal

pub overflow_add-h : goal.overflow_add-h
overflow_add-h g c =
    let (s, w, is) = c.requires.region in
    let low = c.regions_lie_in_windows.ensures.low s w c.args.found.now is.system is.region in
    let ends = c.requires.ends in
    let first = c.first_part-first.ensures in
    omega (arith, low, ends, first)

pub returns-then-not-is_empty : goal.returns-then-not-is_empty
returns-then-not-is_empty g c = λ s w contents woven pieces.
    let front = c.split_at_mut-front.result.0.now in
    let back = c.split_at_mut-front.result.1.now in
    let all = sym (ap length c.split_at_mut-front.ensures.value ∙ length-append front back) in
    both_parts contents c.args.h c.args.found.now.base c.first_part-first.result (length c.args.into.now) (length front) (length back) c.read_part.new.into c.read_part-then-not-is_empty.new.into c.requires.from
    (omega (arith, c.split_at_mut-front.ensures.front_len, c.first_part-first.ensures)) all (c.read_part.ensures s w contents woven pieces) (c.read_part-then-not-is_empty.ensures s w contents woven pieces)

pub returns-else-not-is_empty : goal.returns-else-not-is_empty
returns-else-not-is_empty g c = λ s w contents woven pieces.
    let front = c.split_at_mut-front.result.0.now in
    let back = c.split_at_mut-front.result.1.now in
    let all = sym (ap length c.split_at_mut-front.ensures.value ∙ length-append front back) in
    one_part contents (c.args.h - c.args.found.now.base) (length c.args.into.now) (length front) c.read_part.new.into back (eqb-true (length back) 0 (sym c.is_empty.ensures ∙ c.if-not-is_empty.false)) all
    (c.read_part.ensures s w contents woven pieces)
