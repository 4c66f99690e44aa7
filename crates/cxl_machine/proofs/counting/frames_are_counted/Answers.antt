use Rattle.cxl_machine.proofs.Frames.{free_is, pieces_written, held_written, copied_pieces, moved_pieces}
use Rattle.cxl_machine.specs.Accesses.{offset_in}
use Rattle.cxl_machine.proofs.counting.frames_are_counted.Goals as goal

pub returns-clause-free : goal.returns-clause-free
returns-clause-free c = free_is

pub returns-clause-written : goal.returns-clause-written
returns-clause-written c = pieces_written

pub returns-clause-stored : goal.returns-clause-stored
returns-clause-stored c m region store is there = held_written m is.regions.names region there (offset_in region store.h) store.bytes

pub returns-clause-copied : goal.returns-clause-copied
returns-clause-copied c m from to is here = copied_pieces m is from to here

pub returns-clause-moved : goal.returns-clause-moved
returns-clause-moved c m from to is there here apart = moved_pieces m is from to there here apart
