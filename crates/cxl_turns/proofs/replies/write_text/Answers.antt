use Rattle.cxl_turns.proofs.replies.write_text.Goals as goal

pub returns-in-Ok : goal.returns-in-Ok
returns-in-Ok g c = record {
  told = record { told = c.in-Ok.ensures.ok; alone = c.write_all.ensures.alone; unswallowed = c.in-Ok.ensures.unswallowed };
  counts = c.write_all.ensures.counts;
}

pub returns-in-Err : goal.returns-in-Err
returns-in-Err g c = record {
  told = record { cut = c.in-Err.ensures.failed; rose = c.in-Err.ensures.cause; counted = c.in-Err.ensures.counted };
  counts = c.write_all.ensures.counts;
}
