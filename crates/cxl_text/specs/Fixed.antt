-- Replies that name nothing (this project's rule).
use Rattle.std.specs.Prelude.{Bool, true, false}
use Rattle.cxl_reply.specs.declared.reply.Reply.{Reply}
use Rattle.cxl_reply.specs.declared.reply.Reply.TheVariants as replies

-- the replies that name nothing and change nothing: the text of each is one and the same, and takes no memory
abbrev pub has_fixed_text : Reply → Bool
has_fixed_text replies.Unmapped = true
has_fixed_text replies.CrossesEnd = true
has_fixed_text replies.RegionsFull = true
has_fixed_text replies.NoSet = true
has_fixed_text replies.PoisonShort = true
has_fixed_text replies.BusRead = true
has_fixed_text replies.NothingPending = true
has_fixed_text reply = false
