-- The text of each reply (this project's rule).
use Rattle.std.specs.Prelude.{ℕ, Bool, true, false, List, codes}
use Rattle.cxl_topo.specs.declared.node.Node.{Node}
use Rattle.cxl_reply.specs.declared.reply.Reply.{Reply}
use Rattle.cxl_reply.specs.declared.reply.Reply.TheVariants as replies
use Rattle.cxl_reply.specs.Words.{line}
use Rattle.cxl_reply.specs.Texts.{created_text, destroyed_text, shown_text, down_text, up_text, loaded_text, stored_text, report_text, begun_text, stepped_text, aborted_text, extents_text, spread_text, carried_text}
use Rattle.cxl_reply.specs.Refusals.{bad_line_text, named_text, full_text, spot_text, sizes_text, plan_fault_text, count_text, pending_text}

-- the text of each reply
abbrev pub reply_text : List Node → Reply → List ℕ
reply_text nodes (replies.Created named) = created_text named
reply_text nodes (replies.Destroyed name) = destroyed_text name
reply_text nodes (replies.Shown shown) = shown_text nodes shown
reply_text nodes (replies.Down downed) = down_text nodes downed
reply_text nodes (replies.Up upped) = up_text upped
reply_text nodes (replies.Loaded bytes) = loaded_text bytes
reply_text nodes (replies.Stored len) = stored_text len
reply_text nodes (replies.Poison report) = report_text nodes report
reply_text nodes (replies.Begun begun) = begun_text begun
reply_text nodes (replies.Stepped progress) = stepped_text progress
reply_text nodes (replies.Aborted name) = aborted_text name
reply_text nodes (replies.Extents extents) = extents_text nodes extents
reply_text nodes (replies.Spread spread) = spread_text nodes spread
reply_text nodes (replies.Copied carried) = carried_text (codes "copied") carried
reply_text nodes (replies.Moved carried) = carried_text (codes "moved") carried
reply_text nodes (replies.BadLine fault) = bad_line_text fault
reply_text nodes (replies.Busy name) = named_text (codes "busy") name
reply_text nodes (replies.NameTaken name) = named_text (codes "name taken") name
reply_text nodes (replies.NoRegion name) = named_text (codes "no such region") name
reply_text nodes (replies.NoEndpoint name) = named_text (codes "no such endpoint") name
reply_text nodes replies.RegionsFull = line (codes "regions full")
reply_text nodes (replies.Full lack) = full_text lack
reply_text nodes (replies.Locked spot) = spot_text (codes "locked") nodes spot
reply_text nodes (replies.NotLast spot) = spot_text (codes "not last") nodes spot
reply_text nodes replies.Unmapped = line (codes "unmapped")
reply_text nodes replies.CrossesEnd = line (codes "crosses end")
reply_text nodes (replies.Refused fault) = plan_fault_text nodes fault
reply_text nodes replies.NoSet = line (codes "refused no-set")
reply_text nodes (replies.SameRegion name) = named_text (codes "same region") name
reply_text nodes (replies.SizesDiffer sizes) = sizes_text sizes
reply_text nodes replies.PoisonShort = line (codes "poison short")
reply_text nodes (replies.PoisonCount counted) = count_text counted
reply_text nodes replies.BusUndone = line (codes "bus fault undone")
reply_text nodes (replies.BusPending pending) = pending_text pending
reply_text nodes replies.BusRead = line (codes "bus fault read")
reply_text nodes replies.NothingPending = line (codes "nothing pending")

-- the replies to commands that changed something, and the two bus faults that end in one: their texts need no name of a node, and take no memory
abbrev pub has_short_text : Reply → Bool
has_short_text (replies.Created named) = true
has_short_text (replies.Destroyed name) = true
has_short_text (replies.Stored len) = true
has_short_text (replies.Begun begun) = true
has_short_text (replies.Stepped progress) = true
has_short_text (replies.Aborted name) = true
has_short_text (replies.Copied carried) = true
has_short_text (replies.Moved carried) = true
has_short_text replies.BusUndone = true
has_short_text (replies.BusPending pending) = true
has_short_text reply = false
