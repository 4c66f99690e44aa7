-- Giving a region the bytes of another (this project's rules).
use Rattle.std.specs.Prelude.{ℕ, ◌+◌, ◌==◌, nat_lt, not, if◌then◌else◌}
use Rattle.std.specs.Str.{bytes_eq}
use Rattle.std.specs.FinMap as map
use Rattle.cxl_script.specs.declared.command.Pair.{Pair}
use Rattle.cxl_reply.specs.declared.reply.Reply.TheVariants as replies
use Rattle.cxl_reply.specs.declared.details.Carried.{Carried}
use Rattle.cxl_machine.specs.Machine.{Live, Machine, free_frames, with_contents}
use Rattle.cxl_machine.specs.Replies.{Answer, stays, becomes, at_name}

-- how many pieces a region holds
abbrev pub pieces_of : Live → ℕ
pieces_of region = map.len region.contents

-- what is told of bytes that went from one region to another
abbrev pub carried : Live → Live → Carried
carried from to = record { from = from.name; to = to.name; pieces = pieces_of from }

-- the other region has the bytes, too
abbrev pub copied : Machine → Live → Live → Machine
copied m from to = with_contents to.name from.contents m

-- and the first one none
abbrev pub moved : Machine → Live → Live → Machine
moved m from to = with_contents from.name map.empty (copied m from to)

-- the frames that can hold a copy: those free, and those that the other region has
abbrev pub frames_for : Machine → Live → ℕ
frames_for m to = free_frames m + pieces_of to

-- a copy between two regions of one size, where the frames that it needs are free
abbrev pub copy_between : Machine → Live → Live → Answer
copy_between m from to =
    if nat_lt (frames_for m to) (pieces_of from)
    then stays m (replies.Full record { need = pieces_of from; free = frames_for m to })
    else becomes (copied m from to) (replies.Copied (carried from to))

-- a move between two regions of one size
abbrev pub move_between : Machine → Live → Live → Answer
move_between m from to = becomes (moved m from to) (replies.Moved (carried from to))

-- two regions of one size, or why they are none
abbrev pub for_two : Machine → Pair → (Live → Live → Answer) → Answer
for_two m pair answer =
    at_name m pair.from (λ from. at_name m pair.to (λ to.
    if bytes_eq pair.from pair.to then stays m (replies.SameRegion pair.from)
    else (if not (from.found.size == to.found.size) then stays m (replies.SizesDiffer record { from = from.found.size; to = to.found.size })
    else answer from to)))

-- a copy of all bytes of one live region into another
abbrev pub copy_answer : Machine → Pair → Answer
copy_answer m pair = for_two m pair (copy_between m)

-- a move of all bytes of one live region into another
abbrev pub move_answer : Machine → Pair → Answer
move_answer m pair = for_two m pair (move_between m)
