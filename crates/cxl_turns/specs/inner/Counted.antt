-- How much one reply can add.
use Rattle.std.specs.Prelude.{◌≤◌, length}
use Rattle.cxl_script.specs.Grammar.{access_limit}
use Rattle.cxl_reply.specs.declared.reply.Reply.{Reply}
use Rattle.cxl_reply.specs.declared.reply.Reply.TheVariants as replies

-- no more bytes were loaded than a line may ask for
abbrev pub LoadsFew : Reply → Type 0
LoadsFew (replies.Loaded bytes) = length bytes ≤ access_limit
LoadsFew other = Unit {0}
