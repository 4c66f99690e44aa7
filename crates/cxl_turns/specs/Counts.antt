-- Replies of a kind, counted, and the bytes that were loaded, added up (this project's rule).
use Rattle.std.specs.Prelude.{ℕ, ◌+◌, ◌*◌, ◌≤◌, Bool, true, false, List, sum, sum_by, count_by}
use Rattle.cxl_reply.specs.declared.reply.Reply.{Reply}
use Rattle.cxl_reply.specs.declared.reply.Reply.TheVariants as replies
use Rattle.cxl_turns.specs.declared.counts.Counts.{Counts}

-- a region is made
abbrev pub is_created : Reply → Bool
is_created (replies.Created named) = true
is_created other = false

-- bytes are stored
abbrev pub is_stored : Reply → Bool
is_stored (replies.Stored len) = true
is_stored other = false

-- bytes are loaded
abbrev pub is_loaded : Reply → Bool
is_loaded (replies.Loaded bytes) = true
is_loaded other = false

-- an access is answered that no live region holds
abbrev pub is_unmapped_reply : Reply → Bool
is_unmapped_reply replies.Unmapped = true
is_unmapped_reply other = false

-- the bytes of a load, added up
abbrev pub loaded_sum : Reply → ℕ
loaded_sum (replies.Loaded bytes) = sum bytes
loaded_sum other = 0

-- what is counted of replies: those of regions made, of stores, of loads and of accesses outside any region, and the sum of
-- the bytes that were loaded
abbrev pub counts_of : List Reply → Counts
counts_of replies = record {
  regions = count_by is_created replies;
  stores = count_by is_stored replies;
  loads = count_by is_loaded replies;
  unmapped = count_by is_unmapped_reply replies;
  sum = sum_by loaded_sum replies;
}

-- one where it is true, and else none
abbrev pub one_if : Bool → ℕ
one_if true = 1
one_if false = 0

-- the counts with one reply more
abbrev pub counted : Counts → Reply → Counts
counted counts reply = record {
  regions = counts.regions + one_if (is_created reply);
  stores = counts.stores + one_if (is_stored reply);
  loads = counts.loads + one_if (is_loaded reply);
  unmapped = counts.unmapped + one_if (is_unmapped_reply reply);
  sum = counts.sum + loaded_sum reply;
}

-- the counts of so many replies at the most: each loads at most 256 bytes, of at most 255
pub record AreWithin (counts : Counts) (n : ℕ) : Type 0 where
  pub regions : counts.regions ≤ n
  pub stores : counts.stores ≤ n
  pub loads : counts.loads ≤ n
  pub unmapped : counts.unmapped ≤ n
  pub sum : counts.sum ≤ 65280 * n
