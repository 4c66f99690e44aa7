-- Facts of a session as rows.
use Rattle.std.specs.Prelude.{◌≡◌, ℕ, List, length, map, min, take, drop}
use Rattle.cxl_bus.specs.declared.sent.Sent.{Sent}
use Rattle.cxl_handle.specs.declared.words.WordFact.{WordFact}

-- a register word that was sent
abbrev pub fact_of : Sent → WordFact
fact_of sent = record { node = sent.node; offset = sent.off; value = sent.value }

-- how many words there are rows for
abbrev pub shown : List Sent → List WordFact → ℕ
shown words rows = min (length words) (length rows)

-- So many words there are. Those that there are rows for are told, from the front on, and the rows behind them stay.
pub record AreWordsTold (words : List Sent) (count : ℕ) (old new : List WordFact) : Type 0 where
  pub count_is : count ≡ length words
  pub told : take (shown words old) new ≡ map fact_of (take (shown words old) words)
  pub behind : drop (shown words old) new ≡ drop (shown words old) old
