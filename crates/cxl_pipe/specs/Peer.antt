-- Whether the peer's registers are those of the blocks, word by word.
use Rattle.std.specs.Prelude.{◌≡◌, ℕ, ◌+◌, ◌*◌, ◌^◌, ◌≤◌, true, false, List, [], ◌∷◌, ◌++◌, length, map, Option, None, Some, unwrap_or}
use Rattle.std.specs.List.{flat_map, enumerate_from, range_with_len}
use Rattle.cxl_regs.specs.Registers.{Registers}
use Rattle.cxl_regs.specs.Words.{word_at}
use Rattle.cxl_pipe.specs.Pipe.{Pipe, HasAnswer, HasNoAnswer}
use Rattle.cxl_pipe.specs.Protocol.{read_question, tells_word, answers_read}

-- a word of a node's block: where it stands, and what it is
pub record PeerWord : Type 0 where
  pub node : ℕ
  pub off : ℕ
  pub value : ℕ

-- how many words a block has: four before its decoders, and eight a decoder
abbrev pub word_count : Registers → ℕ
word_count block = 4 + 8 * length block.decoders

-- the word at a place of a node's block
abbrev pub word_here : ℕ → Registers → ℕ → PeerWord
word_here node block place = record { node = node; off = 4 * place; value = unwrap_or (word_at block (4 * place)) 0 }

-- the words of a node's block, in order
abbrev pub words_of : ℕ → Registers → List PeerWord
words_of node block = map (word_here node block) (range_with_len 0 (word_count block))

-- the words of the blocks from a node on, in order
abbrev pub words_from : ℕ → List Registers → List PeerWord
words_from node blocks = flat_map (λ (n, block). words_of n block) (enumerate_from node blocks)

-- the words of all blocks
abbrev pub all_words : List Registers → List PeerWord
all_words blocks = words_from 0 blocks

-- the peer was asked for a word, and told it
abbrev pub IsTold : PeerWord → Pipe → Pipe → Type 0
IsTold word old new = HasAnswer (read_question word.node word.off) (tells_word word.value) old new

-- the peer was asked for a word, and did not tell it
abbrev pub IsUntold : PeerWord → Pipe → Pipe → Type 0
IsUntold word old new = HasNoAnswer (read_question word.node word.off) (tells_word word.value) answers_read old new

-- the peer was asked for these words, one after another, and told each
abbrev pub AreTold : List PeerWord → Pipe → Pipe → Type 0
AreTold [] old new = new ≡ old
AreTold (word ∷ words) old new = (mid : Pipe) × IsTold word old mid × AreTold words mid new

-- the peer told some of these words from the front, and not the next one
pub record StopsAmong (words : List PeerWord) (old new : Pipe) : Type 0 where
  pub told : List PeerWord
  pub word : PeerWord
  pub rest : List PeerWord
  pub split : words ≡ told ++ word ∷ rest
  pub mid : Pipe
  pub before : AreTold told old mid
  pub stops : IsUntold word mid new

-- before the peer is asked: these blocks, and a peer that is in step
abbrev pub powered_on : List Registers → Pipe → Pipe
powered_on start old = record old { blocks = start; strange = false }

-- the peer tells every word of these blocks, or it is strange from now on; so it is where there are more nodes than a question can name
pub data HasPoweredOn (start : List Registers) (old new : Pipe) : Type 0 where
  same : AreTold (all_words start) (powered_on start old) new → HasPoweredOn start old new
  other : (stop : Pipe) → StopsAmong (all_words start) (powered_on start old) stop → new ≡ record stop { strange = true } → HasPoweredOn start old new
  many : 2 ^ 32 ≤ length start → new ≡ record (powered_on start old) { strange = true } → HasPoweredOn start old new

-- the first node's capability word
abbrev pub first_cap : List Registers → Option ℕ
first_cap [] = None
first_cap (block ∷ blocks) = Some block.cap

-- the words that are read last, of the first node, where there is one: its capability, which is never 0 at a bridge, and a
-- reserved word, which is 0
abbrev pub last_words : Option ℕ → List PeerWord
last_words None = []
last_words (Some cap) = record { node = 0; off = 0; value = cap } ∷ record { node = 0; off = 8; value = 0 } ∷ []

-- the peer was in step, and told the last words
pub record EndsInStep (old new : Pipe) : Type 0 where
  pub step : old.strange ≡ false
  pub told : AreTold (last_words (first_cap old.blocks)) old new

-- the peer was strange, and is asked nothing; or it did not tell the last words
pub data EndsStrange (old new : Pipe) : Type 0 where
  strange : old.strange ≡ true → new ≡ old → EndsStrange old new
  untold : StopsAmong (last_words (first_cap old.blocks)) old new → EndsStrange old new
