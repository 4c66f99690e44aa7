-- Words that are asked for one after another.
use Rattle.std.proofs.Common.{◌≡◌, ℕ, suc, ◌+◌, ◌-◌, ◌*◌, ◌<◌, ◌≤◌, List, [], ◌∷◌, ◌++◌, length, map, drop, get_or, Option, Some, refl, sym, ap, subst, ◌∙◌, arith, append_assoc}
use Rattle.std.proofs.lemmas.List.{drop_more, drop_all}
use Rattle.std.specs.List.{range_with_len}
use Rattle.std.specs.Prelude.{unwrap_or}
use Rattle.cxl_regs.specs.Registers.{Registers}
use Rattle.cxl_regs.specs.Words.{word_at}
use Rattle.cxl_pipe.specs.Pipe.{Pipe, KeepsRegisters, HasAnswer, HasNoAnswer}
use Rattle.cxl_pipe.specs.Peer.{PeerWord, word_count, word_here, words_of, words_from, IsTold, IsUntold, AreTold, StopsAmong}
use Rattle.cxl_pipe.specs.Protocol.{read_question, tells_word, answers_read}

pub keeps_itself : (pipe : Pipe) → KeepsRegisters pipe pipe
keeps_itself pipe = record { blocks = refl; reads_back = refl; faults = refl }

pub keeps_on : (old mid new : Pipe) → KeepsRegisters old mid → KeepsRegisters mid new → KeepsRegisters old new
keeps_on old mid new first then = record {
  blocks = then.blocks ∙ first.blocks;
  reads_back = then.reads_back ∙ first.reads_back;
  faults = then.faults ∙ first.faults;
}

told_on : (words more : List PeerWord) (old mid new : Pipe) → AreTold words old mid → AreTold more mid new → AreTold (words ++ more) old new
told_on [] more old mid new told then = subst (λ (pipe : Pipe). AreTold more pipe new) told then
told_on (word ∷ words) more old mid new told then = (told.0, told.1, told_on words more told.0 mid new told.2 then)

stops_behind : (words more : List PeerWord) (old mid new : Pipe) → AreTold words old mid → StopsAmong more mid new → StopsAmong (words ++ more) old new
stops_behind words more old mid new told stop = record {
  told = words ++ stop.told;
  word = stop.word;
  rest = stop.rest;
  split = ap (λ (ws : List PeerWord). words ++ ws) stop.split ∙ sym (append_assoc words stop.told (stop.word ∷ stop.rest));
  mid = stop.mid;
  before = told_on words stop.told old mid stop.mid told stop.before;
  stops = stop.stops;
}

stops_before : (words more : List PeerWord) (old new : Pipe) → StopsAmong words old new → StopsAmong (words ++ more) old new
stops_before words more old new stop = record {
  told = stop.told;
  word = stop.word;
  rest = stop.rest ++ more;
  split = ap (λ (ws : List PeerWord). ws ++ more) stop.split ∙ append_assoc stop.told (stop.word ∷ stop.rest) more;
  mid = stop.mid;
  before = stop.before;
  stops = stop.stops;
}

-- what the rest of the words comes to, all come to
pub record LeadsOn (words rest : List PeerWord) (old now : Pipe) : Type 0 where
  pub told : (new : Pipe) → AreTold rest now new → AreTold words old new
  pub stops : (new : Pipe) → StopsAmong rest now new → StopsAmong words old new
  pub kept : KeepsRegisters old now

pub leads_from_start : (words rest : List PeerWord) (old : Pipe) → words ≡ rest → LeadsOn words rest old old
leads_from_start words rest old all = subst (λ (ws : List PeerWord). LeadsOn words ws old old) all (leads_itself words old)
  where
    leads_itself : (words : List PeerWord) (old : Pipe) → LeadsOn words words old old
    leads_itself words old = record { told = λ new told. told; stops = λ new stop. stop; kept = keeps_itself old }

-- some more words are told
pub leads_more : (words more rest : List PeerWord) (old now next : Pipe) → LeadsOn words (more ++ rest) old now → AreTold more now next → KeepsRegisters now next → LeadsOn words rest old next
leads_more words more rest old now next so_far told kept = record {
  told = λ new then. so_far.told new (told_on more rest now next new told then);
  stops = λ new stop. so_far.stops new (stops_behind more rest now next new told stop);
  kept = keeps_on old now next so_far.kept kept;
}

-- one of some more words is not told
pub stops_more : (words more rest : List PeerWord) (old now new : Pipe) → LeadsOn words (more ++ rest) old now → StopsAmong more now new → StopsAmong words old new
stops_more words more rest old now new so_far stop = so_far.stops new (stops_before more rest now new stop)

-- a word alone
pub told_alone : (word : PeerWord) (old new : Pipe) → IsTold word old new → AreTold (word ∷ []) old new
told_alone word old new told = (new, told, refl)

pub stops_alone : (word : PeerWord) (old new : Pipe) → IsUntold word old new → StopsAmong (word ∷ []) old new
stops_alone word old new untold = record { told = []; word = word; rest = []; split = refl; mid = old; before = refl; stops = untold }

-- ---- the words of a block

next_place : (f : ℕ → PeerWord) (place count : ℕ) → place < count → map f (range_with_len place (count - place)) ≡ f place ∷ map f (range_with_len (place + 1) (count - (place + 1)))
next_place f place count below =
    let more : count - place ≡ suc (count - (place + 1)) = omega arith in
    ap (λ (n : ℕ). map f (range_with_len place n)) more

-- from a place on
abbrev pub words_left : ℕ → Registers → ℕ → List PeerWord
words_left node block place = map (word_here node block) (range_with_len place (word_count block - place))

pub all_left : (node : ℕ) (block : Registers) → words_of node block ≡ words_left node block 0
all_left node block =
    let whole : word_count block ≡ word_count block - 0 = omega arith in
    ap (λ (n : ℕ). map (word_here node block) (range_with_len 0 n)) whole

pub none_left : (node : ℕ) (block : Registers) (place : ℕ) → word_count block ≤ place → words_left node block place ≡ []
none_left node block place past =
    let none : word_count block - place ≡ 0 = omega arith in
    ap (λ (n : ℕ). map (word_here node block) (range_with_len place n)) none

module _ (node : ℕ) (block : Registers) (place word : ℕ) where
  value_is : word_at block (4 * place) ≡ Some word → word ≡ unwrap_or (word_at block (4 * place)) 0
  value_is is = sym (ap (λ (o : Option ℕ). unwrap_or o 0) is)

  here_told : (old new : Pipe) → word_at block (4 * place) ≡ Some word → HasAnswer (read_question node (4 * place)) (tells_word word) old new → IsTold (word_here node block place) old new
  here_told old new is told = subst (λ (value : ℕ). HasAnswer (read_question node (4 * place)) (tells_word value) old new) (value_is is) told

  here_untold : (old new : Pipe) → word_at block (4 * place) ≡ Some word → HasNoAnswer (read_question node (4 * place)) (tells_word word) answers_read old new → IsUntold (word_here node block place) old new
  here_untold old new is untold = subst (λ (value : ℕ). HasNoAnswer (read_question node (4 * place)) (tells_word value) answers_read old new) (value_is is) untold

  so_far_and_next : (words : List PeerWord) (old now : Pipe) → place < word_count block → LeadsOn words (words_left node block place) old now → LeadsOn words (word_here node block place ∷ words_left node block (place + 1)) old now
  so_far_and_next words old now below so_far =
      subst (λ (rest : List PeerWord). LeadsOn words rest old now) (next_place (word_here node block) place (word_count block) below) so_far

  pub word_told : (words : List PeerWord) (old now next : Pipe) → place < word_count block → word_at block (4 * place) ≡ Some word → LeadsOn words (words_left node block place) old now
      → HasAnswer (read_question node (4 * place)) (tells_word word) now next → LeadsOn words (words_left node block (place + 1)) old next
  word_told words old now next below is so_far told =
      leads_more words (word_here node block place ∷ []) (words_left node block (place + 1)) old now next (so_far_and_next words old now below so_far)
      (told_alone (word_here node block place) now next (here_told now next is told)) told.heard.kept

  pub word_untold : (words : List PeerWord) (old now new : Pipe) → place < word_count block → word_at block (4 * place) ≡ Some word → LeadsOn words (words_left node block place) old now
      → HasNoAnswer (read_question node (4 * place)) (tells_word word) answers_read now new → StopsAmong words old new
  word_untold words old now new below is so_far untold =
      stops_more words (word_here node block place ∷ []) (words_left node block (place + 1)) old now new (so_far_and_next words old now below so_far)
      (stops_alone (word_here node block place) now new (here_untold now new is untold))

-- ---- the words of all blocks

module _ (blocks : List Registers) (node : ℕ) (block : Registers) (within : node < length blocks) (is : block ≡ get_or blocks node block) where
  next_node : words_from node (drop node blocks) ≡ words_of node block ++ words_from (node + 1) (drop (node + 1) blocks)
  next_node = ap (words_from node) (drop_more blocks node block within ∙ ap (λ (b : Registers). b ∷ drop (node + 1) blocks) (sym is))

  so_far_and_node : (words : List PeerWord) (old now : Pipe) → LeadsOn words (words_from node (drop node blocks)) old now → LeadsOn words (words_of node block ++ words_from (node + 1) (drop (node + 1) blocks)) old now
  so_far_and_node words old now so_far = subst (λ (rest : List PeerWord). LeadsOn words rest old now) next_node so_far

  pub block_told : (words : List PeerWord) (old now next : Pipe) → LeadsOn words (words_from node (drop node blocks)) old now → AreTold (words_of node block) now next → KeepsRegisters now next
      → LeadsOn words (words_from (node + 1) (drop (node + 1) blocks)) old next
  block_told words old now next so_far told kept =
      leads_more words (words_of node block) (words_from (node + 1) (drop (node + 1) blocks)) old now next (so_far_and_node words old now so_far) told kept

  pub block_untold : (words : List PeerWord) (old now new : Pipe) → LeadsOn words (words_from node (drop node blocks)) old now → StopsAmong (words_of node block) now new → StopsAmong words old new
  block_untold words old now new so_far stop =
      stops_more words (words_of node block) (words_from (node + 1) (drop (node + 1) blocks)) old now new (so_far_and_node words old now so_far) stop

pub no_node_left : (blocks : List Registers) (node : ℕ) → length blocks ≤ node → words_from node (drop node blocks) ≡ []
no_node_left blocks node past = ap (words_from node) (drop_all node blocks past)

-- all words are told once none is left
pub all_told : (words rest : List PeerWord) (old now : Pipe) → rest ≡ [] → LeadsOn words rest old now → AreTold words old now
all_told words rest old now none so_far = so_far.told now (subst (λ (ws : List PeerWord). AreTold ws now now) (sym none) refl)
