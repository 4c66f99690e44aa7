-- The registers of a live region, read word by word.
use Rattle.std.proofs.Common.{◌≡◌, ℕ, true, ◌+◌, ◌<◌, ◌≤◌, List, [], ◌∷◌, ◌++◌, map, take, length, get_or, Option, Some, None, refl, sym, ap, ◌∙◌, subst, arith}
use Rattle.std.proofs.lemmas.Bool.{false≢true}
use Rattle.std.specs.Prelude.{slice_get, slice_set, unwrap_or, option_map, option_and_then, All, Contains, IsSomeAnd}
use Rattle.std.specs.Option.{option_map_or, is_some}
use Rattle.std.specs.List.{filter_map, range_with_len}
use Rattle.std.proofs.lemmas.List.{take_more, take_more_set, map-append}
use Rattle.std.proofs.lemmas.Option.{none-some, same_Some, slice_get_within, slice_get-get_or}
use Rattle.cxl_enc.proofs.Lists.{contains_at}
use Rattle.cxl_regs.specs.declared.decoder.Decoder.{Decoder}
use Rattle.cxl_regs.specs.declared.reading.Range.{Range}
use Rattle.cxl_regs.specs.Reading.{has_range}
use Rattle.cxl_regs.specs.Registers.{Registers}
use Rattle.cxl_regs.specs.Words.{words_of, offset_of, HasWord}
use Rattle.cxl_regs.specs.Blocks.{IsPlace, word_in}
use Rattle.cxl_bus.proofs.Failed.{fails_then, fails_nowhere}
use Rattle.cxl_bus.specs.Failed.{HasFailed}
use Rattle.cxl_bus.specs.RegsState.{RegsState, IsUntouched}
use Rattle.cxl_bus.proofs.Trails.{trail_nothing}
use Rattle.cxl_media.specs.MediaState.{MediaState}
use Rattle.cxl_script.specs.declared.command.Command.TheVariants as commands
use Rattle.cxl_topo.specs.declared.node.Node.{Node}
use Rattle.cxl_model.specs.declared.found.Found.{Found}
use Rattle.cxl_model.specs.declared.plan.Row.{Row}
use Rattle.cxl_model.specs.Changes.{HaveSameDecoders}
use Rattle.cxl_model.specs.Ranges.{index_for}
use Rattle.cxl_model.specs.Regions.{region_range}
use Rattle.cxl_model.specs.System.{System, system_of, decoders_at, decoder_at}
use Rattle.cxl_model.proofs.Staying.{own_decoders, firsts}
use Rattle.cxl_check.proofs.Searches.{passes_at}
use Rattle.cxl_apply.specs.Releases.{row_for, rows_of}
use Rattle.cxl_apply.proofs.Freed.{all_rows, row_parts}
use Rattle.cxl_apply.proofs.Places.{IsThere}
use Rattle.cxl_apply.proofs.RowWrites.{word_back}
use Rattle.cxl_reply.specs.declared.reply.Reply.TheVariants as replies
use Rattle.cxl_reply.specs.declared.details.ShownRow.{ShownRow}
use Rattle.cxl_machine.specs.Machine.{Live, Machine, live_named, present, image_of}
use Rattle.cxl_machine.specs.Outcomes.{NoFault, ReadFailed}
use Rattle.cxl_machine.specs.Replies.{stays, is_refusal}
use Rattle.cxl_machine.specs.Reports.{shown, shown_row, show_answer}
use Rattle.cxl_machine.proofs.Present.{StaysLaw}
use Rattle.cxl_session.specs.State.{SessionState}
use Rattle.cxl_session.specs.Standing.{StandsFor, IsAt}
use Rattle.cxl_session.specs.inner.Answering.{IsTurnFor}
use Rattle.cxl_session.specs.inner.Places.{StandsAt, IsNamedAt}
use Rattle.cxl_session.specs.inner.Rows.{IsRowOf}
use Rattle.cxl_session.proofs.AskedReleases.{name_at}
use Rattle.cxl_session.proofs.Turns.{still}

-- ---- a word of a row's decoder

module _ (blocks : List Registers) (row : Row) (is : IsRowOf blocks row) where
  -- the block in which the decoder stands
  block_of : (block : Registers) × IsThere blocks row.node block row.index row.decoder
  block_of = go (slice_get blocks row.node) refl is
    where
      go : (o : Option Registers) → slice_get blocks row.node ≡ o → slice_get (option_map_or (λ (b : Registers). b.decoders) o []) row.index ≡ Some row.decoder
          → (block : Registers) × IsThere blocks row.node block row.index row.decoder
      go None none at = absurd (none-some row.decoder at)
      go (Some block) some at = (block, record { block_here = some; here = at })

  pub place_there : (place : ℕ) → place < 8 → IsPlace blocks row.node (offset_of row.index place)
  place_there place low =
      let (block, there) = block_of in
      let within : row.index < length block.decoders = slice_get_within block.decoders row.index row.decoder there.here in
      let has : HasWord block (offset_of row.index place) = record { whole = omega arith; inside = omega arith } in
      subst (λ (o : Option Registers). IsSomeAnd o (λ (b : Registers). HasWord b (offset_of row.index place))) (sym there.block_here) has

  pub word_is : (place word : ℕ) → place < 8 → word_in blocks row.node (offset_of row.index place) ≡ Some word → word ≡ get_or (words_of row.decoder) place 0
  word_is place word low read =
      let (block, there) = block_of in
      sym (ap (λ (o : Option ℕ). unwrap_or o 0) read) ∙ word_back blocks row.node block row.index place row.decoder there low
      ∙ ap (λ (o : Option ℕ). unwrap_or o 0) (slice_get-get_or (words_of row.decoder) place 0 low)

-- ---- the words that are read so far

-- nothing has changed, and no fault came
pub record HasRead (old new : RegsState) : Type 0 where
  pub same : IsUntouched old new
  pub counts : old.faults ≤ new.faults
  pub unfailed : HasFailed old new []

pub read_none : (regs : RegsState) → HasRead regs regs
read_none regs = record { same = record { blocks = refl; trail = refl; alone = refl }; counts = omega arith; unfailed = fails_nowhere regs }

pub untouched_more : (old mid new : RegsState) → IsUntouched old mid → IsUntouched mid new → IsUntouched old new
untouched_more old mid new one more = record { blocks = more.blocks ∙ one.blocks; trail = more.trail ∙ one.trail; alone = more.alone ∙ one.alone }

pub read_more : (old mid new : RegsState) → HasRead old mid → IsUntouched mid new → mid.faults ≤ new.faults → HasFailed mid new [] → HasRead old new
read_more old mid new read same counts fails = record {
  same = untouched_more old mid new read.same same;
  counts = let before = read.counts in omega (arith, before, counts);
  unfailed = fails_then old mid new [] read.same.trail read.unfailed fails;
}

-- the next read failed
pub read_stops : (old mid new : RegsState) → HasRead old mid → HasFailed mid new (0 ∷ []) → HasFailed old new (0 ∷ [])
read_stops old mid new read fails = fails_then old mid new (0 ∷ []) read.same.trail read.unfailed fails

-- so many words of a decoder are read
pub record HasReadWords (row : Row) (place : ℕ) (words : List ℕ) (old new : RegsState) : Type 0 where
  pub long : length words ≡ 7
  pub few : place ≤ 7
  pub are : take place words ≡ take place (words_of row.decoder)
  pub read : HasRead old new

pub word_more : (row : Row) (place : ℕ) (words : List ℕ) (word : ℕ) → place < 7 → length words ≡ 7 → take place words ≡ take place (words_of row.decoder) → word ≡ get_or (words_of row.decoder) place 0
    → take (place + 1) (slice_set words place word) ≡ take (place + 1) (words_of row.decoder)
word_more row place words word low long are is =
    take_more_set words place word (omega (arith, low, long)) ∙ ap (λ (ws : List ℕ). ws ++ word ∷ []) are
    ∙ ap (λ (w : ℕ). take place (words_of row.decoder) ++ w ∷ []) is ∙ sym (take_more (words_of row.decoder) place 0 (omega (arith, low)))

-- the rows of so many are read
pub record HasReadRows (rows : List Row) (count : ℕ) (shown : List ShownRow) (old new : RegsState) : Type 0 where
  pub are : shown ≡ map shown_row (take count rows)
  pub read : HasRead old new

-- one row more
pub shown_more : (rows : List Row) (count : ℕ) (none : Row) → count < length rows
    → map shown_row (take (count + 1) rows) ≡ map shown_row (take count rows) ++ shown_row (get_or rows count none) ∷ []
shown_more rows count none low = ap (λ (front : List Row). map shown_row front) (take_more rows count none low) ∙ map-append shown_row (take count rows) (get_or rows count none ∷ [])

-- ---- the rows of a region

-- the row of a node whose decoder has this number
abbrev row_at : System → ℕ → Option ℕ → Option Row
row_at s n o = option_and_then (λ (i : ℕ). option_map (λ (d : Decoder). record { node = n; index = i; decoder = d }) (decoder_at s n i)) o

same_row : (s t : System) (r : Range) (n : ℕ) → HaveSameDecoders s t r → row_for t r n ≡ row_for s r n
same_row s t r n same = go (index_for s r n) refl
  where
    number : index_for t r n ≡ index_for s r n
    number = (firsts s t r (own_decoders s t r same) n).place

    go : (o : Option ℕ) → index_for s r n ≡ o → row_for t r n ≡ row_for s r n
    go None none = ap (row_at t n) (number ∙ none) ∙ sym (ap (row_at s n) none)
    go (Some i) at =
        let (d, here, has) = passes_at (has_range r) (decoders_at s n) i at in
        ap (row_at t n) (number ∙ at)
        ∙ ap (option_map (λ (e : Decoder). record { node = n; index = i; decoder = e })) ((own_decoders s t r same).there n i d here has ∙ sym here)
        ∙ sym (ap (row_at s n) at)

-- images with the same decoders of a region have the same rows of it
same_rows : (s t : System) (found : Found) → HaveSameDecoders s t (region_range found) → rows_of t found ≡ rows_of s found
same_rows s t found same =
    let each : row_for t (region_range found) ≡ row_for s (region_range found) = λ i n. same_row s t (region_range found) n same i in
    ap (λ (f : ℕ → Option Row). filter_map f (range_with_len 0 (length t.nodes))) each
    ∙ ap (λ (nodes : List Node). filter_map (row_for s (region_range found)) (range_with_len 0 (length nodes))) same.nodes

-- each row of a region stands in the image
pub rows_stand : (s : System) (found : Found) (rows : List Row) (blocks : List Registers) → rows ≡ rows_of s found → blocks ≡ s.blocks → All (IsRowOf blocks) rows
rows_stand s found rows blocks are same =
    subst (All (IsRowOf blocks)) (sym are)
    (all_rows s found (IsRowOf blocks) (λ n row is.
    let parts = row_parts s (region_range found) n row is in
    subst (λ (bs : List Registers). IsRowOf bs row) (sym same) (subst (λ (m : ℕ). decoder_at s m row.index ≡ Some row.decoder) (sym parts.node) parts.here)))

-- ---- the turn

-- a region of this name is kept, and these are its spans and its rows
pub record IsShown (session : SessionState) (name : List ℕ) (place : ℕ) (found : Found) (rows : List Row) : Type 0 where
  pub named : (m : Machine) → StandsFor session m → IsNamedAt session m name (Some place)
  pub there : slice_get session.founds place ≡ Some found
  pub rows_are : rows ≡ rows_of (system_of session.image session.topo []) found

module _ (law : StaysLaw) (session : SessionState) (name : List ℕ) (place : ℕ) (found : Found) (rows : List Row) (is : IsShown session name place found rows) (old new : RegsState) (media : MediaState) where
  module _ (m : Machine) (at : IsAt session old media m) where
    region : (r : Live) × (live_named m name ≡ Some r) × StandsAt session m place r
    region = is.named m at.stands

    same_found : region.0.found ≡ found
    same_found = same_Some region.0.found found (sym region.2.found ∙ is.there)

    rows_same : rows ≡ rows_of m.settled region.0.found
    rows_same =
        let here : Contains m.live region.0 = contains_at m.live place region.0 region.2.there in
        is.rows_are ∙ ap (rows_of (system_of session.image session.topo [])) (sym same_found)
        ∙ ap (λ (blocks : List Registers). rows_of (system_of blocks session.topo []) region.0.found) at.stands.image
        ∙ sym (ap (λ (nodes : List Node). rows_of (record { nodes = nodes; blocks = image_of m; windows = [] }) region.0.found) at.stands.nodes)
        ∙ same_rows m.settled (present m) region.0.found (law m region.0 at.sound.machine here).2

  at_again : (m : Machine) → IsAt session old media m → IsUntouched old new → IsAt session new media m
  at_again m at same = record {
    stands = at.stands;
    sound = record { machine = at.sound.machine; registers = same.blocks ∙ at.sound.registers; memory = at.sound.memory; frames = at.sound.frames };
  }

  -- all words are read
  pub shown_turn : HasRead old new → IsTurnFor session session old new media media (commands.Show name) (replies.Shown record { name = name; found = found; rows = map shown_row rows })
  shown_turn read m at =
      let one = region m at in
      let own = one.0 in
      let answer : show_answer m name ≡ stays m (replies.Shown (shown m own)) = ap (λ (o : Option Live). option_map_or (λ (r : Live). stays m (replies.Shown (shown m r))) o (stays m (replies.NoRegion name))) one.1 in (
        record { reply = replies.Shown (shown m own); machine = m; trail = []; failed = [] },
        (NoFault, sym answer, refl, refl),
        record {
          told =
              ap (λ (n : List ℕ). replies.Shown record { name = n; found = found; rows = map shown_row rows }) (sym (name_at m name own one.1))
              ∙ ap (λ (f : Found). replies.Shown record { name = own.name; found = f; rows = map shown_row rows }) (sym (same_found m at))
              ∙ ap (λ (rs : List Row). replies.Shown record { name = own.name; found = own.found; rows = map shown_row rs }) (rows_same m at);
          at = at_again m at read.same;
          words = read.same.trail ∙ trail_nothing old.trail;
          fails = read.unfailed;
        },
      )

  -- a read failed
  pub unread_turn : IsUntouched old new → HasFailed old new (0 ∷ []) → IsTurnFor session session old new media media (commands.Show name) replies.BusRead
  unread_turn same fails m at =
      let one = region m at in (
        record { reply = replies.BusRead; machine = m; trail = []; failed = 0 ∷ [] },
        (ReadFailed, (ap (λ (o : Option Live). is_some o) one.1, refl), refl, refl),
        record {
          told = refl;
          at = at_again m at same;
          words = same.trail ∙ trail_nothing old.trail;
          fails = fails;
        },
      )

-- no region has the name
pub unnamed_turn : (session : SessionState) (name : List ℕ) (regs : RegsState) (media : MediaState) → ((m : Machine) → StandsFor session m → IsNamedAt session m name None)
    → IsTurnFor session session regs regs media media (commands.Show name) (replies.NoRegion name)
unnamed_turn session name regs media none = still session regs media (commands.Show name) (replies.NoRegion name)
    (λ m at. (sym (ap (λ (o : Option Live). option_map_or (λ (r : Live). stays m (replies.Shown (shown m r))) o (stays m (replies.NoRegion name))) (none m at.stands)), refl))

-- a region that has it is shown, or a read fails
pub named_unrefused : (m : Machine) (name : List ℕ) (region : Live) → live_named m name ≡ Some region → is_refusal (show_answer m name).reply ≡ true → ⊥
named_unrefused m name region named refused =
    false≢true
    (ap (λ (o : Option Live). is_refusal (option_map_or (λ (r : Live). stays m (replies.Shown (shown m r))) o (stays m (replies.NoRegion name))).reply) (sym named) ∙ refused)
