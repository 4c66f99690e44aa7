-- Decoding is enabled in the endpoints of an image, a word each.
use Rattle.std.proofs.Common.{◌≡◌, ℕ, zero, suc, ◌+◌, ◌<◌, ◌≤◌, Bool, true, false, cond, if◌then◌else◌, List, [], ◌∷◌, ◌++◌, map, length, get_or, take, Option, Some, None, refl, sym, ap, ◌∙◌, subst, arith, append_assoc, length-append}
use Rattle.std.specs.Prelude.{slice_get, slice_set, filter, All, IsSomeAnd}
use Rattle.std.specs.Option.{option_map_or}
use Rattle.std.specs.List.{range_with_len}
use Rattle.std.proofs.lemmas.List.{take_more, map-append, length-set, length-map, length-take-le}
use Rattle.std.proofs.lemmas.List.Elements.{All-filter}
use Rattle.std.proofs.lemmas.List.FromFn.{length-range_with_len, get_or-range_with_len}
use Rattle.std.proofs.lemmas.List.Sums.{fold-append}
use Rattle.std.proofs.lemmas.Option.{slice_get_within, slice_get-get_or, get_or_from_slice_get}
use Rattle.cxl_enc.specs.Faults.{LeavesCount}
use Rattle.cxl_regs.specs.Registers.{Registers, IsBlock}
use Rattle.cxl_regs.specs.Words.{HasWord}
use Rattle.cxl_regs.specs.Writes.{after_word, after_global, dropped}
use Rattle.cxl_regs.specs.Blocks.{IsPlace, HasPlacesOf, blocks_after}
use Rattle.cxl_regs.proofs.DecoderRanges.{decoding}
use Rattle.cxl_topo.specs.declared.node.Node.{Node}
use Rattle.cxl_topo.specs.Kinds.{is_endpoint}
use Rattle.cxl_topo.specs.Tree.{is_endpoint_at}
use Rattle.cxl_bus.specs.declared.sent.Sent.{Sent}
use Rattle.cxl_bus.proofs.Failed.{fails_both, fails_nowhere}
use Rattle.cxl_bus.specs.Failed.{HasFailed}
use Rattle.cxl_bus.specs.RegsState.{RegsState, IsUntouched}
use Rattle.cxl_bus.specs.Trail.{trail_after, trail_with, blocks_sent}
use Rattle.cxl_bus.proofs.Trails.{trail_nothing, trail_more}
use Rattle.cxl_model.specs.System.{System, IsSystem}
use Rattle.cxl_machine.specs.Sound.{enabled_blocks}
use Rattle.cxl_opening.specs.Opening.{endpoints_in, enabling}
use Rattle.cxl_opening.specs.Opened.{StopsEnabling}

abbrev enables : ℕ → Sent
enables node = record { node = node; off = 4; value = 2 }

-- ---- one word

word_enables : (block : Registers) → block.endpoint ≡ true → (after_word block 4 2).block ≡ decoding block
unfolding after_word
word_enables block endpoint = ap (λ (e : Bool). (if e then after_global block 2 else dropped block).block) endpoint

still_decoding : (block : Registers) → block.enabled ≡ true → decoding block ≡ block
still_decoding block on = ap (λ (e : Bool). record block { enabled = e }) (sym on)

seam_get : (before : List Registers) (block : Registers) (blocks : List Registers) → slice_get (before ++ block ∷ blocks) (length before) ≡ Some block
seam_get [] block blocks = refl
seam_get (x ∷ before) block blocks = seam_get before block blocks

seam_set : (before : List Registers) (block new : Registers) (blocks : List Registers) → slice_set (before ++ block ∷ blocks) (length before) new ≡ before ++ new ∷ blocks
seam_set [] block new blocks = refl
seam_set (x ∷ before) block new blocks = ap (λ (xs : List Registers). x ∷ xs) (seam_set before block new blocks)

-- the word to an endpoint behind these blocks
word_at_seam : (before : List Registers) (block : Registers) (blocks : List Registers) → block.endpoint ≡ true
    → blocks_after (before ++ block ∷ blocks) (length before) 4 2 ≡ before ++ decoding block ∷ blocks
word_at_seam before block blocks endpoint =
    let all : List Registers = before ++ block ∷ blocks in
    ap (λ (o : Option Registers). option_map_or (λ b. slice_set all (length before) (after_word b 4 2).block) o all) (seam_get before block blocks)
    ∙ ap (slice_set all (length before)) (word_enables block endpoint)
    ∙ seam_set before block (decoding block) blocks

-- ---- a word to each endpoint

-- the test holds of the endpoints among these blocks, the first of which has this number; the others decode
abbrev Fits : (ℕ → Bool) → ℕ → List Registers → Type 0
Fits test from blocks = (j : ℕ) (block : Registers) → slice_get blocks j ≡ Some block → (test (from + j) ≡ block.endpoint) × (block.endpoint ≡ false → block.enabled ≡ true)

-- the numbers of those at which the test holds
abbrev passing : (ℕ → Bool) → ℕ → List Registers → List ℕ
passing test from blocks = filter test (range_with_len from (length blocks))

-- what a word to each endpoint among these blocks leaves, behind others
abbrev LeavesDecoding : (ℕ → Bool) → ℕ → List Registers → List Registers → Type 0
LeavesDecoding test from before blocks = blocks_sent (before ++ blocks) (enabling (passing test from blocks)) ≡ before ++ map decoding blocks

module _ (test : ℕ → Bool) (from : ℕ) (before : List Registers) (block : Registers) (blocks : List Registers) (here : length before ≡ from) (fits : Fits test from (block ∷ blocks))
    (rest : (new : Registers) → LeavesDecoding test (from + 1) (before ++ new ∷ []) blocks) where
  abbrev more : List ℕ
  more = passing test (from + 1) blocks

  first : test from ≡ block.endpoint
  first = ap test (let e : from ≡ from + 0 = omega arith in e) ∙ (fits 0 block refl).0

  behind : (new : Registers) → blocks_sent (before ++ new ∷ blocks) (enabling more) ≡ before ++ new ∷ map decoding blocks
  behind new =
      ap (λ (bs : List Registers). blocks_sent bs (enabling more)) (sym (append_assoc before (new ∷ []) blocks)) ∙ rest new
      ∙ append_assoc before (new ∷ []) (map decoding blocks)

  by_kind : (kind : Bool) → block.endpoint ≡ kind → LeavesDecoding test from before (block ∷ blocks)
  by_kind true is =
      ap (λ (t : Bool). blocks_sent (before ++ block ∷ blocks) (enabling (cond t (from ∷ more) more))) (first ∙ is)
      ∙ ap (λ (n : ℕ). blocks_sent (blocks_after (before ++ block ∷ blocks) n 4 2) (enabling more)) (sym here)
      ∙ ap (λ (bs : List Registers). blocks_sent bs (enabling more)) (word_at_seam before block blocks is)
      ∙ behind (decoding block)
  by_kind false is =
      ap (λ (t : Bool). blocks_sent (before ++ block ∷ blocks) (enabling (cond t (from ∷ more) more))) (first ∙ is)
      ∙ behind block ∙ ap (λ (b : Registers). before ++ b ∷ map decoding blocks) (sym (still_decoding block ((fits 0 block refl).1 is)))

enabled_from : (test : ℕ → Bool) (from : ℕ) (before blocks : List Registers) → length before ≡ from → Fits test from blocks → LeavesDecoding test from before blocks
enabled_from test from before [] here fits = refl
enabled_from test from before (block ∷ blocks) here fits =
    by_kind test from before block blocks here fits
    (λ new. enabled_from test (from + 1) (before ++ new ∷ []) blocks (length-append before (new ∷ []) ∙ ap (λ (n : ℕ). n + 1) here)
    (λ j b at. (ap test (let e : from + 1 + j ≡ from + suc j = omega arith in e) ∙ (fits (suc j) b at).0, (fits (suc j) b at).1)))
    block.endpoint refl

-- ---- of an image

module _ (start : System) (system : IsSystem start) where
  node_there : (j : ℕ) (block : Registers) → slice_get start.blocks j ≡ Some block → (node : Node) × (slice_get start.nodes j ≡ Some node)
  node_there j block at = go start.nodes j (let low = slice_get_within start.blocks j block at in let same = system.caps.count in omega arith)
    where
      go : (nodes : List Node) (j : ℕ) → j < length nodes → (node : Node) × (slice_get nodes j ≡ Some node)
      go [] j low = absurd (omega arith)
      go (x ∷ nodes) zero low = (x, refl)
      go (x ∷ nodes) (suc j) low = go nodes j (omega arith)

  fits : Fits (is_endpoint_at start.nodes) 0 start.blocks
  fits j block at =
      let node = node_there j block at in
      let kind : is_endpoint_at start.nodes j ≡ is_endpoint node.0.kind = ap (λ (o : Option Node). option_map_or (λ (n : Node). is_endpoint n.kind) o false) node.1 in
      let own = system.caps.each j block node.0 at node.1 in
      let low = slice_get_within start.blocks j block at in
      let is : IsBlock block = subst IsBlock (get_or_from_slice_get start.blocks j block block at) (system.blocks j block low) in
      (ap (is_endpoint_at start.nodes) (let e : 0 + j ≡ j = omega arith in e) ∙ kind ∙ sym own.endpoint, is.enabled)

  -- the words leave each block decoding
  pub enabled_all : blocks_sent start.blocks (enabling (endpoints_in start.nodes)) ≡ enabled_blocks start.blocks
  enabled_all =
      ap (λ (n : ℕ). blocks_sent start.blocks (enabling (filter (is_endpoint_at start.nodes) (range_with_len 0 n)))) (sym system.caps.count)
      ∙ enabled_from (is_endpoint_at start.nodes) 0 [] start.blocks refl fits

  -- each has its block
  pub endpoints_there : All (λ node. node < length start.blocks) (endpoints_in start.nodes)
  endpoints_there =
      All-filter (is_endpoint_at start.nodes) (λ node. node < length start.blocks) (range_with_len 0 (length start.nodes)) (λ k d low.
      let same = system.caps.count in
      let long = length-range_with_len 0 (length start.nodes) in
      let at = get_or-range_with_len 0 (length start.nodes) k d (omega (arith, low, long)) in
      omega (arith, low, long, at, same))

-- a block has a word at the offset 4
place_there : (blocks : List Registers) (node : ℕ) (d : Registers) → node < length blocks → IsPlace blocks node 4
place_there blocks node d low =
    subst (λ (o : Option Registers). IsSomeAnd o (λ block. HasWord block 4)) (sym (slice_get-get_or blocks node d low)) (record { whole = refl; inside = omega arith })

pub places_there : (blocks : List Registers) (nodes : List ℕ) → All (λ node. node < length blocks) nodes → All (λ node. IsPlace blocks node 4) nodes
places_there [] nodes all = λ k d low. absurd (let none : get_or nodes k d < 0 = all k d low in omega (arith, none))
places_there (block ∷ blocks) nodes all = λ k d low. place_there (block ∷ blocks) (get_or nodes k d) block (all k d low)

-- ---- one word more

enabling_more : (nodes : List ℕ) (i : ℕ) → i < length nodes → enabling (take (i + 1) nodes) ≡ enabling (take i nodes) ++ enables (get_or nodes i 0) ∷ []
enabling_more nodes i low = ap enabling (take_more nodes i 0 low) ∙ map-append enables (take i nodes) (get_or nodes i 0 ∷ [])

sent_more : (blocks : List Registers) (nodes : List ℕ) (i : ℕ) → i < length nodes
    → blocks_sent blocks (enabling (take (i + 1) nodes)) ≡ blocks_after (blocks_sent blocks (enabling (take i nodes))) (get_or nodes i 0) 4 2
sent_more blocks nodes i low =
    ap (blocks_sent blocks) (enabling_more nodes i low)
    ∙ fold-append (λ (now : List Registers) (word : Sent). blocks_after now word.node word.off word.value) blocks (enabling (take i nodes)) (enables (get_or nodes i 0) ∷ [])

length_after : (blocks : List Registers) (node off v : ℕ) → length (blocks_after blocks node off v) ≡ length blocks
length_after blocks node off v = go (slice_get blocks node)
  where
    go : (o : Option Registers) → length (option_map_or (λ block. slice_set blocks node (after_word block off v).block) o blocks) ≡ length blocks
    go None = refl
    go (Some block) = length-set blocks node (after_word block off v).block

-- ---- in an image

-- the first n of these endpoints decode
pub record HasDecoding (endpoints : List ℕ) (n : ℕ) (old new : List Registers) : Type 0 where
  pub sent : new ≡ blocks_sent old (enabling (take n endpoints))
  pub count : length new ≡ length old

pub decoding_more : (endpoints : List ℕ) (n : ℕ) (old now new : List Registers) → n < length endpoints → HasDecoding endpoints n old now → new ≡ blocks_after now (get_or endpoints n 0) 4 2 → HasDecoding endpoints (n + 1) old new
decoding_more endpoints n old now new low so_far is = record {
  sent = is ∙ ap (λ (bs : List Registers). blocks_after bs (get_or endpoints n 0) 4 2) so_far.sent ∙ sym (sent_more old endpoints n low);
  count = ap length is ∙ length_after now (get_or endpoints n 0) 4 2 ∙ so_far.count;
}

-- ---- on the bus

-- the first n of these endpoints were let decode
pub record HasEnabled (endpoints : List ℕ) (n : ℕ) (old new : RegsState) : Type 0 where
  pub blocks : new.blocks ≡ blocks_sent old.blocks (enabling (take n endpoints))
  pub words : new.trail ≡ trail_with old.trail (enabling (take n endpoints))
  pub places : HasPlacesOf old.blocks new.blocks
  pub counts : old.faults ≤ new.faults
  pub alone : new.counts_failures_alone ≡ old.counts_failures_alone
  pub unswallowed : LeavesCount old.counts_failures_alone old.faults new.faults
  pub unfailed : HasFailed old new []

pub enabled_none : (endpoints : List ℕ) (regs : RegsState) → HasEnabled endpoints 0 regs regs
enabled_none endpoints regs = record {
  blocks = refl;
  words = trail_nothing regs.trail;
  places = λ node off there. there;
  counts = omega arith;
  alone = refl;
  unswallowed = λ is. refl;
  unfailed = fails_nowhere regs;
}

pub enabled_more : (endpoints : List ℕ) (n : ℕ) (old now new : RegsState) → n < length endpoints → HasEnabled endpoints n old now → new.blocks ≡ blocks_after now.blocks (get_or endpoints n 0) 4 2
    → new.trail ≡ trail_after now.trail (get_or endpoints n 0) 4 2 → now.faults ≤ new.faults → new.counts_failures_alone ≡ now.counts_failures_alone
    → LeavesCount now.counts_failures_alone now.faults new.faults → HasFailed now new [] → ((blocks : List Registers) (node off v : ℕ) → HasPlacesOf blocks (blocks_after blocks node off v))
    → HasEnabled endpoints (n + 1) old new
enabled_more endpoints n old now new low so_far blocks trail counts alone unswallowed unfailed keep =
    let upto = so_far.counts in
    record {
      blocks = blocks ∙ ap (λ (bs : List Registers). blocks_after bs (get_or endpoints n 0) 4 2) so_far.blocks ∙ sym (sent_more old.blocks endpoints n low);
      words =
          trail ∙ trail_more old.trail now.trail (enabling (take n endpoints)) (get_or endpoints n 0) 4 2 so_far.words
          ∙ ap (trail_with old.trail) (sym (enabling_more endpoints n low));
      places = λ node off there. subst (λ (bs : List Registers). IsPlace bs node off) (sym blocks) (keep now.blocks (get_or endpoints n 0) 4 2 node off (so_far.places node off there));
      counts = omega arith;
      alone = alone ∙ so_far.alone;
      unswallowed = λ is. unswallowed (so_far.alone ∙ is) ∙ so_far.unswallowed is;
      unfailed = fails_both old now new (enabling (take n endpoints)) [] [] so_far.words so_far.unfailed unfailed;
    }

-- a write that failed changed nothing
pub enabled_stops : (endpoints : List ℕ) (n : ℕ) (old now new : RegsState) → n < length endpoints → HasEnabled endpoints n old now → IsUntouched now new → HasFailed now new (0 ∷ [])
    → StopsEnabling endpoints old new
enabled_stops endpoints n old now new low so_far untouched fails = record {
  n = n;
  part = low;
  blocks = untouched.blocks ∙ so_far.blocks;
  words = untouched.trail ∙ so_far.words;
  fails =
      let words : List Sent = enabling (take n endpoints) in
      let long = length-map (take n endpoints) enables in
      let some = length-take-le n endpoints (omega (arith, low)) in
      let place : length words + 0 ≡ n = omega (arith, long, some) in
      subst (λ (k : ℕ). HasFailed old new (k ∷ [])) place (fails_both old now new words [] (0 ∷ []) so_far.words so_far.unfailed fails);
}
