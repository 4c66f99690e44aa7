-- What the writer writes is a file of the image.
use Rattle.std.proofs.Common.{◌≡◌, ℕ, zero, suc, ◌+◌, ◌*◌, ◌/◌, ◌%◌, ◌^◌, ◌<◌, ◌≤◌, Bool, true, false, IsTrue, not, leb, ltb, eqb, ◌&&◌, ◌||◌, List, [], ◌∷◌, ◌++◌, length, map, take, drop, get_or, sum_by, codes, Some, refl, sym, ap, subst, ◌∙◌, inl, inr, append_assoc, arith, length-append}
use Rattle.std.proofs.lemmas.Bool.{and_parts, ltb-true}
use Rattle.std.proofs.lemmas.Grind.{flat_map-append}
use Rattle.std.proofs.lemmas.List.{append-nil, same_lists, get_or_default, take_more, take_all, drop_at, drop_more, drop-drop, take-append-drop}
use Rattle.std.proofs.lemmas.List.Concat.{length-flat_map}
use Rattle.std.proofs.lemmas.List.Elements.{All-nil, All-head, All-tail, All-append, All-from_recursion}
use Rattle.std.proofs.lemmas.List.Sums.{sum_by-cons, sum_by-le}
use Rattle.std.proofs.lemmas.Option.{slice_get_within, slice_get_cases, get_or_from_slice_get}
use Rattle.std.specs.Prelude.{slice_get, All}
use Rattle.std.specs.List.{flat_map, range_with_len}
use Rattle.byteorder.specs.Endian.{little_number}
use Rattle.byteorder.specs.Numbers.{little_number-reads_back, length-bytes_low_first}
use Rattle.cxl_enc.specs.Caps.{bit_of, is_legal_cap, has_named_bits, has_own_bits, decoders_code, decoders_of}
use Rattle.cxl_regs.specs.declared.decoder.Decoder.{Decoder}
use Rattle.cxl_regs.specs.Registers.{Registers, IsBlock, IsDecoder}
use Rattle.cxl_regs.specs.Words.{has_bit, low_half, high_half, control_of, words_of, decoder_of, head_words}
use Rattle.cxl_topo.specs.declared.node.Node.{Node}
use Rattle.cxl_regs.proofs.Fields.{bit_of_le}
use Rattle.cxl_image.specs.Images.{IsImage, IsBlockOf, HasCapsOf}
use Rattle.cxl_image.specs.Fields.{decoder_count, block_size, start_of, word_from, words_from, count_said, named_bits, decoder_from, block_from, image_limit}
use Rattle.cxl_image.specs.File.{IsImageFile}
use Rattle.cxl_image.specs.Text.{word_bytes, words_text, block_words, block_text, image_text}
use Rattle.cxl_image.proofs.Ranges.{range_at, length-range}
use Rattle.cxl_image.proofs.AfterWrite.{block_there}
use Rattle.cxl_image.proofs.Places.{few_decoders}

-- ---- words one after the other

words_append : (xs ys : List ℕ) → words_text (xs ++ ys) ≡ words_text xs ++ words_text ys
unfolding words_text
words_append xs ys = flat_map-append word_bytes xs ys

length-words_text : (ws : List ℕ) → length (words_text ws) ≡ 4 * length ws
unfolding words_text word_bytes
length-words_text [] = refl
length-words_text (w ∷ ws) = let more = length-words_text ws in omega arith

-- what is appended for one element more
pub appended_more : {X : Type 0} (f : X → List ℕ) (start out next : List ℕ) (xs : List X) (i : ℕ) (d : X) → i < length xs → out ≡ start ++ flat_map f (take i xs) → next ≡ out ++ f (get_or xs i d)
    → next ≡ start ++ flat_map f (take (i + 1) xs)
appended_more {X} f start out next xs i d within so_far pushed =
    let x : X = get_or xs i d in
    let more : flat_map f (take (i + 1) xs) ≡ flat_map f (take i xs) ++ f x =
    ap (flat_map f) (take_more xs i d within) ∙ flat_map-append f (take i xs) (x ∷ []) ∙ ap (λ (t : List ℕ). flat_map f (take i xs) ++ t) (append-nil (f x)) in
    pushed ∙ ap (λ (t : List ℕ). t ++ f x) so_far ∙ append_assoc start (flat_map f (take i xs)) (f x) ∙ ap (λ (t : List ℕ). start ++ t) (sym more)

-- the words of one decoder more
pub put_more : (start out next head : List ℕ) (ds : List Decoder) (i : ℕ) (d : Decoder) → out ≡ start ++ words_text (head ++ flat_map words_of (take i ds)) → next ≡ out ++ words_text (words_of d) → slice_get ds i ≡ Some d
    → next ≡ start ++ words_text (head ++ flat_map words_of (take (i + 1) ds))
put_more start out next head ds i d so_far pushed here =
    let before : List ℕ = flat_map words_of (take i ds) in
    let one_more : take (i + 1) ds ≡ take i ds ++ d ∷ [] =
    take_more ds i d (slice_get_within ds i d here) ∙ ap (λ (x : Decoder). take i ds ++ x ∷ []) (get_or_from_slice_get ds i d d here) in
    let more : flat_map words_of (take (i + 1) ds) ≡ before ++ words_of d =
    ap (flat_map words_of) one_more ∙ flat_map-append words_of (take i ds) (d ∷ []) in
    let words : head ++ flat_map words_of (take (i + 1) ds) ≡ (head ++ before) ++ words_of d =
    ap (λ (t : List ℕ). head ++ t) more ∙ sym (append_assoc head before (words_of d)) in
    pushed ∙ ap (λ (t : List ℕ). t ++ words_text (words_of d)) so_far
    ∙ append_assoc start (words_text (head ++ before)) (words_text (words_of d))
    ∙ ap (λ (t : List ℕ). start ++ t) (sym (words_append (head ++ before) (words_of d)) ∙ ap words_text (sym words))

-- ---- words that stand in bytes

pub record StandAt (bytes : List ℕ) (at : ℕ) (words : List ℕ) : Type 0 where
  pub rest : List ℕ
  pub there : drop at bytes ≡ words_text words ++ rest

first_word : (bytes : List ℕ) (at w : ℕ) (ws : List ℕ) → StandAt bytes at (w ∷ ws) → w < 2 ^ 32 → word_from bytes at ≡ w
unfolding word_from word_bytes words_text
first_word bytes at w ws stand fits =
    ap (little_number 4) (stand.there ∙ append_assoc (word_bytes w) (words_text ws) stand.rest) ∙ little_number-reads_back 4 w (words_text ws ++ stand.rest) fits

other_words : (bytes : List ℕ) (at w : ℕ) (ws : List ℕ) → StandAt bytes at (w ∷ ws) → StandAt bytes (at + 4) ws
unfolding word_bytes words_text
other_words bytes at w ws stand = record {
  rest = stand.rest;
  there = sym (drop-drop 4 at bytes) ∙ ap (drop 4) (stand.there ∙ append_assoc (word_bytes w) (words_text ws) stand.rest)
      ∙ drop_at (word_bytes w) (words_text ws ++ stand.rest) 4 (length-bytes_low_first 0 4 w);
}

stand_along : (bytes : List ℕ) (at to : ℕ) (ws : List ℕ) → at ≡ to → StandAt bytes at ws → StandAt bytes to ws
stand_along bytes at to ws e stand = subst (λ (p : ℕ). StandAt bytes p ws) e stand

stand_behind : (bytes : List ℕ) (at : ℕ) (xs ys : List ℕ) → StandAt bytes at (xs ++ ys) → StandAt bytes (at + 4 * length xs) ys
stand_behind bytes at [] ys stand = stand_along bytes at (at + 4 * 0) ys (omega arith) stand
stand_behind bytes at (x ∷ xs) ys stand =
    stand_along bytes ((at + 4) + 4 * length xs) (at + 4 * suc (length xs)) ys (omega arith) (stand_behind bytes (at + 4) xs ys (other_words bytes at x (xs ++ ys) stand))

stand_front : (bytes : List ℕ) (at : ℕ) (xs ys : List ℕ) → StandAt bytes at (xs ++ ys) → StandAt bytes at xs
stand_front bytes at xs ys stand = record {
  rest = words_text ys ++ stand.rest;
  there = stand.there ∙ ap (λ (t : List ℕ). t ++ stand.rest) (words_append xs ys) ∙ append_assoc (words_text xs) (words_text ys) stand.rest;
}

-- 32 bits hold it
abbrev IsWord : ℕ → Type 0
IsWord w = w < 2 ^ 32

nth_word : (bytes : List ℕ) (at : ℕ) (ws : List ℕ) (k : ℕ) → StandAt bytes at ws → All IsWord ws → k < length ws → word_from bytes (at + 4 * k) ≡ get_or ws k 0
nth_word bytes at [] k stand fits lt = absurd (omega arith)
nth_word bytes at (w ∷ ws) zero stand fits lt =
    let e : at + 4 * 0 ≡ at = omega arith in
    ap (word_from bytes) e ∙ first_word bytes at w ws stand (All-head IsWord w ws fits)
nth_word bytes at (w ∷ ws) (suc k) stand fits lt =
    let e : at + 4 * suc k ≡ (at + 4) + 4 * k = omega arith in
    ap (word_from bytes) e ∙ nth_word bytes (at + 4) ws k (other_words bytes at w ws stand) (All-tail IsWord w ws fits) (omega arith)

words_stand : (bytes : List ℕ) (at n : ℕ) (ws : List ℕ) → length ws ≡ n → StandAt bytes at ws → All IsWord ws → words_from bytes at n ≡ ws
unfolding words_from
words_stand bytes at n ws size stand fits =
    let f : ℕ → ℕ = λ k. word_from bytes (at + 4 * k) in
    let count : length (map f (range_with_len 0 n)) ≡ n = length-range f 0 n in
    same_lists (map f (range_with_len 0 n)) ws (count ∙ sym size) (λ k d h.
    let lt : k < n = omega (arith, count) in
    let within : k < length ws = omega (arith, size) in
    let same : 0 + k ≡ k = omega arith in
    range_at f 0 n k d lt ∙ ap f same ∙ nth_word bytes at ws k stand fits within ∙ get_or_default ws k 0 d within)

-- ---- the words of a block fit

low_fits : (n : ℕ) → IsWord (low_half n)
low_fits n = omega arith

high_fits : (n : ℕ) → n < 2 ^ 64 → IsWord (high_half n)
high_fits n lt = omega arith

control_fits : (d : Decoder) → d.ways < 16 → d.gran < 16 → IsWord (control_of d)
control_fits d ways gran =
    let b8 = bit_of_le d.lock in
    let b9 = bit_of_le d.commit in
    let b10 = bit_of_le d.committed in
    let b11 = bit_of_le d.error in
    let b12 = bit_of_le d.host_only in
    omega arith

decoder_fits : (endpoint : Bool) (d : Decoder) → IsDecoder endpoint d → All IsWord (words_of d)
decoder_fits endpoint d is =
    All-from_recursion IsWord (words_of d) (
      low_fits d.base,
      (
        high_fits d.base is.base.wide,
        (
          low_fits d.size,
          (
            high_fits d.size is.size.wide,
            (control_fits d is.ways is.gran, (low_fits d.tail, (high_fits d.tail is.tail, (omega arith, tt)))),
          ),
        ),
      ),
    )

decoders_fit : (endpoint : Bool) (ds : List Decoder) → All (IsDecoder endpoint) ds → All IsWord (flat_map words_of ds)
decoders_fit endpoint [] all = All-nil IsWord
decoders_fit endpoint (d ∷ ds) all =
    All-append IsWord (words_of d) (flat_map words_of ds) (decoder_fits endpoint d (All-head (IsDecoder endpoint) d ds all)) (decoders_fit endpoint ds (All-tail (IsDecoder endpoint) d ds all))

cap_fits : (cap : ℕ) (endpoint : Bool) → IsTrue (is_legal_cap cap endpoint) → IsWord cap
cap_fits cap endpoint legal =
    let named = (and_parts (has_named_bits cap) (has_own_bits cap endpoint) legal).0 in
    let below = ltb-true cap 8192 (and_parts (leb (decoders_code cap) 5 && eqb (cap / 1024 % 2) 0) (ltb cap 8192) named).1 in
    omega arith

head_fits : (block : Registers) → IsBlock block → All IsWord (head_words block)
head_fits block is =
    let bit = bit_of_le (block.endpoint && block.enabled) in
    All-from_recursion IsWord (head_words block) (cap_fits block.cap block.endpoint is.cap, (omega arith, (omega arith, (omega arith, tt))))

block_fits : (block : Registers) → IsBlock block → All IsWord (block_words block)
block_fits block is = All-append IsWord (head_words block) (flat_map words_of block.decoders) (head_fits block is) (decoders_fit block.endpoint block.decoders is.each)

-- ---- a block that stands in bytes is read

-- the registers of a decoder come back from its words
abbrev pub DecodersComeBack : Type 0
DecodersComeBack = (endpoint : Bool) (d : Decoder) → IsDecoder endpoint d → decoder_of (words_of d) endpoint ≡ d

decoders_stand : DecodersComeBack → (bytes : List ℕ) (base a : ℕ) (endpoint : Bool) (ds : List Decoder) → StandAt bytes (base + 32 * a) (flat_map words_of ds) → All (IsDecoder endpoint) ds
    → map (λ i. decoder_from bytes endpoint (base + 32 * i)) (range_with_len a (length ds)) ≡ ds
decoders_stand back bytes base a endpoint [] stand all = refl
decoders_stand back bytes base a endpoint (d ∷ ds) stand all =
    let is = All-head (IsDecoder endpoint) d ds all in
    let others : List ℕ = flat_map words_of ds in
    let words : words_from bytes (base + 32 * a) 8 ≡ words_of d = words_stand bytes (base + 32 * a) 8 (words_of d) refl (stand_front bytes (base + 32 * a) (words_of d) others stand) (decoder_fits endpoint d is) in
    let first : decoder_from bytes endpoint (base + 32 * a) ≡ d = ap (λ (ws : List ℕ). decoder_of ws endpoint) words ∙ back endpoint d is in
    let next : StandAt bytes (base + 32 * (a + 1)) others = stand_along bytes ((base + 32 * a) + 4 * 8) (base + 32 * (a + 1)) others (omega arith) (stand_behind bytes (base + 32 * a) (words_of d) others stand) in
    ap (λ (x : Decoder). x ∷ map (λ i. decoder_from bytes endpoint (base + 32 * i)) (range_with_len (a + 1) (length ds))) first
    ∙ ap (λ (xs : List Decoder). d ∷ xs) (decoders_stand back bytes base (a + 1) endpoint ds next (All-tail (IsDecoder endpoint) d ds all))

same_registers : (a b : Registers) → a.cap ≡ b.cap → a.endpoint ≡ b.endpoint → a.enabled ≡ b.enabled → a.decoders ≡ b.decoders → a ≡ b
same_registers a b cap endpoint enabled decoders =
    λ i. record { cap = cap i; endpoint = endpoint i; enabled = enabled i; decoders = decoders i }

enabled_back : (endpoint enabled : Bool) (w : ℕ) → (endpoint ≡ false → enabled ≡ true) → w ≡ 2 * bit_of (endpoint && enabled) → (not endpoint || has_bit w 1) ≡ enabled
enabled_back false enabled w port e = sym (port refl)
enabled_back true true w port e = rw e refl
enabled_back true false w port e = rw e refl

block_stands : DecodersComeBack → (bytes : List ℕ) (at : ℕ) (node : Node) (block : Registers) → StandAt bytes at (block_words block) → IsBlock block → IsBlockOf node block → block_from bytes at node ≡ block
block_stands back bytes at node block stand is of_node =
    let decoders : List ℕ = flat_map words_of block.decoders in
    let head : StandAt bytes at (head_words block) = stand_front bytes at (head_words block) decoders stand in
    let e : at + 4 * 1 ≡ at + 4 = omega arith in
    let control : word_from bytes (at + 4) ≡ 2 * bit_of (block.endpoint && block.enabled) = sym (ap (word_from bytes) e) ∙ nth_word bytes at (head_words block) 1 head (head_fits block is) (omega arith) in
    let behind : StandAt bytes ((at + 16) + 32 * 0) decoders = stand_along bytes (at + 4 * 4) ((at + 16) + 32 * 0) decoders (omega arith) (stand_behind bytes at (head_words block) decoders stand) in
    let count : decoder_count node ≡ length block.decoders = ap (λ (cap : ℕ). decoders_of (decoders_code cap)) (sym of_node.cap) ∙ sym is.count in
    same_registers (block_from bytes at node) block
    (sym of_node.cap)
    (sym of_node.endpoint)
    (ap (λ (endpoint : Bool). not endpoint || has_bit (word_from bytes (at + 4)) 1) (sym of_node.endpoint) ∙ enabled_back block.endpoint block.enabled (word_from bytes (at + 4)) is.enabled control)
    (ap (λ (endpoint : Bool). map (λ i. decoder_from bytes endpoint (at + 16 + 32 * i)) (range_with_len 0 (decoder_count node))) (sym of_node.endpoint)
    ∙ ap (λ (n : ℕ). map (λ i. decoder_from bytes block.endpoint (at + 16 + 32 * i)) (range_with_len 0 n)) count
    ∙ decoders_stand back bytes (at + 16) 0 block.endpoint block.decoders behind is.each)

-- ---- how long it is

length-decoder_words : (ds : List Decoder) → length (flat_map words_of ds) ≡ 8 * length ds
length-decoder_words [] = refl
length-decoder_words (d ∷ ds) = let more = length-decoder_words ds in omega arith

length-block_text : (block : Registers) → IsBlock block → length (block_text block) ≡ 16 + 32 * decoders_of (decoders_code block.cap)
length-block_text block is =
    omega (arith, length-words_text (block_words block), length-append (head_words block) (flat_map words_of block.decoders), length-decoder_words block.decoders, is.count)

block_text_of : (node : Node) (block : Registers) → IsBlock block → IsBlockOf node block → length (block_text block) ≡ block_size node
block_text_of node block is of_node = length-block_text block is ∙ ap (λ (cap : ℕ). 16 + 32 * decoders_of (decoders_code cap)) of_node.cap

-- sums over two lists that agree place by place
sums_same : {X Y : Type 0} (f : X → ℕ) (g : Y → ℕ) (xs : List X) (ys : List Y) (i : ℕ) → length xs ≡ length ys → ((k : ℕ) (x : X) (y : Y) → slice_get xs k ≡ Some x → slice_get ys k ≡ Some y → f x ≡ g y)
    → sum_by f (take i xs) ≡ sum_by g (take i ys)
sums_same f g xs ys zero size same = refl
sums_same f g [] [] (suc i) size same = refl
sums_same f g [] (y ∷ ys) (suc i) size same = absurd (omega arith)
sums_same f g (x ∷ xs) [] (suc i) size same = absurd (omega arith)
sums_same f g (x ∷ xs) (y ∷ ys) (suc i) size same =
    let first : f x ≡ g y = same 0 x y refl refl in
    let others = sums_same f g xs ys i (omega arith) (λ k. same (suc k)) in
    sum_by-cons f x (take i xs) ∙ omega (arith, first, others) ∙ sym (sum_by-cons g y (take i ys))

starts_same : (blocks : List Registers) (nodes : List Node) (i : ℕ) → IsImage blocks → HasCapsOf blocks nodes → sum_by (λ block. length (block_text block)) (take i blocks) ≡ sum_by block_size (take i nodes)
starts_same blocks nodes i is caps =
    sums_same (λ block. length (block_text block)) block_size blocks nodes i caps.count
    (λ k block node at here. block_text_of node block (block_there blocks k block is at) (caps.each k block node at here))

-- ---- an image that is written

-- the magic and the number of nodes
abbrev head_text : List Registers → List ℕ
head_text blocks = codes "CXLHDM01" ++ word_bytes (length blocks)

length-head_text : (blocks : List Registers) → length (head_text blocks) ≡ 12
unfolding word_bytes
length-head_text blocks = refl

image_stands : (blocks : List Registers) (nodes : List Node) (i : ℕ) (block : Registers) → IsImage blocks → HasCapsOf blocks nodes → slice_get blocks i ≡ Some block → StandAt (image_text blocks) (start_of nodes i) (block_words block)
image_stands blocks nodes i block is caps here =
    let lt : i < length blocks = slice_get_within blocks i block here in
    let before : List ℕ = flat_map block_text (take i blocks) in
    let behind : List ℕ = flat_map block_text (drop (i + 1) blocks) in
    let parts : flat_map block_text blocks ≡ before ++ (block_text block ++ behind) =
    ap (flat_map block_text) (sym (take-append-drop i blocks)) ∙ flat_map-append block_text (take i blocks) (drop i blocks)
    ∙ ap (λ (bs : List Registers). before ++ flat_map block_text bs) (drop_more blocks i block lt ∙ ap (λ (b : Registers). b ∷ drop (i + 1) blocks) (get_or_from_slice_get blocks i block block here)) in
    let whole : image_text blocks ≡ (head_text blocks ++ before) ++ (block_text block ++ behind) =
    ap (λ (t : List ℕ). head_text blocks ++ t) parts ∙ sym (append_assoc (head_text blocks) before (block_text block ++ behind)) in
    let size : length (head_text blocks ++ before) ≡ start_of nodes i =
    length-append (head_text blocks) before ∙ omega (arith, length-head_text blocks, length-flat_map block_text (take i blocks), starts_same blocks nodes i is caps) in
    record {
      rest = behind;
      there = ap (drop (start_of nodes i)) whole ∙ drop_at (head_text blocks ++ before) (block_text block ++ behind) (start_of nodes i) size;
    }

length-image_text : (blocks : List Registers) → length (image_text blocks) ≡ 12 + sum_by (λ block. length (block_text block)) blocks
length-image_text blocks = omega (arith, length-append (head_text blocks) (flat_map block_text blocks), length-head_text blocks, length-flat_map block_text blocks)

count_stands : (blocks : List Registers) → length blocks ≤ 1024 → count_said (image_text blocks) ≡ length blocks
unfolding word_from word_bytes
count_stands blocks few =
    let n : ℕ = length blocks in
    let more : List ℕ = flat_map block_text blocks in
    ap (λ (t : List ℕ). little_number 4 (drop 8 t)) (append_assoc (codes "CXLHDM01") (word_bytes n) more)
    ∙ ap (little_number 4) (drop_at (codes "CXLHDM01") (word_bytes n ++ more) 8 refl) ∙ little_number-reads_back 4 n more (omega arith)

-- a node's block
node_block : (blocks : List Registers) (nodes : List Node) (i : ℕ) (node : Node) → HasCapsOf blocks nodes → slice_get nodes i ≡ Some node → (block : Registers) × (slice_get blocks i ≡ Some block)
node_block blocks nodes i node caps here = elim (slice_get_cases blocks i).1 [
  | inl at ↦ (at.0, at.2)
  | inr past ↦ let lt = slice_get_within nodes i node here in let le = past.0 in absurd (omega (arith, caps.count))
]

caps_stand : (blocks : List Registers) (nodes : List Node) (i : ℕ) (node : Node) → IsImage blocks → HasCapsOf blocks nodes → slice_get nodes i ≡ Some node
    → named_bits (word_from (image_text blocks) (start_of nodes i)) ≡ named_bits node.cap
caps_stand blocks nodes i node is caps here =
    let (block, at) = node_block blocks nodes i node caps here in
    let stand = image_stands blocks nodes i block is caps at in
    let fits = block_there blocks i block is at in
    let others : List ℕ = 2 * bit_of (block.endpoint && block.enabled) ∷ 0 ∷ 0 ∷ flat_map words_of block.decoders in
    ap named_bits (first_word (image_text blocks) (start_of nodes i) block.cap others stand (cap_fits block.cap block.endpoint fits.cap) ∙ (caps.each i block node at here).cap)

pub image_is_file : DecodersComeBack → (blocks : List Registers) (nodes : List Node) → IsImage blocks → HasCapsOf blocks nodes → IsImageFile (image_text blocks) nodes blocks
image_is_file back blocks nodes is caps = record {
  whole =
      let all : sum_by (λ block. length (block_text block)) (take (length blocks) blocks) ≡ sum_by block_size (take (length blocks) nodes) = starts_same blocks nodes (length blocks) is caps in
      length-image_text blocks ∙ ap (λ (bs : List Registers). 12 + sum_by (λ block. length (block_text block)) bs) (sym (take_all (length blocks) blocks (omega arith)))
      ∙ ap (λ (n : ℕ). 12 + n) all ∙ ap (start_of nodes) caps.count;
  agrees = record {
    magic = λ le. refl;
    count = λ le. count_stands blocks is.few ∙ caps.count;
    caps = λ i node here le. caps_stand blocks nodes i node is caps here;
  };
  count = caps.count;
  each = λ i node here.
      let (block, at) = node_block blocks nodes i node caps here in
      let stand = image_stands blocks nodes i block is caps at in
      at ∙ ap Some (sym (block_stands back (image_text blocks) (start_of nodes i) node block stand (block_there blocks i block is at) (caps.each i block node at here)));
}

-- ---- and its length

pub image_short : (blocks : List Registers) → IsImage blocks → length (image_text blocks) ≤ image_limit
image_short blocks is =
    let each : All (λ block. length (block_text block) ≤ 336) blocks = λ k d lt.
    let block = is.each k d lt in
    let few = few_decoders (get_or blocks k d).cap (get_or blocks k d).endpoint block.cap in
    omega (arith, length-block_text (get_or blocks k d) block) in
    let sum = sum_by-le (λ block. length (block_text block)) 336 blocks each in
    let few = is.few in
    omega (arith, length-image_text blocks, sum)
