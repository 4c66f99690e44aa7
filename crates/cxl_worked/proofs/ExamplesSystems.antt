-- Tests that compute whether nodes are a legal tree with blocks of their own.
use Rattle.std.proofs.Common.{◌≡◌, ℕ, Bool, true, false, ◌&&◌, ◌||◌, ◌%◌, ◌^◌, List, length, take, Option, Some, None, inl, inr, [], ◌∷◌, refl, sym, ap, ◌∙◌, subst, arith}
use Rattle.std.specs.Prelude.{slice_get, ◌==◌, nat_lt, All, Contains, slice_index_or, if◌then◌else◌}
use Rattle.std.proofs.lemmas.Option.{slice_get_past, slice_get_within, slice_get_read}
use Rattle.std.specs.Bool.{beq}
use Rattle.std.specs.List.{list_all, list_any}
use Rattle.std.proofs.lemmas.List.Elements.{All-nil, All-cons}
use Rattle.std.proofs.lemmas.Bool.{agree_below, agree_below_at, cases_lt, eqb-true, eqb-false, ltb-true, and_parts, false≢true}
use Rattle.cxl_topo.specs.declared.node.Node.{Node}
use Rattle.cxl_topo.specs.declared.fault.TreeFault.{TreeFault}
use Rattle.cxl_topo.specs.declared.fault.TreeFault.TheVariants as faults
use Rattle.cxl_topo.specs.Tree.{holds_at}
use Rattle.cxl_topo.specs.Kinds.{is_endpoint}
use Rattle.cxl_topo.specs.Faults.{fits, are_too_many, lacks_parent, has_taken_port, forks, has_taken_name, has_taken_uid, is_too_deep, has_wrong_caps, has_wrong_capacity}
use Rattle.cxl_regs.specs.declared.decoder.Decoder.{Decoder}
use Rattle.cxl_regs.specs.Registers.{Registers, IsAligned, IsDecoder, IsBlock}
use Rattle.cxl_enc.specs.Caps.{is_legal_cap, decoders_code, decoders_of}
use Rattle.cxl_enc.proofs.Tests.{asked_of}
use Rattle.cxl_enc.proofs.Lists.{in_is}
use Rattle.cxl_window.specs.Fields.{WindowFields, IsWindow, IsUsable, AreDistinct}
use Rattle.cxl_window.specs.declared.window.Verdict.TheVariants.{Usable}
use Rattle.cxl_window.specs.Windows.{AreMadeWith}
use Rattle.cxl_worked.proofs.ExamplesRegions.{only_one}
use Rattle.cxl_image.specs.Images.{HasCapsOf}

-- no node has what a fault says of one
abbrev pub none_has : List Node → (ℕ → Node → Bool) → Bool
none_has nodes test = agree_below (λ i. holds_at nodes i (test i)) (λ i. false) (length nodes)

no_node : (nodes : List Node) (test : ℕ → Node → Bool) → none_has nodes test ≡ true → (i : ℕ) → holds_at nodes i (test i) ≡ false
no_node nodes test none i =
    elim (cases_lt i (length nodes)) [
      | inl below ↦ agree_below_at (λ j. holds_at nodes j (test j)) (λ j. false) (length nodes) i none below
      | inr past ↦ rw (slice_get_past nodes i past) refl
    ]

-- what no fault says of the nodes, test by test
pub record IsFree (nodes : List Node) : Type 0 where
  pub few : are_too_many nodes ≡ false
  pub parents : none_has nodes (λ i. lacks_parent (take i nodes)) ≡ true
  pub ports : none_has nodes (λ i. has_taken_port (take i nodes)) ≡ true
  pub forks : none_has nodes (λ i. forks (take i nodes)) ≡ true
  pub names : none_has nodes (λ i. has_taken_name (take i nodes)) ≡ true
  pub uids : none_has nodes (λ i. has_taken_uid (take i nodes)) ≡ true
  pub depths : none_has nodes (is_too_deep nodes) ≡ true
  pub caps : none_has nodes (λ i. has_wrong_caps) ≡ true
  pub capacities : none_has nodes (λ i. has_wrong_capacity) ≡ true

pub none_fits : (nodes : List Node) → IsFree nodes → (fault : TreeFault) → fits nodes fault ≡ false
none_fits nodes free faults.TooMany = free.few
none_fits nodes free (faults.NoParent i) = no_node nodes (λ j. lacks_parent (take j nodes)) free.parents i
none_fits nodes free (faults.PortTaken i) = no_node nodes (λ j. has_taken_port (take j nodes)) free.ports i
none_fits nodes free (faults.Forks i) = no_node nodes (λ j. forks (take j nodes)) free.forks i
none_fits nodes free (faults.NameTaken i) = no_node nodes (λ j. has_taken_name (take j nodes)) free.names i
none_fits nodes free (faults.UidTaken i) = no_node nodes (λ j. has_taken_uid (take j nodes)) free.uids i
none_fits nodes free (faults.Depth i) = no_node nodes (is_too_deep nodes) free.depths i
none_fits nodes free (faults.Caps i) = no_node nodes (λ j. has_wrong_caps) free.caps i
none_fits nodes free (faults.Capacity i) = no_node nodes (λ j. has_wrong_capacity) free.capacities i
none_fits nodes free faults.Memory = refl

-- ---- blocks

-- a block has its node's capability word and kind
abbrev fits_node : Option Registers → Option Node → Bool
fits_node None _ = true
fits_node (Some block) None = true
fits_node (Some block) (Some node) = (block.cap == node.cap) && beq block.endpoint (is_endpoint node.kind)

abbrev pub blocks_fit : List Registers → List Node → Bool
blocks_fit blocks nodes = agree_below (λ i. fits_node (slice_get blocks i) (slice_get nodes i)) (λ i. true) (length nodes)

same_Bool : (a b : Bool) → beq a b ≡ true → a ≡ b
same_Bool true true e = refl
same_Bool true false e = absurd (false≢true e)
same_Bool false true e = absurd (false≢true e)
same_Bool false false e = refl

fits_both : (block : Registers) (node : Node) (a : Option Registers) (b : Option Node) → a ≡ Some block → b ≡ Some node → fits_node a b ≡ true
    → fits_node (Some block) (Some node) ≡ true
fits_both block node a b at there fits = subst (λ (x : Option Node). fits_node (Some block) x ≡ true) there (subst (λ (x : Option Registers). fits_node x b ≡ true) at fits)

pub has_caps_of : (blocks : List Registers) (nodes : List Node) → length blocks ≡ length nodes → blocks_fit blocks nodes ≡ true → HasCapsOf blocks nodes
has_caps_of blocks nodes count fit = record {
  count = count;
  each = λ i block node at there. (
      let fits = agree_below_at (λ j. fits_node (slice_get blocks j) (slice_get nodes j)) (λ j. true) (length nodes) i fit (slice_get_within nodes i node there) in
      let both = and_parts (block.cap == node.cap) (beq block.endpoint (is_endpoint node.kind)) (fits_both block node _ _ at there fits) in
      record { cap = eqb-true block.cap node.cap both.0; endpoint = same_Bool block.endpoint (is_endpoint node.kind) both.1 });
}

-- what the words of a decoder can hold, as a test
abbrev pub is_aligned : ℕ → Bool
is_aligned n = (n % 2 ^ 28 == 0) && nat_lt n (2 ^ 64)

abbrev pub is_decoder : Bool → Decoder → Bool
is_decoder endpoint d =
    is_aligned d.base && is_aligned d.size && nat_lt d.ways 16 && nat_lt d.gran 16 && nat_lt d.tail (2 ^ 64)
    && (if endpoint then d.tail % 2 ^ 28 == 0 else true)

aligned_from : (n : ℕ) → is_aligned n ≡ true → IsAligned n
aligned_from n is =
    let parts = and_parts (n % 2 ^ 28 == 0) (nat_lt n (2 ^ 64)) is in
    record { multiple = eqb-true (n % 2 ^ 28) 0 parts.0; wide = ltb-true n (2 ^ 64) parts.1 }

skip_from : (endpoint : Bool) (tail : ℕ) → (if endpoint then tail % 2 ^ 28 == 0 else true) ≡ true → endpoint ≡ true → tail % 2 ^ 28 ≡ 0
skip_from true tail is of = eqb-true (tail % 2 ^ 28) 0 is
skip_from false tail is of = absurd (false≢true of)

pub decoder_from : (endpoint : Bool) (d : Decoder) → is_decoder endpoint d ≡ true → IsDecoder endpoint d
decoder_from endpoint d is =
    let to_skip = and_parts _ _ is in
    let to_tail = and_parts _ _ to_skip.0 in
    let to_gran = and_parts _ _ to_tail.0 in
    let to_ways = and_parts _ _ to_gran.0 in
    let to_size = and_parts _ _ to_ways.0 in
    record {
      base = aligned_from d.base to_size.0;
      size = aligned_from d.size to_size.1;
      ways = ltb-true d.ways 16 to_ways.1;
      gran = ltb-true d.gran 16 to_gran.1;
      tail = ltb-true d.tail (2 ^ 64) to_tail.1;
      skip = skip_from endpoint d.tail to_skip.1;
    }

decoders_from : (endpoint : Bool) (decoders : List Decoder) → list_all (is_decoder endpoint) decoders ≡ true → All (IsDecoder endpoint) decoders
decoders_from endpoint [] all = All-nil (IsDecoder endpoint)
decoders_from endpoint (d ∷ ds) all =
    let parts = and_parts (is_decoder endpoint d) (list_all (is_decoder endpoint) ds) all in
    All-cons (IsDecoder endpoint) d ds (decoder_from endpoint d parts.0) (decoders_from endpoint ds parts.1)

abbrev pub is_block : Registers → Bool
is_block block =
    is_legal_cap block.cap block.endpoint && (block.endpoint || block.enabled) && (length block.decoders == decoders_of (decoders_code block.cap))
    && list_all (is_decoder block.endpoint) block.decoders

block_from : (block : Registers) → is_block block ≡ true → IsBlock block
block_from block is =
    let to_each = and_parts _ _ is in
    let to_count = and_parts _ _ to_each.0 in
    let to_enabled = and_parts _ _ to_count.0 in
    record {
      cap = to_enabled.0;
      enabled = asked_of block.endpoint block.enabled to_enabled.1;
      count = eqb-true (length block.decoders) (decoders_of (decoders_code block.cap)) to_count.1;
      each = decoders_from block.endpoint block.decoders to_each.1;
    }

pub blocks_from : (blocks : List Registers) → list_all is_block blocks ≡ true → All IsBlock blocks
blocks_from [] all = All-nil IsBlock
blocks_from (block ∷ blocks) all =
    let parts = and_parts (is_block block) (list_all is_block blocks) all in
    All-cons IsBlock block blocks (block_from block parts.0) (blocks_from blocks parts.1)

-- ---- one window

zero_at : (w v : WindowFields) (i : ℕ) → slice_get (w ∷ []) i ≡ Some v → i ≡ 0
zero_at w v i at = let within = slice_get_within (w ∷ []) i v at in omega arith

-- a window alone in its table
pub made_alone : (w : WindowFields) (bridges : List ℕ) → w.index ≡ 0 → IsWindow w → IsUsable w → All (λ u. Contains bridges u) w.targets → AreMadeWith (w ∷ []) bridges
made_alone w bridges first window usable targets = record {
  each = All-cons IsWindow w [] window (All-nil IsWindow);
  indexed = λ i v at. ap (λ (x : WindowFields). x.index) (sym (only_one w v i at)) ∙ first ∙ sym (zero_at w v i at);
  usable = All-cons (λ v. v.verdict ≡ Usable → IsUsable v × All (λ u. Contains bridges u) v.targets) w [] (λ is. (usable, targets)) (All-nil _);
  apart = λ a b a_there b_there h ua ub a_from a_to b_from b_to. (
      let a_at = slice_get_read (w ∷ []) 1 a_there.0 a refl a_there.1 (sym a_there.2) in
      let b_at = slice_get_read (w ∷ []) 1 b_there.0 b refl b_there.1 (sym b_there.2) in
      ap (λ (x : WindowFields). x.index) (sym (only_one w a a_there.0 a_at) ∙ only_one w b b_there.0 b_at));
}

-- ---- targets

-- each place holds another number than the places before it, whatever stands past the end
abbrev pub differ : List ℕ → ℕ → Bool
differ ns d = agree_below (λ j. agree_below (λ i. slice_index_or ns i d == slice_index_or ns j d) (λ i. false) j) (λ j. true) (length ns)

pub distinct_from : (ns : List ℕ) → ((d : ℕ) → differ ns d ≡ true) → AreDistinct ns
distinct_from ns differs i j d before within =
    eqb-false (slice_index_or ns i d) (slice_index_or ns j d)
    (agree_below_at (λ k. slice_index_or ns k d == slice_index_or ns j d) (λ k. false) j i
    (agree_below_at (λ m. agree_below (λ k. slice_index_or ns k d == slice_index_or ns m d) (λ k. false) m) (λ m. true) (length ns) j (differs d) within) before)

pub targets_from : (bridges us : List ℕ) → list_all (λ u. list_any (λ v. v == u) bridges) us ≡ true → All (λ u. Contains bridges u) us
targets_from bridges [] all = All-nil (λ u. Contains bridges u)
targets_from bridges (u ∷ us) all =
    let parts = and_parts (list_any (λ v. v == u) bridges) (list_all (λ n. list_any (λ v. v == n) bridges) us) all in
    All-cons (λ n. Contains bridges n) u us (in_is bridges u parts.0) (targets_from bridges us parts.1)
