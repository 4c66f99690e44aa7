-- The writes of one row, forth and back.
use Rattle.std.proofs.Common.{◌≡◌, ℕ, ◌+◌, ◌-◌, ◌%◌, ◌^◌, ◌<◌, ◌≤◌, Bool, true, false, cond, List, [], ◌∷◌, set, drop, Option, Some, None, refl, sym, ap, ◌∙◌, subst, inl, inr, eq-eqb, arith}
use Rattle.std.specs.Prelude.{slice_get, slice_index, nat_lt, ◌==◌, unwrap_or}
use Rattle.std.proofs.lemmas.Bool.{le-ltb, cases_eq}
use Rattle.std.proofs.lemmas.List.{drop-set-lt}
use Rattle.cxl_enc.proofs.Lists.{get_other}
use Rattle.cxl_regs.specs.declared.decoder.Decoder.{Decoder}
use Rattle.cxl_regs.specs.declared.effect.CommitRule.{CommitRule}
use Rattle.cxl_regs.specs.declared.effect.Effect.{Effect}
use Rattle.cxl_regs.specs.declared.effect.Effect.TheVariants.{Written, Committed, Released, NotCommitted}
use Rattle.cxl_regs.specs.Registers.{Registers, IsDecoder}
use Rattle.cxl_regs.specs.Words.{words_of, control_of, low_half, high_half, top_bits, word_at, index_at, place_at, offset_of}
use Rattle.cxl_regs.specs.Rules.{first_broken_rule, before}
use Rattle.cxl_regs.specs.Writes.{with_decoder, with_low, with_word, any_committed, after_commit, after_decoder}
use Rattle.cxl_regs.specs.Blocks.{word_in}
use Rattle.cxl_model.specs.declared.plan.Row.{Row}
use Rattle.cxl_apply.specs.declared.write.Write.{Write}
use Rattle.cxl_apply.specs.Jobs.{unmarked, with_commit, word_write, commit_write, row_writes, release_write, HasWords}
use Rattle.cxl_apply.proofs.Places.{IsThere, put, same_put, put_step}
use Rattle.cxl_apply.proofs.Words.{low_back, low_back_whole, high_back, ControlReads, configured, word_put, control_put, commit_put, release_put}
use Rattle.cxl_apply.proofs.Walks.{Leads, leads_none, leads_more}

-- ---- words that are read

word_there : (block : Registers) (off i p : ℕ) (d : Decoder) → off % 4 ≡ 0 → 16 ≤ off → index_at off ≡ i → place_at off ≡ p → slice_get block.decoders i ≡ Some d
    → word_at block off ≡ slice_get (words_of d) p
word_there block off i p d whole far index place here =
    let past : nat_lt off 16 ≡ false = le-ltb off 16 far in
    rw (whole, past, index, place, here) refl

pub word_back : (blocks : List Registers) (n : ℕ) (block : Registers) (i p : ℕ) (d : Decoder) → IsThere blocks n block i d → p < 8
    → unwrap_or (word_in blocks n (offset_of i p)) 0 ≡ unwrap_or (slice_get (words_of d) p) 0
word_back blocks n block i p d is word =
    rw is.block_here (ap (λ (o : Option ℕ). unwrap_or o 0) (word_there block (offset_of i p) i p d (omega arith) (omega arith) (omega arith) (omega arith) is.here))

-- ---- the decoder of a create, after each of its writes

-- a commit that breaks this rule, or none
abbrev pub tried : Option CommitRule → Decoder → Decoder
tried None d = record d { commit = true; committed = true; error = false }
tried (Some rule) d = record d { commit = true; committed = false; error = true }

abbrev tried_effect : Option CommitRule → Effect
tried_effect None = Committed
tried_effect (Some rule) = NotCommitted rule

tried_is : (block : Registers) (i : ℕ) (d : Decoder) (rule : Option CommitRule) → after_commit block i d rule ≡ record { block = with_decoder block i (tried rule d); effect = tried_effect rule }
tried_is block i d None = refl
tried_is block i d (Some rule) = refl

abbrev made1 : Bool → Decoder → Decoder → Decoder
made1 e d r = with_word e d 0 (low_half r.base)

abbrev made2 : Bool → Decoder → Decoder → Decoder
made2 e d r = with_word e (made1 e d r) 1 (high_half r.base)

abbrev made3 : Bool → Decoder → Decoder → Decoder
made3 e d r = with_word e (made2 e d r) 2 (low_half r.size)

abbrev made4 : Bool → Decoder → Decoder → Decoder
made4 e d r = with_word e (made3 e d r) 3 (high_half r.size)

abbrev made5 : Bool → Decoder → Decoder → Decoder
made5 e d r = with_word e (made4 e d r) 5 (low_half r.tail)

abbrev made6 : Bool → Decoder → Decoder → Decoder
made6 e d r = with_word e (made5 e d r) 6 (high_half r.tail)

abbrev pub made7 : Bool → Decoder → Decoder → Decoder
made7 e d r = record (configured (made6 e d r) r) { commit = false; error = false }

-- the rule that its commit breaks
abbrev pub broken : Registers → ℕ → Decoder → Decoder → Option CommitRule
broken block i d r = first_broken_rule (with_decoder block i (made7 block.endpoint d r)) i (made7 block.endpoint d r)

abbrev pub made8 : Registers → ℕ → Decoder → Decoder → Decoder
made8 block i d r = tried (broken block i d r) (made7 block.endpoint d r)

-- ---- a create

-- what is known of the decoder in a row's place
pub record IsFree (blocks : List Registers) (row : Row) (block : Registers) (d : Decoder) : Type 0 where
  pub there : IsThere blocks row.node block row.index d
  pub is : IsDecoder block.endpoint d
  pub committed : d.committed ≡ false
  pub commit : d.commit ≡ false
  pub error : d.error ≡ false
  pub top : any_committed (drop (row.index + 1) block.decoders) ≡ false
  pub unlocked : row.decoder.lock ≡ false
  pub has : HasWords row.decoder
  pub own : ControlReads d
  pub reads : ControlReads (unmarked row.decoder)
  pub asks : ControlReads (with_commit row.decoder)

-- P holds of the blocks where a decoder that is not committed stands in the row's place, and where its commit was tried
pub record HoldsOnWay (P : List Registers → Type 0) (blocks : List Registers) (row : Row) (block : Registers) (d : Decoder) : Type 0 where
  pub free : (new : Decoder) → new.committed ≡ false → new.commit ≡ false → new.error ≡ false → P (put blocks row.node block row.index new)
  pub last : P (put blocks row.node block row.index (made8 block row.index d row.decoder))

-- the blocks where a decoder stands in a row's place
abbrev at_row : List Registers → Row → Registers → Decoder → List Registers
at_row blocks row block d = put blocks row.node block row.index d

-- the low word of a tail back
tail_low_back : (e : Bool) (n m : ℕ) → (e ≡ true → n % 2 ^ 28 ≡ 0)
    → with_low (with_low n (cond e (top_bits (low_half m)) (low_half m))) (cond e (top_bits (low_half n)) (low_half n)) ≡ n
tail_low_back true n m aligned = low_back n m (aligned refl)
tail_low_back false n m aligned = low_back_whole n m

tail_small : (e : Bool) (m : ℕ) → cond e (top_bits (low_half m)) (low_half m) < 2 ^ 32
tail_small true m = omega arith
tail_small false m = omega arith

-- one word of a decoder that is not committed, forth and back over the word `old`
word_leads : (P : List Registers → Type 0) (blocks : List Registers) (row : Row) (block : Registers) (d0 d : Decoder) (p value old : ℕ) (w : Write) (ws : List Write) (end : List Registers)
    → IsThere blocks row.node block row.index d0 → d.committed ≡ false → p < 8 → (p == 7) ≡ false → (p == 4) ≡ false
    → w ≡ record { node = row.node; off = offset_of row.index p; value = value; back = old }
    → with_word block.endpoint (with_word block.endpoint d p value) p old ≡ d
    → (with_word block.endpoint d p value).committed ≡ false
    → P (put blocks row.node block row.index d)
    → Leads P (put blocks row.node block row.index (with_word block.endpoint d p value)) ws end
    → Leads P (put blocks row.node block row.index d) (w ∷ ws) end
word_leads P blocks row block d0 d p value old w ws end there free lt seven four is same after holds rest =
    subst (λ (x : Write). Leads P (put blocks row.node block row.index d) (x ∷ ws) end) (sym is)
    (leads_more P (put blocks row.node block row.index d) (put blocks row.node block row.index new) end (record { node = row.node; off = offset_of row.index p; value = value; back = old }) ws holds
    (put_step blocks row.node block row.index p value d0 d new Written there lt (word_put (with_decoder block row.index d) row.index d p value free seven four))
    (put_step blocks row.node block row.index p old d0 new d Written there lt
    (word_put (with_decoder block row.index new) row.index new p old after seven four
    ∙ ap (λ (e : Decoder). record { block = with_decoder (with_decoder block row.index new) row.index e; effect = Written }) same))
    rest)
  where
    new : Decoder
    new = with_word block.endpoint d p value

-- what the words of a row are
pub word_is : (blocks : List Registers) (row : Row) (block : Registers) (d : Decoder) (p : ℕ) → IsThere blocks row.node block row.index d → p < 8
    → word_write blocks row p ≡ record { node = row.node; off = offset_of row.index p; value = slice_index (words_of (unmarked row.decoder)) p; back = unwrap_or (slice_get (words_of d) p) 0 }
word_is blocks row block d p is lt =
    ap (λ (v : ℕ). record { node = row.node; off = offset_of row.index p; value = slice_index (words_of (unmarked row.decoder)) p; back = v }) (word_back blocks row.node block row.index p d is lt)

-- ---- the control without commit, and with it

-- a decoder whose commit was tried takes the control without commit back
try_back : (block : Registers) (i : ℕ) (d r : Decoder) (rule : Option CommitRule) → d.committed ≡ false → d.commit ≡ false → d.error ≡ false → d ≡ configured d r → d.lock ≡ false
    → any_committed (drop (i + 1) block.decoders) ≡ false → ControlReads (unmarked r)
    → (effect : Effect) × (after_decoder block i (tried rule d) 4 (control_of (unmarked r)) ≡ record { block = with_decoder block i d; effect = effect })
try_back block i d r None free clear good same unlocked top reads = (
  Released,
  release_put block i (tried None d) (unmarked r) refl unlocked top reads refl
      ∙ ap (λ (e : Decoder). record { block = with_decoder block i e; effect = Released })
      (λ j. record d { commit = sym clear j; committed = sym free j; error = sym good j }),
)
try_back block i d r (Some rule) free clear good same unlocked top reads = (
  Written,
  control_put block i (tried (Some rule) d) (unmarked r) refl reads refl
      ∙ ap (λ (e : Decoder). record { block = with_decoder block i e; effect = Written })
      (ap (λ (e : Decoder). record e { commit = false; committed = false; error = false }) (sym same)
      ∙ (λ j. record d { commit = sym clear j; committed = sym free j; error = sym good j })),
)

-- the control without commit back to the one before the job
control_back : (d m r : Decoder) → d.committed ≡ false → d.commit ≡ false → d.error ≡ false → m ≡ configured m d → m.committed ≡ d.committed → m.commit ≡ d.commit → m.error ≡ d.error
    → record (configured (record (configured m r) { commit = false; error = false }) d) { commit = false; error = false } ≡ m
control_back d m r free clear good same committed commit error =
    ap (λ (e : Decoder). record e { commit = false; error = false }) (sym same) ∙ (λ j. record m { commit = sym (commit ∙ clear) j; error = sym (error ∙ good) j })

-- ---- all writes of a row of a create

top_after : (block : Registers) (i : ℕ) (d : Decoder) → any_committed (drop (i + 1) block.decoders) ≡ false → any_committed (drop (i + 1) (with_decoder block i d).decoders) ≡ false
top_after block i d top = ap any_committed (drop-set-lt (i + 1) block.decoders i d (omega arith)) ∙ top

commit_leads : (P : List Registers → Type 0) (blocks : List Registers) (row : Row) (block : Registers) (d : Decoder) → IsFree blocks row block d → HoldsOnWay P blocks row block d
    → Leads P (at_row blocks row block (made7 block.endpoint d row.decoder)) (commit_write row ∷ []) (at_row blocks row block (made8 block row.index d row.decoder))
commit_leads P blocks row block d is holds =
    leads_more P (at_row blocks row block m) (at_row blocks row block (made8 block row.index d row.decoder)) (at_row blocks row block (made8 block row.index d row.decoder)) (commit_write row) []
    (holds.free m is.committed refl refl)
    (put_step blocks row.node block row.index 4 (control_of (with_commit row.decoder)) d m (tried rule m) (tried_effect rule) is.there (omega arith)
    (commit_put (with_decoder block row.index m) row.index m (with_commit row.decoder) is.committed is.asks refl ∙ tried_is (with_decoder block row.index m) row.index m rule))
    (put_step blocks row.node block row.index 4 (control_of (unmarked row.decoder)) d (tried rule m) m back.0 is.there (omega arith) back.1)
    (leads_none P (at_row blocks row block (made8 block row.index d row.decoder)) holds.last)
  where
    m : Decoder
    m = made7 block.endpoint d row.decoder

    rule : Option CommitRule
    rule = broken block row.index d row.decoder

    other : Registers
    other = with_decoder block row.index (tried rule m)

    back : (effect : Effect) × (after_decoder other row.index (tried rule m) 4 (control_of (unmarked row.decoder)) ≡ record { block = with_decoder other row.index m; effect = effect })
    back = try_back other row.index m row.decoder rule is.committed refl refl refl is.unlocked (top_after block row.index (tried rule m) is.top) is.reads

control_leads : (P : List Registers → Type 0) (settled blocks : List Registers) (row : Row) (block : Registers) (d : Decoder) → IsFree blocks row block d → IsThere settled row.node block row.index d
    → HoldsOnWay P blocks row block d
    → Leads P (at_row blocks row block (made6 block.endpoint d row.decoder)) (word_write settled row 4 ∷ commit_write row ∷ []) (at_row blocks row block (made8 block row.index d row.decoder))
control_leads P settled blocks row block d is was holds =
    subst (λ (w : Write). Leads P (at_row blocks row block m) (w ∷ commit_write row ∷ []) (at_row blocks row block (made8 block row.index d row.decoder))) (sym (word_is settled row block d 4 was (omega arith)))
    (leads_more P (at_row blocks row block m) (at_row blocks row block new) (at_row blocks row block (made8 block row.index d row.decoder))
    (record { node = row.node; off = offset_of row.index 4; value = control_of (unmarked row.decoder); back = control_of d }) (commit_write row ∷ [])
    (holds.free m is.committed is.commit is.error)
    (put_step blocks row.node block row.index 4 (control_of (unmarked row.decoder)) d m new Written is.there (omega arith)
    (control_put (with_decoder block row.index m) row.index m (unmarked row.decoder) is.committed is.reads refl))
    (put_step blocks row.node block row.index 4 (control_of d) d new m Written is.there (omega arith)
    (control_put (with_decoder block row.index new) row.index new d is.committed is.own is.commit
    ∙ ap (λ (e : Decoder). record { block = with_decoder (with_decoder block row.index new) row.index e; effect = Written })
    (control_back d m row.decoder is.committed is.commit is.error refl refl refl refl)))
    (commit_leads P blocks row block d is holds))
  where
    m : Decoder
    m = made6 block.endpoint d row.decoder

    new : Decoder
    new = made7 block.endpoint d row.decoder

-- the tail, and then the control
tail_leads : (P : List Registers → Type 0) (settled blocks : List Registers) (row : Row) (block : Registers) (d : Decoder) → IsFree blocks row block d → IsThere settled row.node block row.index d
    → HoldsOnWay P blocks row block d
    → Leads P (at_row blocks row block (made4 block.endpoint d row.decoder)) (word_write settled row 5 ∷ word_write settled row 6 ∷ word_write settled row 4 ∷ commit_write row ∷ [])
    (at_row blocks row block (made8 block row.index d row.decoder))
tail_leads P settled blocks row block d is was holds =
    word_leads P blocks row block d (made4 e d r) 5 (low_half r.tail) (low_half d.tail) (word_write settled row 5) (word_write settled row 6 ∷ word_write settled row 4 ∷ commit_write row ∷ []) end
    is.there is.committed (omega arith) refl refl (word_is settled row block d 5 was (omega arith))
    (ap (λ (n : ℕ). record (made4 e d r) { tail = n }) (tail_low_back e d.tail r.tail is.is.skip)) is.committed (holds.free (made4 e d r) is.committed is.commit is.error)
    (word_leads P blocks row block d (made5 e d r) 6 (high_half r.tail) (high_half d.tail) (word_write settled row 6) (word_write settled row 4 ∷ commit_write row ∷ []) end
    is.there is.committed (omega arith) refl refl (word_is settled row block d 6 was (omega arith))
    (ap (λ (n : ℕ). record (made4 e d r) { tail = n }) (high_back d.tail (cond e (top_bits (low_half r.tail)) (low_half r.tail)) (high_half r.tail) (tail_small e r.tail)))
    is.committed (holds.free (made5 e d r) is.committed is.commit is.error)
    (control_leads P settled blocks row block d is was holds))
  where
    e : Bool
    e = block.endpoint

    r : Decoder
    r = row.decoder

    end : List Registers
    end = at_row blocks row block (made8 block row.index d row.decoder)

top_small : (m : ℕ) → top_bits (low_half m) < 2 ^ 32
top_small m = omega arith

size_leads : (P : List Registers → Type 0) (settled blocks : List Registers) (row : Row) (block : Registers) (d : Decoder) → IsFree blocks row block d → IsThere settled row.node block row.index d
    → HoldsOnWay P blocks row block d
    → Leads P (at_row blocks row block (made2 block.endpoint d row.decoder))
    (word_write settled row 2 ∷ word_write settled row 3 ∷ word_write settled row 5 ∷ word_write settled row 6 ∷ word_write settled row 4 ∷ commit_write row ∷ [])
    (at_row blocks row block (made8 block row.index d row.decoder))
size_leads P settled blocks row block d is was holds =
    word_leads P blocks row block d (made2 e d r) 2 (low_half r.size) (low_half d.size) (word_write settled row 2)
    (word_write settled row 3 ∷ word_write settled row 5 ∷ word_write settled row 6 ∷ word_write settled row 4 ∷ commit_write row ∷ []) end
    is.there is.committed (omega arith) refl refl (word_is settled row block d 2 was (omega arith))
    (ap (λ (n : ℕ). record (made2 e d r) { size = n }) (low_back d.size r.size is.is.size.multiple)) is.committed (holds.free (made2 e d r) is.committed is.commit is.error)
    (word_leads P blocks row block d (made3 e d r) 3 (high_half r.size) (high_half d.size) (word_write settled row 3)
    (word_write settled row 5 ∷ word_write settled row 6 ∷ word_write settled row 4 ∷ commit_write row ∷ []) end
    is.there is.committed (omega arith) refl refl (word_is settled row block d 3 was (omega arith))
    (ap (λ (n : ℕ). record (made2 e d r) { size = n }) (high_back d.size (top_bits (low_half r.size)) (high_half r.size) (top_small r.size)))
    is.committed (holds.free (made3 e d r) is.committed is.commit is.error)
    (tail_leads P settled blocks row block d is was holds))
  where
    e : Bool
    e = block.endpoint

    r : Decoder
    r = row.decoder

    end : List Registers
    end = at_row blocks row block (made8 block row.index d row.decoder)

-- all writes of a row lead to the blocks where its commit was tried
pub row_leads : (P : List Registers → Type 0) (settled blocks : List Registers) (row : Row) (block : Registers) (d : Decoder) → IsFree blocks row block d → IsThere settled row.node block row.index d
    → HoldsOnWay P blocks row block d → Leads P blocks (row_writes settled row) (put blocks row.node block row.index (made8 block row.index d row.decoder))
row_leads P settled blocks row block d is was holds =
    subst (λ (b : List Registers). Leads P b (row_writes settled row) end) (same_put blocks row.node block row.index d is.there)
    (word_leads P blocks row block d d 0 (low_half r.base) (low_half d.base) (word_write settled row 0)
    (word_write settled row 1 ∷ word_write settled row 2 ∷ word_write settled row 3 ∷ word_write settled row 5 ∷ word_write settled row 6 ∷ word_write settled row 4 ∷ commit_write row ∷ []) end
    is.there is.committed (omega arith) refl refl (word_is settled row block d 0 was (omega arith))
    (ap (λ (n : ℕ). record d { base = n }) (low_back d.base r.base is.is.base.multiple)) is.committed (holds.free d is.committed is.commit is.error)
    (word_leads P blocks row block d (made1 e d r) 1 (high_half r.base) (high_half d.base) (word_write settled row 1)
    (word_write settled row 2 ∷ word_write settled row 3 ∷ word_write settled row 5 ∷ word_write settled row 6 ∷ word_write settled row 4 ∷ commit_write row ∷ []) end
    is.there is.committed (omega arith) refl refl (word_is settled row block d 1 was (omega arith))
    (ap (λ (n : ℕ). record d { base = n }) (high_back d.base (top_bits (low_half r.base)) (high_half r.base) (top_small r.base)))
    is.committed (holds.free (made1 e d r) is.committed is.commit is.error)
    (size_leads P settled blocks row block d is was holds)))
  where
    e : Bool
    e = block.endpoint

    r : Decoder
    r = row.decoder

    end : List Registers
    end = at_row blocks row block (made8 block row.index d row.decoder)

-- ---- the write of a row of a release

-- what is known of the decoder that is released
pub record IsBound (blocks : List Registers) (row : Row) (block : Registers) : Type 0 where
  pub there : IsThere blocks row.node block row.index row.decoder
  pub committed : row.decoder.committed ≡ true
  pub commit : row.decoder.commit ≡ true
  pub error : row.decoder.error ≡ false
  pub top : any_committed (drop (row.index + 1) block.decoders) ≡ false
  pub unlocked : row.decoder.lock ≡ false
  pub keeps : first_broken_rule block row.index row.decoder ≡ None
  pub reads : ControlReads (unmarked row.decoder)
  pub asks : ControlReads (with_commit row.decoder)

abbrev pub let_go : Decoder → Decoder
let_go d = record d { commit = false; committed = false }

-- the rules of a commit look at the decoder before, and not at the one that is committed
same_before : (decoders : List Decoder) (i : ℕ) (d : Decoder) → before (set decoders i d) i ≡ before decoders i
same_before decoders i d =
    elim (cases_eq i 0) [
      | inl first ↦ let is : (i == 0) ≡ true = eq-eqb i 0 first in rw is refl
      | inr later ↦ ap (λ (o : Option Decoder). cond (i == 0) None o) (get_other decoders i (i - 1) d (λ e. later (omega (arith, e))))
    ]

same_rule : (block : Registers) (i : ℕ) (d : Decoder) → first_broken_rule (with_decoder block i (let_go d)) i (let_go d) ≡ first_broken_rule block i d
same_rule block i d = rw (same_before block.decoders i (let_go d)) refl

pub release_leads : (P : List Registers → Type 0) (blocks : List Registers) (row : Row) (block : Registers) → IsBound blocks row block → P blocks
    → P (put blocks row.node block row.index (let_go row.decoder)) → Leads P blocks (release_write row ∷ []) (put blocks row.node block row.index (let_go row.decoder))
release_leads P blocks row block is holds last =
    subst (λ (b : List Registers). Leads P b (release_write row ∷ []) end) same
    (leads_more P (at_row blocks row block d) end end (release_write row) [] (subst P (sym same) holds)
    (put_step blocks row.node block row.index 4 (control_of (unmarked d)) d d (let_go d) Released is.there (omega arith)
    (release_put (with_decoder block row.index d) row.index d (unmarked d) is.committed is.unlocked (top_after block row.index d is.top) is.reads refl))
    (put_step blocks row.node block row.index 4 (control_of (with_commit d)) d (let_go d) d Committed is.there (omega arith)
    (commit_put other row.index (let_go d) (with_commit d) refl is.asks refl
    ∙ ap (after_commit other row.index (let_go d)) (same_rule block row.index d ∙ is.keeps)
    ∙ ap (λ (e : Decoder). record { block = with_decoder other row.index e; effect = Committed }) (λ j. record d { commit = sym is.commit j; committed = sym is.committed j; error = sym is.error j })))
    (leads_none P end last))
  where
    d : Decoder
    d = row.decoder

    end : List Registers
    end = at_row blocks row block (let_go d)

    other : Registers
    other = with_decoder block row.index (let_go d)

    same : at_row blocks row block d ≡ blocks
    same = same_put blocks row.node block row.index d is.there
