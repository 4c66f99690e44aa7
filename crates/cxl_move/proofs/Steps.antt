-- One block of media is read, taken out and put elsewhere.
use Rattle.std.proofs.Common.{◌≡◌, ◌≢◌, ◌↔◌, ℕ, ◌+◌, ◌*◌, ◌/◌, ◌%◌, ◌<◌, ◌&&◌, true, false, cond, not, eqb, leb, ltb, List, [], ◌∷◌, ◌++◌, length, take, drop, Option, Some, None, unwrap_or, is_some, Result, Ok, Err, refl, sym, ap, subst, ◌∙◌, inl, inr, arith}
use Rattle.std.specs.Prelude.{Contains, IsErr, OnOk}
use Rattle.std.specs.FinMap as map
use Rattle.std.proofs.lemmas.Bool.{and_parts, and_from, eq-eqb, le-leb, lt-ltb, eqb-true, leb-true, ltb-true, false_from_ne_true}
use Rattle.std.proofs.lemmas.List.{take_all, drop_all, append-nil}
use Rattle.std.proofs.lemmas.Option.{none-some}
use Rattle.cxl_enc.proofs.Lists.{contains_head, contains_cases, contains_none}
use Rattle.cxl_enc.proofs.Options.{some_of}
use Rattle.cxl_media.specs.Blocks.{Key, Blocks, key_of, block_at, frames_needed, bytes_from, overwritten, is_between, scrubbed}
use Rattle.cxl_media.proofs.Keys.{key_total, key_exact}
use Rattle.cxl_move.specs.inner.Steps.{IsPieceCarried}
use Rattle.cxl_move.proofs.Counts.{len_without}
use Rattle.cxl_move.proofs.Changed.{insert_same, insert_other}

unwrapped : (o : Option (List ℕ)) (z bytes : List ℕ) → o ≡ Some bytes → unwrap_or o z ≡ bytes
unwrapped o z bytes is = ap (λ (x : Option (List ℕ)). unwrap_or x z) is

-- ---- a whole block

first_byte : (block : ℕ) → 256 * block % 256 ≡ 0
first_byte block = omega arith

pub own_key : (ep block : ℕ) → key_of ep (256 * block) ≡ (ep, block)
own_key ep block = let n : 256 * block / 256 ≡ block = omega arith in λ i. (ep, n i)

pub read_whole : (blocks : Blocks) (ep block len : ℕ) (into : List ℕ) → len ≡ 256 → length (block_at blocks (key_of ep (256 * block))) ≡ 256 → into ≡ bytes_from (block_at blocks (key_of ep (256 * block))) (256 * block % 256) len
    → into ≡ block_at blocks (ep, block)
read_whole blocks ep block len into is whole read =
    let bytes : List ℕ = block_at blocks (key_of ep (256 * block)) in
    read
    ∙ ap (λ (at : ℕ). take len (drop at bytes)) (first_byte block)
    ∙ take_all len bytes (omega (arith, is, whole))
    ∙ ap (block_at blocks) (own_key ep block)

pub write_whole : (blocks : Blocks) (ep block : ℕ) (bytes : List ℕ) → length bytes ≡ 256 → length (block_at blocks (key_of ep (256 * block))) ≡ 256
    → map.insert blocks (key_of ep (256 * block)) (overwritten (block_at blocks (key_of ep (256 * block))) (256 * block % 256) bytes) ≡ map.insert blocks (ep, block) bytes
write_whole blocks ep block bytes long whole =
    let old : List ℕ = block_at blocks (key_of ep (256 * block)) in
    let over : overwritten old (256 * block % 256) bytes ≡ bytes =
    ap (λ (at : ℕ). overwritten old at bytes) (first_byte block)
    ∙ ap (λ (rest : List ℕ). bytes ++ rest) (drop_all (0 + length bytes) old (omega (arith, long, whole)))
    ∙ append-nil bytes in
    ap (map.insert blocks (key_of ep (256 * block))) over ∙ ap (λ (key : Key). map.insert blocks key bytes) (own_key ep block)

-- ---- one block is scrubbed

between_own : (ep block : ℕ) → is_between ep (256 * block) (256 * block + 256) (ep, block) ≡ true
between_own ep block =
    and_from (eqb ep ep) (leb (256 * block) (256 * block) && ltb (256 * block) (256 * block + 256)) (eq-eqb ep ep refl)
    (and_from (leb (256 * block) (256 * block)) (ltb (256 * block) (256 * block + 256)) (le-leb (256 * block) (256 * block) (omega arith)) (lt-ltb (256 * block) (256 * block + 256) (omega arith)))

between_other : (ep block : ℕ) (key : Key) → key ≢ (ep, block) → is_between ep (256 * block) (256 * block + 256) key ≡ false
between_other ep block key other =
    false_from_ne_true (is_between ep (256 * block) (256 * block + 256) key) (λ is.
    let parts = and_parts (eqb key.0 ep) (leb (256 * block) (256 * key.1) && ltb (256 * key.1) (256 * block + 256)) is in
    let inside = and_parts (leb (256 * block) (256 * key.1)) (ltb (256 * key.1) (256 * block + 256)) parts.1 in
    let from = leb-true (256 * block) (256 * key.1) inside.0 in
    let below = ltb-true (256 * key.1) (256 * block + 256) inside.1 in
    let same = eqb-true key.0 ep parts.0 in
    let number : key.1 ≡ block = omega (arith, from, below) in
    other (λ i. (same i, number i)))

pub get-scrubbed : (blocks : Blocks) (ep from to : ℕ) (key : Key) → map.get (scrubbed blocks ep from to) key ≡ cond (not (is_between ep from to key)) (map.get blocks key) None
get-scrubbed blocks ep from to key =
    map.get-retain_keys blocks (λ k. not (is_between ep from to k)) key (λ x tied. ap (λ k. not (is_between ep from to k)) (sym (key_exact key x tied)))

module _ (old mid : Blocks) (source : Key) (scrub : mid ≡ scrubbed old source.0 (256 * source.1) (256 * source.1 + 256)) where
  pub scrub_gone : map.get mid source ≡ None
  scrub_gone =
      ap (λ (m : Blocks). map.get m source) scrub
      ∙ get-scrubbed old source.0 (256 * source.1) (256 * source.1 + 256) source
      ∙ ap (λ b. cond (not b) (map.get old source) None) (between_own source.0 source.1)

  pub scrub_other : (key : Key) → key ≢ source → map.get mid key ≡ map.get old key
  scrub_other key other =
      ap (λ (m : Blocks). map.get m key) scrub
      ∙ get-scrubbed old source.0 (256 * source.1) (256 * source.1 + 256) key
      ∙ ap (λ b. cond (not b) (map.get old key) None) (between_other source.0 source.1 key other)

  pub scrub_len : map.contains_key old source ≡ true → map.len old ≡ map.len mid + 1
  scrub_len there =
      len_without key_total key_exact (source ∷ []) old mid ((λ again. contains_none source again), tt)
      (λ key listed. elim (contains_cases source key [] listed) [
        | inl is ↦ ap (map.contains_key old) (sym is) ∙ there
        | inr none ↦ absurd (contains_none key none)
      ])
      (record {
        gone = λ key listed. elim (contains_cases source key [] listed) [
          | inl is ↦ subst (λ (k : Key). map.get mid k ≡ None) is scrub_gone
          | inr none ↦ absurd (contains_none key none)
        ];
        kept = λ key not. scrub_other key (λ is. not (subst (Contains (source ∷ [])) (sym is) (contains_head source [])));
      })

-- ---- it is put elsewhere

pub ok_of : {A E : Type 0} (r : Result A E) (P : Type 0) → (IsErr r → ⊥) → OnOk r P → P
ok_of (Ok x) P not is = is
ok_of (Err e) P not is = absurd (not refl)

pub not_full : (needed free : ℕ) (P : Type 0) → (P ↔ ((needed ≡ 1) × (free ≡ 0))) → 0 < free → P → ⊥
not_full needed free P full some is = let none = (full.0 is).1 in omega (arith, none, some)

pub needs_one : (blocks : Blocks) (key : Key) → map.get blocks key ≡ None → frames_needed blocks key ≡ 1
needs_one blocks key none = ap (λ (o : Option (List ℕ)). cond (is_some o) 0 1) none

module _ (old : Blocks) (source target : Key) (there : map.contains_key old source ≡ true) (absent : map.get old target ≡ None) where
  pub keys_apart : source ≢ target
  keys_apart same =
      let some = some_of (map.get old source) there in
      none-some some.0 (sym absent ∙ ap (map.get old) (sym same) ∙ some.1)

  pub own_bytes : (bytes : List ℕ) → bytes ≡ block_at old source → map.get old source ≡ Some bytes
  own_bytes bytes is =
      let some = some_of (map.get old source) there in
      some.1 ∙ ap (λ (b : List ℕ). Some b) (sym (is ∙ unwrapped (map.get old source) _ some.0 some.1))

  pub copied : (new : Blocks) (bytes : List ℕ) → bytes ≡ block_at old source → new ≡ map.insert old target bytes → IsPieceCarried (λ piece. piece) source target old new
  copied new bytes is put = record {
    given = ap (λ (m : Blocks). map.get m target) put ∙ insert_same old target bytes ∙ sym (own_bytes bytes is);
    left = ap (λ (m : Blocks). map.get m source) put ∙ insert_other old target source bytes keys_apart;
    others = λ key not_source not_target. ap (λ (m : Blocks). map.get m key) put ∙ insert_other old target key bytes not_target;
  }

  pub moved : (mid new : Blocks) (bytes : List ℕ) → bytes ≡ block_at old source → mid ≡ scrubbed old source.0 (256 * source.1) (256 * source.1 + 256) → new ≡ map.insert mid target bytes
      → IsPieceCarried (λ piece. None) source target old new
  moved mid new bytes is scrub put = record {
    given = ap (λ (m : Blocks). map.get m target) put ∙ insert_same mid target bytes ∙ sym (own_bytes bytes is);
    left = ap (λ (m : Blocks). map.get m source) put ∙ insert_other mid target source bytes keys_apart ∙ scrub_gone old mid source scrub;
    others = λ key not_source not_target.
        ap (λ (m : Blocks). map.get m key) put ∙ insert_other mid target key bytes not_target ∙ scrub_other old mid source scrub key not_source;
  }

  -- a frame is free once the block is scrubbed, and the block does not stand at the new place
  pub some_free : (mid : Blocks) (before after : ℕ) → mid ≡ scrubbed old source.0 (256 * source.1) (256 * source.1 + 256) → after + map.len mid ≡ before + map.len old → after ≡ before + 1
  some_free mid before after scrub frames = let len = scrub_len old mid source scrub there in omega (arith, len, frames)

  pub still_absent : (mid : Blocks) → mid ≡ scrubbed old source.0 (256 * source.1) (256 * source.1 + 256) → map.get mid target ≡ None
  still_absent mid scrub = scrub_other old mid source scrub target (λ same. keys_apart (sym same)) ∙ absent
