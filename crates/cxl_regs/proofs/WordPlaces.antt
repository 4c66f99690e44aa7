-- At which offsets a block has a word.
use Rattle.std.proofs.Common.{◌≡◌, ℕ, ◌/◌, ◌%◌, ◌≤◌, List, ◌↔◌, get_or, Some, refl, sym, inl, inr, arith}
use Rattle.std.specs.Prelude.{slice_get, IsSome}
use Rattle.std.proofs.lemmas.Bool.{cases_eq, cases_lt, ne_eqb, eq-eqb, lt-ltb, le-ltb, false≢true}
use Rattle.std.proofs.lemmas.Option.{slice_get_cases, slice_get_within, slice_get-get_or}
use Rattle.cxl_regs.specs.declared.decoder.Decoder.{Decoder}
use Rattle.cxl_regs.specs.Registers.{Registers}
use Rattle.cxl_regs.specs.Words.{head_words, words_of, index_at, place_at, word_at, HasWord}

pub word_there : (block : Registers) (off : ℕ) → (IsSome (word_at block off)) ↔ (HasWord block off)
word_there block off = elim (cases_eq (off % 4) 0) [
  | inr uneven ↦ rw (ne_eqb (off % 4) 0 uneven) ((λ e. absurd (false≢true e)), (λ has. absurd (uneven has.whole)))
  | inl even ↦ elim (cases_lt off 16) [
    | inl head ↦
        rw (eq-eqb (off % 4) 0 even, lt-ltb off 16 head, slice_get-get_or (head_words block) (off / 4) 0 (omega arith))
        ((λ e. record { whole = even; inside = omega arith }), (λ has. refl))
    | inr past ↦ elim (slice_get_cases block.decoders (index_at off)).1 [
      | inl at ↦
          let within = slice_get_within block.decoders (index_at off) at.0 at.2 in
          rw (eq-eqb (off % 4) 0 even, le-ltb off 16 past, at.2, slice_get-get_or (words_of at.0) (place_at off) 0 (omega arith))
          ((λ e. record { whole = even; inside = omega (arith, within) }), (λ has. refl))
      | inr beyond ↦
          let none = beyond.0 in
          rw (eq-eqb (off % 4) 0 even, le-ltb off 16 past, beyond.1)
          ((λ e. absurd (false≢true e)), (λ has. let inside = has.inside in absurd (omega (arith, none, inside))))
    ]
  ]
]

-- the word at a place of a decoder
pub word_here : (block : Registers) (off : ℕ) (d : Decoder) (words : List ℕ) (place : ℕ) → off % 4 ≡ 0 → 16 ≤ off → slice_get block.decoders (index_at off) ≡ Some d → words ≡ words_of d → place ≡ place_at off
    → Some (get_or words place 0) ≡ word_at block off
word_here block off d words place even past there are is =
    rw (eq-eqb (off % 4) 0 even, le-ltb off 16 past, there, are, is) (sym (slice_get-get_or (words_of d) (place_at off) 0 (omega arith)))
