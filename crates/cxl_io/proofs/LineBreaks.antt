-- Pieces and lines of bytes, one after another.
use Rattle.std.proofs.Common.{◌≡◌, ◌≢◌, ℕ, zero, suc, ◌+◌, ◌<◌, ◌≤◌, Bool, true, false, cond, not, ◌==◌, Some, None, List, [], ◌∷◌, ◌++◌, length, take, drop, refl, sym, ap, subst, ◌∙◌, arith, append_assoc, ne_eqb}
use Rattle.std.specs.List.{position_or_len}
use Rattle.std.specs.Prelude.{position, nat_lt}
use Rattle.std.proofs.lemmas.Bool.{eqb-true, ltb-true, ltb-false}
use Rattle.std.proofs.lemmas.List.{append-nil}
use Rattle.std.specs.Str.Lines.{strip_carriage_return}
use Rattle.cxl_enc.proofs.Options.{some_if, none_if}
use Rattle.cxl_io.specs.Lines.{first_piece, later_pieces, lines_in, ended_in, lines_of, ended_lines, IsFirstLine, HasPassed}

-- ---- pieces

no_more : (piece : List ℕ) (more : List (List ℕ)) → ended_in piece more ≡ [] → more ≡ []
no_more piece [] e = refl
no_more piece (next ∷ more) e = absurd (cc)

pub unbroken-later : (bytes : List ℕ) → ended_lines bytes ≡ [] → later_pieces bytes ≡ []
unbroken-later bytes e = no_more (first_piece bytes) (later_pieces bytes) e

pub later-unbroken : (bytes : List ℕ) → later_pieces bytes ≡ [] → ended_lines bytes ≡ []
later-unbroken bytes e = ap (ended_in (first_piece bytes)) e

later_step : (t : Bool) (piece piece' : List ℕ) (later both after : List (List ℕ)) → cond t (piece ∷ later) later ≡ [] → (later ≡ [] → both ≡ after) → cond t (piece' ∷ both) both ≡ after
later_step true piece piece' later both after e step = absurd (cc)
later_step false piece piece' later both after e step = step e

-- behind a piece without a byte 10
later_pieces-append : (p q : List ℕ) → later_pieces p ≡ [] → later_pieces (p ++ q) ≡ later_pieces q
later_pieces-append [] q e = refl
later_pieces-append (b ∷ p) q e = later_step (b == 10) (first_piece p) (first_piece (p ++ q)) (later_pieces p) (later_pieces (p ++ q)) (later_pieces q) e (later_pieces-append p q)

first_step : (t : Bool) (b : ℕ) (piece both after : List ℕ) (later : List (List ℕ)) → cond t (piece ∷ later) later ≡ [] → (later ≡ [] → both ≡ after) → cond t [] (b ∷ both) ≡ b ∷ after
first_step true b piece both after later e step = absurd (cc)
first_step false b piece both after later e step = ap (λ bytes. b ∷ bytes) (step e)

first_piece-append : (p q : List ℕ) → later_pieces p ≡ [] → first_piece (p ++ q) ≡ p ++ first_piece q
first_piece-append [] q e = refl
first_piece-append (b ∷ p) q e = first_step (b == 10) b (first_piece p) (first_piece (p ++ q)) (p ++ first_piece q) (later_pieces p) e (first_piece-append p q)

-- two pieces without a byte 10
pub unbroken-append : (p q : List ℕ) → ended_lines p ≡ [] → ended_lines q ≡ [] → ended_lines (p ++ q) ≡ []
unbroken-append p q first second = later-unbroken (p ++ q) (later_pieces-append p q (unbroken-later p first) ∙ unbroken-later q second)

-- ---- lines

-- a line that ended, and then others
lines_of-ended : (p rest : List ℕ) → ended_lines p ≡ [] → lines_of (p ++ 10 ∷ rest) ≡ strip_carriage_return p ∷ lines_of rest
lines_of-ended p rest e =
    let none = unbroken-later p e in
    ap (λ more. lines_in (first_piece (p ++ 10 ∷ rest)) more) (later_pieces-append p (10 ∷ rest) none)
    ∙ ap (λ piece. strip_carriage_return piece ∷ lines_of rest) (first_piece-append p (10 ∷ rest) none ∙ append-nil p)

ended_lines-ended : (p rest : List ℕ) → ended_lines p ≡ [] → ended_lines (p ++ 10 ∷ rest) ≡ strip_carriage_return p ∷ ended_lines rest
ended_lines-ended p rest e =
    let none = unbroken-later p e in
    ap (λ more. ended_in (first_piece (p ++ 10 ∷ rest)) more) (later_pieces-append p (10 ∷ rest) none)
    ∙ ap (λ piece. strip_carriage_return piece ∷ ended_lines rest) (first_piece-append p (10 ∷ rest) none ∙ append-nil p)

some_line : (piece : List ℕ) → piece ≢ [] → lines_in piece [] ≡ piece ∷ []
some_line [] some = absurd (some refl)
some_line (b ∷ piece) some = ap (λ t. cond t [] ((b ∷ piece) ∷ [])) (ne_eqb (length (b ∷ piece)) 0 (omega arith))

-- a last line
lines_of-last : (bytes : List ℕ) → ended_lines bytes ≡ [] → bytes ≢ [] → lines_of bytes ≡ bytes ∷ []
lines_of-last bytes e some =
    let none = unbroken-later bytes e in
    let whole : first_piece bytes ≡ bytes = ap first_piece (sym (append-nil bytes)) ∙ first_piece-append bytes [] none ∙ append-nil bytes in
    ap (lines_in (first_piece bytes)) none ∙ ap (λ piece. lines_in piece []) whole ∙ some_line bytes some

-- ---- what was passed on

pub passed-more : (passed : List (List ℕ)) (bytes held more : List ℕ) → HasPassed passed bytes held → HasPassed passed (bytes ++ more) (held ++ more)
passed-more passed bytes held more h = record {
  lines = λ behind. ap lines_of (append_assoc bytes more behind) ∙ h.lines (more ++ behind) ∙ ap (λ b. passed ++ lines_of b) (sym (append_assoc held more behind));
  ended = λ behind. ap ended_lines (append_assoc bytes more behind) ∙ h.ended (more ++ behind) ∙ ap (λ b. passed ++ ended_lines b) (sym (append_assoc held more behind));
}

pub passed-line : (passed : List (List ℕ)) (bytes held line rest : List ℕ) → HasPassed passed bytes held → IsFirstLine held line rest → HasPassed (passed ++ line ∷ []) bytes rest
passed-line passed bytes held line rest h is = record {
  lines = λ behind.
      h.lines behind
      ∙ ap (λ b. passed ++ lines_of (b ++ behind)) is.split
      ∙ ap (λ b. passed ++ lines_of b) (append_assoc is.piece (10 ∷ rest) behind)
      ∙ ap (λ ls. passed ++ ls) (lines_of-ended is.piece (rest ++ behind) is.unbroken)
      ∙ ap (λ l. passed ++ l ∷ lines_of (rest ++ behind)) (sym is.line_is)
      ∙ sym (append_assoc passed (line ∷ []) (lines_of (rest ++ behind)));
  ended = λ behind.
      h.ended behind
      ∙ ap (λ b. passed ++ ended_lines (b ++ behind)) is.split
      ∙ ap (λ b. passed ++ ended_lines b) (append_assoc is.piece (10 ∷ rest) behind)
      ∙ ap (λ ls. passed ++ ls) (ended_lines-ended is.piece (rest ++ behind) is.unbroken)
      ∙ ap (λ l. passed ++ l ∷ ended_lines (rest ++ behind)) (sym is.line_is)
      ∙ sym (append_assoc passed (line ∷ []) (ended_lines (rest ++ behind)));
}

pub passed-last : (passed : List (List ℕ)) (bytes held : List ℕ) → HasPassed passed bytes held → ended_lines held ≡ [] → held ≢ [] → lines_of bytes ≡ passed ++ held ∷ []
passed-last passed bytes held h e some =
    ap lines_of (sym (append-nil bytes)) ∙ h.lines [] ∙ ap (λ b. passed ++ lines_of b) (append-nil held)
    ∙ ap (λ ls. passed ++ ls) (lines_of-last held e some)

pub passed-end : (passed : List (List ℕ)) (bytes : List ℕ) → HasPassed passed bytes [] → lines_of bytes ≡ passed
passed-end passed bytes h = ap lines_of (sym (append-nil bytes)) ∙ h.lines [] ∙ append-nil passed

pub passed-stop : (passed : List (List ℕ)) (bytes held : List ℕ) → HasPassed passed bytes held → ended_lines held ≡ [] → ended_lines bytes ≡ passed
passed-stop passed bytes held h e =
    ap ended_lines (sym (append-nil bytes)) ∙ h.ended [] ∙ ap (λ b. passed ++ ended_lines b) (append-nil held)
    ∙ ap (λ ls. passed ++ ls) e ∙ append-nil passed

-- ---- the first byte 10

-- it stands at n
pub record IsBreakAt (bytes : List ℕ) (n : ℕ) : Type 0 where
  pub split : bytes ≡ take n bytes ++ 10 ∷ drop (suc n) bytes
  pub unbroken : later_pieces (take n bytes) ≡ []

at_zero : (t : Bool) (m : ℕ) → 0 ≡ cond (not t) (1 + m) 0 → t ≡ true
at_zero true m e = refl
at_zero false m e = absurd (omega arith)

at_suc : (t : Bool) (k m : ℕ) → suc k ≡ cond (not t) (1 + m) 0 → (t ≡ false) × (k ≡ m)
at_suc true k m e = absurd (omega arith)
at_suc false k m e = (refl, omega arith)

break_at : (bytes : List ℕ) (n : ℕ) → n ≡ position_or_len (λ byte. byte == 10) bytes → n < length bytes → IsBreakAt bytes n
break_at [] n e within = absurd (omega arith)
break_at (b ∷ bytes) zero e within =
    let ten : b ≡ 10 = eqb-true b 10 (at_zero (b == 10) (position_or_len (λ byte. byte == 10) bytes) e) in
    record { split = ap (λ x. x ∷ bytes) ten; unbroken = refl }
break_at (b ∷ bytes) (suc k) e within =
    let parts = at_suc (b == 10) k (position_or_len (λ byte. byte == 10) bytes) e in
    let rest = break_at bytes k parts.1 (omega arith) in
    record {
      split = ap (λ x. b ∷ x) rest.split;
      unbroken = ap (λ t. cond t (first_piece (take k bytes) ∷ later_pieces (take k bytes)) (later_pieces (take k bytes))) parts.0 ∙ rest.unbroken;
    }

no_break : (bytes : List ℕ) → length bytes ≤ position_or_len (λ byte. byte == 10) bytes → later_pieces bytes ≡ []
no_break [] e = refl
no_break (b ∷ bytes) e =
    let parts = beyond (b == 10) (length bytes) (position_or_len (λ byte. byte == 10) bytes) e in
    ap (λ t. cond t (first_piece bytes ∷ later_pieces bytes) (later_pieces bytes)) parts.0 ∙ no_break bytes parts.1
  where
    beyond : (t : Bool) (n m : ℕ) → suc n ≤ cond (not t) (1 + m) 0 → (t ≡ false) × (n ≤ m)
    beyond true n m e = absurd (omega arith)
    beyond false n m e = (refl, omega arith)

pub break_found : (bytes : List ℕ) (n : ℕ) → position (λ byte. byte == 10) bytes ≡ Some n → (n < length bytes) × IsBreakAt bytes n
break_found bytes n e =
    let found = some_if (nat_lt (position_or_len (λ byte. byte == 10) bytes) (length bytes)) (position_or_len (λ byte. byte == 10) bytes) n e in
    let within : n < length bytes = subst (λ k. k < length bytes) (sym found.1) (ltb-true (position_or_len (λ byte. byte == 10) bytes) (length bytes) found.0) in
    (within, break_at bytes n found.1 within)

pub break_none : (bytes : List ℕ) → position (λ byte. byte == 10) bytes ≡ None → ended_lines bytes ≡ []
break_none bytes e =
    let none = none_if (nat_lt (position_or_len (λ byte. byte == 10) bytes) (length bytes)) (position_or_len (λ byte. byte == 10) bytes) e in
    later-unbroken bytes (no_break bytes (ltb-false (position_or_len (λ byte. byte == 10) bytes) (length bytes) none))
