-- A text is one of the keys whose lengths pass each test that its own length passes.
use Rattle.std.proofs.Common.{◌≡◌, ◌≢◌, ◌==◌, ℕ, Bool, true, false, not, ◌&&◌, List, [], ◌∷◌, length, Some, cond, refl, sym, ap, ◌∙◌}
use Rattle.std.specs.Prelude.{filter}
use Rattle.std.specs.Str.{bytes_eq}
use Rattle.std.proofs.lemmas.Bool.{false≢true, false_from_ne_true, ne_eqb}
use Rattle.std.proofs.lemmas.Slice.Eq.{bytes_eq-Decides}
use Rattle.cxl_topofile.specs.declared.key.Key.{Key}
use Rattle.cxl_topofile.specs.Keys.{key_text}
use Rattle.cxl_topofile.specs.inner.Fields.{first_key}

-- the keys whose lengths pass a test
abbrev pub of_length : (ℕ → Bool) → List Key → List Key
of_length test ks = filter (λ k. test (length (key_text k))) ks

unlike : (test : ℕ → Bool) (text : List ℕ) (k : Key) → test (length text) ≡ true → test (length (key_text k)) ≡ false → bytes_eq text (key_text k) ≡ false
unlike test text k passes fails =
    false_from_ne_true (bytes_eq text (key_text k)) (λ same. false≢true (sym fails ∙ sym (ap (λ (bytes : List ℕ). test (length bytes)) ((bytes_eq-Decides text (key_text k)).0 same)) ∙ passes))

one_more : (test : ℕ → Bool) (text : List ℕ) (k : Key) (ks : List Key) (b : Bool) → test (length text) ≡ true → test (length (key_text k)) ≡ b
    → first_key text ks ≡ first_key text (of_length test ks)
    → first_key text (k ∷ ks) ≡ first_key text (cond b (k ∷ of_length test ks) (of_length test ks))
one_more test text k ks true passes is later = ap (λ rest. cond (bytes_eq text (key_text k)) (Some k) rest) later
one_more test text k ks false passes is later = ap (λ b. cond b (Some k) (first_key text ks)) (unlike test text k passes is) ∙ later

pub first_of_length : (test : ℕ → Bool) (text : List ℕ) (ks : List Key) → test (length text) ≡ true
    → first_key text ks ≡ first_key text (of_length test ks)
first_of_length test text [] passes = refl
first_of_length test text (k ∷ ks) passes = one_more test text k ks (test (length (key_text k))) passes refl (first_of_length test text ks passes)

-- a length that few keys have
abbrev pub is_rare : ℕ → Bool
is_rare n = not (n == 3) && (not (n == 4) && (not (n == 6) && not (n == 8)))

pub rare : (n : ℕ) → n ≢ 3 → n ≢ 4 → n ≢ 6 → n ≢ 8 → is_rare n ≡ true
rare n three four six eight = rw (ne_eqb n 3 three, ne_eqb n 4 four, ne_eqb n 6 six, ne_eqb n 8 eight)
