-- Lines that are appended one after the other.
use Rattle.std.proofs.Common.{◌≡◌, ℕ, zero, suc, ◌+◌, ◌<◌, ◌≤◌, List, [], ◌∷◌, ◌++◌, length, take, get_or, map, refl, sym, ap, ◌∙◌, arith, append_assoc}
use Rattle.std.specs.Prelude.{codes, decimal}
use Rattle.std.proofs.lemmas.List.{append-nil, length-take, take_more, take_all, map-append, get_or_default}
use Rattle.std.proofs.lemmas.Grind.{flat_map-append}
use Rattle.std.specs.List.{flat_map, enumerate_from, zip, range_with_len}
use Rattle.cxl_enc.proofs.Lists.{appended}
use Rattle.cxl_enc.proofs.Numbers.{numbers_more}
use Rattle.cxl_reply.specs.Words.{more_spaced}
use Rattle.cxl_reply.specs.Plans.{more_ports_text, ports_text}

module _ {X : Type 0} where
  -- a line more
  one_line : (f : X → List ℕ) (xs : List X) (x : X) → flat_map f (xs ++ x ∷ []) ≡ flat_map f xs ++ f x
  one_line f xs x = flat_map-append f xs (x ∷ []) ∙ ap (λ (ys : List ℕ). flat_map f xs ++ ys) (append-nil (f x))

  enumerated : (n : ℕ) (xs : List X) (x : X) → enumerate_from n (xs ++ x ∷ []) ≡ enumerate_from n xs ++ (n + length xs, x) ∷ []
  enumerated n [] x = let same : n ≡ n + 0 = omega arith in ap (λ (i : ℕ). (i, x) ∷ []) same
  enumerated n (y ∷ ys) x =
      let same : n + 1 + length ys ≡ n + suc (length ys) = omega arith in
      ap (λ (es : List (ℕ × X)). (n, y) ∷ es) (enumerated (n + 1) ys x ∙ ap (λ (i : ℕ). enumerate_from (n + 1) ys ++ (i, x) ∷ []) same)

  -- a line more, behind as many as there are items before it
  pub numbered_line : (f : ℕ × X → List ℕ) (xs : List X) (i : ℕ) (x : X) → i < length xs → get_or xs i x ≡ x → flat_map f (enumerate_from 0 (take (i + 1) xs)) ≡ flat_map f (enumerate_from 0 (take i xs)) ++ f (i, x)
  numbered_line f xs i x within is =
      let same : 0 + length (take i xs) ≡ i = omega (arith, length-take i xs) in
      ap (λ (ys : List X). flat_map f (enumerate_from 0 ys)) (take_more xs i x within ∙ ap (λ (y : X). take i xs ++ y ∷ []) is)
      ∙ ap (flat_map f) (enumerated 0 (take i xs) x ∙ ap (λ (n : ℕ). enumerate_from 0 (take i xs) ++ (n, x) ∷ []) same)
      ∙ flat_map-append f (enumerate_from 0 (take i xs)) ((i, x) ∷ []) ∙ ap (λ (ys : List ℕ). flat_map f (enumerate_from 0 (take i xs)) ++ ys) (append-nil (f (i, x)))

module _ {K V : Type 0} where
  zipped : (ks : List K) (vs : List V) (k : K) (v : V) → length ks ≡ length vs → zip (ks ++ k ∷ []) (vs ++ v ∷ []) ≡ zip ks vs ++ (k, v) ∷ []
  zipped [] [] k v same = refl
  zipped [] (w ∷ ws) k v same = absurd (omega arith)
  zipped (j ∷ js) [] k v same = absurd (omega arith)
  zipped (j ∷ js) (w ∷ ws) k v same = ap (λ (es : List (K × V)). (j, w) ∷ es) (zipped js ws k v (omega arith))

  -- the first i of two lists, and then one more of each
  pub zip-take_more : (ks : List K) (vs : List V) (i : ℕ) (k : K) (v : V) → i < length ks → i < length vs → get_or ks i k ≡ k → get_or vs i v ≡ v → zip (take (i + 1) ks) (take (i + 1) vs) ≡ zip (take i ks) (take i vs) ++ (k, v) ∷ []
  zip-take_more ks vs i k v in_ks in_vs is_k is_v =
      let same : length (take i ks) ≡ length (take i vs) = omega (arith, length-take i ks, length-take i vs) in
      let more_k = take_more ks i k in_ks ∙ ap (λ (x : K). take i ks ++ x ∷ []) is_k in
      let more_v = take_more vs i v in_vs ∙ ap (λ (x : V). take i vs ++ x ∷ []) is_v in
      ap (λ (xs : List K). zip xs (take (i + 1) vs)) more_k ∙ ap (zip (take i ks ++ k ∷ [])) more_v ∙ zipped (take i ks) (take i vs) k v same

  -- a pair's line more
  pub paired_line : (f : K × V → List ℕ) (ks : List K) (vs : List V) (i : ℕ) (k : K) (v : V) → i < length ks → i < length vs → get_or ks i k ≡ k → get_or vs i v ≡ v → flat_map f (zip (take (i + 1) ks) (take (i + 1) vs)) ≡ flat_map f (zip (take i ks) (take i vs)) ++ f (k, v)
  paired_line f ks vs i k v in_ks in_vs is_k is_v =
      ap (flat_map f) (zip-take_more ks vs i k v in_ks in_vs is_k is_v)
      ∙ flat_map-append f (zip (take i ks) (take i vs)) ((k, v) ∷ []) ∙ ap (λ (ys : List ℕ). flat_map f (zip (take i ks) (take i vs)) ++ ys) (append-nil (f (k, v)))

  -- no more pairs than there are first items
  pub zip-take : (ks : List K) (vs : List V) → zip ks (take (length ks) vs) ≡ zip ks vs
  zip-take [] vs = refl
  zip-take (k ∷ ks) [] = refl
  zip-take (k ∷ ks) (v ∷ vs) = ap (λ (es : List (K × V)). (k, v) ∷ es) (zip-take ks vs)

  zip-length : (ks : List K) (vs : List V) → length ks ≡ length vs → length (zip ks vs) ≡ length ks
  zip-length [] vs same = refl
  zip-length (k ∷ ks) [] same = absurd (omega arith)
  zip-length (k ∷ ks) (v ∷ vs) same = ap suc (zip-length ks vs (omega arith))

  -- a pair's line more, behind as many as there are pairs before it
  pub numbered_pair : (f : ℕ × (K × V) → List ℕ) (ks : List K) (vs : List V) (i : ℕ) (k : K) (v : V) → i < length ks → i < length vs → get_or ks i k ≡ k → get_or vs i v ≡ v
      → flat_map f (enumerate_from 0 (zip (take (i + 1) ks) (take (i + 1) vs))) ≡ flat_map f (enumerate_from 0 (zip (take i ks) (take i vs))) ++ f (i, (k, v))
  numbered_pair f ks vs i k v in_ks in_vs is_k is_v =
      let same : length (take i ks) ≡ length (take i vs) = omega (arith, length-take i ks, length-take i vs) in
      let pairs : List (K × V) = zip (take i ks) (take i vs) in
      let count : 0 + length pairs ≡ i = omega (arith, zip-length (take i ks) (take i vs) same, length-take i ks) in
      ap (λ (es : List (K × V)). flat_map f (enumerate_from 0 es)) (zip-take_more ks vs i k v in_ks in_vs is_k is_v)
      ∙ ap (flat_map f) (enumerated 0 pairs (k, v) ∙ ap (λ (n : ℕ). enumerate_from 0 pairs ++ (n, (k, v)) ∷ []) count)
      ∙ one_line f (enumerate_from 0 pairs) (i, (k, v))

-- ---- ports with commas between

ports_text-push : (port : ℕ) (ports : List ℕ) (more : ℕ) → ports_text ((port ∷ ports) ++ more ∷ []) ≡ ports_text (port ∷ ports) ++ (codes "," ++ decimal more)
ports_text-push port ports more =
    ap (λ (text : List ℕ). decimal port ++ text) (one_line (λ p. codes "," ++ decimal p) ports more)
    ∙ sym (append_assoc (decimal port) (more_ports_text ports) (codes "," ++ decimal more))

-- a port more, behind at least one
pub one_port : (f : ℕ → ℕ) (n : ℕ) → 1 ≤ n → ports_text (map f (range_with_len 0 (n + 1))) ≡ ports_text (map f (range_with_len 0 n)) ++ (codes "," ++ decimal (f n))
one_port f zero some = absurd (omega arith)
one_port f (suc n) some =
    let last : 0 + suc n ≡ suc n = omega arith in
    ap (λ (is : List ℕ). ports_text (map f is)) (numbers_more 0 (suc n))
    ∙ ap ports_text (map-append f (range_with_len 0 (suc n)) ((0 + suc n) ∷ []))
    ∙ ports_text-push (f 0) (map f (range_with_len 1 n)) (f (0 + suc n))
    ∙ ap (λ (i : ℕ). ports_text (map f (range_with_len 0 (suc n))) ++ (codes "," ++ decimal (f i))) last

-- ---- steps of loops

-- a line for each item
pub item_step : {X : Type 0} (f : X → List ℕ) (xs : List X) (i : ℕ) (d : X) (o p q : List ℕ) → i < length xs → p ≡ o ++ flat_map f (take i xs) → q ≡ p ++ f (get_or xs i d) → q ≡ o ++ flat_map f (take (i + 1) xs)
item_step f xs i d o p q within so_far e =
    appended o p q (flat_map f (take i xs)) (f (get_or xs i d)) so_far e
    ∙ ap (λ (t : List ℕ). o ++ t) (sym (ap (flat_map f) (take_more xs i d within) ∙ one_line f (take i xs) (get_or xs i d)))

-- a word for each item, behind a space
pub word_step : {X : Type 0} (f : X → List ℕ) (xs : List X) (i : ℕ) (d : X) (o p q : List ℕ) → i < length xs → p ≡ o ++ more_spaced (map f (take i xs)) → q ≡ p ++ (codes " " ++ f (get_or xs i d)) → q ≡ o ++ more_spaced (map f (take (i + 1) xs))
word_step {X = X} f xs i d o p q within so_far e =
    let word : List ℕ = f (get_or xs i d) in
    let more =
    ap (λ (ys : List X). more_spaced (map f ys)) (take_more xs i d within)
    ∙ ap more_spaced (map-append f (take i xs) (get_or xs i d ∷ []))
    ∙ one_line (λ w. codes " " ++ w) (map f (take i xs)) word in
    appended o p q (more_spaced (map f (take i xs))) (codes " " ++ word) so_far e
    ∙ ap (λ (t : List ℕ). o ++ t) (sym more)

-- the text of all items
pub all_items : {X : Type 0} (text : List X → List ℕ) (xs : List X) (i : ℕ) (o p : List ℕ) → length xs ≤ i → p ≡ o ++ text (take i xs) → p ≡ o ++ text xs
all_items {X = X} text xs i o p long so_far = so_far ∙ ap (λ (ys : List X). o ++ text ys) (take_all i xs long)

-- a line for each item, with its number
pub line_step : {X : Type 0} (f : ℕ × X → List ℕ) (xs : List X) (i : ℕ) (d : X) (o p q : List ℕ) → i < length xs → p ≡ o ++ flat_map f (enumerate_from 0 (take i xs)) → q ≡ p ++ f (i, get_or xs i d) → q ≡ o ++ flat_map f (enumerate_from 0 (take (i + 1) xs))
line_step f xs i d o p q within so_far e =
    appended o p q (flat_map f (enumerate_from 0 (take i xs))) (f (i, get_or xs i d)) so_far e
    ∙ ap (λ (t : List ℕ). o ++ t) (sym (numbered_line f xs i (get_or xs i d) within (get_or_default xs i (get_or xs i d) d within)))

-- lines for each pair
pub pair_step : {K V : Type 0} (f : K × V → List ℕ) (ks : List K) (vs : List V) (i : ℕ) (d : K) (v : V) (o p q : List ℕ) → i < length ks → i < length vs → v ≡ get_or vs i v → p ≡ o ++ flat_map f (zip (take i ks) (take i vs)) → q ≡ p ++ f (get_or ks i d, v) → q ≡ o ++ flat_map f (zip (take (i + 1) ks) (take (i + 1) vs))
pair_step f ks vs i d v o p q in_ks in_vs is so_far e =
    appended o p q (flat_map f (zip (take i ks) (take i vs))) (f (get_or ks i d, v)) so_far e
    ∙ ap (λ (t : List ℕ). o ++ t) (sym (paired_line f ks vs i (get_or ks i d) v in_ks in_vs (get_or_default ks i (get_or ks i d) d in_ks) (sym is)))

-- a line for each pair of numbers, with its number
pub share_step : (f : ℕ × (ℕ × ℕ) → List ℕ) (ks vs : List ℕ) (i : ℕ) (o p q : List ℕ) → i < length ks → i < length vs → p ≡ o ++ flat_map f (enumerate_from 0 (zip (take i ks) (take i vs))) → q ≡ p ++ f (i, (get_or ks i 0, get_or vs i 0)) → q ≡ o ++ flat_map f (enumerate_from 0 (zip (take (i + 1) ks) (take (i + 1) vs)))
share_step f ks vs i o p q in_ks in_vs so_far e =
    appended o p q (flat_map f (enumerate_from 0 (zip (take i ks) (take i vs)))) (f (i, (get_or ks i 0, get_or vs i 0))) so_far e
    ∙ ap (λ (t : List ℕ). o ++ t) (sym (numbered_pair f ks vs i (get_or ks i 0) (get_or vs i 0) in_ks in_vs (get_or_default ks i (get_or ks i 0) 0 in_ks) (get_or_default vs i (get_or vs i 0) 0 in_vs)))

-- the pairs of all first items
pub all_shares : (f : ℕ × (ℕ × ℕ) → List ℕ) (ks vs : List ℕ) (i : ℕ) → length ks ≤ i → i ≤ length ks → flat_map f (enumerate_from 0 (zip (take i ks) (take i vs))) ≡ flat_map f (enumerate_from 0 (zip ks vs))
all_shares f ks vs i long within =
    let end : i ≡ length ks = omega arith in
    ap (λ (xs : List ℕ). flat_map f (enumerate_from 0 (zip xs (take i vs)))) (take_all i ks long)
    ∙ ap (λ (n : ℕ). flat_map f (enumerate_from 0 (zip ks (take n vs)))) end ∙ ap (λ (es : List (ℕ × ℕ)). flat_map f (enumerate_from 0 es)) (zip-take ks vs)
