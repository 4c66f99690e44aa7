-- Places that pass a test, listed node by node.
use Rattle.std.proofs.Common.{◌≡◌, ℕ, ◌+◌, ◌<◌, ◌≤◌, true, false, List, [], ◌∷◌, ◌++◌, length, get_or, refl, sym, ap, ◌∙◌, ◌⊎◌, inl, inr, subst, arith}
use Rattle.std.specs.Prelude.{All, AllPairs}
use Rattle.std.proofs.lemmas.Bool.{cases_lt, false≢true}
use Rattle.std.proofs.lemmas.List.{get_or_append_left, get_or-append-add, length-append}
use Rattle.std.proofs.lemmas.List.Elements.{All-nil, All-push, All-weaker, Contains-push, Contains-append_left}
use Rattle.cxl_model.specs.System.{System}
use Rattle.cxl_model.specs.Accepted.{breaks}
use Rattle.cxl_check.specs.declared.fault.Breach.{Breach}
use Rattle.cxl_check.specs.Breaches.{StandsBefore, Precedes, IsBreachOf, AreBreachesOf}
use Rattle.cxl_check.specs.inner.Listed.{SpotTest, IsSpotBefore, AreSpotsBefore}

-- ---- the order of places

nothing_before : (m i : ℕ) → StandsBefore m i 0 0 → ⊥
nothing_before m i (inl less) = omega arith
nothing_before m i (inr at) = omega arith

before_more : (m i n k : ℕ) → StandsBefore m i n k → StandsBefore m i n (k + 1)
before_more m i n k (inl less) = inl less
before_more m i n k (inr at) = inr (at.0, omega arith)

before_next : (m i n k : ℕ) → StandsBefore m i n k → StandsBefore m i (n + 1) 0
before_next m i n k (inl less) = inl (omega arith)
before_next m i n k (inr at) = inl (omega arith)

-- a place before the next one is before this one, or is this one
before_cases : (m i n k : ℕ) → StandsBefore m i n (k + 1) → StandsBefore m i n k ⊎ ((m ≡ n) × (i ≡ k))
before_cases m i n k (inl less) = inl (inl less)
before_cases m i n k (inr at) =
    elim (cases_lt i k) [ inl below ↦ inl (inr (at.0, below)) | inr over ↦ inr (at.0, omega arith) ]

-- a place before the next node is before this one, or stands in it from decoder k on
node_cases : (m i n k : ℕ) → StandsBefore m i (n + 1) 0 → StandsBefore m i n k ⊎ ((m ≡ n) × (k ≤ i))
node_cases m i n k (inl less) =
    elim (cases_lt m n) [
      | inl below ↦ inl (inl below)
      | inr over ↦
          let same : m ≡ n = omega arith in
          elim (cases_lt i k) [ inl inside ↦ inl (inr (same, inside)) | inr past ↦ inr (same, past) ]
    ]
node_cases m i n k (inr at) = absurd (omega arith)

-- ---- lists

pairs_push : {X : Type 0} (R : X → X → Type 0) (xs : List X) (x : X) → AllPairs R xs → All (λ y. R y x) xs → AllPairs R (xs ++ x ∷ [])
pairs_push R xs x pairs each i j d lt within =
    elim (cases_lt j (length xs)) [
      | inl inside ↦
          let low : i < length xs = omega arith in
          rw (get_or_append_left xs (x ∷ []) d i low, get_or_append_left xs (x ∷ []) d j inside) (pairs i j d lt inside)
      | inr last ↦
          let end : j ≡ length xs + 0 = omega (arith, length-append xs (x ∷ [])) in
          let low : i < length xs = omega arith in
          let is_last : get_or (xs ++ x ∷ []) j d ≡ x = ap (λ (n : ℕ). get_or (xs ++ x ∷ []) n d) end ∙ get_or-append-add xs (x ∷ []) 0 d in
          rw (get_or_append_left xs (x ∷ []) d i low, is_last) (each i d low)
    ]

-- ---- one place after the other

module _ (test : SpotTest) (rule : ℕ) where
  spot : ℕ → ℕ → Breach
  spot n k = record { rule = rule; node = n; decoder = k }

  pub no_spots : AreSpotsBefore test rule 0 0 []
  no_spots = record {
    each = All-nil (IsSpotBefore test rule 0 0);
    all = λ m i before passes. absurd (nothing_before m i before);
    rising = λ i j d lt within. absurd (omega arith);
  }

  wider : (n k : ℕ) (b : Breach) → IsSpotBefore test rule n k b → IsSpotBefore test rule n (k + 1) b
  wider n k b is = record { of = is.of; passes = is.passes; before = before_more b.node b.decoder n k is.before }

  pub with_spot : (n k : ℕ) (spots : List Breach) → test n k ≡ true → AreSpotsBefore test rule n k spots → AreSpotsBefore test rule n (k + 1) (spots ++ record { rule = rule; node = n; decoder = k } ∷ [])
  with_spot n k spots passes h = record {
    each =
        All-push (IsSpotBefore test rule n (k + 1)) spots (record { rule = rule; node = n; decoder = k }) (All-weaker (IsSpotBefore test rule n k) (IsSpotBefore test rule n (k + 1)) (wider n k) spots h.each)
        (record { of = refl; passes = passes; before = inr (refl, omega arith) });
    all = λ m i before is. elim (before_cases m i n k before) [
      | inl earlier ↦ Contains-append_left spots (record { rule = rule; node = n; decoder = k } ∷ []) (record { rule = rule; node = m; decoder = i }) (h.all m i earlier is)
      | inr here ↦ rw (here.0, here.1) (Contains-push spots (record { rule = rule; node = n; decoder = k }))
    ];
    rising =
        pairs_push Precedes spots (record { rule = rule; node = n; decoder = k }) h.rising
        (All-weaker (IsSpotBefore test rule n k) (λ b. Precedes b (record { rule = rule; node = n; decoder = k })) (λ b is. is.before) spots h.each);
  }

  pub without_spot : (n k : ℕ) (spots : List Breach) → test n k ≡ false → AreSpotsBefore test rule n k spots → AreSpotsBefore test rule n (k + 1) spots
  without_spot n k spots fails h = record {
    each = All-weaker (IsSpotBefore test rule n k) (IsSpotBefore test rule n (k + 1)) (wider n k) spots h.each;
    all = λ m i before is. elim (before_cases m i n k before) [
      | inl earlier ↦ h.all m i earlier is
      | inr here ↦ let same : test n k ≡ true = rw (here.0, here.1) at is in absurd (false≢true (sym fails ∙ same))
    ];
    rising = h.rising;
  }

  -- a node of which no other decoder passes is behind
  pub next_node : (n k : ℕ) (spots : List Breach) → ((i : ℕ) → k ≤ i → test n i ≡ false) → AreSpotsBefore test rule n k spots → AreSpotsBefore test rule (n + 1) 0 spots
  next_node n k spots rest h = record {
    each = All-weaker (IsSpotBefore test rule n k) (IsSpotBefore test rule (n + 1) 0) (λ b is. record { of = is.of; passes = is.passes; before = before_next b.node b.decoder n k is.before }) spots h.each;
    all = λ m i before is. elim (node_cases m i n k before) [
      | inl earlier ↦ h.all m i earlier is
      | inr here ↦ let same : test n i ≡ true = rw here.0 at is in absurd (false≢true (sym (rest i here.1) ∙ same))
    ];
    rising = h.rising;
  }

  -- where none from node n on passes, these are all
  pub all_spots : (s : System) (n : ℕ) (spots : List Breach) → ((m i : ℕ) → breaks s rule m i ≡ test m i) → ((m i : ℕ) → n ≤ m → test m i ≡ false) → AreSpotsBefore test rule n 0 spots → AreBreachesOf s rule spots
  all_spots s n spots same past h = record {
    each = All-weaker (IsSpotBefore test rule n 0) (IsBreachOf s rule) (λ b is. record { of = is.of; broken = same b.node b.decoder ∙ is.passes }) spots h.each;
    all = λ m i broken.
        let passes : test m i ≡ true = sym (same m i) ∙ broken in
        elim (cases_lt m n) [
          | inl below ↦ h.all m i (inl below) passes
          | inr beyond ↦ absurd (false≢true (sym (past m i beyond) ∙ passes))
        ];
    rising = h.rising;
  }

  pub spots_at : (n m : ℕ) (spots : List Breach) → n ≡ m → AreSpotsBefore test rule n 0 spots → AreSpotsBefore test rule m 0 spots
  spots_at n m spots same h = subst (λ (k : ℕ). AreSpotsBefore test rule k 0 spots) same h
