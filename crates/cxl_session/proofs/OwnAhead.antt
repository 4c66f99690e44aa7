-- The rows of a legal plan are its region's own decoders where all of them are committed.
use Rattle.std.proofs.Common.{◌≡◌, ◌≢◌, ℕ, zero, suc, ◌+◌, ◌<◌, ◌≤◌, ◌⊎◌, List, [], ◌∷◌, length, get_or, map, Option, Some, None, refl, sym, ap, subst, ◌∙◌, inl, inr, arith}
use Rattle.std.specs.Prelude.{All, AllPairs, Contains, option_map}
use Rattle.std.specs.Option.{option_and_then}
use Rattle.std.specs.List.{filter_map, cons_option, range_with_len}
use Rattle.std.proofs.lemmas.Bool.{cases_Bool, cases_lt}
use Rattle.cxl_regs.specs.declared.decoder.Decoder.{Decoder}
use Rattle.cxl_regs.specs.declared.reading.Range.{Range}
use Rattle.cxl_regs.specs.Reading.{decoder_ways}
use Rattle.cxl_model.specs.declared.plan.Plan.{Plan}
use Rattle.cxl_model.specs.declared.plan.Row.{Row}
use Rattle.cxl_model.specs.declared.request.Request.{Request}
use Rattle.cxl_model.specs.Plans.{IsLegalPlan, with_rows}
use Rattle.cxl_model.specs.Ranges.{decoder_for}
use Rattle.cxl_model.specs.Regions.{region_range}
use Rattle.cxl_model.specs.System.{System, IsSystem}
use Rattle.cxl_model.proofs.RangeCounts.{serves_within}
use Rattle.cxl_legal.specs.Stated.{has_row}
use Rattle.cxl_legal.proofs.FittingRows.{Rowed, ByRow, by_row, serves_row, no_row_of}
use Rattle.cxl_walk.specs.declared.own.Own.{Own}
use Rattle.cxl_walk.specs.Keeping.{own_for, own_decoders}
use Rattle.cxl_walk.proofs.Slots.{own_nowhere}
use Rattle.cxl_session.specs.inner.Creating.{own_of}

-- ---- rows in rising order

module _ (f : ℕ → Option Own) where
  -- what f gives of a node is told by its row, or it has none
  abbrev Tells : List Row → ℕ → Type 0
  Tells rows n = ((f n ≡ None) × All (λ (row : Row). row.node ≢ n) rows) ⊎ ((row : Row) × Contains rows row × (row.node ≡ n) × (f n ≡ Some (own_of row)))

  abbrev Rising : List Row → Type 0
  Rising rows = AllPairs (λ (row next : Row). row.node < next.node) rows

  behind_first : (first : Row) (rest : List Row) → Rising (first ∷ rest) → (row : Row) → Contains rest row → first.node < row.node
  behind_first first rest rising row there = subst (λ (r : Row). first.node < r.node) there.2 (rising 0 (suc there.0) row (omega arith) (let low = there.1 in omega (arith, low)))

  -- a row of the first one's node is that one
  one_row : (first : Row) (rest : List Row) → Rising (first ∷ rest) → (row : Row) → (there : Contains (first ∷ rest) row) → row.node ≡ first.node → row ≡ first
  one_row first rest rising row there same = go there.0 there.1 there.2
    where
      go : (k : ℕ) → k < length (first ∷ rest) → get_or (first ∷ rest) k row ≡ row → row ≡ first
      go zero low is = sym is
      go (suc k) low is = let later = behind_first first rest rising row (k, omega (arith, low), is) in absurd (omega (arith, later, same))

  in_rest : (first : Row) (rest : List Row) (row : Row) → (there : Contains (first ∷ rest) row) → row.node ≢ first.node → Contains rest row
  in_rest first rest row there other = go there.0 there.1 there.2
    where
      go : (k : ℕ) → k < length (first ∷ rest) → get_or (first ∷ rest) k row ≡ row → Contains rest row
      go zero low is = absurd (other (ap (λ (r : Row). r.node) (sym is)))
      go (suc k) low is = (k, omega (arith, low), is)

  rising_rest : (first : Row) (rest : List Row) → Rising (first ∷ rest) → Rising rest
  rising_rest first rest rising i j d less low = rising (suc i) (suc j) d (omega (arith, less)) (omega (arith, low))

  all_rest : (P : Row → Type 0) (first : Row) (rest : List Row) → All P (first ∷ rest) → All P rest
  all_rest P first rest all k d low = all (suc k) d (omega (arith, low))

  at_least : (from : ℕ) (first : Row) (rest : List Row) → Rising (first ∷ rest) → from < first.node → All (λ (row : Row). from + 1 ≤ row.node) (first ∷ rest)
  at_least from first rest rising later zero d low = omega (arith, later)
  at_least from first rest rising later (suc k) d low = let up = rising 0 (suc k) d (omega arith) low in omega (arith, up, later)

  not_before : (from : ℕ) (first : Row) (rest : List Row) → Rising (first ∷ rest) → (other : Row) → Contains (first ∷ rest) other → other.node ≡ from → from < first.node → ⊥
  not_before from first rest rising other there is later =
      let up = subst (λ (r : Row). from + 1 ≤ r.node) there.2 (at_least from first rest rising later there.0 other there.1) in
      omega (arith, up, is)

  pub gathered : (from k : ℕ) (rows : List Row) → Rising rows → All (λ (row : Row). from ≤ row.node) rows → All (λ (row : Row). row.node < from + k) rows
      → ((n : ℕ) → from ≤ n → n < from + k → Tells rows n) → filter_map f (range_with_len from k) ≡ map own_of rows
  gathered from zero [] rising low high tells = refl
  gathered from zero (row ∷ rest) rising low high tells = absurd (let a = low 0 row (omega arith) in let b = high 0 row (omega arith) in omega (arith, a, b))
  gathered from (suc k) [] rising low high tells =
      let rest = gathered (from + 1) k [] (λ i j d less within. absurd (omega (arith, within))) (λ i d within. absurd (omega (arith, within))) (λ i d within. absurd (omega (arith, within)))
      (λ n above below. tells n (omega (arith, above)) (omega (arith, below))) in
      elim (tells from (omega arith) (omega arith)) [
        | inl none ↦ ap (λ (o : Option Own). cons_option o (filter_map f (range_with_len (from + 1) k))) none.0 ∙ rest
        | inr some ↦ absurd (let within = some.1.1 in omega (arith, within))
      ]
  gathered from (suc k) (row ∷ rest) rising low high tells =
      elim (cases_lt from row.node) [
        | inl later ↦
            let more = gathered (from + 1) k (row ∷ rest) rising
            (at_least from row rest rising later)
            (λ i d within. let h = high i d within in omega (arith, h))
            (λ n above below. tells n (omega (arith, above)) (omega (arith, below))) in
            elim (tells from (omega arith) (omega arith)) [
              | inl none ↦ ap (λ (o : Option Own). cons_option o (filter_map f (range_with_len (from + 1) k))) none.0 ∙ more
              | inr some ↦ absurd (not_before from row rest rising some.0 some.1 some.2 later)
            ]
        | inr here ↦
            let first : from ≡ row.node = (let a = low 0 row (omega arith) in omega (arith, a, here)) in
            let more = gathered (from + 1) k rest (rising_rest row rest rising)
            (λ i d within. let up = rising 0 (suc i) d (omega arith) (omega (arith, within)) in omega (arith, up, first))
            (λ i d within. let h = high (suc i) d (omega (arith, within)) in omega (arith, h))
            (λ n above below. rest_tells n (tells n (omega (arith, above)) (omega (arith, below))) (λ e. omega (arith, e, above, first))) in
            elim (tells from (omega arith) (omega arith)) [
              | inl none ↦ absurd (none.1 0 row (omega arith) (sym first))
              | inr some ↦
                  ap (λ (o : Option Own). cons_option o (filter_map f (range_with_len (from + 1) k)))
                  (some.3 ∙ ap (λ (r : Row). Some (own_of r)) (one_row row rest rising some.0 some.1 (some.2 ∙ first)))
                  ∙ ap (λ (xs : List Own). own_of row ∷ xs) more
            ]
      ]
    where
      rest_tells : (n : ℕ) → Tells (row ∷ rest) n → n ≢ row.node → Tells rest n
      rest_tells n (inl none) other = inl (none.0, all_rest (λ (r : Row). r.node ≢ n) row rest none.1)
      rest_tells n (inr some) other = inr (some.0, in_rest row rest some.0 some.1 (λ e. other (sym some.2 ∙ e)), some.2, some.3)

-- ---- the rows of a plan

module _ (s : System) (system : IsSystem s) (request : Request) (plan : Plan) (legal : IsLegalPlan s request plan) (after : IsSystem (with_rows s plan.rows)) where
  abbrev range : Range
  range = region_range plan.found

  rowed : Rowed s request range plan.rows
  rowed = record { system = system; rows_of = legal.1.rows_of; each = legal.1.each_row; new = legal.1.new }

  told : (n : ℕ) → Tells (own_for (with_rows s plan.rows) range) plan.rows n
  told n = elim (cases_Bool (has_row s request n)) [
    | inl is ↦
        let own : ByRow s request range plan.rows n = by_row s request range plan.rows rowed n is in
        inr (
          own.row,
          own.there,
          own.node,
          ap (λ (o : Option ℕ). option_and_then (λ (i : ℕ). option_map (λ (d : Decoder). record { node = n; index = i; ways = decoder_ways d }) (decoder_for (with_rows s plan.rows) range n)) o) own.number
              ∙ ap (λ (o : Option Decoder). option_map (λ (d : Decoder). record { node = n; index = own.row.index; ways = decoder_ways d }) o) own.first
              ∙ ap (λ (m : ℕ). Some (record { node = m; index = own.row.index; ways = decoder_ways own.row.decoder })) (sym own.node),
        )
    | inr none ↦
        inl (own_nowhere (with_rows s plan.rows) range n (serves_row s request range plan.rows rowed n ∙ none), no_row_of s request plan.rows n legal.1.rows_of none)
  ]

  pub own_ahead : map own_of plan.rows ≡ own_decoders (with_rows s plan.rows) plan.found
  own_ahead =
      sym (gathered (own_for (with_rows s plan.rows) range) 0 (length s.nodes) plan.rows legal.1.rows_of.rising (λ k d low. omega arith) within (λ n _ _. told n))
    where
      within : All (λ (row : Row). row.node < 0 + length s.nodes) plan.rows
      within k d low =
          let row : Row = get_or plan.rows k d in
          elim (cases_Bool (has_row s request row.node)) [
            | inl is ↦ let below : row.node < length s.nodes = serves_within (with_rows s plan.rows) range row.node after (serves_row s request range plan.rows rowed row.node ∙ is) in omega (arith, below)
            | inr none ↦ absurd (no_row_of s request plan.rows row.node legal.1.rows_of none k d low refl)
          ]
