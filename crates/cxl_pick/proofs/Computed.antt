-- What is picked, as it is computed, is what a pick's answer is known to be.
use Rattle.std.proofs.Common.{◌≡◌, ◌≢◌, ℕ, zero, suc, ◌+◌, ◌<◌, ◌≤◌, ◌⊎◌, Bool, true, false, not, ◌||◌, List, [], ◌∷◌, length, get_or, filter, map, Option, Some, None, Result, Ok, Err, refl, sym, ap, subst, ◌∙◌, inl, inr, arith}
use Rattle.std.specs.Prelude.{slice_get, if◌then◌else◌, All, AllPairs}
use Rattle.std.specs.List.{range_with_len}
use Rattle.std.specs.Result.{is_err}
use Rattle.std.proofs.lemmas.Bool.{cases_Bool, cases_eq, cond-true, cond-false, eq-eqb, ne_eqb, false≢true}
use Rattle.std.proofs.lemmas.Option.{none-some, same_Some}
use Rattle.cxl_enc.specs.Codes.{is_ways}
use Rattle.cxl_enc.proofs.Lists.{is_in, in_from, in_is}
use Rattle.cxl_topo.specs.Laws.{AreTreeLaws}
use Rattle.cxl_window.specs.Fields.{WindowFields}
use Rattle.cxl_model.specs.System.{System, IsSystem}
use Rattle.cxl_legal.specs.Firsts.{first_there}
use Rattle.cxl_legal.specs.Sizes.{is_size_for}
use Rattle.cxl_legal.specs.Used.{AreEndpoints, HasBytePorts}
use Rattle.cxl_pick.specs.declared.want.Want.{Want}
use Rattle.cxl_pick.specs.declared.fault.PickFault.{PickFault}
use Rattle.cxl_pick.specs.declared.fault.PickFault.TheVariants as faults
use Rattle.cxl_pick.specs.Picking.{asked, given_in, AreInOrder, IsPicked, IsWantedSize, TellsPickFault}
use Rattle.cxl_pick.specs.Picked.{in_rising_order, set_or_none, picked}
use Rattle.cxl_legal.proofs.SizeTests.{size_holds, size_passes}
use Rattle.cxl_pick.proofs.Givings.{are_in_order}
use Rattle.cxl_pick.proofs.Parts.{OfWindow, Picked, in_window, named}
use Rattle.cxl_pick.proofs.Picks.{given_low, window_there}

-- ---- sizes

no_size : (want : Want) → (IsWantedSize want → ⊥) → is_size_for want.size want.ways ≡ false
no_size want none = elim (cases_Bool (is_size_for want.size want.ways)) [ inl holds ↦ absurd (none (size_holds want.size want.ways holds)) | inr fails ↦ fails ]

-- ---- the first that is there

module _ {X A : Type 0} (h : X → Option A) where
  first_given : (xs : List X) (i : ℕ) (x : X) (a : A) → slice_get xs i ≡ Some x → h x ≡ Some a → ((j : ℕ) (y : X) → j < i → slice_get xs j ≡ Some y → h y ≡ None) → first_there (map h xs) ≡ Some a
  first_given [] i x a there gives before = absurd (none-some x there)
  first_given (y ∷ ys) zero x a there gives before = let here : h y ≡ Some a = ap h (same_Some y x there) ∙ gives in rw here refl
  first_given (y ∷ ys) (suc i) x a there gives before =
      let none : h y ≡ None = before 0 y (omega arith) refl in
      rw none (first_given ys i x a there gives (λ j z less at. before (suc j) z (omega arith) at))

  none_given : (xs : List X) → ((j : ℕ) (y : X) → slice_get xs j ≡ Some y → h y ≡ None) → first_there (map h xs) ≡ None
  none_given [] none = refl
  none_given (y ∷ ys) none = let first : h y ≡ None = none 0 y refl in rw first (none_given ys (λ j z at. none (suc j) z at))

-- ---- numbers in rising order

not_first : (x n : ℕ) (rest : List ℕ) → x < n → is_in n (x ∷ rest) ≡ is_in n rest
not_first x n rest less = ap (λ (b : Bool). b || is_in n rest) (ne_eqb x n (λ same. omega arith))

later : (x : ℕ) (rest : List ℕ) → AllPairs (λ a b. a < b) (x ∷ rest) → AllPairs (λ a b. a < b) rest
later x rest order i j d less within = order (suc i) (suc j) d (omega arith) (omega arith)

after_first : (x : ℕ) (rest : List ℕ) → AllPairs (λ a b. a < b) (x ∷ rest) → (i d : ℕ) → i < length rest → x < get_or rest i d
after_first x rest order i d within = order 0 (suc i) d (omega arith) (omega arith)

-- the numbers of a rising list are those that are in it, one after the other
listed_rising : (p : ℕ → Bool) (a k : ℕ) (xs : List ℕ) → AllPairs (λ a b. a < b) xs → All (λ x. a ≤ x) xs → All (λ x. x < a + k) xs → ((n : ℕ) → a ≤ n → n < a + k → p n ≡ is_in n xs) → filter p (range_with_len a k) ≡ xs
listed_rising p a zero [] order from below same = refl
listed_rising p a zero (x ∷ xs) order from below same = let low = from 0 0 (omega arith) in let high = below 0 0 (omega arith) in absurd (omega arith)
listed_rising p a (suc k) [] order from below same =
    let none : p a ≡ false = same a (omega arith) (omega arith) in
    rw none (listed_rising p (a + 1) k [] order (λ i d within. absurd (omega arith)) (λ i d within. absurd (omega arith)) (λ n low high. same n (omega arith) (omega arith)))
listed_rising p a (suc k) (x ∷ xs) order from below same =
    elim (cases_eq x a) [
      | inl first ↦
          let passes : p a ≡ true = same a (omega arith) (omega arith) ∙ ap (λ (b : Bool). b || is_in a xs) (eq-eqb x a first) in
          let rest : filter p (range_with_len (a + 1) k) ≡ xs =
          listed_rising p (a + 1) k xs (later x xs order) (λ i d within. let past = after_first x xs order i d within in omega arith)
          (λ i d within. let high = below (suc i) d (omega arith) in omega arith)
          (λ n low high. same n (omega arith) (omega arith) ∙ not_first x n xs (omega arith)) in
          rw passes (ap (λ (ns : List ℕ). a ∷ ns) rest ∙ ap (λ (n : ℕ). n ∷ xs) (sym first))
      | inr other ↦
          let low = from 0 0 (omega arith) in
          let none : p a ≡ false = same a (omega arith) (omega arith) ∙ absent other in
          rw none (listed_rising p (a + 1) k (x ∷ xs) order (λ i d within. past i d other within) (λ i d within. let high = below i d within in omega arith) (λ n up down. same n (omega arith) (omega arith)))
    ]
  where
    past : (i d : ℕ) → x ≢ a → i < length (x ∷ xs) → a + 1 ≤ get_or (x ∷ xs) i d
    past zero d other within = let low = from 0 d (omega arith) in omega arith
    past (suc i) d other within = let low = from 0 d (omega arith) in let more = after_first x xs order i d (omega arith) in omega arith

    absent : x ≢ a → is_in a (x ∷ xs) ≡ false
    absent other =
        elim (cases_Bool (is_in a (x ∷ xs))) [
          | inr none ↦ none
          | inl there ↦
              let at = in_is (x ∷ xs) a there in
              let more = past at.0 a other at.1 in
              let read = at.2 in
              absurd (omega arith)
        ]

in_both : (given set : List ℕ) → AreInOrder given set → (n : ℕ) → is_in n given ≡ is_in n set
in_both given set rising n =
    elim (cases_Bool (is_in n given)) [
      | inl there ↦ there ∙ sym (in_from set n ((rising.same n).0 (in_is given n there)))
      | inr absent ↦ elim (cases_Bool (is_in n set)) [
        | inr none ↦ absent ∙ sym none
        | inl there ↦ absurd (false≢true (sym absent ∙ in_from given n ((rising.same n).1 (in_is set n there))))
      ]
    ]

in_order : (count : ℕ) (given set : List ℕ) → All (λ n. n < count) given → AreInOrder given set → filter (λ n. is_in n given) (range_with_len 0 count) ≡ set
in_order count given set low rising =
    listed_rising (λ n. is_in n given) 0 count set rising.order (λ i d within. omega arith) (λ i d within. below i d within) (λ n from high. in_both given set rising n)
  where
    below : (i d : ℕ) → i < length set → get_or set i d < 0 + count
    below i d within =
        let at = (rising.same (get_or set i d)).1 (i, within, same_read set i d within) in
        let bound = low at.0 (get_or set i d) at.1 in
        let read = at.2 in
        omega arith
      where
        same_read : (xs : List ℕ) (i d : ℕ) → i < length xs → get_or xs i (get_or xs i d) ≡ get_or xs i d
        same_read [] i d within = absurd (omega arith)
        same_read (x ∷ xs) zero d within = refl
        same_read (x ∷ xs) (suc i) d within = same_read xs i d (omega arith)

-- ---- the answer

module _ (s : System) (want : Want) where
  abbrev of_size : Result (List ℕ) PickFault
  of_size = set_or_none s (first_there (map (given_in s want) s.windows))

  abbrev of_ways : Result (List ℕ) PickFault
  of_ways = if not (is_size_for want.size want.ways) then Err faults.Size else of_size

  known_ways : is_ways want.ways ≡ true → picked s want ≡ of_ways
  known_ways ways = cond-false (not (is_ways want.ways)) (Err (faults.Ways want.ways)) of_ways (ap not ways)

  known_size : is_ways want.ways ≡ true → IsWantedSize want → picked s want ≡ of_size
  known_size ways size = known_ways ways ∙ cond-false (not (is_size_for want.size want.ways)) (Err faults.Size) of_size (ap not (size_passes want.size want.ways size))

  pub pick_computed : AreTreeLaws s.nodes → IsSystem s → is_ways want.ways ≡ true → IsWantedSize want → (w : WindowFields) (set : List ℕ) → IsPicked s want w set → picked s want ≡ Ok set
  pick_computed laws system ways size w set is =
      known_size ways size
      ∙ ap (set_or_none s) (first_given (given_in s want) s.windows is.place w is.given is.there is.gives (λ j v less at. is.first j v less at))
      ∙ ap Ok (in_order (length s.nodes) is.given set (given_low s want w is.given laws system (window_there s system is.place w is.there) is.gives) is.rising)

  pub fault_computed : (fault : PickFault) → TellsPickFault s want fault → fault ≢ faults.Memory → picked s want ≡ Err fault
  fault_computed (faults.Ways n) told real =
      cond-true (not (is_ways want.ways)) (Err (faults.Ways want.ways)) of_ways (ap not told.1) ∙ ap (λ (m : ℕ). Err (faults.Ways m)) (sym told.0)
  fault_computed faults.Size told real =
      known_ways told.0 ∙ cond-true (not (is_size_for want.size want.ways)) (Err faults.Size) of_size (ap not (no_size want told.1))
  fault_computed faults.NoSet told real = known_size told.0 told.1 ∙ ap (set_or_none s) (none_given (given_in s want) s.windows told.2)
  fault_computed faults.Memory told real = absurd (real refl)

-- ---- what is told of an answer

-- the first item with an answer, or none has one
module _ {X A : Type 0} (h : X → Option A) where
  record FirstGiven (xs : List X) : Type 0 where
    pub place : ℕ
    pub item : X
    pub answer : A
    pub there : slice_get xs place ≡ Some item
    pub gives : h item ≡ Some answer
    pub before : (j : ℕ) (y : X) → j < place → slice_get xs j ≡ Some y → h y ≡ None

  given_or_none : (xs : List X) → FirstGiven xs ⊎ ((j : ℕ) (y : X) → slice_get xs j ≡ Some y → h y ≡ None)
  given_or_none [] = inr (λ j y at. absurd (none-some y at))
  given_or_none (x ∷ xs) =
      elim (cases_given (h x)) [
        | inr some ↦ inl record { place = 0; item = x; answer = some.0; there = refl; gives = some.1; before = λ j y less at. absurd (omega arith) }
        | inl none ↦ elim (given_or_none xs) [
          | inr all ↦ inr (λ j y at. later_none none j y at all)
          | inl first ↦ inl record {
            place = suc first.place;
            item = first.item;
            answer = first.answer;
            there = first.there;
            gives = first.gives;
            before = λ j y less at. earlier_none none first j y less at;
          }
        ]
      ]
    where
      cases_given : (o : Option A) → (o ≡ None) ⊎ ((a : A) × (o ≡ Some a))
      cases_given None = inl refl
      cases_given (Some a) = inr (a, refl)

      later_none : h x ≡ None → (j : ℕ) (y : X) → slice_get (x ∷ xs) j ≡ Some y → ((i : ℕ) (z : X) → slice_get xs i ≡ Some z → h z ≡ None) → h y ≡ None
      later_none none zero y at all = ap h (sym (same_Some x y at)) ∙ none
      later_none none (suc j) y at all = all j y at

      earlier_none : h x ≡ None → (first : FirstGiven xs) (j : ℕ) (y : X) → j < suc first.place → slice_get (x ∷ xs) j ≡ Some y → h y ≡ None
      earlier_none none first zero y less at = ap h (sym (same_Some x y at)) ∙ none
      earlier_none none first (suc j) y less at = first.before j y (omega arith) at

module _ (s : System) (want : Want) (laws : AreTreeLaws s.nodes) (system : IsSystem s) where
  pub record SetTold (set : List ℕ) : Type 0 where
    pub ways : is_ways want.ways ≡ true
    pub size : IsWantedSize want
    pub window : WindowFields
    pub is : IsPicked s want window set

  abbrev HasSet : Type 0
  HasSet = (set : List ℕ) × SetTold set

  abbrev HasFault : Type 0
  HasFault = (fault : PickFault) × TellsPickFault s want fault × (picked s want ≡ Err fault)

  answered : HasSet ⊎ HasFault
  answered =
      elim (cases_Bool (is_ways want.ways)) [
        | inr fails ↦ inr (faults.Ways want.ways, (refl, fails), cond-true (not (is_ways want.ways)) (Err (faults.Ways want.ways)) (of_ways s want) (ap not fails))
        | inl ways ↦ elim (cases_Bool (is_size_for want.size want.ways)) [
          | inr fails ↦ inr (
            faults.Size,
            (ways, λ size. false≢true (sym fails ∙ size_passes want.size want.ways size)),
            known_ways s want ways ∙ cond-true (not (is_size_for want.size want.ways)) (Err faults.Size) (of_size s want) (ap not fails),
          )
          | inl holds ↦
              let size = size_holds want.size want.ways holds in
              elim (given_or_none (given_in s want) s.windows) [
                | inr nothing ↦ inr (faults.NoSet, (ways, size, nothing), known_size s want ways size ∙ ap (set_or_none s) (none_given (given_in s want) s.windows nothing))
                | inl first ↦
                    let low = given_low s want first.item first.answer laws system (window_there s system first.place first.item first.there) first.gives in
                    inl (
                      in_rising_order s first.answer,
                      record {
                        ways = ways;
                        size = size;
                        window = first.item;
                        is = record {
                          place = first.place;
                          there = first.there;
                          given = first.answer;
                          gives = first.gives;
                          rising = are_in_order (length s.nodes) first.answer low;
                          first = first.before;
                        };
                      },
                    )
              ]
        ]
      ]

  abbrev set_or : List ℕ → Result (List ℕ) PickFault → List ℕ
  set_or a (Ok b) = b
  set_or a (Err e) = a

  abbrev fault_or : PickFault → Result (List ℕ) PickFault → PickFault
  fault_or e (Ok a) = e
  fault_or e (Err f) = f

  computed : (set : List ℕ) → SetTold set → picked s want ≡ Ok set
  computed set told = pick_computed s want laws system told.ways told.size told.window set told.is

  pub told_set : (set : List ℕ) → picked s want ≡ Ok set → SetTold set
  told_set set is =
      elim answered [
        | inl (other, told) ↦ subst SetTold (ap (set_or other) (sym (computed other told) ∙ is)) told
        | inr (fault, told, same) ↦ absurd (false≢true (ap is_err (sym is ∙ same)))
      ]

  pub told_fault : (fault : PickFault) → picked s want ≡ Err fault → TellsPickFault s want fault
  told_fault fault is =
      elim answered [
        | inl (set, told) ↦ absurd (false≢true (ap is_err (sym (computed set told) ∙ is)))
        | inr (other, told, same) ↦ subst (TellsPickFault s want) (ap (fault_or other) (sym same ∙ is)) told
      ]

  pub told_endpoints : HasBytePorts s.nodes → (set : List ℕ) → picked s want ≡ Ok set → AreEndpoints s (asked want set)
  told_endpoints ports set is =
      let told = told_set set is in
      let own = told.is in
      let at = window_there s system own.place told.window own.there in
      let of : OfWindow s want told.window own.given = record { laws = laws; system = system; there = at; window = in_window s want told.window own.given own.gives } in
      let pick : Picked s want told.window own.given set = record { of = of; ports = ports; ways = told.ways; rising = own.rising } in
      named pick
