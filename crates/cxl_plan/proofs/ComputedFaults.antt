-- The fault of a request, as it is computed and as it is told.
use Rattle.std.proofs.Common.{◌≡◌, ℕ, ◌<◌, ◌≤◌, Bool, true, false, not, ◌&&◌, List, [], ◌∷◌, length, get_or, Option, Some, None, refl, sym, ap, subst, ◌∙◌, inl, inr, arith}
use Rattle.std.specs.Prelude.{map, option_map, Contains, ◌==◌, if◌then◌else◌}
use Rattle.std.specs.Bool.{then_some}
use Rattle.std.specs.List.{All, list_any, range_with_len}
use Rattle.std.proofs.lemmas.Bool.{cases_Bool, eqb-true, eq-eqb, false≢true}
use Rattle.std.proofs.lemmas.List.Folds.{list_any_at, Any-from_list_any}
use Rattle.std.proofs.lemmas.Option.{none-some}
use Rattle.cxl_enc.specs.Codes.{is_ways}
use Rattle.cxl_enc.proofs.Options.{cases_Option, none_where}
use Rattle.cxl_topo.specs.Tree.{is_endpoint_at}
use Rattle.cxl_span.specs.declared.allotting.SpanFault.{SpanFault}
use Rattle.cxl_span.specs.Allotting.{all_committed}
use Rattle.cxl_window.specs.Windows.{first_repeat}
use Rattle.cxl_topo.proofs.Trees.{KnownTree, endpoint_within}
use Rattle.cxl_model.specs.declared.request.Request.{Request}
use Rattle.cxl_model.specs.declared.plan.PlanFault.{PlanFault}
use Rattle.cxl_model.specs.declared.plan.PlanFault.TheVariants as faults
use Rattle.cxl_model.specs.Counts.{is_under}
use Rattle.cxl_model.specs.System.{System, decoders_at, ram_at, pmem_at}
use Rattle.cxl_model.proofs.Under.{under_self}
use Rattle.cxl_legal.specs.Firsts.{first_there}
use Rattle.cxl_legal.specs.Sizes.{is_size_for}
use Rattle.cxl_legal.specs.Used.{request_ways, is_used}
use Rattle.cxl_legal.specs.Endpoints.{share_of, is_uneven, lacks_decoder, HasRoom}
use Rattle.cxl_plan.specs.Faults.{SaysOfRequest, turn_of_fault, IsRefusedSpan, least}
use Rattle.cxl_plan.specs.Planned.{fault_before_windows, span_fault, refused_span}
use Rattle.cxl_legal.proofs.SizeTests.{size_holds, size_passes}
use Rattle.cxl_plan.proofs.Finding.{none_found}
use Rattle.cxl_plan.proofs.FaultOrder.{not_refused}
use Rattle.cxl_plan.proofs.FirstThere.{past_none, at_some, all_none, first_of_nodes, first_or_none, some_then, none_then}
use Rattle.cxl_plan.proofs.ComputedSpans.{room_where, told_refusal, refusal_told}

-- ---- requested endpoints

abbrev pub is_asked : Request → ℕ → Bool
is_asked request m = list_any (λ endpoint. endpoint == m) request.endpoints

asked_where : (request : Request) (m : ℕ) → Contains request.endpoints m → is_asked request m ≡ true
asked_where request m (k, inside, read) = list_any_at (λ endpoint. endpoint == m) request.endpoints k m inside (eq-eqb (get_or request.endpoints k m) m read)

where_asked : (request : Request) (m : ℕ) → is_asked request m ≡ true → Contains request.endpoints m
where_asked request m asked =
    let some = Any-from_list_any (λ endpoint. endpoint == m) request.endpoints asked in
    let same : some.1 ≡ m = eqb-true some.1 m some.4 in
    (some.0, some.2, subst (λ (x : ℕ). get_or request.endpoints some.0 x ≡ x) same some.3)

fault_asked : (s : System) (request : Request) (m : ℕ) → is_asked request m ≡ true → span_fault s request m ≡ option_map (faults.Span m) (refused_span s request m)
fault_asked s request m asked = ap (λ (b : Bool). if b then option_map (faults.Span m) (refused_span s request m) else None) asked

fault_unasked : (s : System) (request : Request) (m : ℕ) → is_asked request m ≡ false → span_fault s request m ≡ None
fault_unasked s request m asked = ap (λ (b : Bool). if b then option_map (faults.Span m) (refused_span s request m) else None) asked

module _ (s : System) (known : KnownTree s.nodes) (request : Request) (named : All (λ m. is_endpoint_at s.nodes m ≡ true) request.endpoints) where
  -- ---- the answers to each fault

  abbrev part_0 : Option PlanFault
  part_0 = option_map faults.Repeat (first_repeat [] request.endpoints)

  abbrev part_1 : Option PlanFault
  part_1 = then_some (not (is_ways (request_ways request))) (faults.Ways (request_ways request))

  abbrev part_2 : Option PlanFault
  part_2 = then_some (not (is_size_for request.size (request_ways request))) faults.Size

  abbrev part_3 : Option PlanFault
  part_3 = option_map faults.Uneven (least s (is_uneven s request))

  abbrev part_4 : Option PlanFault
  part_4 = option_map faults.NoDecoder (least s (lacks_decoder s request))

  abbrev part_5 : Option PlanFault
  part_5 = first_there (map (span_fault s request) (range_with_len 0 (length s.nodes)))

  abbrev parts_1 : List (Option PlanFault)
  parts_1 = part_1 ∷ part_2 ∷ part_3 ∷ part_4 ∷ part_5 ∷ []

  abbrev parts_2 : List (Option PlanFault)
  parts_2 = part_2 ∷ part_3 ∷ part_4 ∷ part_5 ∷ []

  abbrev parts_3 : List (Option PlanFault)
  parts_3 = part_3 ∷ part_4 ∷ part_5 ∷ []

  abbrev parts_4 : List (Option PlanFault)
  parts_4 = part_4 ∷ part_5 ∷ []

  abbrev parts_5 : List (Option PlanFault)
  parts_5 = part_5 ∷ []

  -- ---- spans

  abbrev pub HasDecoders : Type 0
  HasDecoders = least s (lacks_decoder s request) ≡ None

  pub asked_inside : (m : ℕ) → Contains request.endpoints m → m < length s.nodes
  asked_inside m (k, below, read) = endpoint_within s.nodes m (subst (λ (n : ℕ). is_endpoint_at s.nodes n ≡ true) read (named k m below))

  left : HasDecoders → (m : ℕ) → Contains request.endpoints m → all_committed (decoders_at s m) ≡ false
  left has m asked =
      let low = asked_inside m asked in
      let kept : lacks_decoder s request m ≡ false = none_found (lacks_decoder s request) 0 (length s.nodes) has m (omega arith) (omega arith) in
      let used : is_used s request m ≡ true =
      list_any_at (is_under s.nodes m) request.endpoints asked.0 m asked.1 (ap (is_under s.nodes m) asked.2 ∙ under_self known m) in
      sym (ap (λ (b : Bool). b && all_committed (decoders_at s m)) used) ∙ kept

  pub no_fault_room : HasDecoders → (m : ℕ) → Contains request.endpoints m → span_fault s request m ≡ None → HasRoom s request m
  no_fault_room has m asked none =
      room_where (decoders_at s m) (ram_at s m) (pmem_at s m) request.kind (share_of request) (left has m asked)
      (none_where (refused_span s request m)
      (λ fault some. none-some (faults.Span m fault) (sym none ∙ fault_asked s request m (asked_where request m asked) ∙ ap (option_map (faults.Span m)) some)))

  room_no_fault : HasDecoders → (m : ℕ) → Contains request.endpoints m → HasRoom s request m → span_fault s request m ≡ None
  room_no_fault has m asked room =
      fault_asked s request m (asked_where request m asked)
      ∙ ap (option_map (faults.Span m))
      (none_where (refused_span s request m)
      (λ fault some.
      not_refused (decoders_at s m) (ram_at s m) (pmem_at s m) request.kind (share_of request) fault
      (told_refusal (decoders_at s m) (ram_at s m) (pmem_at s m) request.kind (share_of request) fault (left has m asked) some) room.0 room.1))

  span_told : HasDecoders → (m : ℕ) (fault : SpanFault) → IsRefusedSpan s request m fault → part_5 ≡ Some (faults.Span m fault)
  span_told has m fault is =
      let low = asked_inside m is.asked in
      first_of_nodes (span_fault s request) 0 (length s.nodes) m (faults.Span m fault) (omega arith) (omega arith)
      (fault_asked s request m (asked_where request m is.asked)
      ∙ ap (option_map (faults.Span m)) (refusal_told (decoders_at s m) (ram_at s m) (pmem_at s m) request.kind (share_of request) fault (left has m is.asked) is.refused))
      (λ n from below. earlier n below)
    where
      earlier : (n : ℕ) → n < m → span_fault s request n ≡ None
      earlier n below =
          elim (cases_Bool (is_asked request n)) [
            | inr other ↦ fault_unasked s request n other
            | inl asked ↦ room_no_fault has n (where_asked request n asked) (is.first n (where_asked request n asked) below)
          ]

  -- an endpoint that is refused a span is a fault
  pub refused_first : HasDecoders → (m : ℕ) (x : PlanFault) → span_fault s request m ≡ Some x → ((n : ℕ) → 0 ≤ n → n < m → span_fault s request n ≡ None) → (fault : SpanFault) × IsRefusedSpan s request m fault
  refused_first has m x here before =
      elim (cases_Bool (is_asked request m)) [
        | inr other ↦ absurd (none-some x (sym (fault_unasked s request m other) ∙ here))
        | inl asked ↦ elim (cases_Option (refused_span s request m)) [
          | inl none ↦ absurd (none-some x (sym (fault_asked s request m asked ∙ ap (option_map (faults.Span m)) none) ∙ here))
          | inr some ↦ (
            some.0,
            record {
              asked = where_asked request m asked;
              refused = told_refusal (decoders_at s m) (ram_at s m) (pmem_at s m) request.kind (share_of request) some.0 (left has m (where_asked request m asked)) some.1;
              first = λ other is low. no_fault_room has other is (before other (omega arith) low);
            },
          )
        ]
      ]

  -- ---- no fault before the k-th

  abbrev pub From : ℕ → Type 0
  From k = (other : PlanFault) → SaysOfRequest s request other → k ≤ turn_of_fault other

  module _ (k : ℕ) (from : From k) where
    distinct : 1 ≤ k → part_0 ≡ None
    distinct low =
        ap (option_map faults.Repeat)
        (none_where (first_repeat [] request.endpoints) (λ m is. let early = from (faults.Repeat m) is in absurd (omega arith)))

    has_ways : 2 ≤ k → part_1 ≡ None
    has_ways low =
        elim (cases_Bool (is_ways (request_ways request))) [
          | inl is ↦ none_then (not (is_ways (request_ways request))) (faults.Ways (request_ways request)) (ap not is)
          | inr fails ↦ let early = from (faults.Ways (request_ways request)) (fails, refl) in absurd (omega arith)
        ]

    has_size : 3 ≤ k → part_2 ≡ None
    has_size low =
        elim (cases_Bool (is_size_for request.size (request_ways request))) [
          | inl is ↦ none_then (not (is_size_for request.size (request_ways request))) faults.Size (ap not is)
          | inr fails ↦
              let early = from faults.Size (λ size. false≢true (sym fails ∙ size_passes request.size (request_ways request) size)) in
              absurd (omega arith)
        ]

    evenly : 4 ≤ k → part_3 ≡ None
    evenly low =
        ap (option_map faults.Uneven) (none_where (least s (is_uneven s request)) (λ n is. let early = from (faults.Uneven n) is in absurd (omega arith)))

    pub has_decoders : 5 ≤ k → HasDecoders
    has_decoders low = none_where (least s (lacks_decoder s request)) (λ n is. let early = from (faults.NoDecoder n) is in absurd (omega arith))

    has_spans : 6 ≤ k → part_5 ≡ None
    has_spans low =
        elim (first_or_none (span_fault s request) 0 (length s.nodes)) [
          | inl none ↦ all_none (span_fault s request) 0 (length s.nodes) none
          | inr first ↦
              let refused = refused_first (has_decoders (omega arith)) first.m first.x first.here first.before in
              let early = from (faults.Span first.m refused.0) refused.1 in
              absurd (omega arith)
        ]

    after_1 : 1 ≤ k → fault_before_windows s request ≡ first_there parts_1
    after_1 low = past_none part_0 parts_1 (distinct low)

    after_2 : 2 ≤ k → fault_before_windows s request ≡ first_there parts_2
    after_2 low = after_1 (omega arith) ∙ past_none part_1 parts_2 (has_ways low)

    after_3 : 3 ≤ k → fault_before_windows s request ≡ first_there parts_3
    after_3 low = after_2 (omega arith) ∙ past_none part_2 parts_3 (has_size low)

    after_4 : 4 ≤ k → fault_before_windows s request ≡ first_there parts_4
    after_4 low = after_3 (omega arith) ∙ past_none part_3 parts_4 (evenly low)

    after_5 : 5 ≤ k → fault_before_windows s request ≡ first_there parts_5
    after_5 low = after_4 (omega arith) ∙ past_none part_4 parts_5 (ap (option_map faults.NoDecoder) (has_decoders low))

    pub none_before_windows : 6 ≤ k → fault_before_windows s request ≡ None
    none_before_windows low = after_5 (omega arith) ∙ past_none part_5 [] (has_spans low)

  -- ---- a fault is computed where it is told

  pub fault_told : (fault : PlanFault) → SaysOfRequest s request fault → From (turn_of_fault fault) → turn_of_fault fault < 6 → fault_before_windows s request ≡ Some fault
  fault_told (faults.Repeat m) is from low = at_some part_0 parts_1 (faults.Repeat m) (ap (option_map faults.Repeat) is)
  fault_told (faults.Ways n) is from low =
      after_1 1 from (omega arith)
      ∙ at_some part_1 parts_2 (faults.Ways n)
      (some_then (not (is_ways (request_ways request))) (faults.Ways (request_ways request)) (ap not is.0) ∙ ap (λ (m : ℕ). Some (faults.Ways m)) (sym is.1))
  fault_told faults.Size is from low =
      after_2 2 from (omega arith)
      ∙ at_some part_2 parts_3 faults.Size (some_then (not (is_size_for request.size (request_ways request))) faults.Size (ap not fails))
    where
      fails : is_size_for request.size (request_ways request) ≡ false
      fails = elim (cases_Bool (is_size_for request.size (request_ways request))) [ inr not_size ↦ not_size | inl holds ↦ absurd (is (size_holds request.size (request_ways request) holds)) ]
  fault_told (faults.Uneven n) is from low = after_3 3 from (omega arith) ∙ at_some part_3 parts_4 (faults.Uneven n) (ap (option_map faults.Uneven) is)
  fault_told (faults.NoDecoder n) is from low = after_4 4 from (omega arith) ∙ at_some part_4 parts_5 (faults.NoDecoder n) (ap (option_map faults.NoDecoder) is)
  fault_told (faults.Span m fault) is from low =
      after_5 5 from (omega arith) ∙ at_some part_5 [] (faults.Span m fault) (span_told (has_decoders 5 from (omega arith)) m fault is)
  fault_told (faults.NoWindow reasons) is from low = absurd (omega arith)
  fault_told faults.Memory is from low = absurd is
