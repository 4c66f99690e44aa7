-- A node does one thing with an address.
use Rattle.std.proofs.Common.{◌≡◌, ℕ, ◌+◌, ◌<◌, ◌≤◌, Bool, true, false, not, if◌then◌else◌, [], Option, Some, None, refl, sym, ap, ◌∙◌, subst, inl, inr, arith}
use Rattle.std.specs.Prelude.{slice_get, IfSome}
use Rattle.std.specs.Option.{option_map_or}
use Rattle.std.proofs.lemmas.Bool.{cases_lt}
use Rattle.std.proofs.lemmas.Option.{slice_get_within, same_Some}
use Rattle.cxl_enc.proofs.Tests.{clash}
use Rattle.cxl_enc.proofs.Options.{some_and}
use Rattle.cxl_topo.specs.declared.node.Node.{Node}
use Rattle.cxl_topo.specs.Kinds.{is_endpoint}
use Rattle.cxl_topo.specs.Tree.{forwards_at, is_port_at, is_endpoint_at, child_of, least_child_of}
use Rattle.cxl_regs.specs.declared.decoder.Decoder.{Decoder}
use Rattle.cxl_regs.specs.Registers.{Registers}
use Rattle.cxl_regs.specs.Reading.{holds_address, entry_at, entry_of}
use Rattle.cxl_regs.proofs.DecoderRanges.{Holds, holds_parts}
use Rattle.cxl_span.specs.Spans.{span_start_of, endpoint_place_of}
use Rattle.cxl_span.specs.Breaches.{BlockKeeps}
use Rattle.cxl_model.specs.declared.chain.Step.{Step}
use Rattle.cxl_model.specs.declared.chain.Miss.{Miss}
use Rattle.cxl_model.specs.declared.chain.Miss.TheVariants.{NoWindow, BadBlock, NoDecoder, NoChild}
use Rattle.cxl_model.specs.System.{System, decoders_at, decoder_at}
use Rattle.cxl_model.specs.Chain.{Arrival, Arrives, Misses, Move, Forwards, Steps, Ends, Decodes, Chooses, IsStep, Places, IsArrival, IsBadBlock, ListsNoChild, Moves}

-- ---- options

pub one_value : {A : Type 0} (o : Option A) (x y : A) → o ≡ Some x → o ≡ Some y → x ≡ y
one_value o x y one other = same_Some x y (sym one ∙ other)

-- ---- one committed decoder holds an address

-- what the law of ranges says of a block that keeps K2 to K8
abbrev pub RisingLaw : Type 0
RisingLaw =
    (block : Registers) (ram pmem i j : ℕ) (d e : Decoder) → BlockKeeps block ram pmem → slice_get block.decoders i ≡ Some d
    → slice_get block.decoders j ≡ Some e → i < j → e.committed ≡ true → d.base + d.size ≤ e.base

-- no later decoder of the block holds the address as well
not_above : RisingLaw → (block : Registers) (ram pmem h i j : ℕ) (d e : Decoder) → BlockKeeps block ram pmem → slice_get block.decoders i ≡ Some d
    → slice_get block.decoders j ≡ Some e → Holds d h → Holds e h → i < j → ⊥
not_above rise block ram pmem h i j d e keeps at_d at_e one other above =
    let apart = rise block ram pmem i j d e keeps at_d at_e above other.committed in
    let below = one.below in
    let from = other.from in
    omega (arith, apart, below, from)

one_in_block : RisingLaw → (block : Registers) (ram pmem h i j : ℕ) (d e : Decoder) → BlockKeeps block ram pmem → slice_get block.decoders i ≡ Some d
    → slice_get block.decoders j ≡ Some e → Holds d h → Holds e h → i ≡ j
one_in_block rise block ram pmem h i j d e keeps at_d at_e one other =
    elim (cases_lt i j) [
      | inl above ↦ absurd (not_above rise block ram pmem h i j d e keeps at_d at_e one other above)
      | inr past ↦ elim (cases_lt j i) [
        | inl below ↦ absurd (not_above rise block ram pmem h j i e d keeps at_e at_d other one below)
        | inr at ↦ omega arith
      ]
    ]

one_if_some : RisingLaw → (o : Option Registers) (ram pmem h i j : ℕ) (d e : Decoder) → IfSome o (λ block. BlockKeeps block ram pmem)
    → slice_get (option_map_or (λ block. block.decoders) o []) i ≡ Some d → slice_get (option_map_or (λ block. block.decoders) o []) j ≡ Some e
    → Holds d h → Holds e h → i ≡ j
one_if_some rise None ram pmem h i j d e keeps at_d at_e one other =
    let within = slice_get_within [] i d at_d in
    absurd (omega arith)
one_if_some rise (Some block) ram pmem h i j d e keeps at_d at_e one other = one_in_block rise block ram pmem h i j d e keeps at_d at_e one other

-- decoder d, with number i, holds the address
pub record HoldsAt (s : System) (h n i : ℕ) (d : Decoder) : Type 0 where
  pub there : decoder_at s n i ≡ Some d
  pub holds : holds_address d h ≡ true

pub one_number : RisingLaw → (s : System) (h n i j : ℕ) (d e : Decoder) → Decodes s n → HoldsAt s h n i d → HoldsAt s h n j e → i ≡ j
one_number rise s h n i j d e decodes one other =
    one_if_some rise (slice_get s.blocks n) _ _ h i j d e decodes.sound one.there other.there (holds_parts d h one.holds) (holds_parts e h other.holds)

pub one_decoder : RisingLaw → (s : System) (h n i j : ℕ) (d e : Decoder) → Decodes s n → HoldsAt s h n i d → HoldsAt s h n j e → d ≡ e
one_decoder rise s h n i j d e decodes one other =
    let same : decoder_at s n j ≡ Some d = ap (decoder_at s n) (sym (one_number rise s h n i j d e decodes one other)) ∙ one.there in
    one_value (decoder_at s n j) d e same other.there

-- ---- a node is a port or an endpoint

port_or_endpoint : (o : Option Node) → option_map_or (λ node. not (is_endpoint node.kind)) o false ≡ true
    → option_map_or (λ node. is_endpoint node.kind) o false ≡ false
port_or_endpoint None port = refl
port_or_endpoint (Some node) port = negated (is_endpoint node.kind) port
  where
    negated : (a : Bool) → not a ≡ true → a ≡ false
    negated true h = cc
    negated false h = refl

pub no_endpoint : (s : System) (n : ℕ) → is_port_at s.nodes n ≡ true → is_endpoint_at s.nodes n ≡ false
no_endpoint s n port = port_or_endpoint (slice_get s.nodes n) port

-- ---- what a node does, told by what it has

abbrev after_forwarding : ℕ → Option ℕ → Move
after_forwarding n (Some child) = Forwards child
after_forwarding n None = Ends (Misses (NoChild n))

abbrev after_port : ℕ → ℕ → ℕ → Option ℕ → Move
after_port n i entry (Some child) = Steps record { node = n; decoder = i; entry = entry } child
after_port n i entry None = Ends (Misses (NoChild n))

abbrev arrival_by : System → ℕ → ℕ → ℕ → Decoder → Arrival
arrival_by s h n i d =
    record { endpoint = n; decoder = i; base = d.base; dpa = endpoint_place_of (span_start_of (decoders_at s n) i) d h }

-- what decoder d, with number i, does
abbrev by_decoder : System → ℕ → ℕ → ℕ → Decoder → Move
by_decoder s h n i d =
    if is_endpoint_at s.nodes n then Ends (Arrives (arrival_by s h n i d))
    else after_port n i (entry_of d h) (child_of s.nodes n (entry_at d (entry_of d h)))

data Decided (s : System) (h n : ℕ) (move : Move) : Type 0 where
  by_none : ((i : ℕ) (d : Decoder) → decoder_at s n i ≡ Some d → holds_address d h ≡ false) → move ≡ Ends (Misses (NoDecoder n)) → Decided s h n move
  by_one : (i : ℕ) (d : Decoder) → HoldsAt s h n i d → move ≡ by_decoder s h n i d → Decided s h n move

data Does (s : System) (h n : ℕ) (move : Move) : Type 0 where
  forwarding : forwards_at s.nodes n ≡ true → move ≡ after_forwarding n (least_child_of s.nodes n) → Does s h n move
  refusing : IsBadBlock s n → move ≡ Ends (Misses (BadBlock n)) → Does s h n move
  deciding : Decodes s n → Decided s h n move → Does s h n move

step_is : (step : Step) (n entry : ℕ) → step.node ≡ n → step.entry ≡ entry → step ≡ record { node = n; decoder = step.decoder; entry = entry }
step_is step n entry here sends = λ k. record { node = here k; decoder = step.decoder; entry = sends k }

arrival_is : (s : System) (h n : ℕ) (a : Arrival) (d : Decoder) → a.endpoint ≡ n → Places s h n a d → a ≡ arrival_by s h n a.decoder d
arrival_is s h n a d here places =
    let base = places.base in
    let dpa = places.dpa in
    λ k. record { endpoint = here k; decoder = a.decoder; base = base k; dpa = dpa k }

abbrev of_kind : (s : System) (h n i : ℕ) (d : Decoder) → Bool → Move
of_kind s h n i d kind =
    if kind then Ends (Arrives (arrival_by s h n i d))
    else after_port n i (entry_of d h) (child_of s.nodes n (entry_at d (entry_of d h)))

port_move : (s : System) (h n i entry : ℕ) (d : Decoder) (child : Option ℕ) → is_port_at s.nodes n ≡ true → Chooses s h n d entry child
    → after_port n i entry child ≡ by_decoder s h n i d
port_move s h n i entry d child port chooses =
    let sends = chooses.sends in
    let listed : child_of s.nodes n (entry_at d (entry_of d h)) ≡ child =
    ap (λ (e : ℕ). child_of s.nodes n (entry_at d e)) (sym sends) ∙ chooses.listed in
    ap (λ (e : ℕ). after_port n i e child) sends
    ∙ sym (ap (after_port n i (entry_of d h)) listed)
    ∙ sym (ap (of_kind s h n i d) (no_endpoint s n port))

place_move : (s : System) (h n : ℕ) (a : Arrival) (d : Decoder) → is_endpoint_at s.nodes n ≡ true → a.endpoint ≡ n → Places s h n a d
    → Ends (Arrives a) ≡ by_decoder s h n a.decoder d
place_move s h n a d endpoint here places =
    ap (λ (b : Arrival). Ends (Arrives b)) (arrival_is s h n a d here places) ∙ sym (ap (of_kind s h n a.decoder d) endpoint)

does_step : (s : System) (h n : ℕ) (step : Step) (child : ℕ) → IsStep s h n step child → Does s h n (Steps step child)
does_step s h n step child is =
    let found = some_and (decoder_at s n step.decoder) (λ (d : Decoder). Chooses s h n d step.entry (Some child)) is.choice in
    let d : Decoder = found.0 in
    let chooses : Chooses s h n d step.entry (Some child) = found.2 in
    deciding is.decodes
    (by_one step.decoder d record { there = found.1; holds = chooses.holds }
    (ap (λ (x : Step). Steps x child) (step_is step n step.entry is.here refl) ∙ port_move s h n step.decoder step.entry d (Some child) is.port chooses))

does_arrive : (s : System) (h n : ℕ) (a : Arrival) → IsArrival s h n a → Does s h n (Ends (Arrives a))
does_arrive s h n a is =
    let found = some_and (decoder_at s n a.decoder) (Places s h n a) is.place in
    let d : Decoder = found.0 in
    let places : Places s h n a d = found.2 in
    deciding is.decodes (by_one a.decoder d record { there = found.1; holds = places.holds } (place_move s h n a d is.endpoint is.here places))

does_list_no_child : (s : System) (h n : ℕ) → ListsNoChild s h n → Does s h n (Ends (Misses (NoChild n)))
does_list_no_child s h n is =
    let choice = is.choice in
    let i : ℕ = choice.0 in
    let entry : ℕ = choice.1 in
    let found = some_and (decoder_at s n i) (λ (d : Decoder). Chooses s h n d entry None) choice.2 in
    let d : Decoder = found.0 in
    let chooses : Chooses s h n d entry None = found.2 in
    deciding is.decodes (by_one i d record { there = found.1; holds = chooses.holds } (port_move s h n i entry d None is.port chooses))

does_at : (s : System) (h n m : ℕ) (miss : ℕ → Miss) → m ≡ n → Does s h n (Ends (Misses (miss n))) → Does s h n (Ends (Misses (miss m)))
does_at s h n m miss same does = subst (λ (k : ℕ). Does s h n (Ends (Misses (miss k)))) (sym same) does

does : (s : System) (h n : ℕ) (move : Move) → Moves s h n move → Does s h n move
does s h n (Forwards child) (forwards, first) = forwarding forwards (sym (ap (after_forwarding n) first))
does s h n (Steps step child) is = does_step s h n step child is
does s h n (Ends (Arrives a)) is = does_arrive s h n a is
does s h n (Ends (Misses NoWindow)) is = absurd is
does s h n (Ends (Misses (BadBlock m))) (here, bad) = does_at s h n m BadBlock here (refusing bad refl)
does s h n (Ends (Misses (NoDecoder m))) (here, lacks) = does_at s h n m NoDecoder here (deciding lacks.decodes (by_none lacks.none refl))
does s h n (Ends (Misses (NoChild m))) (here, inl nowhere) =
    does_at s h n m NoChild here (forwarding nowhere.forwards (sym (ap (after_forwarding n) nowhere.childless)))
does s h n (Ends (Misses (NoChild m))) (here, inr lists) = does_at s h n m NoChild here (does_list_no_child s h n lists)

one_decision : RisingLaw → (s : System) (h n : ℕ) (one other : Move) → Decodes s n → Decided s h n one → Decided s h n other → one ≡ other
one_decision rise s h n one other decodes (by_none none is) (by_none _ at) = is ∙ sym at
one_decision rise s h n one other decodes (by_none none is) (by_one i d held at) = absurd (clash (holds_address d h) held.holds (none i d held.there))
one_decision rise s h n one other decodes (by_one i d held is) (by_none none at) = absurd (clash (holds_address d h) held.holds (none i d held.there))
one_decision rise s h n one other decodes (by_one i d held is) (by_one j e holds at) =
    is
    ∙ ap (λ (k : ℕ). by_decoder s h n k d) (one_number rise s h n i j d e decodes held holds)
    ∙ ap (by_decoder s h n j) (one_decoder rise s h n i j d e decodes held holds)
    ∙ sym at

one_thing : RisingLaw → (s : System) (h n : ℕ) (one other : Move) → Does s h n one → Does s h n other → one ≡ other
one_thing rise s h n one other (forwarding a is) (forwarding b at) = is ∙ sym at
one_thing rise s h n one other (forwarding a is) (refusing b at) = absurd (clash (forwards_at s.nodes n) a b.own)
one_thing rise s h n one other (forwarding a is) (deciding b at) = absurd (clash (forwards_at s.nodes n) a b.own)
one_thing rise s h n one other (refusing a is) (forwarding b at) = absurd (clash (forwards_at s.nodes n) b a.own)
one_thing rise s h n one other (refusing a is) (refusing b at) = is ∙ sym at
one_thing rise s h n one other (refusing a is) (deciding b at) = absurd (a.broken b.sound)
one_thing rise s h n one other (deciding a is) (forwarding b at) = absurd (clash (forwards_at s.nodes n) b a.own)
one_thing rise s h n one other (deciding a is) (refusing b at) = absurd (b.broken a.sound)
one_thing rise s h n one other (deciding a is) (deciding b at) = one_decision rise s h n one other a is at

pub one_move : RisingLaw → (s : System) (h n : ℕ) (one other : Move) → Moves s h n one → Moves s h n other → one ≡ other
one_move rise s h n one other a b = one_thing rise s h n one other (does s h n one a) (does s h n other b)
