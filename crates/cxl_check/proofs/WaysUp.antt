-- How many ways and bits the ports above a node can have.
use Rattle.std.proofs.Common.{◌≡◌, ℕ, zero, suc, ◌+◌, ◌*◌, ◌≤◌, Bool, true, false, List, [], ◌∷◌, length, map, Option, Some, None, refl, sym, ap, ◌∙◌, subst, inl, inr, arith}
use Rattle.std.specs.Prelude.{slice_get, sum_by, nat_lt, nat_le}
use Rattle.std.specs.Option.{option_map_or, unwrap_or}
use Rattle.std.specs.List.{filter_map}
use Rattle.std.proofs.lemmas.Bool.{agree_below_at, cases_lt, le-ltb, le-leb, leb-true}
use Rattle.std.proofs.lemmas.List.Sums.{sum_by-cons}
use Rattle.cxl_enc.specs.Codes.{ways_of}
use Rattle.cxl_enc.proofs.Numbers.{sixteens, times}
use Rattle.cxl_topo.specs.declared.node.Node.{Node}
use Rattle.cxl_topo.specs.declared.node.Parent.{Parent}
use Rattle.cxl_topo.specs.Tree.{parent_of, ports_above, bridge_with}
use Rattle.cxl_topo.proofs.Trees.{KnownTree, uid_top}
use Rattle.cxl_regs.specs.declared.decoder.Decoder.{Decoder}
use Rattle.cxl_regs.specs.declared.reading.Range.{Range}
use Rattle.cxl_regs.specs.Reading.{decoder_ways, select_bits}
use Rattle.cxl_model.specs.System.{System}
use Rattle.cxl_model.specs.Ranges.{decoder_for, product, ways_above, bits_above, first_decoder, range_ways}
use Rattle.cxl_check.specs.inner.Slots.{AreWaysAbove}

-- ---- one decoder

abbrev has_few_ways : ℕ → Bool
has_few_ways code = nat_le (unwrap_or (ways_of code) 1) 16

abbrev has_few_bits : ℕ → Bool
has_few_bits code = nat_le (select_bits code) 4

no_code : (code : ℕ) → 11 ≤ code → ways_of code ≡ None
no_code code past =
    let low : nat_lt code 5 ≡ false = le-ltb code 5 (omega arith) in
    let from : nat_le 8 code ≡ true = le-leb 8 code (omega arith) in
    let high : nat_lt code 11 ≡ false = le-ltb code 11 past in
    rw (low, from, high) refl

pub few_ways : (d : Decoder) → decoder_ways d ≤ 16
few_ways d =
    elim (cases_lt d.ways 11) [
      | inl below ↦ leb-true (decoder_ways d) 16 (agree_below_at has_few_ways (λ n. true) 11 d.ways refl below)
      | inr past ↦ let none = no_code d.ways past in rw none (omega arith)
    ]

pub few_bits : (d : Decoder) → select_bits d.ways ≤ 4
few_bits d =
    elim (cases_lt d.ways 11) [
      | inl below ↦ leb-true (select_bits d.ways) 4 (agree_below_at has_few_bits (λ n. true) 11 d.ways refl below)
      | inr past ↦ let none = no_code d.ways past in rw none (omega arith)
    ]

-- ---- those in a row of ports

some_sixteens : (m : ℕ) → 1 ≤ sixteens m
some_sixteens zero = omega arith
some_sixteens (suc m) = let some = some_sixteens m in omega arith

product_step : (f : Parent → Option Decoder) (p : Parent) (ps : List Parent) (m : ℕ) (o : Option Decoder) → f p ≡ o → product (map decoder_ways (filter_map f ps)) ≤ sixteens m
    → product (map decoder_ways (filter_map f (p ∷ ps))) ≤ sixteens (suc m)
product_step f p ps m None e rest = rw e (omega arith)
product_step f p ps m (Some d) e rest = rw e (times (decoder_ways d) 16 (product (map decoder_ways (filter_map f ps))) (sixteens m) (few_ways d) rest)

product_few : (f : Parent → Option Decoder) (ps : List Parent) (m : ℕ) → length ps ≤ m → product (map decoder_ways (filter_map f ps)) ≤ sixteens m
product_few f [] m few = some_sixteens m
product_few f (p ∷ ps) zero few = absurd (omega arith)
product_few f (p ∷ ps) (suc m) few = product_step f p ps m (f p) refl (product_few f ps m (omega arith))

abbrev bits_of_all : List Decoder → ℕ
bits_of_all ds = sum_by (λ (d : Decoder). select_bits d.ways) ds

sum_step : (f : Parent → Option Decoder) (p : Parent) (ps : List Parent) (m : ℕ) (o : Option Decoder) → f p ≡ o → bits_of_all (filter_map f ps) ≤ 4 * m
    → bits_of_all (filter_map f (p ∷ ps)) ≤ 4 * suc m
sum_step f p ps m None e rest = rw e (omega arith)
sum_step f p ps m (Some d) e rest =
    let few = few_bits d in
    let more : bits_of_all (d ∷ filter_map f ps) ≡ select_bits d.ways + bits_of_all (filter_map f ps) = sum_by-cons (λ (e : Decoder). select_bits e.ways) d (filter_map f ps) in
    rw e (omega (arith, more, few, rest))

sum_few : (f : Parent → Option Decoder) (ps : List Parent) (m : ℕ) → length ps ≤ m → bits_of_all (filter_map f ps) ≤ 4 * m
sum_few f [] m few = omega arith
sum_few f (p ∷ ps) zero few = absurd (omega arith)
sum_few f (p ∷ ps) (suc m) few = sum_step f p ps m (f p) refl (sum_few f ps m (omega arith))

module _ (s : System) (r : Range) where
  pub ways_few : (n : ℕ) → length (ports_above s.nodes n) ≤ 5 → ways_above s r n ≤ 1048576
  ways_few n few = product_few (λ (parent : Parent). decoder_for s r parent.node) (ports_above s.nodes n) 5 few

  pub bits_few : (n : ℕ) → length (ports_above s.nodes n) ≤ 5 → bits_above s r n ≤ 20
  bits_few n few = sum_few (λ (parent : Parent). decoder_for s r parent.node) (ports_above s.nodes n) 5 few

-- the numbers of one decoder more fit
pub ways_fit : (a p : ℕ) → a ≤ 16 → p ≤ 1048576 → a * p ≤ 16777216
ways_fit a p few rest = times a 16 p 1048576 few rest

-- what is said of the ports above a node
abbrev pub PortsAbove : List Node → ℕ → Type 0
PortsAbove nodes n = ports_above nodes n ≡ option_map_or (λ (p : Parent). p ∷ ports_above nodes p.node) (parent_of nodes n) []

module _ (nodes : List Node) (n : ℕ) (node : Node) (ports : PortsAbove nodes n) (here : slice_get nodes n ≡ Some node) where
  -- none where it has no parent
  pub no_ports : node.parent ≡ None → ports_above nodes n ≡ []
  no_ports is =
      let up : parent_of nodes n ≡ None = rw here is in
      ports ∙ rw up refl

  -- that in its parent, and those above the parent
  pub one_more : (parent : Parent) → node.parent ≡ Some parent → ports_above nodes n ≡ parent ∷ ports_above nodes parent.node
  one_more parent is =
      let up : parent_of nodes n ≡ Some parent = rw here is in
      ports ∙ rw up refl

-- the ways and bits above a node, from those above its parent
module _ (s : System) (r : Range) (n : ℕ) where
  pub top_ways : ports_above s.nodes n ≡ [] → ways_above s r n ≡ 1
  top_ways top = rw top refl

  pub top_bits : ports_above s.nodes n ≡ [] → bits_above s r n ≡ 0
  top_bits top = rw top refl

  module _ (parent : Parent) (ports : ports_above s.nodes n ≡ parent ∷ ports_above s.nodes parent.node) where
    pub more_ways : (d : Decoder) → decoder_for s r parent.node ≡ Some d → ways_above s r n ≡ decoder_ways d * ways_above s r parent.node
    more_ways d has = rw ports (rw has refl)

    pub more_bits : (d : Decoder) → decoder_for s r parent.node ≡ Some d → bits_above s r n ≡ select_bits d.ways + bits_above s r parent.node
    more_bits d has = rw ports (rw has (sum_by-cons (λ (e : Decoder). select_bits e.ways) d (filter_map (λ (p : Parent). decoder_for s r p.node) (ports_above s.nodes parent.node))))

    pub same_ways : decoder_for s r parent.node ≡ None → ways_above s r n ≡ ways_above s r parent.node
    same_ways lacks = rw ports (rw lacks refl)

    pub same_bits : decoder_for s r parent.node ≡ None → bits_above s r n ≡ bits_above s r parent.node
    same_bits lacks = rw ports (rw lacks refl)

-- no port stands above a bridge
pub above_bridge : (s : System) (r : Range) → KnownTree s.nodes → (uid b : ℕ) → bridge_with s.nodes uid ≡ Some b → AreWaysAbove s r b 1
above_bridge s r known uid b is =
    let top : parent_of s.nodes b ≡ None = (uid_top known b uid ((known.laws.bridges uid b).0 is)).1 in
    let ports : ports_above s.nodes b ≡ [] = known.laws.ports b ∙ ap (λ (o : Option Parent). option_map_or (λ (p : Parent). p ∷ ports_above s.nodes p.node) o []) top in
    record { is = sym (top_ways s r b ports); some = omega arith; few = omega arith }

-- the ways above a child, from those above the port and the port's own
pub ways_below : (s : System) (r : Range) (n c : ℕ) (parent : Parent) → PortsAbove s.nodes c → parent_of s.nodes c ≡ Some parent → parent.node ≡ n
    → option_map_or decoder_ways (decoder_for s r n) 1 * ways_above s r n ≡ ways_above s r c
ways_below s r n c parent ports up is =
    subst (λ (k : ℕ). option_map_or decoder_ways (decoder_for s r k) 1 * ways_above s r k ≡ ways_above s r c) is (go (decoder_for s r parent.node) refl)
  where
    all : ports_above s.nodes c ≡ parent ∷ ports_above s.nodes parent.node
    all = ports ∙ ap (λ (o : Option Parent). option_map_or (λ (p : Parent). p ∷ ports_above s.nodes p.node) o []) up

    own : (o : Option Decoder) → decoder_for s r parent.node ≡ o → option_map_or decoder_ways (decoder_for s r parent.node) 1 * ways_above s r parent.node ≡ option_map_or decoder_ways o 1 * ways_above s r parent.node
    own o e = ap (λ (p : Option Decoder). option_map_or decoder_ways p 1 * ways_above s r parent.node) e

    once : (k : ℕ) → 1 * k ≡ k
    once k = omega arith

    go : (o : Option Decoder) → decoder_for s r parent.node ≡ o → option_map_or decoder_ways (decoder_for s r parent.node) 1 * ways_above s r parent.node ≡ ways_above s r c
    go None lacks = own None lacks ∙ once (ways_above s r parent.node) ∙ sym (same_ways s r c parent all lacks)
    go (Some d) has = own (Some d) has ∙ sym (more_ways s r c parent all d has)

-- a range has at most 16 ways, and at least one
pub range_ways_few : (s : System) (r : Range) → range_ways s r ≤ 16
range_ways_few s r = go (first_decoder s r)
  where
    go : (o : Option Decoder) → option_map_or decoder_ways o 1 ≤ 16
    go None = omega arith
    go (Some d) = few_ways d

some_ways_code : (code : ℕ) → 1 ≤ unwrap_or (ways_of code) 1
some_ways_code code =
    elim (cases_lt code 11) [
      | inl below ↦ leb-true 1 (unwrap_or (ways_of code) 1) (agree_below_at (λ (n : ℕ). nat_le 1 (unwrap_or (ways_of n) 1)) (λ n. true) 11 code refl below)
      | inr past ↦ let none = no_code code past in rw none (omega arith)
    ]

pub range_ways_some : (s : System) (r : Range) → 1 ≤ range_ways s r
range_ways_some s r = go (first_decoder s r)
  where
    go : (o : Option Decoder) → 1 ≤ option_map_or decoder_ways o 1
    go None = omega arith
    go (Some d) = some_ways_code d.ways
