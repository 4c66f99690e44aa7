use Rattle.std.proofs.Common.{◌≡◌, ◌≢◌, ℕ, zero, suc, ◌+◌, ◌<◌, Bool, true, false, ◌&&◌, ◌||◌, [], ◌∷◌, List, Option, Some, None, refl, sym, ap, ◌∙◌, arith}
use Rattle.std.specs.Prelude.{◌==◌, All, AllPairs, Contains, option_map}
use Rattle.std.specs.Ordering.{nat_cmp}
use Rattle.std.specs.FinMap as map
use Rattle.std.specs.FinMap.{get-empty, len-empty}
use Rattle.std.proofs.lemmas.Bool.{eqb-true, false≢true}
use Rattle.std.proofs.lemmas.Option.{none-some, same_Some}
use Rattle.cxl_enc.proofs.Lists.{All-one}
use Rattle.cxl_topo.specs.declared.node.Parent.{Parent}
use Rattle.cxl_topo.specs.Tree.{parent_of}
use Rattle.cxl_regs.specs.Registers.{Registers}
use Rattle.cxl_regs.specs.declared.reading.Range.{Range}
use Rattle.cxl_media.specs.Blocks.{key_cmp}
use Rattle.cxl_model.specs.declared.found.Found.{Found}
use Rattle.cxl_model.specs.Contents.{AreContents, Holding}
use Rattle.cxl_worked.specs.Examples.{two_bridges, window_of_both}
use Rattle.cxl_worked.specs.ExampleRegions.{region_of_two}
use Rattle.cxl_model.specs.Listed.{AreRegions}
use Rattle.cxl_model.specs.Ranges.{serves}
use Rattle.cxl_model.specs.Regions.{region_range, IsRegion, IsRegionIn}
use Rattle.cxl_legal.specs.Used.{HasBytePorts}
use Rattle.cxl_machine.specs.Machine.{Live, holding_of, pieces_held}
use Rattle.cxl_worked_machines.specs.Examples.{opened}
use Rattle.cxl_machine.specs.Sound.{auto_name}
use Rattle.cxl_worked_machines.proofs.opening_examples.openings_on_examples.Goals as goal

-- in a list of one item no two stand apart
pairs_of_one : {A : Type 0} (R : A → A → Type 0) (x : A) → AllPairs R (x ∷ [])
pairs_of_one R x i j d before below = absurd (omega (arith, before, below))

both : (a b : Bool) → ((a && b) || false) ≡ true → (a ≡ true) × (b ≡ true)
both true true is = (refl, refl)
both true false is = absurd (false≢true is)
both false b is = absurd (false≢true is)

range_from : (r : Range) → ((0x100000000 == r.base && (0x20000000 == r.size)) || false) ≡ true → region_range region_of_two ≡ r
range_from r is =
    let parts = both (0x100000000 == r.base) (0x20000000 == r.size) is in
    let bases : 0x100000000 ≡ r.base = eqb-true 0x100000000 r.base parts.0 in
    let sizes : 0x20000000 ≡ r.size = eqb-true 0x20000000 r.size parts.1 in
    λ i. record { base = bases i; size = sizes i }

-- the one range that a node of the image has
range_is : (r : Range) (n : ℕ) → serves two_bridges r n ≡ true → region_range region_of_two ≡ r
range_is r zero is = range_from r is
range_is r (suc zero) is = range_from r is
range_is r (suc (suc zero)) is = range_from r is
range_is r (suc (suc (suc zero))) is = range_from r is
range_is r (suc (suc (suc (suc n)))) is = absurd (false≢true is)

regions : IsRegionIn two_bridges window_of_both region_of_two → AreRegions two_bridges (region_of_two ∷ [])
regions region = record {
  each = All-one (IsRegion two_bridges) region_of_two (window_of_both, region);
  all = λ r committed. (region_of_two, (0, omega arith, refl), range_is r committed.0 committed.1);
  once = pairs_of_one (λ (a b : Found). a ≢ b) region_of_two;
}

pub returns-clause-opens : goal.returns-clause-opens
returns-clause-opens c = record {
  accepted = c.rules_on_examples.ensures.two_bridges;
  regions = region_of_two ∷ [];
  listed = record { listed = regions c.regions_on_examples.ensures.two; rising = pairs_of_one (λ (a b : Found). a.base < b.base) region_of_two };
  few = omega arith;
  machine = refl;
}

-- ---- that it is sound

abbrev opened_region : Live
opened_region = record { name = (auto_name 0); found = region_of_two; contents = map.empty }

each_enabled : All (λ (block : Registers). block.enabled ≡ true) two_bridges.blocks
each_enabled zero d below = refl
each_enabled (suc zero) d below = refl
each_enabled (suc (suc zero)) d below = refl
each_enabled (suc (suc (suc zero))) d below = refl
each_enabled (suc (suc (suc (suc k)))) d below = absurd (omega (arith, below))

small_port : (o : Option Parent) (port : ℕ) (parent : Parent) → port < 256 → option_map (λ (p : Parent). p.port) o ≡ Some port → o ≡ Some parent → parent.port < 256
small_port None port parent small is there = absurd (none-some parent there)
small_port (Some own) port parent small is there =
    let same : own.port ≡ port = same_Some own.port port is in
    let here : own.port ≡ parent.port = ap (λ (p : Parent). p.port) (same_Some own parent there) in
    omega (arith, same, here, small)

byte_ports : HasBytePorts two_bridges.nodes
byte_ports zero parent there = absurd (none-some parent there)
byte_ports (suc zero) parent there = absurd (none-some parent there)
byte_ports (suc (suc zero)) parent there = small_port (parent_of two_bridges.nodes 2) 0 parent (omega arith) refl there
byte_ports (suc (suc (suc zero))) parent there = small_port (parent_of two_bridges.nodes 3) 0 parent (omega arith) refl there
byte_ports (suc (suc (suc (suc i)))) parent there = absurd (none-some parent there)

no_bytes : AreContents region_of_two map.empty
no_bytes = record {
  inside = λ n bytes there. absurd (none-some bytes (sym (get-empty {X = List ℕ} nat_cmp n) ∙ there));
  whole = λ n bytes there. absurd (none-some bytes (sym (get-empty {X = List ℕ} nat_cmp n) ∙ there));
  bytes = λ n bytes there. absurd (none-some bytes (sym (get-empty {X = List ℕ} nat_cmp n) ∙ there));
}

-- the region of the image holds no piece
abbrev opened_holding : Holding
opened_holding = holding_of two_bridges opened_region

holds_nothing : (holding : Holding) (n : ℕ) (bytes : List ℕ) → Contains (opened_holding ∷ []) holding → map.get holding.contents n ≡ Some bytes → ⊥
holds_nothing holding n bytes (zero, low, read) there =
    none-some bytes (sym (get-empty {X = List ℕ} nat_cmp n) ∙ ap (λ (h : Holding). map.get h.contents n) read ∙ there)
holds_nothing holding n bytes (suc k, low, read) there = absurd (omega (arith, low))

no_piece : 2 + pieces_held opened ≡ 2
no_piece = ap (λ (n : ℕ). 2 + (0 + n)) (len-empty nat_cmp (List ℕ))

pub returns-clause-sound : goal.returns-clause-sound
returns-clause-sound c = record {
  machine = record {
    settled = record { system = c.examples_are_systems.ensures.two; accepted = c.rules_on_examples.ensures.two_bridges; enabled = each_enabled; ports = byte_ports };
    regions = record {
      all = regions c.regions_on_examples.ensures.two;
      names = pairs_of_one (λ (region other : Live). region.name ≢ other.name) opened_region;
      contents = All-one (λ (region : Live). AreContents region.found region.contents) opened_region no_bytes;
      few = omega arith;
    };
    job = tt;
    frames = (omega arith, omega arith);
    held = omega (arith, no_piece);
  };
  registers = refl;
  memory = record {
    each = λ holding n endpoint block bytes there keeps. absurd (holds_nothing holding n bytes there keeps.piece);
    only = λ endpoint block bytes there. absurd (none-some bytes (sym (get-empty {X = List ℕ} key_cmp (endpoint, block)) ∙ there));
  };
  frames = no_piece;
}
