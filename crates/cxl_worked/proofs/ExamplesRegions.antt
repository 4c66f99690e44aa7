-- What shows that a worked image has a region, and where it leads an address.
use Rattle.std.proofs.Common.{◌≡◌, ℕ, ◌+◌, ◌<◌, Bool, true, false, List, length, Option, Some, None, inl, inr, [], ◌∷◌, sym, ap, ◌∙◌, subst, arith, below_more}
use Rattle.std.specs.Prelude.{slice_get, unwrap_or, IfSome, IsSomeAnd}
use Rattle.std.specs.Option.{option_map_or}
use Rattle.std.specs.List.{list_any}
use Rattle.std.proofs.lemmas.Bool.{cases_Bool, both_ways}
use Rattle.std.proofs.lemmas.List.Folds.{list_any-from_Any}
use Rattle.std.proofs.lemmas.Option.{slice_get_within, get_or_from_slice_get}
use Rattle.cxl_regs.specs.Registers.{Registers}
use Rattle.cxl_regs.specs.declared.reading.Range.{Range}
use Rattle.cxl_span.specs.Breaches.{breaks as block_breaks, BlockKeeps}
use Rattle.cxl_window.specs.Fields.{WindowFields}
use Rattle.cxl_model.specs.declared.found.Place.{Place}
use Rattle.cxl_model.specs.System.{System, KeepsBlock, ram_at, pmem_at}
use Rattle.cxl_topo.specs.Tree.{forwards_at, is_port_at, is_endpoint_at, bridge_with}
use Rattle.cxl_model.specs.Ranges.{index_for}
use Rattle.cxl_span.specs.Spans.{span_start_of}
use Rattle.cxl_model.specs.System.{decoders_at}
use Rattle.cxl_model.specs.Regions.{HasSpan, LeadsSlot, past_port, at_endpoint, target_position}
use Rattle.cxl_worked.proofs.ExamplesTests.{blocks_hold, block_kept}

-- a span that is found behind a bridge with decoders of its own
pub behind_bridge : (s : System) (w : WindowFields) (r : Range) (slot bridge : ℕ) (place : Place)
    → IsSomeAnd (slice_get w.targets (target_position w slot)) (λ uid. bridge_with s.nodes uid ≡ Some bridge)
    → forwards_at s.nodes bridge ≡ false → is_port_at s.nodes bridge ≡ true → LeadsSlot s w r slot bridge place.endpoint → is_endpoint_at s.nodes place.endpoint ≡ true
    → IsSomeAnd (index_for s r place.endpoint) (λ i. place.start ≡ span_start_of (decoders_at s place.endpoint) i) → HasSpan s w r slot place
behind_bridge s w r slot bridge place target own port leads endpoint start = record {
  bridge = bridge;
  target = target;
  leads = past_port bridge place.endpoint place own port leads (at_endpoint place endpoint start);
}

-- the span of each slot below a number
abbrev pub HasSpansBelow : System → WindowFields → Range → List Place → ℕ → Type 0
HasSpansBelow s w r spans n = (slot : ℕ) → slot < n → (place : Place) → slice_get spans slot ≡ Some place → HasSpan s w r slot place

pub no_spans : (s : System) (w : WindowFields) (r : Range) (spans : List Place) → HasSpansBelow s w r spans 0
no_spans s w r spans slot below = absurd (omega arith)

pub one_more_span : (s : System) (w : WindowFields) (r : Range) (spans : List Place) (n : ℕ) (place : Place) → HasSpansBelow s w r spans n
    → slice_get spans n ≡ Some place → HasSpan s w r n place → HasSpansBelow s w r spans (n + 1)
one_more_span s w r spans n place before at has =
    below_more _ n before (λ other there. subst (HasSpan s w r n) (ap (λ (o : Option Place). unwrap_or o place) (sym at ∙ there)) has)

pub all_spans : (s : System) (w : WindowFields) (r : Range) (spans : List Place) → HasSpansBelow s w r spans (length spans) → (slot : ℕ) (place : Place)
    → slice_get spans slot ≡ Some place → HasSpan s w r slot place
all_spans s w r spans has slot place at = has slot (slice_get_within spans slot place at) place at

-- the rules K2 to K8 of one node's block
block_keeps : (o : Option Registers) (ram pmem : ℕ) → ((rule i : ℕ) → option_map_or (λ (block : Registers). block_breaks rule block ram pmem i) o false ≡ false)
    → IfSome o (λ block. BlockKeeps block ram pmem)
block_keeps None ram pmem kept = tt
block_keeps (Some block) ram pmem kept = record { each = kept }

pub keeps_block : (s : System) → blocks_hold s ≡ true → (n : ℕ) → KeepsBlock s n
keeps_block s hold n = block_keeps (slice_get s.blocks n) (ram_at s n) (pmem_at s n) (λ rule i. block_kept s rule hold n i)

-- what a list says of none of its elements it says of no element
pub none_of : {X : Type 0} (p : X → Bool) (xs : List X) (i : ℕ) (x : X) → list_any p xs ≡ false → slice_get xs i ≡ Some x → p x ≡ false
none_of p xs i x none here = elim (cases_Bool (p x)) [ inl passes ↦ absurd (both_ways _ none (list_any-from_Any p xs (i, x, slice_get_within xs i x here, get_or_from_slice_get xs i x x here, passes))) | inr fails ↦ fails ]

-- the only element of a list
pub only_one : {X : Type 0} (x y : X) (i : ℕ) → slice_get (x ∷ []) i ≡ Some y → x ≡ y
only_one x y i here =
    let within = slice_get_within (x ∷ []) i y here in
    let first : i ≡ 0 = omega arith in
    ap (λ (o : Option _). unwrap_or o x) (ap (slice_get (x ∷ [])) (sym first) ∙ here)
