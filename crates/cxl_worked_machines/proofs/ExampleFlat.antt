-- The bytes at the host addresses of the worked machines.
use Rattle.std.proofs.Common.{◌≡◌, ℕ, zero, suc, ◌+◌, ◌-◌, ◌<◌, ◌≤◌, Bool, true, false, cond, [], ◌∷◌, Option, Some, None, inl, inr, refl, sym, ap, ◌∙◌, subst, arith}
use Rattle.std.specs.Prelude.{Contains, option_map}
use Rattle.std.proofs.lemmas.Bool.{cases_Bool}
use Rattle.std.proofs.lemmas.Option.{same_Some}
use Rattle.cxl_script.specs.declared.command.Pair.{Pair}
use Rattle.cxl_model.specs.Contents.{Contents, content_at}
use Rattle.cxl_machine.specs.Machine.{Live, has_host}
use Rattle.cxl_machine.specs.Accesses.{offset_in}
use Rattle.cxl_worked.specs.ExampleRegions.{region_of_two}
use Rattle.cxl_flat.specs.Memory.{byte_of, LiesBeside, LieWithin, AreNamed, HasBytesOf}
use Rattle.cxl_flat.proofs.Addresses.{has_between, has_not}
use Rattle.cxl_flat.proofs.Bytes.{zero_content, stored_there, others_stay}
use Rattle.cxl_worked_machines.specs.Examples.{r0, b, nothing, first_byte, with_r0, with_both, region_r0, region_b, found_b}

-- ---- contents

pub eleven_first : content_at first_byte 0 ≡ 0x11
eleven_first = stored_there nothing 0 (0x11 ∷ []) 0 (omega arith)

pub as_before : (i : ℕ) → 0 < i → content_at first_byte i ≡ content_at nothing i
as_before i behind = others_stay nothing 0 (0x11 ∷ []) i (inr (let from : 1 ≤ i = omega (arith, behind) in from))

pub zero_behind : (i : ℕ) → 0 < i → content_at first_byte i ≡ 0
zero_behind i behind = as_before i behind ∙ zero_content i

-- the first bytes differ, and so the contents
pub not_zero : ¬ (content_at nothing 0 ≡ 0x11)
not_zero same = let wrong : 0 ≡ 0x11 = sym (zero_content 0) ∙ same in omega (arith, wrong)

pub first_differs : ¬ (content_at nothing 0 ≡ content_at first_byte 0)
first_differs same = not_zero (same ∙ eleven_first)

pub contents_differ : ¬ (nothing ≡ first_byte)
contents_differ same = first_differs (ap (λ (c : Contents). content_at c 0) same)

-- ---- one region

-- the byte of a region at a host address
abbrev byte_in : ℕ → Live → ℕ
byte_in h region = content_at region.contents (offset_in region h)

abbrev one_found : Contents → Bool → Option Live
one_found contents here = cond here (Some (region_r0 contents)) None

pub in_r0 : (contents : Contents) (h : ℕ) → has_host region_of_two h ≡ true → byte_of (with_r0 contents) h ≡ Some (content_at contents (h - 0x100000000))
in_r0 contents h has = ap (λ (here : Bool). option_map (byte_in h) (one_found contents here)) has

pub past_r0 : (contents : Contents) (h : ℕ) → has_host region_of_two h ≡ false → byte_of (with_r0 contents) h ≡ None
past_r0 contents h none = ap (λ (here : Bool). option_map (byte_in h) (one_found contents here)) none

-- the only region is the one
pub is_r0 : (contents : Contents) (region : Live) → Contains (region_r0 contents ∷ []) region → region_r0 contents ≡ region
is_r0 contents region (zero, low, read) = read
is_r0 contents region (suc k, low, read) = absurd (omega (arith, low))

pub none_there : (region : Live) → ¬ (Contains [] region)
none_there region (k, low, read) = omega (arith, low)

pub r0_there : (contents : Contents) → Contains (region_r0 contents ∷ []) (region_r0 contents)
r0_there contents = (0, omega arith, refl)

-- no region lies past its own end
pub lies_past : (contents : Contents) (region : Live) → Contains (region_r0 contents ∷ []) region → ¬ (LieWithin region.found 0x11fffffff 2)
lies_past contents region there lies =
    let own = subst (λ (r : Live). LieWithin r.found 0x11fffffff 2) (sym (is_r0 contents region there)) lies in
    let ends : 0x11fffffff + 2 ≤ 0x120000000 = own.ends in
    omega (arith, ends)

-- ---- two regions

abbrev two_found : Contents → Contents → Bool → Bool → Option Live
two_found one two first second = cond first (Some (region_r0 one)) (cond second (Some (region_b two)) None)

module _ (one two : Contents) (h : ℕ) where
  in_first : has_host region_of_two h ≡ true → byte_of (with_both 2 one two) h ≡ Some (content_at one (h - 0x100000000))
  in_first has = ap (λ (here : Bool). option_map (byte_in h) (two_found one two here (has_host found_b h))) has

  in_second : has_host region_of_two h ≡ false → has_host found_b h ≡ true → byte_of (with_both 2 one two) h ≡ Some (content_at two (h - 0x120000000))
  in_second none has =
      ap (λ (here : Bool). option_map (byte_in h) (two_found one two here (has_host found_b h))) none
      ∙ ap (λ (here : Bool). option_map (byte_in h) (two_found one two false here)) has

  in_neither : has_host region_of_two h ≡ false → has_host found_b h ≡ false → byte_of (with_both 2 one two) h ≡ None
  in_neither none other =
      ap (λ (here : Bool). option_map (byte_in h) (two_found one two here (has_host found_b h))) none
      ∙ ap (λ (here : Bool). option_map (byte_in h) (two_found one two false here)) other

has_first : (k : ℕ) → k < 0x20000000 → has_host region_of_two (0x100000000 + k) ≡ true
has_first k below = has_between region_of_two (0x100000000 + k) (omega arith) (omega (arith, below))

-- a second region with the first one's bytes has them at its own addresses
pub second_has : (one two left : Contents) → HasBytesOf (with_both 2 one two) (with_both 2 left one) (region_r0 one) (region_b two)
second_has one two left k below =
    let low : k < 0x20000000 = below in
    let along : 0x120000000 + k - 0x120000000 ≡ 0x100000000 + k - 0x100000000 = omega arith in
    in_second left one (0x120000000 + k) (has_not region_of_two (0x120000000 + k) (inr (omega arith))) (has_between found_b (0x120000000 + k) (omega arith) (omega (arith, low)))
    ∙ ap (λ (i : ℕ). Some (content_at one i)) along ∙ sym (in_first one two (0x100000000 + k) (has_first k low))

-- a first region without bytes is zero
pub first_is_zero : (two : Contents) (k : ℕ) → k < 0x20000000 → byte_of (with_both 2 nothing two) (0x100000000 + k) ≡ Some 0
first_is_zero two k low = in_first nothing two (0x100000000 + k) (has_first k low) ∙ ap Some (zero_content (0x100000000 + k - 0x100000000))

-- no other address has another byte
pub beside_second : (one two left : Contents) (h : ℕ) → LiesBeside h 0x120000000 0x20000000 → byte_of (with_both 2 one left) h ≡ byte_of (with_both 2 one two) h
beside_second one two left h beside =
    elim (cases_Bool (has_host region_of_two h)) [
      | inl has ↦ in_first one left h has ∙ sym (in_first one two h has)
      | inr none ↦ in_neither one left h none (has_not found_b h beside) ∙ sym (in_neither one two h none (has_not found_b h beside))
    ]

pub beside_both : (one two left right : Contents) (h : ℕ) → LiesBeside h 0x100000000 0x20000000 → LiesBeside h 0x120000000 0x20000000 → byte_of (with_both 2 left right) h ≡ byte_of (with_both 2 one two) h
beside_both one two left right h first second =
    in_neither left right h (has_not region_of_two h first) (has_not found_b h second)
    ∙ sym (in_neither one two h (has_not region_of_two h first) (has_not found_b h second))

-- the two regions of a pair of names
abbrev pub r0_and_b : Pair
r0_and_b = record { from = r0; to = b }

pub both_named : (one two : Contents) → AreNamed (with_both 2 one two) r0_and_b (region_r0 one) (region_b two)
both_named one two = record { first = refl; second = refl }

pub are_both : (one two : Contents) (from to : Live) → AreNamed (with_both 2 one two) r0_and_b from to → (region_r0 one ≡ from) × (region_b two ≡ to)
are_both one two from to named = (same_Some (region_r0 one) from named.first, same_Some (region_b two) to named.second)
