-- What a window that gives something keeps, part by part, and a set at a lower size.
use Rattle.std.proofs.Common.{◌≡◌, ℕ, ◌+◌, ◌-◌, ◌*◌, ◌/◌, ◌%◌, ◌<◌, ◌≤◌, Bool, true, false, max, if◌then◌else◌, List, length, map, Option, Some, None, refl, sym, ap, ◌∙◌, arith}
use Rattle.std.specs.Prelude.{nat_le, is_some, option_and_then}
use Rattle.std.proofs.Math.Nat.{div-mul-le_self}
use Rattle.std.proofs.lemmas.Nat.{le-div}
use Rattle.std.proofs.lemmas.Bool.{and_parts, and_from, leb-true, le-leb, false≢true}
use Rattle.std.proofs.lemmas.Option.{none-some}
use Rattle.cxl_enc.specs.Limits.{unit}
use Rattle.cxl_span.specs.declared.allotting.Span.{Span}
use Rattle.cxl_span.specs.Allotting.{cursor_of}
use Rattle.cxl_span.specs.Partitions.{partition_start, partition_end}
use Rattle.cxl_window.specs.Fields.{WindowFields}
use Rattle.cxl_model.specs.System.{System, decoders_at, ram_at, pmem_at}
use Rattle.cxl_legal.specs.Sizes.{IsSizeFor}
use Rattle.cxl_legal.specs.Endpoints.{HasRoom, share_of}
use Rattle.cxl_legal.specs.Stated.{Fits}
use Rattle.cxl_pick.specs.declared.want.Want.{Want}
use Rattle.cxl_pick.specs.Picking.{asked, can_take, latest_start, all_given, given_in}
use Rattle.cxl_reason.specs.Reasons.{with_size}
use Rattle.cxl_reason.specs.inner.Gifts.{at_target}

pub some_there : {A : Type 0} (o : Option A) → is_some o ≡ true → (x : A) × (o ≡ Some x)
some_there None is = absurd (false≢true is)
some_there (Some x) is = (x, refl)

-- ---- a window that gives something

pub record GivenParts (s : System) (want : Want) (w : WindowFields) (given : List ℕ) : Type 0 where
  pub takes : can_take want w ≡ true
  pub start : ℕ
  pub starts : latest_start want w ≡ Some start
  pub all : all_given (map (at_target s want w start) w.targets) ≡ Some given

pub given_parts : (s : System) (want : Want) (w : WindowFields) (given : List ℕ) → given_in s want w ≡ Some given → GivenParts s want w given
given_parts s want w given is = first (can_take want w) refl is
  where
    second : can_take want w ≡ true → (o : Option ℕ) → latest_start want w ≡ o → option_and_then (λ start. all_given (map (at_target s want w start) w.targets)) o ≡ Some given → GivenParts s want w given
    second can None at none = absurd (none-some given none)
    second can (Some start) at some = record { takes = can; start = start; starts = at; all = some }

    first : (b : Bool) → can_take want w ≡ b → (if b then option_and_then (λ start. all_given (map (at_target s want w start) w.targets)) (latest_start want w) else None) ≡ Some given → GivenParts s want w given
    first true can some = second can (latest_start want w) refl some
    first false can none = absurd (none-some given none)

-- and back
pub given_from : (s : System) (want : Want) (w : WindowFields) (start : ℕ) → can_take want w ≡ true → latest_start want w ≡ Some start → all_given (map (at_target s want w start) w.targets) ≡ given_in s want w
given_from s want w start can starts =
    sym (ap (option_and_then (λ begin. all_given (map (at_target s want w begin) w.targets))) starts)
    ∙ sym (ap (λ (b : Bool). if b then option_and_then (λ begin. all_given (map (at_target s want w begin) w.targets)) (latest_start want w) else None) can)

-- ---- a lower size

-- an endpoint with room for a share has it for a smaller one
smaller_room : (s : System) (want : Want) (set : List ℕ) (size m : ℕ) → 0 < length set → size ≤ want.size → HasRoom s (asked want set) m → HasRoom s (asked (with_size want size) set) m
smaller_room s want set size m some less room =
    let old = room.1 in
    let start : ℕ = max (cursor_of (decoders_at s m)) (partition_start want.kind (ram_at s m)) in
    let share : ℕ = size / length set in
    let end : ℕ = partition_end want.kind (ram_at s m) (pmem_at s m) in
    let parts = and_parts (nat_le (partition_start want.kind (ram_at s m)) room.0.start) (nat_le (room.0.start + share_of (asked want set)) end) old.can_start.inside in
    let low = leb-true (partition_start want.kind (ram_at s m)) room.0.start parts.0 in
    let high = leb-true (room.0.start + share_of (asked want set)) end parts.1 in
    let after = old.can_start.after in
    let whole = div-mul-le_self size (length set) in
    let fewer : share ≤ share_of (asked want set) = le-div share want.size (length set) some (omega (arith, whole, less)) in
    let ends : start + share ≤ end = omega (arith, low, high, after, fewer) in
    let span : Span = record { start = start; skip = start - cursor_of (decoders_at s m); len = share } in (
      span,
      record {
        left = old.left;
        can_start = record {
          after = omega arith;
          inside = and_from (nat_le (partition_start want.kind (ram_at s m)) start) (nat_le (start + share) end) (le-leb (partition_start want.kind (ram_at s m)) start (omega arith)) (le-leb (start + share) end ends);
        };
        least = λ other can.
            let past = can.after in
            let own = and_parts (nat_le (partition_start want.kind (ram_at s m)) other) (nat_le (other + share) end) can.inside in
            let above = leb-true (partition_start want.kind (ram_at s m)) other own.0 in
            omega (arith, past, above);
        skip = omega arith;
        length = refl;
      },
    )

-- a set that keeps all that a request has to keeps it at a lower size
pub fits_lower : (s : System) (want : Want) (w : WindowFields) (set : List ℕ) (base size : ℕ) → 0 < length set → size ≤ want.size → IsSizeFor size (length set) → Fits s (asked want set) w base → Fits s (asked (with_size want size) set) w base
fits_lower s want w set base size some less legal fits =
    let inside = fits.starts.inside in
    record {
      system = fits.system;
      ports = fits.ports;
      accepted = fits.accepted;
      named = fits.named;
      endpoints = record {
        distinct = fits.endpoints.distinct;
        ways = fits.endpoints.ways;
        size = legal;
        even = fits.endpoints.even;
        left = fits.endpoints.left;
        room = λ m there. smaller_room s want set size m some less (fits.endpoints.room m there);
      };
      window = record {
        there = fits.window.there;
        usable = fits.window.usable;
        kind = fits.window.kind;
        open_to_plans = fits.window.open_to_plans;
        bridges = fits.window.bridges;
        gran = fits.window.gran;
        selects = fits.window.selects;
        ways = fits.window.ways;
      };
      starts = record {
        can = record { from = fits.starts.can.from; after = fits.starts.can.after; step = fits.starts.can.step };
        inside = omega (arith, inside, less);
      };
    }

-- sizes for the ways are sizes for so many endpoints
pub size_of_set : (size ways : ℕ) (set : List ℕ) → length set ≡ ways → IsSizeFor size ways → IsSizeFor size (length set)
size_of_set size ways set count legal = record { some = legal.some; even = ap (λ (k : ℕ). size % (unit * k)) count ∙ legal.even; low = legal.low }

pub size_of_ways : (size ways : ℕ) (set : List ℕ) → length set ≡ ways → IsSizeFor size (length set) → IsSizeFor size ways
size_of_ways size ways set count legal = record { some = legal.some; even = ap (λ (k : ℕ). size % (unit * k)) (sym count) ∙ legal.even; low = legal.low }
