-- What is told of a poison list speaks of an endpoint of the tree and of live regions.
use Rattle.std.proofs.Common.{◌≡◌, ℕ, suc, ◌<◌, List, [], ◌∷◌, length, map, refl, sym, ap, ◌∙◌, subst, arith}
use Rattle.std.specs.Prelude.{All}
use Rattle.std.specs.List.{AllZip}
use Rattle.std.proofs.lemmas.List.{length-map}
use Rattle.std.proofs.lemmas.List.Elements.{All-nil, All-cons, All-append}
use Rattle.std.proofs.lemmas.Option.{slice_get_within}
use Rattle.cxl_window.specs.Fields.{WindowFields}
use Rattle.cxl_model.specs.declared.found.Found.{Found}
use Rattle.cxl_model.specs.declared.poison.Entry.{Entry}
use Rattle.cxl_model.specs.declared.poison.Part.{Part}
use Rattle.cxl_model.specs.declared.poison.Part.TheVariants as parts
use Rattle.cxl_model.specs.declared.poison.Poisoned.{Poisoned}
use Rattle.cxl_model.specs.declared.poison.Run.{Run}
use Rattle.cxl_model.specs.Poison.{region_of}
use Rattle.cxl_poison.specs.Live.{SpanFields}
use Rattle.cxl_poison.specs.Pieces.{Cut, AreRunsOf, ArePartsOf, ArePartsInAll}
use Rattle.cxl_poison.specs.Pieces as pieces
use Rattle.cxl_reply.specs.declared.reply.Reply.{Reply}
use Rattle.cxl_reply.specs.Conditions.{IsNode, IsTold}
use Rattle.cxl_machine.specs.Machine.{Live, Machine}
use Rattle.cxl_machine.specs.Reports.{live_regions, live_names, TouchesLive, TellsPoison, listed, short, few}

as_many : {A B : Type 0} (R : A → B → Type 0) (xs : List A) (ys : List B) → AllZip R xs ys → length ys ≡ length xs
as_many R [] [] all = refl
as_many R [] (y ∷ ys) all = absurd all
as_many R (x ∷ xs) [] all = absurd all
as_many R (x ∷ xs) (y ∷ ys) all = ap suc (as_many R xs ys all.1)

each_second : {A B : Type 0} (R : A → B → Type 0) (P : B → Type 0) → ((x : A) (y : B) → R x y → P y) → (xs : List A) (ys : List B) → AllZip R xs ys → All P ys
each_second R P one [] [] all = All-nil P
each_second R P one [] (y ∷ ys) all = absurd all
each_second R P one (x ∷ xs) [] all = absurd all
each_second R P one (x ∷ xs) (y ∷ ys) all = All-cons P y ys (one x y all.0) (each_second R P one xs ys all.1)

-- each part speaks of the span's region
module _ (n : ℕ) where
  abbrev Below : Part → Type 0
  Below part = region_of part < n

  runs_below : (found : Found) (w : WindowFields) (endpoint : ℕ) (span : SpanFields) (cuts : List Cut) (runs : List Run) → span.region < n → AreRunsOf found w endpoint span cuts runs → All Below (map parts.Run runs)
  runs_below found w endpoint span _ _ low pieces.none = All-nil Below
  runs_below found w endpoint span _ _ low (pieces.next cut cuts run runs is are) =
      let same = is.region in
      All-cons Below (parts.Run run) (map parts.Run runs) (omega (arith, low, same)) (runs_below found w endpoint span cuts runs low are)

  parts_below : (found : Found) (w : WindowFields) (endpoint : ℕ) (span : SpanFields) (cuts : List Cut) (own : List Part) → span.region < n → ArePartsOf found w endpoint span cuts own → All Below own
  parts_below found w endpoint span cuts _ low (pieces.few runs little are) = runs_below found w endpoint span cuts runs low are
  parts_below found w endpoint span cuts _ low (pieces.many wide long is) =
      let same = is.region in
      All-cons Below (parts.Wide wide) [] (omega (arith, low, same)) (All-nil Below)

all_below : (entry : Entry) (endpoint : ℕ) (live : List Found) (windows : List WindowFields) (spans : List SpanFields) (own : List Part) → ArePartsInAll entry endpoint live windows spans own → All (Below (length live)) own
all_below entry endpoint live windows _ _ pieces.none = All-nil (Below (length live))
all_below entry endpoint live windows _ _ (pieces.next span spans own others is are) =
    All-append (Below (length live)) own others
    (parts_below (length live) is.found is.w endpoint span _ own (slice_get_within live span.region is.found is.there) is.are)
    (all_below entry endpoint live windows spans others are)

pub poison_told : (m : Machine) (endpoint : ℕ) (bytes : List ℕ) (reply : Reply) → IsNode m.settled.nodes endpoint → TellsPoison m endpoint bytes reply → IsTold m.settled.nodes reply
poison_told m endpoint bytes reply inside (listed list pieces reads each is) =
    subst (IsTold m.settled.nodes) (sym is) record {
      endpoint = inside;
      pieces = as_many (TouchesLive m endpoint) list.records pieces each;
      regions = each_second (TouchesLive m endpoint) (λ (poisoned : Poisoned). All (λ (part : Part). region_of part < length (live_names m)) poisoned.parts)
          (λ entry poisoned touches.
          subst (λ (n : ℕ). All (λ (part : Part). region_of part < n) poisoned.parts) (length-map m.live (λ (r : Live). r.found) ∙ sym (length-map m.live (λ (r : Live). r.name)))
          (all_below entry endpoint (live_regions m) m.settled.windows touches.spans poisoned.parts touches.are))
          list.records pieces each;
    }
poison_told m endpoint bytes reply inside (short fault is) = subst (IsTold m.settled.nodes) (sym is) tt
poison_told m endpoint bytes reply inside (few said fault is) = subst (IsTold m.settled.nodes) (sym is) tt
