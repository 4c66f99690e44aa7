-- What a poison list touches, over the regions that a session keeps.
use Rattle.std.proofs.Common.{◌≡◌, ℕ, ◌+◌, ◌<◌, true, List, length, get_or, Some, refl, inl, inr, sym, ap, ◌∙◌, subst, arith}
use Rattle.std.specs.List.{AllZip}
use Rattle.std.proofs.lemmas.Bool.{lt-ltb}
use Rattle.std.proofs.lemmas.List.Folds.{list_any_at}
use Rattle.cxl_topo.specs.declared.node.Node.{Node}
use Rattle.cxl_topo.specs.Tree.{Tree}
use Rattle.cxl_window.specs.Fields.{WindowFields}
use Rattle.cxl_model.specs.declared.found.Found.{Found}
use Rattle.cxl_model.specs.declared.poison.Entry.{Entry}
use Rattle.cxl_model.specs.declared.poison.Poisoned.{Poisoned}
use Rattle.cxl_model.specs.declared.poison.PoisonList.{PoisonList}
use Rattle.cxl_model.specs.Bytes.{slot_length}
use Rattle.cxl_poison.specs.declared.fault.Said.{Said}
use Rattle.cxl_poison.specs.declared.fault.PoisonFault.{PoisonFault}
use Rattle.cxl_poison.specs.declared.fault.PoisonFault.TheVariants.{Short, Count, Memory}
use Rattle.cxl_poison.specs.Payload.{IsPoisonFault, IsPoisonFaultOf}
use Rattle.cxl_poison.specs.Live.{AreLive, SpanFields}
use Rattle.cxl_poison.specs.Pieces.{record_end, ArePoisonedPieces, Touches, AreTouchedPlaces}
use Rattle.cxl_reply.specs.declared.reply.Reply.{Reply}
use Rattle.cxl_reply.specs.declared.reply.Reply.TheVariants as replies
use Rattle.cxl_machine.specs.Machine.{Machine}
use Rattle.cxl_machine.specs.Reports.{live_regions, TouchesLive, poison_reply}
use Rattle.cxl_machine.specs.Replies.{endpoint_named}
use Rattle.cxl_machine.specs.Sound.{IsMachine}
use Rattle.cxl_machine.proofs.LiveRegions.{are_live}
use Rattle.cxl_session.specs.State.{SessionState}
use Rattle.cxl_session.specs.Standing.{StandsFor}
use Rattle.cxl_session.specs.inner.OnDevice.{names_byte, ArePlacesNamed}

-- a record that touches bytes of a span names one of them
names_touched : (entry : Entry) (span : SpanFields) (len : ℕ) → span.len ≡ len → Touches entry span → names_byte span.start (span.start + len) entry ≡ true
names_touched entry span len long touches =
    let below : entry.dpa < span.start + len = omega (arith, long, touches) in
    let past : span.start < record_end entry = omega (arith, long, touches) in
    rw (lt-ltb entry.dpa (span.start + len) below, lt-ltb span.start (record_end entry) past) refl

-- the places of all of which the records name bytes are those of all that one of them touches
pub places_given : (session : SessionState) (endpoint : ℕ) (records : List Entry) (places : List ℕ) → ArePlacesNamed session endpoint records places → (k : ℕ) (d : Entry) → k < length records
    → AreTouchedPlaces (get_or records k d) endpoint session.founds places
places_given session endpoint records places on k d low = record {
  each = on.are.each;
  once = on.are.once;
  all = λ span is touches.
      on.all span.region span.slot is.found (record { endpoint = endpoint; start = span.start }) is.there is.here.place refl
      (list_any_at (names_byte span.start (span.start + slot_length is.found)) records k d low (names_touched (get_or records k d) span (slot_length is.found) is.here.len touches));
}

module _ (session : SessionState) (m : Machine) (stands : StandsFor session m) where
  pub live_founds : IsMachine m → AreLive session.windows session.founds
  live_founds is =
      subst (λ (ws : List WindowFields). AreLive ws session.founds) stands.windows (subst (AreLive m.settled.windows) (sym stands.founds) (are_live m is))

  pub touches : (endpoint : ℕ) (records : List Entry) (pieces : List Poisoned) → AllZip (λ entry poisoned. ArePoisonedPieces entry endpoint session.founds session.windows poisoned) records pieces
      → AllZip (TouchesLive m endpoint) records pieces
  touches endpoint records pieces all =
      let P : List Found → List WindowFields → Type 0 = λ fs ws. AllZip (λ (entry : Entry) (poisoned : Poisoned). ArePoisonedPieces entry endpoint fs ws poisoned) records pieces in
      subst (λ (ws : List WindowFields). P (live_regions m) ws) (sym stands.windows) (subst (λ (fs : List Found). P fs session.windows) stands.founds all)

  -- so of each record, told over the regions and the windows that a session keeps
  pub told_given : (endpoint : ℕ) (records given : List Entry) (ws : List WindowFields) (fs : List Found) (pieces : List Poisoned) → given ≡ records → ws ≡ session.windows → fs ≡ session.founds
      → AllZip (λ entry poisoned. ArePoisonedPieces entry endpoint fs ws poisoned) given pieces → AllZip (TouchesLive m endpoint) records pieces
  told_given endpoint records given ws fs pieces same windows live told =
      let P : List WindowFields → List Found → List Entry → Type 0 = λ xs found_there es. AllZip (λ (entry : Entry) (poisoned : Poisoned). ArePoisonedPieces entry endpoint found_there xs poisoned) es pieces in
      touches endpoint records pieces
      (subst (λ (found_there : List Found). P session.windows found_there records) live (subst (λ (xs : List WindowFields). P xs fs records) windows (subst (P ws fs) same told)))

  -- the endpoint of a name, by the tree that a session keeps
  pub endpoint_there : (tree : Tree) (name : List ℕ) (endpoint : ℕ) → tree ≡ session.topo → Some endpoint ≡ endpoint_named tree.nodes name → endpoint_named m.settled.nodes name ≡ Some endpoint
  endpoint_there tree name endpoint same found =
      ap (λ (nodes : List Node). endpoint_named nodes name) (stands.nodes ∙ ap (λ (t : Tree). t.nodes) (sym same)) ∙ sym found

  pub reported : (endpoint : ℕ) (list : PoisonList) (pieces : List Poisoned) (names : List (List ℕ)) → names ≡ session.names
      → ◌≡◌ {A = Reply} (replies.Poison record { endpoint = endpoint; list = list; pieces = pieces; names = names }) (poison_reply m endpoint list pieces)
  reported endpoint list pieces names same =
      ap (λ (ns : List (List ℕ)). replies.Poison record { endpoint = endpoint; list = list; pieces = pieces; names = ns }) (same ∙ stands.names)

-- ---- why bytes are no list

fault_of : (bytes : List ℕ) (fault : PoisonFault) → (fault ≡ Memory → ⊥) → IsPoisonFaultOf bytes fault → IsPoisonFault bytes fault
fault_of bytes fault other (inl memory) = absurd (other memory)
fault_of bytes fault other (inr own) = own

pub short_fault : (bytes : List ℕ) (fault : PoisonFault) → fault ≡ Short → IsPoisonFaultOf bytes fault → IsPoisonFault bytes Short
short_fault bytes fault is own = fault_of bytes Short differ (subst (IsPoisonFaultOf bytes) is own)
  where
    differ : Short ≡ Memory → ⊥
    differ e = cc

pub count_fault : (bytes : List ℕ) (fault : PoisonFault) (said : Said) → fault ≡ Count said → IsPoisonFaultOf bytes fault → IsPoisonFault bytes (Count said)
count_fault bytes fault said is own = fault_of bytes (Count said) differ (subst (IsPoisonFaultOf bytes) is own)
  where
    differ : Count said ≡ Memory → ⊥
    differ e = cc
