-- An access leaves a machine that a session can stand for.
use Rattle.std.proofs.Common.{◌≡◌, ◌+◌, true, false, length, Some, sym, subst}
use Rattle.std.specs.Prelude.{nat_lt}
use Rattle.std.proofs.lemmas.Bool.{leb-true}
use Rattle.cxl_script.specs.declared.command.Command.{Command}
use Rattle.cxl_script.specs.declared.command.Store.{Store}
use Rattle.cxl_machine.specs.Machine.{Live, Machine, live_at, free_frames, with_contents, has_host}
use Rattle.cxl_machine.specs.Outcomes.{BusOutcome, is_access, StoresBytes}
use Rattle.cxl_move.specs.Bytes.{AreBytes, written}
use Rattle.cxl_machine.specs.Replies.{Answer, ends_within}
use Rattle.cxl_machine.specs.Accesses.{offset_in, frames_wanted}
use Rattle.cxl_machine.specs.Copies as copies
use Rattle.cxl_machine.specs.Copies.{frames_for, pieces_of}
use Rattle.cxl_machine.specs.Answers.{Answers}
use Rattle.cxl_machine.specs.Sound.{IsMachine}
use Rattle.cxl_machine.proofs.AccessesLeave.{AreTwo, AccessLeaves, as_it_was, stored, copied, moved, access_leaves}
use Rattle.cxl_machine.proofs.KeepingMachines.{TurnsLaw, live_there, store_keeps, copy_keeps, clear_keeps}
use Rattle.cxl_machine.proofs.KeepingBytes.{counted}
use Rattle.cxl_machine.proofs.Frames.{stored_held, copied_held, moved_held}

module _ (laws : TurnsLaw) (m : Machine) (is : IsMachine m) where
  store_keeps_machine : (store : Store) (region : Live) → AreBytes store.bytes → live_at m store.h ≡ Some region → ends_within region.found store.h (length store.bytes) ≡ true
      → nat_lt (free_frames m) (frames_wanted region store) ≡ false → IsMachine (with_contents region.name (written region.contents (offset_in region store.h) store.bytes) m)
  store_keeps_machine store region bytes at fits room =
      counted _ (store_keeps laws m is store.h store.bytes bytes region at (leb-true (store.h + length store.bytes) (region.found.base + region.found.size) fits))
      (stored_held m is region (live_there m (λ (r : Live). has_host r.found store.h) region at).0 store room)

  copy_keeps_machine : (from to : Live) → AreTwo m from to → nat_lt (frames_for m to) (pieces_of from) ≡ false → IsMachine (copies.copied m from to)
  copy_keeps_machine from to are room = counted _ (copy_keeps laws m is from to are.there are.here are.sizes) (copied_held m is from to are.here room)

  move_keeps_machine : (from to : Live) → AreTwo m from to → IsMachine (copies.moved m from to)
  move_keeps_machine from to are =
      counted _ (clear_keeps (copies.copied m from to) (copy_keeps laws m is from to are.there are.here are.sizes) from.name) (moved_held m is from to are.there are.here are.differ)

  given : (answer other : Answer) → answer ≡ other → IsMachine other.machine → IsMachine answer.machine
  given answer other same keeps = subst (λ (a : Answer). IsMachine a.machine) (sym same) keeps

  by_leaving : (command : Command) (answer : Answer) → StoresBytes command → AccessLeaves m command answer → IsMachine answer.machine
  by_leaving command answer stores (as_it_was stays) = subst IsMachine (sym stays) is
  by_leaving command answer stores (stored store region asks at fits room same) = given answer _ same (store_keeps_machine store region (subst StoresBytes asks stores) at fits room)
  by_leaving command answer stores (copied pair from to asks are room same) = given answer _ same (copy_keeps_machine from to are room)
  by_leaving command answer stores (moved pair from to asks are same) = given answer _ same (move_keeps_machine from to are)

  pub access_keeps : (command : Command) (outcome : BusOutcome) (answer : Answer) → is_access command ≡ true → StoresBytes command → Answers m command outcome answer → IsMachine answer.machine
  access_keeps command outcome answer access stores at = by_leaving command answer stores (access_leaves m command outcome answer access at)
