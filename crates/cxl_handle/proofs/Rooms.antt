-- A room that had taken nothing.
use Rattle.std.proofs.Common.{◌≡◌, ℕ, List, [], ◌∷◌, length, take, ap, arith}
use Rattle.std.proofs.lemmas.List.{length-take}
use Rattle.cxl_io.specs.Sink.{SinkState}
use Rattle.cxl_library.specs.Rooms.{sink_of, room_state}
use Rattle.cxl_library.specs.declared.room.TextRoom.{TextRoom}
use Rattle.cxl_library.proofs.Telling.{some_same}

abbrev rest_of : List ℕ → List ℕ
rest_of [] = []
rest_of (mark ∷ bytes) = bytes

pub none_taken : (mark : ℕ) (room : TextRoom) → room_state room ≡ sink_of (mark ∷ []) → room.taken ≡ 0
none_taken mark room fresh =
    let bytes : take room.taken room.bytes.now ≡ [] = ap rest_of (some_same (ap (λ (sink : SinkState). sink.taken) fresh)) in
    let none : length (take room.taken room.bytes.now) ≡ 0 = ap (λ (it : List ℕ). length it) bytes in
    let long = length-take room.taken room.bytes.now in
    let within = room.fits in
    omega (arith, none, long, within)
