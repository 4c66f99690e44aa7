use Rattle.std.proofs.Common.{◌≡◌, ◌+◌, ℕ, List, [], ◌∷◌, ◌++◌, map, length, sym, ap, ◌∙◌, arith}
use Rattle.std.specs.List.{range_with_len}
use Rattle.std.proofs.lemmas.List.FromFn.{map-range_with_len_more, length-map-range_with_len}
use Rattle.cxl_machine.specs.Sound.{auto_name}
use Rattle.cxl_opening.proofs.keeping.auto_names.Goals as goal

pub loop-i-init : goal.loop-i-init
loop-i-init c = record { names = c.in_ok-names.ensures.items; room = c.in_ok-names.ensures.capacity }

pub auto_name-requires : goal.auto_name-requires
auto_name-requires c =
    let few = c.requires in
    let low = c.loop-i-test.true in
    omega (arith, few, low)

pub push_reserved-requires : goal.push_reserved-requires
push_reserved-requires c =
    let size = c.loop-i.names.ok.0 in
    let count : length c.loop-i.names.items ≡ c.loop-i.i = ap length c.loop-i.invariant.names ∙ length-map-range_with_len auto_name 0 c.loop-i.i in
    let room = c.loop-i.invariant.room in
    let few = c.requires in
    let low = c.loop-i-test.true in
    omega (arith, size, count, room, few, low)

pub loop-i-preserved : goal.loop-i-preserved
loop-i-preserved c =
    let i : ℕ = c.loop-i.i in
    let from : 0 + i ≡ i = omega arith in
    let room = c.loop-i.invariant.room in
    let stays = c.push_reserved.ensures.capacity in
    record {
      names =
          c.push_reserved.ensures.items ∙ ap (λ (names : List (List ℕ)). names ++ c.in_ok-name.name ∷ []) c.loop-i.invariant.names
          ∙ ap (λ (name : List ℕ). map auto_name (range_with_len 0 i) ++ name ∷ []) c.in_ok-name.ensures ∙ sym (map-range_with_len_more auto_name 0 i i from);
      room = omega (arith, room, stays);
    }

pub returns-clause-names : goal.returns-clause-names
returns-clause-names c =
    let low = c.loop-i.auto.i-end in
    let end = c.loop-i-test.false in
    let all : c.loop-i.i ≡ c.args.count = omega (arith, low, end) in
    c.loop-i.invariant.names ∙ ap (λ (n : ℕ). map auto_name (range_with_len 0 n)) all

pub returns-clause-room : goal.returns-clause-room
returns-clause-room c = c.loop-i.invariant.room
