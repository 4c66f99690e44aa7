use Rattle.std.proofs.Common.{◌≡◌, ℕ, suc, ◌+◌, ◌<◌, [], ◌∷◌, ◌++◌, List, length, get_or, set, sym, ap, ◌∙◌, subst, add-one, arith}
use Rattle.std.specs.Vec.{vec_capacity}
use Rattle.std.proofs.lemmas.List.{get_or_read}
use Rattle.cxl_media.specs.Numbers.{number_at, no_numbers, AreParts}
use Rattle.cxl_media.proofs.Parts.{made_room, made_same, made_are}
use Rattle.cxl_media.proofs.numbers.place_of_part.Goals as goal

none_of : (parts : List ℕ) (part named : ℕ) → part < length parts → named ≡ get_or parts part named → named ≡ 0 → get_or parts part 0 ≡ 0
none_of parts part named within read none = sym (get_or_read parts part named within read 0) ∙ none

pub push_reserved-requires : goal.push_reserved-requires
push_reserved-requires c =
    let none = none_of c.args.parts.now.items c.args.part c.index-named.result.now c.requires.within c.index-named.ensures c.if-named-ne0.false in
    omega (arith, c.args.made.now.ok.0, made_room _ _ c.requires.are.0 _ c.requires.are.1 c.args.part c.requires.within none)

-- the part's name, and the parts that were made
name_is : (made : List (List ℕ)) (place : ℕ) → place ≡ length made → place + 1 ≡ suc (length made)
name_is made place is = ap (λ n. n + 1) is ∙ add-one (length made)

pub returns-clause-same : goal.returns-clause-same
returns-clause-same c k =
    let none = none_of c.args.parts.now.items c.args.part c.index-named.result.now c.requires.within c.index-named.ensures c.if-named-ne0.false in
    let name = name_is c.args.made.now.items c.len-place.result (c.len-place.ensures ∙ c.args.made.now.ok.0) in
    ap (λ n. number_at (set c.args.parts.now.items c.args.part n) c.push_reserved.new.self.items k) name
    ∙ ap (λ made. number_at (set c.args.parts.now.items c.args.part (suc (length c.args.made.now.items))) made k) (c.push_reserved.ensures.items ∙ ap (λ x. c.args.made.now.items ++ x ∷ []) c.zeroed.ensures)
    ∙ made_same _ _ c.requires.are.0 _ c.requires.are.1 c.args.part c.requires.within none k

pub returns-clause-are : goal.returns-clause-are
returns-clause-are c total are =
    let none = none_of c.args.parts.now.items c.args.part c.index-named.result.now c.requires.within c.index-named.ensures c.if-named-ne0.false in
    let name = name_is c.args.made.now.items c.len-place.result (c.len-place.ensures ∙ c.args.made.now.ok.0) in
    let more = c.push_reserved.ensures.items ∙ ap (λ x. c.args.made.now.items ++ x ∷ []) c.zeroed.ensures in
    subst (λ (n : ℕ). AreParts (set c.args.parts.now.items c.args.part n) c.push_reserved.new.self.items total (vec_capacity c.push_reserved.new.self)) (sym name)
    (subst (λ (made : List (List ℕ)). AreParts (set c.args.parts.now.items c.args.part (suc (length c.args.made.now.items))) made total (vec_capacity c.push_reserved.new.self)) (sym more)
    (subst (λ (room : ℕ). AreParts (set c.args.parts.now.items c.args.part (suc (length c.args.made.now.items))) (c.args.made.now.items ++ no_numbers ∷ []) total room) (sym c.push_reserved.ensures.capacity)
    (made_are _ _ total _ are c.args.part c.requires.within none)))
