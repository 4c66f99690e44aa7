use Rattle.std.proofs.Common.{◌≡◌, ℕ, suc, ◌/◌, ◌%◌, ◌<◌, [], List, length, get_or, set, sym, ap, ◌∙◌, subst, add-one, arith}
use Rattle.std.proofs.lemmas.List.{get_or_read}
use Rattle.cxl_media.specs.Numbers.{numbers_of, AreParts}
use Rattle.cxl_media.proofs.Parts.{length_numbers, numbers_alike, part_within, put_numbers, put_are}
use Rattle.cxl_media.proofs.numbers.Numbers.set.Goals as goal

inside_of : (parts : List ℕ) (made : List (List ℕ)) (total at : ℕ) (numbers : List ℕ) → numbers_of parts made total ≡ numbers → at < length numbers → at < total
inside_of parts made total at numbers view within = omega (arith, within, ap length view, length_numbers parts made total)

pub place_of_part-place-requires-clause-within : goal.place_of_part-place-requires-clause-within
place_of_part-place-requires-clause-within c =
    part_within _ _ _ _ c.self.invariant c.args.at (inside_of _ _ _ c.args.at _ c.self.view_is c.requires)

pub index_mut-requires : goal.index_mut-requires
index_mut-requires c =
    let are = c.place_of_part-place.ensures.are _ c.self.invariant in
    omega (arith, c.place_of_part-place.new.made.ok.0, are.named (c.args.at / 256) c.place_of_part-place.result (c.place_of_part-place.ensures.named ∙ add-one c.place_of_part-place.result))

-- a number is put into a part that is made
module _ (parts : List ℕ) (made : List (List ℕ)) (total room at place number : ℕ) (part new numbers : List ℕ) (are : AreParts parts made total room) (within : at < total) (name : get_or parts (at / 256) 0 ≡ suc place) (read : part ≡ get_or made place part) (whole : length part ≡ 256) (written : new ≡ set part (at % 256) number) where
  there : part ≡ get_or made place []
  there = get_or_read made place part (are.named (at / 256) place name) read []

  pub set_are : AreParts parts (set made place new) total room
  set_are = subst (λ (p : List ℕ). AreParts parts (set made place p) total room) (sym written) (put_are parts made total room are at place number part within name there whole)

  pub set_numbers : numbers_of parts made total ≡ numbers → numbers_of parts (set made place new) total ≡ set numbers at number
  set_numbers same =
      ap (λ p. numbers_of parts (set made place p) total) written
      ∙ put_numbers parts made total room are at place number part within name there whole
      ∙ ap (λ ns. set ns at number) same

pub invariant_of-self : goal.invariant_of-self
invariant_of-self c =
    set_are c.place_of_part-place.new.parts.items _ c.self.inside.total _ c.args.at c.place_of_part-place.result c.args.number c.index_mut.result.now _ []
    (c.place_of_part-place.ensures.are _ c.self.invariant) (inside_of _ _ _ c.args.at _ c.self.view_is c.requires)
    (c.place_of_part-place.ensures.named ∙ add-one c.place_of_part-place.result) c.index_mut.ensures.value c.write_in.ensures.whole c.write_in.ensures.written

pub returns : goal.returns
returns c =
    set_numbers c.place_of_part-place.new.parts.items _ c.self.inside.total _ c.args.at c.place_of_part-place.result c.args.number c.index_mut.result.now _ _
    (c.place_of_part-place.ensures.are _ c.self.invariant) (inside_of _ _ _ c.args.at _ c.self.view_is c.requires)
    (c.place_of_part-place.ensures.named ∙ add-one c.place_of_part-place.result) c.index_mut.ensures.value c.write_in.ensures.whole c.write_in.ensures.written
    (numbers_alike _ _ _ _ c.self.inside.total c.place_of_part-place.ensures.same ∙ c.self.view_is)
