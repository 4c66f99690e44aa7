-- Lines that go out in blocks.
use Rattle.std.proofs.Common.{◌≡◌, ℕ, ◌+◌, ◌≤◌, List, [], ◌∷◌, ◌++◌, take, drop, refl, sym, ap, subst, ◌∙◌, inl, inr, arith, append_assoc}
use Rattle.std.specs.List.{concat}
use Rattle.std.proofs.lemmas.List.{take-append-drop, append-nil}
use Rattle.cxl_io.specs.Sink.{SinkState, Takes, TakesPrefix}
use Rattle.cxl_io.specs.Blocks.{KeepsOrWrites}

pub concat-append : (xs ys : List (List ℕ)) → concat (xs ++ ys) ≡ concat xs ++ concat ys
concat-append [] ys = refl
concat-append (x ∷ xs) ys = ap (λ t. x ++ t) (concat-append xs ys) ∙ sym (append_assoc x (concat xs) (concat ys))

-- Of the first lines, so many, some are written and the others stand in the block.
pub record IsInBlocks (lines : List (List ℕ)) (count : ℕ) (block : List ℕ) (old now : SinkState) : Type 0 where
  pub written : ℕ
  pub few : written ≤ count
  pub taken : Takes old now (concat (take written lines))
  pub together : concat (take written lines) ++ block ≡ concat (take count lines)

-- one line more
pub blocks-next : (lines : List (List ℕ)) (i : ℕ) (line block block' : List ℕ) (old now : SinkState) → concat (take (i + 1) lines) ≡ concat (take i lines) ++ line → block' ≡ block ++ line → IsInBlocks lines i block old now → IsInBlocks lines (i + 1) block' old now
blocks-next lines i line block block' old now next more so_far = record {
  written = so_far.written;
  few = let h = so_far.few in omega arith;
  taken = so_far.taken;
  together =
      ap (λ b. concat (take so_far.written lines) ++ b) more ∙ sym (append_assoc (concat (take so_far.written lines)) block line)
      ∙ ap (λ t. t ++ line) so_far.together ∙ sym next;
}

-- One write after another leaves what both write.
module _ (both : (old mid new : SinkState) (xs ys : List ℕ) → Takes old mid xs → Takes mid new ys → Takes old new (xs ++ ys)) (first : (old new : SinkState) (xs ys : List ℕ) → TakesPrefix old new xs → TakesPrefix old new (xs ++ ys)) (second : (old mid new : SinkState) (xs ys : List ℕ) → Takes old mid xs → TakesPrefix mid new ys → TakesPrefix old new (xs ++ ys)) where
  -- the block is written
  pub blocks-written : (lines : List (List ℕ)) (i : ℕ) (block : List ℕ) (old now new : SinkState) → IsInBlocks lines i block old now → Takes now new block → Takes old new (concat (take i lines))
  blocks-written lines i block old now new so_far takes =
      subst (Takes old new) so_far.together (both old now new (concat (take so_far.written lines)) block so_far.taken takes)

  -- the block is kept or written
  pub blocks-flushed : {from : ℕ} (lines : List (List ℕ)) (i : ℕ) (block block' : List ℕ) (old now new : SinkState) → IsInBlocks lines i block old now → KeepsOrWrites from now new block block' → IsInBlocks lines i block' old new
  blocks-flushed lines i block block' old now new so_far (inl kept) = record {
    written = so_far.written;
    few = so_far.few;
    taken = subst (λ s. Takes old s (concat (take so_far.written lines))) (sym kept.2) so_far.taken;
    together = ap (λ b. concat (take so_far.written lines) ++ b) kept.1 ∙ so_far.together;
  }
  blocks-flushed lines i block block' old now new so_far (inr written) = record {
    written = i;
    few = omega arith;
    taken = blocks-written lines i block old now new so_far written.2;
    together = ap (λ b. concat (take i lines) ++ b) written.1 ∙ append-nil (concat (take i lines));
  }

  -- writing the block fails
  pub blocks-cut : (lines : List (List ℕ)) (i : ℕ) (block : List ℕ) (old now new : SinkState) → IsInBlocks lines i block old now → TakesPrefix now new block → TakesPrefix old new (concat lines)
  blocks-cut lines i block old now new so_far some =
      let front : TakesPrefix old new (concat (take i lines)) = subst (TakesPrefix old new) so_far.together (second old now new (concat (take so_far.written lines)) block so_far.taken some) in
      subst (TakesPrefix old new) (sym (concat-append (take i lines) (drop i lines)) ∙ ap concat (take-append-drop i lines)) (first old new (concat (take i lines)) (concat (drop i lines)) front)
