-- One write after another.
use Rattle.std.proofs.Common.{◌≡◌, ℕ, ◌+◌, Option, Some, None, List, [], ◌++◌, length, take, drop, refl, sym, ap, ◌∙◌, arith, append_assoc, length-append}
use Rattle.std.proofs.Math.Seq.{take-add, take-append-add}
use Rattle.std.proofs.lemmas.List.{take-append-le, append-nil}
use Rattle.cxl_io.specs.Sink.{SinkState, Takes, TakesPrefix}
use Rattle.cxl_io.specs.Told.{told_with}

-- nothing more
pub told_with-nil : {A : Type 0} (told : Option (List A)) → told_with told [] ≡ told
told_with-nil None = refl
told_with-nil (Some told) = ap (λ bytes. Some bytes) (append-nil told)

-- two texts, one after the other
pub told_with-told_with : {A : Type 0} (told : Option (List A)) (xs ys : List A) → told_with (told_with told xs) ys ≡ told_with told (xs ++ ys)
told_with-told_with None xs ys = refl
told_with-told_with (Some told) xs ys = ap (λ bytes. Some bytes) (append_assoc told xs ys)

-- the first i bytes, and then n of those that are left
pub told_with-take_drop : (told : Option (List ℕ)) (bytes : List ℕ) (i n : ℕ) → told_with (told_with told (take i bytes)) (take n (drop i bytes)) ≡ told_with told (take (i + n) bytes)
told_with-take_drop told bytes i n =
    told_with-told_with told (take i bytes) (take n (drop i bytes)) ∙ ap (told_with told) (sym (take-add i n bytes))

-- one text, and then another
pub Takes-append : (old mid new : SinkState) (xs ys : List ℕ) → Takes old mid xs → Takes mid new ys → Takes old new (xs ++ ys)
Takes-append old mid new xs ys first second =
    second ∙ ap (λ told. told_with told ys) first ∙ told_with-told_with old.taken xs ys

-- a write that failed in the first of two texts
pub TakesPrefix-first : {old new : SinkState} {xs : List ℕ} (ys : List ℕ) → TakesPrefix old new xs → TakesPrefix old new (xs ++ ys)
TakesPrefix-first {old} {new} {xs} ys some = record {
  count = some.count;
  short = let h = some.short in omega (arith, length-append xs ys);
  taken = some.taken ∙ ap (told_with old.taken) (sym (take-append-le some.count xs ys (let h = some.short in omega arith)));
}

-- a write that failed in the second of two texts
pub TakesPrefix-second : {old mid new : SinkState} {ys : List ℕ} (xs : List ℕ) → Takes old mid xs → TakesPrefix mid new ys → TakesPrefix old new (xs ++ ys)
TakesPrefix-second {old} {mid} {new} {ys} xs before some = record {
  count = length xs + some.count;
  short = let h = some.short in omega (arith, length-append xs ys);
  taken =
      some.taken ∙ ap (λ told. told_with told (take some.count ys)) before ∙ told_with-told_with old.taken xs (take some.count ys)
      ∙ ap (told_with old.taken) (sym (take-append-add xs ys some.count));
}
