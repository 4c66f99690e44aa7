use Rattle.std.proofs.Common.{◌≤◌, List, ℕ, length, Result, Ok, Err, IfOk, sym, subst}
use Rattle.cxl_image.specs.Fields.{image_limit}
use Rattle.cxl_image.specs.File.{IsImageFile}
use Rattle.cxl_image.proofs.Readings.{one_image}
use Rattle.cxl_image.proofs.Texts.{image_is_file, image_short}
use Rattle.cxl_image.proofs.writing.write_image.Goals as goal

-- what follows from what is known of an answer
ok_then : {X Y : Type 0} (r : Result X Y) {P Q : X → Type 0} → IfOk r P → ((x : X) → P x → Q x) → IfOk r Q
ok_then (Ok x) known next = next x known
ok_then (Err e) known next = tt

pub returns-clause-fits : goal.returns-clause-fits
returns-clause-fits c = ok_then c.text_of.result c.text_of.ensures.text (λ bytes is. subst (λ (t : List ℕ). length t ≤ image_limit) (sym is) (image_short c.args.image.now c.text_of.ensures.image))

pub returns-clause-file : goal.returns-clause-file
returns-clause-file c = ok_then c.text_of.result c.text_of.ensures.text (λ bytes is nodes caps.
    subst (λ (t : List ℕ). IsImageFile t nodes c.args.image.now) (sym is) (image_is_file c.words_stand_for_decoder.ensures c.args.image.now nodes c.text_of.ensures.image caps))

pub returns-clause-only : goal.returns-clause-only
returns-clause-only c = ok_then c.text_of.result c.text_of.ensures.text (λ bytes is nodes other caps file.
    one_image bytes.items nodes other c.args.image.now file (subst (λ (t : List ℕ). IsImageFile t nodes c.args.image.now) (sym is) (image_is_file c.words_stand_for_decoder.ensures c.args.image.now nodes c.text_of.ensures.image caps)))
