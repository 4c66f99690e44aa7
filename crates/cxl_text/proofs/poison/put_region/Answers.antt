use Rattle.std.proofs.Common.{length, refl, append_assoc}
use Rattle.std.proofs.lemmas.Option.{slice_get_read}
use Rattle.cxl_text.proofs.poison.put_region.Goals as goal

pub returns : goal.returns
returns c =
    let name = slice_get_read c.args.names.now (length c.args.names.now) c.args.region c.index-names-region.result refl c.requires.region c.index-names-region.is in
    rw (c.put.ensures.text, c.put_name.ensures.text, name) (simp append_assoc)
