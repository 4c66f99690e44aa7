use Rattle.std.proofs.Common.{◌≡◌, ℕ, List, [], ◌++◌, refl, sym, ap, ◌∙◌}
use Rattle.std.proofs.lemmas.Bool.{false≢true}
use Rattle.std.proofs.Math.Nat.{le_refl}
use Rattle.cxl_reply.specs.Replies.{reply_text}
use Rattle.cxl_text.proofs.Codes.{known_code}
use Rattle.cxl_turns.proofs.CarriedOut.{reply_written}
use Rattle.cxl_turns.proofs.replies.write_reply.Goals as goal

-- a text that was put behind nothing
alone : (block kept before text : List ℕ) → block ≡ kept → kept ≡ before ++ text → before ≡ [] → block ≡ text
alone block kept before text all put none = all ∙ put ∙ ap (λ bytes. bytes ++ text) none

pub short-requires : goal.short-requires
short-requires g c = known_code c.args.topo.now.nodes c.args.reply.now c.requires

pub returns-then-has_short_text : goal.returns-then-has_short_text
returns-then-has_short_text g c =
    let nodes = c.args.topo.now.nodes in
    record {
      told = reply_written nodes _ _ c.bytes.result.now c.args.reply.now c.write_text.result (c.bytes.ensures.bytes ∙ c.in-Some.ensures.text nodes) c.write_text.ensures.told;
      counts = c.write_text.ensures.counts;
    }

pub returns-in-Some-fixed_text : goal.returns-in-Some-fixed_text
returns-in-Some-fixed_text g c =
    let nodes = c.args.topo.now.nodes in
    let written = c.write_text-in-Some-fixed_text in
    record {
      told = reply_written nodes _ _ c.in-Some-fixed_text.fixed.now c.args.reply.now written.result (c.in-Some-fixed_text.ensures.text nodes) written.ensures.told;
      counts = written.ensures.counts;
    }

pub put_long-requires : goal.put_long-requires
put_long-requires g c = record { told = c.requires; long = sym c.has_short_text.ensures ∙ c.if-has_short_text.false }

pub returns-in-Ok : goal.returns-in-Ok
returns-in-Ok g c =
    let nodes = c.args.topo.now.nodes in
    let text = reply_text nodes c.args.reply.now in
    let written = c.write_text-in-Ok in
    record {
      told =
          reply_written nodes _ _ c.deref.result.now c.args.reply.now written.result
          (alone c.deref.result.now _ _ text c.deref.ensures.value c.in-Ok.ensures c.clear.ensures.items) written.ensures.told;
      counts = written.ensures.counts;
    }

pub returns-in-Err : goal.returns-in-Err
returns-in-Err g c = record {
  told = record {
    long = sym c.has_short_text.ensures ∙ c.if-has_short_text.false;
    no_fault = λ is. absurd (false≢true (c.in_default.ensures.bus_read is));
    same = refl;
  };
  counts = le_refl (g.K.Sink.state c.args.out.now).faults;
}
