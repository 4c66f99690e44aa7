use Rattle.cxl_shell.proofs.laws.Headline.{behaves}
use Rattle.cxl_shell.proofs.headline.runs_are_flat.Goals as goal

pub returns : goal.returns
returns c = λ form old new before after status run. behaves (record {
  on_lines = c.lines_ask_for_ranged_commands.ensures;
  made = c.made_systems_are_sound.ensures.ranged;
  carries = c.machines_carry_their_regions.ensures;
  each = c.turns_are_flat.ensures.each;
  over = c.turns_are_flat.ensures.host;
  image = c.accepted_images_carry_their_regions.ensures;
}) old new before after status form run
