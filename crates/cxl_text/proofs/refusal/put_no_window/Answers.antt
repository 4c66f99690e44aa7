use Rattle.std.proofs.Common.{append_assoc}
use Rattle.cxl_text.proofs.refusal.put_no_window.Goals as goal

pub returns : goal.returns
returns c =
    rw (c.in_ok-put_windows.ensures, c.in_ok-put_whole_text.ensures.ok) (simp (append_assoc))
