use Rattle.std.proofs.Common.{◌≡◌, ℕ, List, Option, None, get_or, length, replicate, sym, ap, ◌∙◌, rules}
use Rattle.std.specs.Prelude.{is_some}
use Rattle.std.proofs.lemmas.Bool.{false≢true}
use Rattle.std.proofs.lemmas.Option.{none-some}
use Rattle.std.proofs.lemmas.List.{length-replicate}
use Rattle.cxl_pick.specs.declared.gifts.Gift.{Gift}
use Rattle.cxl_pick.proofs.Known.{same_at_each}
use Rattle.cxl_pick.proofs.gifts.no_gifts.Goals as goal

pub returns-clause-gifts : goal.returns-clause-gifts
returns-clause-gifts c = λ s want long.
    let known : List (Option Gift) = c.in_ok-known.known.items in
    let items : known ≡ replicate c.args.count None = c.in_ok-known.ensures.items_if_clones_equal (search rules) in
    let nothing : (n : ℕ) → get_or known n None ≡ None = λ n. ap (λ (l : List (Option Gift)). get_or l n None) items ∙ same_at_each None c.args.count n in
    record {
      count = ap (λ (l : List (Option Gift)). length l) items ∙ length-replicate c.args.count None ∙ sym long;
      each = λ n gift w start at asked. absurd (none-some gift (sym (nothing n) ∙ at));
      closed = λ n there port. absurd (false≢true (sym (ap (λ (o : Option Gift). is_some o) (nothing n)) ∙ there));
    }
