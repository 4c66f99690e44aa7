-- Writes one after the other, each of which can be taken back.
use Rattle.std.proofs.Common.{◌≡◌, ℕ, zero, suc, List, [], ◌∷◌, ◌++◌, Some, refl, sym, ap, ◌∙◌, subst, add-one}
use Rattle.std.specs.Prelude.{slice_get}
use Rattle.std.proofs.lemmas.Option.{same_Some, none-some}
use Rattle.cxl_regs.specs.Registers.{Registers}
use Rattle.cxl_regs.specs.Blocks.{blocks_after}
use Rattle.cxl_apply.specs.declared.write.Write.{Write}
use Rattle.cxl_apply.specs.Jobs.{blocks_after_write, blocks_after_writes, blocks_done, AreTakenBack}

-- P holds of the blocks before and after each write, and the back value of each brings back the blocks before it
abbrev pub Walks : (List Registers → Type 0) → List Registers → List Write → Type 0
Walks P blocks [] = P blocks
Walks P blocks (w ∷ ws) = P blocks × (blocks_after (blocks_after_write blocks w) w.node w.off w.back ≡ blocks) × Walks P (blocks_after_write blocks w) ws

-- and the last of them leaves these blocks
pub record Leads (P : List Registers → Type 0) (blocks : List Registers) (writes : List Write) (end : List Registers) : Type 0 where
  pub walks : Walks P blocks writes
  pub ends : blocks_after_writes blocks writes ≡ end

pub leads_none : (P : List Registers → Type 0) (blocks : List Registers) → P blocks → Leads P blocks [] blocks
leads_none P blocks holds = record { walks = holds; ends = refl }

pub leads_more : (P : List Registers → Type 0) (blocks next end : List Registers) (w : Write) (ws : List Write) → P blocks → blocks_after_write blocks w ≡ next
    → blocks_after next w.node w.off w.back ≡ blocks → Leads P next ws end → Leads P blocks (w ∷ ws) end
leads_more P blocks next end w ws holds forth back rest = record {
  walks = (holds, ap (λ (b : List Registers). blocks_after b w.node w.off w.back) forth ∙ back, subst (λ (b : List Registers). Walks P b ws) (sym forth) rest.walks);
  ends = ap (λ (b : List Registers). blocks_after_writes b ws) forth ∙ rest.ends;
}

pub walks_append : (P : List Registers → Type 0) (blocks : List Registers) (ws vs : List Write) → Walks P blocks ws → Walks P (blocks_after_writes blocks ws) vs → Walks P blocks (ws ++ vs)
walks_append P blocks [] vs first rest = rest
walks_append P blocks (w ∷ ws) vs first rest = (first.0, first.1, walks_append P (blocks_after_write blocks w) ws vs first.2 rest)

-- ---- after so many writes

pub holds_at : (P : List Registers → Type 0) (blocks : List Registers) (ws : List Write) (n : ℕ) → Walks P blocks ws → P (blocks_done blocks ws n)
holds_at P blocks [] zero walks = walks
holds_at P blocks [] (suc n) walks = walks
holds_at P blocks (w ∷ ws) zero walks = walks.0
holds_at P blocks (w ∷ ws) (suc n) walks = holds_at P (blocks_after_write blocks w) ws n walks.2

back_at : (P : List Registers → Type 0) (blocks : List Registers) (ws : List Write) (n : ℕ) (write : Write) → Walks P blocks ws → slice_get ws n ≡ Some write
    → blocks_after (blocks_done blocks ws (suc n)) write.node write.off write.back ≡ blocks_done blocks ws n
back_at P blocks [] n write walks at = absurd (none-some write at)
back_at P blocks (w ∷ ws) zero write walks at = subst (λ (x : Write). blocks_after (blocks_after_write blocks w) x.node x.off x.back ≡ blocks) (same_Some w write at) walks.1
back_at P blocks (w ∷ ws) (suc n) write walks at = back_at P (blocks_after_write blocks w) ws n write walks.2 at

pub taken_back : (P : List Registers → Type 0) (blocks : List Registers) (ws : List Write) → Walks P blocks ws → AreTakenBack blocks ws
taken_back P blocks ws walks = record {
  each = λ n write at. subst (λ (m : ℕ). blocks_after (blocks_done blocks ws m) write.node write.off write.back ≡ blocks_done blocks ws n) (sym (add-one n)) (back_at P blocks ws n write walks at);
}
