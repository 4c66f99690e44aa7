use Rattle.std.proofs.Common.{◌≡◌, ℕ, zero, suc, ◌+◌, ◌-◌, ◌<◌, ◌≤◌, List, [], ◌∷◌, get_or, Some, inl, inr, refl, sym, ap, ◌∙◌, subst, arith}
use Rattle.std.specs.Prelude.{Contains}
use Rattle.std.proofs.lemmas.Bool.{cases_Bool}
use Rattle.std.proofs.lemmas.Option.{same_Some}
use Rattle.cxl_machine.specs.Machine.{Live, has_host, free_frames}
use Rattle.cxl_machine.specs.Accesses.{frames_wanted}
use Rattle.cxl_worked.specs.ExampleRegions.{region_of_two}
use Rattle.cxl_flat.specs.Memory.{byte_of, LiesBeside, LieWithin}
use Rattle.cxl_flat.proofs.Accesses.{unmapped_stores, crossing_stores, full_stores}
use Rattle.cxl_flat.proofs.Addresses.{host_bounds}
use Rattle.cxl_move.specs.Bytes.{piece_after}
use Rattle.cxl_worked_machines.specs.Examples.{with_r0, region_r0, nothing, first_byte}
use Rattle.cxl_worked_machines.proofs.ExampleBytes.{one_piece, later, two_free, one_free, wants_one, wants_two_more}
use Rattle.cxl_worked_machines.proofs.ExampleFlat.{eleven_first, as_before, not_zero, first_differs, in_r0, past_r0, is_r0, r0_there, none_there, lies_past}
use Rattle.cxl_worked_machines.proofs.flat_examples.flat_stores_on_examples.Goals as goal

-- no byte but the first is another
others : (h : ℕ) → LiesBeside h 0x100000000 1 → byte_of (with_r0 first_byte) h ≡ byte_of (with_r0 nothing) h
others h beside =
    elim (cases_Bool (has_host region_of_two h)) [
      | inl has ↦ in_r0 first_byte h has ∙ ap Some (as_before (h - 0x100000000) (behind (host_bounds region_of_two h has).0 beside)) ∙ sym (in_r0 nothing h has)
      | inr none ↦ past_r0 first_byte h none ∙ sym (past_r0 nothing h none)
    ]
  where
    behind : 0x100000000 ≤ h → LiesBeside h 0x100000000 1 → 0 < h - 0x100000000
    behind from (inl before) = absurd (omega (arith, from, before))
    behind from (inr past) = omega (arith, past)

pub returns-clause-stored : goal.returns-clause-stored
returns-clause-stored c = record { stored = λ region there lies room. refl; bytes = λ count is. first; others = others }
  where
    first : (k : ℕ) → k < 1 → byte_of (with_r0 first_byte) (0x100000000 + k) ≡ Some (get_or (0x11 ∷ []) k 0)
    first zero below = ap Some eleven_first
    first (suc k) below = absurd (omega (arith, below))

-- two frames are wanted and one is free
lacks : (piece : List ℕ) (region : Live) → Contains (region_r0 (one_piece 0 piece) ∷ []) region → ¬ (frames_wanted region later ≤ free_frames (with_r0 (one_piece 0 piece)))
lacks piece region there room =
    let here : frames_wanted (region_r0 (one_piece 0 piece)) later ≤ free_frames (with_r0 (one_piece 0 piece)) = subst (λ (r : Live). frames_wanted r later ≤ free_frames (with_r0 (one_piece 0 piece))) (sym (is_r0 (one_piece 0 piece) region there)) room in
    omega (arith, here, wants_two_more piece, one_free piece)

pub returns-clause-full : goal.returns-clause-full
returns-clause-full c = record {
  stored = λ region there lies room. absurd (lacks (piece_after nothing 0 (0x11 ∷ []) 0) region there room);
  bytes = λ count is. absurd (full_stores 2 1 count is);
  others = λ h beside. refl;
}

pub returns-clause-crosses_end : goal.returns-clause-crosses_end
returns-clause-crosses_end c = record {
  stored = λ region there lies room. absurd (lies_past nothing region there lies);
  bytes = λ count is. absurd (crossing_stores count is);
  others = λ h beside. refl;
}

pub returns-clause-unmapped : goal.returns-clause-unmapped
returns-clause-unmapped c = record {
  stored = λ region there lies room. absurd (none_there region there);
  bytes = λ count is. absurd (unmapped_stores count is);
  others = λ h beside. refl;
}

pub returns-clause-not_refused : goal.returns-clause-not_refused
returns-clause-not_refused c flat =
    let lies : LieWithin region_of_two 0x100000000 1 = record { from = omega arith; below = omega arith; ends = omega arith } in
    full_stores 1 0 1 (flat.stored (region_r0 nothing) (r0_there nothing) lies (omega (arith, wants_one, two_free)))

pub returns-clause-not_dropped : goal.returns-clause-not_dropped
returns-clause-not_dropped c flat = not_zero (same_Some _ _ (flat.bytes 1 refl 0 (omega arith)))

pub returns-clause-not_beside : goal.returns-clause-not_beside
returns-clause-not_beside c flat = first_differs (sym (same_Some _ _ (flat.others 0x100000000 (inl (omega arith)))))
