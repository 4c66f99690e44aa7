-- A poison list is told in one way, and each one is told.
use Rattle.std.proofs.Common.{◌≡◌, ℕ, List, [], ◌∷◌, refl, sym, ap, ◌∙◌, subst, inl, inr, ◌⊎◌, arith}
use Rattle.std.specs.List.{AllZip}
use Rattle.cxl_window.specs.Fields.{WindowFields}
use Rattle.cxl_model.specs.declared.found.Found.{Found}
use Rattle.cxl_model.specs.declared.poison.Entry.{Entry}
use Rattle.cxl_model.specs.declared.poison.Poisoned.{Poisoned}
use Rattle.cxl_model.specs.declared.poison.PoisonList.{PoisonList}
use Rattle.cxl_poison.specs.declared.fault.PoisonFault.{PoisonFault}
use Rattle.cxl_poison.specs.declared.fault.PoisonFault.TheVariants.{Short, Count, Memory}
use Rattle.cxl_poison.specs.Payload.{IsPoisonPayload, IsPoisonFault, HasList, HasPoisonFault}
use Rattle.cxl_poison.specs.Live.{AreLive}
use Rattle.cxl_poison.specs.Pieces.{ArePoisonedPieces}
use Rattle.cxl_reply.specs.declared.reply.Reply.{Reply}
use Rattle.cxl_reply.specs.declared.reply.Reply.TheVariants as replies
use Rattle.cxl_machine.specs.Machine.{Machine}
use Rattle.cxl_machine.specs.Reports.{live_regions, TouchesLive, poison_reply, TellsPoison, listed, short, few}
use Rattle.cxl_machine.specs.Sound.{IsMachine}
use Rattle.cxl_machine.proofs.LiveRegions.{are_live}

-- ---- lists

-- what each item belongs together with is one list, where it is one item
one_zip : {A B : Type 0} (R : A → B → Type 0) → ((x : A) (y z : B) → R x y → R x z → y ≡ z) → (xs : List A) (ys zs : List B) → AllZip R xs ys → AllZip R xs zs → ys ≡ zs
one_zip R one [] [] [] p q = refl
one_zip R one [] [] (z ∷ zs) p q = absurd q
one_zip R one [] (y ∷ ys) zs p q = absurd p
one_zip R one (x ∷ xs) [] zs p q = absurd p
one_zip R one (x ∷ xs) (y ∷ ys) [] p q = absurd q
one_zip {B = B} R one (x ∷ xs) (y ∷ ys) (z ∷ zs) p q =
    ap (λ (item : B). item ∷ ys) (one x y z p.0 q.0) ∙ ap (λ (items : List B). z ∷ items) (one_zip R one xs ys zs p.1 q.1)

-- and each item belongs together with some other
some_zip : {A B : Type 0} (R : A → B → Type 0) → ((x : A) → (y : B) × R x y) → (xs : List A) → (ys : List B) × AllZip R xs ys
some_zip R some [] = ([], tt)
some_zip R some (x ∷ xs) =
    let first = some x in
    let rest = some_zip R some xs in
    (first.0 ∷ rest.0, (first.1, rest.1))

-- ---- one reply

-- what is known of poison lists and their records
pub record OneTelling : Type 0 where
  pub list : (bytes : List ℕ) (list other : PoisonList) → IsPoisonPayload bytes list → IsPoisonPayload bytes other → list ≡ other
  pub apart : (bytes : List ℕ) (list : PoisonList) (fault : PoisonFault) → IsPoisonPayload bytes list → IsPoisonFault bytes fault → ⊥
  pub entry : (entry : Entry) (endpoint : ℕ) (live : List Found) (windows : List WindowFields) (told other : Poisoned) → AreLive windows live → ArePoisonedPieces entry endpoint live windows told → ArePoisonedPieces entry endpoint live windows other → told ≡ other

pub record SomeTelling : Type 0 where
  pub reading : (bytes : List ℕ) → HasList bytes ⊎ HasPoisonFault bytes
  pub entry : (entry : Entry) (endpoint : ℕ) (live : List Found) (windows : List WindowFields) → AreLive windows live → (told : Poisoned) × ArePoisonedPieces entry endpoint live windows told

module _ (m : Machine) (is : IsMachine m) (endpoint : ℕ) (bytes : List ℕ) where
  counted : ℕ → ℕ → Reply
  counted said room = replies.PoisonCount record { said = said; room = room }

  one_pieces : OneTelling → (entries : List Entry) (pieces others : List Poisoned) → AllZip (TouchesLive m endpoint) entries pieces → AllZip (TouchesLive m endpoint) entries others → pieces ≡ others
  one_pieces laws = one_zip (TouchesLive m endpoint) (λ entry told other. laws.entry entry endpoint (live_regions m) m.settled.windows told other (are_live m is))

  pub one_reply : OneTelling → (reply other : Reply) → TellsPoison m endpoint bytes reply → TellsPoison m endpoint bytes other → reply ≡ other
  unfolding counted
  one_reply laws reply other (listed list pieces reads each at) (listed list' pieces' reads' each' at') =
      let same : list ≡ list' = laws.list bytes list list' reads reads' in
      let moved = subst (λ (l : PoisonList). AllZip (TouchesLive m endpoint) l.records pieces) same each in
      at ∙ ap (λ (l : PoisonList). poison_reply m endpoint l pieces) same ∙ ap (poison_reply m endpoint list') (one_pieces laws list'.records pieces pieces' moved each') ∙ sym at'
  one_reply laws reply other (listed list pieces reads each at) (short fault at') = absurd (laws.apart bytes list Short reads fault)
  one_reply laws reply other (listed list pieces reads each at) (few said fault at') = absurd (laws.apart bytes list (Count said) reads fault)
  one_reply laws reply other (short fault at') (listed list pieces reads each at) = absurd (laws.apart bytes list Short reads fault)
  one_reply laws reply other (short fault at) (short fault' at') = at ∙ sym at'
  one_reply laws reply other (short fault at) (few said fault' at') = absurd (let head = fault'.head in omega (arith, fault, head))
  one_reply laws reply other (few said fault at') (listed list pieces reads each at) = absurd (laws.apart bytes list (Count said) reads fault)
  one_reply laws reply other (few said fault at) (short fault' at') = absurd (let head = fault.head in omega (arith, fault', head))
  one_reply laws reply other (few said fault at) (few said' fault' at') =
      at ∙ ap (λ (n : ℕ). counted n said.room) (fault.counted ∙ sym fault'.counted) ∙ ap (counted said'.said) (fault.roomy ∙ sym fault'.roomy) ∙ sym at'

  -- ---- some reply

  abbrev Told : Type 0
  Told = (reply : Reply) × TellsPoison m endpoint bytes reply

  list_told : SomeTelling → HasList bytes → Told
  list_told laws read =
      let pieces = some_zip (TouchesLive m endpoint) (λ entry. laws.entry entry endpoint (live_regions m) m.settled.windows (are_live m is)) read.0.records in
      (poison_reply m endpoint read.0 pieces.0, listed read.0 pieces.0 read.1 pieces.1 refl)

  fault_told : (fault : PoisonFault) → IsPoisonFault bytes fault → Told
  fault_told Short has = (replies.PoisonShort, short has refl)
  fault_told (Count said) has = (replies.PoisonCount record { said = said.said; room = said.room }, few said has refl)
  fault_told Memory has = absurd has

  pub some_reply : SomeTelling → Told
  some_reply laws = elim (laws.reading bytes) [
    | inl read ↦ list_told laws read
    | inr found ↦ fault_told found.0 found.1
  ]
