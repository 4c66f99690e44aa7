-- Reading one file behind others.
use Rattle.std.proofs.Common.{◌≡◌, ◌≤◌, ◌⊎◌, ℕ, zero, suc, List, [], ◌∷◌, ◌++◌, take, refl, ap, subst, ◌∙◌, inl, inr, arith}
use Rattle.cxl_io.specs.Fetch.{FetchState, AsksFor, IsTooLarge}
use Rattle.cxl_io.specs.Told.{Told, told_with}
use Rattle.cxl_io.proofs.Writes.{told_with-told_with}
use Rattle.cxl_topo.specs.declared.node.Node.{Node}
use Rattle.cxl_inputs.specs.File.{HasNoBytes, not_read, not_small, AsksForSome, HasNotFailed, RunsOutBehind}
use Rattle.cxl_inputs.specs.Host.{HasNoHost}
use Rattle.cxl_inputs.specs.Host as host
use Rattle.cxl_inputs.specs.Image.{IsFaultyImageFile, HasNoImage}
use Rattle.cxl_inputs.specs.Image as images
use Rattle.cxl_inputs.specs.Outcome.{Outcome}
use Rattle.cxl_inputs.specs.ResetHost.{HasNoResetHost}
use Rattle.cxl_inputs.specs.ResetHost as reset
use Rattle.cxl_inputs.specs.Topology.{IsFaultyTreeFile, HasNoTree}
use Rattle.cxl_inputs.specs.Topology as trees
use Rattle.cxl_inputs.proofs.Stops.{unfailed_twice}

take_none : (count : ℕ) → take {A = List ℕ} count [] ≡ []
take_none zero = refl
take_none (suc k) = refl

-- one file or none
one_or_none : (file : List ℕ) (old new : FetchState) → AsksForSome (file ∷ []) old new → AsksFor old new [] ⊎ AsksFor old new (file ∷ [])
one_or_none file old new some = at some.count some.asks
  where
    at : (count : ℕ) → AsksFor old new (take count (file ∷ [])) → AsksFor old new [] ⊎ AsksFor old new (file ∷ [])
    at zero asks = inl asks
    at (suc k) asks = inr (subst (λ names. AsksFor old new (file ∷ names)) (take_none k) asks)

module _ (old mid new : FetchState) (names : List (List ℕ)) (asks : AsksFor old mid names) (told : mid.told ≡ old.told) (counts : old.faults ≤ mid.faults) where
  pub asks_behind : (more : List (List ℕ)) → AsksFor mid new more → AsksFor old new (names ++ more)
  asks_behind more then = then ∙ ap (λ t. told_with t more) asks ∙ told_with-told_with old.asked names more

  bytes_behind : (file : List ℕ) (outcome : Outcome) → HasNoBytes [] file mid new outcome → HasNoBytes names file old new outcome
  bytes_behind file outcome (not_read rose then e) = not_read (omega (arith, rose, counts)) (asks_behind (file ∷ []) then) e
  bytes_behind file outcome (not_small many then e) =
      not_small (subst (λ (t : List ℕ → Told). IsTooLarge (t file)) told many) (asks_behind (file ∷ []) then) e

  pub tree_behind : (file : List ℕ) (outcome : Outcome) → HasNoTree [] file mid new outcome → HasNoTree names file old new outcome
  tree_behind file outcome (trees.no_bytes none) = trees.no_bytes (bytes_behind file outcome none)
  tree_behind file outcome (trees.not_sound fault is then e) =
      trees.not_sound fault (subst (λ (t : List ℕ → Told). IsFaultyTreeFile (t file) fault) told is) (asks_behind (file ∷ []) then) e

  pub image_behind : (file : List ℕ) (nodes : List Node) (outcome : Outcome) → HasNoImage [] file nodes mid new outcome → HasNoImage names file nodes old new outcome
  image_behind file nodes outcome (images.no_bytes none) = images.no_bytes (bytes_behind file outcome none)
  image_behind file nodes outcome (images.not_sound fault is then e) =
      images.not_sound fault (subst (λ (t : List ℕ → Told). IsFaultyImageFile (t file) nodes fault) told is) (asks_behind (file ∷ []) then) e

-- the first two of three names are asked for, or the first three
module _ (cedt topo image : List ℕ) (old : FetchState) where
  pub first_of_three : (new : FetchState) → RunsOutBehind (cedt ∷ topo ∷ []) old new → RunsOutBehind (cedt ∷ topo ∷ image ∷ []) old new
  first_of_three new out = record { asked = at out.asked.count out.asked.asks; unfailed = out.unfailed }
    where
      at : (count : ℕ) → AsksFor old new (take count (cedt ∷ topo ∷ [])) → AsksForSome (cedt ∷ topo ∷ image ∷ []) old new
      at zero asks = record { count = 0; asks = asks }
      at (suc zero) asks = record { count = 1; asks = asks }
      at (suc (suc k)) asks = record { count = 2; asks = subst (λ names. AsksFor old new (cedt ∷ topo ∷ names)) (take_none k) asks }

  pub host_behind : (new : FetchState) (outcome : Outcome) → HasNoResetHost cedt topo old new outcome → HasNoHost cedt topo image old new outcome
  host_behind new outcome (reset.no_table none) = host.no_table none
  host_behind new outcome (reset.no_tree table is none) = host.no_tree table is none

  pub third_of_three : (mid new : FetchState) → AsksFor old mid (cedt ∷ topo ∷ []) → HasNotFailed old mid → mid.told ≡ old.told → old.faults ≤ mid.faults → RunsOutBehind (image ∷ []) mid new → RunsOutBehind (cedt ∷ topo ∷ image ∷ []) old new
  third_of_three mid new first unfailed told counts out = record {
    asked = at (one_or_none image mid new out.asked);
    unfailed = unfailed_twice old mid new unfailed out.unfailed;
  }
    where
      at : AsksFor mid new [] ⊎ AsksFor mid new (image ∷ []) → AsksForSome (cedt ∷ topo ∷ image ∷ []) old new
      at (inl asks) = record { count = 2; asks = asks_behind old mid new (cedt ∷ topo ∷ []) first told counts [] asks }
      at (inr asks) = record { count = 3; asks = asks_behind old mid new (cedt ∷ topo ∷ []) first told counts (image ∷ []) asks }

-- the first of two names are asked for
module _ (cedt topo : List ℕ) (old : FetchState) where
  pub first_of_two : (new : FetchState) → RunsOutBehind (cedt ∷ []) old new → RunsOutBehind (cedt ∷ topo ∷ []) old new
  first_of_two new out = record { asked = at (one_or_none cedt old new out.asked); unfailed = out.unfailed }
    where
      at : AsksFor old new [] ⊎ AsksFor old new (cedt ∷ []) → AsksForSome (cedt ∷ topo ∷ []) old new
      at (inl asks) = record { count = 0; asks = asks }
      at (inr asks) = record { count = 1; asks = asks }

  pub second_of_two : (mid new : FetchState) → AsksFor old mid (cedt ∷ []) → HasNotFailed old mid → mid.told ≡ old.told → old.faults ≤ mid.faults → RunsOutBehind (topo ∷ []) mid new → RunsOutBehind (cedt ∷ topo ∷ []) old new
  second_of_two mid new first unfailed told counts out = record {
    asked = at (one_or_none topo mid new out.asked);
    unfailed = unfailed_twice old mid new unfailed out.unfailed;
  }
    where
      at : AsksFor mid new [] ⊎ AsksFor mid new (topo ∷ []) → AsksForSome (cedt ∷ topo ∷ []) old new
      at (inl asks) = record { count = 1; asks = asks_behind old mid new (cedt ∷ []) first told counts [] asks }
      at (inr asks) = record { count = 2; asks = asks_behind old mid new (cedt ∷ []) first told counts (topo ∷ []) asks }
