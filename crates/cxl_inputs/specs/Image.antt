-- What reading an image from a file comes to.
use Rattle.std.specs.Prelude.{◌≡◌, ℕ, ◌≤◌, Option, None, Some, List, [], ◌∷◌, ◌++◌, length, codes}
use Rattle.cxl_enc.specs.Limits.{file_limit}
use Rattle.cxl_image.specs.File.{IsImageFile, IsFirstImageFault}
use Rattle.cxl_image.specs.declared.fault.ImageFault.{ImageFault}
use Rattle.cxl_image.specs.declared.fault.ImageFault.TheVariants.{Magic, Cut, Nodes, Caps, Trailing, Memory}
use Rattle.cxl_io.specs.Fetch.{FetchState, AsksFor}
use Rattle.cxl_io.specs.Told.{Told, AreTold}
use Rattle.cxl_regs.specs.Registers.{Registers}
use Rattle.cxl_reply.specs.Words.{line}
use Rattle.cxl_topo.specs.declared.node.Node.{Node}
use Rattle.cxl_inputs.specs.Faults.{numbered}
use Rattle.cxl_inputs.specs.File.{HasNoBytes}
use Rattle.cxl_inputs.specs.Outcome.{Outcome, one_piece}
use Rattle.cxl_inputs.specs.declared.status.Status.TheVariants.{BadImage}

-- ---- the text of a fault

-- the word of a fault; want of memory never is one
abbrev pub image_fault_word : ImageFault → List ℕ
image_fault_word Magic = codes "magic"
image_fault_word (Cut bytes) = codes "cut"
image_fault_word (Nodes said) = codes "nodes"
image_fault_word (Caps node) = codes "caps"
image_fault_word (Trailing at) = codes "trailing"
image_fault_word Memory = codes "memory"

-- the number that it tells
abbrev pub image_fault_number : ImageFault → Option ℕ
image_fault_number (Cut bytes) = Some bytes
image_fault_number (Nodes said) = Some said
image_fault_number (Caps node) = Some node
image_fault_number (Trailing at) = Some at
image_fault_number other = None

-- the word for a fault of the image, and its number
abbrev pub image_fault_name : ImageFault → List ℕ
image_fault_name fault = numbered (image_fault_word fault) (image_fault_number fault)

-- the line of a fault of the image
abbrev pub image_fault_text : ImageFault → List ℕ
image_fault_text fault = line (codes "error: image " ++ image_fault_name fault)

-- the outcome where bytes are no image over the topology
abbrev pub bad_image : ImageFault → Outcome
bad_image fault = one_piece (BadImage fault) (image_fault_text fault)

-- ---- the bytes of an image's file, over these nodes

-- they are a file of this image, and are not too many
pub record IsImageReading (bytes : List ℕ) (nodes : List Node) (blocks : List Registers) : Type 0 where
  pub within : length bytes ≤ file_limit
  pub file : IsImageFile bytes nodes blocks

-- this is their first fault, and they are not too many
pub record IsFaultyImage (bytes : List ℕ) (nodes : List Node) (fault : ImageFault) : Type 0 where
  pub within : length bytes ≤ file_limit
  pub first : IsFirstImageFault bytes nodes fault

-- the file's bytes are a file of this image
pub record IsImageOf (told : Told) (nodes : List Node) (blocks : List Registers) : Type 0 where
  pub bytes : List ℕ
  pub told_so : AreTold told bytes
  pub reading : IsImageReading bytes nodes blocks

-- the file's bytes have this first fault
pub record IsFaultyImageFile (told : Told) (nodes : List Node) (fault : ImageFault) : Type 0 where
  pub bytes : List ℕ
  pub told_so : AreTold told bytes
  pub faulty : IsFaultyImage bytes nodes fault

-- ---- a command that reads an image, behind these files

-- the file gives no bytes, or bytes that have a fault
pub data HasNoImage (before : List (List ℕ)) (file : List ℕ) (nodes : List Node) (old new : FetchState) (outcome : Outcome) : Type 0 where
  no_bytes : HasNoBytes before file old new outcome → HasNoImage before file nodes old new outcome
  not_sound : (fault : ImageFault) → IsFaultyImageFile (old.told file) nodes fault → AsksFor old new (before ++ file ∷ []) → outcome ≡ bad_image fault → HasNoImage before file nodes old new outcome
