-- What a session that is kept stands for.
use Rattle.std.proofs.Common.{◌≡◌, sym, subst, ◌∙◌, List}
use Rattle.cxl_image.specs.Images.{HasCapsOf}
use Rattle.cxl_machine.specs.Machine.{Machine, present}
use Rattle.cxl_machine.specs.Sound.{IsMachine}
use Rattle.cxl_media.specs.MediaState.{MediaState}
use Rattle.cxl_model.specs.System.{IsSystem}
use Rattle.cxl_regs.specs.Registers.{Registers}
use Rattle.cxl_session.specs.State.{SessionState}
use Rattle.cxl_session.specs.Standing.{Stands, IsAt}
use Rattle.cxl_topo.specs.declared.node.Node.{Node}
use Rattle.cxl_held.specs.Trails.{Trailed, trailed_state, emptied}

module _ (session : SessionState) (bus : Trailed) (media : MediaState) where
  -- the trail is not among what it stands for
  pub at_emptied : (m : Machine) → IsAt session (trailed_state bus) media m → IsAt session (trailed_state (emptied bus)) media m
  at_emptied m at = record { stands = at.stands; sound = at.sound }

  pub stands_emptied : Stands session (trailed_state bus) media → Stands session (trailed_state (emptied bus)) media
  stands_emptied kept = (kept.0, at_emptied kept.0 kept.1)

  -- its image is that of the registers
  pub image_is : Stands session (trailed_state bus) media → session.image ≡ bus.blocks
  image_is kept = kept.1.stands.image ∙ sym kept.1.sound.registers

  -- which has the capability words of the nodes
  pub has_caps : ((m : Machine) → IsMachine m → IsSystem (present m)) → Stands session (trailed_state bus) media → HasCapsOf session.image session.topo.nodes
  has_caps system kept =
      let m = kept.0 in
      subst (λ (nodes : List Node). HasCapsOf session.image nodes) kept.1.stands.nodes
      (subst (λ (blocks : List Registers). HasCapsOf blocks m.settled.nodes) (sym kept.1.stands.image) (system m kept.1.sound.machine).caps)
