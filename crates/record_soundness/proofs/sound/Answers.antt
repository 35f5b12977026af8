-- `record_soundness::sound` meets its contract: each test that fails makes the record unsound, and past the others the blocks decide.
use native.Mathlib.Omega.{arith}
use mathlib.Core.Path.{sym, ◌∙◌}
use Rattle.spec_rack.specs.RecordLayout.{messages_in}
use Rattle.record_soundness.proofs.SoundnessDecision.{flying_most, unsound_header, unsound_mesh, sound_blocks}
use Rattle.record_soundness.proofs.sound.Goals as goal

pub returns-in_default : goal.returns-in_default
returns-in_default c = sym (unsound_header c.args.rec.now (λ k. (c.type_inv.rec k).fits) (sym c.in_default.ensures.header))

pub blocks_sound-requires : goal.blocks_sound-requires
blocks_sound-requires c =
    let read = c.in-Some.ensures in
    λ k l. omega (arith, rw (read.bytes, read.messages) at (c.mesh_sound.ensures.sums c.if-mesh_sound.true k l), flying_most c.args.rec.now (λ k. (c.type_inv.rec k).fits) (messages_in c.args.rec.now) k, c.in-Some.candidate.few_messages)

pub returns-then-mesh_sound : goal.returns-then-mesh_sound
returns-then-mesh_sound c =
    let read = c.in-Some.ensures in
    rw (read.bytes, read.sizes.0, read.sizes.1, read.sizes.2) at c.blocks_sound.ensures
    ∙ sound_blocks c.args.rec.now (λ k. (c.type_inv.rec k).fits) (sym c.in-Some.ensures.header)
    (sym (rw (read.bytes, read.sizes.0, read.sizes.1, read.messages) at c.mesh_sound.ensures.messages) ∙ c.if-mesh_sound.true) c.mesh_sound.new.sums
    (λ k l. rw (read.bytes, read.messages) at (c.mesh_sound.ensures.sums c.if-mesh_sound.true k l))

pub returns-else-mesh_sound : goal.returns-else-mesh_sound
returns-else-mesh_sound c =
    let read = c.in-Some.ensures in
    c.if-mesh_sound.false
    ∙ sym (unsound_mesh c.args.rec.now (λ k. (c.type_inv.rec k).fits) (sym (rw (read.bytes, read.sizes.0, read.sizes.1, read.messages) at c.mesh_sound.ensures.messages) ∙ c.if-mesh_sound.false))
