-- `record_mesh::header_at` meets its contract: the header as its bytes have it.
use Prim.Native.Nat.{ℕ, ◌+◌}
use native.Mathlib.Nat.{add-zero}
use lib.ListN.{get_or}
use lib.Dec.{eqb}
use mathlib.Core.List.{List}
use mathlib.Core.Path.{sym, ap, ◌∙◌}
use Rattle.record.proofs.FieldAccess.{well_formed}
use Rattle.record.proofs.FieldBytes.{message_read}
use Rattle.record.proofs.FieldOffsets.{message_at_lem}
use Rattle.spec_base.specs.Layout.{slice}
use Rattle.spec_rack.specs.declared.Message.{Message}
use Rattle.spec_rack.specs.RecordLayout.{target_offset, message_block_offset, message_plain_offset, data_offset, message_size, message}
use Rattle.record_mesh.proofs.header_at.Goals as goal

pub returns : goal.returns
returns c =
    let rec : List ℕ = c.args.rec.now in
    let at : ℕ = c.message_offset-at.result in
    (λ i. record {
      sender = get_or rec (add-zero at i) 0;
      target = get_or rec (at + target_offset) 0;
      block = get_or rec (at + message_block_offset) 0;
      plain = get_or rec (at + message_plain_offset) 0;
      owner = c.owner_of.ensures i;
      «data» = eqb (get_or rec (at + data_offset) 0) 1;
    })
    ∙ ap (λ (m : Message). m.header)
    (sym (message_read rec at)
    ∙ ap (λ (k : ℕ). message.read (slice k message_size rec)) c.message_offset-at.ensures
    ∙ sym (message_at_lem rec (well_formed rec (λ k. (c.type_inv.rec k).fits) c.requires.0) c.args.position c.requires.1))
