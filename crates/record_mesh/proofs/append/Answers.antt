-- `record_mesh::append` meets its contract: the message behind the others, and the count.
use lib.ListN.{set}
use mathlib.Core.List.{List}
use Prim.Native.Nat.{ℕ, ◌+◌}
use mathlib.Core.Path.{ap, ◌∙◌}
use borrow.Author.Rules.{rules}
use Rattle.record.proofs.FieldAccess.{well_formed}
use Rattle.record.proofs.FieldOffsets.{append_put}
use Rattle.spec_base.specs.Layout.{modify_at}
use Rattle.spec_rack.specs.RecordLayout.{message_count_offset, message_size, messages_in, message}
use Rattle.record_mesh.proofs.append.Goals as goal

pub returns : goal.returns
returns c = ap (λ (t : List ℕ). set t message_count_offset (messages_in c.args.rec.now + 1))
    (c.put_message.ensures ∙ ap (λ (at : ℕ). modify_at at message_size (message.write c.args.m) c.args.rec.now) c.message_offset-at.ensures)
    ∙ append_put c.args.rec.now (well_formed c.args.rec.now (λ k. search rules) c.requires.0) c.args.m c.requires.1
