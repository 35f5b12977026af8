-- `record_mesh::remove` meets its contract: the messages behind move up, and the count.
use native.Mathlib.Omega.{arith}
use Prim.Native.Nat.{ℕ, ◌+◌, ◌*◌, ◌-◌}
use mathlib.Core.Path.{ap, ◌∙◌}
use mathlib.Core.List.{List}
use lib.ListN.{set}
use borrow.Author.Rules.{rules}
use Rattle.record.proofs.FieldAccess.{well_formed}
use Rattle.record.proofs.FieldOffsets.{removed_put}
use Rattle.spec_rack.specs.RecordLayout.{message_count_offset, message_size, messages_in}
use Rattle.record_mesh.proofs.ByteCopies.{copied, copied_within}
use Rattle.record_mesh.proofs.remove.Goals as goal

pub returns : goal.returns
returns c =
    let moved : ℕ = message_size * (messages_in c.args.rec.now - 1 - c.args.position) in
    ap (λ (t : List ℕ). set t message_count_offset (messages_in c.args.rec.now - 1))
    (c.copy_within.ensures.after
    ∙ copied_within c.args.rec.now _ _ _ moved (omega (arith, c.from-size.ensures))
    ∙ (λ i. copied c.args.rec.now (c.message_offset-at.ensures i + message_size) (c.message_offset-at.ensures i) moved))
    ∙ removed_put c.args.rec.now (well_formed c.args.rec.now (λ k. search rules) c.requires.0) c.args.position c.requires.1
