-- `record_mesh::put_message` meets its contract: its header byte by byte, then its words.
use lib.ListN.{set, length-set}
use mathlib.Core.List.{List}
use native.Mathlib.Omega.{arith}
use Rattle.spec_rack.specs.RecordLayout.{words, message_plain_offset, message_zero_offset, message_words_offset, words_size}
use Rattle.spec_base.specs.Layout.{modify_at}
use Prim.Native.Nat.{ℕ, ◌+◌}
use mathlib.Core.Path.{ap, ◌∙◌}
use Rattle.record.proofs.FieldWrites.{tokens_write, message_write}
use Rattle.record_mesh.proofs.put_message.Goals as goal

pub returns : goal.returns
returns c = c.put_words.ensures
    ∙ ap (λ (t : List ℕ). modify_at (c.args.at + message_words_offset) words_size (words.write c.args.m.words) (set t (c.args.at + message_zero_offset) 0))
    (c.put_tokens.ensures ∙ tokens_write (c.args.at + message_plain_offset) c.args.m.header.plain c.args.m.header.owner c.args.m.header.«data» _ (simp length-set (omega arith)))
    ∙ message_write c.args.at c.args.m c.args.s.now c.requires
