-- `engine::run::run` meets its contract. The invariant: what is left of the list, given to what there is by now, makes what the whole makes; and soundness is as it was.
use mathlib.Core.Path.{◌≡◌}
use lib.ListN.{get_or}
use Prim.Native.Nat.{ℕ, ◌<◌}
use Rattle.spec_rack.specs.Soundness.{sound_bytes}
use Rattle.engine.proofs.RunLaws.{Going}
use Rattle.engine.proofs.run.run.Given as goal

abbrev pub invariant-loop-reply : goal.invariant-loop-reply
invariant-loop-reply l = record {
  going : Going l.initial.rec l.list l.at l.initial.replies l.rec l.replies l.place l.made;
  counted : l.made ≡ l.reply-index;
  sound : l.sound ≡ sound_bytes l.rec;
  bytes : (i : ℕ) → get_or l.rec i 0 < 256;
}
