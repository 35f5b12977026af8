-- A record that is known to be sound is ready for a step: what its bytes pass gives its layout.
use Prim.Native.Nat.{ℕ}
use mathlib.Core.Path.{◌≡◌}
use mathlib.Core.Bool.{true}
use mathlib.Core.List.{List}
use mir.Val.{Fits}
use mir.Syntax.{w8}
use lib.ListN.{get_or}
use Rattle.spec_rack.specs.Soundness.{sound_bytes}
use Rattle.spec_rack.proofs.SoundRecord.{live_of}
use Rattle.record.proofs.Needs.{in_layout}
use Rattle.record.specs.Needs.{SoundRecord}

pub ready : (s : List ℕ) → sound_bytes s ≡ true → ((k : ℕ) → Fits w8 (get_or s k 0)) → SoundRecord s
ready s sound known = record { sound = sound; whole = in_layout s (live_of s (λ k. (known k).fits) sound) }
