-- Document 01, "Steps" and "Refusal table": the bytes of a step, given to the record in a lent buffer: the reply, and the buffer afterwards.
use Rattle.std.specs.Prelude.{List, ℕ, cond, Ok, Err}
use Rattle.spec_wire.specs.declared.Step.{Step}
use Rattle.spec_rack.specs.Replies.{Reply}
use Rattle.spec_wire.specs.Answers.{Reading}
use Rattle.spec_rack.specs.Rack.{Rack}
use Rattle.spec_rack.specs.Rules.{Outcome, refused, accepted, rules, reply}
use Rattle.spec_rack.specs.RecordLayout.{get, put}
use Rattle.spec_wire.specs.declared.Refusal.TheVariants.{Unsound}
use Rattle.spec_wire.specs.Reader.{read_record}
use Rattle.spec_rack.specs.Soundness.{sound_bytes}

-- a refusal leaves the buffer, an accepted step writes the rack that it leaves
abbrev pub buffer_after_outcome : List ℕ → Outcome → List ℕ
buffer_after_outcome s (refused n) = s
buffer_after_outcome s (accepted a r) = put r s

-- the reply to a step on a sound record, and the bytes that it leaves
abbrev pub reply_to_step : List ℕ → Step → Reply
reply_to_step s t = reply (rules (get s) t)

abbrev pub buffer_after : List ℕ → Step → List ℕ
buffer_after s t = buffer_after_outcome s (rules (get s) t)

-- bytes that are no step record are refused, then a buffer that holds no sound record; then it is decided by the rack
abbrev pub outcome_by : (Rack → Step → Outcome) → Reading → List ℕ → Outcome
outcome_by decide (Err n) s = refused n
outcome_by decide (Ok t) s = cond (sound_bytes s) (decide (get s) t) (refused Unsound)

-- namely by the rules
abbrev pub outcome : Reading → List ℕ → Outcome
outcome k s = outcome_by rules k s

-- the reply, and the buffer afterwards
unfoldable pub step_reply : List ℕ → List ℕ → Reply
step_reply s bytes = reply (outcome (read_record bytes) s)

unfoldable pub step_after : List ℕ → List ℕ → List ℕ
step_after s bytes = buffer_after_outcome s (outcome (read_record bytes) s)
