-- Document 01, "The rack" and "Refusal table": an opening with N, B and T in a lent buffer; 19, then 20.
use Rattle.std.specs.Prelude.{ℕ, List, length, ltb, Ok, Err}
use Rattle.spec_wire.specs.declared.Refusal.TheVariants.{ShortBuffer}
use Rattle.spec_rack.specs.Replies.{Reply}
use Rattle.spec_wire.specs.Answers.{Check, no_refusal}
use Rattle.spec_wire.specs.Refusals.{when◌refuse◌else◌}
use Rattle.spec_rack.specs.Rack.{fresh}
use Rattle.spec_rack.specs.Rules.{opening_then, reply_of}
use Rattle.spec_rack.specs.RecordLayout.{record_length, put}

-- in a buffer of l bytes
unfoldable pub open_check : ℕ → ℕ → ℕ → ℕ → Check
open_check n b t l = opening_then n b t (when ltb l (record_length b) refuse ShortBuffer else no_refusal)

-- a refused opening leaves the buffer; an accepted one writes the fresh rack
abbrev pub buffer_opened : Check → ℕ → ℕ → ℕ → List ℕ → List ℕ
buffer_opened (Ok _) n b t s = put (fresh n b t) s
buffer_opened (Err r) n b t s = s

-- the reply, and the buffer afterwards
unfoldable pub open_reply : ℕ → ℕ → ℕ → List ℕ → Reply
open_reply n b t s = reply_of (open_check n b t (length s))

unfoldable pub open_after : ℕ → ℕ → ℕ → List ℕ → List ℕ
open_after n b t s = buffer_opened (open_check n b t (length s)) n b t s
