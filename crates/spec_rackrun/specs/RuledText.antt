-- Document 01, "Program rackrun": the text of an input by the rules alone, with no buffer; and that the program's text is that one.
use Rattle.std.specs.Prelude.{ℕ, ◌≤◌, ◌≡◌, cond, List, [], ◌++◌, length, get_or, drop, ltb, Ok, Err}
use Rattle.spec_base.specs.Number.{Bytes}
use Rattle.spec_wire.specs.declared.Refusal.TheVariants.{Torn}
use Rattle.spec_rack.specs.Replies.{Reply}
use Rattle.spec_wire.specs.Answers.{Reading}
use Rattle.spec_wire.specs.Reader.{read_record}
use Rattle.spec_wire.specs.Frames.{frames}
use Rattle.spec_rack.specs.Rack.{Rack}
use Rattle.spec_rack.specs.Rules.{Outcome, refused, accepted, rules, opening, rack_after, reply}
use Rattle.spec_rack.specs.RecordLayout.{longest_record}
use Rattle.spec_rack.specs.Opening.{open_reply}
use Rattle.spec_rack.specs.Lists.{replies_of}
use Rattle.spec_rackrun.specs.Rackrun.{line, lines, used_input, text}

-- what was read, given to a rack: what is no step is refused
abbrev pub ruled : Rack → Reading → Outcome
ruled r (Ok t) = rules r t
ruled r (Err n) = refused n

-- the replies to byte strings, one after the other
abbrev pub ruled_replies : Rack → List (List ℕ) → List Reply
ruled_replies r bs = replies_of (λ q b. rack_after q (ruled q (read_record b))) (λ q b. reply (ruled q (read_record b))) r bs

-- the lines of the steps behind an opening
abbrev pub ruled_lines : Outcome → List ℕ → List ℕ
ruled_lines (refused n) list = []
ruled_lines (accepted a r) list = lines 1 (ruled_replies r (frames 65536 list))

-- the opening with N, B and T, the first three bytes
abbrev pub ruled_opening : List ℕ → Outcome
ruled_opening u = cond (ltb (length u) 3) (refused Torn) (opening (get_or u 0 0) (get_or u 1 0) (get_or u 2 0))

unfoldable pub ruled_text : List ℕ → List ℕ
ruled_text input =
    let u = used_input input in
    line 0 (reply (ruled_opening u)) ++ ruled_lines (ruled_opening u) (drop 3 u)

-- In a buffer with room for the longest record an opening is answered by N, B and T alone: done or 19, never 20.
abbrev pub OpeningBySizes : Type 0
OpeningBySizes = (n b t : ℕ) (s : List ℕ) → longest_record ≤ length s → open_reply n b t s ≡ reply (opening n b t)

-- So the text is that of the rules, for every input and whatever the buffer held.
abbrev pub TextByRules : Type 0
TextByRules = (s input : List ℕ) → Bytes s → longest_record ≤ length s → text s input ≡ ruled_text input
