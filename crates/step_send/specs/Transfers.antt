-- Document 01, "Steps" and "Refusal table", with document 02, No. 2: a send by what it moves: its step, its message, the rack after it, and its lines of
-- the table from "empty" on, by the sender's token state.
use Rattle.std.specs.Prelude.{◌+◌, Bool, not, ◌&&◌, ◌||◌, eqb, ltb}
use Rattle.spec_base.specs.Folds.{toℕ}
use Rattle.spec_wire.specs.declared.Refusal.TheVariants.{Empty, NotHeld, BareOwner, NoData, MeshFull}
use Rattle.spec_wire.specs.Answers.{Check, no_refusal}
use Rattle.spec_wire.specs.Refusals.{when◌refuse◌else◌}
use Rattle.spec_wire.specs.declared.Step.{Step}
use Rattle.spec_wire.specs.declared.Step.TheVariants.{Send}
use Rattle.spec_rack.specs.declared.Message.{Message}
use Rattle.spec_rack.specs.Rack.{Rack, present, may_go_bare, cell_at}
use Rattle.spec_rack.specs.Rules.{message, sent}
use Rattle.record.specs.declared.TokenState.{TokenState}
use Rattle.step_send.specs.declared.Transfer.{Transfer}

abbrev pub send_of : Transfer → Step
send_of t = Send t.component t.block t.target t.plain t.owner t.«data»

abbrev pub message_of : Rack → Transfer → Message
message_of r t = message (cell_at r t.block t.component) t.component t.block t.target t.plain t.owner t.«data»

abbrev pub transferred : Rack → Transfer → Rack
transferred r t = sent r t.component t.block t.target t.plain t.owner t.«data»

abbrev pub token_lines : TokenState → Transfer → Bool → Check
token_lines m t full =
    when eqb (t.plain + toℕ t.owner) 0 refuse Empty else
    when ltb m.plain t.plain || t.owner && not (present m.owner) refuse NotHeld else
    when t.owner && not t.«data» && not (may_go_bare m.owner t.target) refuse BareOwner else
    when t.«data» && not m.valid refuse NoData else
    when full refuse MeshFull else
    no_refusal
