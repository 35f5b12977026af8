-- Document 01, "Refusal table": the two lines that a raise and a lower begin with.
use Rattle.std.specs.Prelude.{ℕ}
use Rattle.spec_wire.specs.declared.Refusal.TheVariants.{OffRack, Home}
use Rattle.spec_wire.specs.Answers.{Check}
use Rattle.spec_wire.specs.Refusals.{when◌refuse◌else◌}
use Rattle.spec_rack.specs.Rack.{Rack, is_home}
use Rattle.spec_rack.specs.Rules.{off_rack}

-- off rack, then home, then the rest of the table
unfoldable pub board_lines : Rack → ℕ → ℕ → Check → Check
board_lines r c b rest =
    when off_rack r c b refuse OffRack else
    when is_home c refuse Home else
    rest
