-- `record_lanes::sum16` meets its contract: sixteen bytes are added up.
use Rattle.std.proofs.Common.{rules, arith, ◌≡◌, ◌^◌, take, drop}
use Rattle.std.proofs.iter.runs.Made.{chains}
use Rattle.std.proofs.lemmas.Iterator.{YieldsList-from_slice}
use Rattle.std.proofs.lemmas.Iterator.Adapters.{fits_from_length, at_most_from_yields_List}
use Rattle.std.specs.List.{sum_by}
use Rattle.record_lanes.proofs.LanePasses.{lane_sum_is}
use Rattle.record_lanes.proofs.sum16.Goals as goal

-- The sum stands before its bound, so that a sum of fewer bytes is refused there.
pub returns : goal.returns
returns c =
    let sum : c.sum.result ≡ sum_by (λ x. x) (take 16 (drop c.args.at c.args.s.now)) = search (rules, chains) in
    lane_sum_is c.args.s.now c.args.at c.sum.result (λ k. (c.type_inv.s k).fits) c.requires sum

pub sum-requires-clause-fits : goal.sum-requires-clause-fits
sum-requires-clause-fits c =
    fits_from_length _ _ 16 (2 ^ 32) (at_most_from_yields_List (YieldsList-from_slice c.iter.result.rest.now (search rules)) (search rules)) c.map.ensures.closure (omega arith) (λ x r q k. search rules)
