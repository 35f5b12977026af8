-- `record_open::write_fresh` meets its contract: at turn b the header and the first b blocks are written.
use Prim.Native.Nat.{◌<◌}
use native.Mathlib.Omega.{arith}
use Rattle.spec_rack.specs.RecordLayout.{block, block_offset, block_size}
use Rattle.spec_rack.specs.Rack.{fresh_block}
use Rattle.spec_rack.proofs.OpeningLaws.{in_range_lem}
use Rattle.record_open.proofs.FreshBytes.{part_written, open_none, open_more, open_all}
use Rattle.record_open.proofs.write_fresh.Goals as goal

-- The bytes stand first, so that a block too few is refused there.
pub returns : goal.returns
returns c =
    let n = c.args.sizes.boards in
    let few : n < 16 = omega (arith, (in_range_lem n c.args.sizes.blocks c.args.sizes.tokens c.args.sizes.in_range).1) in
    open_all n c.args.sizes.blocks c.args.sizes.tokens c.args.rec.now c.write_at.new.s c.write_at.ensures few c.requires c.loop-b.b c.loop-b.rec c.loop-b.invariant (omega (arith, c.from-b-end.ensures, c.loop-b.auto.b-end))

pub loop-b-init : goal.loop-b-init
loop-b-init c = open_none c.args.sizes.boards c.args.sizes.blocks c.args.sizes.tokens _

pub loop-b-preserved : goal.loop-b-preserved
loop-b-preserved c =
    let n = c.args.sizes.boards in
    let few : n < 16 = omega (arith, (in_range_lem n c.args.sizes.blocks c.args.sizes.tokens c.args.sizes.in_range).1) in
    open_more n c.args.sizes.blocks c.args.sizes.tokens c.args.rec.now c.write_at.new.s c.write_at.ensures few c.requires c.loop-b.b c.loop-b.rec c.loop-b.invariant _ (omega (arith, c.from-b-end.ensures))
    (part_written ((block n).write (fresh_block n c.args.sizes.tokens)) (block_offset c.loop-b.b) block_size _ c.loop-b.rec c.open_block.new.bytes (omega arith) c.open_block.ensures)
