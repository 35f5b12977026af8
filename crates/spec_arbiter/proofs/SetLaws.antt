-- The laws of Boards.antt and Claims.antt beside this file, as they are stated for a reader.
use borrow.Author.Tests.{eqb-false}
use Rattle.spec_arbiter.specs.Boards.{board_room}
use Rattle.spec_arbiter.specs.Claims.{waiting}
use Rattle.spec_arbiter.specs.SetLaws.{SetLaws, ActiveIsLowest}
use Rattle.spec_arbiter.proofs.Boards.{same_members, member_lt, member_empty, insert_same, insert_other, remove_same, remove_other, insert_lt, remove_lt, subset_at, subset_of, boards_lt, boards_at, boards_of, lowest_member, lowest_least, lowest_empty, lowest_lt}
use Rattle.spec_arbiter.proofs.Claims.{claims_facts, active_known}

pub set_laws : SetLaws
set_laws =
    record {
      same = same_members board_room;
      low = member_lt board_room;
      none = member_empty;
      inserted = insert_same;
      insert_other = insert_other;
      removed = remove_same;
      remove_other = remove_other;
      insert_low = insert_lt board_room;
      remove_low = remove_lt board_room;
      subset_at = subset_at;
      subset_of = subset_of;
      boards_at = boards_at;
      boards_of = boards_of;
      lowest_member = lowest_member;
      lowest_least = lowest_least;
      lowest_there = lowest_lt;
      lowest_empty = lowest_empty;
    }

pub active_is_lowest : ActiveIsLowest
active_is_lowest n c ok claimed =
    let s = claims_facts n c ok in
    let there = lowest_lt (waiting c) (boards_lt n (waiting c) s.waiting) (eqb-false _ _ claimed) in
    record {
      waits = lowest_member (waiting c) there;
      board = active_known s claimed;
      least = lowest_least (waiting c);
    }
