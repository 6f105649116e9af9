-- The laws of specs/Laws hold.
-- Assumes nothing.
use Rattle.nested.specs.Laws.{Laws}
use Rattle.nested.proofs.Passes.{passes_until_settled, only_six_and_twelve}
use Rattle.nested.proofs.Reach.{settled_exactly}
use Rattle.nested.proofs.Stays.{settled_stays, settled_is_plain}
use Rattle.nested.proofs.Results.{expanded_is_book, result_is_book, accepted_is_delivered}

pub laws : Laws
laws = record {
  passes_until_settled = passes_until_settled;
  only_six_and_twelve = only_six_and_twelve;
  settled_exactly = settled_exactly;
  settled_stays = settled_stays;
  settled_is_plain = settled_is_plain;
  expanded_is_book = expanded_is_book;
  result_is_book = result_is_book;
  accepted_is_delivered = accepted_is_delivered;
}
