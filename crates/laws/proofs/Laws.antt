-- The laws of specs/Laws.antt hold.
use Rattle.laws.specs.Laws.{Laws}
use Rattle.laws.proofs.Utf8.{table_says_utf8, one_encoding}
use Rattle.laws.proofs.Segment.{segment_by_characters}
use Rattle.laws.proofs.Decimal.{decimal_reads_back}
use Rattle.laws.proofs.FreshName.{fresh_is_first_free, candidates_differ}
use Rattle.laws.proofs.Order.{byte_order, sorted_ascends, sorted_has_members}
use Rattle.laws.proofs.Growth.{lifts_grow}
use Rattle.laws.proofs.Stopped.{measure_is_size, sum_at_each_lift, code10_is_first_over}
use Rattle.laws.proofs.Results.{written_is_read, read_is_written, expanded_is_book, result_is_book}
use Rattle.laws.proofs.Parameters.{parameters_ascend}
use Rattle.laws.proofs.Collected.{free_is_found, leftover_is_found}

pub laws : Laws
laws = record {
  table_says_utf8 = table_says_utf8;
  one_encoding = one_encoding;
  written_is_read = written_is_read;
  read_is_written = read_is_written;
  expanded_is_book = expanded_is_book;
  result_is_book = result_is_book;
  segment_by_characters = segment_by_characters;
  decimal_reads_back = decimal_reads_back;
  fresh_is_first_free = fresh_is_first_free;
  candidates_differ = candidates_differ;
  byte_order = byte_order;
  sorted_ascends = sorted_ascends;
  sorted_has_members = sorted_has_members;
  parameters_ascend = parameters_ascend;
  free_is_found = free_is_found;
  leftover_is_found = leftover_is_found;
  measure_is_size = measure_is_size;
  sum_at_each_lift = sum_at_each_lift;
  code10_is_first_over = code10_is_first_over;
  lifts_grow = lifts_grow;
}
