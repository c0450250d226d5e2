-- A refusal leaves all that was lent: for every call of the C library, where the number returned is not 0, every word and octet that the call may
-- change is at exit what it was at entry ("State, output buffers and input stay as they were."). What is lent to be read alone cannot change.
-- `dz_write_suffix`, `dz_trace_finish`, `dz_trace_walk`, `dz_capture_begin` and `dz_version` refuse nothing.
use Prim.Native.Nat.{ℕ}
use mathlib.Core.Bool.{not}
use mathlib.Core.List.{List}
use lib.Dec.{eqb}
use lib.ListN.{length}
use contract.Lifetimes.{Lfts}
use borrow.Fn.Kinds.{Dens, res_t, ended_of}
use denote.Triple.Clauses.{AtExit}
use Rattle.message.specs.Reading.{read_of}
use Rattle.contents.specs.Parts.{tail_in, data_in, lookup_of, suffix_of, link_of}
use Rattle.contents.specs.Tlvs.{next_in}
use Rattle.origin.specs.Origin.{origin_check, origin_in}
use Rattle.ports.specs.Asking.{candidate_on, best_on, status_of, looked_at}
use Rattle.ports.specs.Intake.{plan_at}
use Rattle.link.specs.declared.Event.TheVariants as event
use Rattle.links.specs.Words.{take_answer, look_answer}
use Rattle.recording.specs.Recording.{entry_of, lent_by, closes, record_check, recorded_of, open_with, words_with, out_with}
use Rattle.playback.specs.Playback.{reader_of, accepts, is_trace, replay_of}
use Rattle.trace_words.specs.Answers.{recorded_code}
use Rattle.exporting.specs.Exporting.{export_of, export_block_of}
use Rattle.importing.specs.Importing.{is_ptp, entry_by, frame_recorded, import_of}
use Rattle.pcap.specs.File.{Frame}
use Rattle.capture_words.specs.Captures.{tells_form, is_sound}
use Rattle.words.specs.Words.{port_of}
use Rattle.exchange_words.specs.Exchanges.{measured_of}
use Rattle.dzervolat.specs.Settings.{settings, link_settings}
use Rattle.dzervolat.specs.Ranking.{ranked_run, merged_lists, decided_by, elected_by, parent_in}
use Rattle.dzervolat.specs.Writing.{words_written, link_written}
use Rattle.dzervolat.proofs.Left.{Left, left_by, asked_left, block_left, burst_left, carried_left, compared_left, decided_left, decisions_left, filled_left, frame_left, head_left, interval_left, leader_left, lent_left, looked_left, measured_left, origin_left, ranking_left, read_left, recorded_left, replayed_left, setting_left, signaling_left, status_left, step_left, suffix_left, tail_left, take_left, taken_left, tlv_left, trace_left, walked_left, words_left, written_left}
use Rattle.dzervolat.proofs.records.dz_take.Reads as dz_take
use Rattle.dzervolat.proofs.records.dz_take.Kinds as dz_take_kinds
use Rattle.dzervolat.proofs.records.dz_take_burst.Reads as dz_take_burst
use Rattle.dzervolat.proofs.records.dz_take_burst.Kinds as dz_take_burst_kinds
use Rattle.dzervolat.proofs.records.dz_candidate.Reads as dz_candidate
use Rattle.dzervolat.proofs.records.dz_candidate.Kinds as dz_candidate_kinds
use Rattle.dzervolat.proofs.records.dz_best.Reads as dz_best
use Rattle.dzervolat.proofs.records.dz_best.Kinds as dz_best_kinds
use Rattle.dzervolat.proofs.records.dz_status.Reads as dz_status
use Rattle.dzervolat.proofs.records.dz_status.Kinds as dz_status_kinds
use Rattle.dzervolat.proofs.records.dz_record.Reads as dz_record
use Rattle.dzervolat.proofs.records.dz_record.Kinds as dz_record_kinds
use Rattle.dzervolat.proofs.records.dz_set_interval.Reads as dz_set_interval
use Rattle.dzervolat.proofs.records.dz_set_interval.Kinds as dz_set_interval_kinds
use Rattle.dzervolat.proofs.ranking.dz_rank.Reads as dz_rank
use Rattle.dzervolat.proofs.ranking.dz_rank.Kinds as dz_rank_kinds
use Rattle.dzervolat.proofs.ranking.dz_merge.Reads as dz_merge
use Rattle.dzervolat.proofs.ranking.dz_merge.Kinds as dz_merge_kinds
use Rattle.dzervolat.proofs.ranking.dz_decide.Reads as dz_decide
use Rattle.dzervolat.proofs.ranking.dz_decide.Kinds as dz_decide_kinds
use Rattle.dzervolat.proofs.ranking.dz_decide_all.Reads as dz_decide_all
use Rattle.dzervolat.proofs.ranking.dz_decide_all.Kinds as dz_decide_all_kinds
use Rattle.dzervolat.proofs.ranking.dz_parent.Reads as dz_parent
use Rattle.dzervolat.proofs.ranking.dz_parent.Kinds as dz_parent_kinds
use Rattle.dzervolat.proofs.ranking.dz_compare.Reads as dz_compare
use Rattle.dzervolat.proofs.ranking.dz_compare.Kinds as dz_compare_kinds
use Rattle.dzervolat.proofs.reading.dz_read.Reads as dz_read
use Rattle.dzervolat.proofs.reading.dz_read.Kinds as dz_read_kinds
use Rattle.dzervolat.proofs.reading.dz_lookup.Reads as dz_lookup
use Rattle.dzervolat.proofs.reading.dz_lookup.Kinds as dz_lookup_kinds
use Rattle.dzervolat.proofs.reading.dz_walk.Reads as dz_walk
use Rattle.dzervolat.proofs.reading.dz_walk.Kinds as dz_walk_kinds
use Rattle.dzervolat.proofs.reading.dz_suffix.Reads as dz_suffix
use Rattle.dzervolat.proofs.reading.dz_suffix.Kinds as dz_suffix_kinds
use Rattle.dzervolat.proofs.reading.dz_link_message.Reads as dz_link_message
use Rattle.dzervolat.proofs.reading.dz_link_message.Kinds as dz_link_message_kinds
use Rattle.dzervolat.proofs.reading.dz_origin.Reads as dz_origin
use Rattle.dzervolat.proofs.reading.dz_origin.Kinds as dz_origin_kinds
use Rattle.dzervolat.proofs.steps.dz_link_set.Reads as dz_link_set
use Rattle.dzervolat.proofs.steps.dz_link_set.Kinds as dz_link_set_kinds
use Rattle.dzervolat.proofs.steps.dz_link_start.Reads as dz_link_start
use Rattle.dzervolat.proofs.steps.dz_link_start.Kinds as dz_link_start_kinds
use Rattle.dzervolat.proofs.steps.dz_link_take.Reads as dz_link_take
use Rattle.dzervolat.proofs.steps.dz_link_take.Kinds as dz_link_take_kinds
use Rattle.dzervolat.proofs.steps.dz_link_done.Reads as dz_link_done
use Rattle.dzervolat.proofs.steps.dz_link_done.Kinds as dz_link_done_kinds
use Rattle.dzervolat.proofs.steps.dz_link_timeout.Reads as dz_link_timeout
use Rattle.dzervolat.proofs.steps.dz_link_timeout.Kinds as dz_link_timeout_kinds
use Rattle.dzervolat.proofs.steps.dz_link_stop.Reads as dz_link_stop
use Rattle.dzervolat.proofs.steps.dz_link_stop.Kinds as dz_link_stop_kinds
use Rattle.dzervolat.proofs.steps.dz_link_status.Reads as dz_link_status
use Rattle.dzervolat.proofs.steps.dz_link_status.Kinds as dz_link_status_kinds
use Rattle.dzervolat.proofs.measuring.dz_measure.Reads as dz_measure
use Rattle.dzervolat.proofs.measuring.dz_measure.Kinds as dz_measure_kinds
use Rattle.dzervolat.proofs.writing.dz_write.Reads as dz_write
use Rattle.dzervolat.proofs.writing.dz_write.Kinds as dz_write_kinds
use Rattle.dzervolat.proofs.writing.dz_write_link.Reads as dz_write_link
use Rattle.dzervolat.proofs.writing.dz_write_link.Kinds as dz_write_link_kinds
use Rattle.dzervolat.proofs.tracing.dz_trace_record.Reads as dz_trace_record
use Rattle.dzervolat.proofs.tracing.dz_trace_record.Kinds as dz_trace_record_kinds
use Rattle.dzervolat.proofs.tracing.dz_replay_block.Reads as dz_replay_block
use Rattle.dzervolat.proofs.tracing.dz_replay_block.Kinds as dz_replay_block_kinds
use Rattle.dzervolat.proofs.tracing.dz_replay.Reads as dz_replay
use Rattle.dzervolat.proofs.tracing.dz_replay.Kinds as dz_replay_kinds
use Rattle.dzervolat.proofs.capturing.dz_import.Reads as dz_import
use Rattle.dzervolat.proofs.capturing.dz_import.Kinds as dz_import_kinds
use Rattle.dzervolat.proofs.capturing.dz_export.Reads as dz_export
use Rattle.dzervolat.proofs.capturing.dz_export.Kinds as dz_export_kinds
use Rattle.dzervolat.proofs.capturing.dz_capture_head.Reads as dz_capture_head
use Rattle.dzervolat.proofs.capturing.dz_capture_head.Kinds as dz_capture_head_kinds
use Rattle.dzervolat.proofs.capturing.dz_capture_packet.Reads as dz_capture_packet
use Rattle.dzervolat.proofs.capturing.dz_capture_packet.Kinds as dz_capture_packet_kinds
use Rattle.dzervolat.proofs.capturing.dz_capture_record.Reads as dz_capture_record
use Rattle.dzervolat.proofs.capturing.dz_capture_record.Kinds as dz_capture_record_kinds
use Rattle.dzervolat.proofs.capturing.dz_capture_block.Reads as dz_capture_block
use Rattle.dzervolat.proofs.capturing.dz_capture_block.Kinds as dz_capture_block_kinds

module _ (κs : Lfts 2) (a : Dens κs dz_take_kinds.ps) (x : (res_t dz_take_kinds.r κs).Denot) (e : AtExit (ended_of 2 dz_take_kinds.ps dz_take_kinds.r) κs) where
  pub dz_take_left : dz_take.Post κs a x e → Left x a.0.now e.0.now
  dz_take_left p = left_by p.0 p.1 (take_left a.0.now (port_of a.1.0) a.1.1.0 (plan_at (settings a.1.1.1.1.0 a.1.1.1.1.1.0 a.1.1.1.1.1.1.0) a.0.now (port_of a.1.0) a.1.1.0 a.1.1.1.0.now))

module _ (κs : Lfts 3) (a : Dens κs dz_take_burst_kinds.ps) (x : (res_t dz_take_burst_kinds.r κs).Denot) (e : AtExit (ended_of 3 dz_take_burst_kinds.ps dz_take_burst_kinds.r) κs) where
  pub dz_take_burst_left : dz_take_burst.Post κs a x e → (Left x a.0.now e.0.now) × (Left x a.1.1.0.now e.1.1.0.now)
  dz_take_burst_left p =
      let l = burst_left (settings a.1.1.1.0 a.1.1.1.1.0 a.1.1.1.1.1.0) a.1.0.now a.0.now a.1.1.0.now in
      (left_by p.0 p.1.0 l.0, left_by p.0 p.1.1 l.1)

module _ (κs : Lfts 2) (a : Dens κs dz_candidate_kinds.ps) (x : (res_t dz_candidate_kinds.r κs).Denot) (e : AtExit (ended_of 2 dz_candidate_kinds.ps dz_candidate_kinds.r) κs) where
  pub dz_candidate_left : dz_candidate.Post κs a x e → Left x a.1.1.1.1.0.now e.1.1.1.1.0.now
  dz_candidate_left p = left_by p.0 p.1 (asked_left (candidate_on a.0.now (port_of a.1.0) a.1.1.0 a.1.1.1.0) a.1.1.1.1.0.now)

module _ (κs : Lfts 2) (a : Dens κs dz_best_kinds.ps) (x : (res_t dz_best_kinds.r κs).Denot) (e : AtExit (ended_of 2 dz_best_kinds.ps dz_best_kinds.r) κs) where
  pub dz_best_left : dz_best.Post κs a x e → Left x a.1.1.1.0.now e.1.1.1.0.now
  dz_best_left p = left_by p.0 p.1 (asked_left (best_on a.0.now (port_of a.1.0) a.1.1.0) a.1.1.1.0.now)

module _ (κs : Lfts 2) (a : Dens κs dz_status_kinds.ps) (x : (res_t dz_status_kinds.r κs).Denot) (e : AtExit (ended_of 2 dz_status_kinds.ps dz_status_kinds.r) κs) where
  pub dz_status_left : dz_status.Post κs a x e → Left x a.1.1.0.now e.1.1.0.now
  dz_status_left p = left_by p.0 p.1 (status_left (status_of a.0.now (port_of a.1.0)) a.1.1.0.now)

module _ (κs : Lfts 2) (a : Dens κs dz_record_kinds.ps) (x : (res_t dz_record_kinds.r κs).Denot) (e : AtExit (ended_of 2 dz_record_kinds.ps dz_record_kinds.r) κs) where
  pub dz_record_left : dz_record.Post κs a x e → Left x a.1.1.1.0.now e.1.1.1.0.now
  dz_record_left p = left_by p.0 p.1 (looked_left (looked_at a.0.now (port_of a.1.0) a.1.1.0) a.1.1.1.0.now)

module _ (κs : Lfts 1) (a : Dens κs dz_set_interval_kinds.ps) (x : (res_t dz_set_interval_kinds.r κs).Denot) (e : AtExit (ended_of 1 dz_set_interval_kinds.ps dz_set_interval_kinds.r) κs) where
  pub dz_set_interval_left : dz_set_interval.Post κs a x e → Left x a.0.now e.0.now
  dz_set_interval_left p = left_by p.0 p.1 (interval_left a.0.now (port_of a.1.0) a.1.1.0)

module _ (κs : Lfts 2) (a : Dens κs dz_rank_kinds.ps) (x : (res_t dz_rank_kinds.r κs).Denot) (e : AtExit (ended_of 2 dz_rank_kinds.ps dz_rank_kinds.r) κs) where
  pub dz_rank_left : dz_rank.Post κs a x e → Left x a.1.0.now e.1.0.now
  dz_rank_left p = left_by p.0 p.1 (ranking_left (ranked_run a.0.now) a.1.0.now)

module _ (κs : Lfts 3) (a : Dens κs dz_merge_kinds.ps) (x : (res_t dz_merge_kinds.r κs).Denot) (e : AtExit (ended_of 3 dz_merge_kinds.ps dz_merge_kinds.r) κs) where
  pub dz_merge_left : dz_merge.Post κs a x e → Left x a.1.1.0.now e.1.1.0.now
  dz_merge_left p = left_by p.0 p.1 (ranking_left (merged_lists a.0.now a.1.0.now) a.1.1.0.now)

module _ (κs : Lfts 4) (a : Dens κs dz_decide_kinds.ps) (x : (res_t dz_decide_kinds.r κs).Denot) (e : AtExit (ended_of 4 dz_decide_kinds.ps dz_decide_kinds.r) κs) where
  pub dz_decide_left : dz_decide.Post κs a x e → Left x a.1.1.1.1.0.now e.1.1.1.1.0.now
  dz_decide_left p = left_by p.0 p.1 (decided_left (decided_by a.0.now a.1.0.now a.1.1.0 a.1.1.1.0.now) a.1.1.1.1.0.now)

module _ (κs : Lfts 4) (a : Dens κs dz_decide_all_kinds.ps) (x : (res_t dz_decide_all_kinds.r κs).Denot) (e : AtExit (ended_of 4 dz_decide_all_kinds.ps dz_decide_all_kinds.r) κs) where
  pub dz_decide_all_left : dz_decide_all.Post κs a x e → (Left x a.1.1.1.0.now e.1.1.1.0.now) × (Left x a.1.1.1.1.0.now e.1.1.1.1.0.now)
  dz_decide_all_left p = (left_by p.0 p.1.0 (decisions_left a.1.1.0.now a.0.now a.1.0 a.1.1.1.0.now), left_by p.0 p.1.1 (ranking_left (elected_by a.1.1.0.now a.0.now a.1.0) a.1.1.1.1.0.now))

module _ (κs : Lfts 3) (a : Dens κs dz_parent_kinds.ps) (x : (res_t dz_parent_kinds.r κs).Denot) (e : AtExit (ended_of 3 dz_parent_kinds.ps dz_parent_kinds.r) κs) where
  pub dz_parent_left : dz_parent.Post κs a x e → Left x a.1.1.0.now e.1.1.0.now
  dz_parent_left p = left_by p.0 p.1 (leader_left (parent_in a.0.now a.1.0.now) a.1.1.0.now)

module _ (κs : Lfts 3) (a : Dens κs dz_compare_kinds.ps) (x : (res_t dz_compare_kinds.r κs).Denot) (e : AtExit (ended_of 3 dz_compare_kinds.ps dz_compare_kinds.r) κs) where
  pub dz_compare_left : dz_compare.Post κs a x e → Left x a.1.1.0.now e.1.1.0.now
  dz_compare_left p = left_by p.0 p.1 (compared_left a.0.now a.1.0.now a.1.1.0.now)

module _ (κs : Lfts 3) (a : Dens κs dz_read_kinds.ps) (x : (res_t dz_read_kinds.r κs).Denot) (e : AtExit (ended_of 3 dz_read_kinds.ps dz_read_kinds.r) κs) where
  pub dz_read_left : dz_read.Post κs a x e → (Left x a.1.1.0.now e.1.1.0.now) × (Left x a.1.1.1.0.now e.1.1.1.0.now)
  dz_read_left p = (left_by p.0 p.1.0 (read_left (read_of a.1.0 a.0.now) a.1.1.0.now), left_by p.0 p.1.1 (tail_left (read_of a.1.0 a.0.now) (length (tail_in a.1.0 a.0.now)) a.1.1.1.0.now))

module _ (κs : Lfts 2) (a : Dens κs dz_lookup_kinds.ps) (x : (res_t dz_lookup_kinds.r κs).Denot) (e : AtExit (ended_of 2 dz_lookup_kinds.ps dz_lookup_kinds.r) κs) where
  pub dz_lookup_left : dz_lookup.Post κs a x e → Left x a.1.1.1.0.now e.1.1.1.0.now
  dz_lookup_left p = left_by p.0 p.1 (tlv_left (lookup_of a.1.1.0 a.1.0 a.0.now) (length (data_in a.1.1.0 a.1.0 a.0.now)) a.1.1.1.0.now)

module _ (κs : Lfts 2) (a : Dens κs dz_walk_kinds.ps) (x : (res_t dz_walk_kinds.r κs).Denot) (e : AtExit (ended_of 2 dz_walk_kinds.ps dz_walk_kinds.r) κs) where
  pub dz_walk_left : dz_walk.Post κs a x e → Left x a.1.1.1.0.now e.1.1.1.0.now
  dz_walk_left p = left_by p.0 p.1 (walked_left (next_in a.1.1.0 a.1.0 a.0.now) a.1.1.1.0.now)

module _ (κs : Lfts 2) (a : Dens κs dz_suffix_kinds.ps) (x : (res_t dz_suffix_kinds.r κs).Denot) (e : AtExit (ended_of 2 dz_suffix_kinds.ps dz_suffix_kinds.r) κs) where
  pub dz_suffix_left : dz_suffix.Post κs a x e → Left x a.1.1.0.now e.1.1.0.now
  dz_suffix_left p = left_by p.0 p.1 (suffix_left (suffix_of a.1.0 a.0.now) a.1.1.0.now)

module _ (κs : Lfts 2) (a : Dens κs dz_link_message_kinds.ps) (x : (res_t dz_link_message_kinds.r κs).Denot) (e : AtExit (ended_of 2 dz_link_message_kinds.ps dz_link_message_kinds.r) κs) where
  pub dz_link_message_left : dz_link_message.Post κs a x e → Left x a.1.1.0.now e.1.1.0.now
  dz_link_message_left p = left_by p.0 p.1 (carried_left (link_of a.1.0 a.0.now) a.1.1.0.now)

module _ (κs : Lfts 2) (a : Dens κs dz_origin_kinds.ps) (x : (res_t dz_origin_kinds.r κs).Denot) (e : AtExit (ended_of 2 dz_origin_kinds.ps dz_origin_kinds.r) κs) where
  pub dz_origin_left : dz_origin.Post κs a x e → Left x a.1.1.1.0.now e.1.1.1.0.now
  dz_origin_left p = left_by p.0 p.1 (origin_left (origin_check a.1.1.0 a.0.now a.1.0.now) (origin_in a.1.1.0 a.0.now a.1.0.now) a.1.1.1.0.now)

module _ (κs : Lfts 1) (a : Dens κs dz_link_set_kinds.ps) (x : (res_t dz_link_set_kinds.r κs).Denot) (e : AtExit (ended_of 1 dz_link_set_kinds.ps dz_link_set_kinds.r) κs) where
  pub dz_link_set_left : dz_link_set.Post κs a x e → Left x a.0.now e.0.now
  dz_link_set_left p = left_by p.0 p.1 (setting_left a.0.now (port_of a.1.0) (link_settings a.1.1.0 a.1.1.1.0 a.1.1.1.1.0 a.1.1.1.1.1.0 a.1.1.1.1.1.1.0 a.1.1.1.1.1.1.1.0))

module _ (κs : Lfts 2) (a : Dens κs dz_link_start_kinds.ps) (x : (res_t dz_link_start_kinds.r κs).Denot) (e : AtExit (ended_of 2 dz_link_start_kinds.ps dz_link_start_kinds.r) κs) where
  pub dz_link_start_left : dz_link_start.Post κs a x e → (Left x a.0.now e.0.now) × (Left x a.1.1.1.1.0.now e.1.1.1.1.0.now)
  dz_link_start_left p = (left_by p.0 p.1.0 (step_left a.0.now (port_of a.1.0) (event.Start a.1.1.0 (not (eqb a.1.1.1.0 0)))), left_by p.0 p.1.1 (taken_left (take_answer a.0.now (port_of a.1.0) (event.Start a.1.1.0 (not (eqb a.1.1.1.0 0)))) a.1.1.1.1.0.now))

module _ (κs : Lfts 2) (a : Dens κs dz_link_take_kinds.ps) (x : (res_t dz_link_take_kinds.r κs).Denot) (e : AtExit (ended_of 2 dz_link_take_kinds.ps dz_link_take_kinds.r) κs) where
  pub dz_link_take_left : dz_link_take.Post κs a x e → (Left x a.0.now e.0.now) × (Left x a.1.1.1.0.now e.1.1.1.0.now)
  dz_link_take_left p = (left_by p.0 p.1.0 (step_left a.0.now (port_of a.1.0) (event.Message a.1.1.0)), left_by p.0 p.1.1 (taken_left (take_answer a.0.now (port_of a.1.0) (event.Message a.1.1.0)) a.1.1.1.0.now))

module _ (κs : Lfts 2) (a : Dens κs dz_link_done_kinds.ps) (x : (res_t dz_link_done_kinds.r κs).Denot) (e : AtExit (ended_of 2 dz_link_done_kinds.ps dz_link_done_kinds.r) κs) where
  pub dz_link_done_left : dz_link_done.Post κs a x e → (Left x a.0.now e.0.now) × (Left x a.1.1.0.now e.1.1.0.now)
  dz_link_done_left p = (left_by p.0 p.1.0 (step_left a.0.now (port_of a.1.0) event.Done), left_by p.0 p.1.1 (taken_left (take_answer a.0.now (port_of a.1.0) event.Done) a.1.1.0.now))

module _ (κs : Lfts 2) (a : Dens κs dz_link_timeout_kinds.ps) (x : (res_t dz_link_timeout_kinds.r κs).Denot) (e : AtExit (ended_of 2 dz_link_timeout_kinds.ps dz_link_timeout_kinds.r) κs) where
  pub dz_link_timeout_left : dz_link_timeout.Post κs a x e → (Left x a.0.now e.0.now) × (Left x a.1.1.0.now e.1.1.0.now)
  dz_link_timeout_left p = (left_by p.0 p.1.0 (step_left a.0.now (port_of a.1.0) event.Timeout), left_by p.0 p.1.1 (taken_left (take_answer a.0.now (port_of a.1.0) event.Timeout) a.1.1.0.now))

module _ (κs : Lfts 2) (a : Dens κs dz_link_stop_kinds.ps) (x : (res_t dz_link_stop_kinds.r κs).Denot) (e : AtExit (ended_of 2 dz_link_stop_kinds.ps dz_link_stop_kinds.r) κs) where
  pub dz_link_stop_left : dz_link_stop.Post κs a x e → (Left x a.0.now e.0.now) × (Left x a.1.1.0.now e.1.1.0.now)
  dz_link_stop_left p = (left_by p.0 p.1.0 (step_left a.0.now (port_of a.1.0) event.Stop), left_by p.0 p.1.1 (taken_left (take_answer a.0.now (port_of a.1.0) event.Stop) a.1.1.0.now))

module _ (κs : Lfts 2) (a : Dens κs dz_measure_kinds.ps) (x : (res_t dz_measure_kinds.r κs).Denot) (e : AtExit (ended_of 2 dz_measure_kinds.ps dz_measure_kinds.r) κs) where
  pub dz_measure_left : dz_measure.Post κs a x e → Left x a.1.0.now e.1.0.now
  dz_measure_left p = left_by p.0 p.1 (measured_left (measured_of a.0.now) a.1.0.now)

module _ (κs : Lfts 4) (a : Dens κs dz_write_kinds.ps) (x : (res_t dz_write_kinds.r κs).Denot) (e : AtExit (ended_of 4 dz_write_kinds.ps dz_write_kinds.r) κs) where
  pub dz_write_left : dz_write.Post κs a x e → (Left x a.0.now e.0.now) × (Left x a.1.1.1.1.0.now e.1.1.1.1.0.now)
  dz_write_left p = (left_by p.0 p.1.0 (words_left a.1.1.1.0 a.1.0.now a.1.1.0.now a.0.now), left_by p.0 p.1.1 (written_left (words_written a.1.1.1.0 a.1.0.now a.1.1.0.now a.0.now) a.1.1.1.1.0.now))

module _ (κs : Lfts 4) (a : Dens κs dz_write_link_kinds.ps) (x : (res_t dz_write_link_kinds.r κs).Denot) (e : AtExit (ended_of 4 dz_write_link_kinds.ps dz_write_link_kinds.r) κs) where
  pub dz_write_link_left : dz_write_link.Post κs a x e → (Left x a.0.now e.0.now) × (Left x a.1.1.1.1.0.now e.1.1.1.1.0.now)
  dz_write_link_left p = (left_by p.0 p.1.0 (signaling_left a.1.1.1.0 a.1.0.now a.1.1.0.now a.0.now), left_by p.0 p.1.1 (written_left (link_written a.1.1.1.0 a.1.0.now a.1.1.0.now a.0.now) a.1.1.1.1.0.now))

module _ (κs : Lfts 2) (a : Dens κs dz_link_status_kinds.ps) (x : (res_t dz_link_status_kinds.r κs).Denot) (e : AtExit (ended_of 2 dz_link_status_kinds.ps dz_link_status_kinds.r) κs) where
  pub dz_link_status_left : dz_link_status.Post κs a x e → Left x a.1.1.0.now e.1.1.0.now
  dz_link_status_left p = left_by p.0 p.1 (taken_left (look_answer a.0.now (port_of a.1.0)) a.1.1.0.now)

module _ (κs : Lfts 5) (a : Dens κs dz_trace_record_kinds.ps) (x : (res_t dz_trace_record_kinds.r κs).Denot) (e : AtExit (ended_of 5 dz_trace_record_kinds.ps dz_trace_record_kinds.r) κs) where
  pub dz_trace_record_left : dz_trace_record.Post κs a x e
      → (Left x a.0.now e.0.now) × ((Left x a.1.0.now e.1.0.now) × ((Left x a.1.1.1.1.1.0.now e.1.1.1.1.1.0.now) × (Left x a.1.1.1.1.1.1.0.now e.1.1.1.1.1.1.0.now)))
  dz_trace_record_left p =
      let ws = a.0.now in
      let m = entry_of a.1.1.1.0 (port_of a.1.1.0) a.1.1.1.1.0.now in
      let lent : (before after : List ℕ) → Left (recorded_code (recorded_of ws m)) before (lent_by (record_check ws m) before after) = lent_left (record_check ws m) (closes ws m) in (
        left_by p.0 p.1.0 (lent ws (words_with ws m)),
        (
          left_by p.0 p.1.1.0 (lent a.1.0.now (open_with a.1.0.now ws m)),
          (
            left_by p.0 p.1.1.1.0 (lent a.1.1.1.1.1.0.now (out_with a.1.0.now ws m a.1.1.1.1.1.0.now)),
            left_by p.0 p.1.1.1.1 (recorded_left (recorded_of ws m) a.1.1.1.1.1.1.0.now),
          ),
        ),
      )

module _ (κs : Lfts 3) (a : Dens κs dz_replay_block_kinds.ps) (x : (res_t dz_replay_block_kinds.r κs).Denot) (e : AtExit (ended_of 3 dz_replay_block_kinds.ps dz_replay_block_kinds.r) κs) where
  pub dz_replay_block_left : dz_replay_block.Post κs a x e → (Left x a.0.now e.0.now) × (Left x a.1.0.now e.1.0.now)
  dz_replay_block_left p =
      let left = block_left (accepts (reader_of a.1.0.now) a.1.1.0.now) in
      (left_by p.0 p.1.0 (left a.0.now _), left_by p.0 p.1.1 (left a.1.0.now _))

module _ (κs : Lfts 3) (a : Dens κs dz_replay_kinds.ps) (x : (res_t dz_replay_kinds.r κs).Denot) (e : AtExit (ended_of 3 dz_replay_kinds.ps dz_replay_kinds.r) κs) where
  pub dz_replay_left : dz_replay.Post κs a x e → (Left x a.0.now e.0.now) × (Left x a.1.1.1.1.1.0.now e.1.1.1.1.1.0.now)
  dz_replay_left p =
      let s = a.1.0.now in
      (left_by p.0 p.1.0 (trace_left (is_trace s) _ a.0.now _), left_by p.0 p.1.1 (replayed_left (replay_of s) a.1.1.1.1.1.0.now))

module _ (κs : Lfts 3) (a : Dens κs dz_import_kinds.ps) (x : (res_t dz_import_kinds.r κs).Denot) (e : AtExit (ended_of 3 dz_import_kinds.ps dz_import_kinds.r) κs) where
  pub dz_import_left : dz_import.Post κs a x e → (Left x a.0.now e.0.now) × (Left x a.1.1.1.0.now e.1.1.1.0.now)
  dz_import_left p =
      let w = import_of (length a.0.now) (port_of a.1.0) a.1.1.0.now in
      (left_by p.0 p.1.0 (filled_left w a.0.now _), left_by p.0 p.1.1 (written_left w a.1.1.1.0.now))

module _ (κs : Lfts 3) (a : Dens κs dz_export_kinds.ps) (x : (res_t dz_export_kinds.r κs).Denot) (e : AtExit (ended_of 3 dz_export_kinds.ps dz_export_kinds.r) κs) where
  pub dz_export_left : dz_export.Post κs a x e → (Left x a.0.now e.0.now) × (Left x a.1.1.0.now e.1.1.0.now)
  dz_export_left p =
      let w = export_of (length a.0.now) a.1.0.now in
      (left_by p.0 p.1.0 (filled_left w a.0.now _), left_by p.0 p.1.1 (written_left w a.1.1.0.now))

module _ (κs : Lfts 2) (a : Dens κs dz_capture_head_kinds.ps) (x : (res_t dz_capture_head_kinds.r κs).Denot) (e : AtExit (ended_of 2 dz_capture_head_kinds.ps dz_capture_head_kinds.r) κs) where
  pub dz_capture_head_left : dz_capture_head.Post κs a x e → Left x a.1.0.now e.1.0.now
  dz_capture_head_left p = left_by p.0 p.1 (head_left (tells_form a.0.now) a.1.0.now _)

module _ (κs : Lfts 3) (a : Dens κs dz_capture_packet_kinds.ps) (x : (res_t dz_capture_packet_kinds.r κs).Denot) (e : AtExit (ended_of 3 dz_capture_packet_kinds.ps dz_capture_packet_kinds.r) κs) where
  pub dz_capture_packet_left : dz_capture_packet.Post κs a x e → Left x a.1.1.0.now e.1.1.0.now
  dz_capture_packet_left p = left_by p.0 p.1 (head_left (is_sound a.0.now a.1.0.now) a.1.1.0.now _)

module _ (κs : Lfts 5) (a : Dens κs dz_capture_record_kinds.ps) (x : (res_t dz_capture_record_kinds.r κs).Denot) (e : AtExit (ended_of 5 dz_capture_record_kinds.ps dz_capture_record_kinds.r) κs) where
  pub dz_capture_record_left : dz_capture_record.Post κs a x e
      → (Left x a.0.now e.0.now) × ((Left x a.1.0.now e.1.0.now) × ((Left x a.1.1.1.1.1.0.now e.1.1.1.1.1.0.now) × (Left x a.1.1.1.1.1.1.0.now e.1.1.1.1.1.1.0.now)))
  dz_capture_record_left p =
      let ws = a.0.now in
      let port = port_of a.1.1.0 in
      let frame : Frame = record { time = a.1.1.1.0; octets = a.1.1.1.1.0.now } in
      let m = entry_by port frame in
      let lent = frame_left (is_ptp frame.octets) (record_check ws m) (closes ws m) in (
        left_by p.0 p.1.0 (lent ws (words_with ws m)),
        (
          left_by p.0 p.1.1.0 (lent a.1.0.now (open_with a.1.0.now ws m)),
          (
            left_by p.0 p.1.1.1.0 (lent a.1.1.1.1.1.0.now (out_with a.1.0.now ws m a.1.1.1.1.1.0.now)),
            left_by p.0 p.1.1.1.1 (recorded_left (frame_recorded ws port frame) a.1.1.1.1.1.1.0.now),
          ),
        ),
      )

module _ (κs : Lfts 4) (a : Dens κs dz_capture_block_kinds.ps) (x : (res_t dz_capture_block_kinds.r κs).Denot) (e : AtExit (ended_of 4 dz_capture_block_kinds.ps dz_capture_block_kinds.r) κs) where
  pub dz_capture_block_left : dz_capture_block.Post κs a x e
      → (Left x a.0.now e.0.now) × ((Left x a.1.1.0.now e.1.1.0.now) × (Left x a.1.1.1.0.now e.1.1.1.0.now))
  dz_capture_block_left p =
      let w = export_block_of a.0.now a.1.0.now in (
        left_by p.0 p.1.0 (filled_left w a.0.now _),
        (left_by p.0 p.1.1.0 (filled_left w a.1.1.0.now _), left_by p.0 p.1.1.1 (written_left w a.1.1.1.0.now)),
      )
