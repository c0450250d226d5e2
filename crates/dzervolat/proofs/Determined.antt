-- The contract of each function that C calls fixes the number it returns and every word and octet that it is lent: any two results that
-- it allows are equal. What is lent to be read alone cannot change.
use mathlib.Core.Path.{◌∙◌, refl, sym}
use Rattle.laws.proofs.Fixes.{Fixes}
use Rattle.dzervolat.specs.contracts as contracts
use Rattle.dzervolat.proofs as its

pub dz_take_determined : Fixes contracts.records.dz_take.ended its.records.dz_take.Reads.Post
dz_take_determined κs a x y v w p q = (p.0 ∙ sym q.0, λ i. ((p.1 ∙ sym q.1) i, w.1))

pub dz_take_burst_determined : Fixes contracts.records.dz_take_burst.ended its.records.dz_take_burst.Reads.Post
dz_take_burst_determined κs a x y v w p q = (p.0 ∙ sym q.0, λ i. ((p.1.0 ∙ sym q.1.0) i, (tt, ((p.1.1 ∙ sym q.1.1) i, w.1.1.1))))

pub dz_candidate_determined : Fixes contracts.records.dz_candidate.ended its.records.dz_candidate.Reads.Post
dz_candidate_determined κs a x y v w p q = (p.0 ∙ sym q.0, λ i. (tt, (tt, (tt, (tt, ((p.1 ∙ sym q.1) i, w.1.1.1.1.1))))))

pub dz_best_determined : Fixes contracts.records.dz_best.ended its.records.dz_best.Reads.Post
dz_best_determined κs a x y v w p q = (p.0 ∙ sym q.0, λ i. (tt, (tt, (tt, ((p.1 ∙ sym q.1) i, w.1.1.1.1)))))

pub dz_status_determined : Fixes contracts.records.dz_status.ended its.records.dz_status.Reads.Post
dz_status_determined κs a x y v w p q = (p.0 ∙ sym q.0, λ i. (tt, (tt, ((p.1 ∙ sym q.1) i, w.1.1.1))))

pub dz_record_determined : Fixes contracts.records.dz_record.ended its.records.dz_record.Reads.Post
dz_record_determined κs a x y v w p q = (p.0 ∙ sym q.0, λ i. (tt, (tt, (tt, ((p.1 ∙ sym q.1) i, w.1.1.1.1)))))

pub dz_set_interval_determined : Fixes contracts.records.dz_set_interval.ended its.records.dz_set_interval.Reads.Post
dz_set_interval_determined κs a x y v w p q = (p.0 ∙ sym q.0, λ i. ((p.1 ∙ sym q.1) i, w.1))

pub dz_rank_determined : Fixes contracts.ranking.dz_rank.ended its.ranking.dz_rank.Reads.Post
dz_rank_determined κs a x y v w p q = (p.0 ∙ sym q.0, λ i. (tt, ((p.1 ∙ sym q.1) i, w.1.1)))

pub dz_merge_determined : Fixes contracts.ranking.dz_merge.ended its.ranking.dz_merge.Reads.Post
dz_merge_determined κs a x y v w p q = (p.0 ∙ sym q.0, λ i. (tt, (tt, ((p.1 ∙ sym q.1) i, w.1.1.1))))

pub dz_decide_determined : Fixes contracts.ranking.dz_decide.ended its.ranking.dz_decide.Reads.Post
dz_decide_determined κs a x y v w p q = (p.0 ∙ sym q.0, λ i. (tt, (tt, (tt, (tt, ((p.1 ∙ sym q.1) i, w.1.1.1.1.1))))))

pub dz_decide_all_determined : Fixes contracts.ranking.dz_decide_all.ended its.ranking.dz_decide_all.Reads.Post
dz_decide_all_determined κs a x y v w p q = (p.0 ∙ sym q.0, λ i. (tt, (tt, (tt, ((p.1.0 ∙ sym q.1.0) i, ((p.1.1 ∙ sym q.1.1) i, w.1.1.1.1.1))))))

pub dz_parent_determined : Fixes contracts.ranking.dz_parent.ended its.ranking.dz_parent.Reads.Post
dz_parent_determined κs a x y v w p q = (p.0 ∙ sym q.0, λ i. (tt, (tt, ((p.1 ∙ sym q.1) i, w.1.1.1))))

pub dz_compare_determined : Fixes contracts.ranking.dz_compare.ended its.ranking.dz_compare.Reads.Post
dz_compare_determined κs a x y v w p q = (p.0 ∙ sym q.0, λ i. (tt, (tt, ((p.1 ∙ sym q.1) i, w.1.1.1))))

pub dz_read_determined : Fixes contracts.reading.dz_read.ended its.reading.dz_read.Reads.Post
dz_read_determined κs a x y v w p q = (p.0 ∙ sym q.0, λ i. (tt, (tt, ((p.1.0 ∙ sym q.1.0) i, ((p.1.1 ∙ sym q.1.1) i, w.1.1.1.1)))))

pub dz_walk_determined : Fixes contracts.reading.dz_walk.ended its.reading.dz_walk.Reads.Post
dz_walk_determined κs a x y v w p q = (p.0 ∙ sym q.0, λ i. (tt, (tt, (tt, ((p.1 ∙ sym q.1) i, w.1.1.1.1)))))

pub dz_lookup_determined : Fixes contracts.reading.dz_lookup.ended its.reading.dz_lookup.Reads.Post
dz_lookup_determined κs a x y v w p q = (p.0 ∙ sym q.0, λ i. (tt, (tt, (tt, ((p.1 ∙ sym q.1) i, w.1.1.1.1)))))

pub dz_suffix_determined : Fixes contracts.reading.dz_suffix.ended its.reading.dz_suffix.Reads.Post
dz_suffix_determined κs a x y v w p q = (p.0 ∙ sym q.0, λ i. (tt, (tt, ((p.1 ∙ sym q.1) i, w.1.1.1))))

pub dz_link_message_determined : Fixes contracts.reading.dz_link_message.ended its.reading.dz_link_message.Reads.Post
dz_link_message_determined κs a x y v w p q = (p.0 ∙ sym q.0, λ i. (tt, (tt, ((p.1 ∙ sym q.1) i, w.1.1.1))))

pub dz_origin_determined : Fixes contracts.reading.dz_origin.ended its.reading.dz_origin.Reads.Post
dz_origin_determined κs a x y v w p q = (p.0 ∙ sym q.0, λ i. (tt, (tt, (tt, ((p.1 ∙ sym q.1) i, w.1.1.1.1)))))

pub dz_link_set_determined : Fixes contracts.steps.dz_link_set.ended its.steps.dz_link_set.Reads.Post
dz_link_set_determined κs a x y v w p q = (p.0 ∙ sym q.0, λ i. ((p.1 ∙ sym q.1) i, w.1))

pub dz_link_start_determined : Fixes contracts.steps.dz_link_start.ended its.steps.dz_link_start.Reads.Post
dz_link_start_determined κs a x y v w p q = (p.0 ∙ sym q.0, λ i. ((p.1.0 ∙ sym q.1.0) i, (tt, (tt, (tt, ((p.1.1 ∙ sym q.1.1) i, w.1.1.1.1.1))))))

pub dz_link_take_determined : Fixes contracts.steps.dz_link_take.ended its.steps.dz_link_take.Reads.Post
dz_link_take_determined κs a x y v w p q = (p.0 ∙ sym q.0, λ i. ((p.1.0 ∙ sym q.1.0) i, (tt, (tt, ((p.1.1 ∙ sym q.1.1) i, w.1.1.1.1)))))

pub dz_link_done_determined : Fixes contracts.steps.dz_link_done.ended its.steps.dz_link_done.Reads.Post
dz_link_done_determined κs a x y v w p q = (p.0 ∙ sym q.0, λ i. ((p.1.0 ∙ sym q.1.0) i, (tt, ((p.1.1 ∙ sym q.1.1) i, w.1.1.1))))

pub dz_link_timeout_determined : Fixes contracts.steps.dz_link_timeout.ended its.steps.dz_link_timeout.Reads.Post
dz_link_timeout_determined κs a x y v w p q = (p.0 ∙ sym q.0, λ i. ((p.1.0 ∙ sym q.1.0) i, (tt, ((p.1.1 ∙ sym q.1.1) i, w.1.1.1))))

pub dz_link_stop_determined : Fixes contracts.steps.dz_link_stop.ended its.steps.dz_link_stop.Reads.Post
dz_link_stop_determined κs a x y v w p q = (p.0 ∙ sym q.0, λ i. ((p.1.0 ∙ sym q.1.0) i, (tt, ((p.1.1 ∙ sym q.1.1) i, w.1.1.1))))

pub dz_measure_determined : Fixes contracts.measuring.dz_measure.ended its.measuring.dz_measure.Reads.Post
dz_measure_determined κs a x y v w p q = (p.0 ∙ sym q.0, λ i. (tt, ((p.1 ∙ sym q.1) i, w.1.1)))

pub dz_write_determined : Fixes contracts.writing.dz_write.ended its.writing.dz_write.Reads.Post
dz_write_determined κs a x y v w p q = (p.0 ∙ sym q.0, λ i. ((p.1.0 ∙ sym q.1.0) i, (tt, (tt, (tt, ((p.1.1 ∙ sym q.1.1) i, w.1.1.1.1.1))))))

pub dz_write_link_determined : Fixes contracts.writing.dz_write_link.ended its.writing.dz_write_link.Reads.Post
dz_write_link_determined κs a x y v w p q = (p.0 ∙ sym q.0, λ i. ((p.1.0 ∙ sym q.1.0) i, (tt, (tt, (tt, ((p.1.1 ∙ sym q.1.1) i, w.1.1.1.1.1))))))

pub dz_write_suffix_determined : Fixes contracts.writing.dz_write_suffix.ended its.writing.dz_write_suffix.Reads.Post
dz_write_suffix_determined κs a x y v w p q = (p.0 ∙ sym q.0, λ i. (tt, (tt, ((p.1 ∙ sym q.1) i, w.1.1.1))))

pub dz_link_status_determined : Fixes contracts.steps.dz_link_status.ended its.steps.dz_link_status.Reads.Post
dz_link_status_determined κs a x y v w p q = (p.0 ∙ sym q.0, λ i. (tt, (tt, ((p.1 ∙ sym q.1) i, w.1.1.1))))

pub dz_version_determined : Fixes contracts.dz_version.ended its.dz_version.Reads.Post
dz_version_determined κs a x y v w p q = (p ∙ sym q, refl)

pub dz_trace_record_determined : Fixes contracts.tracing.dz_trace_record.ended its.tracing.dz_trace_record.Reads.Post
dz_trace_record_determined κs a x y v w p q =
    (p.0 ∙ sym q.0, λ i. ((p.1.0 ∙ sym q.1.0) i, ((p.1.1.0 ∙ sym q.1.1.0) i, (tt, (tt, (tt, ((p.1.1.1.0 ∙ sym q.1.1.1.0) i, ((p.1.1.1.1 ∙ sym q.1.1.1.1) i, w.1.1.1.1.1.1.1))))))))

pub dz_trace_finish_determined : Fixes contracts.tracing.dz_trace_finish.ended its.tracing.dz_trace_finish.Reads.Post
dz_trace_finish_determined κs a x y v w p q = (p.0 ∙ sym q.0, λ i. (tt, (tt, ((p.1.0 ∙ sym q.1.0) i, ((p.1.1 ∙ sym q.1.1) i, w.1.1.1.1)))))

pub dz_trace_walk_determined : Fixes contracts.tracing.dz_trace_walk.ended its.tracing.dz_trace_walk.Reads.Post
dz_trace_walk_determined κs a x y v w p q = (p.0 ∙ sym q.0, λ i. (tt, (tt, ((p.1 ∙ sym q.1) i, w.1.1.1))))

pub dz_replay_block_determined : Fixes contracts.tracing.dz_replay_block.ended its.tracing.dz_replay_block.Reads.Post
dz_replay_block_determined κs a x y v w p q = (p.0 ∙ sym q.0, λ i. ((p.1.0 ∙ sym q.1.0) i, ((p.1.1 ∙ sym q.1.1) i, w.1.1)))

pub dz_replay_determined : Fixes contracts.tracing.dz_replay.ended its.tracing.dz_replay.Reads.Post
dz_replay_determined κs a x y v w p q = (p.0 ∙ sym q.0, λ i. ((p.1.0 ∙ sym q.1.0) i, (tt, (tt, (tt, (tt, ((p.1.1 ∙ sym q.1.1) i, w.1.1.1.1.1.1)))))))

pub dz_import_determined : Fixes contracts.capturing.dz_import.ended its.capturing.dz_import.Reads.Post
dz_import_determined κs a x y v w p q = (p.0 ∙ sym q.0, λ i. ((p.1.0 ∙ sym q.1.0) i, (tt, (tt, ((p.1.1 ∙ sym q.1.1) i, w.1.1.1.1)))))

pub dz_export_determined : Fixes contracts.capturing.dz_export.ended its.capturing.dz_export.Reads.Post
dz_export_determined κs a x y v w p q = (p.0 ∙ sym q.0, λ i. ((p.1.0 ∙ sym q.1.0) i, (tt, ((p.1.1 ∙ sym q.1.1) i, w.1.1.1))))

pub dz_capture_head_determined : Fixes contracts.capturing.dz_capture_head.ended its.capturing.dz_capture_head.Reads.Post
dz_capture_head_determined κs a x y v w p q = (p.0 ∙ sym q.0, λ i. (tt, ((p.1 ∙ sym q.1) i, w.1.1)))

pub dz_capture_packet_determined : Fixes contracts.capturing.dz_capture_packet.ended its.capturing.dz_capture_packet.Reads.Post
dz_capture_packet_determined κs a x y v w p q = (p.0 ∙ sym q.0, λ i. (tt, (tt, ((p.1 ∙ sym q.1) i, w.1.1.1))))

pub dz_capture_record_determined : Fixes contracts.capturing.dz_capture_record.ended its.capturing.dz_capture_record.Reads.Post
dz_capture_record_determined κs a x y v w p q =
    (p.0 ∙ sym q.0, λ i. ((p.1.0 ∙ sym q.1.0) i, ((p.1.1.0 ∙ sym q.1.1.0) i, (tt, (tt, (tt, ((p.1.1.1.0 ∙ sym q.1.1.1.0) i, ((p.1.1.1.1 ∙ sym q.1.1.1.1) i, w.1.1.1.1.1.1.1))))))))

pub dz_capture_begin_determined : Fixes contracts.capturing.dz_capture_begin.ended its.capturing.dz_capture_begin.Reads.Post
dz_capture_begin_determined κs a x y v w p q = (p.0 ∙ sym q.0, λ i. ((p.1 ∙ sym q.1) i, w.1))

pub dz_capture_block_determined : Fixes contracts.capturing.dz_capture_block.ended its.capturing.dz_capture_block.Reads.Post
dz_capture_block_determined κs a x y v w p q = (p.0 ∙ sym q.0, λ i. ((p.1.0 ∙ sym q.1.0) i, (tt, ((p.1.1.0 ∙ sym q.1.1.0) i, ((p.1.1.1 ∙ sym q.1.1.1) i, w.1.1.1.1)))))
