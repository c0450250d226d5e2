-- `announce::sound_announce` meets its contract: what is read in one walk passes the checks, and where nothing is read no Announce
-- is accepted.
use Rattle.std.specs.Prelude.{Some, Ok}
use Rattle.std.specs.Result.{result_ok}
use mathlib.Core.Path.{sym, ap, ◌∙◌}
use native.Mathlib.Omega.{arith}
use borrow.Author.Tests.{eq-eqb}
use Rattle.refusal.specs.Choice.{refuse}
use Rattle.tlv.specs.Wr.{suffix_in, wr_flags_of}
use Rattle.tlv.proofs.FaultLaws.{sound_check, faulty_check}
use Rattle.message.specs.Announced.{announced_of}
use Rattle.message.proofs.Laws.{accepted}
use Rattle.message.proofs.AnnounceLaws.{sized, sized_tail, unsized, unstamped, sized_check, by_checks}
use Rattle.message.proofs.announce.sound_announce.Goals as goal

pub returns-in_err-length : goal.returns-in_err-length
returns-in_err-length c =
    c.from_residual.ensures ∙ ap result_ok (by_checks _ _ (unsized _ _ (sym c.announce_length.ensures ∙ c.in_err-length.was)))

pub u32_at-nanoseconds-requires : goal.u32_at-nanoseconds-requires
u32_at-nanoseconds-requires c =
    let z = sized _ (sym c.announce_length.ensures ∙ c.in_ok-length.was) in let h = z.0.room in omega arith

pub returns-then-nanoseconds-ge-SECOND_NANOS : goal.returns-then-nanoseconds-ge-SECOND_NANOS
returns-then-nanoseconds-ge-SECOND_NANOS c =
    ap result_ok (by_checks _ _ (unstamped _ _ (rw c.u32_at-nanoseconds.ensures at c.if-nanoseconds-ge-SECOND_NANOS.true)))

pub slice_bounds-t-count : goal.slice_bounds-t-count
slice_bounds-t-count c =
    let z = sized _ (sym c.announce_length.ensures ∙ c.in_ok-length.was) in let h = z.0.least in omega arith

pub slice_bounds-t-start : goal.slice_bounds-t-start
slice_bounds-t-start c =
    let z = sized _ (sym c.announce_length.ensures ∙ c.in_ok-length.was) in let h = z.0.least in omega arith

pub slice_bounds-t-end : goal.slice_bounds-t-end
slice_bounds-t-end c =
    let z = sized _ (sym c.announce_length.ensures ∙ c.in_ok-length.was) in let h = z.0.lent in omega arith

pub returns-in_err-p : goal.returns-in_err-p
returns-in_err-p c =
    let z = sized _ (sym c.announce_length.ensures ∙ c.in_ok-length.was) in
    let n = faulty_check _ _ _ (sym c.sound_suffix.ensures ∙ c.in_err-p.was) in
    c.from_residual-in_err-p.ensures ∙ ap result_ok (by_checks _ _ (λ d k. n (rw (sized_tail _ z) at (accepted _ _ d).tail)))

pub header_of-requires : goal.header_of-requires
header_of-requires c =
    let z = sized _ (sym c.announce_length.ensures ∙ c.in_ok-length.was) in let h = z.0.room in omega arith

pub announce_of-requires-clause-in_bounds : goal.announce_of-requires-clause-in_bounds
announce_of-requires-clause-in_bounds c =
    (sized _ (sym c.announce_length.ensures ∙ c.in_ok-length.was)).0.room

pub returns : goal.returns
unfolding announced_of refuse suffix_in
returns c =
    let z = sized _ (sym c.announce_length.ensures ∙ c.in_ok-length.was) in
    let q = sound_check _ _ _ (sym c.sound_suffix.ensures ∙ c.in_ok-p.was) in
    let d = sized_check _ _ z.0 (rw c.u32_at-nanoseconds.ensures at c.if-nanoseconds-ge-SECOND_NANOS.false) (rw (← sized_tail _ z) at q.0) in
    rw (d, eq-eqb _ _ z.0.type, sized_tail _ z, ← q.1)
    (λ i. Some (record {
      header = c.header_of.ensures i;
      announce = c.announce_of.ensures i;
      flags = (c.wr_flags.ensures ∙ ap wr_flags_of c.suffix_at.ensures) i;
    }))
