-- `put_all` meets its contract: a block that is left is the first of those that are left, and there is room for its packets, and then for the others'.
use Prim.Native.Nat.{ℕ, ◌+◌, ◌≤◌}
use mathlib.Core.Path.{◌≡◌, refl, sym, ap, subst, ◌∙◌}
use mathlib.Core.List.{List, ◌∷◌}
use native.Mathlib.Omega.{arith}
use lib.ListN.{length}
use Rattle.std.specs.Slice.Iter.{chunks_rest, chunks_size}
use Rattle.block.specs.Layout.{entries_of}
use Rattle.stores.specs.Stores.{over}
use Rattle.stores.proofs.Buffer.{put_none}
use Rattle.playback.specs.Playback.{blocks_in, entries_of_all, fresh_reader}
use Rattle.playback.proofs.Blocks.{blocks_end, blocks_more, AllLaid, all_laid}
use Rattle.pcap.specs.Written.{packets_in}
use Rattle.exporting.specs.Exporting.{packets_of, records_of}
use Rattle.exporting.proofs.Packets.{blocks_length, block_put, head_put}
use Rattle.exporting.proofs.put_all.Goals as goal

-- there is room for the packets of one block and for those of the blocks behind it
has_room : (to room : ℕ) (b : List ℕ) (bs ds : List (List ℕ)) → ds ≡ b ∷ bs → to + length (packets_of (entries_of_all ds)) ≤ room
    → to + length (packets_of (entries_of b)) + length (packets_of (entries_of_all bs)) ≤ room
unfolding entries_of_all
has_room to room b bs ds on h =
    omega (arith, ap (λ (k : List (List ℕ)). length (packets_of (entries_of_all k))) on, blocks_length b bs)

pub loop-s-init : goal.loop-s-init
loop-s-init c =
    let e = c.into_iter-s-iterator.ensures.into_iter_gives in
    let r = ap chunks_rest e ∙ c.chunks-s-items.ensures.rest in (
      ap chunks_size e ∙ c.chunks-s-items.ensures.size,
      rw r (all_laid fresh_reader (blocks_in c.args.trace.now) c.requires.0),
      rw r (omega (arith, c.requires.1)),
      refl,
      rw r refl,
    )

pub put_records-to-requires : goal.put_records-to-requires
put_records-to-requires c =
    let l = c.loop-s in
    let on = blocks_more _ c.in-Some.s.now _ _ l.invariant.0 c.in-Some.ensures.steps.1 in
    let r = has_room l.to (length l.out) c.in-Some.s.now _ _ on l.invariant.2 in
    ((subst AllLaid on l.invariant.1).0, omega (arith, r))

pub loop-s-preserved : goal.loop-s-preserved
loop-s-preserved c =
    let l = c.loop-s in
    let b = c.in-Some.s.now in
    let bs = blocks_in (chunks_rest c.next.new.self) in
    let e = c.put_records-to.ensures in
    let on = blocks_more _ b _ _ l.invariant.0 c.in-Some.ensures.steps.1 in
    let r = has_room l.to (length l.out) b bs _ on l.invariant.2 in (
      c.in-Some.ensures.steps.0 ∙ l.invariant.0,
      (subst AllLaid on l.invariant.1).1,
      omega (arith, r, e.end),
      omega (arith, l.invariant.3),
      block_put b bs l.out c.put_records-to.new.out l.to c.put_records-to.result (omega (arith, r)) e.end e.octets
          ∙ ap (λ (ds : List (List ℕ)). over l.out l.to (packets_of (entries_of_all ds))) (sym on)
          ∙ l.invariant.4,
    )

pub returns : goal.returns
unfolding entries_of_all packets_in
returns c =
    let l = c.loop-s in
    put_none l.out l.to
    ∙ ap (λ (ds : List (List ℕ)). over l.out l.to (packets_of (entries_of_all ds))) (sym (blocks_end _ c.in-None.ensures.steps.1.0))
    ∙ l.invariant.4
    ∙ head_put c.args.out.now c.put_head.new.out (records_of c.args.trace.now) c.put_head.ensures
