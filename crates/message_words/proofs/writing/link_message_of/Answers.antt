-- `link_message_of` meets its contract: each arm knows the number.
use lib.ListN.{get_or}
use native.Mathlib.Omega.{arith}
use borrow.Author.Tests.{ne_eqb}
use Rattle.message_words.specs.Writing.{link_message_of}
use Rattle.message_words.proofs.writing.link_message_of.Goals as goal

pub returns-in-4096 : goal.returns-in-4096
unfolding link_message_of
returns-in-4096 c =
    rw c.in-4096.is

pub returns-in-4097 : goal.returns-in-4097
unfolding link_message_of
returns-in-4097 c =
    rw c.in-4097.is

pub returns-in-4098 : goal.returns-in-4098
unfolding link_message_of
returns-in-4098 c =
    rw c.in-4098.is

pub returns-in-4099 : goal.returns-in-4099
unfolding link_message_of
returns-in-4099 c =
    rw c.in-4099.is

pub returns-in-4100 : goal.returns-in-4100
unfolding link_message_of
returns-in-4100 c =
    rw c.in-4100.is

pub returns-in_default : goal.returns-in_default
unfolding link_message_of
returns-in_default c =
    rw (ne_eqb (get_or c.args.w.now 0 0) 0x1000 (λ e. omega arith), ne_eqb (get_or c.args.w.now 0 0) 0x1001 (λ e. omega arith), ne_eqb (get_or c.args.w.now 0 0) 0x1002 (λ e. omega arith), ne_eqb (get_or c.args.w.now 0 0) 0x1003 (λ e. omega arith), ne_eqb (get_or c.args.w.now 0 0) 0x1004 (λ e. omega arith))
