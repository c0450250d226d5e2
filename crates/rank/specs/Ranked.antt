-- The ranked list of a collection of candidates, and a ranked list as the engine keeps it: a length and four slots
-- (01, "Comparing and ranking").
use Rattle.std.specs.Prelude.{ℕ, List, [], ◌∷◌, ◌++◌, Bool, true, not, ◌&&◌, eqb, leb, length, take, drop, get_or}
pub use Rattle.refusal.specs.Limits.{is_port}
use Rattle.std.specs.List.{list_any}
use Rattle.refusal.specs.Limits.{port_count}
use Rattle.refusal.specs.Choice.{pick}
use Rattle.rank.specs.declared.Candidate.{Candidate}
use Rattle.rank.specs.declared.Ranked.{Ranked}
use Rattle.rank.specs.Order.{earlier_of}
use Rattle.rank.specs.Best.{bests, sort, insert}

-- "the best candidate of each port": its receiver port
abbrev pub receiver_of : Candidate → ℕ
receiver_of c = c.port

-- "A candidate, valid when its port is 1 to 18"
abbrev pub all_valid : List Candidate → Bool
all_valid [] = true
all_valid (x ∷ xs) = is_port x.port && all_valid xs

-- "A ranked list holds the best candidate of each port in a collection of valid candidates, in rank order, cut after four."
abbrev pub rank_of : List Candidate → List Candidate
rank_of s = take 4 (sort earlier_of receiver_of (bests earlier_of receiver_of port_count s))

-- A list lies in the first slots; those past it stay as they were.
abbrev pub laid : List Candidate → List Candidate → Ranked
laid l slots = record { len = length l; slots = l ++ drop (length l) slots }

-- what an unused slot of a list that ranking or merging gives holds
abbrev pub blank_of : Candidate
blank_of =
    record {
      grandmaster = record { priority1 = 0; class = 0; accuracy = 0; variance = 0; priority2 = 0; identity = 0 };
      steps = 0;
      sender = record { clock = 0; port = 0 };
      port = 0;
      wrflags = 0;
    }

-- a list in four slots, the unused ones blank
abbrev pub pack : List Candidate → Ranked
pack l = laid l (blank_of ∷ blank_of ∷ blank_of ∷ blank_of ∷ [])

-- the list in the slots
abbrev pub unpack : Ranked → List Candidate
unpack r = take r.len r.slots

-- a candidate of port p is in the list
abbrev pub holds_of : ℕ → List Candidate → Bool
holds_of p l = list_any (λ x. eqb x.port p) l

-- what stands after x, if anything, comes later in rank order
abbrev pub leads_of : Candidate → List Candidate → Bool
leads_of x [] = true
leads_of x (y ∷ ys) = earlier_of x y

-- the first of a list has a port of the clock, its own alone, and leads the next
abbrev pub stands_of : List Candidate → Bool
stands_of [] = true
stands_of (x ∷ xs) = is_port x.port && (not (holds_of x.port xs) && leads_of x xs)

-- and so each of them
abbrev pub in_rank : List Candidate → Bool
in_rank [] = true
in_rank (x ∷ xs) = stands_of (x ∷ xs) && in_rank xs

-- "UNRANKED: a list to merge or decide by is not a ranked list": one has at most four entries, of different ports from 1
-- to 18, and rises strictly in rank order
abbrev pub is_ranked : Ranked → Bool
is_ranked r = leb r.len 4 && in_rank (unpack r)

-- ---- WHAT ONLY THE CODE NEEDS: steps on the way to the answers above, and no rule of 01

-- one candidate more: it goes down the list, unless four are there and it does not stand before the last
abbrev pub left_out : Ranked → Candidate → Bool
left_out r c = eqb r.len 4 && not (earlier_of c (get_or r.slots 3 blank_of))

abbrev pub sink_of : Ranked → Candidate → Ranked
sink_of r c = laid (insert earlier_of receiver_of 4 c (unpack r)) r.slots

abbrev pub insert_of : Ranked → Candidate → Ranked
insert_of r c = pick (left_out r c) r (sink_of r c)

-- each of a list in turn
abbrev pub insert_all : Ranked → List Candidate → Ranked
insert_all r [] = r
insert_all r (y ∷ ys) = insert_all (insert_of r y) ys
