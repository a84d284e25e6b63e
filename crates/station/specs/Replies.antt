-- What a slave answers, by PB and SB: 8 entries at most (01, "Answer" and the table's line 12). Assumes nothing.
use Rattle.std.specs.Prelude.{Result, ⊤, is_ok, Bool, true, false, cond, ℕ, ◌+◌, eqb, ltb, get_or, set, take, replicate}
use Rattle.laws.specs.AtMost.{at_most}
use Rattle.laws.specs.First.{first_from}
use Rattle.std.specs.Prelude.{Option, Some, None}
use Rattle.wire.specs.Load.{empty_load}
use Rattle.wire.specs.declared.part.Load.{Load}
use Rattle.station.specs.declared.replies.Reply.{Reply}
use Rattle.station.specs.declared.replies.ReplyBook.{ReplyBook}
use Rattle.station.specs.declared.outbox.Full.{Full}

abbrev pub reply_entries : ℕ
reply_entries = 8

-- NN 0
abbrev pub no_reply : Reply
no_reply = record { pb = 0; sb = 0; load = empty_load }

unfoldable pub no_entries : ReplyBook
no_entries = record { entries = replicate reply_entries no_reply; held = 0 }

unfoldable pub is_for : Reply → ℕ → ℕ → Bool
is_for e pb sb = cond (eqb e.pb pb) (eqb e.sb sb) false

-- how many entries there are
unfoldable pub count_in : ReplyBook → ℕ
count_in b = at_most b.held reply_entries

-- the first entry for PB and SB
unfoldable pub entry_of : ReplyBook → ℕ → ℕ → Option ℕ
entry_of b pb sb = first_from (λ e. is_for e pb sb) 0 (take (count_in b) b.entries)

unfoldable pub entry_at : ReplyBook → ℕ → Reply
entry_at b i = get_or b.entries i no_reply

unfoldable pub with_entry : ReplyBook → ℕ → Reply → ReplyBook
with_entry b i r = record { entries = set b.entries i r; held = b.held }

-- what a call that may find it full makes of it
pub record Written : Type 0 where
  pub taken : Bool
  pub book : ReplyBook

-- the book after the call, and whether the call was taken
abbrev pub writing : ReplyBook → Result ⊤ Full → Written
writing b r = record { taken = is_ok r; book = b }

-- an entry more, or nothing changes where there is no room
unfoldable pub added : ReplyBook → Reply → Written
added b r =
    cond (ltb b.held reply_entries)
    (record { taken = true; book = record { entries = set b.entries b.held r; held = b.held + 1 } })
    (record { taken = false; book = b })

-- a reply with the same PB and SB replaces the entry
abbrev pub written_at : Option ℕ → ReplyBook → Reply → Written
written_at (Some i) b r = record { taken = true; book = with_entry b i r }
written_at None b r = added b r

unfoldable pub written : ReplyBook → Reply → Written
written b r = written_at (entry_of b r.pb r.sb) b r

-- with no entry the answer has NN 0
abbrev pub load_at : Option ℕ → ReplyBook → Load
load_at (Some i) b = (entry_at b i).load
load_at None b = no_reply.load

unfoldable pub answer_for : ReplyBook → ℕ → ℕ → Load
answer_for b pb sb = load_at (entry_of b pb sb) b
