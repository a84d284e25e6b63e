-- Which transfers ended, and how, from the lines alone (02, E9). Lists of lines and of transfers are latest first. Assumes nothing.
use Rattle.std.specs.Prelude.{Bool, true, false, cond, List, [], ◌∷◌, ◌++◌, ℕ, ◌+◌, eqb, get_or}
use Rattle.address.specs.Master.{is_master}
use Rattle.station.specs.Events.{Word, owns, taken, failed, free, given, answer, Event}
use Rattle.pairs.specs.declared.Transfer.{Transfer}

abbrev pub is_owns : Word → Bool
is_owns owns = true
is_owns taken = false
is_owns failed = false
is_owns free = false
is_owns given = false
is_owns answer = false

abbrev pub is_taken_line : Word → Bool
is_taken_line owns = false
is_taken_line taken = true
is_taken_line failed = false
is_taken_line free = false
is_taken_line given = false
is_taken_line answer = false

abbrev pub is_free : Word → Bool
is_free owns = false
is_free taken = false
is_free failed = false
is_free free = true
is_free given = false
is_free answer = false

abbrev pub is_answer : Word → Bool
is_answer owns = false
is_answer taken = false
is_answer failed = false
is_answer free = false
is_answer given = false
is_answer answer = true

-- some lines in their order, each put in front of those before it
unfoldable pub in_front : List Event → List Event → List Event
in_front [] back = back
in_front (e ∷ es) back = in_front es (e ∷ back)

-- since its owns line this station had a line with such a word
unfoldable pub had_since : (Word → Bool) → ℕ → List Event → Bool
had_since such a [] = false
had_since such a (e ∷ back) =
    let earlier = had_since such a back in
    cond (eqb e.station a) (cond (is_owns e.word) false (cond (such e.word) true earlier)) earlier

-- neither a master, nor the broadcast, nor AA or A9
unfoldable pub is_slave_address : ℕ → Bool
is_slave_address zz = cond (is_master zz) false (cond (eqb zz 254) false (cond (eqb zz 170) false (cond (eqb zz 169) false true)))

-- its owner was told taken and, ZZ being a slave address, handed out an answer
unfoldable pub got_through : ℕ → ℕ → List Event → Bool
got_through a zz back =
    cond (had_since is_taken_line a back) (cond (is_slave_address zz) (had_since is_answer a back) true) false

-- the transfer that a free line ends, by the lines before it
unfoldable pub ended_at : Event → List Event → Transfer
ended_at e back =
    let zz = get_or e.leaving 1 0 in
    record { qq = get_or e.leaving 0 0; zz = zz; taken = got_through e.station zz back }

-- the transfers that ended in some lines; `earlier` are the lines from before the counts were cleared, if any were heard
unfoldable pub ended_in : List Event → List Event → List Transfer
ended_in [] earlier = []
ended_in (e ∷ back) earlier =
    let before = ended_in back earlier in
    cond (is_free e.word) (ended_at e (back ++ earlier) ∷ before) before

-- how many free lines there are
unfoldable pub free_lines : List Event → ℕ
free_lines [] = 0
free_lines (e ∷ back) = let n = free_lines back in cond (is_free e.word) (n + 1) n
