-- How many entries the reply book has. Assumes nothing.
use Prim.Native.Nat.{◌≤◌}
use Rattle.laws.proofs.AtMost.{at_most_room}
use Rattle.station.specs.declared.replies.ReplyBook.{ReplyBook}
use Rattle.station.specs.Replies.{reply_entries, count_in}

pub count_fits : (b : ReplyBook) → count_in b ≤ reply_entries
unfolding count_in
count_fits b = at_most_room b.held reply_entries
