-- `station::station::Station::hear_reading` meets its contract.
use mathlib.Core.Bool.{Bool, true, false}
use mathlib.Core.Logic.{◌⊎◌, ⊎_elim}
use mathlib.Core.Path.{◌≡◌, refl, sym, ap, ◌∙◌}
use Prim.Native.Nat.{ℕ}
use borrow.Author.Tests.{ne_eqb}
use Rattle.wire.specs.Reader.{read_one}
use Rattle.wire.specs.declared.reader.Cursor.{Cursor}
use Rattle.wire.specs.declared.reader.Outcome.{Outcome}
use Rattle.wire.specs.declared.reader.Outcome.TheVariants.{Cut, NoMaster, Unusable, TooLong}
use Rattle.wire.specs.declared.reader.Step.{Step}
use Rattle.wire.specs.declared.part.Part.{Part}
use Rattle.station.specs.declared.phase.Attempt.{Attempt}
use Rattle.station.specs.declared.phase.Since.{Since}
use Rattle.station.specs.declared.read.Next.{Next}
use Rattle.station.specs.declared.station.Station.{Station}
use Rattle.station.specs.Addressed.{is_own}
use Rattle.station.specs.Admission.{since_next, bids, noted, withdrawn}
use Rattle.station.specs.declared.phase.Failure.TheVariants.{OverLong}
use Rattle.station.specs.Table.{reader_fails, reads_as, reads_step, reads, hear_bid, hear_reading}
use Rattle.station.specs.Turn.{with_access, with_part, goes}
use Rattle.station.proofs.station.Station.hear_reading.Goals as goal
use Rattle.station.proofs.station.Station.hear_reading.Goals.{then-bids+else-s-self, else-bids, in-More, in-Cut, in-BrokenPair, in-Whole}

-- who heard another symbol than its QQ reads, marked or not
bid-reads : (s u : Station) (symbol : ℕ) (cur : Cursor) (p : Part) (a : Attempt) (b m : Bool)
    → b ≡ bids s → b ≡ true → (symbol ≡ s.address → ⊥)
    → ((t : Station) → t.address ≡ s.address → with_access t t.admitted m t.since ≡ withdrawn t symbol)
    → u ≡ with_access s s.admitted m s.since
    → reads (noted u) symbol cur p a ≡ hear_reading (bids s) (noted s) symbol cur p a
unfolding noted hear_reading hear_bid
bid-reads s u symbol cur p a b m e taken ne marks f =
    ap (λ (q : Station). reads (noted q) symbol cur p a) f
    ∙ ap (λ (q : Station). reads q symbol cur p a) (marks (noted s) refl)
    ∙ sym (simp (← e, taken, ne_eqb symbol s.address ne))

-- everybody else reads
rest-reads : (s u : Station) (symbol : ℕ) (cur : Cursor) (p : Part) (a : Attempt) (b : Bool)
    → b ≡ bids s → b ≡ false → u ≡ s → reads (noted u) symbol cur p a ≡ hear_reading (bids s) (noted s) symbol cur p a
unfolding hear_reading
rest-reads s u symbol cur p a b e left f = simp (f, ← e, left)

-- the phase and what is told are what the outcome makes of every station that has read this ZZ, its own or not
abbrev GoesOn : Step → Bool → Next → Part → Attempt → Type 0
GoesOn t own n p a =
    (u : Station) → u.part.zz ≡ t.part.zz → is_own u t.part.zz ≡ own
    → goes u n.phase n.told ≡ reads_as t.outcome u t.cursor p a

goes-as : (u : Station) (cur : Cursor) (p : Part) (a : Attempt) (o q : Outcome) (n m : Next)
    → o ≡ q → n ≡ m → goes u m.phase m.told ≡ reads_as q u cur p a → goes u n.phase n.told ≡ reads_as o u cur p a
goes-as u cur p a o q n m f e g =
    ap (λ (x : Next). goes u x.phase x.told) e ∙ g ∙ ap (λ (x : Outcome). reads_as x u cur p a) (sym f)

-- the four outcomes with which the reading comes to nothing
nothing-as : (u : Station) (cur : Cursor) (p : Part) (a : Attempt) (o : Outcome) (n m : Next)
    → (o ≡ Cut) ⊎ ((o ≡ NoMaster) ⊎ ((o ≡ Unusable) ⊎ (o ≡ TooLong)))
    → n ≡ m → goes u m.phase m.told ≡ reader_fails p OverLong u → goes u n.phase n.told ≡ reads_as o u cur p a
nothing-as u cur p a o n m f e g =
    ⊎_elim (λ k. goes-as u cur p a o Cut n m k e g) (⊎_elim (λ k. goes-as u cur p a o NoMaster n m k e g)
    (⊎_elim (λ k. goes-as u cur p a o Unusable n m k e g) (λ k. goes-as u cur p a o TooLong n m k e g))) f

-- the station made once is the station that goes on
made : (s : Station) (symbol : ℕ) (cur : Cursor) (p : Part) (a : Attempt) (t : Step) (own : Bool) (n : Next) (since : Since)
    → t ≡ read_one cur s.part symbol → own ≡ is_own s t.part.zz
    → GoesOn t own n p a → since ≡ since_next s.since
    → goes (with_part (with_access s false s.marked since) t.part) n.phase n.told ≡ reads (noted s) symbol cur p a
unfolding noted is_own reads
made s symbol cur p a t own n since e o next f =
    ap (λ (q : Since). goes (with_part (with_access s false s.marked q) t.part) n.phase n.told) f
    ∙ next (with_part (noted s) t.part) refl (sym o)
    ∙ ap (λ (u : Step). reads_step u (noted s) p a) e

pub returns : goal.returns
unfolding goes
returns c =
    made c.if-bids.self _ _ _ _ _ _ _ _ c.read-step.ensures c.is_own-own.ensures
    (λ u z o. elim c.match-step.branch [
      | in-More w ↦ goes-as u _ _ _ _ _ _ _ w.in-More.is w.next-is (w.read_on-next.ensures u z o)
      | in-Cut w ↦ nothing-as u _ _ _ _ _ _ w.in-Cut.is w.next-is (w.lost-next.ensures u refl)
      | in-BrokenPair w ↦ goes-as u _ _ _ _ _ _ _ w.in-BrokenPair.is w.next-is (w.lost-next-in-BrokenPair.ensures u refl)
      | in-Whole w ↦ goes-as u _ _ _ _ _ _ _ w.in-Whole.is w.next-is (w.whole-next.ensures u z)
    ])
    c.next.ensures
    ∙ elim c.if-bids.branch [
      | then-bids+else-s-self w ↦ bid-reads _ _ _ _ _ _ _ _ c.bids.ensures w.if-bids.true w.if-s-self.false w.marks.ensures w.self-is
      | else-bids w ↦ rest-reads _ _ _ _ _ _ _ c.bids.ensures w.if-bids.false w.self-is
    ]
