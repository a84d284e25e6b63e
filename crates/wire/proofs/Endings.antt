-- How a step can end: the reading goes on, or it is over with cursor and part as they were; AA cuts it, and nothing else does.
-- Assumes nothing.
use Rattle.std.proofs.Common.{◌≡◌, ℕ, Bool, true, false, cond, eqb, ltb, ◌≢◌, ◌↔◌, length, refl, ap, arith, length-set}
use Rattle.address.specs.Master.{is_master}
use Rattle.wire.specs.Pair.{undo}
use Rattle.wire.specs.Reader.{ended, more, read_qq, read_nn, read_byte, data_as, read_data, crc_as, read_crc, read_head, read_at, read_place, read_as, read_one}
use Rattle.wire.specs.Symbol.{is_escape, is_count}
use Rattle.wire.specs.declared.symbol.Kind.{Kind}
use Rattle.wire.specs.declared.symbol.Kind.TheVariants.{Escape, Count, Plain}
use Rattle.wire.specs.declared.pair.Undone.{Undone}
use Rattle.wire.specs.declared.pair.Undone.TheVariants.{Byte, Opens, Ends, Broken}
use Rattle.wire.specs.declared.pair.WrongPair.{WrongPair}
use Rattle.wire.specs.declared.part.Telegram.{Telegram}
use Rattle.wire.specs.declared.reader.Place.{Place}
use Rattle.wire.specs.declared.reader.Place.TheVariants.{Qq, Zz, Pb, Sb, Nn, Data, Crc}
use Rattle.wire.specs.declared.reader.Cursor.{Cursor}
use Rattle.wire.specs.declared.reader.Outcome.{Outcome}
use Rattle.wire.specs.declared.reader.Outcome.TheVariants.{More, Cut, NoMaster, Unusable, TooLong, BrokenPair, Whole}
use Rattle.wire.specs.declared.reader.Step.{Step}
use Rattle.wire.proofs.Pairs.{undo_ends}
use Rattle.wire.proofs.SymbolKind.{by_kind, clash, kind_syn}

-- a step on any symbol but AA: the reading goes on, the part's array as long as before, or it is over and all stays as it was
data Went (c : Cursor) (p : Telegram) : Step → Type 0 where
  on : (c' : Cursor) (p' : Telegram) → length p'.load.bytes ≡ length p.load.bytes → Went c p (more c' p')
  over : (o : Outcome) → o ≢ More → o ≢ Cut → Went c p (ended c p o)

went_if : {c : Cursor} {p : Telegram} (b : Bool) (x y : Step) → Went c p x → Went c p y → Went c p (cond b x y)
went_if true x y f g = f
went_if false x y f g = g

module _ (c : Cursor) (p : Telegram) (s : ℕ) where
  no_master : Went c p (ended c p NoMaster)
  no_master = over NoMaster (λ e. clash (cc)) (λ e. clash (cc))

  unusable : Went c p (ended c p Unusable)
  unusable = over Unusable (λ e. clash (cc)) (λ e. clash (cc))

  too_long : Went c p (ended c p TooLong)
  too_long = over TooLong (λ e. clash (cc)) (λ e. clash (cc))

  broken : (x : WrongPair) → Went c p (ended c p (BrokenPair x))
  broken x = over (BrokenPair x) (λ e. clash (cc)) (λ e. clash (cc))

  module _ (not_syn : s ≢ 0xAA) where
    data_went : (read : ℕ) (u : Undone) → undo c.opened c.at s ≡ u → Went c p (data_as u c p read s)
    unfolding read_byte
    data_went read (Byte b) e = went_if (ltb read 16) _ _ (on _ _ (length-set p.load.bytes read b)) too_long
    data_went read Opens e = on _ p refl
    data_went read Ends e = absurd (not_syn ((undo_ends c.opened c.at s).0 e))
    data_went read (Broken x) e = broken x

    crc_went : (u : Undone) → undo c.opened c.at s ≡ u → Went c p (crc_as u c p)
    crc_went (Byte b) e = over (Whole (eqb b c.register)) (λ e. clash (cc)) (λ e. clash (cc))
    crc_went Opens e = on _ p refl
    crc_went Ends e = absurd (not_syn ((undo_ends c.opened c.at s).0 e))
    crc_went (Broken x) e = broken x

    place_went : (k : Kind) (place : Place) → Went c p (read_at place c p s k)
    unfolding read_data read_crc read_qq read_head read_nn
    place_went k Qq = went_if (is_master s) _ _ (on _ _ refl) no_master
    place_went k Zz = went_if (is_escape k) _ _ unusable (on _ _ refl)
    place_went k Pb = went_if (is_escape k) _ _ unusable (on _ _ refl)
    place_went k Sb = went_if (is_escape k) _ _ unusable (on _ _ refl)
    place_went k Nn = went_if (is_count k) _ _ (on _ _ refl) too_long
    place_went k (Data read) = data_went read (undo c.opened c.at s) refl
    place_went k Crc = crc_went (undo c.opened c.at s) refl

  -- every step, AA's too
  by_step : (P : Step → Type 0) → (s ≡ 0xAA → P (ended c p Cut)) → ((r : Step) → Went c p r → P r) → P (read_one c p s)
  unfolding read_one read_place
  by_step P cut f =
      by_kind (λ k. P (read_as k c p s)) s cut (λ h. f _ (place_went (omega arith) Escape c.place))
      (λ h. f _ (place_went (omega arith) Count c.place)) (λ a b h. f _ (place_went a Plain c.place))

uncut : {c : Cursor} {p : Telegram} (r : Step) → Went c p r → r.outcome ≢ Cut
unfolding more ended
uncut r (on c' p' l) e = absurd (clash (cc))
uncut r (over o m n) e = n e

stays : {c : Cursor} {p : Telegram} (r : Step) → Went c p r → r.outcome ≢ More → (r.cursor ≡ c) × (r.part ≡ p)
unfolding more ended
stays r (on c' p' l) n = absurd (n refl)
stays r (over o m n) f = (refl, refl)

keeps : {c : Cursor} {p : Telegram} (r : Step) → Went c p r → length r.part.load.bytes ≡ length p.load.bytes
unfolding more ended
keeps r (on c' p' l) = l
keeps r (over o m n) = refl

module _ (c : Cursor) (p : Telegram) (s : ℕ) where
  -- Cut comes exactly on AA
  pub cut_on_syn : (read_one c p s).outcome ≡ Cut ↔ s ≡ 0xAA
  unfolding read_one ended
  cut_on_syn = (
    by_step c p s (λ r. r.outcome ≡ Cut → s ≡ 0xAA) (λ h e. h) (λ r w e. absurd (uncut r w e)),
    λ e. ap (λ (k : Kind). (read_as k c p s).outcome) ((kind_syn s).1 e),
  )

  -- an outcome other than More leaves cursor and part as they were
  pub ended_stays : (read_one c p s).outcome ≢ More → ((read_one c p s).cursor ≡ c) × ((read_one c p s).part ≡ p)
  unfolding ended
  ended_stays = by_step c p s (λ r. r.outcome ≢ More → (r.cursor ≡ c) × (r.part ≡ p)) (λ h n. (refl, refl)) stays

  -- whatever the outcome, the part's array is as long as before
  pub array_kept : length (read_one c p s).part.load.bytes ≡ length p.load.bytes
  unfolding ended
  array_kept = by_step c p s (λ r. length r.part.load.bytes ≡ length p.load.bytes) (λ h. refl) keeps
