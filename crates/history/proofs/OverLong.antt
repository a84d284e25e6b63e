-- An NN above 16 gets no reply (02, E3; 000, 5.8), by what is heard, after any calls from power-on: no station says anything behind it
-- until the next AA, and none hands anything out; in an answer the owner is told failed 5, sends AA in the next slot and leaves in it.
-- Assumes nothing.
use mathlib.Core.Path.{◌≡◌, refl, ap, subst, ◌∙◌}
use mathlib.Core.Logic.{◌≢◌}
use mathlib.Core.Bool.{Bool}
use mathlib.Core.List.{List, [], ◌∷◌, ◌++◌}
use mathlib.Core.Option.{none}
use Prim.Native.Nat.{ℕ, ◌<◌}
use borrow.Author.Tests.{ne_eqb}
use lib.ListN.{get_or}
use Rattle.wire.specs.declared.part.Telegram.{Telegram}
use Rattle.wire.proofs.SymbolKind.{clash}
use Rattle.station.specs.declared.phase.Sound.{Sound}
use Rattle.station.specs.declared.phase.Sound.TheVariants.{Quiet, Symbol}
use Rattle.bus.specs.declared.bus.Bus.{Bus}
use Rattle.bus.specs.Bus.{powered_on, attached_to, turn_at}
use Rattle.bus.specs.Slot.{said_by, generator_says, spoken, slot_heard}
use Rattle.promises.specs.Calls.{Call, heard, after_call, after_calls, ByteCalls}
use Rattle.promises.proofs.Shared.Seats.{attached_slot}
use Rattle.promises.proofs.Shared.Uses.{calls_append, bytes_append}
use Rattle.promises.proofs.Silence.{silent_word}
use Rattle.history.specs.Moments.{Moment, History}
use Rattle.history.specs.Held.{Who}
use Rattle.history.specs.Seen.{Known, unknown, moment_in, known_call, known_calls, known, seen, station_by, nobody}
use Rattle.history.specs.Share.{Time, station, asker, Share, reads}
use Rattle.history.specs.Share as share
use Rattle.history.specs.SinceAa.{since_aa}
use Rattle.history.specs.Observer.{silence, free, failed, report_of, share_of}
use Rattle.history.proofs.FullNow.{full_now}
use Rattle.history.proofs.OverLongShare.{answer_too_long, long_over, part_over, answer_releases}
use Rattle.history.proofs.SaysWhen.{syn_exactly_when, over_says}
use Rattle.history.proofs.Sentences.{told_in}
use Rattle.history.proofs.SinceAa.{seen_symbols}

-- it says nothing, and whatever all hear in the slot, it is told nothing
pub record Mute (b : Bus) (i : ℕ) : Type 0 where
  pub says : said_by (turn_at b i) ≡ Quiet
  pub told : (h : Sound) → report_of (turn_at (slot_heard b h) i).told ≡ silence

module _ (cs : List Call) (bytes : ByteCalls cs) where
  abbrev bus : Bus
  bus = after_calls powered_on cs

  module _ (i : ℕ) (attached : i < attached_to bus) where
    abbrev its : Who
    its = station_by i cs

    abbrev g : History
    g = seen i cs

    -- its share of the transfer, from the slots since the last AA
    abbrev share_in : List Moment → Share
    share_in ms = share_of its.address its.master (record { earlier = g.earlier; now = ms })

    mute : share_in g.now ≡ share.over → Mute bus i
    mute e =
        record {
          says = over_says cs bytes i attached e;
          told = told_in cs bytes i attached e (λ j. clash (cc));
        }

    -- the fifth symbol since the last AA is above 16: whoever sent it and whoever it was for, it is mute until the next AA
    pub over_long_mutes : {q z p s n : ℕ} {rest : List ℕ} → since_aa cs ≡ q ∷ z ∷ p ∷ s ∷ n ∷ rest → 16 < n → Mute bus i
    unfolding share_of
    over_long_mutes e l = mute (long_over its.address its.master g.earlier g.now (full_now i cs) (seen_symbols i cs ∙ e) l)

    -- the NN of a part that it read since the last AA, the first time or again, was above 16: it is mute until the next AA
    pub over_long_read_mutes : (ms ns : List Moment) (x : Moment) {a : ℕ} {m : Bool} {t : Time} {q z p s n : ℕ} → g.now ≡ ms ++ (x ∷ ns)
        → share_in ms ≡ reads (station a m) t (q ∷ z ∷ p ∷ s ∷ []) → x.heard ≡ Symbol n → 16 < n → Mute bus i
    unfolding share_of
    over_long_read_mutes ms ns x e r h l =
        mute (ap share_in e ∙ part_over its.address its.master g.earlier ms ns x r h l)

  -- then all hear the generator alone
  pub over_long_then_generator : {q z p s n : ℕ} {rest : List ℕ} → since_aa cs ≡ q ∷ z ∷ p ∷ s ∷ n ∷ rest → 16 < n → spoken bus ≡ generator_says bus.quiet
  over_long_then_generator e l = silent_word bus (λ i attached. (over_long_mutes i attached e l).says)

-- ---- in an answer

-- told failed 5 in this slot; in the next it sends AA and leaves, whatever is heard
pub record Fails5 (b : Bus) (i n : ℕ) : Type 0 where
  pub fails : report_of (turn_at (slot_heard b (Symbol n)) i).told ≡ failed 5 none
  pub sends : said_by (turn_at (slot_heard b (Symbol n)) i) ≡ Symbol 0xAA
  pub leaves : (h : Sound) → report_of (turn_at (slot_heard (slot_heard b (Symbol n)) h) i).told ≡ free

known_append : (i : ℕ) (b : Bus) (k : Known) (cs ds : List Call) → known_calls i b k (cs ++ ds) ≡ known_calls i (after_calls b cs) (known_calls i b k cs) ds
unfolding known_calls after_calls
known_append i b k [] ds = refl
known_append i b k (c ∷ cs) ds = known_append i (after_call b c) (known_call i b k c) cs ds

-- the owner reads an answer, the first time or again, and its NN is above 16
module _ (cs : List Call) (bytes : ByteCalls cs) (i : ℕ) (attached : i < attached_to (after_calls powered_on cs)) {n : ℕ} (byte : n < 256) (clear : n ≢ 0xAA) where
  abbrev before : Bus
  before = after_calls powered_on cs

  -- with the slot in which NN is heard
  abbrev ds : List Call
  ds = cs ++ (heard (Symbol n) ∷ [])

  ds_bytes : ByteCalls ds
  ds_bytes = bytes_append cs (heard (Symbol n) ∷ []) bytes (byte, tt)

  after_ds : after_calls powered_on ds ≡ slot_heard before (Symbol n)
  unfolding after_calls
  after_ds = calls_append powered_on cs (heard (Symbol n) ∷ [])

  known_ds : known i ds ≡ known_call i before (known i cs) (heard (Symbol n))
  unfolding known_calls
  known_ds = known_append i powered_on unknown cs (heard (Symbol n) ∷ [])

  attached_ds : i < attached_to (after_calls powered_on ds)
  attached_ds = rw (after_ds, attached_slot before (Symbol n)) attached

  pub over_long_answer : {u : Telegram} {t : Time} → share_of (station_by i cs).address (station_by i cs).master (seen i cs) ≡ reads (asker u) t [] → 16 < n
      → Fails5 before i n
  unfolding share_of
  over_long_answer e l =
      record {
        fails = told_in cs bytes i attached e (λ j. clash (cc)) (Symbol n) ∙ rw (ne_eqb n 0xAA clear, answer_too_long l);
        sends = subst (λ (b : Bus). said_by (turn_at b i) ≡ Symbol 0xAA) after_ds ((syn_exactly_when ds ds_bytes i attached_ds).1 share_ds);
        leaves = λ h. subst (λ (b : Bus). report_of (turn_at (slot_heard b h) i).told ≡ free) after_ds (told_in ds ds_bytes i attached_ds share_ds (λ j. clash (cc)) h);
      }
    where
      share_ds : share_of (station_by i ds).address (station_by i ds).master (seen i ds) ≡ share.releases
      share_ds =
          ap (λ (k : Known). share_of (get_or k.attached i nobody).address (get_or k.attached i nobody).master k.history) known_ds
          ∙ rw (ne_eqb n 0xAA clear) (answer_releases (station_by i cs).address (station_by i cs).master (seen i cs).earlier (seen i cs).now (moment_in (known i cs) (Symbol n)) e refl l)
